use mathlib.Core.Path.{◌≡◌}
use native.Mathlib.Omega.{arith}
use lib.ListN.{drop, length-drop, take}
use lib.Seq.{take_all}
use Rattle.machine.specs.Machine.{choose, command}
use Rattle.machine.specs.Numbers.{most_bytes}
use Rattle.payloads.proofs.records.new_command.Goals as goal

pub returns : goal.returns
unfolding choose command
returns c =
    let r = c.args.«record».now in
    let w : take most_bytes (drop 8 r) ≡ drop 8 r = take_all most_bytes (drop 8 r) (omega (arith, length-drop 8 r, c.requires.record_len)) in
    λ d t u l. rw c.said.ensures (rw (c.spoilt_new.ensures, c.arg.ensures.0, c.byte_at.ensures, c.byte_at-2.ensures, w) at (c.new.ensures t u l))
