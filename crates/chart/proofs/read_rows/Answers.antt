use borrow.Author.Rules.{rules}
use mathlib.Core.Path.{◌≡◌, sym, ◌∙◌}
use Prim.Native.Nat.{◌+◌, ◌*◌}
use native.Mathlib.Omega.{arith}
use Rattle.chart.specs.Flags.{in_words}
use Rattle.chart.specs.Numbers.{Guarded, each, row_size}
use Rattle.chart.proofs.Found.{row_cut, turn_done, turn-next, turn-taken, turn-unsound, turn-zeros}
use Rattle.chart.proofs.OneRow.{sound-is}
use Rattle.chart.proofs.read_rows.Goals as goal

pub returns-then-blank_from : goal.returns-then-blank_from
returns-then-blank_from c =
    let t = c.args.table.now in
    let i = c.loop-i.i in
    let place = c.args.at + row_size * i in
    sym (turn-zeros (in_words c.args.flags.now c.args.p) t place _ (row_cut t place) i (each Guarded) (search rules) (sym c.blank_from.ensures ∙ c.if-blank_from.true)) ∙ c.loop-i.invariant

pub returns-then-not-sound : goal.returns-then-not-sound
returns-then-not-sound c =
    let t = c.args.table.now in
    let i = c.loop-i.i in
    let place = c.args.at + row_size * i in
    let z = sym c.blank_from.ensures ∙ c.if-blank_from.false in
    sym (turn-unsound (in_words c.args.flags.now c.args.p) t place _ (row_cut t place) i (each Guarded) (search rules) z (sym c.sound.ensures ∙ c.if-not-sound.true)) ∙ c.loop-i.invariant

-- a sound row has one of the flags
pub is_open-requires : goal.is_open-requires
is_open-requires c = (c.requires.0, (sound-is Guarded _ (sym c.sound.ensures ∙ c.if-not-sound.false)).flag)

pub returns-then-is_open : goal.returns-then-is_open
returns-then-is_open c =
    let t = c.args.table.now in
    let i = c.loop-i.i in
    let place = c.args.at + row_size * i in
    let z = sym c.blank_from.ensures ∙ c.if-blank_from.false in
    let s = sym c.sound.ensures ∙ c.if-not-sound.false in
    sym (turn-taken (in_words c.args.flags.now c.args.p) t place _ (row_cut t place) i (each Guarded) (search rules) z s (sym c.is_open.ensures ∙ c.if-is_open.true)) ∙ c.loop-i.invariant

pub loop-i-preserved : goal.loop-i-preserved
loop-i-preserved c =
    let t = c.args.table.now in
    let i = c.loop-i.i in
    let place = c.args.at + row_size * i in
    let z = sym c.blank_from.ensures ∙ c.if-blank_from.false in
    let s = sym c.sound.ensures ∙ c.if-not-sound.false in
    let next : c.args.at + row_size * (i + 1) ≡ place + row_size = omega arith in
    rw next
    (sym (turn-next (in_words c.args.flags.now c.args.p) t place _ (row_cut t place) i (each Guarded) (search rules) z s (sym c.is_open.ensures ∙ c.if-is_open.false)) ∙ c.loop-i.invariant)

pub returns : goal.returns
returns c =
    let i = c.loop-i.i in
    sym (turn_done (in_words c.args.flags.now c.args.p) c.args.table.now (c.args.at + row_size * i) i (each Guarded) (search rules)) ∙ c.loop-i.invariant
