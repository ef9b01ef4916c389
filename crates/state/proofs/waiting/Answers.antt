use mathlib.Core.List.{[]}
use mathlib.Core.Path.{refl}
use Prim.Native.Nat.{◌≤◌}
use native.Mathlib.Omega.{arith}
use lib.ListN.{length, get_or-eq_default}
use Rattle.mail.specs.View.{boxes, boxes-length, boxes_at, no_ring}
use Rattle.state.proofs.waiting.Goals as goal

pub returns-in-Some : goal.returns-in-Some
returns-in-Some c = rw (c.len.ensures, boxes_at, ← c.in-Some.ensures.lookup.4 (omega arith) no_ring) refl

pub returns-in-None : goal.returns-in-None
returns-in-None c =
    let rings = c.args.rings.now in
    let past : length (boxes rings) ≤ c.args.q = omega (arith, boxes-length rings, c.in-None.ensures.lookup.3) in
    rw (get_or-eq_default (boxes rings) [] past) refl
