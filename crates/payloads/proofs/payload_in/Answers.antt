use mathlib.Core.Path.{◌≡◌, refl}
use Prim.Native.Nat.{◌+◌, ◌-◌}
use native.Mathlib.Omega.{arith}
use lib.ListN.{get_or}
use Rattle.machine.specs.Events.{payload_of}
use Rattle.state.specs.View.{state_of}
use Rattle.payloads.proofs.payload_in.Goals as goal

pub returns : goal.returns
unfolding payload_of state_of
returns c =
    let a = c.args in
    let p = c.part_of-place in
    let e : p.result.place + p.result.length - p.result.place ≡ get_or a.k.now.sizes a.b 0 = omega (arith, p.ensures.1) in
    rw (e, p.ensures.0) refl
