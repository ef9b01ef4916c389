use mathlib.Core.Path.{◌≡◌}
use Prim.Native.Nat.{◌+◌, ◌-◌}
use native.Mathlib.Omega.{arith}
use Rattle.machine.proofs.Blocks.{place_end}
use Rattle.machine.specs.Numbers.{capacity}
use Rattle.layout.proofs.Places.{put-over}
use Rattle.layout.proofs.put_payload.Goals as goal

pub slice_bounds-fill-end : goal.slice_bounds-fill-end
slice_bounds-fill-end c =
    omega (arith, place_end c.args.b c.requires.0)

pub returns : goal.returns
returns c =
    let at = c.place_of-at in
    let cap = c.capacity_of in
    let n : at.result + cap.result - at.result ≡ capacity c.args.b = omega (arith, cap.ensures.0) in
    put-over c.args.b at.result (at.result + cap.result - at.result) c.args.payloads.now c.args.payload.now _ c.requires.0 c.requires.1 at.ensures.0 n c.fill.ensures
