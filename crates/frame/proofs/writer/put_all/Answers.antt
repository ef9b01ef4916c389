use Rattle.std.proofs.Common.{◌≡◌, length, drop, refl, arith}
use Rattle.frame.specs.Wire.{sent_all}
use Rattle.frame.proofs.Sending.{size_turn, sent-end, put-turn, put-end}
use Rattle.frame.proofs.writer.put_all.Goals as goal

pub loop-b-init : goal.loop-b-init
loop-b-init c = (refl, refl)

pub put-next-requires : goal.put-next-requires
put-next-requires c =
    let l = c.loop-b in
    omega (arith, size_turn c.args.bytes.now l.b-index c.loop-b-test.true, l.invariant.0, c.requires)

pub loop-b-preserved : goal.loop-b-preserved
loop-b-preserved c =
    let l = c.loop-b in
    let d = c.args.bytes.now in
    let t = c.loop-b-test.true in
    let p = c.put-next.ensures in
    (omega (arith, size_turn d l.b-index t, l.invariant.0, p.place), put-turn d l.b-index _ _ _ l.invariant.1 _ _ t p)

pub returns : goal.returns
returns c =
    let l = c.loop-b in
    let d = c.args.bytes.now in
    let t = c.loop-b-test.false in
    let e : length (sent_all (drop l.b-index d)) ≡ 0 = rw (sent-end d l.b-index t) refl in
    record { place = omega (arith, e, l.invariant.0); sized = l.auto.out; area_is = put-end d l.b-index _ _ _ l.invariant.1 t }
