use mathlib.Core.Path.{refl, sym, ◌∙◌}
use native.Mathlib.Numerals.{add-one}
use native.Mathlib.Omega.{arith}
use lib.ListN.{length, length-set}
use lib.Seq.{take-suc-set, take-suc, take_all}
use Prim.Native.Nat.{◌<◌}
use Rattle.ground.specs.Bytes.{padded}
use Rattle.ground.specs.Padding.{length-padded, get_or-padded}
use Rattle.ground.proofs.fill.Goals as goal

pub loop-i-preserved : goal.loop-i-preserved
loop-i-preserved c =
    let l = c.loop-i in
    let a = c.args in
    let k = length a.dst.now in
    let p = padded k a.src.now in
    let h : l.i < length l.dst = omega (arith, l.invariant.0, c.loop-i-test.true) in
    let n : l.i < length p = omega (arith, length-padded k a.src.now, c.loop-i-test.true) in (
      simp length-set l.invariant.0,
      rw (add-one, take-suc-set l.dst l.i _ h, take-suc p l.i 0 n, l.invariant.1, c.byte_at.ensures, get_or-padded k a.src.now l.i c.loop-i-test.true) refl,
    )

pub returns : goal.returns
returns c =
    let l = c.loop-i in
    let a = c.args in
    let p = padded (length a.dst.now) a.src.now in
    sym (take_all l.i l.dst (omega (arith, l.invariant.0, c.loop-i-test.false)))
    ∙ l.invariant.1
    ∙ take_all l.i p (omega (arith, length-padded (length a.dst.now) a.src.now, c.loop-i-test.false))
