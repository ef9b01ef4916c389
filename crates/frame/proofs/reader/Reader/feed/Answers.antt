use Rattle.std.proofs.Common.{◌≡◌, length, sym, refl, ◌∙◌, arith}
use Rattle.frame.specs.View.{frames_told, Tells}
use Rattle.frame.proofs.Feeding.{told_alike, told_one, told_none, so_far_start, so_far_turn, so_far_frame, so_far_end}
use Rattle.frame.proofs.reader.Reader.feed.Goals as goal

pub loop-i-init : goal.loop-i-init
loop-i-init c = (rw c.part-part.ensures.part (so_far_start _ _), c.part-part.ensures.most)

pub returns-then-is_some-clause-feeds : goal.returns-then-is_some-clause-feeds
returns-then-is_some-clause-feeds c =
    let l = c.loop-i in
    let e = c.step-frame.ensures in
    let k = c.keep.ensures in
    so_far_frame _ _ l.i _ l.invariant.0 c.loop-i-test.true _ (k.state ∙ e.then) _ (told_alike _ _ _ k.bytes ∙ e.handed) (told_one _ _ (sym c.if-is_some.ensures))

pub returns-then-is_some-clause-within : goal.returns-then-is_some-clause-within
returns-then-is_some-clause-within c =
    let t = c.loop-i-test.true in
    let s = c.step-frame in
    let k = c.keep in
    record { most = omega (arith, t); onward = λ h. omega arith; rest = rw (told_alike k.new.self s.new.self s.result k.ensures.bytes) s.ensures.told }

pub loop-i-preserved : goal.loop-i-preserved
loop-i-preserved c =
    let l = c.loop-i in
    let e = c.step-frame.ensures in
    (so_far_turn _ _ l.i _ l.invariant.0 c.loop-i-test.true _ e.then _ e.handed (told_none _ _ (sym c.if-is_some.ensures)), e.most)

pub returns-clause-feeds : goal.returns-clause-feeds
unfolding frames_told
returns-clause-feeds c =
    let e : c.loop-i.i ≡ length c.args.piece.now = omega arith in
    rw c.keep-2.ensures.state (so_far_end _ _ _ (rw e at c.loop-i.invariant.0))

pub returns-clause-within : goal.returns-clause-within
unfolding frames_told Tells
returns-clause-within c = record { most = omega arith; onward = λ h. h; rest = refl }
