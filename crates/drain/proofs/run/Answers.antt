use borrow.Author.Tests.{eqb-true, eqb-false}
use mathlib.Core.Path.{◌≡◌, refl, sym, ◌∙◌}
use Prim.Native.Nat.{◌-◌}
use native.Mathlib.Omega.{arith}
use Rattle.machine.proofs.Run.{run_stop}
use Rattle.mail.specs.View.{boxes, boxes_at, boxes-length}
use Rattle.drain.specs.Lent.{flags_of, run_at, seen_of, tables_of}
use Rattle.drain.proofs.Laws.{above_all, above_below, none_is, none_queued}
use Rattle.drain.proofs.run.Goals as goal

pub loop-p-init : goal.loop-p-init
loop-p-init c =
    let z : c.args.budget - 0 ≡ c.args.budget = omega arith in
    record {
      within = omega arith;
      sized = c.requires.sized.0;
      fit = c.requires.fit_run;
      above = above_all (boxes c.args.mail.now) 16 (omega (arith, boxes-length c.args.mail.now, c.told-mail));
      same = rw z refl;
    }

pub turn-n-requires : goal.turn-n-requires
turn-n-requires c =
    let v = c.loop-p.invariant in
    record {
      sized = v.sized;
      long = c.requires.sized.1;
      long_guarded = c.requires.sized.2;
      most = c.requires.sized.3;
      within = v.within;
      low = c.loop-p-test.true;
      high = c.loop-p.auto.p;
      above = v.above;
      fit = v.fit;
    }

pub returns-then-not-is_empty : goal.returns-then-not-is_empty
returns-then-not-is_empty c =
    let o = c.turn-n.ensures in
    let mail = rw (c.is_empty.ensures, ← boxes_at c.turn-n.new.mail (c.loop-p.p - 1)) at c.if-not-is_empty.true in
    (o.sized, sym (o.ended (eqb-false _ _ mail)) ∙ o.same ∙ c.loop-p.invariant.same)

pub loop-p-preserved : goal.loop-p-preserved
loop-p-preserved c =
    let o = c.turn-n.ensures in
    let none = rw (c.is_empty.ensures, ← boxes_at c.turn-n.new.mail (c.loop-p.p - 1)) at c.if-not-is_empty.false in
    record {
      within = o.within;
      sized = o.sized;
      fit = o.fit;
      above = above_below _ _ o.above (eqb-true _ _ none);
      same = o.same ∙ c.loop-p.invariant.same;
    }

pub returns : goal.returns
returns c =
    let f = c.args.fixed in
    let v = c.loop-p.invariant in
    let x = run_at (boxes c.loop-p.mail) c.loop-p.rests c.loop-p.times c.loop-p.log c.loop-p.n in
    let z : c.loop-p.p ≡ 0 = omega (arith, c.loop-p-test.false) in
    let i = none_queued (seen_of f x) (tables_of f) 0 (none_is x.boxes (rw z at v.above)) refl in
    (v.sized, sym (run_stop f.gens.now f.signals.now f.seats.now (flags_of f) (tables_of f) x (c.args.budget - c.loop-p.n) (λ y. omega (arith, i))) ∙ v.same)
