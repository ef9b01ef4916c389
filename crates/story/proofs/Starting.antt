-- What a START was that was done.
use mathlib.Core.Bool.{false}
use mathlib.Core.Path.{◌≡◌, refl}
use Prim.Native.Nat.{◌≤◌, ◌<◌}
use native.Mathlib.Omega.{arith}
use borrow.Author.Tests.{eqb-true, not-false}
use lib.ListN.{get_or}
use Rattle.chart.specs.Flat.{answer_of}
use Rattle.machine.proofs.Tests.{none_holds, within_low, within_high}
use Rattle.machine.specs.Charts.{start_row, start_tests, started_at}
use Rattle.machine.specs.Machine.{spoilt}
use Rattle.machine.specs.Numbers.{objects, slots}
use Rattle.machine.specs.Reply.{ran, answer}
use Rattle.machine.specs.State.{started}
use Rattle.story.specs.Calls.{Call, Story, kernel, answer_in}
use Rattle.story.specs.Table.{START}
use Rattle.story.specs.Terms.{argument, Did}
use Rattle.story.proofs.Lent.{WholeFor, whole_for}
use Rattle.story.proofs.Made.{start_made}

pub record Started (h : Story) (c : Call) : Type 0 where
  pub whole : WholeFor (argument c 2) c.areas.tables
  pub low : 1 ≤ argument c 1
  pub high : argument c 1 ≤ objects
  pub is-slot : argument c 2 < slots
  pub on : get_or (kernel h).loaded (argument c 2) 0 ≡ 1
  pub new : started (kernel h) (argument c 1) ≡ false
  pub is :
      let a = answer_of (start_row c.areas.tables (argument c 2)) in
      answer_in h c ≡ answer (started_at (kernel h) (argument c 1) (argument c 2) (argument c 3) a.next) (ran (argument c 1) 0 0 0 a) c.areas

pub start_did : (h : Story) (c : Call) → Did START h c → Started h c
unfolding start_tests
start_did h c did =
    let m = start_made (kernel h) c.command c.chart c.areas did.1 did.0 in
    let n = none_holds (start_tests (spoilt 3 c.command) (argument c 1) (argument c 2) (argument c 3) (kernel h) c.areas.tables) refl m.none in
    record {
      whole = whole_for (argument c 2) c.areas.tables n.1.0 n.1.1.0;
      low = within_low 1 objects (argument c 1) n.1.1.1.0;
      high = within_high 1 objects (argument c 1) n.1.1.1.0;
      is-slot = omega (arith, within_high 0 4 (argument c 2) n.1.1.1.1.0);
      on = eqb-true _ 1 (not-false _ n.1.1.1.1.1.1.1.0);
      new = n.1.1.1.1.1.1.1.1.0;
      is = m.is;
    }
