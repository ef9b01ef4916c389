use mathlib.Core.Path.{◌≡◌, refl, sym, ◌∙◌}
use Prim.Native.Nat.{◌+◌}
use native.Mathlib.Omega.{arith}
use lib.ListN.{drop}
use lib.Seq.{get_or-drop, get_or-take}
use Rattle.chart.specs.Flat.{answer_of}
use Rattle.chart.specs.Held.{answer_at}
use Rattle.chart.specs.Numbers.{row_size}
use Rattle.drain.proofs.next_rest.Goals as goal

pub bounds-table-at : goal.bounds-table-at
bounds-table-at c = omega (arith, (c.requires _ c.in-Taken.is).within)

pub returns-in-Taken : goal.returns-in-Taken
unfolding answer_at answer_of
returns-in-Taken c =
    let t = c.args.table.now in
    let at = c.in-Taken.at in
    let z : at + 0 ≡ at = omega arith in
    rw c.in-Taken.is (sym (get_or-take row_size (drop at t) 0 0 (omega arith) ∙ get_or-drop at t 0 0 ∙ rw z refl))
