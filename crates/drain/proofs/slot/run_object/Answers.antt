use mathlib.Core.List.{[]}
use mathlib.Core.Path.{◌≡◌, refl, sym, ap, ◌∙◌}
use Prim.Native.Nat.{◌+◌, ◌-◌}
use native.Mathlib.Omega.{arith}
use lib.ListN.{get_or, length}
use Rattle.machine.specs.Charts.{slot_table}
use Rattle.mail.specs.View.{boxes, boxes_at, first_taken}
use Rattle.drain.specs.Lent.{tables_of}
use Rattle.drain.proofs.Loop.{amid_first, amid_on, back-at-end, back_where_unsound, found-lies, is-event, left, rows-here, runs_here}
use Rattle.drain.proofs.slot.run_object.Given.{Over}
use Rattle.drain.proofs.slot.run_object.Goals as goal
use Rattle.drain.proofs.slot.run_object.Goals.{After-entry, After-table_of-table}

-- The table is that of the object's slot.
table_is : (g : Over) (c : After-table_of-table g) → c.table_of-table.result.now ≡ slot_table (tables_of c.args.fixed) (get_or c.args.fixed.seats.now (c.args.p - 1) 0)
table_is g c = c.table_of-table.ensures ∙ ap (slot_table _) c.from.ensures

-- The entry is the next of the object's.
entry_is : (g : Over) (c : After-entry g) → c.entry.result ≡ get_or (get_or (boxes c.loop-n.mail) (c.args.p - 1) []) (c.loop-n.n - c.args.from) 0
entry_is g c = c.entry.ensures ∙ rw (boxes_at c.loop-n.mail (c.args.p - 1)) refl

pub loop-n-init : goal.loop-n-init
loop-n-init g c = amid_first _ _ _ _ _ _ _ _ _ c.requires.ready (omega (arith, c.min.ensures, c.len.ensures, ap length (boxes_at c.args.mail.now (c.args.p - 1)), c.requires.ready.within))

pub entry-requires : goal.entry-requires
entry-requires g c = rw (← boxes_at c.loop-n.mail (c.args.p - 1)) (left c.loop-n.invariant c.loop-n-test.true)

pub look-l-requires : goal.look-l-requires
look-l-requires g c = is-event c.loop-n.invariant c.loop-n-test.true _ (entry_is g (goal.at.look-l-requires g c).After-entry)

pub find_row-found-requires : goal.find_row-found-requires
find_row-found-requires g c =
    let at = goal.at.find_row-found-requires g c in
    let r =
    rows-here c.loop-n.invariant c.loop-n-test.true _ (entry_is g at.After-entry) _ c.look-l.ensures _ (c.EDITION.ensures ∙ sym c.requires.edition)
    _ (table_is g at.After-table_of-table) in
    (r.0, r.1, omega (arith, r.2), r.3)

pub leave-requires : goal.leave-requires
leave-requires g c = rw (← boxes_at c.loop-n.mail (c.args.p - 1)) (let a = c.loop-n.invariant in omega (arith, a.since, a.until, a.ends))

pub returns-then-not-is_sound : goal.returns-then-not-is_sound
returns-then-not-is_sound g c =
    let at = goal.at.returns-then-not-is_sound g c in
    rw (first_taken c.loop-n.mail (c.args.p - 1) _ _ c.leave.ensures)
    (back_where_unsound c.loop-n.invariant c.loop-n-test.true _ (entry_is g at.After-entry) _ c.look-l.ensures _ (c.EDITION.ensures ∙ sym c.requires.edition)
    _ (table_is g at.After-table_of-table) _ c.find_row-found.ensures (sym c.is_sound.ensures ∙ c.if-not-is_sound.true))

pub next_rest-rest-requires : goal.next_rest-rest-requires
next_rest-rest-requires g c =
    let at = goal.at.next_rest-rest-requires g c in
    found-lies c.loop-n.invariant c.loop-n-test.true _ (entry_is g at.After-entry) _ c.look-l.ensures _ (c.EDITION.ensures ∙ sym c.requires.edition)
    _ (table_is g at.After-table_of-table) _ c.find_row-found.ensures

pub answer-requires : goal.answer-requires
answer-requires g c =
    let at = goal.at.answer-requires g c in (
      runs_here c.loop-n.invariant c.loop-n-test.true _ (entry_is g at.After-entry) _ c.look-l.ensures _ (c.EDITION.ensures ∙ sym c.requires.edition) _ (table_is g at.After-table_of-table),
      found-lies c.loop-n.invariant c.loop-n-test.true _ (entry_is g at.After-entry) _ c.look-l.ensures _ (c.EDITION.ensures ∙ sym c.requires.edition)
          _ (table_is g at.After-table_of-table) _ c.find_row-found.ensures,
    )

pub loop-n-preserved : goal.loop-n-preserved
loop-n-preserved g c =
    let at = goal.at.loop-n-preserved g c in
    amid_on c.loop-n.invariant c.loop-n-test.true _ (entry_is g at.After-entry) _ c.look-l.ensures _ (c.EDITION.ensures ∙ sym c.requires.edition)
    _ (table_is g at.After-table_of-table) _ c.find_row-found.ensures (sym c.is_sound.ensures ∙ c.if-not-is_sound.false) _ c.next_rest-rest.ensures _ c.note.ensures.1
    _ (c.note.ensures.0 ∙ rw (c.answer.ensures c.loop-n.rest) refl) c.note.auto.log

pub leave-requires-2 : goal.leave-requires-2
leave-requires-2 g c = rw (← boxes_at c.loop-n.mail (c.args.p - 1)) (let a = c.loop-n.invariant in omega (arith, a.since, a.until, a.ends))

pub returns : goal.returns
returns g c =
    let z : c.args.from + c.min.result ≡ c.loop-n.n = omega (arith, c.loop-n.invariant.until, c.loop-n-test.false) in
    rw (first_taken c.loop-n.mail (c.args.p - 1) _ _ c.leave-2.ensures, z) (back-at-end c.loop-n.invariant c.loop-n-test.false)
