use borrow.Author.Tests.{ne_eqb}
use mathlib.Core.Path.{◌≡◌, refl, ap}
use Prim.Native.Nat.{◌+◌, ◌*◌, ◌-◌, ◌<◌}
use native.Mathlib.Omega.{arith}
use Rattle.chart.proofs.Theorems.{slot_size_lem}
use Rattle.chart.specs.Numbers.{slot_size}
use Rattle.chart.specs.declared.read.Edition.TheVariants.{Plain}
use Rattle.machine.specs.Charts.{filled}
use Rattle.machine.specs.Numbers.{edition_of, guarded_slot, plain_slots}
use Rattle.layout.proofs.Places.{slot-over}
use Rattle.layout.proofs.fill_slot.Goals as goal

pub returns-in_ok-check-2-clause-ok : goal.returns-in_ok-check-2-clause-ok
unfolding edition_of filled
returns-in_ok-check-2-clause-ok c =
    let other = c.if-q-eq-GUARDED_SLOT.false in
    let q = c.args.q in
    let at = slot_size Plain * q in
    let n = at + slot_size Plain - at in
    let cut : n ≡ slot_size Plain = omega arith in
    let plain : q < plain_slots = omega (arith, c.requires.0, other) in
    rw (ne_eqb q guarded_slot other, c.fill_table-else-q-eq-GUARDED_SLOT.ensures)
    (ap (λ x. record { plain = x; guarded = c.args.guarded.now }) (slot-over q at n c.args.tables.now plain c.requires.1 refl cut _ (slot_size_lem Plain c.args.chart.now)))
