-- A block and a slot as a part of its area, and a table that is filled.
use mathlib.Core.List.{List, ◌++◌}
use mathlib.Core.Path.{◌≡◌, refl, sym, ap, ◌∙◌}
use Prim.Native.Nat.{ℕ, ◌*◌, ◌<◌}
use native.Mathlib.Omega.{arith}
use lib.ListN.{length, take, drop, length-drop}
use lib.Seq.{length-take-le}
use Rattle.ground.specs.Bytes.{padded}
use Rattle.ground.specs.Padding.{length-padded}
use Rattle.ground.specs.Parts.{part_over}
use Rattle.chart.specs.Numbers.{slot_size}
use Rattle.chart.specs.declared.read.Edition.TheVariants.{Plain}
use Rattle.machine.proofs.Blocks.{place_end}
use Rattle.machine.specs.Numbers.{blocks, capacity, payload_bytes, place_of, plain_slots, table_bytes}
use Rattle.machine.specs.Reply.{over}

-- the place of block b, filled from p
pub put-over : (b at n : ℕ) (l p v : List ℕ) → b < blocks → length l ≡ payload_bytes → at ≡ place_of b → n ≡ capacity b → v ≡ padded (length (take n (drop at l))) p →
    take at l ++ (v ++ drop n (drop at l)) ≡ over l (place_of b) (padded (capacity b) p)
unfolding over
put-over b at n l p v h e f g r =
    let m : length (take n (drop at l)) ≡ n = length-take-le n (drop at l) (rw length-drop (omega (arith, place_end b h))) in
    let w : v ≡ padded n p = rw m at r in
    part_over at n l v (ap length w ∙ length-padded n p) ∙ rw (w, f, g) refl

-- the table of a plain slot q is a part of the tables l; with v in its place
module _ (q at n : ℕ) (l : List ℕ) (h : q < plain_slots) (long : length l ≡ table_bytes) (f : at ≡ slot_size Plain * q) (g : n ≡ slot_size Plain) where
  pub slot-over : (v : List ℕ) → length v ≡ slot_size Plain → take at l ++ (v ++ drop n (drop at l)) ≡ over l (slot_size Plain * q) v
  unfolding over
  slot-over v e = part_over at n l v (e ∙ sym g) ∙ rw f refl
