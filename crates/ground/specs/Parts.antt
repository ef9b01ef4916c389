-- Laws of parts of a slice, as the borrow checker gives them.
use Rattle.std.specs.Prelude.{List, ◌++◌, ◌≡◌, refl, ℕ, ◌+◌, ◌-◌, length, take, drop}
use Rattle.std.proofs.Common.{le_refl, length-drop, drop-drop, take_all}

-- the part from a on
pub tail_part : (d : List ℕ) (a : ℕ) → take (length d - a) (drop a d) ≡ drop a d
tail_part d a = take_all (length d - a) (drop a d) (rw length-drop (le_refl (length d - a)))

-- the n bytes from a on, written over by v
pub part_over : (a n : ℕ) (l v : List ℕ) → length v ≡ n → take a l ++ (v ++ drop n (drop a l)) ≡ take a l ++ (v ++ drop (a + length v) l)
part_over a n l v e = rw (drop-drop n a l, e) refl
