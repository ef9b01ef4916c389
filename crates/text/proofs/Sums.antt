-- One more number in the sum.
use Rattle.std.proofs.Common.{◌≡◌, ℕ, ◌+◌, ◌*◌, ◌%◌, take, slice_index_or, suc, zero, arith}
use mathlib.Core.List.{List, [], ◌∷◌}
use Rattle.text.specs.Sum.{weighted_from, weighted}
use Rattle.std.proofs.Math.Nat.{add-mod-mod, mod-add-mod}

pub weighted_from-take : (p : ℕ) → (ns : List ℕ) → (i : ℕ) → weighted_from p (take (suc i) ns) ≡ weighted_from p (take i ns) + (p + i) * slice_index_or ns i 0
weighted_from-take p [] zero = omega arith
weighted_from-take p [] (suc i) = omega arith
weighted_from-take p (n ∷ ns) zero = grind arith
weighted_from-take p (n ∷ ns) (suc i) = let e : weighted_from (p + 1) (take (suc i) ns) ≡ weighted_from (p + 1) (take i ns) + (p + 1 + i) * slice_index_or ns i 0 = weighted_from-take (p + 1) ns i in grind (arith, e)

pub sum_step : (m : ℕ) → (ns : List ℕ) → (i s n : ℕ) → s ≡ weighted (take i ns) % m → n ≡ slice_index_or ns i 0 → (s + (i + 1) * n % m) % m ≡ weighted (take (i + 1) ns) % m
sum_step m ns i s n ss nn = grind (arith, ss, nn, weighted_from-take 1 ns i, add-mod-mod s ((i + 1) * n) m, mod-add-mod (weighted (take i ns)) m ((i + 1) * n))
