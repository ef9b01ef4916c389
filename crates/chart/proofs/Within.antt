-- What any table answers, where each row that is read may be read.
use mathlib.Core.Bool.{true}
use mathlib.Core.List.{List, [], ◌∷◌}
use mathlib.Core.Path.{◌≡◌}
use Prim.Native.Nat.{ℕ, ◌≤◌}
use native.Mathlib.Omega.{arith}
use lib.ListN.{length}
use Rattle.ground.specs.Bools.{and_left, and_right, cond_pick}
use Rattle.chart.specs.Flags.{Flags, is_open}
use Rattle.chart.specs.Flat.{sound, flag_at, answer_of, zeros, taken, readable, all_read}
use Rattle.chart.specs.Numbers.{Edition, most_actions, most_states}
use Rattle.chart.specs.Step.{Answer}
use Rattle.chart.proofs.OneRow.{acts-length, readable-sound, sound-is}

-- An answer within an edition's bounds.
pub record Within (e : Edition) (a : Answer) : Type 0 where
  pub low : 1 ≤ a.next
  pub high : a.next ≤ most_states e
  pub outcome : a.outcome ≤ 2
  pub few : length a.acts ≤ most_actions

row_within : (e : Edition) (r : List ℕ) → sound e r ≡ true → Within e (answer_of r)
unfolding answer_of
row_within e r h =
    let w = sound-is e r h in
    record { low = w.next.0; high = w.next.1; outcome = w.outcome; few = omega (arith, acts-length e r w, w.count) }

-- From a rest within those bounds every answer is one.
module _ (e : Edition) (is_up : Flags) where
  pub taken-within : (rows : List (List ℕ)) (x : ℕ) → all_read e is_up rows ≡ true → 1 ≤ x → x ≤ most_states e → Within e (taken is_up x rows)
  unfolding taken all_read
  taken-within [] x h low high = record { low = low; high = high; outcome = omega arith; few = omega arith }
  taken-within (r ∷ rows) x h low high =
      cond_pick (Within e) (zeros r) _ _
      (λ z. record { low = low; high = high; outcome = omega arith; few = omega arith })
      (λ z. cond_pick (Within e) (is_open is_up (flag_at r)) _ _
      (λ o. row_within e r (readable-sound e r (and_left _ _ h) z))
      (λ o. taken-within rows x (rw (z, o) at (and_right (readable e r) _ h)) low high))
