use mathlib.Core.Bool.{false}
use mathlib.Core.Path.{◌≡◌}
use Prim.Native.Nat.{ℕ, ◌<◌, ◌≤◌}
use lib.ListN.{get_or, length}
use Rattle.bits.specs.Members.{members, put}
use Rattle.charts.proofs.flags.lower_all.Given as goal

abbrev pub invariant-loop-word : goal.invariant-loop-word
invariant-loop-word l =
    (length l.up ≡ length l.initial.up)
    × ((j : ℕ) → j < l.word-index → members (get_or l.up j 0) ≡ put l.p false (members (get_or l.initial.up j 0)))
    × ((j : ℕ) → l.word-index ≤ j → get_or l.up j 0 ≡ get_or l.initial.up j 0)
