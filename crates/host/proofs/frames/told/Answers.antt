use borrow.Author.Rules.{rules}
use mathlib.Core.Bool.{cond}
use mathlib.Core.List.{List, ◌++◌}
use mathlib.Core.Path.{◌≡◌, refl, ◌∙◌, sym}
use Prim.Native.Nat.{ℕ, zero, suc, ◌+◌, ◌-◌, ◌≤◌}
use native.Mathlib.Omega.{arith}
use lib.ListN.{length, take, drop, replicate}
use lib.Seq.{length-take-le}
use Rattle.ground.specs.Bytes.{padded}
use Rattle.ground.specs.Padding.{padded_short}
use Rattle.frame.specs.View.{frames_told}
use Rattle.frame.specs.Wire.{most_data}
use Rattle.host.specs.Frames.{told_frame}
use Rattle.host.proofs.frames.told.Goals as goal

zeros-left : (m n : ℕ) → m ≤ n → drop {A = ℕ} m (replicate n 0) ≡ replicate (n - m) 0
zeros-left zero n h = let e : n - 0 ≡ n = omega arith in rw e refl
zeros-left (suc m) zero h = absurd (omega arith)
zeros-left (suc m) (suc n) h = let e : suc n - suc m ≡ n - m = omega arith in rw e (zeros-left m n (omega arith))

module _ (n : ℕ) (few : n ≤ most_data) where
  behind : 5 + n - 5 ≡ n
  behind = omega arith

  room : length (take (5 + n - 5) (replicate {A = ℕ} most_data 0)) ≡ n
  room = rw behind (length-take-le n _ few)

  -- so many bytes, and behind them the zeros that were there
  filled : (d : List ℕ) → length d ≡ n → d ++ drop (5 + n - 5) (replicate most_data 0) ≡ padded most_data d
  filled d e = rw (behind, padded_short most_data d (omega (arith, e)), e, zeros-left n most_data few) refl

pub copy_from_slice-requires : goal.copy_from_slice-requires
copy_from_slice-requires c = room c.in-Some.frame.size c.in-Some.frame.small ∙ sym c.data.ensures.size

pub returns-in-Some : goal.returns-in-Some
unfolding told_frame frames_told
returns-in-Some c =
    let f = c.in-Some.frame in
    let k = rw c.data.ensures.bytes at c.data.ensures.size in
    let g : c.from.result ≡ cond f.gap 1 0 = search rules in
    rw (c.in-Some.is, g, k, c.copy_from_slice.ensures.after ∙ c.data.ensures.bytes, filled f.size f.small _ k) refl

pub returns-in_default : goal.returns-in_default
unfolding told_frame frames_told
returns-in_default c = rw c.in_default.is refl
