-- Lists, searches and counts over a range of numbers, given by a function of the number.
use Rattle.std.specs.Prelude.{Bool, true, cond, ◌&&◌, List, [], ◌∷◌, ℕ, zero, suc, ◌+◌, ◌-◌}

-- f i, f (i + 1), .. : k of them.
unfoldable pub tab_from : {A : Type 0} → (ℕ → A) → ℕ → ℕ → List A
tab_from f i zero = []
tab_from f i (suc k) = f i ∷ tab_from f (suc i) k

-- f 0, f 1, .. : n of them.
abbrev pub tab : {A : Type 0} → (ℕ → A) → ℕ → List A
tab f n = tab_from f 0 n

-- The first of the k numbers from i on that passes the test, or i + k where none does.
unfoldable pub first_from : (ℕ → Bool) → ℕ → ℕ → ℕ
first_from p i zero = i
first_from p i (suc k) = cond (p i) i (first_from p (suc i) k)

-- How many of the k numbers from i on pass the test.
unfoldable pub count_from : (ℕ → Bool) → ℕ → ℕ → ℕ
count_from p i zero = 0
count_from p i (suc k) = cond (p i) 1 0 + count_from p (suc i) k

-- Each of the k numbers from i on passes the test.
unfoldable pub every_from : (ℕ → Bool) → ℕ → ℕ → Bool
every_from p i zero = true
every_from p i (suc k) = p i && every_from p (suc i) k

-- Each number from i up to, not including, e passes the test.
abbrev pub every : (ℕ → Bool) → ℕ → ℕ → Bool
every p i e = every_from p i (e - i)
