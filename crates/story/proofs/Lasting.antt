-- What each call keeps of a block lasts: it holds in every story that goes on from one in which it holds.
use mathlib.Core.Bool.{Bool, true, false}
use mathlib.Core.Path.{◌≡◌, refl}
use Prim.Native.Nat.{ℕ, zero, suc, ◌≤◌, ◌<◌}
use native.Mathlib.Omega.{arith}
use lib.ListN.{get_or, replicate, get_or-replicate}
use Rattle.pool.specs.Cell.{Cell, free, live, retired, absent, generation_of, last_generation}
use Rattle.pool.specs.Row.{blocks}
use Rattle.story.specs.Calls.{Call, Story, fresh, then, kernel, answer_in}
use Rattle.story.specs.Terms.{cell, earlier, GoesOn}
use Rattle.story.proofs.Blocks.{Hands, Goes, moved}
use Rattle.story.proofs.Cells.{Moves, Keeps, moves_kept}

-- A call moves each block.
abbrev pub HandsIn : Story → Call → ℕ → Type 0
HandsIn h c b = Hands (kernel h) c.command (answer_in h c) b

abbrev pub GoesIn : Story → Call → ℕ → Type 0
GoesIn h c b = Goes (kernel h) c.command (answer_in h c) b

pub turned : (h : Story) (c : Call) (b : ℕ) → Moves (HandsIn h c b) (GoesIn h c b) (cell h b) (cell (then h c) b)
unfolding kernel
turned h c b = (moved (kernel h) c.command c.chart c.areas).block b

-- Every story goes on from a fresh start.
from-fresh : (h : Story) → GoesOn fresh h
unfolding earlier
from-fresh fresh = record { calls = 0; before = refl }
from-fresh (then h c) = record { calls = suc (from-fresh h).calls; before = (from-fresh h).before }

module _ (P : Cell → Type 0) (keeps : Keeps P) (b : ℕ) where
  lasts : (k : ℕ) (later : Story) → P (cell (earlier k later) b) → P (cell later b)
  unfolding earlier
  lasts zero later p = p
  lasts (suc k) fresh p = p
  lasts (suc k) (then h c) p = moves_kept _ _ P keeps _ _ (turned h c b) (lasts k h p)

  pub goes_on : (h later : Story) → GoesOn h later → P (cell h b) → P (cell later b)
  goes_on h later w p = lasts w.calls later (rw w.before p)

  pub always : P (cell fresh b) → (h : Story) → P (cell h b)
  always p h = goes_on fresh h (from-fresh h) p

-- what holds of a block that was never handed out, and of none, holds of each at a fresh start
pub fresh-each : (P : Cell → Type 0) → P (free 0) → P absent → (b : ℕ) → P (cell fresh b)
unfolding kernel
fresh-each P here none b = go blocks b
  where
    go : (n b : ℕ) → P (get_or (replicate n (free 0)) b absent)
    go zero b = none
    go (suc n) zero = here
    go (suc n) (suc b) = go n b

-- Each of the blocks is there.
unfoldable pub is_there : Cell → Bool
is_there (free g) = true
is_there (live g n) = true
is_there (retired g) = true
is_there absent = false

pub there : (h : Story) (b : ℕ) → b < blocks → is_there (cell h b) ≡ true
unfolding is_there kernel
there h b l =
    always (λ c. is_there c ≡ true) (record { handed = λ g e. refl; counted = λ g n m e. refl; retires = λ g n l e. refl; frees = λ g n l e. refl }) b
    (rw (get_or-replicate blocks b (free 0) absent l) refl) h

-- No generation is above the last.
pub last_most : (h : Story) (b : ℕ) → generation_of (cell h b) ≤ last_generation
unfolding generation_of
last_most h b =
    always (λ c. generation_of c ≤ last_generation) (record { handed = λ g e. e; counted = λ g n m e. e; retires = λ g n l e. e; frees = λ g n l e. omega arith }) b
    (fresh-each (λ c. generation_of c ≤ last_generation) (omega arith) (omega arith) b) h
