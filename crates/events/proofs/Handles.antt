-- PUBLISH, HOLD, RELEASE and DROP: what it says that none of the tests of a handle holds.
use mathlib.Core.Bool.{Bool, true, false}
use mathlib.Core.List.{List, [], ◌∷◌}
use mathlib.Core.Path.{◌≡◌, refl, sym}
use Prim.Native.Nat.{ℕ, zero, suc, ◌<◌}
use lib.Seq.{set-get_or}
use Rattle.ground.specs.Bools.{no_yes}
use Rattle.machine.proofs.Tests.{none_holds, numbered, within_block}
use Rattle.machine.specs.Numbers.{blocks, no_block}
use Rattle.pool.specs.Cell.{Cell, free, live, retired, absent, is_new, dropped}
use Rattle.pool.specs.Row.{at, changed}
use Rattle.machine.specs.Reply.{FORM, RANGE, STALE, lowest}

-- The block is one of the blocks, the handle is not stale, and the last test does not hold.
pub record Allowed (b : ℕ) (stale last : Bool) : Type 0 where
  pub block : b < blocks
  pub live : stale ≡ false
  pub passed : last ≡ false

pub handle_allowed : (spoilt : Bool) (b : ℕ) (stale : Bool) (n : ℕ) (last : Bool) → numbered ((n, last) ∷ []) ≡ true →
    0 ≡ lowest ((FORM, spoilt) ∷ (RANGE, no_block b) ∷ (STALE, stale) ∷ (n, last) ∷ []) → Allowed b stale last
handle_allowed spoilt b stale n last num e =
    let h = none_holds ((FORM, spoilt) ∷ (RANGE, no_block b) ∷ (STALE, stale) ∷ (n, last) ∷ []) num (sym e) in
    record { block = within_block b h.1.0; live = h.1.1.0; passed = h.1.1.1.0 }

-- the tests before the last one
abbrev pub others : Bool → Bool → Bool → List (ℕ × Bool)
others spoilt bad stale = (FORM, spoilt) ∷ (RANGE, bad) ∷ (STALE, stale) ∷ []

-- a block that is not new is not dropped
pub dropped-same : (s : List Cell) (b : ℕ) → is_new (at s b) ≡ false → changed dropped s b ≡ s
unfolding is_new dropped
dropped-same s b e = rw (same (at s b) e) (set-get_or s b absent)
  where
    same : (c : Cell) → is_new c ≡ false → dropped c ≡ c
    same (free g) e = refl
    same (live g zero) e = absurd (no_yes (sym e))
    same (live g (suc n)) e = refl
    same (retired g) e = refl
    same absent e = refl
