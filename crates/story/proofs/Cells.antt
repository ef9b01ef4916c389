-- One block: what a call may make of it.
use mathlib.Core.Bool.{true, false, cond, ◌&&◌}
use mathlib.Core.List.{List}
use mathlib.Core.Logic.{◌⊎◌, inl, inr}
use mathlib.Core.Path.{◌≡◌, refl, sym}
use Prim.Native.Nat.{ℕ, zero, suc, ◌+◌, ◌<◌, ◌≤◌}
use native.Mathlib.Decide.{ℕ_discrete, dec_lt}
use native.Mathlib.Omega.{arith}
use lib.Dec.{leb}
use lib.ListN.{length}
use lib.Seq.{set_out}
use Rattle.ground.specs.Bools.{cond_pick, no_yes}
use Rattle.pool.specs.Cell.{Cell, free, live, retired, absent, is_free, is_retired, generation_of, last_generation, back, handed_out, more, fewer, dropped, most_references}
use Rattle.pool.specs.Laws.{back_all, changed-here, changed_other, fewer-back}
use Rattle.pool.specs.Row.{at, changed}
use Rattle.machine.proofs.Counts.{back_not_live}
use Rattle.machine.specs.Inv.{is_live, count_of}

-- Free, it stays so or is handed out; live, it stays so, and counted if it was, or goes back; retired, it stays so. H: it is handed out, G: it
-- is let go while new.
unfoldable pub Moves : Type 0 → Type 0 → Cell → Cell → Type 0
Moves H G (free g) c = (c ≡ free g) ⊎ ((c ≡ live g 0) × H)
Moves H G (live g n) c = ((m : ℕ) × (c ≡ live g m) × (0 < n → 0 < m)) ⊎ ((c ≡ back g) × (n ≡ 0 → G))
Moves H G (retired g) c = c ≡ retired g
Moves H G absent c = c ≡ absent

-- It gains references only; it loses references only, with the last of which it goes back.
unfoldable pub Grown : Cell → Cell → Type 0
Grown (free g) c = c ≡ free g
Grown (live g n) c = (m : ℕ) × (c ≡ live g m) × (n ≤ m)
Grown (retired g) c = c ≡ retired g
Grown absent c = c ≡ absent

unfoldable pub Fallen : Cell → Cell → Type 0
Fallen (free g) c = c ≡ free g
Fallen (live g n) c = ((m : ℕ) × (c ≡ live g m) × (m ≤ n) × (0 < n → 0 < m)) ⊎ ((c ≡ back g) × (0 < n))
Fallen (retired g) c = c ≡ retired g
Fallen absent c = c ≡ absent

pub grown_same : (c : Cell) → Grown c c
unfolding Grown
grown_same (free g) = refl
grown_same (live g n) = (n, refl, omega arith)
grown_same (retired g) = refl
grown_same absent = refl

pub fallen_same : (c : Cell) → Fallen c c
unfolding Fallen
fallen_same (free g) = refl
fallen_same (live g n) = inl (n, refl, omega arith, λ h. h)
fallen_same (retired g) = refl
fallen_same absent = refl

pub grown_more : (c x : Cell) → Grown c x → Grown c (more x)
unfolding Grown more
grown_more (free g) x e = rw e refl
grown_more (live g n) x w =
    let e : x ≡ live g w.0 = w.1 in
    rw e (_, refl, cond_pick (λ (m : ℕ). n ≤ m) (leb most_references w.0) w.0 (w.0 + 1) (λ t. w.2) (λ t. omega (arith, w.2)))
grown_more (retired g) x e = rw e refl
grown_more absent x e = rw e refl

pub fallen_fewer : (c x : Cell) → Fallen c x → Fallen c (fewer x)
unfolding Fallen fewer
fallen_fewer (free g) x e = rw e refl
fallen_fewer (live g n) x (inl w) = let e : x ≡ live g w.0 = w.1 in rw e (go w.0 w.2 w.3)
  where
    go : (m : ℕ) → m ≤ n → (0 < n → 0 < m) → ((k : ℕ) × (fewer (live g m) ≡ live g k) × (k ≤ n) × (0 < n → 0 < k)) ⊎ ((fewer (live g m) ≡ back g) × (0 < n))
    go zero l f = inl (0, refl, l, f)
    go (suc zero) l f = inr (refl, l)
    go (suc (suc k)) l f = inl (suc k, refl, omega arith, λ h. omega arith)
fallen_fewer (live g n) x (inr w) = let e : x ≡ back g = w.0 in inr (rw e (fewer-back g), w.1)
fallen_fewer (retired g) x e = rw e refl
fallen_fewer absent x e = rw e refl

-- Each turn of a block keeps P: it is handed out, it gains or loses references, it is retired, or free again.
pub record Keeps (P : Cell → Type 0) : Type 0 where
  pub handed : (g : ℕ) → P (free g) → P (live g 0)
  pub counted : (g n m : ℕ) → P (live g n) → P (live g m)
  pub retires : (g n : ℕ) → last_generation ≤ g → P (live g n) → P (retired g)
  pub frees : (g n : ℕ) → g < last_generation → P (live g n) → P (free (g + 1))

module _ (H G : Type 0) where
  pub moves_grown : (c x : Cell) → Grown c x → Moves H G c x
  unfolding Moves Grown
  moves_grown (free g) x e = inl e
  moves_grown (live g n) x w = inl (w.0, w.1, λ h. omega (arith, w.2))
  moves_grown (retired g) x e = e
  moves_grown absent x e = e

  pub moves_fallen : (c x : Cell) → Fallen c x → Moves H G c x
  unfolding Moves Fallen
  moves_fallen (free g) x e = inl e
  moves_fallen (live g n) x (inl w) = inl (w.0, w.1, w.3)
  moves_fallen (live g n) x (inr w) = inr (w.0, λ z. absurd (omega (arith, w.1)))
  moves_fallen (retired g) x e = e
  moves_fallen absent x e = e

  pub moves_same : (c : Cell) → Moves H G c c
  moves_same c = moves_grown c c (grown_same c)

  pub moves_dropped : (c : Cell) → G → Moves H G c (dropped c)
  unfolding Moves dropped
  moves_dropped (free g) h = inl refl
  moves_dropped (live g zero) h = inr (refl, λ z. h)
  moves_dropped (live g (suc n)) h = inl (suc n, refl, λ p. p)
  moves_dropped (retired g) h = refl
  moves_dropped absent h = refl

  pub moves_handed : (c : Cell) → is_free c ≡ true → H → Moves H G c (handed_out c)
  unfolding Moves handed_out is_free generation_of
  moves_handed (free g) e h = inr (refl, h)
  moves_handed (live g n) e h = no_yes e
  moves_handed (retired g) e h = no_yes e
  moves_handed absent e h = no_yes e

  -- What moving says: of the generation, of a live block, of a free one, of a retired one.
  pub moves_generation : (c x : Cell) → Moves H G c x → generation_of x ≡ cond (is_live c && is_free x) (generation_of c + 1) (generation_of c)
  unfolding Moves is_live is_free generation_of
  moves_generation (free g) x (inl e) = rw e refl
  moves_generation (free g) x (inr w) = rw w.0 refl
  moves_generation (live g n) x (inl w) = let e : x ≡ live g w.0 = w.1 in rw e refl
  moves_generation (live g n) x (inr w) = rw w.0 (back_all (λ y. generation_of y ≡ cond (is_free y) (g + 1) g) g (λ l. refl) (λ l. refl))
  moves_generation (retired g) x e = rw e refl
  moves_generation absent x e = rw e refl

  -- a live block that is not so afterwards went back, and was counted, or is let go
  pub moves_back : (c x : Cell) → Moves H G c x → is_live c ≡ true → is_live x ≡ false → (x ≡ back (generation_of c)) × ((0 < count_of c) ⊎ ((count_of c ≡ 0) × G))
  unfolding Moves is_live generation_of count_of
  moves_back (free g) x w e f = no_yes e
  moves_back (live g n) x (inl w) e f = let q : x ≡ live g w.0 = w.1 in no_yes (sym (rw q at f))
  moves_back (live g zero) x (inr w) e f = (w.0, inr (refl, w.1 refl))
  moves_back (live g (suc n)) x (inr w) e f = (w.0, inl (omega arith))
  moves_back (retired g) x w e f = no_yes e
  moves_back absent x w e f = no_yes e

  -- a block that was counted and is counted no more is live no more
  pub moves_gone : (c x : Cell) → Moves H G c x → 0 < count_of c → count_of x ≡ 0 → is_live x ≡ false
  unfolding Moves count_of
  moves_gone (free g) x w h e = absurd (omega arith)
  moves_gone (live g n) x (inl w) h e = let q : x ≡ live g w.0 = w.1 in let z : w.0 ≡ 0 = rw q at e in absurd (omega (arith, w.2 h))
  moves_gone (live g n) x (inr w) h e = rw w.0 (back_not_live g)
  moves_gone (retired g) x w h e = absurd (omega arith)
  moves_gone absent x w h e = absurd (omega arith)

  -- a live block was so before, or is handed out
  pub moves_live : (c x : Cell) → Moves H G c x → is_live x ≡ true → (is_live c ≡ true) ⊎ H
  unfolding Moves is_live
  moves_live (free g) x (inl e) l = no_yes (rw e at l)
  moves_live (free g) x (inr w) l = inr w.1
  moves_live (live g n) x w l = inl refl
  moves_live (retired g) x e l = no_yes (rw e at l)
  moves_live absent x e l = no_yes (rw e at l)

  -- a free block stays so, or is handed out
  pub moves_free : (c x : Cell) → Moves H G c x → is_free c ≡ true → (is_free x ≡ true) ⊎ H
  unfolding Moves is_free
  moves_free (free g) x (inl e) f = inl (rw e refl)
  moves_free (free g) x (inr w) f = inr w.1
  moves_free (live g n) x w f = no_yes f
  moves_free (retired g) x w f = no_yes f
  moves_free absent x w f = no_yes f

  -- a retired block stays as it is
  pub moves_retired : (c x : Cell) → Moves H G c x → is_retired c ≡ true → x ≡ c
  unfolding Moves is_retired
  moves_retired (free g) x w r = no_yes r
  moves_retired (live g n) x w r = no_yes r
  moves_retired (retired g) x e r = e
  moves_retired absent x e r = no_yes r

  -- what each turn keeps is kept
  pub moves_kept : (P : Cell → Type 0) → Keeps P → (c x : Cell) → Moves H G c x → P c → P x
  unfolding Moves
  moves_kept P k (free g) x (inl e) h = rw e h
  moves_kept P k (free g) x (inr w) h = rw w.0 (k.handed g h)
  moves_kept P k (live g n) x (inl w) h = let q : x ≡ live g w.0 = w.1 in rw q (k.counted g n w.0 h)
  moves_kept P k (live g n) x (inr w) h = rw w.0 (back_all P g (λ l. k.retires g n l h) (λ l. k.frees g n l h))
  moves_kept P k (retired g) x e h = rw e h
  moves_kept P k absent x e h = rw e h

-- Block k after block b is changed.
pub changed-each : (R : Cell → Type 0) (f : Cell → Cell) (cells : List Cell) (b k : ℕ) → R (at cells k) → (k ≡ b → R (f (at cells k))) → R (at (changed f cells b) k)
changed-each R f cells b k same here = go (ℕ_discrete k b) (dec_lt b (length cells))
  where
    go : Dec (k ≡ b) → Dec (b < length cells) → R (at (changed f cells b) k)
    go (yes e) (yes l) = rw (e, changed-here f cells b l) (rw e at (here e))
    go (yes e) (no n) = rw (set_out cells b (f (at cells b)) (omega arith)) same
    go (no ne) d = rw (changed_other f cells b k ne) same
