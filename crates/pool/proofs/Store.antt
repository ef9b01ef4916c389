-- How the row reads and changes as the two arrays and the set of free blocks do.
use mathlib.Core.Bool.{Bool, true, false}
use mathlib.Core.List.{List}
use mathlib.Core.Path.{◌≡◌, refl, sym, ap, ◌∙◌}
use Prim.Native.Nat.{ℕ, ◌-◌, ◌<◌, ◌≤◌}
use native.Mathlib.Omega.{arith}
use native.Mathlib.Decide.{dec_lt}
use lib.ListN.{length, get_or, set, get_or-eq_default}
use lib.Seq.{ext_get_or, get_or-set_same, get_or-set_other, set_out, set-get_or}
use Rattle.bits.specs.Laws.{first_same, put-here, put_other}
use Rattle.bits.specs.Members.{put}
use Rattle.ground.specs.Counting.{count_same}
use Rattle.ground.specs.Range.{count_from, first_from, tab}
use Rattle.ground.specs.Tab.{length-tab, get_or-tab, get_or-tab_out, tab-set}
use Rattle.pool.specs.Cell.{Cell, absent, generation_of}
use Rattle.pool.specs.Inside.{cell_at, cell_of, row_of, went_back}
use Rattle.pool.specs.Mark.{free_in}
use Rattle.pool.specs.Promise.{Frees}
use Rattle.pool.specs.Row.{at, blocks, changed, generation_at, lowest_free}
use Rattle.pool.specs.declared.Span.{Span}
use Rattle.pool.proofs.Count.{free_is, generation-is}

module _ (gens counts : List ℕ) (frees : ℕ → Bool) where
  abbrev cell : ℕ → Cell
  cell = cell_at gens counts frees

  abbrev row : List Cell
  row = row_of gens counts frees

  pub at_in : (b : ℕ) → b < blocks → at row b ≡ cell b
  unfolding row_of
  at_in b h = get_or-tab cell blocks b absent h

  pub at_out : (b : ℕ) → blocks ≤ b → at row b ≡ absent
  unfolding row_of
  at_out b h = get_or-tab_out cell blocks b absent h

  -- the lowest free block is the lowest member of the set
  pub lowest_free_lem : (pool : Span) → pool.to ≤ blocks → first_from frees pool.from (pool.to - pool.from) ≡ lowest_free row pool
  unfolding lowest_free
  lowest_free_lem pool h = first_same frees _ pool.from (pool.to - pool.from) (λ j l g. sym (rw (at_in j (omega arith)) (free_is _ _ _)))

  -- the number of free blocks is the number of members
  pub free_in_lem : (pool : Span) → pool.to ≤ blocks → count_from frees pool.from (pool.to - pool.from) ≡ free_in row pool
  unfolding free_in
  free_in_lem pool h = count_same frees _ pool.from (pool.to - pool.from) (λ j l g. sym (rw (at_in j (omega arith)) (free_is _ _ _)))

  pub generation-at : length gens ≡ blocks → (b : ℕ) → generation_at row b ≡ get_or gens b 0
  unfolding generation_at generation_of
  generation-at l b = go (dec_lt b blocks)
    where
      go : Dec (b < blocks) → generation_at row b ≡ get_or gens b 0
      go (yes h) = rw (at_in b h) (generation-is _ _ _)
      go (no h) = rw (at_out b (omega arith), get_or-eq_default gens 0 {n = b} (omega arith)) refl

  pub generations_are : length gens ≡ blocks → gens ≡ tab (generation_at row) blocks
  unfolding generation_at
  generations_are l =
      ext_get_or 0 _ _ (l ∙ sym (length-tab (generation_at row) blocks)) (λ j h.
      let k : j < blocks = omega arith in
      sym (get_or-tab (generation_at row) blocks j 0 k ∙ rw (at_in j k) (generation-is _ _ _)))

  -- block b, where a test told t of whether it is in the set
  abbrev was : ℕ → Bool → Cell
  was b t = cell_of (get_or gens b 0) (get_or counts b 0) t

  pub at-is : (b : ℕ) → b < blocks → {r t : Bool} → r ≡ frees b → r ≡ t → at row b ≡ was b t
  at-is b h e told = at_in b h ∙ rw (← e, told) refl

  -- what f makes of block b
  module _ (b : ℕ) (f : Cell → Cell) where
    -- beyond the last block nothing changes
    pub changed_out : blocks ≤ b → row ≡ changed f row b
    unfolding row_of
    changed_out h = sym (set_out row b (f (at row b)) (omega (arith, length-tab cell blocks)))

    module _ (h : b < blocks) {r t : Bool} (e : r ≡ frees b) (told : r ≡ t) where
      pub changed_not : f (was b t) ≡ was b t → row ≡ changed f row b
      changed_not is = rw (at-is b h e told, is, ← at-is b h e told) (sym (set-get_or row b absent))

      pub changed_as : (g : Cell → Cell) → g (was b t) ≡ f (was b t) → changed g row b ≡ changed f row b
      changed_as g is = rw (at-is b h e told) (ap (set row b) is)

      -- the arrays or the set change at b alone
      stored : (gens' counts' : List ℕ) (frees' : ℕ → Bool) → f (was b t) ≡ cell_at gens' counts' frees' b →
          ((k : ℕ) → (k ≡ b → ⊥) → cell_at gens' counts' frees' k ≡ cell k) → row_of gens' counts' frees' ≡ changed f row b
      unfolding row_of
      stored gens' counts' frees' here there =
          tab-set cell (cell_at gens' counts' frees') blocks b (f (at row b)) h (sym (ap f (at-is b h e told) ∙ here)) (λ k l ne. there k ne)

      pub stored-count : (n : ℕ) → length counts ≡ blocks → f (was b t) ≡ cell_of (get_or gens b 0) n t → row_of gens (set counts b n) frees ≡ changed f row b
      stored-count n l to =
          stored gens (set counts b n) frees
          (rw (get_or-set_same counts b n 0 (omega arith), ← e, told) to)
          (λ k ne. rw (get_or-set_other counts b k n 0 ne))

      pub stored-taken : (n : ℕ) (s : Bool) → length counts ≡ blocks → f (was b t) ≡ cell_of (get_or gens b 0) n s →
          row_of gens (set counts b n) (put b s frees) ≡ changed f row b
      stored-taken n s l to =
          stored gens (set counts b n) (put b s frees)
          (rw (get_or-set_same counts b n 0 (omega arith), put-here) to)
          (λ k ne. rw (get_or-set_other counts b k n 0 ne, put_other b s frees k ne))

      pub stored_freed : (g : ℕ) (s : Bool) → length gens ≡ blocks → f (was b t) ≡ cell_of g (get_or counts b 0) s →
          row_of (set gens b g) counts (put b s frees) ≡ changed f row b
      stored_freed g s l to =
          stored (set gens b g) counts (put b s frees)
          (rw (get_or-set_same gens b g 0 (omega arith), put-here) to)
          (λ k ne. rw (get_or-set_other gens b k g 0 ne, put_other b s frees k ne))

    -- the same as promises of an operation that may free
    module _ (freeing : Cell → Bool) where
      pub frees_out : freeing absent ≡ false → blocks ≤ b → Frees f freeing row b row false
      frees_out e h = record { answer = rw (at_out b h) (sym e); row = changed_out h }

      module _ (h : b < blocks) {r t : Bool} (e : r ≡ frees b) (told : r ≡ t) where
        pub frees_not : (f (was b t) ≡ was b t) × (freeing (was b t) ≡ false) → Frees f freeing row b row false
        frees_not is = record { answer = rw (at-is b h e told) (sym is.1); row = changed_not h e told is.0 }

        pub frees_it : (s : List Cell) → s ≡ changed went_back row b → (went_back (was b t) ≡ f (was b t)) × (freeing (was b t) ≡ true) →
            Frees f freeing row b s true
        frees_it s went is = record { answer = rw (at-is b h e told) (sym is.1); row = went ∙ changed_as h e told went_back is.0 }

        pub frees-count : (n : ℕ) → length counts ≡ blocks → (f (was b t) ≡ cell_of (get_or gens b 0) n t) × (freeing (was b t) ≡ false) →
            Frees f freeing row b (row_of gens (set counts b n) frees) false
        frees-count n l to = record { answer = rw (at-is b h e told) (sym to.1); row = stored-count h e told n l to.0 }
