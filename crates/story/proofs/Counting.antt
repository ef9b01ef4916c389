-- Demand 2, blocks: they count what refers to them, go back when the last of it goes, and are handed out again.
use mathlib.Core.Bool.{true, false}
use mathlib.Core.List.{List}
use mathlib.Core.Logic.{◌⊎◌, inl, inr, ⊎_elim}
use mathlib.Core.Path.{◌≡◌, refl, sym, ap, ◌∙◌}
use Prim.Native.Nat.{ℕ, zero, suc, ◌<◌}
use native.Mathlib.Omega.{arith}
use lib.ListN.{length}
use Rattle.std.proofs.Common.{Option, Some, None}
use Rattle.ground.specs.Bools.{eq_or, no_yes}
use Rattle.pool.specs.Cell.{Cell, free, live, retired, absent, is_free, generation_of, handed_out, dropped}
use Rattle.pool.specs.Laws.{Lowest, changed-here, found_again, found-lowest, pool-end}
use Rattle.pool.specs.Row.{at, blocks, found, generation_at, pool_for}
use Rattle.pool.specs.declared.Span.{Span}
use Rattle.machine.proofs.Counts.{back_not_live, live_counted}
use Rattle.machine.proofs.Tests.{none_holds}
use Rattle.machine.specs.Events.{freed_new, none_found, new_tests, new_event, new_in, receivers, publish_done}
use Rattle.machine.specs.Inv.{count_of, is_live}
use Rattle.machine.specs.Machine.{payload, spoilt_new}
use Rattle.machine.specs.Numbers.{objects}
use Rattle.machine.specs.Reply.{Areas, Answer}
use Rattle.machine.specs.State.{State, signal_in}
use Rattle.story.specs.Calls.{Call, Story, then, kernel, answer_in}
use Rattle.story.specs.Demands.{Counted, Freed, GoesBack, Generations, Handed, Again, OnlyNew}
use Rattle.story.specs.Table.{NEW, PUBLISH, DROP}
use Rattle.story.specs.Terms.{argument, event, generation, Did, cell, refer, Counts, LastGoes, NewGoes}
use Rattle.story.proofs.Cells.{moves_back, moves_generation, moves_gone, moves_live}
use Rattle.story.proofs.Handles.{EndsWith, new_ends}
use Rattle.story.proofs.Lasting.{is_there, last_most, there, turned}
use Rattle.story.proofs.Made.{Made, new_made, publish_made, drop_made}
use Rattle.story.proofs.Refusals.{kept}

counts : (c : Cell) (n : ℕ) → is_there c ≡ true → count_of c ≡ n → Counts c n
unfolding is_there count_of Counts
counts (free g) n t e = sym e
counts (live g m) n t e = e
counts (retired g) n t e = sym e
counts absent n t e = no_yes t

pub counted : Counted
counted h b l = counts (cell h b) (refer h b) (there h b l) ((kept h).counted b l)

-- a block that is not live counts nothing; a new one that is dropped is not live
not_counted : (c : Cell) → is_live c ≡ false → count_of c ≡ 0
not_counted c e = ⊎_elim (λ z. z) (λ ne. no_yes (sym e ∙ live_counted c (omega arith))) (eq_or (count_of c) 0)

dropped_goes : (c : Cell) → is_live c ≡ true → count_of c ≡ 0 → is_live (dropped c) ≡ false
unfolding is_live count_of dropped
dropped_goes (free g) l e = refl
dropped_goes (live g zero) l e = back_not_live g
dropped_goes (live g (suc n)) l e = absurd (omega arith)
dropped_goes (retired g) l e = refl
dropped_goes absent l e = refl

module _ (h : Story) (c : Call) (b : ℕ) (l : b < blocks) (lives : is_live (cell h b) ≡ true) where
  count : count_of (cell h b) ≡ refer h b
  count = (kept h).counted b l

  count-after : count_of (cell (then h c) b) ≡ refer (then h c) b
  count-after = (kept (then h c)).counted b l

  forth : is_live (cell (then h c) b) ≡ false → LastGoes h c b ⊎ NewGoes h c b
  forth gone =
      ⊎_elim
      (λ p. inl (record { had = omega (arith, count); gone = sym count-after ∙ not_counted (cell (then h c) b) gone }))
      (λ w. inr (record { new = sym count ∙ w.0; this = w.1.0; how = w.1.1 }))
      (moves_back _ _ _ _ (turned h c b) lives gone).1

  -- the kernel after is the one in which block b is dropped
  gone_new : NewGoes h c b → kernel (then h c) ≡ freed_new (kernel h) b → is_live (cell (then h c) b) ≡ false
  gone_new w e =
      rw (e, changed-here dropped (kernel h).cells b (omega (arith, (kept h).store.cells-length))) (dropped_goes (cell h b) lives (count ∙ w.new))

  nobody : (n : ℕ) → n ≡ 0 → (publish_done n b (kernel h) c.areas).state ≡ freed_new (kernel h) b
  unfolding publish_done
  nobody n z = rw z refl

  new_goes : (w : NewGoes h c b) → Did DROP h c ⊎ (Did PUBLISH h c × (receivers (kernel h) (signal_in (kernel h) b) objects ≡ 0)) → kernel (then h c) ≡ freed_new (kernel h) b
  unfolding kernel
  new_goes w (inl did) =
      let m = drop_made (kernel h) c.command c.chart c.areas did.1 did.0 in
      ap (λ a. a.state) m.is ∙ ap (freed_new (kernel h)) w.this
  new_goes w (inr did) =
      let m = publish_made (kernel h) c.command c.chart c.areas did.0.1 did.0.0 in
      ap (λ a. a.state) m.is
      ∙ ap (λ k. (publish_done (receivers (kernel h) (signal_in (kernel h) k) objects) k (kernel h) c.areas).state) w.this
      ∙ nobody _ did.1

  goes : LastGoes h c b ⊎ NewGoes h c b → is_live (cell (then h c) b) ≡ false
  goes (inl w) = moves_gone _ _ _ _ (turned h c b) (omega (arith, count, w.had)) (count-after ∙ w.gone)
  goes (inr w) = gone_new w (new_goes w w.how)

pub freed : Freed
freed h c b l lives = (forth h c b l lives, goes h c b l lives)

pub goes_back : GoesBack
goes_back h c b l lives gone = (moves_back _ _ _ _ (turned h c b) lives gone).0

pub generations : Generations
generations h c b l = (moves_generation _ _ _ _ (turned h c b), last_most h b)

-- a free block is not live
not_both : (c : Cell) → is_free c ≡ true → is_live c ≡ true → ⊥
unfolding is_free is_live
not_both (free g) f l = no_yes l
not_both (live g n) f l = no_yes f
not_both (retired g) f l = no_yes l
not_both absent f l = no_yes l

pub only_new : OnlyNew
only_new h c b f lives = ⊎_elim (λ l. absurd (not_both (cell h b) f l)) (λ w. w) (moves_live _ _ _ _ (turned h c b) lives)

-- NEW hands out the lowest free block.
handed_at : (s : State) (b g n : ℕ) (l : List ℕ) (z : Areas) (a : Answer) → b < length s.cells → a ≡ new_in (Some b) g n l s z →
    EndsWith b (generation_of (at s.cells b)) a.reply × (at a.state.cells b ≡ live (generation_of (at s.cells b)) 0)
unfolding new_in new_event generation_at handed_out
handed_at s b g n l z a m e = rw e (new_ends s b g n l z, changed-here handed_out s.cells b m)

module _ (h : Story) (c : Call) (did : Did NEW h c) where
  abbrev pool : Span
  pool = pool_for (argument c 2)

  HandsOut : ℕ → Type 0
  HandsOut b = Lowest (kernel h).cells pool b × (generation h c ≡ generation_of (cell h b)) × (cell (then h c) b ≡ live (generation_of (cell h b)) 0)

  made : Made (answer_in h c) (new_tests (spoilt_new (argument c 2) c.command) (argument c 1) (argument c 2) (kernel h) c.areas.payloads)
      (new_in (found (kernel h).cells (argument c 2)) (argument c 1) (argument c 2) (payload c.command) (kernel h) c.areas)
  made = new_made (kernel h) c.command c.chart c.areas did.1 did.0

  takes : (b : ℕ) → Lowest (kernel h).cells pool b → found (kernel h).cells (argument c 2) ≡ Some b → (event h c ≡ b) × HandsOut b
  unfolding kernel HandsOut
  takes b w f =
      let l : b < length (kernel h).cells = omega (arith, w.high, pool-end (argument c 2), (kept h).store.cells-length) in
      let x = handed_at (kernel h) b (argument c 1) (argument c 2) (payload c.command) c.areas _ l (rw f at made.is) in
      (x.0.event, (w, x.0.generation (last_most h b), x.1))

  some : (f : Option ℕ) → found (kernel h).cells (argument c 2) ≡ f → HandsOut (event h c)
  unfolding new_tests none_found
  some (Some b) f = let x = takes b (found-lowest (kernel h).cells pool b f) f in rw x.0 x.1
  some None f =
      no_yes (sym (rw f at (none_holds (new_tests (spoilt_new (argument c 2) c.command) (argument c 1) (argument c 2) (kernel h) c.areas.payloads) refl made.none).1.1.1.1.0))

pub handed : Handed
unfolding HandsOut
handed h c did = some h c did (found (kernel h).cells (argument c 2)) refl

pub again : Again
again h c b did w = (takes h c did b w (found_again (kernel h).cells (pool_for (argument c 2)) b w)).0
