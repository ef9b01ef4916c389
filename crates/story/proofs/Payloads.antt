-- Payloads: as long as nobody but the kernel writes to them, a live block has what its NEW gave.
use mathlib.Core.Bool.{Bool, true, false, cond}
use mathlib.Core.List.{List, ◌++◌}
use mathlib.Core.Logic.{⊎_elim}
use mathlib.Core.Path.{◌≡◌, refl, sym, ap, ◌∙◌}
use Prim.Native.Nat.{ℕ, ◌+◌, ◌*◌, ◌-◌, ◌≤◌, ◌<◌}
use native.Mathlib.Decide.{ℕ_discrete, dec_lt}
use native.Mathlib.Omega.{arith}
use borrow.Author.Tests.{eqb-true, eq-eqb, ne_eqb, ltb-true, ltb-false, not-false}
use lib.Dec.{eqb, ltb}
use lib.ListN.{length, get_or, set, take, drop, replicate, length-drop}
use lib.Seq.{get_or-set_other, get_or-set_same, length-take-le, take-take, take_at}
use Rattle.std.proofs.Common.{Option, Some, None}
use Rattle.ground.specs.Bools.{no_yes, eq_or}
use Rattle.ground.specs.Bytes.{padded}
use Rattle.ground.specs.Padding.{length-padded}
use Rattle.chart.proofs.Theorems.{slot_size_lem}
use Rattle.pool.specs.Cell.{handed_out}
use Rattle.pool.specs.Laws.{changed_other, found-lowest, pool-end}
use Rattle.pool.specs.Row.{at, blocks, found, pool_for}
use Rattle.machine.proofs.Blocks.{place_end}
use Rattle.machine.proofs.Counts.{live_handle}
use Rattle.machine.proofs.Tests.{NoneHolds, none_holds, within_high, within_block}
use Rattle.machine.specs.Events.{none_found, new_tests, new_event, new_in, read_tests, payload_of, read_part}
use Rattle.machine.specs.Inv.{is_live}
use Rattle.machine.specs.Machine.{generation, payload, spoilt, spoilt_new, part_of}
use Rattle.machine.specs.Numbers.{edition_of, payload_bytes, record_bytes, capacity, place_of}
use Rattle.machine.specs.Reply.{Areas, Answer, over, lowest}
use Rattle.machine.specs.State.{State, size_in}
use Rattle.story.specs.Calls.{Call, Story, fresh, then, kernel, answer_in, payload_area, left, OnlyKernel}
use Rattle.story.specs.Demands
use Rattle.story.specs.Table.{LOAD, NEW, READ, DRAIN}
use Rattle.story.specs.Terms.{argument, command_of, number, event, Did, given_to, cell}
use Rattle.story.proofs.Cells.{moves_live}
use Rattle.story.proofs.Handles.{said_event, new_ends}
use Rattle.story.proofs.Lasting.{fresh-each, turned}
use Rattle.story.proofs.Lent.{before, lent, left_same, left_whole}
use Rattle.story.proofs.Made.{Made, is_long, load_done_lem, new_made, read_made}
use Rattle.story.proofs.Over.{over-length, over-here, over-before, over-behind}
use Rattle.story.proofs.Pairs.{drain_log}
use Rattle.story.proofs.Refusals.{kept}
use Rattle.story.proofs.Slots.{filled_plain, filled_guarded}
use Rattle.story.proofs.Tables.{load-within, frame, does_not, does_so, unchanged_state, unchanged_areas}

-- The places of the blocks are apart, in order.
places_apart : (b k : ℕ) → b < k → place_of b + capacity b ≤ place_of k
unfolding place_of capacity
places_apart b k l = go (ltb b 32) refl (ltb b 48) refl (ltb k 32) refl (ltb k 48) refl
  where
    go : (t : Bool) → ltb b 32 ≡ t → (u : Bool) → ltb b 48 ≡ u → (v : Bool) → ltb k 32 ≡ v → (w : Bool) → ltb k 48 ≡ w →
        cond t (16 * b) (cond u (512 + 32 * (b - 32)) (1024 + 64 * (b - 48))) + cond t 16 (cond u 32 64)
        ≤ cond v (16 * k) (cond w (512 + 32 * (k - 32)) (1024 + 64 * (k - 48)))
    go true e u f true g w x = omega arith
    go true e u f false g true x = omega (arith, ltb-true b 32 e, ltb-false k 32 g)
    go true e u f false g false x = omega (arith, ltb-true b 32 e, ltb-false k 48 x)
    go false e u f true g w x = absurd (omega (arith, ltb-false b 32 e, ltb-true k 32 g))
    go false e true f false g true x = omega (arith, ltb-false b 32 e)
    go false e true f false g false x = omega (arith, ltb-false b 32 e, ltb-true b 48 f, ltb-false k 48 x)
    go false e false f false g true x = absurd (omega (arith, ltb-false b 48 f, ltb-true k 48 x))
    go false e false f false g false x = omega (arith, ltb-false b 48 f)

-- Block b has the payload l in the area: its size, and its bytes, then zeros.
pub record Has (n : ℕ) (area : List ℕ) (b : ℕ) (l : List ℕ) : Type 0 where
  pub size : n ≡ length l
  pub bytes : take (capacity b) (drop (place_of b) area) ≡ padded (capacity b) l

abbrev pub Given : Story → List ℕ → ℕ → Type 0
Given h first b = Has (size_in (kernel h) b) (left payload_area first h) b (given_to h b)

module _ (h : Story) (c : Call) (first : List ℕ) (only : OnlyKernel payload_area first (then h c)) (b : ℕ) (l : b < blocks) (lives : is_live (cell (then h c) b) ≡ true) where
  -- a call that is no NEW that was done
  lived : (Did NEW h c → ⊥) → is_live (cell h b) ≡ true
  lived ne = ⊎_elim (λ e. e) (λ w. absurd (ne w.0)) (moves_live _ _ _ _ (turned h c b) lives)

  given_same : (Did NEW h c → ⊥) → given_to (then h c) b ≡ given_to h b
  unfolding given_to
  given_same ne = rw (does_not h c NEW ne) refl

  refused-has : (number h c ≡ 0 → ⊥) → Given h first b → Given (then h c) first b
  refused-has ne w =
      rw (unchanged_state h c ne, left_same payload_area first h c only (ap (λ z. z.payloads) (unchanged_areas h c ne)), given_same (λ did. ne did.1)) w

  other_has : (command_of c ≡ NEW → ⊥) → Given h first b → Given (then h c) first b
  unfolding kernel
  other_has ne w =
      let e : size_in (answer_in h c).state b ≡ size_in (kernel h) b = ap (λ (x : List ℕ). get_or x b 0) ((frame h c).sizes ne) in
      rw (e, left_same payload_area first h c only ((frame h c).payloads ne), given_same (λ did. ne did.0)) w

-- NEW writes one block's place.
module _ (sizes area : List ℕ) (k n : ℕ) (p : List ℕ) (l : k < length sizes) (m : k < blocks) (whole : length area ≡ payload_bytes) (long : length p ≡ n) where
  fits : place_of k + length (padded (capacity k) p) ≤ length area
  fits = omega (arith, place_end k m, length-padded (capacity k) p)

  placed : (b : ℕ) (g : List ℕ) → ((b ≡ k → ⊥) → Has (get_or sizes b 0) area b g) →
      Has (get_or (set sizes k n) b 0) (over area (place_of k) (padded (capacity k) p)) b (cond (eqb k b) p g)
  placed b g was = go (ℕ_discrete b k) (dec_lt b k)
    where
      go : Dec (b ≡ k) → Dec (b < k) → Has (get_or (set sizes k n) b 0) (over area (place_of k) (padded (capacity k) p)) b (cond (eqb k b) p g)
      go (yes e) d = rw (e, eq-eqb k k refl) (record {
        size = get_or-set_same sizes k n 0 l ∙ sym long;
        bytes = rw (length-padded (capacity k) p) at (over-here area (place_of k) (padded (capacity k) p) fits);
      })
      go (no ne) (yes d) = rw (ne_eqb k b (λ e. ne (sym e))) (record {
        size = get_or-set_other sizes k b n 0 ne ∙ (was ne).size;
        bytes = over-before area (place_of k) (padded (capacity k) p) fits (place_of b) (capacity b) (places_apart b k d) ∙ (was ne).bytes;
      })
      go (no ne) (no d) = rw (ne_eqb k b (λ e. ne (sym e))) (record {
        size = get_or-set_other sizes k b n 0 ne ∙ (was ne).size;
        bytes =
            over-behind area (place_of k) (padded (capacity k) p) fits (place_of b) (capacity b) (omega (arith, places_apart k b (omega arith), length-padded (capacity k) p))
            ∙ (was ne).bytes;
      })

-- what NEW answers that found block k
record News (s : State) (z : Areas) (g n : ℕ) (l : List ℕ) (k : ℕ) (a : Answer) : Type 0 where
  sizes : a.state.events.sizes ≡ set s.events.sizes k n
  payloads : a.areas.payloads ≡ over z.payloads (place_of k) (padded (capacity k) (take n l))
  event : said_event a.reply ≡ k
  others : (b : ℕ) → (b ≡ k → ⊥) → at a.state.cells b ≡ at s.cells b

news_of : (s : State) (z : Areas) (g n : ℕ) (l : List ℕ) (k : ℕ) (a : Answer) → a ≡ new_in (Some k) g n l s z → News s z g n l k a
unfolding new_in new_event
news_of s z g n l k a e = record {
  sizes = rw e refl;
  payloads = rw e refl;
  event = rw e (new_ends s k g n l z).event;
  others = λ b ne. rw e (changed_other handed_out s.cells k b ne);
}

module _ (h : Story) (c : Call) (did : Did NEW h c) where
  abbrev s : State
  s = kernel h

  abbrev r : List ℕ
  r = c.command

  made : Made (answer_in h c) (new_tests (spoilt_new (argument c 2) r) (argument c 1) (argument c 2) s c.areas.payloads)
      (new_in (found s.cells (argument c 2)) (argument c 1) (argument c 2) (payload r) s c.areas)
  made = new_made s r c.chart c.areas did.1 did.0

  none : NoneHolds (new_tests (spoilt_new (argument c 2) r) (argument c 1) (argument c 2) s c.areas.payloads)
  unfolding new_tests
  none = none_holds (new_tests (spoilt_new (argument c 2) r) (argument c 1) (argument c 2) s c.areas.payloads) refl made.none

  whole : length c.areas.payloads ≡ payload_bytes
  unfolding new_tests
  whole = eqb-true _ payload_bytes (not-false _ none.1.0)

  small : argument c 2 ≤ 64
  unfolding new_tests
  small = within_high 0 64 (argument c 2) none.1.1.1.0

  is_found : none_found (found s.cells (argument c 2)) ≡ false
  unfolding new_tests
  is_found = none.1.1.1.1.0

  given_long : length (take (argument c 2) (payload r)) ≡ argument c 2
  given_long = length-take-le (argument c 2) (payload r) (omega (arith, small, length-drop 8 r, eqb-true (length r) record_bytes (is_long s r c.chart c.areas did.1)))

  given-new : (k b : ℕ) → event h c ≡ k → given_to (then h c) b ≡ cond (eqb k b) (take (argument c 2) (payload r)) (given_to h b)
  unfolding given_to
  given-new k b e = rw (does_so h c NEW did, e) refl

  new-has : (first : List ℕ) → OnlyKernel payload_area first (then h c) → (b : ℕ) → b < blocks → is_live (cell (then h c) b) ≡ true → (is_live (cell h b) ≡ true → Given h first b) → (f : Option ℕ) →
      found s.cells (argument c 2) ≡ f → Given (then h c) first b
  unfolding none_found kernel
  new-has first only b l lives was (Some k) e =
      let w = found-lowest s.cells (pool_for (argument c 2)) k e in
      let m : k < blocks = omega (arith, w.high, pool-end (argument c 2)) in
      let x = news_of s c.areas (argument c 1) (argument c 2) (payload r) k (answer_in h c) (rw e at made.is) in
      let area : c.areas.payloads ≡ left payload_area first h = lent payload_area first h c only whole in
      let z : size_in (answer_in h c).state b ≡ get_or (set s.events.sizes k (argument c 2)) b 0 = ap (λ (y : List ℕ). get_or y b 0) x.sizes in
      rw (z, left_whole payload_area first h c only whole, x.payloads, given-new k b x.event) (
      placed s.events.sizes c.areas.payloads k (argument c 2) (take (argument c 2) (payload r)) (omega (arith, (kept h).store.sizes_length)) m whole given_long b (given_to h b)
      (λ ne. rw area (was (rw (x.others b ne) at lives))))
  new-has first only b l lives was None e = no_yes (sym (rw e at is_found))

  new-length : (f : Option ℕ) → found s.cells (argument c 2) ≡ f → length (answer_in h c).areas.payloads ≡ length c.areas.payloads
  unfolding none_found
  new-length (Some k) e =
      let w = found-lowest s.cells (pool_for (argument c 2)) k e in
      let m : k < blocks = omega (arith, w.high, pool-end (argument c 2)) in
      let x = news_of s c.areas (argument c 1) (argument c 2) (payload r) k (answer_in h c) (rw e at made.is) in
      ap length x.payloads ∙ over-length c.areas.payloads (place_of k) _ (omega (arith, whole, place_end k m, length-padded (capacity k) (take (argument c 2) (payload r))))
  new-length None e = no_yes (sym (rw e at is_found))

given : (h : Story) (first : List ℕ) → OnlyKernel payload_area first h → (b : ℕ) → b < blocks → is_live (cell h b) ≡ true → Given h first b
given fresh first only b l lives =
    let none : is_live (cell fresh b) ≡ false = unfold is_live in fresh-each (λ c. is_live c ≡ false) refl refl b in
    no_yes (sym none ∙ lives)
given (then h c) first only b l lives =
    let was = given h first (before payload_area first h c only) b l in
    ⊎_elim (λ d.
    ⊎_elim
    (λ e. new-has h c (e, d) first only b l lives was (found (kernel h).cells (argument c 2)) refl)
    (λ ne. other_has h c first only b l lives ne (was (lived h c first only b l lives (λ did. ne did.0))))
    (eq_or (command_of c) NEW))
    (λ ne. refused-has h c first only b l lives ne (was (lived h c first only b l lives (λ did. ne did.1))))
    (eq_or (number h c) 0)

pub payloads : Demands.Payloads
payloads h first only b l lives = let w = given h first only b l lives in (w.size, w.bytes)

-- ## The lengths of the areas
same_length : (f : Areas → List ℕ) (h : Story) (c : Call) (n : ℕ) → ((command_of c ≡ n → ⊥) → f (answer_in h c).areas ≡ f c.areas) →
    (Did n h c → length (f (answer_in h c).areas) ≡ length (f c.areas)) → length (f (answer_in h c).areas) ≡ length (f c.areas)
same_length f h c n other this =
    ⊎_elim (λ d. ⊎_elim (λ e. this (e, d)) (λ ne. ap length (other ne)) (eq_or (command_of c) n)) (λ ne. ap (λ z. length (f z)) (unchanged_areas h c ne)) (eq_or (number h c) 0)

load_lengths : (h : Story) (c : Call) → Did LOAD h c → let t = (answer_in h c).areas.tables in
    (length t.plain ≡ length c.areas.tables.plain) × (length t.guarded ≡ length c.areas.tables.guarded)
load_lengths h c did =
    let q = argument c 1 in
    let w = load-within h c did in
    let long = slot_size_lem (edition_of q) c.chart in
    let e = (load_done_lem (kernel h) c.command c.chart c.areas did.1 did.0).1 in (
      ap (λ a. length a.areas.tables.plain) e ∙ filled_plain q _ c.areas.tables w.1 w.0 long,
      ap (λ a. length a.areas.tables.guarded) e ∙ filled_guarded q _ c.areas.tables w.1 w.0 long,
    )

pub lengths : Demands.Lengths
lengths h c = (
  same_length (λ z. z.payloads) h c NEW (frame h c).payloads (λ did. new-length h c did (found (kernel h).cells (argument c 2)) refl),
  same_length (λ z. z.tables.plain) h c LOAD (λ ne. ap (λ t. t.plain) ((frame h c).tables ne)) (λ did. (load_lengths h c did).0),
  same_length (λ z. z.tables.guarded) h c LOAD (λ ne. ap (λ t. t.guarded) ((frame h c).tables ne)) (λ did. (load_lengths h c did).1),
  same_length (λ z. z.log) h c DRAIN (frame h c).log (drain_log h c),
)

-- ## READ
front_of : (k : ℕ) (l : List ℕ) → length l ≤ k → take (length l) (padded k l) ≡ l
unfolding padded
front_of k l h = take-take (length l) k (l ++ replicate k 0) h ∙ take_at l (replicate k 0) (length l) refl

part_is : (s : State) (r area : List ℕ) → eqb (length r) record_bytes ≡ true → get_or r 0 0 ≡ READ →
    lowest (read_tests (spoilt 4 r) (get_or r 1 0) (generation r) s area) ≡ 0 → part_of s r area ≡ payload_of s (get_or r 1 0) area
unfolding part_of read_part
part_is s r area long e none = rw (long, e, none) refl

pub reads : Demands.Reads
unfolding read_tests payload_of
reads h c first only did =
    let s = kernel h in
    let r = c.command in
    let b = argument c 1 in
    let area = c.areas.payloads in
    let m = read_made s r c.chart c.areas did.1 did.0 in
    let n = none_holds (read_tests (spoilt 4 r) b (generation r) s area) refl m.none in
    let whole : length area ≡ payload_bytes = eqb-true _ payload_bytes (not-false _ n.1.0) in
    let l : b < blocks = within_block b n.1.1.0 in
    let lives = live_handle s.cells b (generation r) n.1.1.1.0 in
    let w = given h first (before payload_area first h c only) b l lives in
    let fits : size_in s b ≤ capacity b = (kept h).store.size b lives in
    part_is s r area (is_long s r c.chart c.areas did.1) did.0 m.none
    ∙ sym (take-take (size_in s b) (capacity b) (drop (place_of b) area) fits)
    ∙ ap (take (size_in s b)) (ap (λ (x : List ℕ). take (capacity b) (drop (place_of b) x)) (lent payload_area first h c only whole) ∙ w.bytes)
    ∙ ap (λ (k : ℕ). take k (padded (capacity b) (given_to h b))) w.size
    ∙ front_of (capacity b) (given_to h b) (omega (arith, w.size))
