-- A story with a retired block: NEW and DROP, once for each generation of block 0. Too long for a run, so by induction.
use mathlib.Core.Bool.{true}
use mathlib.Core.List.{List, [], ◌∷◌, ◌++◌}
use mathlib.Core.Path.{◌≡◌, refl, ◌∙◌}
use Prim.Native.Nat.{ℕ, zero, suc, ◌/◌, ◌%◌, ◌≤◌, ◌<◌}
use native.Mathlib.Numerals.{add-one}
use native.Mathlib.Omega.{arith}
use borrow.Author.Tests.{eq-eqb, lt-leb, lt-ltb}
use lib.ListN.{length, replicate, length-replicate}
use lib.Seq.{get_or-set_same}
use Rattle.ground.specs.Bytes.{blank}
use Rattle.ground.specs.Range.{every_from, first_from}
use Rattle.pool.specs.Cell.{free, live, absent, is_free, is_retired, is_new, generation_of, stale_for, last_generation, back, handed_out, dropped}
use Rattle.pool.specs.Laws.{changed-here}
use Rattle.pool.specs.Row.{at, found_in, lowest_free, pool_for, stale_at}
use Rattle.machine.specs.Events.{none_found, new_tests, new_event, new_in, new, drop_tests, drop_event}
use Rattle.machine.specs.Machine.{spoilt, spoilt_new, choose, command, answer_to}
use Rattle.machine.specs.Numbers.{outside, payload_bytes}
use Rattle.machine.specs.Reply.{Areas, handle, lowest, unless}
use Rattle.machine.specs.State.{State}
use Rattle.story.specs.Calls.{are_bytes, Call, Story, fresh, then, kernel}
use Rattle.story.specs.Table.{NEW, DROP}
use Rattle.story.specs.Terms.{cell}
use Rattle.story.proofs.Handles.{three_bytes}
use Rattle.story.proofs.Refusals.{kept}

-- The two records: a NEW of no bytes, and a DROP with the handle of block 0 at generation g.
abbrev new_record : List ℕ
new_record = NEW ∷ 4 ∷ replicate 70 0

abbrev drop_record : ℕ → List ℕ
drop_record g = DROP ∷ (handle 0 g ++ replicate 67 0)

new-bytes : are_bytes new_record ≡ true
unfolding are_bytes every_from
new-bytes = refl

drop-bytes : (g : ℕ) → are_bytes (drop_record g) ≡ true
unfolding are_bytes every_from handle
drop-bytes g = rw (lt-ltb (g % 256) 256 (omega arith), lt-ltb (g / 256 % 256) 256 (omega arith), lt-ltb (g / 65536 % 256) 256 (omega arith)) refl

-- What they make of block 0.
module _ (s : State) (z : Areas) (g : ℕ) (some : 0 < length s.cells) where
  new_first : length z.payloads ≡ payload_bytes → at s.cells 0 ≡ free g → at (answer_to s new_record [] z).state.cells 0 ≡ live g 0
  unfolding answer_to command choose new new_tests none_found lowest unless outside spoilt_new blank every_from new_in new_event found_in lowest_free pool_for first_from is_free
      handed_out generation_of
  new_first whole e = rw (whole, e) (changed-here handed_out s.cells 0 some ∙ rw e refl)

  drop_first : g ≤ last_generation → at s.cells 0 ≡ live g 0 → at (answer_to s (drop_record g) [] z).state.cells 0 ≡ back g
  unfolding answer_to command choose drop_event drop_tests lowest unless outside spoilt blank every_from is_new stale_at stale_for dropped handle
  drop_first l e = rw (e, three_bytes g l, eq-eqb g g refl) (get_or-set_same s.cells 0 (back g) absent some)

-- The two calls, and what the one after the other makes of it.
abbrev lent : Areas
lent = record { payloads = replicate payload_bytes 0; tables = record { plain = []; guarded = [] }; log = [] }

abbrev new_call : Call
new_call = record { command = new_record; bytes = new-bytes; chart = []; areas = lent }

abbrev drop_call : ℕ → Call
drop_call g = record { command = drop_record g; bytes = drop-bytes g; chart = []; areas = lent }

goes_back : (h : Story) (g : ℕ) → g ≤ last_generation → cell h 0 ≡ free g → cell (then (then h new_call) (drop_call g)) 0 ≡ back g
unfolding kernel
goes_back h g l e =
    let some : (h : Story) → 0 < length (kernel h).cells = λ h. omega (arith, (kept h).store.cells-length) in
    drop_first _ lent g (some (then h new_call)) l (new_first (kernel h) lent g (some h) (length-replicate {A = ℕ} payload_bytes 0) e)

-- The story up to each generation, and the one step further in which the block is retired.
comes_to : (g : ℕ) → g ≤ last_generation → (h : Story) × (cell h 0 ≡ free g)
unfolding back
comes_to zero l = (fresh, unfold kernel in refl)
comes_to (suc g) l =
    let w = comes_to g (omega arith) in
    (then (then w.0 new_call) (drop_call g), goes_back w.0 g (omega arith) w.1 ∙ rw (lt-leb last_generation g (omega arith), add-one) refl)

pub retires : (h : Story) × (is_retired (cell h 0) ≡ true)
unfolding back is_retired
retires =
    let w = comes_to last_generation (omega arith) in
    (then (then w.0 new_call) (drop_call last_generation), rw (goes_back w.0 last_generation (omega arith) w.1) refl)
