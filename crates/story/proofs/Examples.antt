-- A run from a fresh start, by computation: a chart is loaded and an object started, a block is posted, held, read, released and freed, a
-- handle is refused as stale, the block is handed out again and drained, a new event is dropped, an event is set aside twice, recalled and
-- flushed; a guarded chart is loaded, an object started on it, one of its flags set twice, and a step taken by that flag's row; and then
-- somebody writes to the tables, so that DRAIN stops and NEXT is refused. Meets.antt says what it is for.
use mathlib.Core.Bool.{Bool, true, false, cond, not, ◌&&◌}
use mathlib.Core.List.{List, [], ◌∷◌, ◌++◌}
use mathlib.Core.Path.{◌≡◌, refl, sym, ap, ◌∙◌}
use Prim.Native.Nat.{ℕ, zero, suc, ◌+◌, ◌<◌, ◌≤◌}
use native.Mathlib.Nat.{add-zero, add-suc}
use native.Mathlib.Omega.{arith}
use lib.Dec.{eqb}
use lib.ListN.{length, get_or, take, replicate}
use Rattle.ground.specs.Bools.{and_left, and_right}
use Rattle.ground.specs.Bytes.{blank, padded}
use Rattle.ground.specs.Range.{count_from, first_from, every_from, tab_from}
use Rattle.bits.specs.Members.{put}
use Rattle.chart.specs.Alarm.{alarm, shift_with}
use Rattle.chart.specs.Chart
use Rattle.chart.specs.Flat
use Rattle.chart.specs.Shift.{shift}
use Rattle.chart.specs.Step
use Rattle.mail.specs.Box
use Rattle.mail.specs.Entry
use Rattle.pool.specs.Cell
use Rattle.pool.specs.Cell.{Cell, free, live}
use Rattle.pool.specs.Mark
use Rattle.pool.specs.Row
use Rattle.pool.specs.Row.{at}
use Rattle.machine.specs.Aside
use Rattle.machine.specs.Charts
use Rattle.machine.specs.Events
use Rattle.machine.specs.Inv
use Rattle.machine.specs.Inv.{references}
use Rattle.machine.specs.Machine
use Rattle.machine.specs.Machine.{answer_to}
use Rattle.machine.specs.Numbers
use Rattle.machine.specs.Numbers.{record_bytes, handle_place, reply_bytes, payload_bytes, table_bytes, guarded_bytes, log_bytes}
use Rattle.machine.specs.Reply
use Rattle.machine.specs.Reply.{Areas, Answer, BothTables}
use Rattle.machine.specs.State
use Rattle.machine.specs.State.{State, fresh_state, rest_of, started}
use Rattle.machine.specs.Steps
use Rattle.story.specs.Calls.{are_bytes, Call, Story, fresh, then, kernel, answer_in, Area, payload_area, table_area, guarded_area, left, OnlyKernel, left_tables, OnlyKernelTables}
use Rattle.story.specs.Terms.{reply, generation, cell, refer, earlier}
use Rattle.story.proofs.Handles.{said_generation}

-- ## Asking: each call is lent what the calls before left in the areas, zeros at first; or, of the tables, what somebody wrote: zeros
pub record Ask : Type 0 where
  pub command : List ℕ
  pub bytes : are_bytes command ≡ true
  pub chart : List ℕ
  pub honest : Bool

abbrev ask : (r d : List ℕ) → are_bytes (padded record_bytes r) ≡ true → Ask
ask r d e = record { command = padded record_bytes r; bytes = e; chart = d; honest = true }

abbrev ask_else : (r : List ℕ) → are_bytes (padded record_bytes r) ≡ true → Ask
ask_else r e = record { command = padded record_bytes r; bytes = e; chart = []; honest = false }

abbrev pub zeros : Area → List ℕ
zeros a = replicate a.size 0

abbrev pub no_tables : BothTables
no_tables = record { plain = zeros table_area; guarded = zeros guarded_area }

abbrev lends : Ask → List ℕ → BothTables → Areas
lends a p t = record { payloads = p; tables = cond a.honest t no_tables; log = replicate log_bytes 0 }

abbrev asked : Story → Ask → Call
asked h a = record {
  command = a.command;
  bytes = a.bytes;
  chart = a.chart;
  areas = lends a (left payload_area (zeros payload_area) h) (left_tables no_tables h);
}

unfoldable pub told : Story → List Ask → Story
told h [] = h
told h (a ∷ l) = told (then h (asked h a)) l

-- What is seen of a call: the reply, and afterwards block 0, what refers to it, where object 9 rests, and whether it is started.
pub record Seen : Type 0 where
  pub reply : List ℕ
  pub cell : Cell
  pub refers : ℕ
  pub rest : ℕ
  pub on : Bool

abbrev seen_of : Answer → Seen
seen_of a = record { reply = a.reply; cell = at a.state.cells 0; refers = references a.state 0; rest = rest_of a.state 9; on = started a.state 9 }

-- The run from a state and areas, call by call.
unfoldable run : State → List ℕ → BothTables → List Ask → List Seen
run s p t [] = []
run s p t (a ∷ l) =
    let z : Areas = lends a p t in
    let b : Answer = answer_to s a.command a.chart z in
    seen_of b
    ∷ run b.state (cond (eqb (length p) payload_bytes) b.areas.payloads p) (record {
      plain = cond (eqb (length z.tables.plain) table_bytes) b.areas.tables.plain t.plain;
      guarded = cond (eqb (length z.tables.guarded) guarded_bytes) b.areas.tables.guarded t.guarded;
    }) l

unfoldable pub asks : List Ask
unfolding are_bytes every_from padded
asks =
    ask (1 ∷ 0 ∷ []) shift refl
    ∷ ask (2 ∷ 9 ∷ 0 ∷ 2 ∷ []) [] refl
    ∷ ask (3 ∷ 6 ∷ 1 ∷ 0 ∷ 0 ∷ 0 ∷ 0 ∷ 0 ∷ 77 ∷ []) [] refl
    ∷ ask (4 ∷ 0 ∷ 0 ∷ 0 ∷ 0 ∷ 9 ∷ 0 ∷ []) [] refl
    ∷ ask (9 ∷ 0 ∷ 0 ∷ []) [] refl
    ∷ ask (12 ∷ []) [] refl
    ∷ ask (13 ∷ []) [] refl
    ∷ ask (17 ∷ 0 ∷ 0 ∷ []) [] refl
    ∷ ask (10 ∷ 0 ∷ 0 ∷ []) [] refl
    ∷ ask (4 ∷ 0 ∷ 0 ∷ 0 ∷ 0 ∷ 9 ∷ 0 ∷ []) [] refl
    ∷ ask (3 ∷ 9 ∷ 0 ∷ []) [] refl
    ∷ ask (4 ∷ 0 ∷ 1 ∷ 0 ∷ 0 ∷ 9 ∷ 0 ∷ []) [] refl
    ∷ ask (18 ∷ 5 ∷ []) [] refl
    ∷ ask (3 ∷ 4 ∷ 0 ∷ []) [] refl
    ∷ ask (11 ∷ 0 ∷ 2 ∷ []) [] refl
    ∷ ask (3 ∷ 9 ∷ 0 ∷ []) [] refl
    ∷ ask (4 ∷ 0 ∷ 3 ∷ 0 ∷ 0 ∷ 9 ∷ 0 ∷ []) [] refl
    ∷ ask (12 ∷ []) [] refl
    ∷ ask (19 ∷ 0 ∷ []) [] refl
    ∷ ask (19 ∷ 0 ∷ []) [] refl
    ∷ ask (20 ∷ 0 ∷ 9 ∷ []) [] refl
    ∷ ask (21 ∷ 0 ∷ []) [] refl
    ∷ ask (20 ∷ 0 ∷ 9 ∷ []) [] refl
    ∷ ask (13 ∷ []) [] refl
    ∷ ask (1 ∷ 4 ∷ []) alarm refl
    ∷ ask (2 ∷ 10 ∷ 4 ∷ 2 ∷ []) [] refl
    ∷ ask (22 ∷ 10 ∷ 3 ∷ 1 ∷ []) [] refl
    ∷ ask (22 ∷ 10 ∷ 3 ∷ 1 ∷ []) [] refl
    ∷ ask (4 ∷ 0 ∷ 3 ∷ 0 ∷ 0 ∷ 10 ∷ 0 ∷ []) [] refl
    ∷ ask (12 ∷ []) [] refl
    ∷ ask (13 ∷ []) [] refl
    ∷ ask_else (18 ∷ 5 ∷ []) refl
    ∷ ask_else (12 ∷ []) refl
    ∷ []

-- a reply, and one that ends with the handle of block 0 at a generation
abbrev sees : List ℕ → Cell → ℕ → ℕ → Seen
sees r c n x = record { reply = padded reply_bytes r; cell = c; refers = n; rest = x; on = not (eqb x 0) }

abbrev sees_event : List ℕ → ℕ → Cell → ℕ → ℕ → Seen
sees_event r gen = sees (padded handle_place r ++ (0 ∷ gen ∷ []))

unfoldable pub expected : List Seen
expected =
    sees (0 ∷ 0 ∷ 0 ∷ 0 ∷ 5 ∷ []) (free 0) 0 0
    ∷ sees (0 ∷ 9 ∷ 64 ∷ 4 ∷ 0 ∷ 0 ∷ 10 ∷ 11 ∷ 13 ∷ 21 ∷ []) (free 0) 0 2
    ∷ sees_event (0 ∷ 0 ∷ 0 ∷ 31 ∷ []) 0 (live 0 0) 0 2
    ∷ sees (0 ∷ 0 ∷ 0 ∷ 0 ∷ 1 ∷ []) (live 0 1) 1 2
    ∷ sees (0 ∷ 0 ∷ 0 ∷ 0 ∷ 1 ∷ []) (live 0 2) 2 2
    ∷ sees_event (0 ∷ 9 ∷ 70 ∷ 4 ∷ 0 ∷ 0 ∷ 26 ∷ 22 ∷ 31 ∷ 41 ∷ []) 0 (live 0 2) 2 4
    ∷ sees [] (live 0 1) 1 4
    ∷ sees (0 ∷ 0 ∷ 0 ∷ 1 ∷ 1 ∷ 0 ∷ 77 ∷ []) (live 0 1) 1 4
    ∷ sees (0 ∷ 0 ∷ 0 ∷ 0 ∷ 0 ∷ 1 ∷ []) (free 1) 0 4
    ∷ sees (7 ∷ []) (free 1) 0 4
    ∷ sees_event (0 ∷ 0 ∷ 0 ∷ 31 ∷ []) 1 (live 1 0) 0 4
    ∷ sees (0 ∷ 0 ∷ 0 ∷ 0 ∷ 1 ∷ []) (live 1 1) 1 4
    ∷ sees (0 ∷ 0 ∷ 0 ∷ 0 ∷ 1 ∷ 1 ∷ []) (free 2) 0 4
    ∷ sees_event (0 ∷ 0 ∷ 0 ∷ 31 ∷ []) 2 (live 2 0) 0 4
    ∷ sees [] (free 3) 0 4
    ∷ sees_event (0 ∷ 0 ∷ 0 ∷ 31 ∷ []) 3 (live 3 0) 0 4
    ∷ sees (0 ∷ 0 ∷ 0 ∷ 0 ∷ 1 ∷ []) (live 3 1) 1 4
    ∷ sees_event (0 ∷ 9 ∷ 41 ∷ 1 ∷ 0 ∷ 0 ∷ 49 ∷ []) 3 (live 3 1) 1 4
    ∷ sees (0 ∷ 0 ∷ 0 ∷ 0 ∷ 1 ∷ []) (live 3 2) 2 4
    ∷ sees (0 ∷ 0 ∷ 0 ∷ 0 ∷ 2 ∷ []) (live 3 3) 3 4
    ∷ sees (0 ∷ 0 ∷ 0 ∷ 0 ∷ 1 ∷ []) (live 3 3) 3 4
    ∷ sees (0 ∷ 0 ∷ 0 ∷ 0 ∷ 1 ∷ []) (live 3 2) 2 4
    ∷ sees [] (live 3 2) 2 4
    ∷ sees [] (live 3 1) 1 4
    ∷ sees (0 ∷ 0 ∷ 0 ∷ 0 ∷ 5 ∷ []) (live 3 1) 1 4
    ∷ sees (0 ∷ 10 ∷ 64 ∷ 4 ∷ 0 ∷ 0 ∷ 10 ∷ 11 ∷ 13 ∷ 21 ∷ []) (live 3 1) 1 4
    ∷ sees (0 ∷ 0 ∷ 0 ∷ 0 ∷ 1 ∷ []) (live 3 1) 1 4
    ∷ sees [] (live 3 1) 1 4
    ∷ sees (0 ∷ 0 ∷ 0 ∷ 0 ∷ 1 ∷ []) (live 3 2) 2 4
    ∷ sees_event (0 ∷ 10 ∷ 41 ∷ 1 ∷ 0 ∷ 0 ∷ 19 ∷ []) 3 (live 3 2) 2 4
    ∷ sees [] (live 3 1) 1 4
    ∷ sees (0 ∷ 0 ∷ 0 ∷ 0 ∷ 0 ∷ 2 ∷ []) (live 3 1) 1 4
    ∷ sees (15 ∷ []) (live 3 1) 1 4
    ∷ []

computed : run fresh_state (zeros payload_area) no_tables asks ≡ expected
unfolding run asks expected padded blank count_from first_from every_from tab_from shift shift_with alarm put
    Chart.byte Chart.parent Chart.states Chart.row_for Chart.path Chart.has Chart.length_ok Chart.among Chart.is_signal Chart.form_ok Chart.forms_ok Chart.parent_ok Chart.state_ok Chart.tree_ok Chart.row_ok Chart.rows_ok Chart.class_of
    Step.listed Step.up_to Step.leave Step.enter Step.first_of Step.limit Step.settle Step.moved Step.row_does Step.answer_by Step.step Step.start
    Flat.row_of Flat.rows_out Flat.behind Flat.row_no Flat.rows_from Flat.slot_bytes Flat.place Flat.sound Flat.start_sound Flat.answer_of Flat.taken Flat.readable Flat.all_read
    Box.changed Box.behind Box.ahead Box.rest Box.bare Box.highest_of Box.total Box.times_in Entry.entry_of Entry.hand_of
    Cell.back Cell.is_free Cell.is_new Cell.at_last Cell.generation_of Cell.stale_for Cell.handed_out Cell.more Cell.fewer Cell.dropped
    Row.generation_at Row.stale_at Row.pool_for Row.lowest_free Row.found_in Mark.free_in Mark.mark_with Mark.marks_after
    Inv.count_in_hand Inv.references Numbers.edition_of Numbers.outside Numbers.capacity Numbers.place_of State.is_open
    Reply.handle Reply.bytes Reply.reply_of Reply.lowest Reply.unless Reply.unless_fault Reply.over
    Machine.spoilt Machine.spoilt_new Machine.choose Machine.command Machine.answer_to
    Charts.slot_table Charts.filled Charts.slot_used Charts.load_tests Charts.load Charts.start_row Charts.start_tests Charts.started_at Charts.start
    Charts.flag_tests Charts.flag_changes Charts.flag_set Charts.flag
    Events.none_found Events.new_tests Events.new_event Events.new_in Events.new Events.post_tests Events.posted Events.post Events.hold_tests Events.held Events.hold
    Events.release_tests Events.released Events.release Events.drop_tests Events.drop_event Events.read_tests Events.payload_of Events.read
    Steps.coming Steps.signal_of Steps.first_byte Steps.generation_in Steps.next_rows Steps.next_answer Steps.step_tests Steps.next_tests Steps.stepped Steps.next_says Steps.next Steps.let_go_hand Steps.frees Steps.ended Steps.end_tests Steps.end Steps.logged Steps.drain_from Steps.drain_end Steps.drain_tests Steps.drain_done Steps.drain
    Aside.is_timer Aside.defer_tests Aside.set_aside Aside.defer Aside.recall_tests Aside.recalled Aside.recall_done Aside.recall Aside.let_go_each Aside.flushed Aside.flush_tests Aside.flush
computed = refl

-- ## The story of the run
-- What is seen of each call of a story is what is seen of the run.
unfoldable views : Story → List Ask → List Seen
views h [] = []
views h (a ∷ l) = seen_of (answer_in h (asked h a)) ∷ views (then h (asked h a)) l

views-run : (h : Story) (l : List Ask) → views h l ≡ run (kernel h) (left payload_area (zeros payload_area) h) (left_tables no_tables h) l
unfolding views run kernel left
views-run h [] = refl
views-run h (a ∷ l) = ap (λ (r : List Seen). seen_of (answer_in h (asked h a)) ∷ r) (views-run (then h (asked h a)) l)

view_at : (h : Story) (l : List Ask) (i : ℕ) (d : Ask) (n : Seen) → i < length l →
    get_or (views h l) i n ≡ seen_of (answer_in (told h (take i l)) (asked (told h (take i l)) (get_or l i d)))
unfolding views told
view_at h [] i d n m = absurd (omega arith)
view_at h (a ∷ l) zero d n m = refl
view_at h (a ∷ l) (suc i) d n m = view_at (then h (asked h a)) l i d n (omega arith)

told-next : (h : Story) (l : List Ask) (i : ℕ) (d : Ask) → i < length l → told h (take (suc i) l) ≡ then (told h (take i l)) (asked (told h (take i l)) (get_or l i d))
unfolding told
told-next h [] i d m = absurd (omega arith)
told-next h (a ∷ l) zero d m = refl
told-next h (a ∷ l) (suc i) d m = told-next (then h (asked h a)) l i d (omega arith)

-- Only the kernel writes to the payloads, and to the tables as long as the asking is honest.
pub told_payloads : (h : Story) (l : List Ask) → OnlyKernel payload_area (zeros payload_area) h → OnlyKernel payload_area (zeros payload_area) (told h l)
unfolding told OnlyKernel
told_payloads h [] o = o
told_payloads h (a ∷ l) o = told_payloads (then h (asked h a)) l (o, λ e. refl)

abbrev pub honestly : List Ask → ℕ → Bool
honestly [] i = true
honestly (a ∷ l) zero = true
honestly (a ∷ l) (suc i) = a.honest && honestly l i

pub told-tables : (h : Story) (l : List Ask) (i : ℕ) → honestly l i ≡ true → OnlyKernelTables no_tables h → OnlyKernelTables no_tables (told h (take i l))
unfolding told OnlyKernel
told-tables h [] zero e o = o
told-tables h [] (suc i) e o = o
told-tables h (a ∷ l) zero e o = o
told-tables h (a ∷ l) (suc i) e o =
    let t = and_left a.honest (honestly l i) e in
    told-tables (then h (asked h a)) l i (and_right a.honest (honestly l i) e) ((o.0, λ q. rw t refl), (o.1, λ q. rw t refl))

-- The first i calls, the call after them, and what is seen of it.
abbrev pub nothing : Seen
nothing = sees [] (free 0) 0 0

abbrev pub story_of : ℕ → Story
story_of i = told fresh (take i asks)

pub blank-ask : Ask
unfolding are_bytes every_from padded
blank-ask = ask [] [] refl

abbrev pub call_of : ℕ → Call
call_of i = asked (story_of i) (get_or asks i blank-ask)

abbrev pub calls : ℕ
calls = 33

views_are : views fresh asks ≡ expected
unfolding kernel left
views_are = views-run fresh asks ∙ computed

seen_at : (i : ℕ) → i < calls → seen_of (answer_in (story_of i) (call_of i)) ≡ get_or expected i nothing
unfolding asks
seen_at i l = sym (view_at fresh asks i blank-ask nothing l) ∙ ap (λ (v : List Seen). get_or v i nothing) views_are

-- the number and the values of a call, and block 0 and what refers to it after the call
module _ (i : ℕ) (l : i < calls) where
  pub byte_at : (k : ℕ) → get_or (reply (story_of i) (call_of i)) k 0 ≡ get_or (get_or expected i nothing).reply k 0
  byte_at k = ap (λ (v : Seen). get_or v.reply k 0) (seen_at i l)

  pub generation-at : generation (story_of i) (call_of i) ≡ said_generation (get_or expected i nothing).reply
  generation-at = ap (λ (v : Seen). said_generation v.reply) (seen_at i l)

  pub after : story_of (suc i) ≡ then (story_of i) (call_of i)
  unfolding asks
  after = told-next fresh asks i blank-ask l

  pub cell-after : cell (story_of (suc i)) 0 ≡ (get_or expected i nothing).cell
  unfolding kernel
  cell-after = ap (λ h. cell h 0) after ∙ ap (λ (v : Seen). v.cell) (seen_at i l)

  pub refer-after : refer (story_of (suc i)) 0 ≡ (get_or expected i nothing).refers
  unfolding kernel
  refer-after = ap (λ h. refer h 0) after ∙ ap (λ (v : Seen). v.refers) (seen_at i l)

  pub rest-after : rest_of (kernel (story_of (suc i))) 9 ≡ (get_or expected i nothing).rest
  unfolding kernel
  rest-after = ap (λ h. rest_of (kernel h) 9) after ∙ ap (λ (v : Seen). v.rest) (seen_at i l)

  pub on-after : started (kernel (story_of (suc i))) 9 ≡ (get_or expected i nothing).on
  unfolding kernel
  on-after = ap (λ h. started (kernel h) 9) after ∙ ap (λ (v : Seen). v.on) (seen_at i l)

-- the story before its last k calls
pub before_at : (i k : ℕ) → i + k ≤ calls → earlier k (story_of (i + k)) ≡ story_of i
unfolding earlier
before_at i zero l = rw (add-zero i) refl
before_at i (suc k) l = rw (add-suc i k, after (i + k) (omega arith)) (before_at i k (omega arith))
