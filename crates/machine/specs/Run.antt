-- DRAIN's steps as a loop makes them that leaves the blocks alone, and lets go of all of them afterwards. That it does what DRAIN does
-- is a law (proofs/Drain). FLUSH lets go of its blocks so too (proofs/Flush).
use Rattle.std.specs.Prelude.{cond, List, [], ℕ, zero, suc, ◌+◌, ◌*◌, ◌-◌, ◌≤◌, ◌<◌, eqb, length, get_or, set}
use Rattle.chart.specs.Flags.{Flags}
use Rattle.chart.specs.Flat.{place}
use Rattle.chart.specs.Numbers.{each, slot_size, row_size}
use Rattle.ground.specs.Range.{tab}
use Rattle.mail.specs.Box.{took_front}
use Rattle.mail.specs.Entry.{hand_of}
use Rattle.mail.specs.declared.Hand.{Hand}
use Rattle.mail.specs.declared.Hand.TheVariants.{Nothing, Block, Timer}
use Rattle.pool.specs.Cell.{free}
use Rattle.pool.specs.Row.{blocks, gone_times, never, once_more}
use Rattle.machine.specs.Inv.{IsEvent, IsSignal}
use Rattle.machine.specs.Numbers.{slots, edition_of}
use Rattle.machine.specs.Reply.{BothTables, lowest}
use Rattle.machine.specs.State.{State, rest_of, with_cells, with_boxes, with_rests}
use Rattle.machine.specs.Steps.{to_run, slot_to_run, coming, signal_of, first_byte, next_answer, step_tests, logged}

-- What changes from step to step: how many there were, the mailboxes, the states of rest, the log, and how often each block is let go.
pub record Run : Type 0 where
  pub steps : ℕ
  pub boxes : List (List ℕ)
  pub rests : List ℕ
  pub log : List ℕ
  pub times : List ℕ

-- The block that an event in hand is; 255, which is no block, for a timer.
unfoldable pub block_of : Hand → ℕ
block_of Nothing = 255
block_of (Block b) = b
block_of (Timer t g) = 255

-- The blocks of the first n entries of a list, and of all.
abbrev pub first_blocks : List ℕ → ℕ → List ℕ
first_blocks l n = tab (λ i. block_of (hand_of (get_or l i 0))) n

abbrev pub blocks_in : List ℕ → List ℕ
blocks_in l = first_blocks l (length l)

-- A run begins in a state, and leaves one: all that it does not speak of is as it was.
abbrev pub begun : State → List ℕ → Run
begun s log = record { steps = 0; boxes = s.boxes; rests = s.objects.rests; log = log; times = never }

abbrev pub after_run : State → Run → State
after_run s x = with_cells (gone_times s.cells x.times) (with_boxes x.boxes (with_rests x.rests s))

-- What a step reads, over the generations, the signals, the slots and the flags of the start: a state with all else empty.
abbrev pub seen : List ℕ → List ℕ → List ℕ → (ℕ → Flags) → Run → State
seen gens signals seats flags x = record {
  cells = tab (λ b. free (get_or gens b 0)) blocks;
  marks = [];
  events = record { signals = signals; sizes = []; holds = [] };
  boxes = x.boxes;
  sides = [];
  objects = record { depths = []; rests = x.rests; seats = seats };
  wants = [];
  flags = flags;
  loaded = [];
  timers = record { owners = []; alarms = []; counters = []; intervals = [] };
  hand = Nothing;
}

-- What a step needs of the state that it is taken in: what comes is an event with a signal, the object rests in a state, and the rows for
-- both lie in the table of its slot.
pub record Fit (s : State) : Type 0 where
  pub event : IsEvent (coming s)
  pub signal : IsSignal (signal_of s (coming s))
  pub rested : 1 ≤ rest_of s (to_run s)
  pub seated : slot_to_run s < slots
  pub end : let e = edition_of (slot_to_run s) in place e (rest_of s (to_run s)) (signal_of s (coming s)) 0 + row_size * each e ≤ slot_size e

-- It is so if anything is queued.
abbrev pub FitFor : State → Type 0
FitFor s = 0 < to_run s → Fit s

module _ (gens signals seats : List ℕ) (flags : ℕ → Flags) (tables : BothTables) where
  -- 0 if a step may be taken, else why not
  abbrev pub may_step : Run → ℕ
  may_step x = lowest (step_tests (seen gens signals seats flags x) tables)

  unfoldable pub onward : Run → Run
  onward x = record {
    steps = x.steps + 1;
    boxes = took_front x.boxes (to_run (seen gens signals seats flags x) - 1);
    rests = set x.rests (to_run (seen gens signals seats flags x) - 1) (next_answer (seen gens signals seats flags x) tables).next;
    log = logged (seen gens signals seats flags x) tables x.steps x.log;
    times = once_more x.times (first_byte (coming (seen gens signals seats flags x)));
  }

  -- at most k steps more
  unfoldable pub run_from : ℕ → Run → Run
  run_from zero x = x
  run_from (suc k) x = let more : Run = run_from k (onward x) in cond (eqb (may_step x) 0) more x

  -- each state that a run comes to, from x on, is fit for a step
  abbrev pub FitRun : Run → Type 0
  FitRun x = (k : ℕ) → FitFor (seen gens signals seats flags (run_from k x))
