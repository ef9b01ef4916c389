-- What is read of the event that comes, and what a run needs and makes of what is lent to it.
use Rattle.std.specs.Prelude.{List, ◌≡◌, ℕ, ◌+◌, ◌-◌, ◌<◌, ◌≤◌, length, get_or, set}
use Rattle.chart.specs.Flags.{Flags, in_words}
use Rattle.chart.specs.Flat.{answer_of, flag_at, row_at, row_of}
use Rattle.chart.specs.Numbers.{row_size}
use Rattle.chart.specs.declared.Reading.{Reading}
use Rattle.chart.specs.declared.Reading.TheVariants.{Taken}
use Rattle.machine.specs.Numbers.{objects, signal_places, table_bytes, guarded_bytes, most_steps, log_bytes}
use Rattle.machine.specs.Reply.{BothTables, both}
use Rattle.machine.specs.Run.{Run, FitRun, run_from, seen}
use Rattle.machine.specs.State.{State}
use Rattle.machine.specs.Steps.{signal_of, first_byte, generation_in}
use Rattle.mail.specs.Box.{box_at, took_first}
use Rattle.mail.specs.declared.Hand.{Hand}
use Rattle.pool.specs.Row.{blocks, first_bytes, generation_at}
use Rattle.drain.specs.declared.Coming.{Coming}
use Rattle.drain.specs.declared.Fixed.{Fixed}

-- The blocks of a state have these generations.
abbrev pub Generations : State → List ℕ → Type 0
Generations s gens = (b : ℕ) → b < blocks → generation_at s.cells b ≡ get_or gens b 0

-- What is seen of an event: its signal and its handle.
pub record Looks (s : State) (h : Hand) (l : Coming) : Type 0 where
  pub signal : l.signal ≡ signal_of s h
  pub first : l.first ≡ first_byte h
  pub generation : l.generation ≡ generation_in s h

-- What an answer needs: an object and a signal.
pub record Runs (p : ℕ) (l : Coming) : Type 0 where
  pub object : p < 256
  pub signal : l.signal < signal_places

-- At a place of the table t lies a row, which is that of an answer.
pub record Placed (t : List ℕ) (at : ℕ) : Type 0 where
  pub within : at + row_size ≤ length t
  pub outcome : get_or (row_at t at) 1 0 ≤ 2
  pub whole : row_of (flag_at (row_at t at)) (answer_of (row_at t at)) ≡ row_at t at

-- What was found lies in the table t, where it is a row that is taken.
abbrev pub Lies : List ℕ → Reading → Type 0
Lies t found = (at : ℕ) → found ≡ Taken at → Placed t at

-- The run that what is lent has come to after n steps, with the mailboxes bs.
abbrev pub run_at : List (List ℕ) → List ℕ → List ℕ → List ℕ → ℕ → Run
run_at bs rests times log n = record { steps = n; boxes = bs; rests = rests; log = log; times = times }

-- The run in the midst of the steps of object q, which began at step `from`: each took an entry, and the state of rest is kept apart.
abbrev pub midway : List (List ℕ) → List ℕ → List ℕ → List ℕ → ℕ → ℕ → ℕ → ℕ → Run
midway bs rests times log q from rest n = run_at (took_first bs q (n - from)) (set rests q rest) times log n

-- What is lent has its lengths, and nothing is let go more often than there were steps.
pub record Sized (x : Run) : Type 0 where
  pub mail : length x.boxes ≡ objects
  pub rests : length x.rests ≡ objects
  pub times : length x.times ≡ first_bytes
  pub few : (b : ℕ) → get_or x.times b 0 ≤ x.steps
  pub log : length x.log ≡ log_bytes

-- No object from p on, counted from 0, has mail.
abbrev pub Above : ℕ → List (List ℕ) → Type 0
Above p bs = (q : ℕ) → p ≤ q → length (box_at bs q) ≡ 0

-- Over what a run reads and does not change.
module _ (f : Fixed) where
  abbrev pub flags_of : ℕ → Flags
  flags_of = in_words f.flags.now

  abbrev pub tables_of : BothTables
  tables_of = both f.tables.now f.guarded.now

  -- What a step of the run sees.
  abbrev pub seen_of : Run → State
  seen_of x = seen f.gens.now f.signals.now f.seats.now flags_of x

  -- At most k steps more; and that each state on the way is fit for a step.
  abbrev pub run_on : ℕ → Run → Run
  run_on k x = run_from f.gens.now f.signals.now f.seats.now flags_of tables_of k x

  abbrev pub FitOn : Run → Type 0
  FitOn x = FitRun f.gens.now f.signals.now f.seats.now flags_of tables_of x

  -- What the steps of object p, counted from 1, begin with, where the run has come to x, within a budget: no higher object has mail.
  pub record Ready (p budget : ℕ) (x : Run) : Type 0 where
    pub sized : Sized x
    pub long : length f.tables.now ≡ table_bytes
    pub long_guarded : length f.guarded.now ≡ guarded_bytes
    pub most : budget ≤ most_steps
    pub within : x.steps ≤ budget
    pub low : 0 < p
    pub high : p ≤ objects
    pub above : Above p x.boxes
    pub fit : FitOn x

  -- The steps of object p, counted from 1, from the run x to the run y, within a budget: what is left to run from y is what was left from x.
  -- If the object still has mail, nothing is left.
  pub record Stretch (p budget : ℕ) (x y : Run) : Type 0 where
    pub sized : Sized y
    pub within : y.steps ≤ budget
    pub fit : FitOn y
    pub above : Above p y.boxes
    pub same : run_on (budget - y.steps) y ≡ run_on (budget - x.steps) x
    pub ended : (length (box_at y.boxes (p - 1)) ≡ 0 → ⊥) → run_on (budget - y.steps) y ≡ y
