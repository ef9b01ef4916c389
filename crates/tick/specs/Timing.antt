-- TICK on timers and mailboxes: the state that they stand for, and what a turn relies on.
use Rattle.std.specs.Prelude.{List, ℕ, ◌≤◌, get_or}
use Rattle.machine.specs.Inv.{TimersOk}
use Rattle.machine.specs.State.{State}
use Rattle.mail.specs.Box.{room}
use Rattle.mail.specs.View.{boxes}
use Rattle.mail.specs.declared.Ring.{Ring}
use Rattle.tick.specs.Timers.{timers_of}
use Rattle.tick.specs.declared.Timer.{Timer}

-- The state s with these timers, mailboxes and depths.
unfoldable pub timing : List Timer → List Ring → (depths : List ℕ) → State → State
timing ts rings depths s = record {
  cells = s.cells;
  marks = s.marks;
  events = s.events;
  boxes = boxes rings;
  sides = s.sides;
  objects = record { depths = depths; rests = s.objects.rests; seats = s.objects.seats };
  wants = s.wants;
  flags = s.flags;
  loaded = s.loaded;
  timers = timers_of ts;
  hand = s.hand;
}

pub record Ready (ts : List Timer) (depths : List ℕ) : Type 0 where
  pub deep : (q : ℕ) → get_or depths q 0 ≤ room
  pub timers : TimersOk (timers_of ts) depths
