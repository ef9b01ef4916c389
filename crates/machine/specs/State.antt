-- The kernel's state, and a fresh start.
use Rattle.std.specs.Prelude.{Bool, true, false, cond, not, List, [], ℕ, ◌+◌, ◌*◌, ◌-◌, eqb, length, get_or, replicate}
use Rattle.chart.specs.Flags.{Flags, all_down}
use Rattle.mail.specs.Box.{box_at}
use Rattle.mail.specs.declared.Hand.{Hand}
use Rattle.mail.specs.declared.Hand.TheVariants.{Nothing, Block, Timer}
use Rattle.pool.specs.Cell.{Cell}
use Rattle.pool.specs.Mark.{fresh_marks}
use Rattle.pool.specs.Row.{fresh_row}
use Rattle.machine.specs.Numbers.{objects, blocks, timers, slots, side_queues, signal_places}

-- Of the event in each of the 56 blocks: its signal, its size, its holds.
pub record Events : Type 0 where
  pub signals : List ℕ
  pub sizes : List ℕ
  pub holds : List ℕ

-- Of each of the 16 objects: the depth of its mailbox (0: not started), its state of rest, its chart slot. Object p has place p - 1.
pub record Objects : Type 0 where
  pub depths : List ℕ
  pub rests : List ℕ
  pub seats : List ℕ

-- Of each of the 16 timers: its object, its signal, the ticks that are left (0: not armed), its interval.
pub record Timers : Type 0 where
  pub owners : List ℕ
  pub alarms : List ℕ
  pub counters : List ℕ
  pub intervals : List ℕ

pub record State : Type 0 where
  -- the 56 blocks: free, live with so many references, or retired
  pub cells : List Cell
  -- of each pool the least number of free blocks so far
  pub marks : List ℕ
  pub events : Events
  -- the mailboxes, one list of entries an object, front first
  pub boxes : List (List ℕ)
  -- the side queues, one list of entries each, oldest first
  pub sides : List (List ℕ)
  pub objects : Objects
  -- 1 at place 32 (p - 1) + g: object p subscribes to signal g
  pub wants : List ℕ
  -- the flags of object p are those at p
  pub flags : ℕ → Flags
  -- 1 for each of the 5 slots that has a chart
  pub loaded : List ℕ
  pub timers : Timers
  -- the event in hand: a step is open while there is one
  pub hand : Hand

abbrev pub fresh_state : State
fresh_state = record {
  cells = fresh_row;
  marks = fresh_marks;
  events = record { signals = replicate blocks 0; sizes = replicate blocks 0; holds = replicate blocks 0 };
  boxes = replicate objects [];
  sides = replicate side_queues [];
  objects = record { depths = replicate objects 0; rests = replicate objects 0; seats = replicate objects 0 };
  wants = replicate (signal_places * objects) 0;
  flags = λ p. all_down;
  loaded = replicate slots 0;
  timers = record { owners = replicate timers 0; alarms = replicate timers 0; counters = replicate timers 0; intervals = replicate timers 0 };
  hand = Nothing;
}

-- Reading.
abbrev pub signal_in : State → ℕ → ℕ
signal_in s b = get_or s.events.signals b 0

abbrev pub size_in : State → ℕ → ℕ
size_in s b = get_or s.events.sizes b 0

abbrev pub holds_on : State → ℕ → ℕ
holds_on s b = get_or s.events.holds b 0

abbrev pub box_of : State → ℕ → List ℕ
box_of s p = box_at s.boxes (p - 1)

abbrev pub side_of : State → ℕ → List ℕ
side_of s q = box_at s.sides q

abbrev pub depth_of : State → ℕ → ℕ
depth_of s p = get_or s.objects.depths (p - 1) 0

abbrev pub rest_of : State → ℕ → ℕ
rest_of s p = get_or s.objects.rests (p - 1) 0

abbrev pub slot_of : State → ℕ → ℕ
slot_of s p = get_or s.objects.seats (p - 1) 0

abbrev pub started : State → ℕ → Bool
started s p = not (eqb (depth_of s p) 0)

-- the free places of p's mailbox
abbrev pub room : State → ℕ → ℕ
room s p = depth_of s p - length (box_of s p)

abbrev pub is_loaded : State → ℕ → Bool
is_loaded s q = eqb (get_or s.loaded q 0) 1

abbrev pub want_place : ℕ → ℕ → ℕ
want_place p g = signal_places * (p - 1) + g

abbrev pub subscribed : State → ℕ → ℕ → Bool
subscribed s p g = eqb (get_or s.wants (want_place p g) 0) 1

abbrev pub counter_of : State → ℕ → ℕ
counter_of s t = get_or s.timers.counters t 0

abbrev pub armed : State → ℕ → Bool
armed s t = not (eqb (counter_of s t) 0)

unfoldable pub is_open : Hand → Bool
is_open Nothing = false
is_open (Block b) = true
is_open (Timer t g) = true

-- The state with one part replaced.
abbrev pub with_cells : List Cell → State → State
with_cells x s = record { cells = x; marks = s.marks; events = s.events; boxes = s.boxes; sides = s.sides; objects = s.objects; wants = s.wants; flags = s.flags; loaded = s.loaded; timers = s.timers; hand = s.hand }

abbrev pub with_marks : List ℕ → State → State
with_marks x s = record { cells = s.cells; marks = x; events = s.events; boxes = s.boxes; sides = s.sides; objects = s.objects; wants = s.wants; flags = s.flags; loaded = s.loaded; timers = s.timers; hand = s.hand }

abbrev pub with_events : Events → State → State
with_events x s = record { cells = s.cells; marks = s.marks; events = x; boxes = s.boxes; sides = s.sides; objects = s.objects; wants = s.wants; flags = s.flags; loaded = s.loaded; timers = s.timers; hand = s.hand }

abbrev pub with_boxes : List (List ℕ) → State → State
with_boxes x s = record { cells = s.cells; marks = s.marks; events = s.events; boxes = x; sides = s.sides; objects = s.objects; wants = s.wants; flags = s.flags; loaded = s.loaded; timers = s.timers; hand = s.hand }

abbrev pub with_sides : List (List ℕ) → State → State
with_sides x s = record { cells = s.cells; marks = s.marks; events = s.events; boxes = s.boxes; sides = x; objects = s.objects; wants = s.wants; flags = s.flags; loaded = s.loaded; timers = s.timers; hand = s.hand }

abbrev pub with_objects : Objects → State → State
with_objects x s = record { cells = s.cells; marks = s.marks; events = s.events; boxes = s.boxes; sides = s.sides; objects = x; wants = s.wants; flags = s.flags; loaded = s.loaded; timers = s.timers; hand = s.hand }

abbrev pub with_wants : List ℕ → State → State
with_wants x s = record { cells = s.cells; marks = s.marks; events = s.events; boxes = s.boxes; sides = s.sides; objects = s.objects; wants = x; flags = s.flags; loaded = s.loaded; timers = s.timers; hand = s.hand }

abbrev pub with_flags : (ℕ → Flags) → State → State
with_flags x s = record { cells = s.cells; marks = s.marks; events = s.events; boxes = s.boxes; sides = s.sides; objects = s.objects; wants = s.wants; flags = x; loaded = s.loaded; timers = s.timers; hand = s.hand }

abbrev pub with_loaded : List ℕ → State → State
with_loaded x s = record { cells = s.cells; marks = s.marks; events = s.events; boxes = s.boxes; sides = s.sides; objects = s.objects; wants = s.wants; flags = s.flags; loaded = x; timers = s.timers; hand = s.hand }

abbrev pub with_timers : Timers → State → State
with_timers x s = record { cells = s.cells; marks = s.marks; events = s.events; boxes = s.boxes; sides = s.sides; objects = s.objects; wants = s.wants; flags = s.flags; loaded = s.loaded; timers = x; hand = s.hand }

abbrev pub with_hand : Hand → State → State
with_hand x s = record { cells = s.cells; marks = s.marks; events = s.events; boxes = s.boxes; sides = s.sides; objects = s.objects; wants = s.wants; flags = s.flags; loaded = s.loaded; timers = s.timers; hand = x }

abbrev pub with_holds : List ℕ → State → State
with_holds x s = with_events (record { signals = s.events.signals; sizes = s.events.sizes; holds = x }) s

abbrev pub with_rests : List ℕ → State → State
with_rests x s = with_objects (record { depths = s.objects.depths; rests = x; seats = s.objects.seats }) s

abbrev pub with_counters : List ℕ → State → State
with_counters x s = with_timers (record { owners = s.timers.owners; alarms = s.timers.alarms; counters = x; intervals = s.timers.intervals }) s

abbrev pub with_flags_of : ℕ → Flags → State → State
with_flags_of p is_up s = with_flags (λ x. cond (eqb x p) is_up (s.flags x)) s
