-- What every kernel keeps that came from a fresh start through earlier commands.
use Rattle.std.specs.Prelude.{Bool, true, false, List, ◌≡◌, ℕ, ◌+◌, ◌*◌, ◌-◌, ◌≤◌, ◌<◌, eqb, length, get_or}
use Rattle.chart.specs.Numbers.{most_states, first_signal, last_signal}
use Rattle.mail.specs.Box as box
use Rattle.mail.specs.Box.{box_at, occurrences, one}
use Rattle.mail.specs.Entry.{entry_of, hand_of}
use Rattle.mail.specs.declared.Hand.{Hand}
use Rattle.mail.specs.declared.Hand.TheVariants.{Nothing, Block, Timer}
use Rattle.pool.specs.Cell.{Cell, free, live, retired, absent}
use Rattle.pool.specs.Row.{at}
use Rattle.machine.specs.Numbers.{objects, blocks, timers, slots, edition_of, most_holds, side_queues, most_aside, signal_places, capacity}
use Rattle.machine.specs.State.{State, Events, Objects, Timers}

-- What refers to block b: its mailbox entries, its side entries, its holds, the step in hand.
unfoldable pub count_in_hand : Hand → ℕ → ℕ
count_in_hand Nothing b = 0
count_in_hand (Block x) b = one (eqb x b)
count_in_hand (Timer t g) b = 0

unfoldable pub references : State → ℕ → ℕ
references s b =
    occurrences (entry_of (Block b)) s.boxes + occurrences (entry_of (Block b)) s.sides + get_or s.events.holds b 0 + count_in_hand s.hand b

-- The references that a block counts, and whether it is live.
unfoldable pub count_of : Cell → ℕ
count_of (free g) = 0
count_of (live g n) = n
count_of (retired g) = 0
count_of absent = 0

unfoldable pub is_live : Cell → Bool
is_live (free g) = false
is_live (live g n) = true
is_live (retired g) = false
is_live absent = false

-- A signal, and an event: a block, or a timer with its signal.
pub record IsSignal (g : ℕ) : Type 0 where
  pub low : first_signal ≤ g
  pub high : g ≤ last_signal

unfoldable pub IsEvent : Hand → Type 0
IsEvent Nothing = ⊥
IsEvent (Block b) = b < blocks
IsEvent (Timer t g) = (t < timers) × IsSignal g

unfoldable pub IsBlock : Hand → Type 0
IsBlock Nothing = ⊥
IsBlock (Block b) = b < blocks
IsBlock (Timer t g) = ⊥

unfoldable pub InHand : Hand → Type 0
InHand Nothing = Unit {0}
InHand (Block b) = b < blocks
InHand (Timer t g) = (t < timers) × IsSignal g

-- The blocks and their events: a live one has a signal and fits its block; at most 15 holds.
pub record StoreOk (cells : List Cell) (e : Events) : Type 0 where
  pub cells-length : length cells ≡ blocks
  pub signals-length : length e.signals ≡ blocks
  pub sizes_length : length e.sizes ≡ blocks
  pub holds_length : length e.holds ≡ blocks
  pub signal : (b : ℕ) → is_live (at cells b) ≡ true → IsSignal (get_or e.signals b 0)
  pub size : (b : ℕ) → is_live (at cells b) ≡ true → get_or e.sizes b 0 ≤ capacity b
  pub held : (b : ℕ) → get_or e.holds b 0 ≤ most_holds

-- The mailboxes: none is fuller than it is deep, none deeper than 16, and every entry is an event.
pub record MailOk (boxes : List (List ℕ)) (depths : List ℕ) : Type 0 where
  pub boxes-length : length boxes ≡ objects
  pub deep : (q : ℕ) → get_or depths q 0 ≤ box.room
  pub room : (q : ℕ) → length (box_at boxes q) ≤ get_or depths q 0
  pub entries : (q i : ℕ) → i < length (box_at boxes q) → IsEvent (hand_of (get_or (box_at boxes q) i 0))

-- The side queues: none has more than 8 entries, and every entry is a block.
pub record SidesOk (sides : List (List ℕ)) : Type 0 where
  pub sides_length : length sides ≡ side_queues
  pub room : (q : ℕ) → length (box_at sides q) ≤ most_aside
  pub entries : (q i : ℕ) → i < length (box_at sides q) → IsBlock (hand_of (get_or (box_at sides q) i 0))

-- The objects: a started one rests in a state 1-24, on the guarded slot 1-8, and its slot is loaded.
pub record ObjectsOk (o : Objects) (loaded : List ℕ) : Type 0 where
  pub depths_length : length o.depths ≡ objects
  pub rests_length : length o.rests ≡ objects
  pub seats_length : length o.seats ≡ objects
  pub loaded_length : length loaded ≡ slots
  pub rested : (q : ℕ) → 0 < get_or o.depths q 0 → (1 ≤ get_or o.rests q 0) × (get_or o.rests q 0 ≤ most_states (edition_of (get_or o.seats q 0)))
  pub seated : (q : ℕ) → 0 < get_or o.depths q 0 → (get_or o.seats q 0 < slots) × (get_or loaded (get_or o.seats q 0) 0 ≡ 1)

-- Subscribers are started.
pub record WantsOk (wants depths : List ℕ) : Type 0 where
  pub wants_length : length wants ≡ signal_places * objects
  pub wanted : (q g : ℕ) → g < signal_places → get_or wants (signal_places * q + g) 0 ≡ 1 → 0 < get_or depths q 0

-- An armed timer has a started object and a signal.
pub record ArmedOk (depths : List ℕ) (p g : ℕ) : Type 0 where
  pub low : 1 ≤ p
  pub high : p ≤ objects
  pub present : 0 < get_or depths (p - 1) 0
  pub signal : IsSignal g

pub record TimersOk (x : Timers) (depths : List ℕ) : Type 0 where
  pub owners_length : length x.owners ≡ timers
  pub alarms_length : length x.alarms ≡ timers
  pub counters_length : length x.counters ≡ timers
  pub intervals_length : length x.intervals ≡ timers
  pub armed : (t : ℕ) → 0 < get_or x.counters t 0 → ArmedOk depths (get_or x.owners t 0) (get_or x.alarms t 0)

-- Each part speaks of the fields that it reads, and so stays as it is where a command changes others. Every block counts what refers to
-- it: a free block, or a retired one, counts nothing, so that nothing refers to it.
pub record Inv (s : State) : Type 0 where
  pub store : StoreOk s.cells s.events
  pub mail : MailOk s.boxes s.objects.depths
  pub aside : SidesOk s.sides
  pub seats : ObjectsOk s.objects s.loaded
  pub wants : WantsOk s.wants s.objects.depths
  pub timers : TimersOk s.timers s.objects.depths
  pub in_hand : InHand s.hand
  pub counted : (b : ℕ) → b < blocks → count_of (at s.cells b) ≡ references s b
