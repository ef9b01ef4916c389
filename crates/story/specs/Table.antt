-- Document 01's table of refusals as document 02 amends it, one line a refusal, and where a command has its arguments. Written from the
-- table: no command's own tests, nor their order, are named here.
use Rattle.std.specs.Prelude.{Bool, true, false, cond, not, ◌&&◌, ◌||◌, List, [], ◌∷◌, ℕ, zero, suc, ◌+◌, ◌*◌, eqb, ltb, leb, length, get_or}
use Rattle.ground.specs.Bytes.{blank}
use Rattle.ground.specs.Range.{every}
use Rattle.chart.specs.Chart.{class_of}
use Rattle.chart.specs.Flat.{all_read, start_sound}
use Rattle.mail.specs.Box.{queued}
use Rattle.pool.specs.Cell.{is_free, is_new}
use Rattle.pool.specs.Row.{at, pool_for, stale_at}
use Rattle.machine.specs.Aside.{is_timer}
use Rattle.machine.specs.Charts.{start_row}
use Rattle.machine.specs.Machine.{generation}
use Rattle.machine.specs.Numbers.{objects, guarded_slot, edition_of, payload_bytes, table_bytes, guarded_bytes, log_bytes, record_bytes, most_holds, most_aside, outside}
use Rattle.machine.specs.Reply.{FORM, AREA, RANGE, BUSY, NOSTEP, IDLE, STALE, ABSENT, TAKEN, FULL, DRY, HOLDS, INUSE, CHART, TABLE, Areas}
use Rattle.machine.specs.State.{State, signal_in, holds_on, side_of, slot_of, started, room, is_loaded, subscribed, armed, is_open}
use Rattle.machine.specs.Steps.{to_run, slot_to_run, next_rows}

-- The commands by name.
abbrev pub LOAD : ℕ
LOAD = 1

abbrev pub START : ℕ
START = 2

abbrev pub NEW : ℕ
NEW = 3

abbrev pub POST : ℕ
POST = 4

abbrev pub POSTFRONT : ℕ
POSTFRONT = 5

abbrev pub PUBLISH : ℕ
PUBLISH = 6

abbrev pub SUBSCRIBE : ℕ
SUBSCRIBE = 7

abbrev pub UNSUBSCRIBE : ℕ
UNSUBSCRIBE = 8

abbrev pub HOLD : ℕ
HOLD = 9

abbrev pub RELEASE : ℕ
RELEASE = 10

abbrev pub DROP : ℕ
DROP = 11

abbrev pub NEXT : ℕ
NEXT = 12

abbrev pub END : ℕ
END = 13

abbrev pub ARM : ℕ
ARM = 14

abbrev pub DISARM : ℕ
DISARM = 15

abbrev pub TICK : ℕ
TICK = 16

abbrev pub READ : ℕ
READ = 17

abbrev pub DRAIN : ℕ
DRAIN = 18

abbrev pub DEFER : ℕ
DEFER = 19

abbrev pub RECALL : ℕ
RECALL = 20

abbrev pub FLUSH : ℕ
FLUSH = 21

abbrev pub FLAG : ℕ
FLAG = 22

-- What an argument byte is, and the numbers that it may be: n is not one of them.
pub data Argument : Type 0 where
  slot : Argument
  object : Argument
  depth : Argument
  signal : Argument
  size : Argument
  block : Argument
  margin : Argument
  timer : Argument
  side : Argument
  flag : Argument
  value : Argument
  any : Argument

unfoldable pub is_outside : Argument → ℕ → Bool
is_outside slot n = outside 0 4 n
is_outside object n = outside 1 16 n
is_outside depth n = outside 1 16 n
is_outside signal n = outside 4 31 n
is_outside size n = outside 0 64 n
is_outside block n = outside 0 55 n
is_outside margin n = outside 0 15 n
is_outside timer n = outside 0 15 n
is_outside side n = outside 0 7 n
is_outside flag n = outside 1 8 n
is_outside value n = outside 0 1 n
is_outside any n = false

-- The arguments of command n, in order, from byte 1 of the record on. Any: the bytes of a generation, of ticks and of an interval, a budget.
unfoldable pub line : {A : Type 0} → List (ℕ × A) → A → ℕ → A
line [] a n = a
line (x ∷ l) a n = cond (eqb x.0 n) x.1 (line l a n)

unfoldable pub arguments : ℕ → List Argument
arguments =
    line (
    (LOAD, slot ∷ [])
    ∷ (START, object ∷ slot ∷ depth ∷ [])
    ∷ (NEW, signal ∷ size ∷ [])
    ∷ (POST, block ∷ any ∷ any ∷ any ∷ object ∷ margin ∷ [])
    ∷ (POSTFRONT, block ∷ any ∷ any ∷ any ∷ object ∷ [])
    ∷ (PUBLISH, block ∷ any ∷ any ∷ any ∷ [])
    ∷ (SUBSCRIBE, object ∷ signal ∷ [])
    ∷ (UNSUBSCRIBE, object ∷ signal ∷ [])
    ∷ (HOLD, block ∷ any ∷ any ∷ any ∷ [])
    ∷ (RELEASE, block ∷ any ∷ any ∷ any ∷ [])
    ∷ (DROP, block ∷ any ∷ any ∷ any ∷ [])
    ∷ (ARM, timer ∷ object ∷ signal ∷ any ∷ any ∷ any ∷ any ∷ [])
    ∷ (DISARM, timer ∷ [])
    ∷ (READ, block ∷ any ∷ any ∷ any ∷ [])
    ∷ (DRAIN, any ∷ [])
    ∷ (DEFER, side ∷ [])
    ∷ (RECALL, side ∷ object ∷ [])
    ∷ (FLUSH, side ∷ [])
    ∷ (FLAG, object ∷ flag ∷ value ∷ [])
    ∷ []) []

-- Of the arguments l of a record r, from byte k on: one is outside its numbers; and the byte that is the object, 0 where none is.
unfoldable pub some_outside : List ℕ → ℕ → List Argument → Bool
some_outside r k [] = false
some_outside r k (a ∷ l) = is_outside a (get_or r k 0) || some_outside r (k + 1) l

unfoldable pub is_object : Argument → Bool
is_object slot = false
is_object object = true
is_object depth = false
is_object signal = false
is_object size = false
is_object block = false
is_object margin = false
is_object timer = false
is_object side = false
is_object flag = false
is_object value = false
is_object any = false

unfoldable pub object_in : List ℕ → ℕ → List Argument → ℕ
object_in r k [] = 0
object_in r k (a ∷ l) = cond (is_object a) (get_or r k 0) (object_in r (k + 1) l)

-- n is one of the commands, one of the first n objects passes a test.
unfoldable pub one_of : List ℕ → ℕ → Bool
one_of [] n = false
one_of (x ∷ l) n = eqb x n || one_of l n

unfoldable pub some_object : (ℕ → Bool) → ℕ → Bool
some_object ok zero = false
some_object ok (suc n) = ok (suc n) || some_object ok n

-- The pool for n bytes has no free block.
unfoldable pub dry : State → ℕ → Bool
dry s n = every (λ b. not (is_free (at s.cells b))) (pool_for n).from (pool_for n).to

-- The commands that name an event by its handle.
abbrev pub namers : List ℕ
namers = POST ∷ POSTFRONT ∷ PUBLISH ∷ HOLD ∷ RELEASE ∷ DROP ∷ READ ∷ []

-- Of one call: the command n, the state s, the record r, the chart d, the areas z.
module _ (n : ℕ) (s : State) (r d : List ℕ) (z : Areas) where
  abbrev byte : ℕ → ℕ
  byte k = get_or r k 0

  abbrev is : List ℕ → Bool
  is names = one_of names n

  -- the object that a command names, and whether it has a handle, which is then in bytes 1 to 4
  abbrev p : ℕ
  p = object_in r 1 (arguments n)

  abbrev has_handle : Bool
  has_handle = is namers

  -- an unused byte is not 0: one past the arguments; in NEW also a payload byte past the size, none if the size is above 64
  unfoldable pub unused_byte : Bool
  unused_byte =
      cond (is (NEW ∷ []))
      (not (blank r 3 8) || not (ltb 64 (byte 2)) && not (blank r (8 + byte 2) record_bytes))
      (not (blank r (1 + length (arguments n)) record_bytes))

  -- the guarded table is used: by LOAD and START on its slot, NEXT if the highest object with mail is on it, and always by DRAIN
  unfoldable pub uses_guarded : Bool
  uses_guarded =
      is (LOAD ∷ []) && eqb (byte 1) guarded_slot
      || (is (START ∷ []) && eqb (byte 2) guarded_slot
      || (is (NEXT ∷ []) && (not (eqb (to_run s) 0) && eqb (slot_to_run s) guarded_slot)
      || is (DRAIN ∷ [])))

  -- an area that the command uses is not of its length
  unfoldable pub other_length : Bool
  other_length =
      is (NEW ∷ READ ∷ []) && not (eqb (length z.payloads) payload_bytes)
      || (is (LOAD ∷ START ∷ NEXT ∷ DRAIN ∷ []) && not (eqb (length z.tables.plain) table_bytes)
      || (uses_guarded && not (eqb (length z.tables.guarded) guarded_bytes)
      || is (DRAIN ∷ []) && not (eqb (length z.log) log_bytes)))

  -- a row that the command reads is not sound
  unfoldable pub unsound : Bool
  unsound =
      is (START ∷ []) && not (start_sound (edition_of (byte 2)) (start_row z.tables (byte 2)))
      || is (NEXT ∷ []) && not (all_read (edition_of (slot_to_run s)) (s.flags (to_run s)) (next_rows s z.tables))

  -- an object uses the slot; a subscriber to the event's signal has no place
  unfoldable pub slot_in_use : Bool
  slot_in_use = some_object (λ x. started s x && eqb (slot_of s x) (byte 1)) objects

  unfoldable pub full_subscriber : Bool
  full_subscriber = some_object (λ x. subscribed s x (signal_in s (byte 1)) && eqb (room s x) 0) objects

  -- the side queue that a command names is full; there is an entry to recall, and no mailbox place
  unfoldable pub full_side : Bool
  full_side = eqb (length (side_of s (byte 1))) most_aside

  unfoldable pub no_place : Bool
  no_place = not (eqb (length (side_of s (byte 1))) 0) && eqb (room s p) 0

  -- The table: number and "exactly when".
  unfoldable pub table_of : List (ℕ × Bool)
  table_of =
      (FORM, not (eqb (length r) record_bytes) || (outside LOAD FLAG n || unused_byte))
      ∷ (AREA, other_length)
      ∷ (RANGE, some_outside r 1 (arguments n) || is (ARM ∷ []) && eqb (byte 4 + 256 * byte 5) 0)
      ∷ (BUSY, is (LOAD ∷ START ∷ NEXT ∷ DRAIN ∷ FLAG ∷ []) && is_open s.hand)
      ∷ (NOSTEP, is (END ∷ DEFER ∷ []) && not (is_open s.hand))
      ∷ (IDLE, is (NEXT ∷ []) && eqb (queued s.boxes) 0)
      ∷ (STALE, has_handle && stale_at s.cells (byte 1) (generation r) || is (DEFER ∷ []) && is_timer s.hand)
      ∷ (ABSENT, is (POST ∷ POSTFRONT ∷ SUBSCRIBE ∷ UNSUBSCRIBE ∷ ARM ∷ RECALL ∷ FLAG ∷ []) && not (started s p) || is (START ∷ []) && not (is_loaded s (byte 2)))
      ∷ (TAKEN, is (START ∷ []) && started s p || (is (LOAD ∷ []) && slot_in_use || is (ARM ∷ []) && armed s (byte 1)))
      ∷ (
        FULL,
        is (POST ∷ []) && leb (room s p) (byte 6)
            || (is (POSTFRONT ∷ []) && eqb (room s p) 0
            || (is (PUBLISH ∷ []) && full_subscriber
            || (is (DEFER ∷ []) && full_side
            || is (RECALL ∷ []) && no_place))),
      )
      ∷ (DRY, is (NEW ∷ []) && dry s (byte 2))
      ∷ (HOLDS, is (HOLD ∷ []) && eqb (holds_on s (byte 1)) most_holds || is (RELEASE ∷ []) && eqb (holds_on s (byte 1)) 0)
      ∷ (INUSE, is (DROP ∷ []) && not (is_new (at s.cells (byte 1))))
      ∷ (CHART, is (LOAD ∷ []) && not (eqb (class_of (edition_of (byte 1)) d) 0))
      ∷ (TABLE, unsound)
      ∷ []

-- The line with the number k applies.
unfoldable pub applies : State → List ℕ → List ℕ → Areas → ℕ → Bool
applies s r d z k = line (table_of (get_or r 0 0) s r d z) false k
