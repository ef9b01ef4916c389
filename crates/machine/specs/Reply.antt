-- Document 01, "The reply record", as document 02 amends it: the refusals by name, the bytes of every reply, and what a command answers.
use Rattle.std.specs.Prelude.{Bool, cond, List, [], ◌∷◌, ◌++◌, ℕ, zero, suc, ◌+◌, ◌*◌, ◌/◌, ◌%◌, length, get_or, take, drop}
use Rattle.chart.specs.Numbers.{most_actions}
use Rattle.chart.specs.Step
use Rattle.ground.specs.Bytes.{padded}
use Rattle.machine.specs.State.{State}

abbrev pub DONE : ℕ
DONE = 0

abbrev pub FORM : ℕ
FORM = 1

abbrev pub AREA : ℕ
AREA = 2

abbrev pub RANGE : ℕ
RANGE = 3

abbrev pub BUSY : ℕ
BUSY = 4

abbrev pub NOSTEP : ℕ
NOSTEP = 5

abbrev pub IDLE : ℕ
IDLE = 6

abbrev pub STALE : ℕ
STALE = 7

abbrev pub ABSENT : ℕ
ABSENT = 8

abbrev pub TAKEN : ℕ
TAKEN = 9

abbrev pub FULL : ℕ
FULL = 10

abbrev pub DRY : ℕ
DRY = 11

abbrev pub HOLDS : ℕ
HOLDS = 12

abbrev pub INUSE : ℕ
INUSE = 13

abbrev pub CHART : ℕ
CHART = 14

abbrev pub TABLE : ℕ
TABLE = 15

-- What a reply says: a refusal by its number; CHART with the class; DONE with two values; DONE of NEW with block and generation and the
-- pool's mark; DONE of START and NEXT with the object, the signal, the event's first byte and generation (0 and 0 for START) and what the
-- table answers; DONE of READ with the payload.
pub data Said : Type 0 where
  no : ℕ → Said
  bad_chart : ℕ → Said
  done : ℕ → ℕ → Said
  made : ℕ → ℕ → ℕ → Said
  ran : ℕ → ℕ → ℕ → ℕ → Step.Answer → Said
  shown : List ℕ → Said

-- A handle: a block, or 128 and a timer, then the generation in three bytes, low first.
unfoldable pub handle : ℕ → ℕ → List ℕ
handle b g = b ∷ g % 256 ∷ g / 256 % 256 ∷ g / 65536 % 256 ∷ []

-- The generation whose three bytes stand in a list from place k on.
abbrev pub generation_from : List ℕ → ℕ → ℕ
generation_from l k = get_or l k 0 + 256 * get_or l (k + 1) 0 + 65536 * get_or l (k + 2) 0

abbrev pub no_handle : List ℕ
no_handle = 0 ∷ 0 ∷ 0 ∷ 0 ∷ []

-- Reply number, object, outcome × 32 + signal, count, two value bytes, 18 actions, a handle.
unfoldable pub bytes : ℕ → ℕ → ℕ → ℕ → ℕ → ℕ → ℕ → List ℕ → List ℕ → List ℕ
bytes n p outcome g count v w acts event = n ∷ p ∷ (outcome * 32 + g) ∷ count ∷ v ∷ w ∷ (padded most_actions acts ++ event)

unfoldable pub reply_of : Said → List ℕ
reply_of (no n) = bytes n 0 0 0 0 0 0 [] no_handle
reply_of (bad_chart c) = bytes CHART 0 0 0 0 c 0 [] no_handle
reply_of (done v w) = bytes DONE 0 0 0 0 v w [] no_handle
reply_of (made b gen mark) = bytes DONE 0 0 0 mark 0 0 [] (handle b gen)
reply_of (ran p g first gen a) = bytes DONE p a.outcome g (length a.acts) 0 0 a.acts (handle first gen)
reply_of (shown l) = bytes DONE 0 0 0 (length (take most_actions l)) (length l) 0 l no_handle

-- The flat tables that a call is lent: those of the plain slots, one behind the other, and that of the guarded slot.
pub record BothTables : Type 0 where
  pub plain : List ℕ
  pub guarded : List ℕ

abbrev pub both : List ℕ → List ℕ → BothTables
both t g = record { plain = t; guarded = g }

-- The areas that a call is lent, and what it answers: the state, the reply, and the areas.
pub record Areas : Type 0 where
  pub payloads : List ℕ
  pub tables : BothTables
  pub log : List ℕ

pub record Answer : Type 0 where
  pub state : State
  pub reply : List ℕ
  pub areas : Areas

abbrev pub answer : State → Said → Areas → Answer
answer s w z = record { state = s; reply = reply_of w; areas = z }

-- Of tests in ascending number, the number of the first that holds, and 0 where none does.
unfoldable pub lowest : List (ℕ × Bool) → ℕ
lowest [] = 0
lowest (x ∷ l) = cond x.1 x.0 (lowest l)

-- The lowest number that applies is given, and then only the reply is written; where none applies, a is what is done.
unfoldable pub unless : ℕ → State → Areas → Answer → Answer
unless zero s z a = a
unless (suc n) s z a = answer s (no (suc n)) z

-- CHART: a refused chart; the value byte is its class c.
unfoldable pub unless_fault : ℕ → State → Areas → Answer → Answer
unless_fault zero s z a = a
unless_fault (suc c) s z a = answer s (bad_chart (suc c)) z

-- The areas with one replaced, and the bytes v written over l from place i on.
abbrev pub with_payloads : List ℕ → Areas → Areas
with_payloads x z = record { payloads = x; tables = z.tables; log = z.log }

abbrev pub with_tables : BothTables → Areas → Areas
with_tables x z = record { payloads = z.payloads; tables = x; log = z.log }

abbrev pub with_log : List ℕ → Areas → Areas
with_log x z = record { payloads = z.payloads; tables = z.tables; log = x }

unfoldable pub over : List ℕ → ℕ → List ℕ → List ℕ
over l i v = take i l ++ (v ++ drop (i + length v) l)
