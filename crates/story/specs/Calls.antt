-- Any sequence of calls from a fresh start.
use Rattle.std.specs.Prelude.{Bool, true, cond, List, ◌≡◌, ℕ, eqb, ltb, length, get_or}
use Rattle.ground.specs.Range.{every}
use Rattle.machine.specs.Machine.{answer_to}
use Rattle.machine.specs.Numbers.{payload_bytes, table_bytes, guarded_bytes}
use Rattle.machine.specs.Reply.{Areas, Answer, BothTables}
use Rattle.machine.specs.State.{State, fresh_state}

unfoldable pub are_bytes : List ℕ → Bool
are_bytes r = every (λ k. ltb (get_or r k 0) 256) 0 (length r)

-- A call: a command record, whose elements are bytes, a chart, and the areas that it is lent, of any length and with anything in them.
pub record Call : Type 0 where
  pub command : List ℕ
  pub bytes : are_bytes command ≡ true
  pub chart : List ℕ
  pub areas : Areas

-- Calls one after the other, from a fresh start.
pub data Story : Type 0 where
  fresh : Story
  then : Story → Call → Story

-- Each call gets the kernel that the call before gave back.
unfoldable pub kernel : Story → State
kernel fresh = fresh_state
kernel (then h c) = (answer_to (kernel h) c.command c.chart c.areas).state

abbrev pub answer_in : Story → Call → Answer
answer_in h c = answer_to (kernel h) c.command c.chart c.areas

-- One of the areas that calls are lent, and its length.
pub record Area : Type 0 where
  pub of : Areas → List ℕ
  pub size : ℕ

abbrev pub payload_area : Area
payload_area = record { of = λ z. z.payloads; size = payload_bytes }

abbrev pub table_area : Area
table_area = record { of = λ z. z.tables.plain; size = table_bytes }

abbrev pub guarded_area : Area
guarded_area = record { of = λ z. z.tables.guarded; size = guarded_bytes }

-- The bytes that the last call which was lent the area with its length left in it; as long as there was none, the bytes `first`.
unfoldable pub left : Area → List ℕ → Story → List ℕ
left a first fresh = first
left a first (then h c) = cond (eqb (length (a.of c.areas)) a.size) (a.of (answer_in h c).areas) (left a first h)

-- Nobody but the kernel writes to the area: "each call gets the kernel that the call before gave back, and the area, whenever it is lent
-- with its length, holds the bytes that the last such call left in it". What a call is lent with another length may be anything.
unfoldable pub OnlyKernel : Area → List ℕ → Story → Type 0
OnlyKernel a first fresh = Unit {0}
OnlyKernel a first (then h c) = OnlyKernel a first h × (length (a.of c.areas) ≡ a.size → a.of c.areas ≡ left a first h)

-- Nobody but the kernel writes to the tables, neither to those of the plain slots nor to the guarded one; what is left in them.
abbrev pub OnlyKernelTables : BothTables → Story → Type 0
OnlyKernelTables first h = OnlyKernel table_area first.plain h × OnlyKernel guarded_area first.guarded h

abbrev pub left_tables : BothTables → Story → BothTables
left_tables first h = record { plain = left table_area first.plain h; guarded = left guarded_area first.guarded h }
