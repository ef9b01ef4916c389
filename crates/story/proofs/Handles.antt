-- The handle that a reply of NEW or NEXT ends with: its first byte, and the generation that its other three bytes are.
use mathlib.Core.List.{List, ◌++◌}
use mathlib.Core.Path.{◌≡◌}
use Prim.Native.Nat.{ℕ, ◌+◌, ◌*◌, ◌/◌, ◌%◌, ◌≤◌}
use native.Mathlib.Omega.{arith}
use lib.ListN.{get_or}
use lib.Seq.{get_or-append-add}
use Rattle.std.proofs.Common.{Some}
use Rattle.ground.specs.Bytes.{padded}
use Rattle.ground.specs.Padding.{length-padded}
use Rattle.chart.specs.Numbers.{most_actions}
use Rattle.pool.specs.Cell.{last_generation}
use Rattle.pool.specs.Row.{generation_at}
use Rattle.machine.specs.Events.{new_in}
use Rattle.machine.specs.Numbers.{handle_place}
use Rattle.machine.specs.Reply.{Areas, BothTables, bytes, handle, generation_from, reply_of}
use Rattle.machine.specs.State.{State}
use Rattle.machine.specs.Steps.{coming, first_byte, generation_in, next_says}

-- Of a reply: that byte, and that generation.
abbrev pub said_event : List ℕ → ℕ
said_event r = get_or r handle_place 0

abbrev pub said_generation : List ℕ → ℕ
said_generation r = generation_from r (handle_place + 1)

-- three bytes are enough for every generation
pub three_bytes : (gen : ℕ) → gen ≤ last_generation → gen % 256 + 256 * (gen / 256 % 256) + 65536 * (gen / 65536 % 256) ≡ gen
three_bytes gen l = omega arith

-- The reply r ends with the handle of b at a generation.
pub record EndsWith (b gen : ℕ) (r : List ℕ) : Type 0 where
  pub event : said_event r ≡ b
  pub generation : gen ≤ last_generation → said_generation r ≡ gen

module _ (acts : List ℕ) (b gen : ℕ) where
  -- it stands behind the actions
  behind : (k : ℕ) → get_or (padded most_actions acts ++ handle b gen) (most_actions + k) 0 ≡ get_or (handle b gen) k 0
  behind k = rw (length-padded most_actions acts) at (get_or-append-add (padded most_actions acts) (handle b gen) k 0)

  ends : (n p outcome g count v w : ℕ) → EndsWith b gen (bytes n p outcome g count v w acts (handle b gen))
  unfolding bytes handle
  ends n p outcome g count v w = record { event = behind 0; generation = λ l. rw (behind 1, behind 2, behind 3) (three_bytes gen l) }

pub new_ends : (s : State) (b g n : ℕ) (payload : List ℕ) (z : Areas) → EndsWith b (generation_at s.cells b) (new_in (Some b) g n payload s z).reply
unfolding new_in reply_of
new_ends s b g n payload z = ends _ _ _ _ _ _ _ _ _ _

pub next_ends : (s : State) (tables : BothTables) → EndsWith (first_byte (coming s)) (generation_in s (coming s)) (reply_of (next_says s tables))
unfolding next_says reply_of
next_ends s tables = ends _ _ _ _ _ _ _ _ _ _
