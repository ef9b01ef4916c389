-- Which bytes of a record are a command's arguments, and what the kernel answers to any record.
use Rattle.std.specs.Prelude.{Bool, true, false, cond, not, ◌&&◌, ◌||◌, List, [], ℕ, ◌+◌, ◌*◌, eqb, length, get_or, drop}
use Rattle.ground.specs.Bytes.{blank}
use Rattle.machine.specs.Aside.{defer, recall, flush}
use Rattle.machine.specs.Charts.{load, start, flag}
use Rattle.machine.specs.Clocks.{arm, disarm, tick}
use Rattle.machine.specs.Events.{new, post, post_front, publish, subscribe, unsubscribe, hold, release, drop_event, read, read_part, read_at}
use Rattle.machine.specs.Numbers.{record_bytes, no_size}
use Rattle.machine.specs.Reply.{FORM, no, generation_from, Areas, Answer, answer}
use Rattle.machine.specs.State.{State}
use Rattle.machine.specs.Steps.{next, end, drain}

-- A record: number, seven arguments, 64 payload bytes. 16-bit numbers are low byte first.
abbrev pub arg : List ℕ → ℕ → ℕ
arg r k = get_or r k 0

abbrev pub arg16 : List ℕ → ℕ → ℕ
arg16 r k = arg r k + 256 * arg r (k + 1)

-- The handle of an event: its block is argument 1, its generation the next three.
abbrev pub generation : List ℕ → ℕ
generation r = generation_from r 2

abbrev pub payload : List ℕ → List ℕ
payload r = drop 8 r

-- Of a command with k arguments, a later byte is not 0; of NEW a later argument, or a payload byte past the size n, none if n is above 64.
unfoldable pub spoilt : ℕ → List ℕ → Bool
spoilt k r = not (blank r (1 + k) record_bytes)

unfoldable pub spoilt_new : ℕ → List ℕ → Bool
spoilt_new n r = not (blank r 3 8) || not (blank r (cond (no_size n) record_bytes (8 + n)) record_bytes)

-- Where the test passes a, else b.
unfoldable pub choose : Bool → Answer → Answer → Answer
choose true a b = a
choose false a b = b

-- What command n is, of the record r with the chart d.
unfoldable pub command : ℕ → List ℕ → List ℕ → State → Areas → Answer
command n r d s z =
    choose (eqb n 1) (load (spoilt 1 r) (arg r 1) d s z)
    (choose (eqb n 2) (start (spoilt 3 r) (arg r 1) (arg r 2) (arg r 3) s z)
    (choose (eqb n 3) (new (spoilt_new (arg r 2) r) (arg r 1) (arg r 2) (payload r) s z)
    (choose (eqb n 4) (post (spoilt 6 r) (arg r 1) (generation r) (arg r 5) (arg r 6) s z)
    (choose (eqb n 5) (post_front (spoilt 5 r) (arg r 1) (generation r) (arg r 5) s z)
    (choose (eqb n 6) (publish (spoilt 4 r) (arg r 1) (generation r) s z)
    (choose (eqb n 7) (subscribe (spoilt 2 r) (arg r 1) (arg r 2) s z)
    (choose (eqb n 8) (unsubscribe (spoilt 2 r) (arg r 1) (arg r 2) s z)
    (choose (eqb n 9) (hold (spoilt 4 r) (arg r 1) (generation r) s z)
    (choose (eqb n 10) (release (spoilt 4 r) (arg r 1) (generation r) s z)
    (choose (eqb n 11) (drop_event (spoilt 4 r) (arg r 1) (generation r) s z)
    (choose (eqb n 12) (next (spoilt 0 r) s z)
    (choose (eqb n 13) (end (spoilt 0 r) s z)
    (choose (eqb n 14) (arm (spoilt 7 r) (arg r 1) (arg r 2) (arg r 3) (arg16 r 4) (arg16 r 6) s z)
    (choose (eqb n 15) (disarm (spoilt 1 r) (arg r 1) s z)
    (choose (eqb n 16) (tick (spoilt 0 r) s z)
    (choose (eqb n 17) (read (spoilt 4 r) (arg r 1) (generation r) s z)
    (choose (eqb n 18) (drain (spoilt 1 r) (arg r 1) s z)
    (choose (eqb n 19) (defer (spoilt 1 r) (arg r 1) s z)
    (choose (eqb n 20) (recall (spoilt 2 r) (arg r 1) (arg r 2) s z)
    (choose (eqb n 21) (flush (spoilt 1 r) (arg r 1) s z)
    (choose (eqb n 22) (flag (spoilt 3 r) (arg r 1) (arg r 2) (arg r 3) s z)
    (answer s (no FORM) z))))))))))))))))))))))

unfoldable pub answer_to : State → List ℕ → List ℕ → Areas → Answer
answer_to s r d z = choose (eqb (length r) record_bytes) (command (arg r 0) r d s z) (answer s (no FORM) z)

-- The part of the payload area that READ hands back; empty for any other record.
unfoldable pub part_of : State → List ℕ → List ℕ → List ℕ
part_of s r payloads = cond (eqb (length r) record_bytes && eqb (arg r 0) 17) (read_part (spoilt 4 r) (arg r 1) (generation r) s payloads) []

-- Where that part begins in the payload area, and how long it is; 0 and 0 when READ is refused, and for any other record.
unfoldable pub part_at : State → List ℕ → List ℕ → ℕ × ℕ
part_at s r payloads = cond (eqb (length r) record_bytes && eqb (arg r 0) 17) (read_at (spoilt 4 r) (arg r 1) (generation r) s payloads) (0, 0)
