-- Document 01, "Numbers of the kernel", and those of document 02.
use Rattle.std.specs.Prelude.{Bool, cond, ◌||◌, ℕ, ◌+◌, ◌*◌, ◌-◌, eqb, ltb}
use Rattle.chart.specs.Numbers.{slot_size, most_flag, first_signal, last_signal}
use Rattle.chart.specs.declared.read.Edition.{Edition}
use Rattle.chart.specs.declared.read.Edition.TheVariants.{Plain, Guarded}
use Rattle.mail.specs.Box.{room}
pub use Rattle.pool.specs.Row.{blocks}

abbrev pub objects : ℕ
objects = 16

abbrev pub timers : ℕ
timers = 16

-- Four slots take plain charts, and a fifth, slot 4, takes a guarded one (document 02, request 8).
abbrev pub plain_slots : ℕ
plain_slots = 4

abbrev pub guarded_slot : ℕ
guarded_slot = 4

abbrev pub slots : ℕ
slots = plain_slots + 1

unfoldable pub edition_of : ℕ → Edition
edition_of q = cond (eqb q guarded_slot) Guarded Plain

abbrev pub most_holds : ℕ
most_holds = 15

-- Eight side queues of up to 8 entries each.
abbrev pub side_queues : ℕ
side_queues = 8

abbrev pub most_aside : ℕ
most_aside = 8

-- The most bytes of an event's payload: those of the largest blocks, and of a record.
abbrev pub most_bytes : ℕ
most_bytes = 64

-- Each object has a place for every number below 32, which says whether it subscribes to that signal.
abbrev pub signal_places : ℕ
signal_places = 32

-- The bytes of a record, of a reply, which ends with a handle, and of the areas: payloads, the tables of the plain slots, the guarded
-- table, log, which has a line for each of the most steps of a DRAIN.
abbrev pub record_bytes : ℕ
record_bytes = 72

abbrev pub handle_place : ℕ
handle_place = 24

abbrev pub reply_bytes : ℕ
reply_bytes = 28

abbrev pub payload_bytes : ℕ
payload_bytes = 1536

abbrev pub table_bytes : ℕ
table_bytes = plain_slots * slot_size Plain

abbrev pub guarded_bytes : ℕ
guarded_bytes = slot_size Guarded

abbrev pub most_steps : ℕ
most_steps = 255

abbrev pub log_bytes : ℕ
log_bytes = most_steps * reply_bytes

-- n is not one of low to high.
unfoldable pub outside : ℕ → ℕ → ℕ → Bool
outside low high n = ltb n low || ltb high n

abbrev pub no_object : ℕ → Bool
no_object p = outside 1 objects p

abbrev pub no_depth : ℕ → Bool
no_depth n = outside 1 room n

abbrev pub no_signal : ℕ → Bool
no_signal g = outside first_signal last_signal g

abbrev pub no_timer : ℕ → Bool
no_timer t = outside 0 15 t

abbrev pub no_slot : ℕ → Bool
no_slot q = outside 0 4 q

abbrev pub no_flag : ℕ → Bool
no_flag f = outside 1 (most_flag Guarded) f

-- A flag is cleared by 0 and set by 1.
abbrev pub no_value : ℕ → Bool
no_value v = outside 0 1 v

abbrev pub no_block : ℕ → Bool
no_block b = outside 0 55 b

abbrev pub no_size : ℕ → Bool
no_size n = outside 0 most_bytes n

abbrev pub no_margin : ℕ → Bool
no_margin m = outside 0 15 m

abbrev pub no_side : ℕ → Bool
no_side q = outside 0 7 q

-- Blocks 0-31 hold 16 bytes, 32-47 hold 32, 48-55 hold 64; the payload area has the blocks in order.
unfoldable pub capacity : ℕ → ℕ
capacity b = cond (ltb b 32) 16 (cond (ltb b 48) 32 64)

unfoldable pub place_of : ℕ → ℕ
place_of b = cond (ltb b 32) (16 * b) (cond (ltb b 48) (512 + 32 * (b - 32)) (1024 + 64 * (b - 48)))
