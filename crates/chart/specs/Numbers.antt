-- The numbers of documents 01 and 02 that charts and tables are made by.
use Rattle.std.specs.Prelude.{ℕ, ◌+◌, ◌-◌}
-- The two editions of charts: `Plain` are those of document 01, whose rows have no flag, `Guarded` those of document 02's request 8.
pub use Rattle.chart.specs.declared.read.Edition.{Edition}
pub use Rattle.chart.specs.declared.read.Edition.TheVariants.{Plain, Guarded}

-- a chart: its most bytes, its levels, the first and the last signal, and how many there are
abbrev pub longest : ℕ
longest = 5576

abbrev pub levels : ℕ
levels = 6

abbrev pub first_signal : ℕ
first_signal = 4

abbrev pub last_signal : ℕ
last_signal = 31

abbrev pub signal_count : ℕ
signal_count = last_signal - first_signal + 1

-- by its edition: its most states, the highest flag that a row may name, and where the filler of a row begins
abbrev pub most_states : Edition → ℕ
most_states Plain = 24
most_states Guarded = 8

abbrev pub most_flag : Edition → ℕ
most_flag Plain = 0
most_flag Guarded = 8

abbrev pub row_filler : Edition → ℕ
row_filler Plain = 6
row_filler Guarded = 7

-- a table: the bytes of a row, the most actions of a step, and where a row has its flag
abbrev pub row_size : ℕ
row_size = 24

abbrev pub most_actions : ℕ
most_actions = 18

abbrev pub flag_byte : ℕ
flag_byte = 21

-- by its edition: the rows for each state and signal, all rows behind the start row, and the bytes of a slot
abbrev pub each : Edition → ℕ
each Plain = 1
each Guarded = 6

abbrev pub row_count : Edition → ℕ
row_count Plain = 672
row_count Guarded = 1344

abbrev pub slot_size : Edition → ℕ
slot_size Plain = 16152
slot_size Guarded = 32280
