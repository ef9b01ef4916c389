-- How a range is cut out of a word. For this crate's proofs alone.
use Rattle.std.specs.Prelude.{ℕ, ◌-◌, ◌*◌, ◌/◌, ◌%◌, ◌^◌}
use Rattle.bits.specs.Members.{width}

-- The digits of w from `from` up to, not including, `to`, moved up to the end of the word.
abbrev pub moved_up : ℕ → ℕ → ℕ → ℕ
moved_up w from to = w / 2 ^ from * 2 ^ (width - (to - from)) % 2 ^ width
