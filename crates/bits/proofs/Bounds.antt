-- No count of a word's digits is above 64, and what `search` is handed for that.
use Prim.Native.Nat.{ℕ, ◌^◌, ◌<◌}
use native.Mathlib.Nat.{lt_of_le_of_lt}
use native.Mathlib.Omega.{arith}
pub use borrow.Author.Rules.{rules}
use lib.Count.{count_trailing_zeros, count_leading_zeros, ones, ones-le}
pub use lib.Count.{trailing_le, leading_le}
use Rattle.bits.specs.Members.{width}

pub trailing_fits : (x : ℕ) → count_trailing_zeros width x < 2 ^ width
trailing_fits x = lt_of_le_of_lt (trailing_le width x) (omega arith)

pub leading_fits : (x : ℕ) → count_leading_zeros width x < 2 ^ width
leading_fits x = lt_of_le_of_lt (leading_le width x) (omega arith)

pub ones_fits : (x : ℕ) → x < 2 ^ width → ones x < 2 ^ width
ones_fits x h = lt_of_le_of_lt (ones-le width x h) (omega arith)

pub ruleset count-needs = (trailing_le, leading_le, trailing_fits, leading_fits, ones_fits, rules)
