-- What the check opens at each goal of a reader's methods.
use Rattle.std.specs.Prelude.{⊤}
use Rattle.frame.specs.Inside.{state_of, part_of, last_of}
use Rattle.frame.specs.Reading.{gap_at, pushed, taken, given, after, last_in}
use Rattle.frame.specs.View.{frames_told, Tells}

unfoldable pub reader : ⊤
unfolding state_of part_of last_of gap_at pushed taken given after last_in frames_told Tells
reader = tt
