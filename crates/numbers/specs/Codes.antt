-- The numbers of the commands and of the refusals.
use Rattle.std.specs.Prelude.{◌≡◌, ◌≤◌, ℕ, Result, MatchResult}
use Rattle.numbers.specs.declared.answer.Refusal.{Refusal}
use Rattle.numbers.specs.declared.answer.Refusal.TheVariants.{Form, Area, Range, Busy, NoStep, Idle, Stale, Absent, Taken, Full, Dry, Holds, InUse, Chart, Table}
use Rattle.numbers.specs.declared.command.Command.{Command}
use Rattle.numbers.specs.declared.command.Command.TheVariants.{Load, Start, New, Post, PostFront, Publish, Subscribe, Unsubscribe, Hold, Release, Drop, Next, End, Arm, Disarm, Tick, Read, Drain, Defer, Recall, Flush, Flag}
use Rattle.numbers.specs.declared.command.UnknownCommand.{UnknownCommand}

abbrev pub code_of : Refusal → ℕ
code_of Form = 1
code_of Area = 2
code_of Range = 3
code_of Busy = 4
code_of NoStep = 5
code_of Idle = 6
code_of Stale = 7
code_of Absent = 8
code_of Taken = 9
code_of Full = 10
code_of Dry = 11
code_of Holds = 12
code_of InUse = 13
code_of Chart = 14
code_of Table = 15

abbrev pub number_of : Command → ℕ
number_of Load = 1
number_of Start = 2
number_of New = 3
number_of Post = 4
number_of PostFront = 5
number_of Publish = 6
number_of Subscribe = 7
number_of Unsubscribe = 8
number_of Hold = 9
number_of Release = 10
number_of Drop = 11
number_of Next = 12
number_of End = 13
number_of Arm = 14
number_of Disarm = 15
number_of Tick = 16
number_of Read = 17
number_of Drain = 18
number_of Defer = 19
number_of Recall = 20
number_of Flush = 21
number_of Flag = 22

-- the command with this number, or that none has it
abbrev pub IsCommand : ℕ → Result Command UnknownCommand → Type 0
IsCommand n r = MatchResult r (λ command. number_of command ≡ n) (λ _. (1 ≤ n → n ≤ 22 → ⊥))
