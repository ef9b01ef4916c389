-- The names of the commands.
use Rattle.std.specs.Prelude.{ℕ, codes}
use mathlib.Core.List.{List}
use Rattle.numbers.specs.declared.command.Command.{Command}
use Rattle.numbers.specs.declared.command.Command.TheVariants.{Load, Start, New, Post, PostFront, Publish, Subscribe, Unsubscribe, Hold, Release, Drop, Next, End, Arm, Disarm, Tick, Read, Drain, Defer, Recall, Flush, Flag}

-- the bytes of a command's name
abbrev pub name_of : Command → List ℕ
name_of Load = codes "LOAD"
name_of Start = codes "START"
name_of New = codes "NEW"
name_of Post = codes "POST"
name_of PostFront = codes "POSTFRONT"
name_of Publish = codes "PUBLISH"
name_of Subscribe = codes "SUBSCRIBE"
name_of Unsubscribe = codes "UNSUBSCRIBE"
name_of Hold = codes "HOLD"
name_of Release = codes "RELEASE"
name_of Drop = codes "DROP"
name_of Next = codes "NEXT"
name_of End = codes "END"
name_of Arm = codes "ARM"
name_of Disarm = codes "DISARM"
name_of Tick = codes "TICK"
name_of Read = codes "READ"
name_of Drain = codes "DRAIN"
name_of Defer = codes "DEFER"
name_of Recall = codes "RECALL"
name_of Flush = codes "FLUSH"
name_of Flag = codes "FLAG"
