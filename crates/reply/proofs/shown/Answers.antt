use mathlib.Core.List.{List}
use mathlib.Core.Path.{◌≡◌, refl}
use native.Mathlib.Omega.{arith}
use Prim.Native.Nat.{ℕ, min}
use lib.ListN.{length, take, length-take}
use Rattle.chart.specs.Numbers.{most_actions}
use Rattle.machine.specs.Reply.{bytes, reply_of}
use Rattle.reply.proofs.shown.Goals as goal

count_of : (l : List ℕ) → min (length l) most_actions ≡ length (take most_actions l)
count_of l = omega (arith, length-take most_actions l)

pub returns : goal.returns
unfolding reply_of bytes
returns c = rw (c.fill.ensures, c.min.ensures, count_of) refl
