use borrow.Author.Rules.{rules}
use mathlib.Core.List.{List, ◌++◌, append-nil}
use mathlib.Core.Path.{◌≡◌, refl}
use Prim.Native.Nat.{ℕ, ◌+◌, ◌≤◌}
use native.Mathlib.Omega.{arith}
use lib.ListN.{length, take, drop, length-drop, drop_of_length-le}
use Rattle.machine.specs.Numbers.{handle_place, reply_bytes}
use Rattle.machine.specs.Reply.{handle}
use Rattle.reply.proofs.with_handle.Goals as goal

-- what is written over the last k of a list has nothing behind it
over-end : (l m : List ℕ) (i k : ℕ) → length l ≤ i + k → take i l ++ (m ++ drop k (drop i l)) ≡ take i l ++ m
over-end l m i k h = let short : length (drop i l) ≤ k = omega (arith, length-drop i l) in rw (drop_of_length-le (drop i l) short, append-nil) refl

pub returns : goal.returns
unfolding handle
returns c =
    let l = c.args.reply in
    let long : length l ≤ reply_bytes = search rules in
    rw (c.copy_from_slice.ensures.after, c.to_le_bytes.ensures) (over-end l _ handle_place 4 long)
