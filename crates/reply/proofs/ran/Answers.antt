use mathlib.Core.List.{List, [], ◌∷◌, ◌++◌, append_assoc}
use mathlib.Core.Path.{◌≡◌, sym, ap, ◌∙◌}
use Prim.Native.Nat.{ℕ, ◌+◌, ◌*◌, ◌≤◌}
use native.Mathlib.Omega.{arith}
use lib.ListN.{length, get_or, take, drop, replicate, length-drop, length-take}
use lib.Seq.{take-append-le, take_at}
use Rattle.chart.specs.Flat.{answer_of, flag_at, row_of}
use Rattle.chart.specs.Numbers.{most_actions}
use Rattle.ground.specs.Bytes.{padded}
use Rattle.ground.specs.Padding.{length-padded}
use Rattle.machine.specs.Reply.{bytes, handle, reply_of}
use Rattle.reply.proofs.ran.Goals as goal

-- the first n of a list, with anything behind them, cut off again: the list padded to n
cut : (l m : List ℕ) (n : ℕ) → n ≤ length l → take n (take n l ++ m) ≡ padded n l
unfolding padded
cut l m n h = let e : length (take n l) ≡ n = omega (arith, length-take n l) in take_at (take n l) m n e ∙ sym (take-append-le n l (replicate n 0) h)

-- what is told with the bytes of a row is what is told with its answer
padded-twice : (l m : List ℕ) → padded most_actions (padded most_actions l ++ m) ≡ padded most_actions l
unfolding padded
padded-twice l m =
    ap (take most_actions) (append_assoc (padded most_actions l) m (replicate most_actions 0))
    ∙ take_at (padded most_actions l) (m ++ replicate most_actions 0) most_actions (length-padded most_actions l)

row_told : (p g : ℕ) (row event : List ℕ) → row_of (flag_at row) (answer_of row) ≡ row →
    bytes 0 p (get_or row 1 0) g (get_or row 2 0) 0 0 (drop 3 row) event
    ≡ bytes 0 p (answer_of row).outcome g (length (answer_of row).acts) 0 0 (answer_of row).acts event
unfolding bytes row_of
row_told p g row event e =
    let a = answer_of row in
    ap (λ (r : List ℕ). bytes 0 p (get_or r 1 0) g (get_or r 2 0) 0 0 (drop 3 r) event) (sym e)
    ∙ ap (λ (l : List ℕ). 0 ∷ p ∷ (a.outcome * 32 + g) ∷ length a.acts ∷ 0 ∷ 0 ∷ (l ++ event)) (padded-twice a.acts (flag_at row ∷ 0 ∷ 0 ∷ []))

pub returns : goal.returns
unfolding reply_of bytes
returns c =
    let row = c.args.row.now in
    let acts = drop 3 row in
    let long : most_actions ≤ length acts = omega (arith, length-drop 3 row, c.requires.row_len.0) in
    rw (c.with_handle.ensures, c.copy_from_slice.ensures.after, cut acts (replicate 4 0) most_actions long)
    (row_told c.args.p c.args.g row (handle c.args.first c.args.generation) c.requires.row_value)
