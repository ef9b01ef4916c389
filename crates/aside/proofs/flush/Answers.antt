use mathlib.Core.Path.{refl}
use Prim.Native.Nat.{◌<◌}
use native.Mathlib.Omega.{arith}
use Rattle.machine.specs.Aside.{flush, flush_tests}
use Rattle.machine.specs.Numbers.{side_queues}
use Rattle.mail.specs.View.{boxes_at, cleared}
use Rattle.state.proofs.Glue.{refused, doing}
use Rattle.state.specs.View.{told, state_of}
use Rattle.aside.proofs.Queues.{flush-within, flushed-is}
use Rattle.aside.proofs.flush.Goals as goal
use Rattle.aside.proofs.flush.Goals.{In_ok-flush_refusal}

pub returns-in_err-flush_refusal : goal.returns-in_err-flush_refusal
unfolding flush flush_tests
returns-in_err-flush_refusal c = λ z.
    refused _ z _ _ _ _ c.from_residual.ensures.1 c.in_err-flush_refusal.ensures

within : (c : In_ok-flush_refusal) → c.args.q < side_queues
unfolding flush_tests
within c = flush-within c.args.spoilt c.args.q c.in_ok-flush_refusal.ensures

pub offset_bounds-k-q : goal.offset_bounds-k-q
offset_bounds-k-q c = let h = within (goal.at.offset_bounds-k-q c).In_ok-flush_refusal in omega arith

pub bounds-k-q : goal.bounds-k-q
bounds-k-q c = within (goal.at.bounds-k-q c).In_ok-flush_refusal

pub overflow_cast-n : goal.overflow_cast-n
unfolding state_of
overflow_cast-n c = let h = rw boxes_at at (c.requires.aside.room c.args.q) in omega arith

pub returns : goal.returns
unfolding flush flush_tests told state_of
returns c = λ z.
    let k = c.args.k.now in
    let gone = c.let_go_each.ensures in
    doing _ z _ _ _ _ c.in_ok-flush_refusal.ensures
    (rw (
      cleared k.sides c.args.q _ c.clear.ensures,
      gone.cells,
      gone.marks,
      c.done.ensures,
      c.len-n.ensures,
      ← boxes_at k.sides c.args.q,
      ← flushed-is (state_of k) c.args.q (omega (arith, c.requires.store.cells-length)),
    ) refl)
