use mathlib.Core.Path.{refl}
use native.Mathlib.Omega.{arith}
use Rattle.machine.specs.Events.{post, posted}
use Rattle.mail.specs.View.{pushed_back}
use Rattle.state.specs.View.{state_of, told}
use Rattle.state.proofs.Glue.{refused, doing}
use Rattle.events.proofs.Posts.{Postable, postable, has_place}
use Rattle.events.proofs.post.Goals as goal
use Rattle.events.proofs.post.Goals.{In_ok-may_post}

may : (c : In_ok-may_post) → Postable (state_of c.args.k.now) c.args.handle.block c.args.p
may c = postable _ _ _ _ _ _ c.in_ok-may_post.ensures c.requires

pub returns-in_err-may_post : goal.returns-in_err-may_post
unfolding post
returns-in_err-may_post c = λ z.
    refused _ z _ _ _ _ c.from_residual.ensures.1 (c.in_err-may_post.ensures)

pub overflow_cast-queued : goal.overflow_cast-queued
overflow_cast-queued c = let h = may (goal.at.overflow_cast-queued c).In_ok-may_post in omega (arith, h.free, c.queued-queued.ensures)

pub overflow_sub-p : goal.overflow_sub-p
overflow_sub-p c = (may (goal.at.overflow_sub-p c).In_ok-may_post).low

pub offset_bounds-k-p : goal.offset_bounds-k-p
offset_bounds-k-p c = let h = may (goal.at.offset_bounds-k-p c).In_ok-may_post in omega (arith, h.high)

pub bounds-k-p : goal.bounds-k-p
bounds-k-p c = let h = may (goal.at.bounds-k-p c).In_ok-may_post in omega (arith, h.high, h.low)

pub overflow_cast-handle : goal.overflow_cast-handle
overflow_cast-handle c = let h = may (goal.at.overflow_cast-handle c).In_ok-may_post in omega (arith, h.block)

pub push_back-requires : goal.push_back-requires
push_back-requires c = has_place _ _ _ (may (goal.at.push_back-requires c).In_ok-may_post)

pub overflow_add-queued : goal.overflow_add-queued
overflow_add-queued c = let h = may (goal.at.overflow_add-queued c).In_ok-may_post in omega (arith, h.free, c.queued-queued.ensures)

pub returns : goal.returns
unfolding post posted state_of told
returns c = λ z.
    doing _ z _ _ _ _ (c.in_ok-may_post.ensures)
    (rw (pushed_back _ _ _ _ c.push_back.ensures, c.entry_of.ensures, c.add.ensures.cells, c.add.ensures.marks, c.done.ensures, c.queued-queued.ensures) refl)
