use borrow.Author.Rules.{rules}
use mathlib.Core.Path.{◌≡◌, refl, sym, ◌∙◌}
use Prim.Native.Nat.{◌≤◌}
use native.Mathlib.Omega.{arith}
use lib.ListN.{length}
use lib.Seq.{length-take-le}
use Rattle.std.proofs.Common.{Some, None, Err}
use Rattle.numbers.specs.declared.answer.Refusal.TheVariants.{Dry}
use Rattle.machine.specs.Events.{new, new_event, new_in, new_tests, none_found}
use Rattle.machine.specs.Numbers.{most_bytes, payload_bytes}
use Rattle.state.specs.View.{areas, state_of, told}
use Rattle.state.proofs.Glue.{refusal, refused, refusal-numbered, writing}
use Rattle.pool.specs.View.{cells, cells-length, marks}
use Rattle.payloads.proofs.Blocks.{Took, took, took_none, new_allowed, new_refused, new-dry}
use Rattle.payloads.proofs.new.Goals as goal
use Rattle.payloads.proofs.new.Goals.{In_ok-b}

-- what is found, and what is not
block : (c : In_ok-b) → Took (cells c.args.k.now.pool) (marks c.args.k.now.pool) c.from-n.result c.in_ok-b.b (cells c.take-taken.new.self) (marks c.take-taken.new.self)
block c =
    let found : c.take-taken.result.found ≡ Some c.in_ok-b.b = search rules in
    took _ _ _ _ _ _ _ _ (cells-length c.args.k.now.pool) c.take-taken.ensures found

allowed : (c : In_ok-b) → (c.from-n.result ≤ most_bytes) × (length c.args.payloads.now ≡ payload_bytes)
allowed c = new_allowed _ _ _ _ c.in_ok-new_refusal.ensures

pub returns-in_err-new_refusal : goal.returns-in_err-new_refusal
unfolding new state_of
returns-in_err-new_refusal c = λ t u l.
    refused _ (areas _ t u l) _ _ _ _ c.from_residual.ensures.1
    (new_refused (state_of c.args.k.now) c.args.spoilt c.args.payloads.now _ _ _ _ c.from.ensures c.from-n.ensures _ (refusal-numbered _) c.in_err-new_refusal.ensures)

pub returns-in_err-b : goal.returns-in_err-b
unfolding new state_of told
returns-in_err-b c =
    let found : c.take-taken.result.found ≡ None = search rules in
    let dry : c.from_residual-in_err-b.result ≡ Err Dry = search rules in
    let none = took_none _ _ _ _ _ _ _ c.take-taken.ensures found in
    λ t u l. rw (dry, none.1, none.2)
    (refusal c.args.k.now (areas _ t u l) _ _ Dry (new-dry (state_of c.args.k.now) c.args.spoilt c.args.payloads.now _ _ _ _ c.from.ensures c.from-n.ensures c.in_ok-new_refusal.ensures none.0))

pub bounds-k-b : goal.bounds-k-b
bounds-k-b c = let h = block (goal.at.bounds-k-b c).In_ok-b in h.block

pub bounds-k-b-2 : goal.bounds-k-b-2
bounds-k-b-2 c = let h = block (goal.at.bounds-k-b-2 c).In_ok-b in h.block

pub bounds-k-b-3 : goal.bounds-k-b-3
bounds-k-b-3 c = let h = block (goal.at.bounds-k-b-3 c).In_ok-b in h.block

pub slice_bounds-put_payload-end : goal.slice_bounds-put_payload-end
slice_bounds-put_payload-end c = let h = allowed (goal.at.slice_bounds-put_payload-end c).In_ok-b in sym (length-take-le c.from-n.result c.args.payload.now (omega (arith, h.0)))

pub put_payload-requires : goal.put_payload-requires
put_payload-requires c = let x = (goal.at.put_payload-requires c).In_ok-b in ((block x).block, (allowed x).1)

pub overflow_cast-b : goal.overflow_cast-b
overflow_cast-b c = let h = block (goal.at.overflow_cast-b c).In_ok-b in omega (arith, h.block)

pub returns : goal.returns
unfolding new new_tests new_event new_in none_found state_of told
returns c =
    let h = block (goal.at.returns c).In_ok-b in
    λ t u l.
    writing _ (areas c.args.payloads.now t u l) _ _ _ _ (areas _ t u l)
    (c.in_ok-new_refusal.ensures ∙ rw (c.from.ensures, ← c.from-n.ensures, h.found) refl)
    (rw (← c.from-n.ensures, h.found, c.made.ensures, c.generation.ensures, h.generation, c.take-taken.ensures.mark, h.row, h.marks, c.put_payload.ensures) refl)
