-- Demand 1.
use mathlib.Core.Bool.{true, ◌&&◌}
use mathlib.Core.List.{List, []}
use mathlib.Core.Logic.{⊎_elim}
use mathlib.Core.Path.{◌≡◌, refl, sym, ap, ◌∙◌}
use Prim.Native.Nat.{ℕ, ◌<◌, ◌≤◌}
use native.Mathlib.Decide.{dec_lt}
use native.Mathlib.Omega.{arith}
use borrow.Author.Tests.{eqb-true}
use lib.Dec.{eqb}
use lib.ListN.{length, get_or}
use Rattle.ground.specs.Bools.{and_left, and_right, cond_pick, eq_or, no_yes}
use Rattle.machine.proofs.Fresh.{fresh_inv}
use Rattle.machine.proofs.Keeps.{keeps}
use Rattle.machine.proofs.Replies.{replies}
use Rattle.machine.proofs.Tests.{unless_none}
use Rattle.machine.specs.Events.{read_tests, read, read_part}
use Rattle.machine.specs.Inv.{Inv}
use Rattle.machine.specs.Machine.{arg, generation, spoilt, choose, command, answer_to, part_of}
use Rattle.machine.specs.Numbers.{record_bytes}
use Rattle.machine.specs.Reply.{DONE, Areas, lowest, reply_of, bytes}
use Rattle.machine.specs.State.{State}
use Rattle.story.specs.Calls.{Call, Story, fresh, then, kernel}
use Rattle.story.specs.Demands.{Answered, Refused, Done, Untouched}
use Rattle.story.specs.Table.{table_of, applies}
use Rattle.story.specs.Terms.{number, applies_to}
use Rattle.story.proofs.Lines.{Lines, rising, Leads, lowest_leads, leads_lowest, lowest_none, none_lowest}
use Rattle.story.proofs.Numbers.{number_is}

-- Every kernel of a story has what a fresh start has and each command keeps.
pub kept : (h : Story) → Inv (kernel h)
unfolding kernel
kept fresh = fresh_inv
kept (then h c) = keeps (kernel h) c.command c.chart c.areas (kept h)

-- The table's lines for a call, in ascending number.
abbrev lines_of : Story → Call → Lines
lines_of h c = table_of (arg c.command 0) (kernel h) c.command c.chart c.areas

rises : (h : Story) (c : Call) → rising 0 (lines_of h c) ≡ true
unfolding table_of
rises h c = refl

pub answered : Answered
answered h c = let r = replies (kernel h) c.command c.chart c.areas in (r.long, r.small)

pub refused : Refused
unfolding applies
refused h c n pos =
    let e = number_is (kernel h) c.command c.chart c.areas (kept h) in (
      λ q. let w : Leads n (lines_of h c) = lowest_leads (lines_of h c) 0 n (rises h c) pos (sym e ∙ q) in (w.this, w.none_lower),
      λ w. e ∙ leads_lowest (lines_of h c) 0 n (rises h c) (record { this = w.0; none_lower = w.1 }),
    )

pub done : Done
unfolding applies
done h c =
    let e = number_is (kernel h) c.command c.chart c.areas (kept h) in (
      λ q. lowest_none (lines_of h c) 0 (rises h c) (sym e ∙ q),
      λ none. e ∙ none_lowest (lines_of h c) 0 (rises h c) none,
    )

-- where a line applies, its number is answered or a lower one
pub applying : (h : Story) (c : Call) (n : ℕ) → applies_to h c n ≡ true → (DONE < number h c) × (number h c ≤ n)
applying h c n e = (pos, least (dec_lt n (number h c)))
  where
    pos : DONE < number h c
    pos = ⊎_elim (λ z. no_yes (sym ((done h c).0 z n) ∙ e)) (λ ne. omega arith) (eq_or (number h c) DONE)

    least : Dec (n < number h c) → number h c ≤ n
    least (yes l) = no_yes (sym (((refused h c (number h c) pos).0 refl).1 n l) ∙ e)
    least (no ge) = omega arith

-- a record that shows a part is a READ that is done
shown_done : (s : State) (r d : List ℕ) (z : Areas) → (eqb (length r) record_bytes && eqb (arg r 0) 17) ≡ true →
    eqb (lowest (read_tests (spoilt 4 r) (arg r 1) (generation r) s z.payloads)) 0 ≡ true → get_or (answer_to s r d z).reply 0 0 ≡ 0
unfolding answer_to command choose read reply_of bytes
shown_done s r d z e none =
    let long = and_left (eqb (length r) record_bytes) _ e in
    let is : arg r 0 ≡ 17 = eqb-true _ 17 (and_right (eqb (length r) record_bytes) _ e) in
    rw (long, is) (ap (λ a. get_or a.reply 0 0) (unless_none s z _ _ (eqb-true _ 0 none)))

no_part : (h : Story) (c : Call) → 0 < number h c → part_of (kernel h) c.command c.areas.payloads ≡ []
unfolding part_of read_part
no_part h c pos = cond_pick empty _ _ _ (λ e. cond_pick empty _ _ _ (λ f. absurd (omega (arith, shown_done (kernel h) c.command c.chart c.areas e f))) (λ f. refl)) (λ e. refl)
  where
    empty : List ℕ → Type 0
    empty l = l ≡ []

pub untouched : Untouched
unfolding kernel
untouched h c pos =
    let r = (replies (kernel h) c.command c.chart c.areas).refusal pos in
    record { state = r.state; areas = r.areas; part = no_part h c pos; says = r.reply }
