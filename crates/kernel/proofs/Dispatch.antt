-- From what a command gave back to what the kernel promises of any record.
use Rattle.std.specs.Prelude.{◌≡◌, ◌≤◌, List, ℕ, eqb, false, length}
use Rattle.std.proofs.Common.{refl, sym}
use mathlib.Core.Path.{subst}
use native.Mathlib.Omega.{arith}
use borrow.Author.Tests.{eq-eqb, ne_eqb}
use Rattle.machine.proofs.Keeps.{keeps}
use Rattle.machine.specs.Inv.{Inv}
use Rattle.machine.specs.Machine.{answer_to, arg, choose, command}
use Rattle.machine.specs.Numbers.{record_bytes}
use Rattle.machine.specs.Reply.{FORM, Areas, answer, no, reply_of}
use Rattle.machine.specs.State.{State}
use Rattle.state.specs.View.{Good, state_of, told}
use Rattle.state.specs.declared.Kernel.{Kernel}

-- Commands have the numbers 1 to 22.
unknown_form : (n : ℕ) (r d : List ℕ) (s : State) (z : Areas) → (1 ≤ n → n ≤ 22 → ⊥) → command n r d s z ≡ answer s (no FORM) z
unfolding choose command
unknown_form n r d s z none =
    rw (
      off 1 (omega arith) (omega arith),
      off 2 (omega arith) (omega arith),
      off 3 (omega arith) (omega arith),
      off 4 (omega arith) (omega arith),
      off 5 (omega arith) (omega arith),
      off 6 (omega arith) (omega arith),
      off 7 (omega arith) (omega arith),
      off 8 (omega arith) (omega arith),
      off 9 (omega arith) (omega arith),
      off 10 (omega arith) (omega arith),
      off 11 (omega arith) (omega arith),
      off 12 (omega arith) (omega arith),
      off 13 (omega arith) (omega arith),
      off 14 (omega arith) (omega arith),
      off 15 (omega arith) (omega arith),
      off 16 (omega arith) (omega arith),
      off 17 (omega arith) (omega arith),
      off 18 (omega arith) (omega arith),
      off 19 (omega arith) (omega arith),
      off 20 (omega arith) (omega arith),
      off 21 (omega arith) (omega arith),
      off 22 (omega arith) (omega arith),
    )
    refl
  where
    off : (i : ℕ) → 1 ≤ i → i ≤ 22 → eqb n i ≡ false
    off i low high = ne_eqb n i (λ e. none (omega arith) (omega arith))

module _ (k : Kernel) (r d : List ℕ) (z : Areas) where
  pub no_record : (reply : List ℕ) → (length r ≡ record_bytes → ⊥) → reply ≡ reply_of (no FORM) → told k reply z ≡ answer_to (state_of k) r d z
  unfolding told answer_to choose
  no_record reply ne form = rw (ne_eqb (length r) record_bytes ne, form) refl

  module _ (after : Kernel) (reply : List ℕ) (y : Areas) where
    pub ran : (n : ℕ) → length r ≡ record_bytes → n ≡ arg r 0 → told after reply y ≡ command n r d (state_of k) z → told after reply y ≡ answer_to (state_of k) r d z
    unfolding answer_to choose
    ran n long is e = rw (eq-eqb (length r) record_bytes long, ← is) e

    -- the invariant is kept by every answer
    pub still_good : Good k → told after reply y ≡ answer_to (state_of k) r d z → Good after
    unfolding told
    still_good good e = subst (λ x. Inv x.state) (sym e) (keeps (state_of k) r d z good)

  pub unknown : (reply : List ℕ) → length r ≡ record_bytes → (1 ≤ arg r 0 → arg r 0 ≤ 22 → ⊥) → reply ≡ reply_of (no FORM) →
      told k reply z ≡ answer_to (state_of k) r d z
  unfolding told
  unknown reply long none form = ran k reply z (arg r 0) long refl (rw (unknown_form (arg r 0) r d (state_of k) z none, form) refl)
