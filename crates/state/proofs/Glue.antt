-- What a command answers, from what its code gave back: a refusal, or what it does. The tests answer `Ok` or the refusal that is lowest.
use Rattle.std.specs.Prelude.{◌≡◌, IsErrAnd, List, ℕ, Result, Ok, Err}
use Rattle.std.proofs.Common.{refl}
use native.Mathlib.Omega.{arith}
use Rattle.machine.proofs.Tests.{unless_none, unless_some}
use Rattle.machine.specs.Reply.{Areas, Answer, unless}
use Rattle.numbers.specs.Codes.{code_of}
use Rattle.numbers.specs.declared.answer.Refusal.{Refusal}
use Rattle.numbers.specs.declared.answer.Refusal.TheVariants.{Form, Area, Range, Busy, NoStep, Idle, Stale, Absent, Taken, Full, Dry, Holds, InUse, Chart, Table}
use Rattle.state.specs.View.{outcome, told, state_of}
use Rattle.state.specs.declared.Kernel.{Kernel}

-- every refusal has a number above 0
pub refusal-numbered : (r : Refusal) → code_of r ≡ 0 → ⊥
refusal-numbered Form e = absurd (omega arith)
refusal-numbered Area e = absurd (omega arith)
refusal-numbered Range e = absurd (omega arith)
refusal-numbered Busy e = absurd (omega arith)
refusal-numbered NoStep e = absurd (omega arith)
refusal-numbered Idle e = absurd (omega arith)
refusal-numbered Stale e = absurd (omega arith)
refusal-numbered Absent e = absurd (omega arith)
refusal-numbered Taken e = absurd (omega arith)
refusal-numbered Full e = absurd (omega arith)
refusal-numbered Dry e = absurd (omega arith)
refusal-numbered Holds e = absurd (omega arith)
refusal-numbered InUse e = absurd (omega arith)
refusal-numbered Chart e = absurd (omega arith)
refusal-numbered Table e = absurd (omega arith)

module _ (k : Kernel) (z : Areas) (a : Answer) (m : ℕ) where
  -- a refusal, as `Err` or as a `?` hands it on: the kernel as it was, and the areas
  pub refusal : (r : Refusal) → code_of r ≡ m → outcome k (Err r) z ≡ unless m (state_of k) z a
  unfolding told
  refusal r e = rw (← e, unless_some (state_of k) z a (code_of r) (refusal-numbered r)) refl

  pub refused : (answered : Result (List ℕ) Refusal) (r : Refusal) → IsErrAnd answered (λ x. x ≡ r) → code_of r ≡ m →
      outcome k answered z ≡ unless m (state_of k) z a
  refused (Ok reply) r h e = absurd h
  refused (Err x) r h e = rw h (refusal r e)

  module _ (after : Kernel) (reply : List ℕ) where
    -- no test holds: what it does
    pub doing : 0 ≡ m → outcome after (Ok reply) z ≡ a → outcome after (Ok reply) z ≡ unless m (state_of k) z a
    doing e h = rw (← e, unless_none (state_of k) z a 0 refl) h

    -- where it writes, the areas are x afterwards
    pub writing : (x : Areas) → 0 ≡ m → outcome after (Ok reply) x ≡ a → outcome after (Ok reply) x ≡ unless m (state_of k) z a
    writing x e h = rw (← e, unless_none (state_of k) z a 0 refl) h
