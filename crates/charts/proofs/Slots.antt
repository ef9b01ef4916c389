-- LOAD, START and FLAG: the objects that use a slot, a refused LOAD, and whether a flag changes.
use mathlib.Core.Bool.{Bool, true, false, not, beq, cond, ◌&&◌}
use mathlib.Core.List.{List}
use mathlib.Core.Path.{◌≡◌, refl}
use mir.Val.{bool_byte}
use Rattle.std.specs.Prelude.{IsErrAnd, Result, Ok, Err}
use Rattle.chart.specs.Faults.{class}
use Rattle.chart.specs.declared.faults.Fault.{Fault}
use Rattle.chart.specs.declared.faults.Fault.TheVariants.{Length, Form, Tree, Rows}
use Rattle.charts.specs.Loaded.{load_reply}
use Rattle.charts.specs.declared.LoadError.{LoadError}
use Rattle.charts.specs.declared.LoadError.TheVariants.{Chart, Refused}
use Rattle.machine.proofs.Tests.{fault_some, unless_none}
use Rattle.machine.specs.Reply.{Areas, Answer, unless, unless_fault}
use Rattle.mail.specs.Box.{one}
use Rattle.numbers.specs.Codes.{code_of}
use Rattle.numbers.specs.declared.answer.Refusal.{Refusal}
use Rattle.state.proofs.Glue.{refusal}
use Rattle.state.specs.View.{state_of, told}
use Rattle.state.specs.declared.Kernel.{Kernel}
use Prim.Native.Nat.{ℕ, ◌+◌}
use native.Mathlib.Numerals.{add-one}
use native.Mathlib.Omega.{arith}
use lib.Dec.{eqb}
use Rattle.machine.specs.Charts.{slot_used}
use Rattle.machine.specs.State.{State, started, slot_of}

module _ (s : State) (q i : ℕ) where
  pub used-here : (started s (i + 1) && eqb (slot_of s (i + 1)) q) ≡ true → slot_used s q (i + 1) ≡ true
  unfolding slot_used
  used-here t = rw (add-one i) (rw (rw (add-one i) at t) refl)

  pub used_below : (started s (i + 1) && eqb (slot_of s (i + 1)) q) ≡ false → slot_used s q (i + 1) ≡ slot_used s q i
  unfolding slot_used
  used_below t = rw (add-one i) (rw (rw (add-one i) at t) refl)

-- FLAG changes a flag that is not as it is to be.
pub flag-changed : (was raised : Bool) → bool_byte (not (beq was raised)) ≡ one (cond raised (not was) was)
flag-changed true true = refl
flag-changed true false = refl
flag-changed false true = refl
flag-changed false false = refl

-- every fault has a class above 0
fault-numbered : (fault : Fault) → class fault ≡ 0 → ⊥
fault-numbered Length e = absurd (omega arith)
fault-numbered Form e = absurd (omega arith)
fault-numbered Tree e = absurd (omega arith)
fault-numbered Rows e = absurd (omega arith)

-- What LOAD answers where it refuses, and where its chart has a fault.
module _ (k : Kernel) (z : Areas) where
  pub load_refused : (a : Answer) (m : ℕ) (answered : Result (List ℕ) LoadError) (r : Refusal) → IsErrAnd answered (λ x. x ≡ Refused r) → code_of r ≡ m →
      told k (load_reply answered) z ≡ unless m (state_of k) z a
  load_refused a m (Ok reply) r h e = absurd h
  load_refused a m (Err x) r h e = rw h (refusal k z a m r e)

  pub load_faulty : (a : Answer) (m n : ℕ) (answered : Result (List ℕ) LoadError) (fault : Fault) → IsErrAnd answered (λ x. x ≡ Chart fault) → 0 ≡ m → class fault ≡ n →
      (after : Areas) → after ≡ z → told k (load_reply answered) after ≡ unless m (state_of k) z (unless_fault n (state_of k) z a)
  unfolding told
  load_faulty a m n (Ok reply) fault h e f after same = absurd h
  load_faulty a m n (Err x) fault h e f after same =
      rw (h, ← e, ← f, unless_none (state_of k) z _ 0 refl, fault_some (state_of k) z a (class fault) (fault-numbered fault), same) refl
