-- What the type of a kernel says of its arrays.
use Rattle.std.specs.Prelude.{List, ◌≡◌, ℕ, ◌-◌, ◌<◌, ◌≤◌, length}
use native.Mathlib.Omega.{arith}
use Rattle.machine.specs.Numbers.{objects}
use Rattle.mail.specs.View.{boxes, boxes-length}
use denote.Laws.{Is}
use denote.Struct.Declared.{row}
use mathlib.Core.Path.{◌∙◌}
use mir.Val.{Val}
use Rattle.state.specs.declared.Kernel.{Kernel}
use Rattle.state.specs.contracts.Kernel.{the_type}

module _ (k : Kernel) (vs : List Val) (h : Is (row the_type) k vs) where
  -- a kernel has a mailbox for each object
  pub mail_of : length (boxes k.mail) ≡ objects
  mail_of = boxes-length k.mail ∙ h.1.1.0.1.0.1

  pub box_of_lem : (p : ℕ) → 1 ≤ p → p ≤ objects → p - 1 < length (boxes k.mail)
  box_of_lem p low high = omega (arith, mail_of)
