-- What an entry stands for.
use Rattle.std.specs.Prelude.{cond, ℕ, ◌+◌, ◌*◌, ◌-◌, ◌/◌, ◌%◌, eqb, ltb}
use Rattle.mail.specs.declared.Hand.{Hand}
use Rattle.mail.specs.declared.Hand.TheVariants.{Nothing, Block, Timer}

abbrev pub first_timer : ℕ
first_timer = 64

abbrev pub signals : ℕ
signals = 32

-- 0 is nothing, 1 + b is block b, 64 + 32 t + g is timer t with signal g.
unfoldable pub entry_of : Hand → ℕ
entry_of Nothing = 0
entry_of (Block b) = 1 + b
entry_of (Timer t g) = first_timer + signals * t + g

-- A timer is a byte, so it is taken modulo 256.
abbrev pub timer_of : ℕ → Hand
timer_of n = Timer (n / signals % 256) (n % signals)

unfoldable pub hand_of : ℕ → Hand
hand_of e = cond (eqb e 0) Nothing (cond (ltb e first_timer) (Block (e - 1)) (timer_of (e - first_timer)))
