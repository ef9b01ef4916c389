-- A fresh start keeps the invariant.
use mathlib.Core.Bool.{true, false}
use mathlib.Core.List.{List, []}
use mathlib.Core.Path.{◌≡◌, refl, sym, ◌∙◌}
use Prim.Native.Nat.{ℕ, zero, suc, ◌+◌, ◌*◌, ◌≤◌}
use native.Mathlib.Omega.{arith}
use lib.ListN.{length, get_or, replicate}
use Rattle.ground.specs.Bools.{no_yes}
use Rattle.mail.specs.Box.{occurrences, total, times_in}
use Rattle.mail.specs.Entry.{entry_of}
use Rattle.mail.specs.declared.Hand.TheVariants.{Block}
use Rattle.pool.specs.Cell.{free, absent}
use Rattle.pool.specs.Row.{at, blocks, fresh_row}
use Rattle.machine.specs.Inv.{Inv, InHand, references, count_of, is_live, count_in_hand}
use Rattle.machine.specs.Numbers.{objects, timers, side_queues, most_aside, signal_places}
use Rattle.machine.specs.State.{fresh_state}

-- a list of one value, read anywhere, is that value or the default
each : {A : Type 0} (P : A → Type 0) (n : ℕ) (a d : A) → P a → P d → (i : ℕ) → P (get_or (replicate n a) i d)
each P zero a d h k i = k
each P (suc n) a d h k zero = h
each P (suc n) a d h k (suc i) = each P n a d h k i

zeros : (n i : ℕ) → get_or {A = ℕ} (replicate n 0) i 0 ≡ 0
zeros n i = each (λ (x : ℕ). x ≡ 0) n 0 0 refl refl i

none_there : (e n : ℕ) → occurrences e (replicate n []) ≡ 0
unfolding total times_in
none_there e zero = refl
none_there e (suc n) = omega (arith, none_there e n)

not_live : {A : Type 0} (b : ℕ) → is_live (at fresh_row b) ≡ true → A
unfolding is_live
not_live b h = no_yes (sym (each (λ c. is_live c ≡ false) blocks (free 0) absent refl refl b) ∙ h)

pub fresh_inv : Inv fresh_state
unfolding InHand references count_of count_in_hand
fresh_inv = record {
  store = record {
    cells-length = refl;
    signals-length = refl;
    sizes_length = refl;
    holds_length = refl;
    signal = λ b h. not_live b h;
    size = λ b h. not_live b h;
    held = λ b. omega (arith, zeros blocks b);
  };
  mail = record {
    boxes-length = refl;
    deep = λ q. omega (arith, zeros objects q);
    room = λ q. each (λ (l : List ℕ). length l ≤ get_or (replicate objects 0) q 0) objects [] [] (omega arith) (omega arith) q;
    entries = λ q i h. absurd (omega (arith, each (λ (l : List ℕ). length l ≡ 0) objects [] [] refl refl q));
  };
  aside = record {
    sides_length = refl;
    room = λ q. each (λ (l : List ℕ). length l ≤ most_aside) side_queues [] [] (omega arith) (omega arith) q;
    entries = λ q i h. absurd (omega (arith, each (λ (l : List ℕ). length l ≡ 0) side_queues [] [] refl refl q));
  };
  seats = record {
    depths_length = refl;
    rests_length = refl;
    seats_length = refl;
    loaded_length = refl;
    rested = λ q h. absurd (omega (arith, zeros objects q));
    seated = λ q h. absurd (omega (arith, zeros objects q));
  };
  wants = record { wants_length = refl; wanted = λ q g l h. absurd (omega (arith, zeros (signal_places * objects) (signal_places * q + g))) };
  timers = record {
    owners_length = refl;
    alarms_length = refl;
    counters_length = refl;
    intervals_length = refl;
    armed = λ t h. absurd (omega (arith, zeros timers t));
  };
  in_hand = tt;
  counted = λ b h.
      omega (
        arith,
        each (λ c. count_of c ≡ 0) blocks (free 0) absent refl refl b,
        none_there (entry_of (Block b)) objects,
        none_there (entry_of (Block b)) side_queues,
        zeros blocks b,
      );
}
