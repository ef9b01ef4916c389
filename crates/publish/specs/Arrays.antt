-- PUBLISH on what the kernel lends: how a state reads it, what the posts rely on, and what they come to.
use Rattle.std.specs.Prelude.{true, List, ◌≡◌, ℕ, ◌-◌, ◌<◌, ◌≤◌, eqb, length, get_or}
use Rattle.machine.specs.State.{State, want_place, with_boxes, with_cells}
use Rattle.mail.specs.Box.{box_at, room}
use Rattle.mail.specs.View.{boxes}
use Rattle.mail.specs.declared.Ring.{Ring}
use Rattle.pool.specs.Cell.{more_by}
use Rattle.pool.specs.Row.{changed}

-- State s has these subscriptions, depths, and as many entries queued as the rings.
pub record Reads (s : State) (ws ds : List ℕ) (rings : List Ring) : Type 0 where
  pub wants : s.wants ≡ ws
  pub depths : s.objects.depths ≡ ds
  pub queued : (q : ℕ) → length (box_at s.boxes q) ≡ length (box_at (boxes rings) q)

-- State s with these mailboxes, and n references more to block b.
abbrev pub holding : State → List (List ℕ) → ℕ → ℕ → State
holding s bs b n = with_boxes bs (with_cells (changed (more_by n) s.cells b) s)

-- Of the first n objects each that subscribes to signal g has a place.
abbrev pub HavePlaces : List ℕ → List Ring → (g n : ℕ) → Type 0
HavePlaces ws rings g n = (p : ℕ) → 1 ≤ p → p ≤ n → eqb (get_or ws (want_place p g) 0) 1 ≡ true → length (box_at (boxes rings) (p - 1)) < room
