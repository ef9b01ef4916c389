-- Document 02, "Set an event aside": the eight side queues. DEFER, RECALL, FLUSH.
use Rattle.std.specs.Prelude.{Bool, true, false, not, ◌&&◌, List, [], ◌∷◌, ℕ, zero, suc, ◌+◌, ◌-◌, eqb, leb, length, get_or}
use Rattle.mail.specs.Box.{push_back, push_front, took_front, emptied}
use Rattle.mail.specs.Entry.{entry_of, hand_of}
use Rattle.mail.specs.declared.Hand.{Hand}
use Rattle.mail.specs.declared.Hand.TheVariants.{Nothing, Block, Timer}
use Rattle.machine.specs.Events.{counted}
use Rattle.machine.specs.Numbers.{most_aside, no_object, no_side}
use Rattle.machine.specs.Reply.{FORM, RANGE, NOSTEP, STALE, ABSENT, FULL, done, Areas, Answer, answer, lowest, unless}
use Rattle.machine.specs.State.{State, side_of, started, room, is_open, with_boxes, with_sides}
use Rattle.machine.specs.Steps.{let_go_hand}

-- 19 DEFER q puts the block event in hand last into side queue q, 0 to 7. It leaves the step open. A side entry is a reference.
unfoldable pub is_timer : Hand → Bool
is_timer Nothing = false
is_timer (Block b) = false
is_timer (Timer t g) = true

unfoldable pub defer_tests : Bool → ℕ → State → List (ℕ × Bool)
defer_tests spoilt q s =
    (FORM, spoilt)
    ∷ (RANGE, no_side q)
    ∷ (NOSTEP, not (is_open s.hand))
    ∷ (STALE, is_timer s.hand)
    ∷ (FULL, leb most_aside (length (side_of s q)))
    ∷ []

unfoldable pub set_aside : Hand → ℕ → State → State
set_aside Nothing q s = s
set_aside (Block b) q s = with_sides (push_back s.sides q (entry_of (Block b))) (counted s b)
set_aside (Timer t g) q s = s

unfoldable pub defer : Bool → ℕ → State → Areas → Answer
defer spoilt q s z = unless (lowest (defer_tests spoilt q s)) s z (answer (set_aside s.hand q s) (done (length (side_of s q) + 1) 0) z)

-- 20 RECALL q, p moves its oldest entry to the front of p's mailbox; an empty side queue is no refusal, room or not. No count changes.
unfoldable pub recall_tests : Bool → ℕ → ℕ → State → List (ℕ × Bool)
recall_tests spoilt q p s =
    (FORM, spoilt)
    ∷ (RANGE, no_side q)
    ∷ (RANGE, no_object p)
    ∷ (ABSENT, not (started s p))
    ∷ (FULL, not (eqb (length (side_of s q)) 0) && eqb (room s p) 0)
    ∷ []

abbrev pub oldest : List ℕ → ℕ
oldest l = get_or l 0 0

unfoldable pub recalled : State → ℕ → ℕ → State
recalled s q p = with_boxes (push_front s.boxes (p - 1) (oldest (side_of s q))) (with_sides (took_front s.sides q) s)

unfoldable pub recall_done : ℕ → ℕ → ℕ → State → Areas → Answer
recall_done zero q p s z = answer s (done 0 0) z
recall_done (suc n) q p s z = answer (recalled s q p) (done 1 0) z

unfoldable pub recall : Bool → ℕ → ℕ → State → Areas → Answer
recall spoilt q p s z = unless (lowest (recall_tests spoilt q p s)) s z (recall_done (length (side_of s q)) q p s z)

-- 21 FLUSH q empties it: each entry is let go, the oldest first.
unfoldable pub let_go_each : List ℕ → State → State
let_go_each [] s = s
let_go_each (e ∷ l) s = let_go_each l (let_go_hand (hand_of e) s)

unfoldable pub flushed : State → ℕ → State
flushed s q = with_sides (emptied s.sides q) (let_go_each (side_of s q) s)

unfoldable pub flush_tests : Bool → ℕ → List (ℕ × Bool)
flush_tests spoilt q = (FORM, spoilt) ∷ (RANGE, no_side q) ∷ []

unfoldable pub flush : Bool → ℕ → State → Areas → Answer
flush spoilt q s z = unless (lowest (flush_tests spoilt q)) s z (answer (flushed s q) (done (length (side_of s q)) 0) z)
