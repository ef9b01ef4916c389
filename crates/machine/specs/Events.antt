-- Document 01, "Commands": events and their blocks. NEW, POST, POSTFRONT, PUBLISH, SUBSCRIBE, UNSUBSCRIBE, HOLD, RELEASE, DROP, READ.
-- Of each command its tests, in ascending number, and what it does when none of them holds. `spoilt`: an unused byte is not 0.
use Rattle.std.specs.Prelude.{Bool, true, false, cond, not, ◌||◌, List, [], ◌∷◌, Option, Some, None, ℕ, zero, suc, ◌+◌, ◌-◌, eqb, leb, length, set, take, drop}
use Rattle.ground.specs.Bytes.{padded}
use Rattle.mail.specs.Box.{one, push_back, push_front}
use Rattle.mail.specs.Entry.{entry_of}
use Rattle.mail.specs.declared.Hand.TheVariants.{Block}
use Rattle.pool.specs.Cell.{is_new, at_last, handed_out, more, fewer, dropped}
use Rattle.pool.specs.Mark.{mark_of, marks_after}
use Rattle.pool.specs.Row.{at, changed, found, generation_at, pool_for, stale_at}
use Rattle.machine.specs.Numbers.{objects, payload_bytes, most_holds, no_object, no_signal, no_block, no_size, no_margin, capacity, place_of}
use Rattle.machine.specs.State.{State, signal_in, size_in, holds_on, box_of, started, room, subscribed, want_place, with_cells, with_marks, with_events, with_boxes, with_wants, with_holds}
use Rattle.machine.specs.Reply.{FORM, AREA, RANGE, STALE, ABSENT, FULL, DRY, HOLDS, INUSE, done, made, shown, Areas, Answer, answer, lowest, unless, with_payloads, over}

abbrev pub payloads_bad : List ℕ → Bool
payloads_bad payloads = not (eqb (length payloads) payload_bytes)

abbrev pub stale : State → ℕ → ℕ → Bool
stale s b gen = stale_at s.cells b gen

-- Block b gets a reference more, or one fewer, the last of which frees it; a new block is freed.
abbrev pub counted : State → ℕ → State
counted s b = with_cells (changed more s.cells b) s

abbrev pub let_go : State → ℕ → State
let_go s b = with_cells (changed fewer s.cells b) s

abbrev pub freed_new : State → ℕ → State
freed_new s b = with_cells (changed dropped s.cells b) s

abbrev pub is_last : State → ℕ → Bool
is_last s b = at_last (at s.cells b)

abbrev pub is_fresh : State → ℕ → Bool
is_fresh s b = is_new (at s.cells b)

-- 3 NEW signal, size 0-64, payload: the lowest free block of the first pool whose blocks are large enough; the rest of the block is 0.
-- The count byte is that pool's mark, this block counted as taken (document 02, request 5).
unfoldable pub none_found : Option ℕ → Bool
none_found (Some b) = false
none_found None = true

unfoldable pub new_tests : Bool → ℕ → ℕ → State → List ℕ → List (ℕ × Bool)
new_tests spoilt g n s payloads =
    (FORM, spoilt)
    ∷ (AREA, payloads_bad payloads)
    ∷ (RANGE, no_signal g)
    ∷ (RANGE, no_size n)
    ∷ (DRY, none_found (found s.cells n))
    ∷ []

unfoldable pub new_event : State → ℕ → ℕ → ℕ → State
new_event s b g n =
    with_cells (changed handed_out s.cells b)
    (with_marks (marks_after s.cells s.marks (pool_for n) (Some b))
    (with_events (record { signals = set s.events.signals b g; sizes = set s.events.sizes b n; holds = set s.events.holds b 0 }) s))

unfoldable pub new_in : Option ℕ → ℕ → ℕ → List ℕ → State → Areas → Answer
new_in None g n payload s z = answer s (done 0 0) z
new_in (Some b) g n payload s z =
    answer (new_event s b g n) (made b (generation_at s.cells b) (mark_of (new_event s b g n).marks (pool_for n)))
    (with_payloads (over z.payloads (place_of b) (padded (capacity b) (take n payload))) z)

unfoldable pub new : Bool → ℕ → ℕ → List ℕ → State → Areas → Answer
new spoilt g n payload s z = unless (lowest (new_tests spoilt g n s z.payloads)) s z (new_in (found s.cells n) g n payload s z)

-- 4 POST handle, p, margin 0-15: at the back, if free places exceed margin.
unfoldable pub post_tests : Bool → ℕ → ℕ → ℕ → ℕ → State → List (ℕ × Bool)
post_tests spoilt b gen p margin s =
    (FORM, spoilt)
    ∷ (RANGE, no_block b)
    ∷ (RANGE, no_object p)
    ∷ (RANGE, no_margin margin)
    ∷ (STALE, stale s b gen)
    ∷ (ABSENT, not (started s p))
    ∷ (FULL, leb (room s p) margin)
    ∷ []

unfoldable pub posted : State → ℕ → ℕ → State
posted s b p = with_boxes (push_back s.boxes (p - 1) (entry_of (Block b))) (counted s b)

unfoldable pub post : Bool → ℕ → ℕ → ℕ → ℕ → State → Areas → Answer
post spoilt b gen p margin s z =
    unless (lowest (post_tests spoilt b gen p margin s)) s z (answer (posted s b p) (done (length (box_of s p) + 1) 0) z)

-- 5 POSTFRONT handle, p: at the front, if a place is free.
unfoldable pub post_front_tests : Bool → ℕ → ℕ → ℕ → State → List (ℕ × Bool)
post_front_tests spoilt b gen p s =
    (FORM, spoilt)
    ∷ (RANGE, no_block b)
    ∷ (RANGE, no_object p)
    ∷ (STALE, stale s b gen)
    ∷ (ABSENT, not (started s p))
    ∷ (FULL, leb (room s p) 0)
    ∷ []

unfoldable pub posted_front : State → ℕ → ℕ → State
posted_front s b p = with_boxes (push_front s.boxes (p - 1) (entry_of (Block b))) (counted s b)

unfoldable pub post_front : Bool → ℕ → ℕ → ℕ → State → Areas → Answer
post_front spoilt b gen p s z =
    unless (lowest (post_front_tests spoilt b gen p s)) s z (answer (posted_front s b p) (done (length (box_of s p) + 1) 0) z)

-- 6 PUBLISH handle: to the back of every subscriber to its signal, all or none; with no subscriber an event with no reference is freed.
-- Of the first n objects: how many subscribe to g, whether one of these has no place, and the state once each has block b.
unfoldable pub receivers : State → ℕ → ℕ → ℕ
receivers s g zero = 0
receivers s g (suc n) = one (subscribed s (suc n) g) + receivers s g n

unfoldable pub full_receiver : State → ℕ → ℕ → Bool
full_receiver s g zero = false
full_receiver s g (suc n) = cond (subscribed s (suc n) g) (eqb (room s (suc n)) 0) false || full_receiver s g n

unfoldable pub published : State → ℕ → ℕ → ℕ → State
published s g b zero = s
published s g b (suc n) = published (cond (subscribed s (suc n) g) (posted s b (suc n)) s) g b n

unfoldable pub publish_tests : Bool → ℕ → ℕ → State → List (ℕ × Bool)
publish_tests spoilt b gen s =
    (FORM, spoilt)
    ∷ (RANGE, no_block b)
    ∷ (STALE, stale s b gen)
    ∷ (FULL, full_receiver s (signal_in s b) objects)
    ∷ []

unfoldable pub publish_done : ℕ → ℕ → State → Areas → Answer
publish_done zero b s z = answer (freed_new s b) (done 0 (one (is_fresh s b))) z
publish_done (suc n) b s z = answer (published s (signal_in s b) b objects) (done (suc n) 0) z

unfoldable pub publish : Bool → ℕ → ℕ → State → Areas → Answer
publish spoilt b gen s z = unless (lowest (publish_tests spoilt b gen s)) s z (publish_done (receivers s (signal_in s b) objects) b s z)

-- 7 SUBSCRIBE, 8 UNSUBSCRIBE p, signal: 1 if anything changed.
unfoldable pub subscribe_tests : Bool → ℕ → ℕ → State → List (ℕ × Bool)
subscribe_tests spoilt p g s =
    (FORM, spoilt)
    ∷ (RANGE, no_object p)
    ∷ (RANGE, no_signal g)
    ∷ (ABSENT, not (started s p))
    ∷ []

unfoldable pub wanting : State → ℕ → ℕ → ℕ → State
wanting s p g v = with_wants (set s.wants (want_place p g) v) s

unfoldable pub subscribe : Bool → ℕ → ℕ → State → Areas → Answer
subscribe spoilt p g s z =
    unless (lowest (subscribe_tests spoilt p g s)) s z (answer (wanting s p g 1) (done (one (not (subscribed s p g))) 0) z)

unfoldable pub unsubscribe : Bool → ℕ → ℕ → State → Areas → Answer
unsubscribe spoilt p g s z =
    unless (lowest (subscribe_tests spoilt p g s)) s z (answer (wanting s p g 0) (done (one (subscribed s p g)) 0) z)

-- 9 HOLD handle: the holds. A hold is a reference.
unfoldable pub hold_tests : Bool → ℕ → ℕ → State → List (ℕ × Bool)
hold_tests spoilt b gen s =
    (FORM, spoilt)
    ∷ (RANGE, no_block b)
    ∷ (STALE, stale s b gen)
    ∷ (HOLDS, leb most_holds (holds_on s b))
    ∷ []

unfoldable pub held : State → ℕ → State
held s b = with_holds (set s.events.holds b (holds_on s b + 1)) (counted s b)

unfoldable pub hold : Bool → ℕ → ℕ → State → Areas → Answer
hold spoilt b gen s z = unless (lowest (hold_tests spoilt b gen s)) s z (answer (held s b) (done (holds_on s b + 1) 0) z)

-- 10 RELEASE handle: the holds, then 1 if freed.
unfoldable pub release_tests : Bool → ℕ → ℕ → State → List (ℕ × Bool)
release_tests spoilt b gen s =
    (FORM, spoilt)
    ∷ (RANGE, no_block b)
    ∷ (STALE, stale s b gen)
    ∷ (HOLDS, eqb (holds_on s b) 0)
    ∷ []

unfoldable pub released : State → ℕ → State
released s b = with_holds (set s.events.holds b (holds_on s b - 1)) (let_go s b)

unfoldable pub release : Bool → ℕ → ℕ → State → Areas → Answer
release spoilt b gen s z =
    unless (lowest (release_tests spoilt b gen s)) s z (answer (released s b) (done (holds_on s b - 1) (one (is_last s b))) z)

-- 11 DROP handle: frees a new event.
unfoldable pub drop_tests : Bool → ℕ → ℕ → State → List (ℕ × Bool)
drop_tests spoilt b gen s =
    (FORM, spoilt)
    ∷ (RANGE, no_block b)
    ∷ (STALE, stale s b gen)
    ∷ (INUSE, not (is_fresh s b))
    ∷ []

unfoldable pub drop_event : Bool → ℕ → ℕ → State → Areas → Answer
drop_event spoilt b gen s z = unless (lowest (drop_tests spoilt b gen s)) s z (answer (freed_new s b) (done 0 0) z)

-- 17 READ handle: the payload, handed back as the part of the payload area that it occupies, size bytes long.
unfoldable pub read_tests : Bool → ℕ → ℕ → State → List ℕ → List (ℕ × Bool)
read_tests spoilt b gen s payloads =
    (FORM, spoilt)
    ∷ (AREA, payloads_bad payloads)
    ∷ (RANGE, no_block b)
    ∷ (STALE, stale s b gen)
    ∷ []

unfoldable pub payload_of : State → ℕ → List ℕ → List ℕ
payload_of s b payloads = take (size_in s b) (drop (place_of b) payloads)

unfoldable pub read : Bool → ℕ → ℕ → State → Areas → Answer
read spoilt b gen s z = unless (lowest (read_tests spoilt b gen s z.payloads)) s z (answer s (shown (payload_of s b z.payloads)) z)

-- That part; empty when refused.
unfoldable pub read_part : Bool → ℕ → ℕ → State → List ℕ → List ℕ
read_part spoilt b gen s payloads = cond (eqb (lowest (read_tests spoilt b gen s payloads)) 0) (payload_of s b payloads) []

-- Where that part begins in the payload area, and how long it is; 0 and 0 when refused.
unfoldable pub read_at : Bool → ℕ → ℕ → State → List ℕ → ℕ × ℕ
read_at spoilt b gen s payloads = cond (eqb (lowest (read_tests spoilt b gen s payloads)) 0) (place_of b, size_in s b) (0, 0)
