-- The words of the statements: what a call is and is answered, charts and payloads as they were given, what a block counts, how many a
-- pool has free, DRAIN's steps, side queues.
use Rattle.std.specs.Prelude.{Bool, true, cond, ◌&&◌, List, [], ◌∷◌, ◌++◌, ◌↔◌, ◌⊎◌, ◌≡◌, refl, ℕ, zero, suc, ◌+◌, ◌*◌, ◌-◌, ◌≤◌, ◌<◌, eqb, ltb, length, get_or, take, drop, replicate}
use Rattle.chart.specs.Chart.{class_of}
use Rattle.chart.specs.Flat.{Agrees, slot_bytes}
use Rattle.chart.specs.declared.read.Edition.{Edition}
use Rattle.chart.specs.Step
use Rattle.chart.specs.Step.{step}
use Rattle.mail.specs.Box.{front, one, queued, rest, times_in}
use Rattle.mail.specs.Entry.{entry_of, hand_of}
use Rattle.mail.specs.declared.Hand.TheVariants.{Block}
use Rattle.pool.specs.Cell.{Cell, free, live, retired, absent}
use Rattle.pool.specs.Mark.{free_in, mark_of}
use Rattle.pool.specs.Row.{at}
use Rattle.pool.specs.declared.Span.{Span}
use Rattle.machine.specs.Events.{receivers}
use Rattle.machine.specs.Inv.{is_live, references}
use Rattle.machine.specs.Machine as machine
use Rattle.machine.specs.Machine.{payload, part_of}
use Rattle.machine.specs.Numbers.{blocks, objects, edition_of, handle_place, reply_bytes}
use Rattle.machine.specs.Reply.{DONE, CHART, TABLE, bytes, handle, generation_from}
use Rattle.machine.specs.State.{signal_in, box_of, rest_of, side_of, slot_of, with_flags}
use Rattle.machine.specs.Steps.{signal_of, first_byte, generation_in}
use Rattle.story.specs.Calls.{are_bytes, Call, Story, fresh, then, kernel, answer_in}
use Rattle.story.specs.Table.{LOAD, NEW, PUBLISH, DROP, NEXT, END, applies, namers, one_of}

-- A call's number and arguments; of its reply, the bytes by name; that it was command n and was done.
abbrev pub command_of : Call → ℕ
command_of c = get_or c.command 0 0

abbrev pub argument : Call → ℕ → ℕ
argument c k = get_or c.command k 0

abbrev pub reply : Story → Call → List ℕ
reply h c = (answer_in h c).reply

abbrev pub number : Story → Call → ℕ
number h c = get_or (reply h c) 0 0

abbrev pub object : Story → Call → ℕ
object h c = get_or (reply h c) 1 0

abbrev pub count : Story → Call → ℕ
count h c = get_or (reply h c) 3 0

abbrev pub value₁ : Story → Call → ℕ
value₁ h c = get_or (reply h c) 4 0

abbrev pub value₂ : Story → Call → ℕ
value₂ h c = get_or (reply h c) 5 0

-- The handle that a reply ends with: its first byte, a block or 128 and a timer, and its generation.
abbrev pub event : Story → Call → ℕ
event h c = get_or (reply h c) handle_place 0

abbrev pub generation : Story → Call → ℕ
generation h c = generation_from (reply h c) (handle_place + 1)

abbrev pub Did : ℕ → Story → Call → Type 0
Did n h c = (command_of c ≡ n) × (number h c ≡ DONE)

unfoldable pub does : ℕ → Story → Call → Bool
does n h c = eqb (command_of c) n && eqb (number h c) DONE

-- The line of the table that applies to a call and has no lower one.
abbrev pub applies_to : Story → Call → ℕ → Bool
applies_to h c n = applies (kernel h) c.command c.chart c.areas n

-- The chart of the last LOAD of slot q that was done; the payload that the last NEW gave which handed out block b.
unfoldable pub chart_in : Story → ℕ → List ℕ
chart_in fresh q = []
chart_in (then h c) q = cond (does LOAD h c && eqb (argument c 1) q) c.chart (chart_in h q)

unfoldable pub given_to : Story → ℕ → List ℕ
given_to fresh b = []
given_to (then h c) b = cond (does NEW h c && eqb (event h c) b) (take (argument c 2) (payload c.command)) (given_to h b)

-- Block b after a story, and what refers to it.
abbrev pub cell : Story → ℕ → Cell
cell h b = at (kernel h).cells b

abbrev pub refer : Story → ℕ → ℕ
refer h b = references (kernel h) b

-- A block to which n things refer: free or retired if it is so, and then n is 0; else new if n is 0, and counted from 1 on.
unfoldable pub Counts : Cell → ℕ → Type 0
Counts (free g) n = n ≡ 0
Counts (live g m) n = m ≡ n
Counts (retired g) n = n ≡ 0
Counts absent n = ⊥

-- Its last reference goes in the call. It is new, and is dropped or published to nobody.
pub record LastGoes (h : Story) (c : Call) (b : ℕ) : Type 0 where
  pub had : 0 < refer h b
  pub gone : refer (then h c) b ≡ 0

pub record NewGoes (h : Story) (c : Call) (b : ℕ) : Type 0 where
  pub new : refer h b ≡ 0
  pub this : argument c 1 ≡ b
  pub how : Did DROP h c ⊎ (Did PUBLISH h c × (receivers (kernel h) (signal_in (kernel h) b) objects ≡ 0))

-- After a story, of a pool: how many blocks are free, and its mark.
abbrev pub free_blocks : Story → Span → ℕ
free_blocks h pool = free_in (kernel h).cells pool

abbrev pub mark : Story → Span → ℕ
mark h pool = mark_of (kernel h).marks pool

-- A story before its last k calls; a fresh start where it has no more than these.
unfoldable pub earlier : ℕ → Story → Story
earlier zero h = h
earlier (suc k) fresh = fresh
earlier (suc k) (then h c) = earlier k h

-- A story goes on from h: after some further calls, or none.
pub record GoesOn (h later : Story) : Type 0 where
  pub calls : ℕ
  pub before : earlier calls later ≡ h

-- A call names the handle of block b at generation g.
pub record Names (c : Call) (b g : ℕ) : Type 0 where
  pub command : one_of namers (command_of c) ≡ true
  pub block : argument c 1 ≡ b
  pub generation : machine.generation c.command ≡ g

-- n is the smallest number of free blocks that a pool had at any point of a story: at one point it had n, and at none fewer.
pub record Smallest (h : Story) (pool : Span) (n : ℕ) : Type 0 where
  pub point : ℕ
  pub had : free_blocks (earlier point h) pool ≡ n
  pub least : (k : ℕ) → n ≤ free_blocks (earlier k h) pool

-- With the areas of c: a NEXT, an END, and k times NEXT and END after h.
unfoldable pub next_call : Call → Call
unfolding are_bytes Rattle.ground.specs.Range.every_from
next_call c = record { command = NEXT ∷ replicate 71 0; bytes = refl; chart = []; areas = c.areas }

unfoldable pub end_call : Call → Call
unfolding are_bytes Rattle.ground.specs.Range.every_from
end_call c = record { command = END ∷ replicate 71 0; bytes = refl; chart = []; areas = c.areas }

unfoldable pub steps : Story → Call → ℕ → Story
steps h c zero = h
steps h c (suc k) = then (then (steps h c k) (next_call c)) (end_call c)

-- Line i of a log.
abbrev pub log_line : ℕ → List ℕ → List ℕ
log_line i log = take reply_bytes (drop (reply_bytes * i) log)

-- START and NEXT answer for the object p and the signal g, with the handle of an event, what a chart answers.
abbrev pub says : ℕ → ℕ → ℕ → ℕ → Step.Answer → List ℕ
says p g first gen a = bytes DONE p a.outcome g (length a.acts) 0 0 a.acts (handle first gen)

-- Flag f of object p is up after a story.
abbrev pub is_up : Story → ℕ → ℕ → Bool
is_up h p f = (kernel h).flags p f

-- What a call that is a NEXT steps by: the signal of the event that it takes, and the nested step from its object's rest with its flags.
abbrev pub signal_taken : Story → Call → ℕ
signal_taken h c = signal_of (kernel h) (kernel (then h c)).hand

abbrev pub nested : Story → Call → Step.Answer
nested h c = step (chart_in h (slot_of (kernel h) (object h c))) (is_up h (object h c)) (rest_of (kernel h) (object h c)) (signal_taken h c)

-- A call changes nothing: the kernel and the areas that it was lent are as they were, no part is handed back, and all of the reply is its
-- number, zeros, and the class of a refused chart.
pub record Unchanged (h : Story) (c : Call) : Type 0 where
  pub state : kernel (then h c) ≡ kernel h
  pub areas : (answer_in h c).areas ≡ c.areas
  pub part : part_of (kernel h) c.command c.areas.payloads ≡ []
  pub says : reply h c ≡ number h c ∷ 0 ∷ 0 ∷ 0 ∷ cond (eqb (number h c) CHART) (class_of (edition_of (argument c 1)) c.chart) 0 ∷ replicate 23 0

-- A call takes the front event of the object p, the highest with mail; the others' mail stays.
pub record Takes (h : Story) (c : Call) (p : ℕ) : Type 0 where
  pub low : 1 ≤ p
  pub high : p ≤ objects
  pub mail : 0 < length (box_of (kernel h) p)
  pub highest : (q : ℕ) → p < q → q ≤ objects → box_of (kernel h) q ≡ []
  pub in_hand : (kernel (then h c)).hand ≡ hand_of (front (kernel h).boxes (p - 1))
  pub left : box_of (kernel (then h c)) p ≡ rest (box_of (kernel h) p)
  pub others : (q : ℕ) → 1 ≤ q → (q ≡ p → ⊥) → box_of (kernel (then h c)) q ≡ box_of (kernel h) q
  pub handle : (event h c ≡ first_byte (kernel (then h c)).hand) × (generation h c ≡ generation_in (kernel h) (kernel (then h c)).hand)

-- A call does n times NEXT and END: its steps are the fall in queued entries, its log has a line for each, and how it stops is its value.
pub record Drains (h : Story) (c : Call) (n : ℕ) : Type 0 where
  pub fall : queued (kernel (then h c)).boxes + n ≡ queued (kernel h).boxes
  pub state : kernel (then h c) ≡ kernel (steps h c n)
  pub done : (i : ℕ) → i < n → number (steps h c i) (next_call c) ≡ DONE
  pub lines : (i : ℕ) → i < n → log_line i (answer_in h c).areas.log ≡ reply (steps h c i) (next_call c)
  pub rest : drop (reply_bytes * n) (answer_in h c).areas.log ≡ drop (reply_bytes * n) c.areas.log
  pub within : n ≤ argument c 1
  pub ends : value₂ h c ≡ cond (eqb (queued (kernel (then h c)).boxes) 0) 1 (cond (ltb n (argument c 1)) 2 0)
  pub stopped : 0 < queued (kernel (then h c)).boxes → n < argument c 1 → number (then h c) (next_call c) ≡ TABLE

-- Side queue q after a story, oldest entry first. A call leaves all but q as they were.
abbrev pub side : Story → ℕ → List ℕ
side h q = side_of (kernel h) q

abbrev pub OtherSides : Story → Call → ℕ → Type 0
OtherSides h c q = (k : ℕ) → (k ≡ q → ⊥) → side (then h c) k ≡ side h k

-- A call puts the event in hand, a block, last into side queue q. The step stays open, the block has a reference more, and no other has.
pub record Defers (h : Story) (c : Call) (q : ℕ) : Type 0 where
  pub block : ℕ
  pub in_hand : (kernel h).hand ≡ Block block
  pub still : (kernel (then h c)).hand ≡ (kernel h).hand
  pub last : side (then h c) q ≡ side h q ++ (entry_of (Block block) ∷ [])
  pub others : OtherSides h c q
  pub mail : (kernel (then h c)).boxes ≡ (kernel h).boxes
  pub more : (b : ℕ) → refer (then h c) b ≡ refer h b + one (eqb block b)
  pub entries : value₁ h c ≡ length (side (then h c) q)

-- A call moves the oldest entry of side queue q to the front of p's mailbox. The others keep their order, and no count changes.
pub record Recalls (h : Story) (c : Call) (q p : ℕ) : Type 0 where
  pub oldest : ℕ
  pub left : side h q ≡ oldest ∷ side (then h c) q
  pub others : OtherSides h c q
  pub front : box_of (kernel (then h c)) p ≡ oldest ∷ box_of (kernel h) p
  pub other_mail : (k : ℕ) → 1 ≤ k → (k ≡ p → ⊥) → box_of (kernel (then h c)) k ≡ box_of (kernel h) k
  pub still : (kernel (then h c)).hand ≡ (kernel h).hand
  pub cells : (kernel (then h c)).cells ≡ (kernel h).cells
  pub same : (b : ℕ) → refer (then h c) b ≡ refer h b
  pub moved : value₁ h c ≡ 1

-- Side queue q is empty, and a call finds none to move.
pub record FindsNone (h : Story) (c : Call) (q : ℕ) : Type 0 where
  pub empty : side h q ≡ []
  pub same : kernel (then h c) ≡ kernel h
  pub none : value₁ h c ≡ 0

-- A call lets go of every entry of side queue q, and of nothing else: each block has as many references fewer as it stood there.
pub record Flushes (h : Story) (c : Call) (q : ℕ) : Type 0 where
  pub empty : side (then h c) q ≡ []
  pub others : OtherSides h c q
  pub mail : (kernel (then h c)).boxes ≡ (kernel h).boxes
  pub events : (kernel (then h c)).events ≡ (kernel h).events
  pub still : (kernel (then h c)).hand ≡ (kernel h).hand
  pub fewer : (b : ℕ) → refer (then h c) b + times_in (entry_of (Block b)) (side h q) ≡ refer h b
  pub entries : value₁ h c ≡ length (side h q)

-- A block that is live: what an entry of a side queue stands for.
pub record Lives (h : Story) (e : ℕ) : Type 0 where
  pub block : ℕ
  pub this : hand_of e ≡ Block block
  pub is_one_of : block < blocks
  pub live : is_live (cell h block) ≡ true

-- A call sets flag f of object p to v, and changes nothing else: no other flag, and nothing but flags.
pub record SetsFlag (h : Story) (c : Call) (p f : ℕ) (v : Bool) : Type 0 where
  pub this : is_up (then h c) p f ≡ v
  pub others : (q g : ℕ) → (q ≡ p → g ≡ f → ⊥) → is_up (then h c) q g ≡ is_up h q g
  pub rest : kernel (then h c) ≡ with_flags (kernel (then h c)).flags (kernel h)
  pub areas : (answer_in h c).areas ≡ c.areas
  pub changed : (value₁ h c ≡ 1) ↔ (is_up (then h c) p f ≡ is_up h p f → ⊥)

-- A slot's table t holds the chart d of edition e: accepted, its table, and flat and nested agree over any sequence of signals and flags.
pub record Holds (e : Edition) (d t : List ℕ) : Type 0 where
  pub accepted : class_of e d ≡ 0
  pub table : t ≡ slot_bytes e d
  pub agrees : Agrees e d t
