-- The mailboxes: for each object, counted from 0, the list of its entries, front first. The side queues are lists of the same kind.
use Rattle.std.specs.Prelude.{Bool, cond, List, [], ◌∷◌, ◌++◌, ℕ, zero, suc, ◌+◌, eqb, length, get_or, set, drop}

-- The most entries that one mailbox holds.
abbrev pub room : ℕ
room = 16

abbrev pub box_at : List (List ℕ) → ℕ → List ℕ
box_at bs q = get_or bs q []

abbrev pub front : List (List ℕ) → ℕ → ℕ
front bs q = get_or (box_at bs q) 0 0

-- Mailbox q as f makes it, every other as it was.
unfoldable pub changed : (List ℕ → List ℕ) → List (List ℕ) → ℕ → List (List ℕ)
changed f bs q = set bs q (f (box_at bs q))

-- A mailbox with entry e behind it, with e ahead of it, without its front entry, without any.
unfoldable pub behind : ℕ → List ℕ → List ℕ
behind e b = b ++ (e ∷ [])

unfoldable pub ahead : ℕ → List ℕ → List ℕ
ahead e b = e ∷ b

unfoldable pub rest : List ℕ → List ℕ
rest b = drop 1 b

unfoldable pub bare : List ℕ → List ℕ
bare b = []

-- Entry e joins mailbox q at the back, at the front; the front entry leaves it, all of them do.
abbrev pub push_back : List (List ℕ) → ℕ → ℕ → List (List ℕ)
push_back bs q e = changed (behind e) bs q

abbrev pub push_front : List (List ℕ) → ℕ → ℕ → List (List ℕ)
push_front bs q e = changed (ahead e) bs q

abbrev pub took_front : List (List ℕ) → ℕ → List (List ℕ)
took_front bs q = changed rest bs q

-- The first n entries leave mailbox q.
abbrev pub took_first : List (List ℕ) → ℕ → ℕ → List (List ℕ)
took_first bs q n = changed (drop n) bs q

abbrev pub emptied : List (List ℕ) → ℕ → List (List ℕ)
emptied bs q = changed bare bs q

-- The highest of the first n objects that has mail, counted from 1; 0 where none has.
unfoldable pub highest_of : List (List ℕ) → ℕ → ℕ
highest_of bs zero = 0
highest_of bs (suc n) = cond (eqb (length (box_at bs n)) 0) (highest_of bs n) (suc n)

abbrev pub highest : List (List ℕ) → ℕ
highest bs = highest_of bs (length bs)

-- What f counts in each mailbox, in all.
unfoldable pub total : (List ℕ → ℕ) → List (List ℕ) → ℕ
total f [] = 0
total f (b ∷ bs) = f b + total f bs

abbrev pub one : Bool → ℕ
one t = cond t 1 0

unfoldable pub times_in : ℕ → List ℕ → ℕ
times_in e [] = 0
times_in e (x ∷ b) = one (eqb x e) + times_in e b

-- How many entries there are in all, and how often entry e is among them.
abbrev pub queued : List (List ℕ) → ℕ
queued bs = total length bs

abbrev pub occurrences : ℕ → List (List ℕ) → ℕ
occurrences e bs = total (times_in e) bs
