-- Document 01, "Charts", and document 02, request 8: the records, the states and rows that they are, and the class of a chart's fault.
use Rattle.std.specs.Prelude.{Bool, true, false, cond, not, ◌&&◌, ◌||◌, List, [], ◌∷◌, ◌≡◌, ℕ, zero, suc, ◌+◌, ◌*◌, ◌-◌, ◌/◌, ◌%◌, ltb, leb, eqb, length, get_or, drop}
use Rattle.ground.specs.Bytes.{blank}
use Rattle.ground.specs.Range.{every, first_from}
use Rattle.chart.specs.Numbers.{Edition, longest, most_states, most_flag, row_filler, levels, first_signal, last_signal}

-- Record i is the part of the chart that starts at byte 8 × i; `byte d i k` is its byte k, 0 past the chart's end.
abbrev pub record_at : List ℕ → ℕ → List ℕ
record_at d i = drop (8 * i) d

unfoldable pub byte : List ℕ → ℕ → ℕ → ℕ
byte d i k = get_or (record_at d i) k 0

abbrev pub records : List ℕ → ℕ
records d = length d / 8

-- Record 0 is (3, target, action, 0 ..), the top initial transition.
abbrev pub top_target : List ℕ → ℕ
top_target d = byte d 0 1

abbrev pub top_action : List ℕ → ℕ
top_action d = byte d 0 2

-- State s is record s, from 1 on: (1, parent, entry, exit, initial target, initial action, 0, 0). The top, 0, has no parent.
unfoldable pub parent : List ℕ → ℕ → ℕ
parent d s = cond (eqb s 0) 0 (byte d s 1)

abbrev pub entry_of : List ℕ → ℕ → ℕ
entry_of d s = byte d s 2

abbrev pub exit_of : List ℕ → ℕ → ℕ
exit_of d s = byte d s 3

abbrev pub initial : List ℕ → ℕ → ℕ
initial d s = byte d s 4

abbrev pub initial_action : List ℕ → ℕ → ℕ
initial_action d s = byte d s 5

-- How many states there are: behind record 0, up to the first record of another kind.
unfoldable pub states : List ℕ → ℕ
states d = first_from (λ i. not (eqb (byte d i 0) 1)) 1 (records d - 1) - 1

-- A row is (2, state, signal, kind, target, action, flag, 0). That of state s and signal g is the first with these two; `records d`: none.
unfoldable pub row_for : List ℕ → ℕ → ℕ → ℕ
row_for d s g = first_from (λ i. eqb (byte d i 0) 2 && (eqb (byte d i 1) s && eqb (byte d i 2) g)) 0 (records d)

abbrev pub has_row : List ℕ → ℕ → ℕ → Bool
has_row d g s = ltb (row_for d s g) (records d)

-- The flag that it names, 0 for none; the rows of a plain chart have none.
abbrev pub flag_of : List ℕ → ℕ → ℕ → ℕ
flag_of d g s = byte d (row_for d s g) 6

-- s, the state that contains it, and so on outward: at most k of them.
unfoldable pub path : ℕ → List ℕ → ℕ → List ℕ
path zero d s = []
path (suc k) d s = cond (eqb s 0) [] (s ∷ path k d (parent d s))

abbrev pub outward : List ℕ → ℕ → List ℕ
outward d s = path levels d s

unfoldable pub has : ℕ → List ℕ → Bool
has x [] = false
has x (s ∷ ss) = eqb s x || has x ss

-- Class 1: length 0, not a multiple of 8, or above the longest.
unfoldable pub length_ok : List ℕ → Bool
length_ok d = not (eqb (length d) 0) && (eqb (length d % 8) 0 && leb (length d) longest)

-- s is one of 1 to n.
unfoldable pub among : ℕ → ℕ → Bool
among n s = leb 1 s && leb s n

unfoldable pub is_signal : ℕ → Bool
is_signal g = leb first_signal g && leb g last_signal

-- Class 2, of a chart with n states: record 0 has kind 3, the next n kind 1, the others kind 2; filler bytes are 0; n is 1 to 24, or to 8.
unfoldable pub form_ok : Edition → ℕ → List ℕ → Bool
form_ok e k r = eqb (get_or r 0 0) k && blank r (cond (eqb k 3) 3 (cond (eqb k 1) 6 (row_filler e))) 8

unfoldable pub forms_ok : Edition → ℕ → List ℕ → Bool
forms_ok e n d = every (λ i. form_ok e (cond (eqb i 0) 3 (cond (leb i n) 1 2)) (record_at d i)) 0 (records d) && among (most_states e) n

-- Class 3: a state's parent p is lower and, if it is a state, has an initial target (document 02, request 1);
unfoldable pub parent_ok : List ℕ → ℕ → ℕ → Bool
parent_ok d s p = ltb p s && (eqb p 0 || not (eqb (initial d p) 0))

-- a state lies at most 6 deep, an initial target is a proper descendant, an initial action has a target.
unfoldable pub state_ok : ℕ → List ℕ → ℕ → List ℕ → Bool
state_ok n d s r =
    parent_ok d s (get_or r 1 0)
    && (leb (length (path (suc levels) d s)) levels
    && cond (eqb (get_or r 4 0) 0) (eqb (get_or r 5 0) 0)
    (among n (get_or r 4 0) && has s (outward d (parent d (get_or r 4 0)))))

unfoldable pub tree_ok : ℕ → List ℕ → Bool
tree_ok n d = among n (top_target d) && every (λ s. state_ok n d s (record_at d s)) 1 (n + 1)

-- Class 4: a row's state, its signal, its target by its kind, 0 internal or 1 a transition, its flag; and rows ascend by state, then signal.
abbrev pub key : List ℕ → ℕ
key r = 256 * get_or r 1 0 + get_or r 2 0

unfoldable pub row_ok : Edition → ℕ → ℕ → List ℕ → Bool
row_ok e n before r =
    among n (get_or r 1 0)
    && (is_signal (get_or r 2 0)
    && (cond (eqb (get_or r 3 0) 0) (eqb (get_or r 4 0) 0) (eqb (get_or r 3 0) 1 && among n (get_or r 4 0))
    && (leb (get_or r 6 0) (most_flag e)
    && ltb before (key r))))

unfoldable pub rows_ok : Edition → ℕ → List ℕ → Bool
rows_ok e n d = every (λ i. row_ok e n (cond (eqb i (n + 1)) 0 (key (record_at d (i - 1)))) (record_at d i)) (n + 1) (records d)

-- The class of a chart's fault, the lowest that applies; 0 for a good chart.
unfoldable pub class_of : Edition → List ℕ → ℕ
class_of e d =
    cond (length_ok d)
    (cond (forms_ok e (states d) d)
    (cond (tree_ok (states d) d)
    (cond (rows_ok e (states d) d) 0 4) 3) 2) 1

-- s is a leaf: a state that is no state's parent.
unfoldable pub leaf : List ℕ → ℕ → Bool
leaf d s = among (states d) s && every (λ t. not (eqb (parent d t) s)) 1 (states d + 1)

-- "A state that is any other state's parent must have an initial target": one without is a leaf.
abbrev pub ParentsStart : List ℕ → Type 0
ParentsStart d = (s : ℕ) → among (states d) s ≡ true → initial d s ≡ 0 → leaf d s ≡ true
