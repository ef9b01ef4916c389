-- Document 01, "A step.", and document 02, requests 2 and 8: what a chart d does with a signal.
use Rattle.std.specs.Prelude.{Bool, cond, ◌&&◌, List, [], ◌∷◌, ◌++◌, ℕ, zero, suc, eqb}
use Rattle.chart.specs.Chart.{byte, parent, entry_of, exit_of, initial, initial_action, top_target, top_action, row_for, has_row, flag_of, outward, has}
use Rattle.chart.specs.Flags.{Flags, is_open}
use Rattle.chart.specs.Numbers.{levels}

-- The state of rest after the step, the outcome (0 ignored, 1 internal, 2 transition), and the actions in order.
pub record Answer : Type 0 where
  pub next : ℕ
  pub outcome : ℕ
  pub acts : List ℕ

-- Actions 0 are not listed.
unfoldable pub listed : ℕ → List ℕ
listed a = cond (eqb a 0) [] (a ∷ [])

-- The states of an outward path up to, not including, l; all of them where l is not there.
unfoldable pub up_to : ℕ → List ℕ → List ℕ
up_to l [] = []
up_to l (s ∷ ss) = cond (eqb s l) [] (s ∷ up_to l ss)

-- Exits along an outward path, the innermost first; entries, the outermost first.
unfoldable pub leave : List ℕ → List ℕ → List ℕ
leave d [] = []
leave d (s ∷ ss) = listed (exit_of d s) ++ leave d ss

unfoldable pub enter : List ℕ → List ℕ → List ℕ
enter d [] = []
enter d (s ∷ ss) = enter d ss ++ listed (entry_of d s)

-- The first state of an outward path that passes the test; 0, the top: none.
unfoldable pub first_of : (ℕ → Bool) → List ℕ → ℕ
first_of p [] = 0
first_of p (s ∷ ss) = cond (p s) s (first_of p ss)

-- From the state of rest x outward to the first state, the source, with an open row for the signal g.
abbrev pub source : List ℕ → Flags → ℕ → ℕ → ℕ
source d is_up x g = first_of (λ s. has_row d g s && is_open is_up (flag_of d g s)) (outward d x)

-- Up to it the source s is left, from it t is entered: the innermost state that contains, or is, both; if t is s, the state that contains s.
unfoldable pub limit : List ℕ → ℕ → ℕ → ℕ
limit d s t = cond (eqb s t) (parent d s) (first_of (λ x. has x (outward d t)) (outward d s))

-- While the state reached, s, has an initial target: its initial action, then entries down to that target. k bounds the turns.
unfoldable pub settle : ℕ → List ℕ → ℕ → List ℕ → Answer
settle zero d s l = record { next = s; outcome = 2; acts = l }
settle (suc k) d s l =
    let t = initial d s in
    cond (eqb t 0) (record { next = s; outcome = 2; acts = l })
    (settle k d t (l ++ (listed (initial_action d s) ++ enter d (up_to s (outward d t)))))

-- The transition from rest x by a row of the source s with target t and action a: the action, exits from x to s and from s, entries to t.
unfoldable pub moved : List ℕ → ℕ → ℕ → ℕ → ℕ → Answer
moved d x s t a =
    settle levels d t
    (listed a
    ++ (leave d (up_to s (outward d x))
    ++ (leave d (up_to (limit d s t) (outward d s))
    ++ enter d (up_to (limit d s t) (outward d t)))))

-- What row i of the source s does at rest x. It is (2, state, signal, kind, target, action, flag, 0), kind 0 internal.
unfoldable pub row_does : List ℕ → ℕ → ℕ → ℕ → Answer
row_does d x s i =
    cond (eqb (byte d i 3) 0) (record { next = x; outcome = 1; acts = listed (byte d i 5) })
    (moved d x s (byte d i 4) (byte d i 5))

-- What the row for g of the source s does. No source, 0: ignored, nothing changes.
abbrev pub ignored : ℕ → Answer
ignored x = record { next = x; outcome = 0; acts = [] }

unfoldable pub answer_by : List ℕ → ℕ → ℕ → ℕ → Answer
answer_by d x g s = cond (eqb s 0) (ignored x) (row_does d x s (row_for d s g))

unfoldable pub step : List ℕ → Flags → ℕ → ℕ → Answer
step d is_up x g = answer_by d x g (source d is_up x g)

-- Start: top action, entries, then the same.
unfoldable pub start : List ℕ → Answer
start d = settle levels d (top_target d) (listed (top_action d) ++ enter d (outward d (top_target d)))
