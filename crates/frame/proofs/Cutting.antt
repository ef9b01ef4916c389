-- Bytes fed in pieces are bytes fed whole, wherever they are cut; bytes that complete nothing; and the number of the last frame handed out.
use Rattle.std.proofs.Common.{◌≡◌, ℕ, List, [], ◌∷◌, ◌++◌, sym, refl, ap, ◌∙◌, ⊎_elim, append_assoc}
use Rattle.frame.specs.Reading.{State, Last, Frame, plain, state, fresh, given, after, given_all, after_all, last_in}
use Rattle.frame.specs.Terms.{Starts, last_out}

pub cut_after : (s : State) (a b : List ℕ) → after_all s (a ++ b) ≡ after_all (after_all s a) b
unfolding after_all
cut_after s [] b = refl
cut_after s (x ∷ a) b = cut_after (after s x) a b

pub cut_given : (s : State) (a b : List ℕ) → given_all s (a ++ b) ≡ given_all s a ++ given_all (after_all s a) b
unfolding after_all given_all
cut_given s [] b = refl
cut_given s (x ∷ a) b =
    ap (λ l. given s x ++ l) (cut_given (after s x) a b)
    ∙ sym (append_assoc (given s x) (given_all (after s x) a) (given_all (after_all (after s x) a) b))

-- The bytes l complete nothing in the state s, and lead to the state next.
pub record Quiet (s : State) (l : List ℕ) (next : State) : Type 0 where
  pub nothing : given_all s l ≡ []
  pub then : after_all s l ≡ next

pub quiet_none : (s : State) → Quiet s [] s
unfolding given_all after_all
quiet_none s = record { nothing = refl; then = refl }

-- what follows bytes that complete nothing
module _ (s t : State) (a b : List ℕ) (q : Quiet s a t) where
  pub given_then : given_all s (a ++ b) ≡ given_all t b
  given_then = rw (cut_given s a b, q.nothing, q.then) refl

  pub after_then : after_all s (a ++ b) ≡ after_all t b
  after_then = rw (cut_after s a b, q.then) refl

  pub quiet_then : (u : State) → Quiet t b u → Quiet s (a ++ b) u
  quiet_then u r = record { nothing = given_then ∙ r.nothing; then = after_then ∙ r.then }

last-append : (m : Last) (l k : List Frame) → last_in m (l ++ k) ≡ last_in (last_in m l) k
unfolding last_in
last-append m [] k = refl
last-append m (f ∷ l) k = last-append _ l k

-- what a state keeps as the last number is that of the last frame that was handed out
pub last-given : (s : State) (l : List ℕ) → (after_all s l).last ≡ last_in s.last (given_all s l)
unfolding after_all given_all last_in after
last-given s [] = refl
last-given s (b ∷ l) = last-given (after s b) l ∙ sym (last-append s.last (given s b) (given_all (after s b) l))

-- where a frame starts the reader has nothing of it yet
pub at-start : (l : List ℕ) → Starts l → after_all fresh l ≡ state (plain []) (last_out l)
unfolding after_all after given_all last_in
at-start l s = ⊎_elim (λ e. rw e at_first) (λ w. rw w.1 (at_next w.0)) s
  where
    at_first : after_all fresh [] ≡ state (plain []) (last_out [])
    at_first = refl

    at_next : (q : List ℕ) → after_all fresh (q ++ (0x7E ∷ [])) ≡ state (plain []) (last_out (q ++ (0x7E ∷ [])))
    at_next q = rw (cut_after fresh q (0x7E ∷ []), ← last-given fresh (q ++ (0x7E ∷ [])), cut_after fresh q (0x7E ∷ [])) refl
