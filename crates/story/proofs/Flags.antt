-- Document 02, request 8: FLAG sets or clears one flag, START has all of an object's flags down, and nothing else changes a flag.
use mathlib.Core.Bool.{Bool, true, false, cond, not}
use mathlib.Core.Logic.{◌↔◌, inl, inr, ⊎_elim}
use mathlib.Core.Path.{◌≡◌, refl, sym, ap, ◌∙◌}
use Prim.Native.Nat.{ℕ}
use native.Mathlib.Omega.{arith}
use borrow.Author.Tests.{eqb-true, eq-eqb, ne_eqb}
use lib.Dec.{eqb}
use lib.ListN.{get_or}
use Rattle.ground.specs.Bools.{eq_or, no_yes}
use Rattle.bits.specs.Members.{put}
use Rattle.chart.specs.Flags.{all_down}
use Rattle.mail.specs.Box.{one}
use Rattle.machine.specs.Charts.{started_at, flag_changes, flag_set}
use Rattle.machine.specs.Reply.{reply_of, bytes}
use Rattle.machine.specs.State.{State, with_flags_of}
use Rattle.story.specs.Calls.{Call, Story, then, kernel}
use Rattle.story.specs.Demands.{Flagged, StartsDown, OnlyFlag}
use Rattle.story.specs.Table.{START, FLAG}
use Rattle.story.specs.Terms.{argument, command_of, number, Did, is_up}
use Rattle.story.proofs.Made.{flag_made}
use Rattle.story.proofs.Starting.{start_did}
use Rattle.story.proofs.Tables.{frame, unchanged_state}

-- ## The machine's states
-- the flags of one object replaced: that object's, and any other's
module _ (s : State) (p : ℕ) (flags : ℕ → Bool) where
  flags_here : (with_flags_of p flags s).flags p ≡ flags
  flags_here = rw (eq-eqb p p refl) refl

  flags_other : (q : ℕ) → (q ≡ p → ⊥) → (with_flags_of p flags s).flags q ≡ s.flags q
  flags_other q ne = rw (ne_eqb q p ne) refl

module _ (s : State) (p f v : ℕ) where
  set_here : (flag_set s p f v).flags p f ≡ eqb v 1
  unfolding flag_set put
  set_here = rw (eq-eqb p p refl, eq-eqb f f refl) refl

  set_other : (q g : ℕ) → (q ≡ p → g ≡ f → ⊥) → (flag_set s p f v).flags q g ≡ s.flags q g
  unfolding flag_set put
  set_other q g other = go (eqb q p) refl (eqb g f) refl
    where
      go : (t : Bool) → eqb q p ≡ t → (u : Bool) → eqb g f ≡ u → (flag_set s p f v).flags q g ≡ s.flags q g
      go true d true e = absurd (other (eqb-true q p d) (eqb-true g f e))
      go true d false e = rw (d, e) (ap (λ (x : ℕ). s.flags x g) (sym (eqb-true q p d)))
      go false d u e = rw d refl

-- a flag that becomes t and was u
changes : (t u : Bool) → (one (cond t (not u) u) ≡ 1) ↔ (t ≡ u → ⊥)
changes true true = (λ e. absurd (omega arith), λ n. absurd (n refl))
changes true false = (λ e w. no_yes (sym w), λ n. refl)
changes false true = (λ e w. no_yes w, λ n. refl)
changes false false = (λ e. absurd (omega arith), λ n. absurd (n refl))

-- ## FLAG
pub flagged : Flagged
unfolding kernel flag_set flag_changes reply_of bytes
flagged h c did =
    let s = kernel h in
    let p = argument c 1 in
    let f = argument c 2 in
    let v = argument c 3 in
    let m = flag_made s c.command c.chart c.areas did.1 did.0 in
    let now : kernel (then h c) ≡ flag_set s p f v = ap (λ a. a.state) m.is in
    let this : is_up (then h c) p f ≡ eqb v 1 = ap (λ x. x.flags p f) now ∙ set_here s p f v in
    record {
      this = this;
      others = λ q g other. ap (λ x. x.flags q g) now ∙ set_other s p f v q g other;
      rest = rw now refl;
      areas = ap (λ a. a.areas) m.is;
      changed = rw (this, ap (λ a. get_or a.reply 4 0) m.is) (changes (eqb v 1) (s.flags p f));
    }

-- ## START
pub starts_down : StartsDown
unfolding kernel started_at
starts_down h c did f =
    ap (λ a. a.state.flags (argument c 1) f) (start_did h c did).is ∙ ap (λ flags. flags f) (flags_here (kernel h) (argument c 1) all_down)

start_others : (h : Story) (c : Call) → Did START h c → (p f : ℕ) → (p ≡ argument c 1 → ⊥) → is_up (then h c) p f ≡ is_up h p f
unfolding kernel started_at
start_others h c did p f ne =
    ap (λ a. a.state.flags p f) (start_did h c did).is ∙ ap (λ flags. flags f) (flags_other (kernel h) (argument c 1) all_down p ne)

-- ## Nothing else
pub only_flag : OnlyFlag
unfolding kernel
only_flag h c p f moves =
    ⊎_elim (λ d.
    ⊎_elim (λ e. ⊎_elim (λ q. (q, inr (e, d))) (λ ne. absurd (moves (start_others h c (e, d) p f (λ q. ne (sym q))))) (eq_or (argument c 1) p)) (λ n2.
    ⊎_elim (λ e.
    let same = (flagged h c (e, d)).others p f in
    ⊎_elim (λ q.
    ⊎_elim (λ g. (q, inl ((e, d), g))) (λ ne. absurd (moves (same (λ w g. ne (sym g))))) (eq_or (argument c 2) f))
    (λ ne. absurd (moves (same (λ w g. ne (sym w)))))
    (eq_or (argument c 1) p))
    (λ n22. absurd (moves (ap (λ flags. flags p f) ((frame h c).flags n2 n22))))
    (eq_or (command_of c) FLAG))
    (eq_or (command_of c) START))
    (λ n. absurd (moves (ap (λ s. s.flags p f) (unchanged_state h c n))))
    (eq_or (number h c) 0)
