-- Laws of the index of the rows: how it is filled from the last record to the first, and what it tells.
use mathlib.Core.Bool.{Bool, true, false, cond, ◌&&◌}
use mathlib.Core.List.{List}
use mathlib.Core.Path.{◌≡◌, refl, sym, ◌∙◌}
use Prim.Native.Nat.{ℕ, ◌+◌, ◌-◌, ◌/◌, ◌%◌, ◌≤◌, ◌<◌}
use native.Mathlib.Nat.{sub-zero}
use native.Mathlib.Omega.{arith}
use borrow.Author.Tests.{eq-eqb, ne_eqb, eqb-true, le-leb}
use lib.Dec.{eqb}
use lib.ListN.{get_or, replicate, set}
use Rattle.ground.specs.Bools.{no_yes, and_left, and_right, and_both}
use Rattle.ground.specs.Range.{tab, first_from}
use Rattle.ground.specs.Search.{first_end, first_hit, first_miss}
use Rattle.ground.specs.Tab.{get_or-tab, tab_constant, tab_ext, tab-set}
use Rattle.chart.specs.Chart.{among, byte, class_of, flag_of, is_signal, outward, parent, record_at, records, row_for, states}
use Rattle.chart.specs.Flat.{rows_out}
use Rattle.chart.specs.Held.{index_from, is_row, noted, nth_out, out_of, row_bytes, row_index, row_number}
use Rattle.chart.specs.Numbers.{Edition, Plain, first_signal, last_signal, most_states, row_count, signal_count}
use Rattle.chart.specs.Step.{answer_by, row_does}
use Rattle.chart.specs.declared.step.Out.{Out}
use Rattle.chart.proofs.Accepted.{Accepted, accepted, among_of, at_most, nth_has, parent_low, row-answer, signal_of_lem}
use Rattle.chart.proofs.Rows.{out_some, row_same}

not_both : (a b : Bool) → (a ≡ true → b ≡ true) → b ≡ false → a ≡ false
not_both true b f e = no_yes (sym e ∙ f refl)
not_both false b f e = refl

module _ (d : List ℕ) where
  pub index_none : (e : ℕ) → e ≡ records d → replicate (row_count Plain) e ≡ index_from d e
  unfolding index_from
  index_none e q =
      sym (tab_constant (λ k. first_from (is_row d k) e (records d - e)) 0 (row_count Plain) e (λ k. first_end (is_row d k) e (records d) (omega arith)))

  pub index_done : index_from d 0 ≡ row_index d
  unfolding index_from row_index row_for
  index_done = rw sub-zero

  pub index_at : (s g : ℕ) → 1 ≤ s → s ≤ most_states Plain → first_signal ≤ g → g ≤ last_signal → get_or (row_index d) (row_number s g) 0 ≡ row_for d s g
  unfolding row_index
  index_at s g h1 h2 h3 h4 =
      let k = row_number s g in
      let e : k / signal_count + 1 ≡ s = omega arith in
      let f : k % signal_count + first_signal ≡ g = omega arith in
      get_or-tab (λ k. row_for d (k / signal_count + 1) (k % signal_count + first_signal)) (row_count Plain) k 0 (omega arith) ∙ rw (e, f)

  -- The turn at record i, whose kind, state and signal are k, s and g.
  module _ (i : ℕ) (h : i < records d) where
    abbrev later : ℕ → ℕ
    later k = first_from (is_row d k) (i + 1) (records d - (i + 1))

    abbrev here : ℕ → ℕ
    here k = first_from (is_row d k) i (records d - i)

    abbrev is-row : Bool
    is-row = eqb (byte d i 0) 2 && (among (most_states Plain) (byte d i 1) && is_signal (byte d i 2))

    parts : (j : ℕ) → is_row d j i ≡ true → (byte d i 0 ≡ 2) × (byte d i 1 ≡ j / signal_count + 1) × (byte d i 2 ≡ j % signal_count + first_signal)
    parts j e =
        let r = and_right (eqb (byte d i 0) 2) (eqb (byte d i 1) (j / signal_count + 1) && eqb (byte d i 2) (j % signal_count + first_signal)) e in (
          eqb-true (byte d i 0) 2 (and_left (eqb (byte d i 0) 2) _ e),
          eqb-true (byte d i 1) (j / signal_count + 1) (and_left (eqb (byte d i 1) (j / signal_count + 1)) _ r),
          eqb-true (byte d i 2) (j % signal_count + first_signal) (and_right (eqb (byte d i 1) (j / signal_count + 1)) _ r),
        )

    -- a record that is a row of a place of the index is a row
    row_of_place : (j : ℕ) → j < row_count Plain → is_row d j i ≡ true → is-row ≡ true
    unfolding among is_signal
    row_of_place j l e =
        let p = parts j e in
        let s = p.1 in
        let g = p.2 in
        rw (eq-eqb (byte d i 0) 2 p.0, le-leb 1 (byte d i 1) (omega arith), le-leb (byte d i 1) (most_states Plain) (omega arith), le-leb first_signal (byte d i 2) (omega arith), le-leb (byte d i 2) last_signal (omega arith))

    other : is-row ≡ false → tab here (row_count Plain) ≡ tab later (row_count Plain)
    other e = tab_ext here later (row_count Plain) (λ j l. first_miss (is_row d j) i (records d) h (not_both (is_row d j i) is-row (row_of_place j l) e))

    row : is-row ≡ true → tab here (row_count Plain) ≡ set (tab later (row_count Plain)) (row_number (byte d i 1) (byte d i 2)) i
    row e =
        let k = and_left (eqb (byte d i 0) 2) _ e in
        let r = and_right (eqb (byte d i 0) 2) (among (most_states Plain) (byte d i 1) && is_signal (byte d i 2)) e in
        let a = among_of (most_states Plain) (byte d i 1) (and_left (among (most_states Plain) (byte d i 1)) _ r) in
        let b = signal_of_lem (byte d i 2) (and_right (among (most_states Plain) (byte d i 1)) _ r) in
        let n = row_number (byte d i 1) (byte d i 2) in
        let u : byte d i 1 ≡ n / signal_count + 1 = omega arith in
        let v : byte d i 2 ≡ n % signal_count + first_signal = omega arith in
        let t = and_both (eqb (byte d i 0) 2) _ k (and_both _ _ (eq-eqb (byte d i 1) (n / signal_count + 1) u) (eq-eqb (byte d i 2) (n % signal_count + first_signal) v)) in
        tab-set later here (row_count Plain) n i (omega arith) (first_hit (is_row d n) i (records d) h t)
        (λ j l ne. first_miss (is_row d j) i (records d) h (is_false (is_row d j i) (λ q. ne (let p = parts j q in omega (arith, p.1, p.2)))))
      where
        is_false : (b : Bool) → (b ≡ true → ⊥) → b ≡ false
        is_false true f = absurd (f refl)
        is_false false f = refl

    pub index_turn : (r : List ℕ) → r ≡ record_at d i → noted r i (index_from d (i + 1)) ≡ index_from d i
    unfolding noted index_from byte
    index_turn r e = rw e (go is-row refl)
      where
        go : (b : Bool) → is-row ≡ b → cond b (set (tab later (row_count Plain)) (row_number (byte d i 1) (byte d i 2)) i) (tab later (row_count Plain)) ≡ tab here (row_count Plain)
        go true q = sym (row q)
        go false q = sym (other q)

-- What the index of a good chart tells of its states.
module _ (e : Edition) (d : List ℕ) (good : class_of e d ≡ 0) where
  acc : Accepted e d
  acc = accepted e d good

  pub few_states : states d ≤ most_states Plain
  few_states = at_most e (states d) d acc.forms

  module _ (s : ℕ) (low : 1 ≤ s) (high : s ≤ states d) where
    pub row-found : (g : ℕ) → first_signal ≤ g → g ≤ last_signal → get_or (row_index d) (row_number s g) 0 ≡ row_for d s g
    row-found g h1 h2 = index_at d s g low (omega (arith, few_states)) h1 h2

    pub parent_within : parent d s ≤ states d
    parent_within = omega (arith, parent_low d acc s (record { low = low; high = high }))

    -- the code's row of the state t that is found outward from s is the table's
    pub row_made : (g : ℕ) (b : List ℕ) (i t j f : ℕ) (o : Out) → t ≡ nth_out d g i (outward d s) → (t ≡ 0 → ⊥) → j ≡ row_for d t g → f ≡ byte d j 6 → o ≡ out_of (row_does d s t j)
        → row_bytes (record { flag = f; out = o }) ≡ get_or (rows_out d s g (outward d s)) i b
    row_made g b i t j f o q n at isFlag isOut =
        let w = nth_has d acc g (outward d s) i (λ z. n (q ∙ z)) in
        let a = row-answer d acc s g t (record { low = low; high = high }) (rw q w.1) (rw q w.0) in
        let made : out_of (row_does d s t j) ≡ out_of (answer_by d s g t) = rw at (unfold answer_by in rw (ne_eqb t 0 n)) in
        rw (out_some d s g b i t q n, isFlag, isOut, made, at) (row_same (flag_of d g t) (answer_by d s g t) a.few a.outcome)
