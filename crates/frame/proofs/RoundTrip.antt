-- What is written is read back: a frame where one starts, and frames one after the other.
use Rattle.std.proofs.Common.{◌≡◌, ℕ, ◌+◌, ◌-◌, ◌<◌, ◌≤◌, Bool, true, false, eqb, ltb, List, [], ◌∷◌, ◌++◌, length, get_or, take, drop, Ok, Err, refl, ◌∙◌, append_assoc, append-nil, arith, length-append, take_at, ltb-false, lt-ltb, eq-eqb, eqb-true, le-leb}
use lib.Seq.{get_or_at, take-append_seam}
use Rattle.frame.specs.Demands.{ReadBack, InOrder, Resumed}
use Rattle.frame.specs.Reading.{Last, state, none, number, plain, fresh, pushed, taken, front, fits, gap_at, frame, ended, last_in, given, after, given_all, after_all}
use Rattle.frame.specs.Terms.{Sent, stream, as_sent, resumed, last_out}
use Rattle.frame.specs.Wire.{sent, sent_all, check_of, unescaped, frame_bytes, following}
use Rattle.frame.specs.Writing.{refused, written, area_after}
use Rattle.frame.specs.declared.writer.WriteError.TheVariants.{TooManyData, TooLittleRoom}
use Rattle.frame.proofs.Cutting.{Quiet, quiet_none, quiet_then, given_then, after_then, cut_given, at-start}
use Rattle.frame.proofs.Sending.{unescaped-length}

module _ (m : Last) where
  quiet_sent : (u : List ℕ) (x : ℕ) → length u < 96 → Quiet (state (plain u) m) (sent x) (state (plain (u ++ (x ∷ []))) m)
  unfolding sent given_all after_all given after taken pushed last_in
  quiet_sent u x h = go (eqb x 0x7E) (eqb x 0x7D) refl refl
    where
      go : (t v : Bool) → eqb x 0x7E ≡ t → eqb x 0x7D ≡ v → Quiet (state (plain u) m) (sent x) (state (plain (u ++ (x ∷ []))) m)
      go true v e f = rw (eqb-true x 0x7E e) (record { nothing = refl; then = rw (lt-ltb _ _ h) refl })
      go false true e f = rw (eqb-true x 0x7D f) (record { nothing = refl; then = rw (lt-ltb _ _ h) refl })
      go false false e f = record { nothing = rw (e, f, e) refl; then = rw (e, f, e, f, lt-ltb _ _ h) refl }

  quiet_all : (u l : List ℕ) → length u + length l ≤ 96 → Quiet (state (plain u) m) (sent_all l) (state (plain (u ++ l)) m)
  unfolding sent_all
  quiet_all u [] h = rw append-nil (quiet_none _)
  quiet_all u (x ∷ l) h =
      let r = quiet_all (u ++ (x ∷ [])) l (rw (length-append u (x ∷ [])) (omega arith)) in
      quiet_then _ _ (sent x) (sent_all l) (quiet_sent u x (omega arith)) _ (rw (append_assoc u (x ∷ []) l) at r)

  module _ (n k : ℕ) (d : List ℕ) where
    abbrev head : List ℕ
    head = n ∷ k ∷ d

    whole_seam : length head ≡ length (unescaped n k d) - 1
    whole_seam = omega (arith, unescaped-length n k d)

    whole_front : front (unescaped n k d) ≡ head
    unfolding unescaped front
    whole_front = take_at head (check_of head ∷ []) _ whole_seam

    whole_last : get_or (unescaped n k d) (length (unescaped n k d) - 1) 0 ≡ check_of head
    unfolding unescaped
    whole_last = get_or_at head (check_of head) [] 0 _ whole_seam

    whole_fits : fits (unescaped n k d) ≡ true
    unfolding fits
    whole_fits = rw (le-leb 3 (length (unescaped n k d)) (omega (arith, unescaped-length n k d)), whole_front) (eq-eqb _ _ whole_last)

    whole_start : (l : List ℕ) → frame m (get_or (unescaped n k d) 0 0) (get_or (unescaped n k d) 1 0) l ≡ frame m n k l
    unfolding unescaped
    whole_start l = refl

    whole_ended : ended (plain (unescaped n k d)) m ≡ frame m n k d ∷ []
    unfolding ended
    whole_ended = rw (whole_fits, whole_front, whole_start d) refl

    -- a frame fed where one starts is handed out, and the next starts
    module _ (h : length d ≤ 93) where
      quiet_whole : Quiet (state (plain []) m) (sent_all (unescaped n k d)) (state (plain (unescaped n k d)) m)
      quiet_whole = quiet_all [] (unescaped n k d) (omega (arith, unescaped-length n k d))

      pub round_given : given_all (state (plain []) m) (frame_bytes n k d) ≡ frame m n k d ∷ []
      unfolding frame_bytes given_all given
      round_given = given_then _ _ (sent_all (unescaped n k d)) (0x7E ∷ []) quiet_whole ∙ rw whole_ended refl

      pub round_after : after_all (state (plain []) m) (frame_bytes n k d) ≡ state (plain []) (number n)
      unfolding frame_bytes after_all after given last_in frame
      round_after = after_then _ _ (sent_all (unescaped n k d)) (0x7E ∷ []) quiet_whole ∙ rw whole_ended refl

-- A frame that was written.
pub read_back : ReadBack
unfolding refused written area_after
read_back out n k d m w h = go (ltb 93 (length d)) (ltb (length out) (length (frame_bytes n k d))) refl refl
  where
    go : (t v : Bool) → ltb 93 (length d) ≡ t → ltb (length out) (length (frame_bytes n k d)) ≡ v →
        given_all (state (plain []) m) (take w.length (area_after out n k d)) ≡ frame m n k d ∷ []
    go true v e f = let no : Err TooManyData ≡ Ok w = rw e at h in absurd (cc)
    go false true e f = let no : Err TooLittleRoom ≡ Ok w = rw (e, f) at h in absurd (cc)
    go false false e f =
        let is : Ok record { length = length (frame_bytes n k d); next = following n } ≡ Ok w = rw (e, f) at h in
        let size : w ≡ record { length = length (frame_bytes n k d); next = following n } = cc in
        rw (e, f, size, take-append_seam (frame_bytes n k d) (drop (length (frame_bytes n k d)) out)) (round_given m n k d (ltb-false 93 (length d) e))

-- Frames one after the other, where a frame starts: no more, and one more.
no_more : (m : Last) (n : ℕ) → given_all (state (plain []) m) (stream n []) ≡ []
unfolding stream given_all
no_more m n = refl

one_more : (m : Last) (n : ℕ) (f : Sent) (l : List Sent) →
    given_all (state (plain []) m) (stream n (f ∷ l)) ≡ frame m n f.kind f.bytes ∷ given_all (state (plain []) (number n)) (stream (following n) l)
unfolding stream
one_more m n f l =
    cut_given _ (frame_bytes n f.kind f.bytes) (stream (following n) l)
    ∙ rw (round_given m n f.kind f.bytes f.short, round_after m n f.kind f.bytes f.short) refl

-- the next number tells no gap
follows : (n k : ℕ) (d : List ℕ) → frame (number n) (following n) k d ≡ record { number = following n; kind = k; bytes = d; gap = false }
unfolding frame gap_at
follows n k d = rw (eq-eqb (following n) (following n) refl) refl

read-on : (n : ℕ) (l : List Sent) → given_all (state (plain []) (number n)) (stream (following n) l) ≡ as_sent (following n) l
unfolding as_sent
read-on n [] = no_more (number n) (following n)
read-on n (f ∷ l) = one_more (number n) (following n) f l ∙ rw (follows n f.kind f.bytes, read-on (following n) l) refl

read-resumed : (m : Last) (n : ℕ) (l : List Sent) → given_all (state (plain []) m) (stream n l) ≡ resumed m n l
unfolding resumed
read-resumed m n [] = no_more m n
read-resumed m n (f ∷ l) = one_more m n f l ∙ rw (read-on n l) refl

pub resume : Resumed
resume before n l s = cut_given fresh before (stream n l) ∙ rw (at-start before s, read-resumed (last_out before) n l) refl

-- nothing came before the first, so it tells no gap
first_sent : (n : ℕ) (l : List Sent) → resumed none n l ≡ as_sent n l
unfolding resumed as_sent frame gap_at
first_sent n [] = refl
first_sent n (f ∷ l) = refl

pub in_order : InOrder
in_order n l = read-resumed none n l ∙ first_sent n l
