use Rattle.std.proofs.Common.{◌≡◌, ℕ, List, [], sym, refl, rules}
use Rattle.frame.specs.Inside.{seen}
use Rattle.frame.specs.Reading.{Last, ended}
use Rattle.frame.specs.View.{frames_told}
use Rattle.frame.specs.declared.reader.Part.{Part}
use Rattle.frame.specs.declared.reader.Part.TheVariants.{Plain, Escaped, Spoilt}
use Rattle.frame.proofs.Steps.{fits_short, fits_checked, fits_unchecked, whole_ended}
use Rattle.frame.proofs.reader.Reader.whole_frame.Goals as goal

nothing : (p : Part) (l : List ℕ) (m : Last) → ((n : ℕ) → p ≡ Plain n → ⊥) → ended (seen p l) m ≡ []
unfolding ended
nothing (Plain n) l m h = absurd (h n refl)
nothing (Escaped n) l m h = refl
nothing Spoilt l m h = refl

pub returns-in_default-clause-handed : goal.returns-in_default-clause-handed
unfolding frames_told
returns-in_default-clause-handed c = sym (nothing _ _ _ c.in_default.not-Plain)

pub returns-then-length-lt-LEAST_BYTES-clause-handed : goal.returns-then-length-lt-LEAST_BYTES-clause-handed
unfolding frames_told ended
returns-then-length-lt-LEAST_BYTES-clause-handed c =
    let s = c.args.self.now.bytes in
    rw (c.in-Plain.is, fits_short s c.in-Plain.length (search rules) c.if-length-lt-LEAST_BYTES.true) refl

pub returns-then-self-length-clause-handed : goal.returns-then-self-length-clause-handed
unfolding frames_told ended
returns-then-self-length-clause-handed c =
    let s = c.args.self.now.bytes in
    rw (c.in-Plain.is, fits_unchecked s c.in-Plain.length (search rules) _ c.sum_of-check.ensures c.if-length-lt-LEAST_BYTES.false c.if-self-length.true) refl

pub returns-clause-handed : goal.returns-clause-handed
unfolding frames_told
returns-clause-handed c =
    let s = c.args.self.now.bytes in
    let k = c.if-length-lt-LEAST_BYTES.false in
    let f = fits_checked s c.in-Plain.length (search rules) _ c.sum_of-check.ensures k c.if-self-length.false in
    rw (c.in-Plain.is, c.is_gap_before.ensures) (whole_ended s c.in-Plain.length (search rules) _ k f)
