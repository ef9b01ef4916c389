use Rattle.std.proofs.Common.{◌≡◌, true, false, ltb, length, refl, ◌∙◌, arith, le-ltb, lt-ltb}
use Rattle.frame.specs.Wire.{frame_bytes}
use Rattle.frame.specs.Writing.{refused, written, area_after, next_of, next_after}
use Rattle.frame.proofs.Sending.{stored-front}
use Rattle.frame.proofs.writer.write.Goals as goal

pub returns-then-bytes-gt-MOST_DATA : goal.returns-then-bytes-gt-MOST_DATA
unfolding refused written area_after next_of next_after
returns-then-bytes-gt-MOST_DATA c = rw (lt-ltb _ _ c.if-bytes-gt-MOST_DATA.true) record { value = refl; out_after = refl; next_number = refl; length_in_bounds = tt }

pub returns-then-out-length : goal.returns-then-out-length
unfolding refused written area_after next_of next_after
returns-then-out-length c =
    let a = c.args in
    let f = c.new-frame.ensures in
    let e = rw (f.number, f.kind, f.bytes) at c.size-length.ensures in
    let small : ltb (length a.out.now) (length (frame_bytes a.number a.kind a.bytes.now)) ≡ true = rw e at (lt-ltb _ _ c.if-out-length.true) in
    rw (le-ltb _ _ c.if-bytes-gt-MOST_DATA.false, small) record { value = refl; out_after = refl; next_number = refl; length_in_bounds = tt }

pub returns : goal.returns
unfolding refused written area_after next_of next_after
returns c =
    let a = c.args in
    let f = c.new-frame.ensures in
    let e = rw (f.number, f.kind, f.bytes) at c.size-length.ensures in
    let w = rw (f.number, f.kind, f.bytes) at c.fill_in.ensures in
    let h = c.if-out-length.false in
    let room : ltb (length a.out.now) (length (frame_bytes a.number a.kind a.bytes.now)) ≡ false = rw e at (le-ltb _ _ h) in
    rw (le-ltb _ _ c.if-bytes-gt-MOST_DATA.false, room)
    record {
      value = rw (e, c.next_number.ensures) refl;
      out_after = w ∙ stored-front _ _ (omega (arith, e, h));
      next_number = c.next_number.ensures;
      length_in_bounds = h;
    }
