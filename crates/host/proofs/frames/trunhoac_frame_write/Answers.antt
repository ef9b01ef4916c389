use borrow.Author.Tests.{ne_eqb}
use mathlib.Core.Bool.{Bool, true, false, cond, ◌||◌}
use mathlib.Core.List.{List}
use mathlib.Core.Path.{◌≡◌, refl, ap}
use Prim.Native.Nat.{ℕ, ◌<◌}
use native.Mathlib.Omega.{arith}
use lib.Dec.{eqb, ltb}
use lib.ListN.{length, length-append}
use Rattle.std.specs.Prelude.{Result, Ok, Err}
use Rattle.frame.specs.Wire.{frame_bytes, most_data, following}
use Rattle.frame.specs.Writing.{refused, written, length_of, next_of, area_after}
use Rattle.frame.specs.declared.writer.WriteError.{WriteError}
use Rattle.frame.specs.declared.writer.WriteError.TheVariants.{TooManyData, TooLittleRoom}
use Rattle.frame.specs.declared.writer.Written.{Written}
use Rattle.host.specs.Frames.{Writes}
use Rattle.host.proofs.frames.trunhoac_frame_write.Goals as goal

-- every frame has a byte at least
some : (n k : ℕ) (d : List ℕ) → 0 < length (frame_bytes n k d)
unfolding frame_bytes
some n k d = rw length-append (omega arith)

none_written : (room n k : ℕ) (d : List ℕ) → eqb (length_of (written room n k d)) 0 ≡ refused room n k d
unfolding written refused length_of
none_written room n k d = go (ltb most_data (length d)) (ltb room (length (frame_bytes n k d)))
  where
    go : (t v : Bool) → eqb (length_of (cond t (Err TooManyData) (cond v (Err TooLittleRoom) (Ok (record { length = length (frame_bytes n k d); next = following n }))))) 0 ≡ (t || v)
    go true v = refl
    go false true = refl
    go false false = ne_eqb _ 0 (λ z. omega (arith, some n k d, z))

writes : (out : List ℕ) (n k : ℕ) (d : List ℕ) (r : Result Written WriteError) (area : List ℕ) → r ≡ written (length out) n k d → area ≡ area_after out n k d →
    Writes out n k d (length_of r) (next_of n r) area
writes out n k d r area e a = record { size_is = ap length_of e; refusal = rw e (none_written (length out) n k d); next-is = ap (next_of n) e; area_is = a }

pub returns-in-Ok : goal.returns-in-Ok
unfolding length_of next_of
returns-in-Ok c = rw c.in-Ok.is at (writes _ _ _ _ _ _ c.write.ensures.value c.write.ensures.out_after)

pub returns-in-Err : goal.returns-in-Err
unfolding length_of next_of
returns-in-Err c = rw c.in-Err.is at (writes _ _ _ _ _ _ c.write.ensures.value c.write.ensures.out_after)
