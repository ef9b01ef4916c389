-- The theorems, each of the statement of its name in specs/Demands.antt. Over each: what would make it empty, and why it is not.
use Rattle.std.proofs.Common.{◌≡◌, ◌++◌, take, drop, sym, refl, ap, ◌∙◌, take-append-drop}
use Rattle.frame.specs.Demands
use Rattle.frame.specs.Reading.{given_all, after_all}
use Rattle.frame.specs.Wire.{sent, sent_all, sum, check_of, unescaped, frame_bytes}
use Rattle.frame.proofs.Cutting.{cut_given, cut_after}
use Rattle.frame.proofs.Intact
use Rattle.frame.proofs.RoundTrip
use Rattle.frame.proofs.Sending

-- No hypothesis.
pub cut : Demands.Cut
cut s a b = (cut_given s a b, cut_after s a b)

-- Nothing is ever fed: `feed` promises it of every reader and piece.
pub onward : Demands.Onward
onward s next piece read frames f = rw (f.handed, f.then) (handed, then)
  where
    whole : piece ≡ take read piece ++ drop read piece
    whole = sym (take-append-drop read piece)

    handed : given_all s piece ≡ given_all s (take read piece) ++ given_all (after_all s (take read piece)) (drop read piece)
    handed = ap (given_all s) whole ∙ cut_given s (take read piece) (drop read piece)

    then : after_all s piece ≡ after_all (after_all s (take read piece)) (drop read piece)
    then = ap (after_all s) whole ∙ cut_after s (take read piece) (drop read piece)

-- A writer that refuses everything: `longest`, with `refused` of Writing.
pub read_back : Demands.ReadBack
read_back = RoundTrip.read_back

-- No hypothesis.
pub in_order_lem : Demands.InOrder
in_order_lem = RoundTrip.in_order

-- Nowhere a frame starts: at the beginning, and behind every 0x7E.
pub resumed : Demands.Resumed
resumed = RoundTrip.resume

-- A reader that hands out nothing: `in_order_lem` and `resumed`.
pub only_intact : Demands.OnlyIntact
only_intact = Intact.only_intact

-- Data that are always too long: those of `book` are not.
pub longest : Demands.Longest
longest = Sending.frame_most

-- No hypothesis.
pub book : Demands.Book
unfolding frame_bytes unescaped sent_all sent check_of sum
book = refl
