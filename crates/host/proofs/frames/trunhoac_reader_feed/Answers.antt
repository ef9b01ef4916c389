use mathlib.Core.Path.{refl, ap, subst, ◌∙◌}
use native.Mathlib.Omega.{arith}
use Rattle.std.specs.Prelude.{Option, Some, None}
use Rattle.frame.specs.View.{Tells, frames_told}
use Rattle.frame.specs.declared.reader.Frame.{Frame as Told}
use Rattle.frame.specs.declared.reader.Reader.{Reader}
use Rattle.host.specs.Frames.{Whole, told_frame}
use Rattle.host.proofs.frames.trunhoac_reader_feed.Goals as goal

whole : (r : Reader) (o : Option Told) → Tells o (frames_told r o) → Whole (frames_told r o)
unfolding Whole Tells frames_told
whole r (Some f) t = let e = t.2 in let h = f.small in (omega (arith, e, h), refl)
whole r None t = tt

pub returns : goal.returns
returns c =
    let p = c.feed-fed.ensures.feeds in
    let w = c.feed-fed.ensures.within in
    record {
      fed = record { bytes = p.bytes; handed = refl; then = p.then };
      whole = subst Whole p.handed (whole _ _ w.rest);
      told = c.told.ensures ∙ ap told_frame p.handed;
      most = w.most;
      onward = w.onward;
    }
