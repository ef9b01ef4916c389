use Rattle.std.proofs.Common.{◌≡◌, ◌%◌, refl, subst, rules}
use Rattle.std.proofs.lemmas.Fn.{fold_over, slice_gives, fronts}
use Rattle.frame.specs.Wire.{sum}
use Rattle.frame.proofs.Sending.{sum-push}
use Rattle.frame.proofs.sum_of.Goals as goal

pub returns : goal.returns
unfolding sum
returns c = subst (λ l. c.fold.result ≡ sum l % 256) c.iter.ensures.rest
    (fold_over fronts (λ y. y.now) _ (λ ys t. t ≡ sum ys % 256) _ (λ ys a x b f' j k. let more = sum-push ys x.now in search rules)
    _ _ _ _ (slice_gives c.iter.result) refl c.fold.ensures.ran)
