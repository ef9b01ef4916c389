use Rattle.std.proofs.Common.{◌+◌, length, ◌∙◌, arith, rules}
use Rattle.std.proofs.lemmas.Iterator.{YieldsList-from_slice, YieldsList-from_map}
use Rattle.std.proofs.lemmas.Iterator.Adapters.{total_from_yields_List}
use Rattle.frame.specs.Wire.{sent}
use Rattle.frame.proofs.Sending.{sent_sizes, sent_all_most}
use Rattle.frame.proofs.writer.sizes.Goals as goal

pub returns : goal.returns
returns c =
    let e = total_from_yields_List (λ a x. a + x) 0 _ c.sum.ensures.ran (YieldsList-from_map _ (λ b. length (sent b)) (YieldsList-from_slice c.args.bytes.now cc) c.map.ensures.closure (λ x r q k. search rules)) ∙ sent_sizes c.args.bytes.now in
    (e, omega (arith, e, sent_all_most c.args.bytes.now))
