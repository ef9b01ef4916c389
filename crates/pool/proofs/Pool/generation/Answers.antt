use borrow.Author.Rules.{rules}
use mathlib.Core.Path.{◌≡◌, sym, ◌∙◌}
use lib.ListN.{get_or}
use Rattle.pool.specs.Inside.{cells}
use Rattle.pool.proofs.Store.{generation-at}
use Rattle.pool.proofs.Pool.generation.Goals as goal

pub returns : goal.returns
unfolding cells
returns c =
    let e : c.unwrap_or.result ≡ get_or c.args.self.now.generations c.args.b 0 = search rules in
    e ∙ sym (generation-at _ _ _ (search rules) c.args.b)
