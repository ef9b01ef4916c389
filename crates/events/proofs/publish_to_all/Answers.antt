use borrow.Author.Rules.{rules}
use mathlib.Core.Path.{◌≡◌, refl, sym, ap, ◌∙◌}
use Rattle.machine.specs.Numbers.{objects}
use Rattle.machine.specs.Reply.{answer, done}
use Rattle.mail.specs.Box.{one}
use Rattle.mail.specs.View.{boxes}
use Rattle.state.specs.View.{state_of, told}
use Rattle.events.proofs.Receivers.{done_none, done_some, have_places, published-none}
use Rattle.events.proofs.publish_to_all.Goals as goal

pub post_to_all-n-requires : goal.post_to_all-n-requires
unfolding state_of
post_to_all-n-requires c =
    let g = c.requires.block in
    let places = c.requires.places in
    (g.0, g.1, have_places c.args.k.now _ places.0 places.1)

pub returns-then-n-eq0 : goal.returns-then-n-eq0
unfolding state_of told
returns-then-n-eq0 c =
    let s = state_of c.args.k.now in
    let posts = c.post_to_all-n.ensures in
    let number = posts.number s refl in
    let gone = c.drop_new-freed.ensures in
    let none = published-none s c.args.g c.args.b objects (sym number ∙ c.if-n-eq0.true) in
    let same : boxes c.post_to_all-n.new.mail ≡ boxes c.args.k.now.mail = ap (λ t. t.boxes) (posts.posts s refl ∙ none) in
    let freed : c.from.result ≡ one c.drop_new-freed.result = search rules in
    λ z. rw (
      ← number,
      done_none c.args.b s z _ c.if-n-eq0.true,
      same,
      gone.frees.row,
      gone.marks,
      c.done.ensures,
      freed,
      gone.frees.answer,
    ) refl

pub returns : goal.returns
unfolding state_of told
returns c =
    let s = state_of c.args.k.now in
    let posts = c.post_to_all-n.ensures in
    λ z. rw (
      ← posts.number s refl,
      done_some c.args.b s z _ c.if-n-eq0.false,
      c.add_some.ensures.cells,
      c.add_some.ensures.marks,
      c.done-2.ensures,
      ← c.requires.block.2,
    ) (ap (λ t. answer t (done c.post_to_all-n.result 0) z) (posts.posts s refl))
