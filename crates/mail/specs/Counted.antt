-- What a ring counts is how many entries it has.
use mathlib.Core.List.{List}
use Rattle.std.specs.Prelude.{◌≡◌, ℕ, ◌-◌, ◌<◌, length, get_or}
use Rattle.std.proofs.Math.Path.{ap}
use Rattle.std.proofs.Common.{◌∙◌}
use Rattle.ground.specs.Tab.{length-tab}
use Rattle.mail.specs.Box.{box_at, highest}
use Rattle.mail.specs.Inside.{entries, boxes, entry_at, ring}
use Rattle.mail.specs.View.{boxes_at, highest-mail, no_ring}
use Rattle.mail.specs.declared.Ring.{Ring}

pub entries_length : (r : Ring) → length (entries r) ≡ r.count
unfolding entries ring
entries_length r = length-tab (entry_at r.places r.head) r.count

module _ (rings : List Ring) where
  -- a mailbox is as long as its count; both are 0 where there is no such object
  pub queued_in : (q : ℕ) → length (box_at (boxes rings) q) ≡ (get_or rings q no_ring).count
  queued_in q = ap length (boxes_at rings q) ∙ entries_length (get_or rings q no_ring)

  -- what `highest` finds, if anything, has a count
  pub highest-count : (p : ℕ) → p ≡ highest (boxes rings) → 0 < p → 0 < (get_or rings (p - 1) no_ring).count
  highest-count p e l = rw entries_length at (highest-mail rings p e l)
