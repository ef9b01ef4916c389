use Rattle.std.proofs.Common.{◌≡◌, ◌+◌, length, drop}
use Rattle.frame.specs.Stores.{stored}
use Rattle.frame.specs.Wire.{sent_all}
use Rattle.frame.proofs.writer.put_all.Given as goal

-- What is left to write, from `next` on, makes what the whole makes.
abbrev pub invariant-loop-b : goal.invariant-loop-b
invariant-loop-b l =
    (l.next + length (sent_all (drop l.b-index l.bytes)) ≡ l.at + length (sent_all l.bytes))
    × (stored l.out l.next (sent_all (drop l.b-index l.bytes)) ≡ stored l.initial.out l.at (sent_all l.bytes))
