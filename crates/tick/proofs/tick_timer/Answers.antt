use native.Mathlib.Omega.{arith}
use Rattle.tick.proofs.Turns.{armed_ok, still_ready, turn_off, turn_less, turn_late, turn-fire}
use Rattle.tick.proofs.tick_timer.Goals as goal

pub returns-then-timer-eq0-clause-turned : goal.returns-then-timer-eq0-clause-turned
returns-then-timer-eq0-clause-turned c = λ s. turn_off _ _ _ _ s _ _ c.if-timer-eq0.true

pub returns-then-timer-gt1-clause-still_ready : goal.returns-then-timer-gt1-clause-still_ready
returns-then-timer-gt1-clause-still_ready c = still_ready _ _ _ c.requires.ready c.if-timer-eq0.false c.requires.few.0 _

pub returns-then-timer-gt1-clause-turned : goal.returns-then-timer-gt1-clause-turned
returns-then-timer-gt1-clause-turned c = λ s. turn_less _ _ _ _ s _ _ c.if-timer-eq0.false c.if-timer-gt1.true

pub overflow_sub-q : goal.overflow_sub-q
overflow_sub-q c = rw c.from-q.ensures (armed_ok _ _ _ c.requires.ready c.if-timer-eq0.false).low

pub bounds-depths-q : goal.bounds-depths-q
bounds-depths-q c = let a = armed_ok _ _ _ c.requires.ready c.if-timer-eq0.false in omega (arith, a.low, a.high, c.from-q.ensures)

pub bounds-mail-q : goal.bounds-mail-q
bounds-mail-q c = let a = armed_ok _ _ _ c.requires.ready c.if-timer-eq0.false in omega (arith, a.low, a.high, c.from-q.ensures)

pub returns-then-from-len-clause-turned : goal.returns-then-from-len-clause-turned
returns-then-from-len-clause-turned c =
    λ s. turn_late _ _ _ _ s _ _ c.if-timer-eq0.false c.if-timer-gt1.false (rw (c.from.ensures, c.len.ensures, c.from-q.ensures) at c.if-from-len.true)

pub returns-clause-still_ready : goal.returns-clause-still_ready
returns-clause-still_ready c = still_ready _ _ _ c.requires.ready c.if-timer-eq0.false c.requires.few.0 _

pub returns-clause-turned : goal.returns-clause-turned
returns-clause-turned c = λ s. rw c.from-q.ensures
    (turn-fire _ _ _ _ s _ _ c.if-timer-eq0.false c.if-timer-gt1.false
    (rw (c.from.ensures, c.len.ensures, c.from-q.ensures) at c.if-from-len.false)
    _ (rw (c.entry_of.ensures, c.from-q.ensures) at c.push_back.ensures))
