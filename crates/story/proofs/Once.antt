-- Document 02, request 7: no handle comes back. A block's turn goes up and never down, and every handle belongs to one turn.
use mathlib.Core.Bool.{true, false}
use mathlib.Core.Path.{◌≡◌, refl, sym}
use Prim.Native.Nat.{ℕ, ◌+◌, ◌*◌, ◌≤◌, ◌<◌}
use native.Mathlib.Omega.{arith}
use borrow.Author.Tests.{ne_eqb}
use Rattle.ground.specs.Bools.{no_yes}
use Rattle.pool.specs.Cell.{Cell, free, live, retired, absent, is_free, generation_of, stale_for}
use Rattle.pool.specs.Row.{stale_at}
use Rattle.machine.specs.Inv.{is_live}
use Rattle.machine.specs.Reply.{STALE}
use Rattle.story.specs.Calls.{Call, Story, then}
use Rattle.story.specs.Demands.{HandedOnce, OldRefused, StaysRetired}
use Rattle.story.specs.Table.{NEW, applies, line, table_of}
use Rattle.story.specs.Terms.{event, generation, Did, applies_to, cell, GoesOn, Names}
use Rattle.story.proofs.Cells.{Keeps, moves_retired}
use Rattle.story.proofs.Counting.{handed}
use Rattle.story.proofs.Lasting.{goes_on, turned}
use Rattle.story.proofs.Refusals.{applying}

-- How often a block was handed out or went back: twice its generation, one more while it is live, two more once it is retired.
unfoldable turn : Cell → ℕ
turn (free g) = 2 * g
turn (live g n) = 2 * g + 1
turn (retired g) = 2 * g + 2
turn absent = 0

turn_kept : (n : ℕ) → Keeps (λ c. n ≤ turn c)
unfolding turn
turn_kept n = record { handed = λ g h. omega arith; counted = λ g k m h. h; retires = λ g k l h. omega arith; frees = λ g k l h. omega arith }

-- a block that was live at generation g: free, it has a later one; not live, that turn is over; and then the handle is stale
free_later : (c : Cell) (g : ℕ) → 2 * g + 1 ≤ turn c → is_free c ≡ true → g < generation_of c
unfolding turn is_free generation_of
free_later (free x) g l f = omega arith
free_later (live x n) g l f = no_yes f
free_later (retired x) g l f = no_yes f
free_later absent g l f = no_yes f

turn-over : (c : Cell) (g : ℕ) → 2 * g + 1 ≤ turn c → is_live c ≡ false → 2 * g + 2 ≤ turn c
unfolding turn is_live
turn-over (free x) g l e = omega arith
turn-over (live x n) g l e = no_yes (sym e)
turn-over (retired x) g l e = omega arith
turn-over absent g l e = omega arith

over-stale : (c : Cell) (g : ℕ) → 2 * g + 2 ≤ turn c → stale_for c g ≡ true
unfolding turn stale_for
over-stale (free x) g l = refl
over-stale (live x n) g l = rw (ne_eqb x g (λ e. omega arith)) refl
over-stale (retired x) g l = refl
over-stale absent g l = refl

-- A block that a NEW handed out.
module _ (h : Story) (c : Call) (did : Did NEW h c) where
  abbrev b : ℕ
  b = event h c

  abbrev g : ℕ
  g = generation h c

  live_since : (later : Story) → GoesOn (then h c) later → 2 * g + 1 ≤ turn (cell later b)
  unfolding turn
  live_since later on =
      let w = handed h c did in
      goes_on (λ x. 2 * g + 1 ≤ turn x) (turn_kept (2 * g + 1)) b (then h c) later on (rw w.2 (omega (arith, w.1)))

pub handed_once : HandedOnce
handed_once h c did later on d again same_block same-generation =
    let w = handed later d again in
    let f = free_later (cell later (event h c)) (generation h c) (live_since h c did later on) (rw (← same_block) w.0.free_there) in
    let e : generation later d ≡ generation_of (cell later (event h c)) = rw (← same_block) w.1 in
    omega arith

-- a call that names a handle whose turn is over
names_stale : (later : Story) (d : Call) (b g : ℕ) → Names d b g → 2 * g + 2 ≤ turn (cell later b) → applies_to later d STALE ≡ true
unfolding applies line table_of stale_at
names_stale later d b g n l = rw (n.command, n.block, n.generation, over-stale (cell later b) g l) refl

pub old_refused : OldRefused
old_refused h c did gone since dead later on d names =
    let b = event h c in
    let g = generation h c in
    let ended = turn-over (cell gone b) g (live_since h c did gone since) dead in
    applying later d STALE (names_stale later d b g names (goes_on (λ x. 2 * g + 2 ≤ turn x) (turn_kept (2 * g + 2)) b gone later on ended))

pub stays_retired : StaysRetired
stays_retired h c b r = moves_retired _ _ _ _ (turned h c b) r
