use mathlib.Core.Path.{◌≡◌, sym, ◌∙◌}
use Prim.Native.Nat.{◌<◌, ◌≤◌}
use Rattle.pool.specs.View.{cells}
use native.Mathlib.Omega.{arith}
use lib.ListN.{length, get_or}
use Rattle.ground.specs.Tab.{length-tab, get_or-tab}
use Rattle.machine.specs.Run.{block_of, blocks_in}
use Rattle.mail.specs.Entry.{hand_of}
use Rattle.mail.specs.View.{entries}
use Rattle.pool.specs.Laws.{gone_turn, gone_end}
use Rattle.aside.proofs.let_go_each.Goals as goal

pub loop-i-preserved : goal.loop-i-preserved
loop-i-preserved c =
    let l = entries c.args.side.now in
    let i = c.loop-i.i in
    let within : i < length l = omega arith in
    let block : get_or (blocks_in l) i 0 ≡ block_of (hand_of (get_or l i 0)) = get_or-tab _ (length l) i 0 within in
    let turn = gone_turn (cells c.loop-i.pool) (blocks_in l) i (rw length-tab within) in
    record {
      cells = rw (c.let_go.ensures.frees.row, c.from.ensures, c.block_of.ensures, c.hand_of.ensures, c.entry.ensures, ← block, ← turn) c.loop-i.invariant.cells;
      marks = c.let_go.ensures.marks ∙ c.loop-i.invariant.marks;
    }

pub returns : goal.returns
returns c =
    let l = entries c.args.side.now in
    let past : length (blocks_in l) ≤ c.loop-i.i = rw length-tab (omega arith) in
    record { cells = sym (gone_end (cells c.loop-i.pool) (blocks_in l) c.loop-i.i past) ∙ c.loop-i.invariant.cells; marks = c.loop-i.invariant.marks }
