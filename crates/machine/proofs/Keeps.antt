-- Every command keeps the invariant.
use mathlib.Core.List.{List}
use Prim.Native.Nat.{ℕ}
use Rattle.machine.proofs.Dispatch.{answer_all}
use Rattle.machine.proofs.KeepsAside.{defer_keeps, recall_keeps, flush_keeps}
use Rattle.machine.proofs.KeepsCharts.{load_keeps, start_keeps, flag_keeps}
use Rattle.machine.proofs.KeepsClocks.{arm_keeps, disarm_keeps, tick_keeps}
use Rattle.machine.proofs.KeepsEvents.{
  new_keeps,
  post_keeps,
  post_front_keeps,
  publish_keeps,
  subscribe_keeps,
  unsubscribe_keeps,
  hold_keeps,
  release_keeps,
  drop_event_keeps,
  read_keeps,
}
use Rattle.machine.proofs.KeepsSteps.{next_keeps, end_keeps, drain_keeps}
use Rattle.machine.specs.Inv.{Inv}
use Rattle.machine.specs.Machine.{answer_to}
use Rattle.machine.specs.Reply.{Areas, Answer}
use Rattle.machine.specs.State.{State}

pub keeps : (s : State) (r d : List ℕ) (z : Areas) → Inv s → Inv (answer_to s r d z).state
keeps s r d z i = answer_all Kept r d s z (record {
  load = λ spoilt. load_keeps s z i d spoilt _;
  start = start_keeps s z i;
  new = new_keeps s z i;
  post = post_keeps s z i;
  post_front = post_front_keeps s z i;
  publish = publish_keeps s z i;
  subscribe = subscribe_keeps s z i;
  unsubscribe = unsubscribe_keeps s z i;
  hold = hold_keeps s z i;
  release = release_keeps s z i;
  drop_event = drop_event_keeps s z i;
  next = next_keeps s z i;
  end = end_keeps s z i;
  arm = arm_keeps s z i;
  disarm = disarm_keeps s z i;
  tick = tick_keeps s z i;
  read = read_keeps s z i;
  drain = drain_keeps s z i;
  defer = defer_keeps s z i;
  recall = recall_keeps s z i;
  flush = flush_keeps s z i;
  flag = flag_keeps s z i;
  form = i;
})
  where
    Kept : Answer → Type 0
    Kept a = Inv a.state
