-- How the struct is read as the machine's state, and what a good kernel is.
use Rattle.std.specs.Prelude.{List, ℕ, Result}
use Rattle.chart.specs.Flags.{in_words}
use Rattle.machine.specs.Inv.{Inv}
use Rattle.machine.specs.Reply.{Areas, Answer, both}
use Rattle.machine.specs.State.{State}
use Rattle.mail.specs.Entry.{hand_of}
use Rattle.mail.specs.View.{boxes}
use Rattle.numbers.specs.declared.answer.Refusal.{Refusal}
use Rattle.pool.specs.View.{cells, marks}
use Rattle.reply.specs.Said.{said}
use Rattle.state.specs.declared.Kernel.{Kernel}
use Rattle.tick.specs.Timers.{timers_of}

unfoldable pub state_of : Kernel → State
state_of k = record {
  cells = cells k.pool;
  marks = marks k.pool;
  events = record { signals = k.signals; sizes = k.sizes; holds = k.holds };
  boxes = boxes k.mail;
  sides = boxes k.sides;
  objects = record { depths = k.depths; rests = k.rests; seats = k.seats };
  wants = k.wants;
  flags = in_words k.flags;
  loaded = k.loaded;
  timers = timers_of k.timers;
  hand = hand_of k.hand;
}

-- It came from a fresh start through earlier commands, as far as a command relies on that.
abbrev pub Good : Kernel → Type 0
Good k = Inv (state_of k)

abbrev pub areas : List ℕ → List ℕ → List ℕ → List ℕ → Areas
areas p t g l = record { payloads = p; tables = both t g; log = l }

-- The kernel and the reply that a command leaves, with the areas as it left them.
unfoldable pub told : Kernel → List ℕ → Areas → Answer
told k reply z = record { state = state_of k; reply = reply; areas = z }

-- The same, of a command's code that answers with its reply or a refusal.
abbrev pub outcome : Kernel → Result (List ℕ) Refusal → Areas → Answer
outcome k r = told k (said r)
