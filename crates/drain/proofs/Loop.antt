-- What the loop over the steps of one object keeps, and what that says of the next step and of the end.
use mathlib.Core.Bool.{true, false}
use mathlib.Core.List.{List}
use mathlib.Core.Path.{◌≡◌, refl, sym, ◌∙◌}
use Prim.Native.Nat.{ℕ, ◌+◌, ◌*◌, ◌-◌, ◌<◌, ◌≤◌, min}
use native.Mathlib.Omega.{arith}
use lib.ListN.{length, get_or}
use lib.Seq.{get_or-set_same}
use Rattle.bits.specs.Members.{width}
use Rattle.chart.specs.Flat.{place}
use Rattle.chart.specs.Held.{answer_at, is_sound, reading}
use Rattle.chart.specs.Numbers.{each, first_signal, row_size, slot_size}
use Rattle.chart.specs.declared.Reading.{Reading}
use Rattle.chart.specs.declared.read.Edition.{Edition}
use Rattle.machine.proofs.Run.{fit_now, fit_on, run_end, run_stop, run_step}
use Rattle.machine.specs.Charts.{slot_table}
use Rattle.machine.specs.Inv.{IsEvent}
use Rattle.machine.specs.Numbers.{edition_of, guarded_bytes, most_steps, objects, reply_bytes, table_bytes}
use Rattle.machine.specs.Reply.{over, ran, reply_of}
use Rattle.machine.specs.Run.{Fit, Run}
use Rattle.machine.specs.State.{State, rest_of}
use Rattle.machine.specs.Steps.{coming, to_run}
use Rattle.mail.specs.Box.{box_at}
use Rattle.mail.specs.Entry.{hand_of}
use Rattle.pool.specs.Row.{once_more}
use Rattle.drain.specs.Lent.{Above, FitOn, Generations, Lies, Looks, Ready, Runs, Sized, Stretch, flags_of, midway, run_at, run_on, seen_of, tables_of}
use Rattle.drain.specs.declared.Coming.{Coming}
use Rattle.drain.specs.declared.Fixed.{Fixed}
use Rattle.drain.proofs.Laws.{Finds, coming-is, finds, rows_lie, runs, seen_generations, table_long}
use Rattle.drain.proofs.Midway.{above_is, at_first, front-is, left_is, onward-is, sized_back, sized_on, top}

-- Step n of a run, in the midst of the steps of object p, which began at the run x and end with its mail or with the budget: what is left of
-- the run is what was left of x.
pub record Amid (f : Fixed) (bs : List (List ℕ)) (rs ts lg : List ℕ) (p budget from end rest n : ℕ) (x : Run) : Type 0 where
  pub low : 0 < p
  pub high : p ≤ objects
  pub most : budget ≤ most_steps
  pub long : length f.tables.now ≡ table_bytes
  pub long_guarded : length f.guarded.now ≡ guarded_bytes
  pub since : from ≤ n
  pub until : n ≤ end
  pub ends : end ≡ min (from + length (box_at bs (p - 1))) budget
  pub above : Above p bs
  pub sized : Sized (run_at bs rs ts lg n)
  pub fit : FitOn f (midway bs rs ts lg (p - 1) from rest n)
  pub same : run_on f (budget - n) (midway bs rs ts lg (p - 1) from rest n) ≡ run_on f (budget - x.steps) x

pub amid_first : (f : Fixed) (bs : List (List ℕ)) (rs ts lg : List ℕ) (p budget from end : ℕ) →
    Ready f p budget (run_at bs rs ts lg from) → end ≡ min (from + length (box_at bs (p - 1))) budget →
    Amid f bs rs ts lg p budget from end (get_or rs (p - 1) 0) from (run_at bs rs ts lg from)
amid_first f bs rs ts lg p budget from end r e =
    let first = at_first bs rs ts lg (p - 1) from in
    record {
      low = r.low;
      high = r.high;
      most = r.most;
      long = r.long;
      long_guarded = r.long_guarded;
      since = omega arith;
      until = rw e (omega (arith, r.within));
      ends = e;
      above = r.above;
      sized = r.sized;
      fit = rw first at r.fit;
      same = rw (← first) refl;
    }

module _ {f : Fixed} {bs : List (List ℕ)} {rs ts lg : List ℕ} {p budget from end rest n : ℕ} {x : Run}
    (a : Amid f bs rs ts lg p budget from end rest n x) where
  abbrev mid : Run
  mid = midway bs rs ts lg (p - 1) from rest n

  -- what the next step reads
  abbrev here : State
  here = seen_of f mid

  pub among : p - 1 < length bs
  among = omega (arith, a.low, a.high, a.sized.mail)

  -- All is written back: nothing is left of the run if the object still has mail.
  back : ((length (box_at mid.boxes (p - 1)) ≡ 0 → ⊥) → run_on f (budget - n) mid ≡ mid) → Stretch f p budget x mid
  back ended = record {
    sized = sized_back bs rs ts lg (p - 1) from rest n a.sized;
    within = omega (arith, a.until, a.ends);
    fit = a.fit;
    above = above_is bs p (n - from) among a.low a.above;
    same = a.same;
    ended = ended;
  }

  pub back-at-end : end ≤ n → Stretch f p budget x mid
  back-at-end h = back (λ ne. run_end _ _ _ _ _ _ n budget (omega (arith, ne, left_is bs p (n - from) among, a.since, a.ends)))

  pub left : n < end → n - from < length (box_at bs (p - 1))
  left before = omega (arith, a.since, a.ends)

  -- Before the end the object is the one that is to run, and the entry e is that of its event.
  module _ (before : n < end) (e : ℕ) (is : e ≡ get_or (box_at bs (p - 1)) (n - from) 0) where
    highest_now : p ≡ to_run here
    highest_now = top bs p (n - from) among a.low a.above (left before)

    fit_here : Fit here
    fit_here = fit_now _ _ _ _ _ _ a.fit (omega (arith, highest_now, a.low))

    event-is : hand_of e ≡ coming here
    event-is = coming-is here p highest_now e (is ∙ front-is bs p (n - from) among)

    pub is-event : IsEvent (hand_of e)
    is-event = rw event-is fit_here.event

    -- What is seen of the event, and found for it in the table t of the object's slot, of the edition d.
    module _ (l : Coming) (look : (s : State) → s.events.signals ≡ f.signals.now → Generations s f.gens.now → Looks s (hand_of e) l)
        (d : Edition) (o : d ≡ edition_of (get_or f.seats.now (p - 1) 0)) (t : List ℕ) (u : t ≡ slot_table (tables_of f) (get_or f.seats.now (p - 1) 0)) where
      looked : Looks here (coming here) l
      looked = rw event-is at (look here refl (seen_generations f.gens.now f.signals.now f.seats.now (flags_of f) mid))

      pub runs_here : Runs p l
      runs_here = runs here p a.high l looked fit_here

      rest-is : rest ≡ rest_of here p
      rest-is = sym (get_or-set_same rs (p - 1) rest 0 (omega (arith, a.low, a.high, a.sized.rests)))

      long : slot_size d ≤ length t
      long = table_long (tables_of f) _ d o t u (rw (← highest_now) at fit_here.seated) a.long (λ z. a.long_guarded)

      pub rows-here : (1 ≤ rest) × (first_signal ≤ l.signal) × (p < width) × (place d rest l.signal 0 + row_size * each d ≤ length t)
      rows-here =
          let r = rows_lie here (tables_of f) p highest_now fit_here l.signal looked.signal rest rest-is d o t u long in
          (r.0, r.1, omega (arith, a.high), r.2)

      module _ (found : Reading) (h : found ≡ reading d (flags_of f p) t (place d rest l.signal 0) (each d)) where
        finds_here : Finds here (tables_of f) t rest found
        finds_here = finds here (tables_of f) p highest_now fit_here l.signal looked.signal rest rest-is d o t u long found h (λ z. omega (arith, a.low))

        pub found-lies : Lies t found
        found-lies = finds_here.lies

        pub back_where_unsound : is_sound found ≡ false → Stretch f p budget x mid
        back_where_unsound k =
            let stops = finds_here.stops k in
            back (λ ne. run_stop _ _ _ _ _ _ _ (λ z. omega (arith, stops)))

        -- one step more
        pub amid_on : is_sound found ≡ true → (rest' : ℕ) → rest' ≡ (answer_at t rest found).next → (ts' : List ℕ) → ts' ≡ once_more ts l.first →
            (lg' : List ℕ) → lg' ≡ over lg (reply_bytes * n) (reply_of (ran p l.signal l.first l.generation (answer_at t rest found))) → length lg' ≡ length lg →
            Amid f bs rs ts' lg' p budget from end rest' (n + 1) x
        amid_on k rest' r ts' w lg' q m =
            let may = finds_here.steps k in
            let on = onward-is f bs rs ts lg p from rest n a.since highest_now l looked _ (finds_here.gives k) in
            record {
              low = a.low;
              high = a.high;
              most = a.most;
              long = a.long;
              long_guarded = a.long_guarded;
              since = omega (arith, a.since);
              until = omega arith;
              ends = a.ends;
              above = a.above;
              sized = rw w (sized_on bs rs ts lg lg' l.first n a.sized m);
              fit = rw (r, w, q, on) (fit_on _ _ _ _ _ _ may a.fit);
              same = rw (r, w, q, on) (sym (run_step _ _ _ _ _ _ n budget (omega (arith, a.ends)) may) ∙ a.same);
            }
