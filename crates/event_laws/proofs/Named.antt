-- Whichever job asks for its admission at an event, it is the same in each transition by it.
use Rattle.std.proofs.Common.{◌≡◌, ◌≢◌, ◌<◌, ℕ, List, Option, Some, None, arith, refl, sym, ap, ◌∙◌, subst}
use Rattle.jcl_plan.specs.declared.entry.Entry.{Entry}
use Rattle.jcl_plan.specs.declared.entry.JobLine.{JobLine}
use Rattle.jcl_plan.specs.declared.plan.JobPlan.{JobPlan}
use Rattle.jcl_meaning.specs.declared.state.Place.{Place}
use Rattle.machine_meaning.specs.declared.machine.TheConstants.{MOST_EVENTS}
use Rattle.world_meaning.specs.declared.event.Event.{Event}
use Rattle.world_meaning.specs.declared.event.Event.TheVariants as event
use Rattle.world_meaning.specs.Choices.{AtAdmission, Choice, choice_of, choice_of_acting, choice_of_advance, choice_of_event, choice_of_going, choice_of_turn}
use Rattle.world_meaning.specs.Readings.{Denoting}
use Rattle.world_meaning.specs.Records.{Reopened}
use Rattle.world_meaning.specs.Transitions.{Acts, Does, Goes, GoesOn, Transition, Turns, acts, explained_by, past, taken, told_with, unknown}
use Rattle.world_meaning.specs.Turns.{Advances}
use Rattle.world_meaning.specs.Turns as turn
use Rattle.world_meaning.specs.Worlds.{Admission, Admitted, Config, Initiator, IsAt, Named, Running, Selected, Shared, Stage, Wanting, World, counted}
use Rattle.jcl_meaning.specs.declared.state.Own.{Own}
use Rattle.world_laws.proofs.Beside.{one_there}
use Rattle.law_core.specs.Soundness.{IsSound}
use Rattle.event_laws.specs.Named.{AnswersMeet, AsksAt, IsAnsweredAt}
use Rattle.event_laws.proofs.Splits.{holds_at, one_place}

-- the event is the turn of the initiator that has the job
record IsAskedBy (w : World) (e : Event) : Type 0 where
  at : AsksAt (counted w)
  is : e ≡ event.Turn at.it.number

module _ (job : ℕ) (plan : JobPlan) (places : List Place) (told : List JobLine) where
  abbrev Asks : Choice → Type 0
  Asks choice = choice ≡ AtAdmission job plan places told

  no_advance : {c : Config} {old : Shared} {r : Running} {q : JobPlan} {a : Admission} {count : ℕ} {own : Own} {lines : List JobLine} {new : Shared}
      {runs : Option Running} (g : Advances c old r q a count own lines new runs) → Asks (choice_of_advance g) → ⊥
  no_advance (turn.waits x growth primary advances waits t same stays) is = cc
  no_advance (turn.acts x growth primary free advances granted goes on t left conserved runs) is = cc
  no_advance (turn.ends x growth primary free advances granted goes over t left conserved runs) is = cc

  -- a job that asks has its names
  asks_named : (c : Config) (old : Shared) (r : Running) (stage : Stage) (lines : List JobLine) (new : Shared) (runs : Option Running)
      (g : GoesOn c old r stage lines new runs) → Asks (choice_of_going c old r stage lines new runs g) → (q : JobPlan) × (stage ≡ Named q)
  asks_named c old r (Selected first) lines new runs g is = cc
  asks_named c old r (Wanting q) lines new runs g is = cc
  asks_named c old r (Named q) lines new runs g is = (q, refl)
  asks_named c old r (Admitted q a count own) lines new runs g is = absurd (no_advance g is)

  asked_at : (w : World) (place : ℕ) (x : Initiator) (o : Option Running) (lines : List Entry) (new : World) (g : Acts (counted w) place x o lines new) →
      IsAt w place x → x.running ≡ o → Asks (choice_of_acting (counted w) place x o lines new g) → IsAskedBy w (event.Turn x.number)
  asked_at w place x None lines new g at runs is = cc
  asked_at w place x (Some r) lines new g at runs is =
      let named = asks_named w.config w.shared r r.stage g.job_lines g.shared g.runs g.goes is in
      record { at = record { place = place; it = x; running = r; plan = named.0; at = at; runs = runs; named = named.1 }; is = refl }

  asked_turn : (w : World) (number : ℕ) (lines : List Entry) (new : World) (g : Turns (counted w) number lines new) → Asks (choice_of_turn g) →
      IsAskedBy w (event.Turn number)
  asked_turn w number lines new (unknown none t same) is = cc
  asked_turn w number lines new (acts place x at numbered g) is =
      subst (λ (n : ℕ). IsAskedBy w (event.Turn n)) numbered (asked_at w place x x.running lines new g at refl is)

  asked_by : (job_of : Denoting) (w : World) (e : Event) (lines : List Entry) (new : World) (d : Does job_of (counted w) e lines new) →
      Asks (choice_of_event job_of (counted w) e lines new d) → IsAskedBy w e
  asked_by job_of w (event.Read deck) lines new d is = cc
  asked_by job_of w (event.Turn number) lines new d is = asked_turn w number lines new d is
  asked_by job_of w (event.DeviceEnd serial) lines new d is = cc
  asked_by job_of w (event.Write class) lines new d is = cc
  asked_by job_of w (event.Cancel other) lines new d is = cc
  asked_by job_of w (event.Zap n offset bytes) lines new d is = cc
  asked_by job_of w event.Display lines new d is = cc
  asked_by job_of w (event.Date day) lines new d is = cc

-- what the turn of the initiator that has the job comes to
module _ (w : World) (s : IsSound w) (at : AsksAt (counted w)) (lines : List Entry) (middle new : World) (choice : Choice)
    (opened : Reopened middle.config.layout middle.shared new.shared) (rest : new ≡ record middle { shared = new.shared }) where
  abbrev old : World
  old = counted w

  -- the job goes on from a stage, with this choice and these lines
  record GoesFrom (told : List JobLine) (shared : Shared) (runs : Option Running) (stage : Stage) : Type 0 where
    goes : GoesOn old.config old.shared at.running stage told shared runs
    chosen : choice ≡ choice_of_going old.config old.shared at.running stage told shared runs goes
    lines_so : lines ≡ told_with at.running.job told (explained_by old.config old.shared at.running stage told shared runs goes)

  answered : (g : Goes old at.place at.it at.running lines middle) → choice ≡ choice_of_acting old at.place at.it (Some at.running) lines middle g →
      IsAnsweredAt old at lines new choice
  answered g is =
      let from : GoesFrom g.job_lines g.shared g.runs at.running.stage = record { goes = g.goes; chosen = is; lines_so = g.told } in
      let named : GoesFrom g.job_lines g.shared g.runs (Named at.plan) = subst (GoesFrom g.job_lines g.shared g.runs) at.named from in
      record {
        told = g.job_lines;
        shared = g.shared;
        runs = g.runs;
        admits = named.goes;
        chosen = named.chosen;
        lines_so = named.lines_so;
        reopened = subst (λ (m : World). Reopened m.config.layout m.shared new.shared) g.leaves opened;
        rest = rest ∙ ap (λ (m : World). record m { shared = new.shared }) g.leaves;
      }

  abbrev ActsFrom : ℕ → Initiator → Option Running → Type 0
  ActsFrom place x o = (g : Acts old place x o lines middle) × (choice ≡ choice_of_acting old place x o lines middle g)

  turn_answers : (g : Turns old at.it.number lines middle) → choice ≡ choice_of_turn g → IsAnsweredAt old at lines new choice
  turn_answers (unknown none t same) is = absurd (holds_at (λ y. y.number ≢ at.it.number) w.initiators at.place at.it none at.at refl)
  turn_answers (acts other y there so g) is =
      let one : other ≡ at.place = one_place (λ (z : Initiator). z.number) w.initiators at.place other at.it y s.initiators at.at there (sym so) in
      let it : y ≡ at.it = one_there w.initiators other at.place y at.it one there at.at in
      let here : ActsFrom at.place y y.running = subst (λ (k : ℕ). ActsFrom k y y.running) one (g, is) in
      let its : ActsFrom at.place at.it at.it.running = subst (λ (z : Initiator). ActsFrom at.place z z.running) it here in
      let has : ActsFrom at.place at.it (Some at.running) = subst (ActsFrom at.place at.it) at.runs its in
      answered has.0 has.1

module _ (job_of : Denoting) (w : World) (s : IsSound w) (at : AsksAt (counted w)) (few : w.events < MOST_EVENTS) where
  answers_by : (e : Event) (lines : List Entry) (new : World) → e ≡ event.Turn at.it.number → (t : Transition job_of w e lines new) →
      IsAnsweredAt (counted w) at lines new (choice_of t)
  answers_by e lines new is (past many t same) = absurd (omega arith)
  answers_by e lines new is (taken few_too h) = by e is h.does refl
    where
      by : (f : Event) → f ≡ event.Turn at.it.number → (d : Does job_of (counted w) f lines h.middle) →
          choice_of_event job_of (counted w) e lines h.middle h.does ≡ choice_of_event job_of (counted w) f lines h.middle d →
          IsAnsweredAt (counted w) at lines new (choice_of_event job_of (counted w) e lines h.middle h.does)
      by (event.Turn number) so d chosen =
          let same : number ≡ at.it.number = cc in
          let moved : (g : Turns (counted w) at.it.number lines h.middle) × (choice_of_event job_of (counted w) e lines h.middle h.does ≡ choice_of_turn g)
          = subst (λ (n : ℕ). (g : Turns (counted w) n lines h.middle) × (choice_of_event job_of (counted w) e lines h.middle h.does ≡ choice_of_turn g))
          same (d, chosen) in
          turn_answers w s at lines h.middle new (choice_of_event job_of (counted w) e lines h.middle h.does) h.reopened h.rest moved.0 moved.1
      by (event.Read deck) so d chosen = absurd cc
      by (event.DeviceEnd serial) so d chosen = absurd cc
      by (event.Write class) so d chosen = absurd cc
      by (event.Cancel job) so d chosen = absurd cc
      by (event.Zap n offset bytes) so d chosen = absurd cc
      by event.Display so d chosen = absurd cc
      by (event.Date day) so d chosen = absurd cc

pub answers_meet : AnswersMeet
answers_meet job_of w one other e lines more s (past many t same) u job plan places told is = cc
answers_meet job_of w one other e lines more s (taken few h) u job plan places told is =
    let asked : IsAskedBy w e = asked_by job plan places told job_of w e lines h.middle h.does is in
    record {
      at = asked.at;
      first = answers_by job_of w s asked.at few e lines one asked.is (taken few h);
      second = answers_by job_of w s asked.at few e more other asked.is u;
    }
