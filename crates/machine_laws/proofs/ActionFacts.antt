-- What is known of a job's action that an event is: what it did, with which answers, and what was told.
use Rattle.std.proofs.Common.{◌≡◌, ◌⊎◌, ℕ, suc, Bool, true, false, List, [], ◌∷◌, Option, Some, None, drop, refl, ap, ap₂, sym, subst, ◌∙◌, inl, inr, eq-eqb, if◌then◌else◌}
use Rattle.jcl_plan.specs.declared.entry.Entry.{Entry}
use Rattle.jcl_plan.specs.declared.entry.JobLine.{JobLine}
use Rattle.jcl_plan.specs.declared.plan.JobPlan.{JobPlan}
use Rattle.jcl_meaning.specs.declared.state.Own.{Own}
use Rattle.jcl_meaning.specs.Acts.{act}
use Rattle.jcl_meaning.specs.Agendas.{Action, agenda}
use Rattle.jcl_meaning.specs.States.{Answers, Fixed, State, cancel_due}
use Rattle.world_meaning.specs.declared.event.Event.{Event}
use Rattle.world_meaning.specs.declared.event.Event.TheVariants as event
use Rattle.world_meaning.specs.Choices.{AtAction, AtAdmission, Choice, Closed, choice_of, choice_of_acting, choice_of_advance, choice_of_event, choice_of_going, choice_of_turn}
use Rattle.world_meaning.specs.Lenses.{seen}
use Rattle.world_meaning.specs.Readings.{Denoting}
use Rattle.world_meaning.specs.Transitions.{Acts, Does, GoesOn, Transition, Turns, acts, past, taken, unknown, explained_by, told_with}
use Rattle.world_meaning.specs.Turns as turn
use Rattle.world_meaning.specs.Turns.{Advanced, Advances, advance, advanced, answers_due, granting, has_cancel, state_in}
use Rattle.world_meaning.specs.Worlds.{Admission, Admitted, Config, Initiator, Named, Running, Selected, Shared, Stage, Wanting, World, counted, of_job}
use Rattle.world_laws.proofs.Behind.{acted, here, writes_or_not}

pub record IsDone (cancel : Bool) (fixed : Fixed) (x : Advanced) (growth primary : Bool) : Type 0 where
  pub done : x.done ≡ act fixed x.action x.before
  pub grants : x.before.answers.grants ≡ growth ∷ []
  pub its_primary : x.before.answers.primary ≡ primary
  pub its_cancel : cancel_due x.before.answers.cancels x.before.own.lines ≡ cancel

pub record Did (answers : Action → Own → Answers) (fixed : Fixed) (x : Advanced) : Type 0 where
  pub done : x.done ≡ act fixed x.action x.before
  pub answers_so : x.before.answers ≡ answers x.action x.before.own

here_or : (answers : Action → Own → Answers) (fixed : Fixed) (a : Action) (rest : List Action) (s : State) (count : ℕ) (x : Advanced) →
    (here answers fixed a s count ≡ x) ⊎ (((acted answers fixed a s).lines ≡ []) × (advance answers fixed rest (acted answers fixed a s).state (suc count) ≡ Some x)) →
    (advance answers fixed rest (acted answers fixed a s).state (suc count) ≡ Some x → Did answers fixed x) → Did answers fixed x
here_or answers fixed a rest s count x (inl is) later = subst (Did answers fixed) is (record { done = refl; answers_so = refl })
here_or answers fixed a rest s count x (inr (silent, further)) later = later further

pub advance_did : (answers : Action → Own → Answers) (fixed : Fixed) (actions : List Action) (s : State) (count : ℕ) (x : Advanced) →
    advance answers fixed actions s count ≡ Some x → Did answers fixed x
unfolding advance
advance_did answers fixed [] s count x e = absurd cc
advance_did answers fixed (a ∷ rest) s count x e =
    here_or answers fixed a rest s count x
    (writes_or_not (acted answers fixed a s).lines (here answers fixed a s count) x (advance answers fixed rest (acted answers fixed a s).state (suc count)) e)
    (advance_did answers fixed rest (acted answers fixed a s).state (suc count) x)

cancelled_now : (b : Bool) (n : ℕ) → cancel_due ((if b then Some n else None) ∷ []) n ≡ b
cancelled_now true n = eq-eqb n n refl
cancelled_now false n = refl

is_done : (c : Config) (s : Shared) (job : ℕ) (plan : JobPlan) (a : Admission) (count : ℕ) (own : Own) (growth primary : Bool) (x : Advanced) →
    advanced c s job plan a count own growth primary ≡ Some x → IsDone (has_cancel s.cancels job) a.fixed x growth primary
is_done c s job plan a count own growth primary x e =
    let d : Did (answers_due c.programs plan.steps (granting s job growth primary)) a.fixed x =
    advance_did (answers_due c.programs plan.steps (granting s job growth primary)) a.fixed (drop count (agenda plan c.programs)) (state_in (seen job s.store) own) count x e in
    record {
      done = d.done;
      grants = ap (λ (z : Answers). z.grants) d.answers_so;
      its_primary = ap (λ (z : Answers). z.primary) d.answers_so;
      its_cancel = ap (λ (z : Answers). cancel_due z.cancels x.before.own.lines) d.answers_so ∙ cancelled_now (has_cancel s.cancels job) x.before.own.lines;
    }

-- of a job's turn, and of an event
abbrev FactsOf : Choice → ℕ → List JobLine → Type 0
FactsOf Closed r told = Unit {0}
FactsOf (AtAdmission job plan places lines) r told = Unit {0}
FactsOf (AtAction job cancel a x growth primary) r told = (job ≡ r) × (told ≡ x.done.lines) × IsDone cancel a.fixed x growth primary

abbrev pub ToldOf : Choice → List Entry → Type 0
ToldOf Closed lines = Unit {0}
ToldOf (AtAdmission job plan places told) lines = Unit {0}
ToldOf (AtAction job cancel a x growth primary) lines = (lines ≡ of_job job x.done.lines) × IsDone cancel a.fixed x growth primary

lifted : (c : Choice) (r : ℕ) (told : List JobLine) (lines : List Entry) → FactsOf c r told → lines ≡ of_job r told → ToldOf c lines
lifted Closed r told lines f e = tt
lifted (AtAdmission job plan places ls) r told lines f e = tt
lifted (AtAction job cancel a x growth primary) r told lines f e = (e ∙ ap₂ of_job (sym f.0) f.1, f.2)

at_advance : (c : Config) (old : Shared) (r : Running) (plan : JobPlan) (a : Admission) (count : ℕ) (own : Own) (lines : List JobLine) (new : Shared)
    (runs : Option Running) (g : Advances c old r plan a count own lines new runs) → FactsOf (choice_of_advance g) r.job lines
at_advance c old r plan a count own lines new runs (turn.waits x growth primary e must told same stays) = tt
at_advance c old r plan a count own lines new runs (turn.acts x growth primary free e granted further more told left conserved on) =
    (refl, told, is_done c old r.job plan a count own growth primary x e)
at_advance c old r plan a count own lines new runs (turn.ends x growth primary free e granted further last told left conserved off) = tt

-- at an action no path is shown
at_goes : (c : Config) (old : Shared) (r : Running) (told : List JobLine) (lines : List Entry) (new : Shared) (runs : Option Running) (stage : Stage)
    (g : GoesOn c old r stage told new runs) → lines ≡ told_with r.job told (explained_by c old r stage told new runs g) →
    ToldOf (choice_of_going c old r stage told new runs g) lines
at_goes c old r told lines new runs (Selected first) g e = tt
at_goes c old r told lines new runs (Wanting plan) g e = tt
at_goes c old r told lines new runs (Named plan) g e = tt
at_goes c old r told lines new runs (Admitted plan a count own) g e =
    lifted (choice_of_advance g) r.job told lines (at_advance c old r plan a count own told new runs g) e

at_acting : (old : World) (place : ℕ) (x : Initiator) (running : Option Running) (lines : List Entry) (new : World)
    (g : Acts old place x running lines new) → ToldOf (choice_of_acting old place x running lines new g) lines
at_acting old place x None lines new g = tt
at_acting old place x (Some r) lines new g = at_goes old.config old.shared r g.job_lines lines g.shared g.runs r.stage g.goes g.told

at_turn : (old : World) (number : ℕ) (lines : List Entry) (new : World) (g : Turns old number lines new) → ToldOf (choice_of_turn g) lines
at_turn old number lines new (unknown none told same) = tt
at_turn old number lines new (acts place x at numbered g) = at_acting old place x x.running lines new g

at_event : (job_of : Denoting) (old : World) (e : Event) (lines : List Entry) (new : World) (d : Does job_of old e lines new) →
    ToldOf (choice_of_event job_of old e lines new d) lines
at_event job_of old (event.Read deck) lines new d = tt
at_event job_of old (event.Turn number) lines new d = at_turn old number lines new d
at_event job_of old (event.DeviceEnd serial) lines new d = tt
at_event job_of old (event.Write class) lines new d = tt
at_event job_of old (event.Cancel job) lines new d = tt
at_event job_of old (event.Zap n offset bytes) lines new d = tt
at_event job_of old event.Display lines new d = tt
at_event job_of old (event.Date day) lines new d = tt

pub at_step : (job_of : Denoting) (old : World) (e : Event) (lines : List Entry) (new : World) (t : Transition job_of old e lines new) → ToldOf (choice_of t) lines
at_step job_of old e lines new (past many told same) = tt
at_step job_of old e lines new (taken few h) = at_event job_of (counted old) e lines h.middle h.does
