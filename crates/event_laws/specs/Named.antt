-- A turn at which a job whose names are held asks for its admission. (This profile)
use Rattle.std.specs.Prelude.{◌≡◌, ℕ, List, Option, Some}
use Rattle.jcl_plan.specs.declared.entry.Entry.{Entry}
use Rattle.jcl_plan.specs.declared.entry.JobLine.{JobLine}
use Rattle.jcl_plan.specs.declared.plan.JobPlan.{JobPlan}
use Rattle.jcl_meaning.specs.declared.state.Place.{Place}
use Rattle.world_meaning.specs.declared.event.Event.{Event}
use Rattle.world_meaning.specs.Admissions.{Admits, explained, fixed_at}
use Rattle.world_meaning.specs.Choices.{AtAdmission, Choice, choice_of}
use Rattle.world_meaning.specs.Lenses.{seen}
use Rattle.world_meaning.specs.Readings.{Denoting}
use Rattle.world_meaning.specs.Records.{Reopened}
use Rattle.world_meaning.specs.Transitions.{Transition, told_with}
use Rattle.world_meaning.specs.Worlds.{Initiator, IsAt, Named, Running, Shared, World, counted, with_running}
use Rattle.law_core.specs.Soundness.{IsSound}

-- The initiator at a place has such a job.
pub record AsksAt (old : World) : Type 0 where
  pub place : ℕ
  pub it : Initiator
  pub running : Running
  pub plan : JobPlan
  pub at : IsAt old place it
  pub runs : it.running ≡ Some running
  pub named : running.stage ≡ Named plan

-- The job is answered: by these lines, which the table has for it, and with what explains them.
pub record IsAnsweredAt (old : World) (at : AsksAt old) (lines : List Entry) (new : World) (choice : Choice) : Type 0 where
  pub told : List JobLine
  pub shared : Shared
  pub runs : Option Running
  pub admits : Admits old.config old.shared at.running at.plan told shared runs
  pub chosen : choice ≡ AtAdmission at.running.job at.plan admits.places told
  pub lines_so : lines ≡ told_with at.running.job told
      (explained old.config.explains (fixed_at old.config old.shared at.running.job at.plan admits.places) at.plan (seen at.running.job old.shared.store) told)
  pub reopened : Reopened old.config.layout shared new.shared
  pub rest : new ≡ record old { shared = new.shared; initiators = with_running old.initiators at.place at.it runs }

-- Of two transitions by one event, of which one answers a job, both answer the same job.
pub record BothAnswer (old : World) (lines more : List Entry) (one other : World) (choice choice_too : Choice) : Type 0 where
  pub at : AsksAt old
  pub first : IsAnsweredAt old at lines one choice
  pub second : IsAnsweredAt old at more other choice_too

abbrev pub AnswersMeet : Type 0
AnswersMeet = (job_of : Denoting) (w one other : World) (e : Event) (lines more : List Entry) → IsSound w → (t : Transition job_of w e lines one)
    (u : Transition job_of w e more other) → (job : ℕ) (plan : JobPlan) (places : List Place) (told : List JobLine) →
    choice_of t ≡ AtAdmission job plan places told → BothAnswer (counted w) lines more one other (choice_of t) (choice_of u)
