-- What an action reads of a step and of a DD.
use Rattle.std.specs.Prelude.{ℕ, false, List, [], length, Option, Some, None}
use Rattle.jname_core.specs.declared.key.Key.TheVariants.{Unnamed}
use Rattle.jcl_plan.specs.declared.plan.DdKind.{DdKind}
use Rattle.jcl_plan.specs.declared.plan.DdKind.TheVariants as kind
use Rattle.jcl_plan.specs.declared.plan.Expiry.TheVariants as expiry
use Rattle.jcl_plan.specs.declared.plan.SetPlan.{SetPlan}
use Rattle.jcl_plan.specs.declared.plan.Space.{Space}
use Rattle.jcl_plan.specs.declared.plan.Status.TheVariants.{Old}
use Rattle.jcl_plan.specs.declared.plan.StepPlan.{StepPlan}
use Rattle.jcl_plan.specs.declared.plan.VolumePlan.TheVariants as volume
use Rattle.jcl_meaning.specs.Takes.{releases, secondary_of}
use Rattle.job_text.specs.declared.texts.DispSet.{DispSet}
use Rattle.job_text.specs.declared.texts.DispText.{DispText}
use Rattle.job_text.specs.declared.texts.DispText.TheVariants as disp
use Rattle.job_text.specs.declared.texts.PutSet.{PutSet}
use Rattle.job_text.specs.declared.texts.PutText.{PutText}
use Rattle.job_text.specs.declared.texts.PutText.TheVariants as put
use Rattle.job_text.specs.declared.texts.TakeSet.{TakeSet}
use Rattle.job_text.specs.declared.texts.TakeText.{TakeText}
use Rattle.job_text.specs.declared.texts.TakeText.TheVariants as take
use Rattle.job_text.specs.declared.texts.SourceText.{SourceText}
use Rattle.job_text.specs.declared.texts.SourceText.TheVariants as source
use Rattle.job_text.specs.declared.texts.StepText.{StepText}

-- what its taking reads: of cards their number
abbrev pub primary_in : Option Space → Option ℕ
primary_in None = None
primary_in (Some space) = Some space.primary

abbrev pub take_set : SetPlan → TakeSet
take_set p = record { status = p.status; volume = p.volume; primary = primary_in p.space; expiry = p.expiry }

abbrev pub take_text : DdKind → TakeText
take_text (kind.Sysout class) = take.Sysout class
take_text kind.Dummy = take.Dummy
take_text (kind.Cards cards) = take.Cards (length cards)
take_text (kind.Set p) = take.Set (take_set p)

-- what a PUT to it reads: 0 tracks where no SPACE is coded
abbrev pub put_set : SetPlan → PutSet
put_set p = record { status = p.status; secondary = secondary_of p.space }

abbrev pub put_text : DdKind → PutText
put_text (kind.Sysout class) = put.Sysout
put_text kind.Dummy = put.Dummy
put_text (kind.Cards cards) = put.Cards
put_text (kind.Set p) = put.Set (put_set p)

-- what its disposition and the job's end read
abbrev pub disp_set : SetPlan → DispSet
disp_set p = record { normal = p.normal; conditional = p.conditional; release = releases p.space }

abbrev pub disp_text : DdKind → DispText
disp_text (kind.Sysout class) = disp.Sysout class
disp_text kind.Dummy = disp.Nothing
disp_text (kind.Cards cards) = disp.Nothing
disp_text (kind.Set p) = disp.Set (disp_set p)

-- a set of which no more is known than what was read
abbrev pub any_set : SetPlan
any_set = record {
  key = Unnamed 0 0;
  status = Old;
  normal = None;
  conditional = None;
  volume = volume.NotCoded;
  units = None;
  space = None;
  expiry = expiry.NotCoded;
}

abbrev pub space_as : Option ℕ → Option Space
space_as None = None
space_as (Some primary) = Some (record { primary = primary; secondary = 0; release = false })

abbrev pub take_as : TakeSet → SetPlan
take_as t = record any_set { status = t.status; volume = t.volume; space = space_as t.primary; expiry = t.expiry }

abbrev pub put_as : PutSet → SetPlan
put_as t = record any_set { status = t.status; space = Some (record { primary = 0; secondary = t.secondary; release = false }) }

abbrev pub disp_as : DispSet → SetPlan
disp_as t = record any_set { normal = t.normal; conditional = t.conditional; space = Some (record { primary = 0; secondary = 0; release = t.release }) }

-- what a GET may read of it
abbrev pub source_text : DdKind → SourceText
source_text (kind.Sysout class) = source.Nothing
source_text kind.Dummy = source.Nothing
source_text (kind.Cards cards) = source.Cards (length cards)
source_text (kind.Set p) = source.Set

abbrev pub step_text : StepPlan → StepText
step_text step = record { name = step.name; procedure_step = step.procedure_step; program = step.program; after_abend = step.after_abend }

-- the cards of a DD; one that is no input from the deck has none
abbrev pub cards_in : DdKind → List (List ℕ)
cards_in (kind.Sysout class) = []
cards_in kind.Dummy = []
cards_in (kind.Cards cards) = cards
cards_in (kind.Set p) = []
