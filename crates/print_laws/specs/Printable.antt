-- Stores, plans, programs and what is a job's own, of printable characters. (This profile)
use Rattle.std.specs.Prelude.{ℕ, List, [], ◌∷◌, IfSome, All}
use Rattle.jname_core.specs.declared.key.Key.{Key}
use Rattle.jname_core.specs.declared.key.Key.TheVariants.{Named, Relative, Temporary, Unnamed}
use Rattle.group_core.specs.declared.entry.CatEntry.{CatEntry}
use Rattle.group_core.specs.declared.entry.CatEntry.TheVariants.{Group, Volume}
use Rattle.jcl_plan.specs.declared.plan.DdKind.{DdKind}
use Rattle.jcl_plan.specs.declared.plan.DdKind.TheVariants.{Cards, Dummy, Set, Sysout}
use Rattle.jcl_plan.specs.declared.plan.DdPlan.{DdPlan}
use Rattle.jcl_plan.specs.declared.plan.JobPlan.{JobPlan}
use Rattle.jcl_plan.specs.declared.plan.StepPlan.{StepPlan}
use Rattle.jcl_plan.specs.declared.plan.VolumePlan.{VolumePlan}
use Rattle.jcl_plan.specs.declared.plan.VolumePlan.TheVariants as volume
use Rattle.jcl_meaning.specs.declared.program.Move.{Move}
use Rattle.jcl_meaning.specs.declared.program.Move.TheVariants.{From, To}
use Rattle.jcl_meaning.specs.declared.program.Request.{Request}
use Rattle.jcl_meaning.specs.declared.program.Request.TheVariants.{Abend, End, Get, Put}
use Rattle.jcl_meaning.specs.declared.program.SoloProgram.{SoloProgram}
use Rattle.jcl_meaning.specs.declared.state.DdState.{DdState}
use Rattle.jcl_meaning.specs.declared.state.Due.{Due}
use Rattle.jcl_meaning.specs.declared.state.Due.TheVariants as due
use Rattle.jcl_meaning.specs.declared.state.Output.{Output}
use Rattle.jcl_meaning.specs.declared.state.Own.{Own}
use Rattle.jcl_meaning.specs.declared.store.DataSet.{DataSet}
use Rattle.jcl_meaning.specs.Agendas.{Action, Ask, Dispose, Finish, Left, Over, Receive, Start, Take}
use Rattle.jcl_meaning.specs.States.{Done, Fixed}
use Rattle.jcl_meaning.specs.Stores.{Store}
use Rattle.line_laws.specs.Printable.{IsPrintable, IsPrintableLine, IsPrintableName}

-- a set's records, and the serials of a catalog's entry
abbrev pub IsPrintableSet : DataSet → Type 0
IsPrintableSet d = All IsPrintable d.records

abbrev pub IsPrintableCatEntry : CatEntry → Type 0
IsPrintableCatEntry (Volume serial) = IsPrintable serial
IsPrintableCatEntry (Group g) = All (λ x. IsPrintable x.serial) g.generations

pub record IsPrintableStore (s : Store) : Type 0 where
  pub sets : (key : Key) (serial : List ℕ) → IfSome (s.set key serial) IsPrintableSet
  pub entries : (name : List ℕ) → IfSome (s.catalog name) IsPrintableCatEntry

-- programs
abbrev pub IsPrintableRequest : Request → Type 0
IsPrintableRequest (Get dd) = IsPrintable dd
IsPrintableRequest (Put dd text) = IsPrintable dd × IsPrintable text
IsPrintableRequest (End code) = Unit {0}
IsPrintableRequest (Abend code) = Unit {0}

abbrev pub ArePrintablePrograms : List SoloProgram → Type 0
ArePrintablePrograms programs = All (λ program. All IsPrintableRequest program.requests) programs

abbrev pub IsPrintableMove : Move → Type 0
IsPrintableMove (From dd) = IsPrintable dd
IsPrintableMove (To dd text) = IsPrintable dd × IsPrintable text

-- plans
abbrev pub IsPrintableKey : Key → Type 0
IsPrintableKey (Named name) = IsPrintable name
IsPrintableKey (Relative base sign amount) = IsPrintable base
IsPrintableKey (Temporary name) = Unit {0}
IsPrintableKey (Unnamed step dd) = Unit {0}

abbrev pub IsPrintableVolume : VolumePlan → Type 0
IsPrintableVolume volume.NotCoded = Unit {0}
IsPrintableVolume (volume.Serial serial) = IsPrintable serial
IsPrintableVolume (volume.OfName name) = IsPrintable name
IsPrintableVolume (volume.OfDd step dd) = Unit {0}

abbrev pub IsPrintableKind : DdKind → Type 0
IsPrintableKind (Set p) = IsPrintableKey p.key × IsPrintableVolume p.volume
IsPrintableKind Dummy = Unit {0}
IsPrintableKind (Sysout class) = IsPrintable (class ∷ [])
IsPrintableKind (Cards cards) = All IsPrintable cards

abbrev pub IsPrintableDd : DdPlan → Type 0
IsPrintableDd d = IsPrintableName d.name × IsPrintableKind d.kind

pub record IsPrintableStep (step : StepPlan) : Type 0 where
  pub name : IsPrintableName step.name
  pub procedure_step : IsPrintableName step.procedure_step
  pub dds : All IsPrintableDd step.dds

pub record IsPrintablePlan (plan : JobPlan) : Type 0 where
  pub name : IsPrintable plan.name
  pub class : IsPrintable (plan.class ∷ [])
  pub message_class : IsPrintable (plan.message_class ∷ [])
  pub steps : All IsPrintableStep plan.steps

abbrev pub IsPrintableAction : Action → Type 0
IsPrintableAction (Start n step) = IsPrintableStep step
IsPrintableAction (Take n dd d) = IsPrintableDd d
IsPrintableAction (Ask step move) = IsPrintableStep step × IsPrintableMove move
IsPrintableAction Receive = Unit {0}
IsPrintableAction (Finish n) = Unit {0}
IsPrintableAction (Dispose n dd d) = IsPrintableDd d
IsPrintableAction (Left n dd d) = IsPrintableDd d
IsPrintableAction Over = Unit {0}

-- what is fixed for a job, and what is its own
pub record IsPrintableFixed (fixed : Fixed) : Type 0 where
  pub volumes : All IsPrintable fixed.volumes
  pub places : All (λ p. IsPrintable p.serial) fixed.places

pub record IsPrintableState (x : DdState) : Type 0 where
  pub name : IsPrintableName x.name
  pub taken : IfSome x.taken (λ t. IsPrintable t.serial)
  pub spooled : All IsPrintable x.spooled

abbrev pub IsPrintableDue : Due → Type 0
IsPrintableDue (due.Data name text) = IsPrintable name × IsPrintable text
IsPrintableDue (due.Put name dd text) = IsPrintable name × IsPrintable text

pub record IsPrintableOutput (o : Output) : Type 0 where
  pub class : IsPrintable (o.class ∷ [])
  pub records : All IsPrintable o.records

pub record IsPrintableOwn (own : Own) : Type 0 where
  pub passed : All (λ p. IsPrintable p.serial) own.passed
  pub volumes : All (λ v. IsPrintable v.serial) own.volumes
  pub outputs : All IsPrintableOutput own.outputs
  pub dds : All IsPrintableState own.dds
  pub due_now : IfSome own.due IsPrintableDue

-- what an action did
pub record IsPrintableDone (d : Done) : Type 0 where
  pub lines : All IsPrintableLine d.lines
  pub store : IsPrintableStore d.state.store
  pub own : IsPrintableOwn d.state.own
