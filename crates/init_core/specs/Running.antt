-- A job at an initiator, as the machine's definitions have it.
use Rattle.std.specs.Prelude.{◌≡◌, ◌≢◌, ℕ, ◌≤◌, List, [], ◌∷◌, ◌++◌, drop, length, Option, Some, None, All}
use Rattle.std.specs.List.{Contains}
use Rattle.enq_core.specs.declared.table.Hold.{Hold}
use Rattle.enq_core.specs.Holds.{HoldsNone}
use Rattle.jcl_plan.specs.declared.entry.JobLine.{JobLine}
use Rattle.jcl_meaning.specs.declared.state.DdState.{DdState}
use Rattle.jcl_meaning.specs.declared.state.TakenSet.{TakenSet}
use Rattle.cb_meaning.specs.declared.layout.Layout.{Layout}
use Rattle.cb_meaning.specs.Layouts.{HasOwnFields}
use Rattle.cb_queue.specs.RecordQueues.{RecordQueue}
use Rattle.world_meaning.specs.Holdings.{wants_of}
use Rattle.world_meaning.specs.Worlds as world
use Rattle.world_meaning.specs.Worlds.{Config}
use Rattle.turn_core.specs.Standing.{Stands, count_at}
use Rattle.turn_core.specs.declared.walk.Walk.{Walk}
use Rattle.place_core.specs.Placings.{serials_of}
use Rattle.admit_core.specs.Admissions.{fixed_for, given_to, is_assured, named_of}
use Rattle.admit_core.specs.declared.admission.AdmittedJob.{AdmittedJob}
use Rattle.machine_core.specs.declared.parts.Parts.{Parts}
use Rattle.init_core.specs.declared.running.Profile.{Profile}
use Rattle.init_core.specs.declared.running.Progress.{Progress}
use Rattle.init_core.specs.declared.running.Progress.TheVariants.{Answered, GoesOn, Over}
use Rattle.init_core.specs.declared.running.Running.{Running}
use Rattle.init_core.specs.declared.running.Stage.{Stage}
use Rattle.init_core.specs.declared.running.Stage.TheVariants.{Admitted, Named, Selected, Wanting}
use Rattle.init_core.specs.declared.running.Told.{Told}

-- the configuration, with the layout of the queue's records
abbrev pub config_of : Profile → Layout → Config
config_of p layout = record {
  volumes = p.volumes.now;
  units = p.units.now;
  programs = p.programs.now;
  layout = layout;
  refuses = p.refuses;
  most_views = p.most_views;
  explains = p.explains;
}

abbrev pub shown_admission : Config → AdmittedJob → world.Admission
shown_admission c job = record { fixed = fixed_for c.volumes (named_of job).plan (given_to job); assured = is_assured job }

abbrev pub shown_stage : Config → Walk → Stage → world.Stage
shown_stage c walk (Selected first) = world.Selected first
shown_stage c walk (Wanting plan wants) = world.Wanting plan
shown_stage c walk (Named job) = world.Named job.plan
shown_stage c walk (Admitted job) =
    world.Admitted (named_of job).plan (shown_admission c job) (count_at (named_of job).plan c.programs walk.todo) walk.course.own

abbrev pub shown_running : Config → RecordQueue → Running → world.Running
shown_running c queue r = record { job = r.job; listing = r.walk.course.lines; stage = shown_stage c r.walk r.stage }

-- what a turn left the job with, and the lines that it wrote
abbrev pub runs_after : Progress → Option Running
runs_after (GoesOn r from) = Some r
runs_after (Answered r told) = Some r
runs_after (Over before last) = None

abbrev pub told_before : Option Told → List JobLine
told_before None = []
told_before (Some told) = told.line ∷ []

abbrev pub lines_told : Progress → List JobLine
lines_told (GoesOn r from) = drop from r.walk.course.lines
lines_told (Answered r told) = told.line ∷ []
lines_told (Over before last) = told_before before ++ last ∷ []

-- and those that explain the first of them
abbrev pub path_before : Option Told → List JobLine
path_before None = []
path_before (Some told) = told.path

abbrev pub path_told : Progress → List JobLine
path_told (GoesOn r from) = []
path_told (Answered r told) = told.path
path_told (Over before last) = path_before before

-- the set that a DD took, if it took one, is on a configured volume
abbrev pub IsTakenOn : List (List ℕ) → Option TakenSet → Type 0
IsTakenOn volumes None = Unit {0}
IsTakenOn volumes (Some t) = Contains volumes t.serial

abbrev pub AreOn : List (List ℕ) → List DdState → Type 0
AreOn volumes dds = All (λ x. IsTakenOn volumes x.taken) dds

-- what holds of an admitted job: its place is one of its agenda, and its sets are on configured volumes
pub record IsUnderWay (c : Config) (job : AdmittedJob) (walk : Walk) : Type 0 where
  pub stands : Stands (named_of job).plan c.programs walk.todo
  pub on : AreOn c.volumes walk.course.own.dds

-- What holds of a job at an initiator, by how far this is with it.
abbrev pub IsAt : Config → List Hold → ℕ → Walk → Stage → Type 0
IsAt c holds job walk (Selected first) = HoldsNone holds job
IsAt c holds job walk (Wanting plan wants) = HoldsNone holds job × (wants ≡ wants_of plan)
IsAt c holds job walk (Named named) = named.held ≡ job
IsAt c holds job walk (Admitted admitted) = ((named_of admitted).held ≡ job) × IsUnderWay c admitted walk

pub record IsReady (c : Config) (holds : List Hold) (r : Running) : Type 0 where
  pub some : r.job ≢ 0
  pub at : IsAt c holds r.job r.walk r.stage

-- What holds of the parts between two events: the volumes are those that are configured, sixteen at most, the layout too, and operations are on these
-- volumes.
pub record IsGood {Q : Type 0} (queue_of : Q → RecordQueue) (c : Config) (p : Parts Q) : Type 0 where
  pub volumes : serials_of p.store.volumes ≡ c.volumes
  pub layout : (queue_of p.queue).layout ≡ c.layout
  pub fields : HasOwnFields c.layout
  pub operations : All (λ o. Contains c.volumes o.serial) p.units
  pub few : length c.volumes ≤ 16
