-- What a job's turn asks of the machine beside what holds of its parts: that of a sound machine which is supplied.
use Rattle.std.specs.Prelude.{◌≡◌, ℕ, true}
use Rattle.jcl_plan.specs.declared.plan.JobPlan.{JobPlan}
use Rattle.jcl_meaning.specs.Names.{names_of}
use Rattle.jcl_meaning.specs.WellFormed.{AreWellFormedPrograms, IsWellFormedPlan}
use Rattle.part_laws.specs.Fits.{Fits}
use Rattle.part_laws.specs.Keeping.{HasSoundGroups}
use Rattle.cb_queue.specs.RecordQueues.{RecordQueue}
use Rattle.world_meaning.specs.Lenses.{seen}
use Rattle.world_meaning.specs.Worlds.{Config}
use Rattle.case_laws.specs.Cases.{IsCovered}
use Rattle.shared_core.specs.Shown.{world_store_of}
use Rattle.place_core.specs.Placings.{NothingKeptFor}
use Rattle.turn_core.specs.Standing.{count_at, undone}
use Rattle.turn_core.specs.declared.walk.Walk.{Walk}
use Rattle.admit_core.specs.Admissions.{given_to, is_assured, named_of}
use Rattle.admit_core.specs.declared.admission.AdmittedJob.{AdmittedJob}
use Rattle.machine_core.specs.Shown.{shown}
use Rattle.machine_core.specs.declared.parts.Parts.{Parts}
use Rattle.init_core.specs.Running.{config_of, shown_admission}
use Rattle.init_core.specs.declared.running.Profile.{Profile}
use Rattle.init_core.specs.declared.running.Running.{Running}
use Rattle.init_core.specs.declared.running.Stage.{Stage}
use Rattle.init_core.specs.declared.running.Stage.TheVariants.{Admitted, Named, Selected, Wanting}

-- Of a job that is to be admitted: its plan is well-formed, the groups that it sees are sound, and nothing is kept for it.
pub record IsForAdmission {Q : Type 0} (p : Parts Q) (job : ℕ) (plan : JobPlan) : Type 0 where
  pub nothing : NothingKeptFor job p.store
  pub formed : IsWellFormedPlan plan
  pub groups : HasSoundGroups (seen job (world_store_of p.store))

-- Of an assured job: its own state fits what is left of its agenda, and tracks are kept for whatever it may yet make.
pub record IsForAction {Q : Type 0} (queue_of : Q → RecordQueue) (c : Config) (p : Parts Q) (job : ℕ) (a : AdmittedJob) (walk : Walk) : Type 0 where
  pub programs : AreWellFormedPrograms c.programs
  pub fits : Fits (names_of (named_of a).plan) (given_to a).meanings (undone (named_of a).plan c.programs walk.todo) walk.course.own
  pub covered : IsCovered c (shown queue_of p) job (named_of a).plan (shown_admission c a) (count_at (named_of a).plan c.programs walk.todo) walk.course.own

abbrev pub IsProvidedAt : {Q : Type 0} → (Q → RecordQueue) → Config → Parts Q → ℕ → Walk → Stage → Type 0
IsProvidedAt queue_of c p job walk (Selected first) = Unit {0}
IsProvidedAt queue_of c p job walk (Wanting plan wants) = Unit {0}
IsProvidedAt queue_of c p job walk (Named named) = IsForAdmission p job named.plan
IsProvidedAt queue_of c p job walk (Admitted a) = is_assured a ≡ true → IsForAction queue_of c p job a walk

abbrev pub IsProvided : {Q : Type 0} → (Q → RecordQueue) → Config → Parts Q → Running → Type 0
IsProvided queue_of c p r = IsProvidedAt queue_of c p r.job r.walk r.stage

-- under the configuration that the profile and the queue's records have
abbrev pub IsProvidedUnder : {Q : Type 0} → (Q → RecordQueue) → Profile → Parts Q → Running → Type 0
IsProvidedUnder queue_of profile p r = IsProvided queue_of (config_of profile (queue_of p.queue).layout) p r
