-- What a job is answered whose names are held, case by case, and what that leaves of the volumes.
use Rattle.std.specs.Prelude.{◌≡◌, ℕ, List, ◌∷◌, [], Some, None}
use Rattle.std.specs.List.{Contains}
use Rattle.jcl_plan.specs.declared.entry.JobLine.{JobLine}
use Rattle.jcl_plan.specs.declared.entry.JobLine.TheVariants as line
use Rattle.jcl_plan.specs.declared.plan.JobPlan.{JobPlan}
use Rattle.jcl_meaning.specs.declared.program.SoloProgram.{SoloProgram}
use Rattle.jcl_meaning.specs.declared.state.Place.{Place}
use Rattle.jcl_meaning.specs.Agendas.{budget_of}
use Rattle.jcl_meaning.specs.Resolutions.{meanings_of}
use Rattle.jcl_meaning.specs.States.{Fixed}
use Rattle.path_meaning.specs.Verdicts.{IsEarliest, IsFirstWithMore, IsFree}
use Rattle.path_search.specs.declared.verdict.RiskReport.{RiskReport}
use Rattle.world_meaning.specs.Admissions.{explained, tracks_asked}
use Rattle.world_meaning.specs.Lenses.{seen}
use Rattle.world_meaning.specs.Placements.{ArePlaces}
use Rattle.world_meaning.specs.Worlds.{Config}
use Rattle.shared_core.specs.Shown.{world_store_of}
use Rattle.shared_core.specs.Tracks.{ConservesTracks}
use Rattle.shared_core.specs.declared.store.SharedStore.{SharedStore}
use Rattle.place_core.specs.Keepings.{KeepsAll}
use Rattle.place_core.specs.Placings.{placed, serials_of}
use Rattle.admit_core.specs.Admissions.{line_of}
use Rattle.admit_core.specs.Told.{fixed_by_room, refused_by}
use Rattle.admit_core.specs.declared.admission.Admission.{Admission}
use Rattle.admit_core.specs.declared.admission.Admission.TheVariants.{Assured, Risky, SpaceWait, TooMany}
use Rattle.admit_core.specs.declared.admission.Answer.{Answer}
use Rattle.admit_core.specs.declared.admission.AssuredJob.{AssuredJob}
use Rattle.admit_core.specs.declared.admission.NamedJob.{NamedJob}
use Rattle.admit_core.specs.declared.admission.Provision.{Provision}
use Rattle.admit_core.specs.declared.admission.RiskyJob.{RiskyJob}
use Rattle.admit_core.specs.declared.admit.Assurance.{Assurance}
use Rattle.admit_core.specs.declared.admit.Assurance.TheVariants.{Given, Refused}
use Rattle.admit_core.specs.declared.admit.Terms.{Terms}

-- Its sets are placed by the rule, on volumes that are configured for them, and its keys mean what they mean in the store as it sees it, on the date.
pub record IsProvision (store : SharedStore) (units : List (List (List ℕ))) (number : ℕ) (plan : JobPlan) (date : ℕ) (p : Provision) : Type 0 where
  pub placed_so : p.places ≡ placed store.volumes units number plan
  pub configured : (c : Config) → c.volumes ≡ serials_of store.volumes → c.units ≡ units → ArePlaces c plan p.places
  pub meant : p.meanings ≡ meanings_of (seen number (world_store_of store)) plan
  pub dated : p.date ≡ date

-- ASSURED: no path meets a fault, no step has too many views, and the primary of every DD where some path makes its set is kept, in order; tracks move
-- between what is free and what is kept, and none is lost.
pub record IsAssured (store : SharedStore) (t : Terms) (number : ℕ) (job : NamedJob) (fixed : Fixed) (its : Provision) (new : SharedStore)
    (a : AssuredJob) : Type 0 where
  pub made : List Place
  pub free : IsFree fixed job.plan (seen number (world_store_of store)) t.most_views made
  pub room : refused_by store number job.plan made ≡ None
  pub keeps : KeepsAll number job.plan made store new
  pub conserves : ConservesTracks store new
  pub is : a ≡ record { named = job; given = its; tracks = tracks_asked job.plan made; actions = budget_of job.plan t.programs.now }

-- RISK, at the earliest fault: the job runs with checks, and nothing is kept.
pub record IsRisky (store : SharedStore) (t : Terms) (number : ℕ) (job : NamedJob) (fixed : Fixed) (its : Provision) (new : SharedStore)
    (a : RiskyJob) (report : RiskReport) : Type 0 where
  pub earliest : IsEarliest fixed job.plan (seen number (world_store_of store)) t.most_views report.fault report.step report.dd report.path.items
  pub is : a ≡ record { named = job; given = its }
  pub same : new ≡ store

-- TOOMANY, behind the first step that has more views: the same.
pub record HasTooMany (store : SharedStore) (t : Terms) (number : ℕ) (job : NamedJob) (fixed : Fixed) (its : Provision) (new : SharedStore)
    (a : RiskyJob) (step : ℕ) : Type 0 where
  pub more : IsFirstWithMore fixed job.plan (seen number (world_store_of store)) t.most_views step
  pub is : a ≡ record { named = job; given = its }
  pub same : new ≡ store

-- WAIT SPACE, with the first volume that has no room for a primary: no path meets a fault, the job waits as it was, and nothing is kept.
pub record WaitsForSpace (store : SharedStore) (t : Terms) (number : ℕ) (job : NamedJob) (fixed : Fixed) (new : SharedStore)
    (a : NamedJob) (serial : List ℕ) : Type 0 where
  pub made : List Place
  pub free : IsFree fixed job.plan (seen number (world_store_of store)) t.most_views made
  pub room : refused_by store number job.plan made ≡ Some serial
  pub there : Contains (serials_of store.volumes) serial
  pub is : a ≡ job
  pub same : new ≡ store

abbrev pub IsAdmission : SharedStore → Terms → ℕ → NamedJob → Fixed → Provision → SharedStore → Admission → Type 0
IsAdmission store t number job fixed its new (Assured a) = IsAssured store t number job fixed its new a
IsAdmission store t number job fixed its new (Risky a report) = IsRisky store t number job fixed its new a report
IsAdmission store t number job fixed its new (TooMany a step) = HasTooMany store t number job fixed its new a step
IsAdmission store t number job fixed its new (SpaceWait a serial) = WaitsForSpace store t number job fixed new a serial

-- A job is answered; a risk is explained by the path that is told, where that is asked for.
pub record IsAnswered (store : SharedStore) (t : Terms) (number : ℕ) (job : NamedJob) (date : ℕ) (new : SharedStore) (answer : Answer) : Type 0 where
  pub its : Provision
  pub provides : IsProvision store t.units.now number job.plan date its
  pub admission : IsAdmission store t number job (fixed_by_room store t.units.now number job.plan date) its new answer.admission
  pub path : answer.path ≡ explained t.explains (fixed_by_room store t.units.now number job.plan date) job.plan (seen number (world_store_of store))
      (line_of answer.admission ∷ [])

-- Of a job that meets no fault, and may make sets at these places: it is assured, their primaries kept, or a volume has no room.
abbrev pub IsAssurance : SharedStore → List SoloProgram → ℕ → JobPlan → List Place → SharedStore → Assurance → Type 0
IsAssurance store programs number plan made new (Given tracks actions) =
    (refused_by store number plan made ≡ None) × KeepsAll number plan made store new × ConservesTracks store new
    × (tracks ≡ tracks_asked plan made) × (actions ≡ budget_of plan programs)
IsAssurance store programs number plan made new (Refused serial) = (refused_by store number plan made ≡ Some serial) × (new ≡ store)

abbrev pub line_assured : Assurance → JobLine
line_assured (Given tracks actions) = line.Assured tracks actions
line_assured (Refused serial) = line.WaitSpace serial

-- what such a job is answered
abbrev pub admission_of : NamedJob → Provision → Assurance → Admission
admission_of job given (Given tracks actions) = Assured (record { named = job; given = given; tracks = tracks; actions = actions })
admission_of job given (Refused serial) = SpaceWait job serial
