-- What the table of cases leaves open, as the volumes decide it: what a job is answered, where its sets are placed, and whether a primary and a growth are
-- granted.
use Rattle.std.specs.Prelude.{◌≡◌, ℕ, Bool, true, false, List, [], ◌∷◌, if◌then◌else◌}
use Rattle.jcl_plan.specs.declared.entry.JobLine.{JobLine}
use Rattle.jcl_plan.specs.declared.entry.JobLine.TheVariants as line
use Rattle.jcl_plan.specs.declared.plan.JobPlan.{JobPlan}
use Rattle.jcl_meaning.specs.declared.state.Place.{Place}
use Rattle.world_meaning.specs.Choices.{AtAction, AtAdmission, Choice, Closed}
use Rattle.world_meaning.specs.Turns.{Advanced}
use Rattle.world_meaning.specs.Worlds.{Admission, Config}
use Rattle.shared_core.specs.declared.store.SharedStore.{SharedStore}
use Rattle.turn_core.specs.Performing.{growth_by, primary_by}
use Rattle.place_core.specs.Placings.{placed, serials_of}
use Rattle.admit_core.specs.Told.{IsTold, fixed_by_room}
use Rattle.init_core.specs.Turning.{answers_of}

-- a job that may fail is REFUSED where the command line says so
abbrev pub with_refusal : Bool → JobLine → List JobLine
with_refusal true told = told ∷ line.Refused ∷ []
with_refusal false told = told ∷ []

abbrev pub lines_answered : Bool → JobLine → List JobLine
lines_answered refuses (line.Risk fault step dd path) = with_refusal refuses (line.Risk fault step dd path)
lines_answered refuses (line.TooMany step) = with_refusal refuses (line.TooMany step)
lines_answered refuses told = told ∷ []

-- A job whose names are held is answered at once: each of its sets is placed on the first volume of its unit that has room behind those of the DDs
-- before it, and what is told of it holds of it so placed, in the store as it sees it, on the date.
pub record IsAdmittedByVolumes (c : Config) (store : SharedStore) (date job : ℕ) (plan : JobPlan) (places : List Place) (lines : List JobLine) : Type 0 where
  pub configured : serials_of store.volumes ≡ c.volumes
  pub by_room : places ≡ placed store.volumes c.units job plan
  pub answer : JobLine
  pub told : IsTold store c.programs c.most_views job plan (fixed_by_room store c.units job plan date) answer
  pub answered : lines ≡ lines_answered c.refuses answer

-- At an action a growth is granted exactly where the volumes, as they were, have room for it, and so is a primary; that of an assured job is granted.
pub record IsGrantedByVolumes (store : SharedStore) (job : ℕ) (cancel : Bool) (a : Admission) (x : Advanced) (growth primary : Bool) : Type 0 where
  pub growth_answered : growth ≡ growth_by (answers_of job store).growth cancel x.action x.before.store x.before.own
  pub primary_answered : primary ≡ if a.assured then true else primary_by (answers_of job store).new a.fixed x.action x.before.store x.before.own

abbrev pub IsChosenByVolumes : Config → SharedStore → ℕ → Choice → Type 0
IsChosenByVolumes c store date Closed = Unit {0}
IsChosenByVolumes c store date (AtAdmission job plan places lines) = IsAdmittedByVolumes c store date job plan places lines
IsChosenByVolumes c store date (AtAction job cancel a x growth primary) = IsGrantedByVolumes store job cancel a x growth primary
