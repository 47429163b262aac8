-- Worked examples of views: the jobs, and what is seen behind their steps. (This profile)
use Rattle.std.specs.Prelude.{◌≡◌, ℕ, true, false, List, [], ◌∷◌, codes, Option, Some, None}
use Rattle.jname_core.specs.declared.key.Key.{Key}
use Rattle.jname_core.specs.declared.key.Key.TheVariants.{Named, Relative, Temporary}
use Rattle.jname_core.specs.declared.key.Sign.TheVariants.{Plus}
use Rattle.group_core.specs.declared.entry.CatEntry.{CatEntry}
use Rattle.group_core.specs.declared.entry.CatEntry.TheVariants as entry
use Rattle.jcl_plan.specs.declared.outcome.Abend.TheVariants as abend
use Rattle.jcl_plan.specs.declared.outcome.Outcome.{Outcome}
use Rattle.jcl_plan.specs.declared.outcome.Outcome.TheVariants.{Code, Abend}
use Rattle.jcl_plan.specs.declared.fault.Fault.TheVariants.{F1}
use Rattle.jcl_plan.specs.declared.plan.AfterAbend.TheVariants as after
use Rattle.jcl_plan.specs.declared.plan.DdKind.TheVariants as kind
use Rattle.jcl_plan.specs.declared.plan.DdPlan.{DdPlan}
use Rattle.jcl_plan.specs.declared.plan.Expiry.TheVariants as expiry
use Rattle.jcl_plan.specs.declared.plan.JobPlan.{JobPlan}
use Rattle.jcl_plan.specs.declared.plan.Operator.TheVariants as operator
use Rattle.jcl_plan.specs.declared.plan.SetPlan.{SetPlan}
use Rattle.jcl_plan.specs.declared.plan.Status.TheVariants as status
use Rattle.jcl_plan.specs.declared.plan.StepPlan.{StepPlan}
use Rattle.jcl_plan.specs.declared.plan.Test.{Test}
use Rattle.jcl_plan.specs.declared.plan.VolumePlan.TheVariants as volume
use Rattle.jcl_plan.specs.declared.plan.Word.TheVariants as word
use Rattle.jcl_meaning.specs.declared.state.Passed.{Passed}
use Rattle.jcl_meaning.specs.declared.state.Place.{Place}
use Rattle.jcl_meaning.specs.declared.store.DataSet.{DataSet}
use Rattle.jcl_meaning.specs.declared.store.SoloStore.{SoloStore}
use Rattle.jcl_meaning.specs.Names.{names_of}
use Rattle.jcl_meaning.specs.Solo.{Ran, fixed_alone, is_clean}
use Rattle.jcl_meaning.specs.Stores.{store_of}
use Rattle.jcl_meaning.specs.Parts.{part_of, some_group}
use Rattle.jcl_meaning.specs.Views.{IsViewAfter, View, ran_to, view_of}

-- a step of IEFBR14 with one DD, T, for the temporary set &&T
abbrev pub set_of_t : SetPlan
set_of_t = record {
  key = Temporary (codes "T");
  status = status.Old;
  normal = None;
  conditional = None;
  volume = volume.NotCoded;
  units = None;
  space = None;
  expiry = expiry.NotCoded;
}

abbrev pub dd_of : SetPlan → DdPlan
dd_of set = record { name = Some (codes "T"); kind = kind.Set set }

abbrev pub step_of : List Test → List DdPlan → StepPlan
step_of tests dds = record {
  name = None;
  procedure_step = None;
  program = codes "IEFBR14";
  after_abend = after.Unsaid;
  tests = record { items = tests };
  dds = dds;
}

abbrev pub job_of : List StepPlan → JobPlan
job_of steps = record {
  name = codes "J";
  class = 65;
  priority = 6;
  message_class = 65;
  tests = record { items = [] };
  steps = steps;
}

-- DISP=(NEW,PASS),SPACE=(TRK,1); then COND=(4,LT,1) and DISP=(OLD,DELETE); then DISP=OLD
abbrev pub passes_t : StepPlan
passes_t = step_of [] (dd_of (record set_of_t { status = status.New; normal = Some word.Pass; space = Some (record { primary = 1; secondary = 0; release = false }) }) ∷ [])

abbrev pub deletes_t : StepPlan
deletes_t = step_of (record { code = 4; operator = operator.Lt; step = Some 1 } ∷ []) (dd_of (record set_of_t { normal = Some word.Delete }) ∷ [])

abbrev pub wants_t : StepPlan
wants_t = step_of [] (dd_of set_of_t ∷ [])

abbrev pub passing_job : JobPlan
passing_job = job_of (passes_t ∷ deletes_t ∷ wants_t ∷ [])

-- one volume without sets; T is placed on it; 1970/001
abbrev pub serial : List ℕ
serial = codes "VOL001"

abbrev pub no_sets : SoloStore
no_sets = record { volumes = serial ∷ []; sets = []; catalog = [] }

abbrev pub places : List Place
places = record { step = 1; dd = 1; serial = serial } ∷ []

-- a run of a job in a store of lists, and what it sees
abbrev pub ran_alone : SoloStore → List Place → ℕ → JobPlan → ℕ → List Outcome → Ran
ran_alone store places date plan k outcomes = ran_to (fixed_alone store plan places date) plan (store_of store) k outcomes

abbrev pub view_alone : SoloStore → List Place → ℕ → JobPlan → ℕ → List Outcome → View
view_alone store places date plan k outcomes = view_of (fixed_alone store plan places date) plan (store_of store) k outcomes

abbrev pub seen : ℕ → List Outcome → View
seen k outcomes = view_alone no_sets places 25567 passing_job k outcomes

abbrev pub t_passed : Passed
t_passed = record { key = Temporary (codes "T"); serial = serial; made = true; by_catalog = false; step = 1; dd = 1; abend_later = false }

pub record BehindTheFirstStep : Type 0 where
  pub there : (seen 1 (Code 0 ∷ [])).sets (Temporary (codes "T")) serial ≡ Some false
  pub passed : (seen 1 (Code 0 ∷ [])).passed ≡ t_passed ∷ []
  pub not_abended : (seen 1 (Code 0 ∷ [])).abended ≡ false
  pub not_met : (seen 1 (Code 4 ∷ [])).step_tests ≡ (false ∷ []) ∷ [] ∷ []
  pub met : (seen 1 (Code 5 ∷ [])).step_tests ≡ (true ∷ []) ∷ [] ∷ []
  pub passed_so : (seen 1 (Code 5 ∷ [])).passed ≡ t_passed ∷ []
  pub by_abend : (seen 1 (Abend abend.S806 ∷ [])).abended ≡ true
  pub is_view : IsViewAfter (fixed_alone no_sets passing_job places 25567) passing_job (store_of no_sets) 1 (seen 1 (Code 5 ∷ []))

pub record BehindTheSecondStep : Type 0 where
  pub deleted : (seen 2 (Code 0 ∷ Code 0 ∷ [])).sets (Temporary (codes "T")) serial ≡ None
  pub not_passed : (seen 2 (Code 0 ∷ Code 0 ∷ [])).passed ≡ []
  pub bypassed : (seen 2 (Code 5 ∷ Code 0 ∷ [])).passed ≡ t_passed ∷ []
  pub there : (seen 2 (Code 5 ∷ Code 0 ∷ [])).sets (Temporary (codes "T")) serial ≡ Some false
  pub no_test_left : (seen 2 (Code 5 ∷ Code 0 ∷ [])).step_tests ≡ [] ∷ []

-- four actions a step: its start, its take, its end and its disposition; the take of the third is the tenth
pub record WithoutAWayOn : Type 0 where
  pub missed : is_clean (ran_alone no_sets places 25567 passing_job 3 (Code 0 ∷ Code 0 ∷ Code 0 ∷ [])) ≡ false
  pub place : (ran_alone no_sets places 25567 passing_job 3 (Code 0 ∷ Code 0 ∷ Code 0 ∷ [])).faults ≡ record { place = 9; fault = F1 } ∷ []
  pub found : is_clean (ran_alone no_sets places 25567 passing_job 3 (Code 5 ∷ Code 0 ∷ Code 0 ∷ [])) ≡ true

-- the second step makes a set on the volume of the first one's
abbrev pub referring_job : JobPlan
referring_job = job_of (passes_t
    ∷ step_of [] (dd_of (record set_of_t {
      key = Temporary (codes "U");
      status = status.New;
      volume = volume.OfDd 1 1;
      space = Some (record { primary = 1; secondary = 0; release = false });
    }) ∷ [])
    ∷ [])

abbrev pub volumes_seen : ℕ → List Outcome → ℕ → ℕ → Option (List ℕ)
volumes_seen k outcomes = (view_alone no_sets places 25567 referring_job k outcomes).volumes

pub record Refers : Type 0 where
  pub before : volumes_seen 0 [] 1 1 ≡ None
  pub between : volumes_seen 1 (Code 0 ∷ []) 1 1 ≡ Some serial
  pub behind : volumes_seen 2 (Code 0 ∷ Code 0 ∷ []) 1 1 ≡ None

-- a job that names A.B alone, and a store with A.B, not to be deleted before 1982/051, and C.D, both catalogued
abbrev pub naming_job : JobPlan
naming_job = job_of (step_of [] (dd_of (record set_of_t { key = Named (codes "A.B"); status = status.Shr }) ∷ []) ∷ [])

abbrev pub kept_set : DataSet
kept_set = record { tracks = 1; expires = Some 30000; records = [] }

abbrev pub two_sets : SoloStore
two_sets = record {
  volumes = serial ∷ [];
  sets = record { serial = serial; key = Named (codes "A.B"); set = kept_set } ∷ record { serial = serial; key = Named (codes "C.D"); set = kept_set } ∷ [];
  catalog = record { name = codes "A.B"; entry = entry.Volume serial } ∷ record { name = codes "C.D"; entry = entry.Volume serial } ∷ [];
}

abbrev pub its_view : ℕ → View
its_view date = view_alone two_sets [] date naming_job 0 []

pub record SeesItsPart : Type 0 where
  pub own : (its_view 25567).sets (Named (codes "A.B")) serial ≡ Some true
  pub expired : (its_view 30000).sets (Named (codes "A.B")) serial ≡ Some false
  pub other : (its_view 25567).sets (Named (codes "C.D")) serial ≡ None
  pub entered : (its_view 25567).catalog (codes "A.B") ≡ Some (entry.Volume serial)
  pub not_entered : (its_view 25567).catalog (codes "C.D") ≡ None
  pub part : (part_of (names_of naming_job) (store_of two_sets)).catalog (codes "C.D") ≡ None

-- A.G0001V00 may be a generation of A, and the base of a group of its own: what a job that names this key sees of that entry
abbrev pub base : List ℕ
base = codes "A.G0001V00"

abbrev pub seen_by : Key → CatEntry → Option CatEntry
seen_by key e =
    (part_of (names_of (job_of (step_of [] (dd_of (record set_of_t { key = key }) ∷ []) ∷ [])))
    (store_of (record { volumes = serial ∷ []; sets = []; catalog = record { name = base; entry = e } ∷ [] }))).catalog base

abbrev pub a_group : CatEntry
a_group = entry.Group (record { limit = 5; scratch = true; generations = [] })

pub record SeesABase : Type 0 where
  pub own_group : seen_by (Relative base Plus 1) a_group ≡ Some a_group
  pub no_volume : seen_by (Relative base Plus 1) (entry.Volume serial) ≡ None
  pub that_it_is_one : seen_by (Named base) a_group ≡ Some some_group
  pub own_volume : seen_by (Named base) (entry.Volume serial) ≡ Some (entry.Volume serial)
