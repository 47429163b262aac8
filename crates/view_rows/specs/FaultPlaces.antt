-- Where in its agenda a job meets a fault: at a disposition, and at its end. (This profile)
use Rattle.std.specs.Prelude.{◌≡◌, List, [], ◌∷◌, codes, Some, None}
use Rattle.jname_core.specs.declared.key.Key.TheVariants.{Named}
use Rattle.group_core.specs.declared.entry.CatEntry.TheVariants as entry
use Rattle.jcl_plan.specs.declared.fault.Fault.TheVariants.{F4, F8}
use Rattle.jcl_plan.specs.declared.outcome.Outcome.{Outcome}
use Rattle.jcl_plan.specs.declared.outcome.Outcome.TheVariants.{Code}
use Rattle.jcl_plan.specs.declared.plan.JobPlan.{JobPlan}
use Rattle.jcl_plan.specs.declared.plan.SetPlan.{SetPlan}
use Rattle.jcl_plan.specs.declared.plan.VolumePlan.TheVariants as volume
use Rattle.jcl_plan.specs.declared.plan.Word.TheVariants as word
use Rattle.jcl_meaning.specs.declared.store.SoloStore.{SoloStore}
use Rattle.jcl_meaning.specs.Solo.{Met, fixed_alone, solo_path_of}
use Rattle.jcl_meaning.specs.Stores.{store_of}
use Rattle.view_rows.specs.Examples.{dd_of, job_of, kept_set, serial, set_of_t, step_of}

-- R.SET, catalogued
abbrev pub one_set : SoloStore
one_set = record {
  volumes = serial ∷ [];
  sets = record { serial = serial; key = Named (codes "R.SET"); set = record kept_set { expires = None } } ∷ [];
  catalog = record { name = codes "R.SET"; entry = entry.Volume serial } ∷ [];
}

-- DSN=R.SET,DISP=(OLD,word)
abbrev pub r_set : SetPlan
r_set = record set_of_t { key = Named (codes "R.SET") }

abbrev pub faults_of : JobPlan → List Outcome → List Met
faults_of job outcomes = (solo_path_of (fixed_alone one_set job [] 25567) job (store_of one_set) outcomes).faults

-- one step deletes it by two DDs: its start, two takes, its end, and two dispositions, of which the second is the sixth action
abbrev pub deletes_twice : JobPlan
deletes_twice = job_of (step_of [] (dd_of (record r_set { normal = Some word.Delete }) ∷ dd_of (record r_set { normal = Some word.Delete }) ∷ []) ∷ [])

-- passed by the first step, and deleted on its volume by the second, which does not receive it: its LEFT is the ninth action
abbrev pub deletes_what_is_passed : JobPlan
deletes_what_is_passed = job_of (step_of [] (dd_of (record r_set { normal = Some word.Pass }) ∷ [])
    ∷ step_of [] (dd_of (record r_set { normal = Some word.Delete; volume = volume.Serial serial }) ∷ []) ∷ [])

-- uncatalogued by both steps: the second disposition, the eighth action, finds no entry
abbrev pub uncatalogs_twice : JobPlan
uncatalogs_twice = job_of (step_of [] (dd_of (record r_set { normal = Some word.Uncatlg }) ∷ [])
    ∷ step_of [] (dd_of (record r_set { normal = Some word.Uncatlg; volume = volume.Serial serial }) ∷ []) ∷ [])

pub record StandsAt : Type 0 where
  pub disposition : faults_of deletes_twice (Code 0 ∷ []) ≡ record { place = 5; fault = F8 } ∷ []
  pub at_the_end : faults_of deletes_what_is_passed (Code 0 ∷ Code 0 ∷ []) ≡ record { place = 8; fault = F8 } ∷ []
  pub no_entry : faults_of uncatalogs_twice (Code 0 ∷ Code 0 ∷ []) ≡ record { place = 7; fault = F4 } ∷ []
