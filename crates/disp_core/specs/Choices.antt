-- What a take does with the set on which it decided.
use Rattle.std.specs.Prelude.{◌≡◌, ℕ, Bool, false, List, [], ◌∷◌, ◌++◌, Some, None}
use Rattle.jname_core.specs.declared.key.Key.{Key}
use Rattle.jcl_plan.specs.declared.entry.JobLine.{JobLine}
use Rattle.jcl_plan.specs.declared.entry.JobLine.TheVariants as line
use Rattle.jcl_plan.specs.declared.plan.DdKind.{DdKind}
use Rattle.jcl_plan.specs.declared.plan.SetPlan.{SetPlan}
use Rattle.jcl_plan.specs.declared.words.TakeWord.{TakeWord}
use Rattle.jcl_meaning.specs.declared.state.DdState.{DdState}
use Rattle.jcl_meaning.specs.declared.state.DdVolume.{DdVolume}
use Rattle.jcl_meaning.specs.declared.state.Place.{Place}
use Rattle.jcl_meaning.specs.declared.state.Resolution.{Resolution}
use Rattle.jcl_meaning.specs.declared.state.Resolution.TheVariants.{Means}
use Rattle.jcl_meaning.specs.declared.take.Decision.TheVariants.{Takes}
use Rattle.jcl_meaning.specs.declared.take.How.TheVariants.{Made}
use Rattle.store_core.specs.declared.job_store.JobStore.{Ghosts}
use Rattle.jcl_meaning.specs.Resolutions.{meaning_at}
use Rattle.jcl_meaning.specs.States.{Fixed}
use Rattle.jcl_meaning.specs.Stores.{Store}
use Rattle.jcl_meaning.specs.TakeActs.{decided, new_dd, own_with_set, place_made, store_made, take_word, takes_set}
use Rattle.disp_core.specs.Acting.{MeetsAndMakes, MeetsIfGranted, at_site, taking}
use Rattle.disp_core.specs.Courses.{fixed_by}
use Rattle.disp_core.specs.Grants.{granted_by, granted_on, primary_granted}
use Rattle.disp_core.specs.Takings.{granted_or_refused}
use Rattle.disp_core.specs.declared.course.Course.{Course}
use Rattle.disp_core.specs.declared.course.Given.{Given}
use Rattle.disp_core.specs.declared.site.Site.{Site}
use Rattle.disp_core.specs.declared.take.Chosen.{Chosen}
use Rattle.disp_core.specs.declared.take.Taken.{Taken}

-- whether its primary is granted, if it is to be made
abbrev pub granted_at : (Key → Place → ℕ → Bool) → Site → SetPlan → Chosen → Bool
granted_at grants at p chosen = granted_on (grants chosen.key) at.step at.dd p (Some chosen.serial)

-- it is to be made, and its primary is not granted
abbrev pub IsNotGranted : {S : Type 0} → Ghosts S → Site → SetPlan → Chosen → S → Type 0
IsNotGranted store at p chosen old = (chosen.how ≡ Made) × (granted_at (store.grants_new at.job old) at p chosen ≡ false)

-- where it is made
abbrev pub made_at : Site → Chosen → List Place
made_at at chosen = place_made chosen.how at.step at.dd chosen.serial

abbrev pub store_taken : Fixed → SetPlan → Chosen → Store → Store
store_taken fixed p chosen seen = store_made chosen.how fixed p chosen.key chosen.serial seen

abbrev pub course_taken : Site → Chosen → Course → Course
course_taken at chosen c = record {
  own = own_with_set at.step at.dd at.name chosen.key chosen.serial chosen.how c.own;
  lines = c.lines ++ line.Take at.dd at.name (take_word chosen.how chosen.serial) ∷ [];
}

-- what is entered for a set that is taken, with its line
abbrev pub course_kept : DdVolume → DdState → JobLine → Course → Course
course_kept volume state said c = record {
  own = record c.own { volumes = c.own.volumes ++ volume ∷ []; dds = c.own.dds ++ state ∷ [] };
  lines = c.lines ++ said ∷ [];
}

-- a DD that has no set
abbrev pub course_taken_without : Site → TakeWord → Course → Course
course_taken_without at word c = record {
  own = record c.own { dds = c.own.dds ++ new_dd at.dd at.name None ∷ [] };
  lines = c.lines ++ line.Take at.dd at.name word ∷ [];
}

-- the set was taken; or the fault is F6, where it is to be made and its primary is not granted
abbrev pub TookChosen : (Key → Place → ℕ → Bool) → Given → Site → SetPlan → Chosen → Store → Course → Store → Course → Taken → Type 0
TookChosen grants given at p chosen old before new after told =
    MeetsAndMakes (λ s. at_site decided given at p chosen.key s (granted_or_refused (Takes chosen.serial chosen.how) (granted_at grants at p chosen))) old before new after told

-- the set was taken that the key means, with the store's own answer to its primary
abbrev pub TookMeaning : (Key → Place → ℕ → Bool) → Given → Site → SetPlan → Resolution → Store → Course → Store → Course → Taken → Type 0
TookMeaning grants given at p means old before new after told =
    MeetsIfGranted (granted_by grants (fixed_by given) at.step at.dd p old before.own means) (λ s. at_site takes_set given at p s means) old before new after told

abbrev pub TookKey : (Key → Place → ℕ → Bool) → Given → Site → SetPlan → Key → Store → Course → Store → Course → Taken → Type 0
TookKey grants given at p key old before new after told = TookMeaning grants given at p (Means key) old before new after told

abbrev pub TookSet : (Key → Place → ℕ → Bool) → Given → Site → SetPlan → Store → Course → Store → Course → Taken → Type 0
TookSet grants given at p old before new after told = TookMeaning grants given at p (meaning_at given.meanings.now at.step at.dd) old before new after told

-- a DD was taken
abbrev pub Took : (Key → Place → ℕ → Bool) → Given → Site → DdKind → Store → Course → Store → Course → Taken → Type 0
Took grants given at kind old before new after told =
    MeetsIfGranted (primary_granted grants (fixed_by given) at.step at.dd kind old before.own) (taking given at kind) old before new after told
