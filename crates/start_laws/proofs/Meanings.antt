-- What a job's keys mean is what the catalog says that it sees.
use Rattle.std.proofs.Common.{◌≡◌, ◌+◌, ◌++◌, ℕ, List, [], ◌∷◌, refl, ap, ◌∙◌}
use Rattle.jname_core.specs.declared.key.Key.{Key}
use Rattle.jname_core.specs.declared.key.Key.TheVariants.{Named, Relative, Temporary, Unnamed}
use Rattle.jcl_plan.specs.declared.plan.DdKind.{DdKind}
use Rattle.jcl_plan.specs.declared.plan.DdKind.TheVariants.{Sysout, Dummy, Cards, Set}
use Rattle.jcl_plan.specs.declared.plan.DdPlan.{DdPlan}
use Rattle.jcl_plan.specs.declared.plan.JobPlan.{JobPlan}
use Rattle.jcl_plan.specs.declared.plan.StepPlan.{StepPlan}
use Rattle.jcl_meaning.specs.declared.state.Resolution.{Resolution}
use Rattle.jcl_meaning.specs.Resolutions.{meaning_of_dd, meanings_from, meanings_in, meanings_of}
use Rattle.jcl_meaning.specs.Stores.{Store, resolution_of}
use Rattle.part_laws.specs.PartLaws.{SameMeanings}
use Rattle.start_laws.specs.Starts.{SeesSame}

-- Between the two stores stands a third, with the sets of the one and the catalog of the other: keys mean the same in it as in the other.
module _ (s t : Store) where
  abbrev between : Store
  between = record { set = s.set; catalog = t.catalog }

  key_between : (key : Key) → resolution_of between key ≡ resolution_of t key
  key_between (Named name) = refl
  key_between (Relative base sign amount) = refl
  key_between (Temporary name) = refl
  key_between (Unnamed step dd) = refl

  dd_between : (n dd : ℕ) (kind : DdKind) → meaning_of_dd between n dd kind ≡ meaning_of_dd t n dd kind
  dd_between n dd (Sysout class) = refl
  dd_between n dd Dummy = refl
  dd_between n dd (Cards cards) = refl
  dd_between n dd (Set p) = ap (λ (r : Resolution). record { step = n; dd = dd; means = r } ∷ []) (key_between p.key)

  dds_between : (n dd : ℕ) (ds : List DdPlan) → meanings_in between n dd ds ≡ meanings_in t n dd ds
  dds_between n dd [] = refl
  dds_between n dd (d ∷ ds) = λ i. dd_between n dd d.kind i ++ dds_between n (dd + 1) ds i

  steps_between : (n : ℕ) (steps : List StepPlan) → meanings_from between n steps ≡ meanings_from t n steps
  steps_between n [] = refl
  steps_between n (step ∷ steps) = λ i. dds_between n 1 step.dds i ++ steps_between (n + 1) steps i

pub meanings_are_seen : SameMeanings → (plan : JobPlan) (date : ℕ) (s t : Store) → SeesSame plan date s t → meanings_of s plan ≡ meanings_of t plan
meanings_are_seen same_meanings plan date s t same =
    same_meanings plan s (record { set = s.set; catalog = t.catalog })
    (record { named = λ name serial held. refl; temporary = λ name serial. refl; unnamed = λ step dd serial. refl; catalog = same.catalog })
    ∙ steps_between s t 1 plan.steps
