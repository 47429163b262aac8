-- What a job's keys mean, and so its solo meaning, is the same in two stores with equal parts.
use Rattle.std.proofs.Common.{◌≡◌, ◌+◌, ◌++◌, ℕ, Bool, cond, nat_le, List, [], ◌∷◌, length, refl, ap, subst}
use Rattle.std.specs.List.{flat_map}
use Rattle.jname_core.specs.declared.key.Key.{Key}
use Rattle.jname_core.specs.declared.key.Key.TheVariants.{Named, Relative, Temporary, Unnamed}
use Rattle.jcl_plan.specs.declared.fault.Fault.TheVariants.{F5}
use Rattle.jcl_plan.specs.declared.outcome.Outcome.{Outcome}
use Rattle.jcl_plan.specs.declared.plan.DdKind.{DdKind}
use Rattle.jcl_plan.specs.declared.plan.DdKind.TheVariants.{Sysout, Dummy, Cards, Set}
use Rattle.jcl_plan.specs.declared.plan.DdPlan.{DdPlan}
use Rattle.jcl_plan.specs.declared.plan.JobPlan.{JobPlan}
use Rattle.jcl_plan.specs.declared.plan.StepPlan.{StepPlan}
use Rattle.jcl_meaning.specs.declared.names.HeldName.{HeldName}
use Rattle.jcl_meaning.specs.declared.program.SoloProgram.{SoloProgram}
use Rattle.jcl_meaning.specs.declared.solo.SoloAnswers.{SoloAnswers}
use Rattle.jcl_meaning.specs.declared.state.Place.{Place}
use Rattle.jcl_meaning.specs.declared.state.Resolution.{Resolution}
use Rattle.jcl_meaning.specs.declared.state.Resolution.TheVariants.{Fails}
use Rattle.jcl_meaning.specs.Agendas.{agenda}
use Rattle.jcl_meaning.specs.Names.{dd_names, held_under, names_of, set_names, volume_names, wanted_by, wants_alone}
use Rattle.jcl_meaning.specs.Parts.{SamePart}
use Rattle.jcl_meaning.specs.Resolutions.{meaning_of_dd, meanings_from, meanings_in, meanings_of}
use Rattle.jcl_meaning.specs.Solo.{answers_of, at_start, fixed_in, fixed_with, given, run, solo_of, solo_path_of}
use Rattle.jcl_meaning.specs.States.{Answers, Fixed}
use Rattle.jcl_meaning.specs.Stores.{Store, by_group, resolution_of}
use Rattle.jcl_meaning.specs.WellFormed.{IsWellFormedPlan}
use Rattle.part_laws.specs.Alike.{AlikeRun}
use Rattle.part_laws.specs.Keeping.{HasSoundGroups}
use Rattle.part_laws.proofs.PlansFit.{start_fits}
use Rattle.part_laws.proofs.RunsAlike.{run_alike}
use Rattle.part_laws.proofs.SameReads.{same_group}
use Rattle.part_laws.proofs.Wanted.{AreHeld, all_held, held_behind, held_front, one_held}

module _ (names : List HeldName) (s t : Store) (p : SamePart names s t) where
  same_resolution : (k : Key) (alone : Bool) → AreHeld names (set_names (held_under k) alone) → resolution_of s k ≡ resolution_of t k
  same_resolution (Named name) alone h = refl
  same_resolution (Relative base sign amount) alone h =
      ap (λ g. cond (nat_le (length base) 35) (by_group g base sign amount) (Fails F5)) (same_group names s t p base (one_held names base alone h).0)
  same_resolution (Temporary name) alone h = refl
  same_resolution (Unnamed step dd) alone h = refl

  same_meaning : (n dd : ℕ) (kind : DdKind) → AreHeld names (dd_names kind) → meaning_of_dd s n dd kind ≡ meaning_of_dd t n dd kind
  same_meaning n dd (Sysout class) h = refl
  same_meaning n dd Dummy h = refl
  same_meaning n dd (Cards cards) h = refl
  same_meaning n dd (Set plan) h =
      ap (λ (r : Resolution). record { step = n; dd = dd; means = r } ∷ [])
      (same_resolution plan.key (wants_alone plan) (held_front names (set_names (held_under plan.key) (wants_alone plan)) (volume_names plan.volume) h))

  same_meanings_in : (n dd : ℕ) (ds : List DdPlan) → AreHeld names (flat_map (λ d. dd_names d.kind) ds) → meanings_in s n dd ds ≡ meanings_in t n dd ds
  same_meanings_in n dd [] h = refl
  same_meanings_in n dd (d ∷ ds) h =
      λ i. same_meaning n dd d.kind (held_front names (dd_names d.kind) (flat_map (λ x. dd_names x.kind) ds) h) i
      ++ same_meanings_in n (dd + 1) ds (held_behind names (dd_names d.kind) (flat_map (λ x. dd_names x.kind) ds) h) i

  same_meanings_from : (n : ℕ) (steps : List StepPlan) → AreHeld names (wanted_by steps) → meanings_from s n steps ≡ meanings_from t n steps
  same_meanings_from n [] h = refl
  same_meanings_from n (step ∷ steps) h =
      λ i. same_meanings_in n 1 step.dds (held_front names (flat_map (λ d. dd_names d.kind) step.dds) (wanted_by steps) h) i
      ++ same_meanings_from (n + 1) steps (held_behind names (flat_map (λ d. dd_names d.kind) step.dds) (wanted_by steps) h) i

pub same_meanings : (plan : JobPlan) (s t : Store) → SamePart (names_of plan) s t → meanings_of s plan ≡ meanings_of t plan
same_meanings plan s t p = same_meanings_from (names_of plan) s t p 1 plan.steps (all_held plan)

-- the same is fixed
same_fixed : (volumes : List (List ℕ)) (plan : JobPlan) (s t : Store) (places : List Place) (date : ℕ) → SamePart (names_of plan) s t →
    fixed_in volumes s plan places date ≡ fixed_in volumes t plan places date
same_fixed volumes plan s t places date p = ap (λ meanings. fixed_with volumes plan places meanings date) (same_meanings plan s t p)

-- so a whole run from its start is the same
same_from_start : (volumes : List (List ℕ)) (plan : JobPlan) (programs : List SoloProgram) (s t : Store) (places : List Place) (answers : Answers) (date : ℕ) →
    IsWellFormedPlan plan → HasSoundGroups s → SamePart (names_of plan) s t →
    AlikeRun (names_of plan) (run (fixed_in volumes s plan places date) (agenda plan programs) (at_start s answers))
    (run (fixed_in volumes t plan places date) (agenda plan programs) (at_start t answers))
same_from_start volumes plan programs s t places answers date good sound p =
    subst (λ (fixed : Fixed). AlikeRun (names_of plan) (run (fixed_in volumes s plan places date) (agenda plan programs) (at_start s answers))
    (run fixed (agenda plan programs) (at_start t answers)))
    (same_fixed volumes plan s t places date p)
    (run_alike (names_of plan) (fixed_in volumes s plan places date) (agenda plan programs) (at_start s answers) (at_start t answers)
    (record { part = p; own = refl; answers = refl })
    (start_fits plan programs s good sound))

pub solo_alike : (volumes : List (List ℕ)) (plan : JobPlan) (s t : Store) (places : List Place) (programs : List SoloProgram) (answers : SoloAnswers) (date : ℕ) →
    IsWellFormedPlan plan → HasSoundGroups s → SamePart (names_of plan) s t →
    AlikeRun (names_of plan) (solo_of (fixed_in volumes s plan places date) plan s programs answers) (solo_of (fixed_in volumes t plan places date) plan t programs answers)
solo_alike volumes plan s t places programs answers date good sound p =
    same_from_start volumes plan programs s t places (answers_of plan programs answers) date good sound p

pub path_alike : (volumes : List (List ℕ)) (plan : JobPlan) (s t : Store) (places : List Place) (outcomes : List Outcome) (date : ℕ) →
    IsWellFormedPlan plan → HasSoundGroups s → SamePart (names_of plan) s t →
    AlikeRun (names_of plan) (solo_path_of (fixed_in volumes s plan places date) plan s outcomes) (solo_path_of (fixed_in volumes t plan places date) plan t outcomes)
path_alike volumes plan s t places outcomes date good sound p = same_from_start volumes plan [] s t places (given outcomes) date good sound p
