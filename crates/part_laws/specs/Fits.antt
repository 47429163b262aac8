-- What the own state of a job satisfies all along its agenda.
use Rattle.std.specs.Prelude.{◌≡◌, ℕ, ◌+◌, ◌-◌, ◌<◌, Bool, true, false, List, [], ◌∷◌, ◌++◌, length, slice_get, Option, Some, None}
use Rattle.std.specs.List.{AllByRecursion}
use Rattle.jname_core.specs.declared.key.Key.{Key}
use Rattle.jname_core.specs.declared.key.Key.TheVariants.{Named, Relative, Temporary, Unnamed}
use Rattle.jname_core.specs.Generations.{base_of}
use Rattle.jcl_plan.specs.declared.plan.DdKind.{DdKind}
use Rattle.jcl_plan.specs.declared.plan.DdKind.TheVariants.{Sysout, Dummy, Cards, Set}
use Rattle.jcl_plan.specs.declared.plan.DdPlan.{DdPlan}
use Rattle.jcl_plan.specs.declared.plan.SetPlan.{SetPlan}
use Rattle.jcl_plan.specs.declared.plan.VolumePlan.{VolumePlan}
use Rattle.jcl_plan.specs.declared.plan.VolumePlan.TheVariants.{NotCoded, Serial, OfName, OfDd}
use Rattle.jcl_meaning.specs.declared.names.HeldName.{HeldName}
use Rattle.jcl_meaning.specs.declared.state.DdState.{DdState}
use Rattle.jcl_meaning.specs.declared.state.Due.{Due}
use Rattle.jcl_meaning.specs.declared.state.Due.TheVariants as due
use Rattle.jcl_meaning.specs.declared.state.KeyMeaning.{KeyMeaning}
use Rattle.jcl_meaning.specs.declared.state.Own.{Own}
use Rattle.jcl_meaning.specs.declared.state.Passed.{Passed}
use Rattle.jcl_meaning.specs.declared.state.Resolution.TheVariants.{Means}
use Rattle.jcl_meaning.specs.declared.state.TakenSet.{TakenSet}
use Rattle.jcl_meaning.specs.Agendas.{Action, Start, Take, Ask, Receive, Finish, Dispose, Left, Over}
use Rattle.jcl_meaning.specs.Names.{wants_alone}
use Rattle.jcl_meaning.specs.Parts.{is_alone, is_among}
use Rattle.jcl_meaning.specs.Programs.{taken_at}
use Rattle.jcl_meaning.specs.Resolutions.{meaning_at}

-- A key under which a job with these names sees a set: its name is held, or it is one of the job's own. A relative number is no set's key.
abbrev pub sees_set : List HeldName → Key → Bool
sees_set names (Named name) = is_among names (base_of name)
sees_set names (Relative base sign amount) = false
sees_set names (Temporary name) = true
sees_set names (Unnamed step dd) = true

-- and one under which no other job does: its name is held alone, or it is one of the job's own
abbrev pub sees_alone : List HeldName → Key → Bool
sees_alone names (Named name) = is_alone names (base_of name)
sees_alone names (Relative base sign amount) = false
sees_alone names (Temporary name) = true
sees_alone names (Unnamed step dd) = true

-- a DD's key is held for it: alone where the DD wants its set alone
pub record IsHeldFor (names : List HeldName) (p : SetPlan) (key : Key) : Type 0 where
  pub seen : sees_set names key ≡ true
  pub alone : wants_alone p ≡ true → sees_alone names key ≡ true

-- the name in VOL=REF is held
abbrev pub IsVolumeHeld : List HeldName → VolumePlan → Type 0
IsVolumeHeld names NotCoded = Unit {0}
IsVolumeHeld names (Serial serial) = Unit {0}
IsVolumeHeld names (OfName name) = is_among names (base_of name) ≡ true
IsVolumeHeld names (OfDd step dd) = Unit {0}

-- all that a DD names is held: what its key means, and the name in VOL=REF
pub record IsSetHeld (names : List HeldName) (meanings : List KeyMeaning) (step dd : ℕ) (p : SetPlan) : Type 0 where
  pub key : (key : Key) → meaning_at meanings step dd ≡ Means key → IsHeldFor names p key
  pub volume : IsVolumeHeld names p.volume

abbrev pub IsDdHeld : List HeldName → List KeyMeaning → ℕ → ℕ → DdKind → Type 0
IsDdHeld names meanings step dd (Sysout class) = Unit {0}
IsDdHeld names meanings step dd Dummy = Unit {0}
IsDdHeld names meanings step dd (Cards cards) = Unit {0}
IsDdHeld names meanings step dd (Set p) = IsSetHeld names meanings step dd p

-- What is left of an agenda, at a place where these DDs of the step were taken or passed over: DDs are taken in their order, requests are
-- those of the step, dispositions are those of its DDs, and all that DDs name is held.
abbrev pub IsRest : List HeldName → List KeyMeaning → ℕ → List DdPlan → List Action → Type 0
IsRest names meanings step dds [] = Unit {0}
IsRest names meanings step dds (Start n s ∷ rest) = IsRest names meanings n [] rest
IsRest names meanings step dds (Take n dd d ∷ rest) =
    (n ≡ step) × (dd ≡ length dds + 1) × IsDdHeld names meanings n dd d.kind × IsRest names meanings step (dds ++ d ∷ []) rest
IsRest names meanings step dds (Ask s move ∷ rest) = (s.dds ≡ dds) × IsRest names meanings step dds rest
IsRest names meanings step dds (Receive ∷ rest) = IsRest names meanings step dds rest
IsRest names meanings step dds (Finish n ∷ rest) = IsRest names meanings step dds rest
IsRest names meanings step dds (Dispose n dd d ∷ rest) =
    (n ≡ step) × (0 < dd) × (slice_get dds (dd - 1) ≡ Some d) × IsRest names meanings step dds rest
IsRest names meanings step dds (Left n dd d ∷ rest) = IsDdHeld names meanings n dd d.kind × IsRest names meanings step dds rest
IsRest names meanings step dds (Over ∷ rest) = IsRest names meanings step dds rest

-- A set that a DD took: its key is what the DD's key means, and held for it; a set that the job made stands under a name held alone.
pub record IsTaken (names : List HeldName) (meanings : List KeyMeaning) (step dd : ℕ) (p : SetPlan) (t : TakenSet) : Type 0 where
  pub meant : meaning_at meanings step dd ≡ Means t.key
  pub held : IsHeldFor names p t.key
  pub made : t.made ≡ true → sees_alone names t.key ≡ true

abbrev pub IsTakenBy : List HeldName → List KeyMeaning → ℕ → ℕ → DdKind → Option TakenSet → Type 0
IsTakenBy names meanings step dd kind None = Unit {0}
IsTakenBy names meanings step dd (Sysout class) (Some t) = ⊥
IsTakenBy names meanings step dd Dummy (Some t) = ⊥
IsTakenBy names meanings step dd (Cards cards) (Some t) = ⊥
IsTakenBy names meanings step dd (Set p) (Some t) = IsTaken names meanings step dd p t

-- the DDs of a step from this number on, each with what it took
abbrev pub AreTaken : List HeldName → List KeyMeaning → ℕ → ℕ → List DdPlan → List DdState → Type 0
AreTaken names meanings step dd [] [] = Unit {0}
AreTaken names meanings step dd [] (x ∷ xs) = ⊥
AreTaken names meanings step dd (d ∷ ds) [] = ⊥
AreTaken names meanings step dd (d ∷ ds) (x ∷ xs) = IsTakenBy names meanings step dd d.kind x.taken × AreTaken names meanings step (dd + 1) ds xs

-- the same of a set that a DD passed
pub record IsPassed (names : List HeldName) (meanings : List KeyMeaning) (q : Passed) : Type 0 where
  pub meant : meaning_at meanings q.step q.dd ≡ Means q.key
  pub made : q.made ≡ true → sees_alone names q.key ≡ true

-- where a PUT is due, it is to a set that was taken and is held alone
abbrev pub IsDue : List HeldName → List DdState → Option Due → Type 0
IsDue names xs None = Unit {0}
IsDue names xs (Some (due.Data name text)) = Unit {0}
IsDue names xs (Some (due.Put name d text)) = (t : TakenSet) × (taken_at xs d ≡ Some t) × (sees_alone names t.key ≡ true)

-- while a step runs, as many DDs were taken as its agenda has passed, each as the DD says
pub record HasTaken (names : List HeldName) (meanings : List KeyMeaning) (step : ℕ) (dds : List DdPlan) (own : Own) : Type 0 where
  pub each : AreTaken names meanings step 1 dds own.dds
  pub due : IsDue names own.dds own.due

-- The own state of a job fits what is left of its agenda.
pub record Fits (names : List HeldName) (meanings : List KeyMeaning) (rest : List Action) (own : Own) : Type 0 where
  pub step : ℕ
  pub dds : List DdPlan
  pub ahead : IsRest names meanings step dds rest
  pub taken : own.runs ≡ true → HasTaken names meanings step dds own
  pub passed : AllByRecursion (IsPassed names meanings) own.passed
