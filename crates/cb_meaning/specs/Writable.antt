-- Which plans records can spell: limits, ranges, and references to what is earlier. How many records are free, and so how many cards there may
-- be, is no part of it. (This profile)
use Rattle.std.specs.Prelude.{◌≡◌, ℕ, ◌+◌, ◌-◌, ◌<◌, ◌≤◌, ◌⊎◌, Bool, true, ◌&&◌, ◌||◌, nat_le, List, [], ◌∷◌, length, slice_get, Option, Some, None, All}
use Rattle.jname_core.specs.declared.key.Key.{Key}
use Rattle.jname_core.specs.declared.key.Key.TheVariants.{Named, Relative, Temporary, Unnamed}
use Rattle.jname_core.specs.Characters.{is_job_class, is_letter_or_digit}
use Rattle.jname_core.specs.Grammar.{IsDsNameWithin, IsName8, IsSerial}
use Rattle.jcl_plan.specs.declared.outcome.TheConstants.{GREATEST_CODE}
use Rattle.jcl_plan.specs.declared.plan.DdKind.{DdKind}
use Rattle.jcl_plan.specs.declared.plan.DdKind.TheVariants.{Cards, Dummy, Set, Sysout}
use Rattle.jcl_plan.specs.declared.plan.DdPlan.{DdPlan}
use Rattle.jcl_plan.specs.declared.plan.Expiry.{Expiry}
use Rattle.jcl_plan.specs.declared.plan.Expiry.TheVariants as expiry
use Rattle.jcl_plan.specs.declared.plan.JobPlan.{JobPlan}
use Rattle.jcl_plan.specs.declared.plan.SetPlan.{SetPlan}
use Rattle.jcl_plan.specs.declared.plan.Space.{Space}
use Rattle.jcl_plan.specs.declared.plan.StepPlan.{StepPlan}
use Rattle.jcl_plan.specs.declared.plan.Test.{Test}
use Rattle.jcl_plan.specs.declared.plan.VolumePlan.{VolumePlan}
use Rattle.jcl_plan.specs.declared.plan.TheConstants.{MOST_DDS, MOST_TRACKS}
use Rattle.jcl_plan.specs.declared.plan.VolumePlan.TheVariants as volume
use Rattle.cb_meaning.specs.declared.layout.TheConstants.{LAST_DAY, MOST_DAYS}

abbrev pub most_dds : ℕ
most_dds = MOST_DDS

abbrev pub most_tracks : ℕ
most_tracks = MOST_TRACKS

abbrev pub IsName : Option (List ℕ) → Type 0
IsName None = Unit {0}
IsName (Some name) = IsName8 name

-- a test of the JOB statement names no step, one of a step none but an earlier one
abbrev pub IsJobTest : Test → Type 0
IsJobTest t = (t.code ≤ GREATEST_CODE) × (t.step ≡ None)

abbrev pub NamesEarlier : ℕ → Option ℕ → Type 0
NamesEarlier k None = Unit {0}
NamesEarlier k (Some step) = (1 ≤ step) × (step < k)

abbrev pub IsStepTest : ℕ → Test → Type 0
IsStepTest k t = (t.code ≤ GREATEST_CODE) × NamesEarlier k t.step

-- a DD that is for a set, by its numbers from 1
abbrev pub kind_at : List StepPlan → ℕ → ℕ → Option DdKind
kind_at steps step dd = by_step (slice_get steps (step - 1)) dd
  where
    by_dd : Option DdPlan → Option DdKind
    by_dd None = None
    by_dd (Some d) = Some d.kind

    by_step : Option StepPlan → ℕ → Option DdKind
    by_step None dd = None
    by_step (Some s) dd = by_dd (slice_get s.dds (dd - 1))

abbrev pub IsForSet : Option DdKind → Type 0
IsForSet None = ⊥
IsForSet (Some (Set p)) = Unit {0}
IsForSet (Some Dummy) = ⊥
IsForSet (Some (Sysout class)) = ⊥
IsForSet (Some (Cards cards)) = ⊥

-- it stands before another
abbrev pub IsBefore : ℕ → ℕ → ℕ → ℕ → Type 0
IsBefore step dd k d = (step < k) ⊎ ((step ≡ k) × (dd < d))

pub record IsEarlierSet (steps : List StepPlan) (k d step dd : ℕ) : Type 0 where
  pub from_one : (1 ≤ step) × (1 ≤ dd)
  pub before : IsBefore step dd k d
  pub for_set : IsForSet (kind_at steps step dd)

-- the names of sets: an unnamed one stems from an earlier DD, or from its own
abbrev pub IsKeyAt : List StepPlan → ℕ → ℕ → Key → Type 0
IsKeyAt steps k d (Named name) = IsDsNameWithin 44 name
IsKeyAt steps k d (Relative base sign amount) = IsDsNameWithin 35 base × (amount ≤ 255)
IsKeyAt steps k d (Temporary name) = IsName8 name
IsKeyAt steps k d (Unnamed step dd) = ((step ≡ k) × (dd ≡ d)) ⊎ IsEarlierSet steps k d step dd

abbrev pub IsVolumeAt : List StepPlan → ℕ → ℕ → VolumePlan → Type 0
IsVolumeAt steps k d volume.NotCoded = Unit {0}
IsVolumeAt steps k d (volume.Serial serial) = IsSerial serial
IsVolumeAt steps k d (volume.OfName name) = IsDsNameWithin 44 name
IsVolumeAt steps k d (volume.OfDd step dd) = IsEarlierSet steps k d step dd

abbrev pub IsSpace : Option Space → Type 0
IsSpace None = Unit {0}
IsSpace (Some s) = (s.primary ≤ most_tracks) × (s.secondary ≤ most_tracks)

abbrev pub IsUnits : ℕ → Option ℕ → Type 0
IsUnits units None = Unit {0}
IsUnits units (Some n) = (1 ≤ n) × (n ≤ units)

-- a day that a date has, or so many days at most from the job's date
abbrev pub IsExpiry : Expiry → Type 0
IsExpiry expiry.NotCoded = Unit {0}
IsExpiry (expiry.Day day) = day ≤ LAST_DAY
IsExpiry (expiry.DaysFromToday days) = days ≤ MOST_DAYS

pub record IsSetAt (units : ℕ) (steps : List StepPlan) (k d : ℕ) (p : SetPlan) : Type 0 where
  pub key : IsKeyAt steps k d p.key
  pub volume : IsVolumeAt steps k d p.volume
  pub space : IsSpace p.space
  pub unit : IsUnits units p.units
  pub expiry_fits : IsExpiry p.expiry

-- a card has 80 printable characters
pub record IsCard (card : List ℕ) : Type 0 where
  pub columns : length card ≡ 80
  pub printable : All (λ c. (32 ≤ c) × (c ≤ 126)) card

abbrev pub IsKindAt : ℕ → List StepPlan → ℕ → ℕ → DdKind → Type 0
IsKindAt units steps k d (Sysout class) = is_letter_or_digit class ≡ true
IsKindAt units steps k d Dummy = Unit {0}
IsKindAt units steps k d (Cards cards) = All IsCard cards
IsKindAt units steps k d (Set p) = IsSetAt units steps k d p

-- the first DD of a step has a name
abbrev pub BeginsNamed : List DdPlan → Type 0
BeginsNamed [] = Unit {0}
BeginsNamed (dd ∷ dds) = FirstNamed dd.name
  where
    FirstNamed : Option (List ℕ) → Type 0
    FirstNamed None = ⊥
    FirstNamed (Some name) = Unit {0}

abbrev pub AreDds : ℕ → List StepPlan → ℕ → ℕ → List DdPlan → Type 0
AreDds units steps k d [] = Unit {0}
AreDds units steps k d (dd ∷ dds) = IsName dd.name × IsKindAt units steps k d dd.kind × AreDds units steps k (d + 1) dds

pub record IsStepAt (units : ℕ) (steps : List StepPlan) (k : ℕ) (step : StepPlan) : Type 0 where
  pub name : IsName step.name
  pub procedure_step : IsName step.procedure_step
  pub program : IsName8 step.program
  pub tests : All (IsStepTest k) step.tests.items
  pub few_dds : length step.dds ≤ most_dds
  pub begins_named : BeginsNamed step.dds
  pub dds : AreDds units steps k 1 step.dds

abbrev pub AreSteps : ℕ → List StepPlan → ℕ → List StepPlan → Type 0
AreSteps units all k [] = Unit {0}
AreSteps units all k (step ∷ steps) = IsStepAt units all k step × AreSteps units all (k + 1) steps

-- a plan for so many steps at most, and so many lists of volumes
pub record IsWritable (most_steps units : ℕ) (plan : JobPlan) : Type 0 where
  pub name : IsName8 plan.name
  pub class : is_job_class plan.class ≡ true
  pub priority : plan.priority ≤ 13
  pub message_class : is_letter_or_digit plan.message_class ≡ true
  pub tests : All IsJobTest plan.tests.items
  pub some_step : 1 ≤ length plan.steps
  pub few_steps : length plan.steps ≤ most_steps
  pub steps : AreSteps units plan.steps 1 plan.steps
