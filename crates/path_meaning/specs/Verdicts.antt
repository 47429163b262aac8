-- What is told of a job before it runs, exactly: that it is free of faults, its earliest fault, or the first step with too many views. (This profile)
use Rattle.std.specs.Prelude.{◌≡◌, ◌⊎◌, ℕ, ◌-◌, ◌<◌, ◌≤◌, true, List, [], ◌∷◌, length, Option, Some, None, All}
use Rattle.std.specs.List.{Contains, position}
use Rattle.std.specs.Str.{bytes_eq}
use Rattle.jcl_plan.specs.declared.fault.Fault.{Fault}
use Rattle.jcl_plan.specs.declared.outcome.Outcome.{Outcome}
use Rattle.jcl_plan.specs.declared.plan.JobPlan.{JobPlan}
use Rattle.jcl_meaning.specs.declared.state.Place.{Place}
use Rattle.jcl_meaning.specs.Agendas.{Action, Ask, Dispose, Finish, Left, Over, Receive, Start, Take}
use Rattle.jcl_meaning.specs.History.{IsStepOutcome}
use Rattle.jcl_meaning.specs.Solo.{is_clean, solo_path_of}
use Rattle.jcl_meaning.specs.States.{Fixed}
use Rattle.jcl_meaning.specs.Stores.{Store}
use Rattle.jcl_meaning.specs.Views.{ran_to}
use Rattle.path_meaning.specs.Paths.{HasMoreViews, IsSafe, Makes, MeetsFault}

-- On no path a fault comes before this place: a place is the number of actions before it in the agenda of the paths, those of steps that do not run
-- too.
abbrev pub NoFaultBefore : Fixed → JobPlan → Store → ℕ → Type 0
NoFaultBefore fixed plan store place = (outcomes : List Outcome) → All IsStepOutcome outcomes →
    All (λ met. place ≤ met.place) (solo_path_of fixed plan store outcomes).faults

-- nor up to the end of the k-th step
abbrev pub NoFaultUpTo : Fixed → JobPlan → Store → ℕ → Type 0
NoFaultUpTo fixed plan store k = (outcomes : List Outcome) → All IsStepOutcome outcomes → is_clean (ran_to fixed plan store k outcomes) ≡ true

-- up to the k-th no step has more views behind it than the limit
abbrev pub FewViewsUpTo : Fixed → JobPlan → Store → ℕ → ℕ → Type 0
FewViewsUpTo fixed plan store limit k = (n : ℕ) → 1 ≤ n → n ≤ k → HasMoreViews fixed plan store n limit → ⊥

-- how many steps end, with all that is done at their ends, before an action
abbrev pub steps_over : ℕ → Action → ℕ
steps_over steps (Start n step) = n - 1
steps_over steps (Take n dd d) = n - 1
steps_over steps (Ask step move) = 0
steps_over steps Receive = 0
steps_over steps (Finish n) = n - 1
steps_over steps (Dispose n dd d) = n - 1
steps_over steps (Left n dd d) = steps
steps_over steps Over = steps

-- RISK: a path meets this fault there, none meets one at an earlier place, and no step that is over before has too many views
pub record IsEarliest (fixed : Fixed) (plan : JobPlan) (store : Store) (limit : ℕ) (fault : Fault) (step dd : ℕ) (path : List Outcome) : Type 0 where
  pub meets : MeetsFault fixed plan store fault step dd path
  pub none_before : NoFaultBefore fixed plan store meets.place
  pub few : FewViewsUpTo fixed plan store limit (steps_over (length plan.steps) meets.action)

-- TOOMANY: the first step behind which there are more views than the limit, where no path meets a fault up to its end
pub record IsFirstWithMore (fixed : Fixed) (plan : JobPlan) (store : Store) (limit step : ℕ) : Type 0 where
  pub from_one : 1 ≤ step
  pub to_last : step ≤ length plan.steps
  pub more : HasMoreViews fixed plan store step limit
  pub few : FewViewsUpTo fixed plan store limit (step - 1)
  pub none_met : NoFaultUpTo fixed plan store step

-- places rise by step, by DD, and by volume as configured
abbrev pub IsOnEarlier : Option ℕ → Option ℕ → Type 0
IsOnEarlier (Some i) (Some j) = i < j
IsOnEarlier (Some i) None = Unit {0}
IsOnEarlier None other = ⊥

abbrev pub IsOnEarlierVolume : List (List ℕ) → Place → Place → Type 0
IsOnEarlierVolume volumes p q = IsOnEarlier (position (bytes_eq p.serial) volumes) (position (bytes_eq q.serial) volumes)

abbrev pub ComesBefore : List (List ℕ) → Place → Place → Type 0
ComesBefore volumes p q = (p.step < q.step)
    ⊎ ((p.step ≡ q.step) × ((p.dd < q.dd) ⊎ ((p.dd ≡ q.dd) × IsOnEarlierVolume volumes p q)))

abbrev pub AreRising : List (List ℕ) → List Place → Type 0
AreRising volumes [] = Unit {0}
AreRising volumes (p ∷ ps) = All (ComesBefore volumes p) ps × AreRising volumes ps

-- the places where some path makes a set: each once, in order, and no other
pub record AreMade (fixed : Fixed) (plan : JobPlan) (store : Store) (places : List Place) : Type 0 where
  pub made : All (Makes fixed plan store) places
  pub all : (p : Place) → Makes fixed plan store p → Contains places p
  pub rising : AreRising fixed.volumes places

-- ASSURED: no path meets a fault, no step has too many views, and sets are made at these places
pub record IsFree (fixed : Fixed) (plan : JobPlan) (store : Store) (limit : ℕ) (places : List Place) : Type 0 where
  pub safe : IsSafe fixed plan store
  pub few : FewViewsUpTo fixed plan store limit (length plan.steps)
  pub made : AreMade fixed plan store places

-- What is told is one of these three. No two of them hold of one job.
abbrev pub IsNeverTwo : Type 0
IsNeverTwo = (fixed : Fixed) (plan : JobPlan) (store : Store) (limit : ℕ) (places : List Place) → IsFree fixed plan store limit places →
    ((fault : Fault) (step dd : ℕ) (path : List Outcome) → IsEarliest fixed plan store limit fault step dd path → ⊥)
    × ((step : ℕ) → IsFirstWithMore fixed plan store limit step → ⊥)
