-- A job's path, part by part. (This profile)
use Rattle.std.specs.Prelude.{◌≡◌, ◌<◌, ◌≤◌, ℕ, ◌+◌, true, List, [], ◌∷◌, ◌++◌, drop, length, slice_get, take, Some, All, Contains}
use Rattle.jcl_plan.specs.declared.outcome.Outcome.{Outcome}
use Rattle.jcl_plan.specs.declared.plan.JobPlan.{JobPlan}
use Rattle.jcl_plan.specs.declared.plan.StepPlan.{StepPlan}
use Rattle.jcl_meaning.specs.declared.state.Place.{Place}
use Rattle.jcl_meaning.specs.Agendas.{Action, path_agenda, steps_from}
use Rattle.jcl_meaning.specs.History.{IsStepOutcome}
use Rattle.jcl_meaning.specs.Names.{names_of}
use Rattle.jcl_meaning.specs.Programs.{moves_of}
use Rattle.jcl_meaning.specs.Solo.{Met, Ran, is_clean, nothing_own, run, solo_path_of}
use Rattle.jcl_meaning.specs.States.{Fixed, State}
use Rattle.jcl_meaning.specs.Stores.{Store}
use Rattle.jcl_meaning.specs.Views.{View, ran_to, view_of}
use Rattle.meaning_laws.specs.Laws.{joined}
use Rattle.part_laws.specs.Fits.{Fits}
use Rattle.path_meaning.specs.Paths.{HasMoreViews, Makes, fates_in}
use Rattle.path_laws.specs.PathParts.{IsBefore, next_outcome, path_part}
use Rattle.path_laws.specs.ViewLaws.{DidTheSame}

-- how many actions of the path come before part k
abbrev pub before_part : JobPlan → ℕ → ℕ
before_part plan k = length (steps_from (moves_of []) 1 (take k plan.steps))

-- part k of a path, from where the first k steps came to
abbrev pub part_ran : Fixed → JobPlan → Store → ℕ → List Outcome → Ran
part_ran fixed plan store k outcomes = run fixed (path_part plan k) (ran_to fixed plan store k outcomes).state

-- A path is its parts, one after another.
abbrev pub PathGoesOn : Type 0
PathGoesOn = (fixed : Fixed) (plan : JobPlan) (store : Store) (k : ℕ) (outcomes : List Outcome) → k < length plan.steps →
    ran_to fixed plan store (k + 1) outcomes ≡ joined (before_part plan k) (ran_to fixed plan store k outcomes) (part_ran fixed plan store k outcomes)

abbrev pub PathEnds : Type 0
PathEnds = (fixed : Fixed) (plan : JobPlan) (store : Store) (outcomes : List Outcome) →
    solo_path_of fixed plan store outcomes
    ≡ joined (before_part plan (length plan.steps)) (ran_to fixed plan store (length plan.steps) outcomes)
    (part_ran fixed plan store (length plan.steps) outcomes)

-- A path begins with what its first k steps do.
abbrev pub PathBegins : Type 0
PathBegins = (fixed : Fixed) (plan : JobPlan) (store : Store) (k : ℕ) (outcomes : List Outcome) →
    (later : Ran) × (solo_path_of fixed plan store outcomes ≡ joined (before_part plan k) (ran_to fixed plan store k outcomes) later)

-- An action of a part is the path's as many places on as actions come before the part.
abbrev pub AgendaHas : Type 0
AgendaHas = (plan : JobPlan) (k at : ℕ) (action : Action) → k ≤ length plan.steps → slice_get (path_part plan k) at ≡ Some action →
    slice_get (path_agenda plan) (before_part plan k + at) ≡ Some action

-- Behind k steps without a fault the outcomes of the later steps are left,
abbrev pub StandsBefore : Type 0
StandsBefore = (fixed : Fixed) (plan : JobPlan) (store : Store) (k : ℕ) (outcomes : List Outcome) → k ≤ length plan.steps →
    is_clean (ran_to fixed plan store k outcomes) ≡ true → IsBefore (ran_to fixed plan store k outcomes).state (drop k outcomes)

-- the job's own state fits what is left of the path,
abbrev pub FitsBefore : Type 0
FitsBefore = (fixed : Fixed) (plan : JobPlan) (store : Store) (k : ℕ) (outcomes : List Outcome) → k ≤ length plan.steps →
    Fits (names_of plan) fixed.meanings (path_agenda plan) nothing_own →
    (rest : List Action) × Fits (names_of plan) fixed.meanings (path_part plan k ++ rest) (ran_to fixed plan store k outcomes).state.own

-- and the lines tell a fate for each of the steps.
abbrev pub TellsFates : Type 0
TellsFates = (fixed : Fixed) (plan : JobPlan) (store : Store) (k : ℕ) (outcomes : List Outcome) → k ≤ length plan.steps →
    is_clean (ran_to fixed plan store k outcomes) ≡ true → length (fates_in (ran_to fixed plan store k outcomes).lines) ≡ k

-- What the first k steps do, but for the lines, depends on how they end alone: not on the outcomes of later steps.
abbrev pub PathSees : Type 0
PathSees = (fixed : Fixed) (plan : JobPlan) (store : Store) (k : ℕ) (os ps : List Outcome) → k ≤ length plan.steps → fixed.job_tests ≡ plan.tests.items →
    Fits (names_of plan) fixed.meanings (path_agenda plan) nothing_own →
    ((n : ℕ) → n < k → next_outcome (drop n os) ≡ next_outcome (drop n ps)) → is_clean (ran_to fixed plan store k os) ≡ true →
    DidTheSame plan fixed.date k (ran_to fixed plan store k os) (ran_to fixed plan store k ps)

-- A list of all views behind k steps that is within the limit leaves no room for more.
abbrev pub AreAllViews : Fixed → JobPlan → Store → ℕ → List View → Type 0
AreAllViews fixed plan store k views = (outcomes : List Outcome) → All IsStepOutcome outcomes → is_clean (ran_to fixed plan store k outcomes) ≡ true →
    Contains views (view_of fixed plan store k outcomes)

abbrev pub AreFew : Type 0
AreFew = (fixed : Fixed) (plan : JobPlan) (store : Store) (k limit : ℕ) (views : List View) → AreAllViews fixed plan store k views → length views ≤ limit →
    HasMoreViews fixed plan store k limit → ⊥

-- A fault of a run is met within it.
abbrev pub MetWithin : Type 0
MetWithin = (fixed : Fixed) (actions : List Action) (s : State) → All (λ met. met.place < length actions) (run fixed actions s).faults

-- A step makes sets for its own DDs, on volumes that are configured; the job's end makes none.
abbrev pub MadeByStep : Type 0
MadeByStep = (plan : JobPlan) (fixed : Fixed) (k : ℕ) (step : StepPlan) (later : List StepPlan) (s : State) (p : Place) → drop k plan.steps ≡ step ∷ later →
    Contains (run fixed (path_part plan k) s).made p → (p.step ≡ k + 1) × (1 ≤ p.dd) × (p.dd ≤ length step.dds) × Contains fixed.volumes p.serial

abbrev pub NoneMadeAtEnd : Type 0
NoneMadeAtEnd = (plan : JobPlan) (fixed : Fixed) (s : State) → (run fixed (path_part plan (length plan.steps)) s).made ≡ []

-- A whole path makes sets on configured volumes alone.
abbrev pub MadeIsConfigured : Type 0
MadeIsConfigured = (fixed : Fixed) (plan : JobPlan) (store : Store) (p : Place) → Makes fixed plan store p → Contains fixed.volumes p.serial
