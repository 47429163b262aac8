-- A step of a job's path by its pieces: whether it runs, what it does behind its start, and how it stands among the ended steps; and the job's
-- end. Of what a job sees all but the tests is compared here: they are met by the ended steps alone.
use Rattle.std.specs.Prelude.{◌≡◌, ℕ, ◌+◌, Bool, true, false, List, [], ◌∷◌, ◌++◌, drop, map, None}
use Rattle.jcl_plan.specs.declared.outcome.Fate.TheVariants.{Run}
use Rattle.jcl_plan.specs.declared.outcome.Outcome.{Outcome}
use Rattle.jcl_plan.specs.declared.plan.JobPlan.{JobPlan}
use Rattle.jcl_plan.specs.declared.plan.StepPlan.{StepPlan}
use Rattle.jcl_meaning.specs.declared.state.Ended.{Ended}
use Rattle.jcl_meaning.specs.Agendas.{Action, Finish, disposes_from, takes_from}
use Rattle.jcl_meaning.specs.History.{is_abend}
use Rattle.jcl_meaning.specs.Names.{names_of}
use Rattle.jcl_meaning.specs.Solo.{Ran, given, is_clean, later, run}
use Rattle.jcl_meaning.specs.States.{Fixed, State}
use Rattle.jcl_meaning.specs.TakeActs.{fate_at}
use Rattle.jcl_meaning.specs.Views.{view_at}
use Rattle.part_laws.specs.Fits.{Fits}
use Rattle.path_meaning.specs.Paths.{fates_in}
use Rattle.path_laws.specs.PathParts.{IsBefore, next_outcome, part_runs, path_part}

-- two states show a job the same, but for the tests
pub record ShowTheSame (plan : JobPlan) (date k : ℕ) (s t : State) : Type 0 where
  pub sets : (view_at plan k date s).sets ≡ (view_at plan k date t).sets
  pub catalog : (view_at plan k date s).catalog ≡ (view_at plan k date t).catalog
  pub passed : (view_at plan k date s).passed ≡ (view_at plan k date t).passed
  pub volumes : (view_at plan k date s).volumes ≡ (view_at plan k date t).volumes
  pub abended : (view_at plan k date s).abended ≡ (view_at plan k date t).abended

-- what a step without requests does behind its start
abbrev pub behind_start : ℕ → StepPlan → List Action
behind_start n step = takes_from n 1 step.dds ++ (Finish n ∷ disposes_from n 1 step.dds)

-- a step runs, none of its DDs is taken yet, and these outcomes are given from its end on
pub record HasStarted (s : State) (outcomes : List Outcome) : Type 0 where
  pub runs : s.own.runs ≡ true
  pub unended : s.own.over ≡ None
  pub none_taken : s.own.dds ≡ []
  pub answers : s.answers ≡ given outcomes

-- A step that runs starts, and then does what is behind its start.
pub record StartsFrom (plan : JobPlan) (fixed : Fixed) (k : ℕ) (step : StepPlan) (s : State) (outcomes : List Outcome) (ran : Ran) : Type 0 where
  pub started : State
  pub has_started : HasStarted started outcomes
  pub shows : ShowTheSame plan fixed.date k s started
  pub ended : started.own.ended ≡ s.own.ended
  pub fits : (rest : List Action) → Fits (names_of plan) fixed.meanings (path_part plan k ++ rest) s.own →
      Fits (names_of plan) fixed.meanings (behind_start (k + 1) step ++ rest) started.own
  pub fates : fates_in ran.lines ≡ Run ∷ []
  pub faults : ran.faults ≡ map later (run fixed (behind_start (k + 1) step) started).faults
  pub made : ran.made ≡ (run fixed (behind_start (k + 1) step) started).made
  pub state : ran.state ≡ (run fixed (behind_start (k + 1) step) started).state

abbrev pub StepStarts : Type 0
StepStarts = (plan : JobPlan) (fixed : Fixed) (k : ℕ) (step : StepPlan) (after : List StepPlan) (s : State) (outcomes : List Outcome) →
    drop k plan.steps ≡ step ∷ after → IsBefore s outcomes → part_runs fixed (step ∷ after) s.own ≡ true →
    StartsFrom plan fixed k step s outcomes (run fixed (path_part plan k) s)

-- A step that does not run tells its fate, and changes nothing that a job sees.
pub record PassesOver (fixed : Fixed) (step : StepPlan) (s : State) (ran : Ran) : Type 0 where
  pub fates : fates_in ran.lines ≡ fate_at fixed step s.own ∷ []
  pub faults : ran.faults ≡ []
  pub made : ran.made ≡ []
  pub store : ran.state.store ≡ s.store
  pub passed : ran.state.own.passed ≡ s.own.passed
  pub volumes : ran.state.own.volumes ≡ s.own.volumes
  pub ended : ran.state.own.ended ≡ s.own.ended

abbrev pub StepPasses : Type 0
StepPasses = (plan : JobPlan) (fixed : Fixed) (k : ℕ) (step : StepPlan) (after : List StepPlan) (s : State) (outcomes : List Outcome) →
    drop k plan.steps ≡ step ∷ after → IsBefore s outcomes → part_runs fixed (step ∷ after) s.own ≡ false →
    PassesOver fixed step s (run fixed (path_part plan k) s)

-- Behind its start a step does the same from states that show the same, whether it ends by the one code or the other, or by the one ABEND or
-- the other.
pub record DoTheSame (plan : JobPlan) (date k : ℕ) (a b : Ran) : Type 0 where
  pub faults : a.faults ≡ b.faults
  pub made : a.made ≡ b.made
  pub shows : ShowTheSame plan date k a.state b.state

abbrev pub StepDoes : Type 0
StepDoes = (plan : JobPlan) (fixed : Fixed) (k : ℕ) (step : StepPlan) (after : List StepPlan) (rest : List Action) (s t : State) (os ps : List Outcome) →
    drop k plan.steps ≡ step ∷ after → ShowTheSame plan fixed.date k s t → HasStarted s os → HasStarted t ps →
    is_abend (next_outcome os) ≡ is_abend (next_outcome ps) → Fits (names_of plan) fixed.meanings (behind_start (k + 1) step ++ rest) s.own →
    DoTheSame plan fixed.date (k + 1) (run fixed (behind_start (k + 1) step) s) (run fixed (behind_start (k + 1) step) t)

-- A step that runs and meets no fault stands among the ended steps then, as it ended.
abbrev pub StepEnds : Type 0
StepEnds = (plan : JobPlan) (fixed : Fixed) (k : ℕ) (step : StepPlan) (after : List StepPlan) (s : State) (outcomes : List Outcome) →
    drop k plan.steps ≡ step ∷ after → HasStarted s outcomes → is_clean (run fixed (behind_start (k + 1) step) s) ≡ true →
    (run fixed (behind_start (k + 1) step) s).state.own.ended ≡ record { step = k + 1; outcome = next_outcome outcomes } ∷ s.own.ended

-- The job's end meets the same faults from states that show the same.
abbrev pub EndDoes : Type 0
EndDoes = (plan : JobPlan) (fixed : Fixed) (k : ℕ) (rest : List Action) (s t : State) → drop k plan.steps ≡ [] → ShowTheSame plan fixed.date k s t →
    Fits (names_of plan) fixed.meanings (path_part plan k ++ rest) s.own →
    (run fixed (path_part plan k) s).faults ≡ (run fixed (path_part plan k) t).faults
