-- What explains a risk ends in the fault that is told. (This profile)
use Rattle.std.specs.Prelude.{◌≡◌, ℕ, List, [], ◌∷◌, ◌++◌, Some}
use Rattle.jcl_plan.specs.declared.entry.JobLine.{JobLine}
use Rattle.jcl_plan.specs.declared.entry.JobLine.TheVariants as line
use Rattle.jcl_plan.specs.declared.fault.Fault.{Fault}
use Rattle.jcl_plan.specs.declared.outcome.Outcome.{Outcome}
use Rattle.jcl_plan.specs.declared.plan.JobPlan.{JobPlan}
use Rattle.jcl_meaning.specs.Agendas.{path_agenda}
use Rattle.jcl_meaning.specs.Dispositions.{fault_in}
use Rattle.jcl_meaning.specs.Names.{names_of}
use Rattle.jcl_meaning.specs.Solo.{nothing_own}
use Rattle.jcl_meaning.specs.States.{Fixed}
use Rattle.jcl_meaning.specs.Stores.{Store}
use Rattle.part_laws.specs.Fits.{Fits}
use Rattle.path_meaning.specs.Explanations.{path_lines}
use Rattle.path_meaning.specs.Verdicts.{IsEarliest}

-- the line of a fault of a DD: FAULT with its step, DISP, or LEFT with its step
abbrev pub TellsFault : JobLine → Fault → ℕ → ℕ → Type 0
TellsFault (line.Fault told step dd) fault n d = (told ≡ fault) × (step ≡ n) × (dd ≡ d)
TellsFault (line.Disp dd name word) fault n d = (fault_in word ≡ Some fault) × (dd ≡ d)
TellsFault (line.Left step dd name word) fault n d = (fault_in word ≡ Some fault) × (step ≡ n) × (dd ≡ d)
TellsFault other fault n d = ⊥

pub record EndsIn (lines : List JobLine) (fault : Fault) (step dd : ℕ) : Type 0 where
  pub before : List JobLine
  pub last : JobLine
  pub is : lines ≡ before ++ last ∷ []
  pub tells : TellsFault last fault step dd

-- Of each report that an analysis may give, the lines of its path end in the fault, at the step and the DD that it tells.
abbrev pub ExplanationsEnd : Type 0
ExplanationsEnd = (fixed : Fixed) (plan : JobPlan) (store : Store) (limit : ℕ) (fault : Fault) (step dd : ℕ) (path : List Outcome) →
    fixed.job_tests ≡ plan.tests.items → Fits (names_of plan) fixed.meanings (path_agenda plan) nothing_own →
    IsEarliest fixed plan store limit fault step dd path → EndsIn (path_lines fixed plan store path) fault step dd
