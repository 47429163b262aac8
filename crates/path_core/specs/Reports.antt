-- The path of a report of an analysis is taken.
use Rattle.std.specs.Prelude.{◌≡◌, ℕ, List}
use Rattle.jcl_plan.specs.declared.fault.Fault.{Fault}
use Rattle.jcl_plan.specs.declared.outcome.Outcome.{Outcome}
use Rattle.jcl_plan.specs.declared.plan.JobPlan.{JobPlan}
use Rattle.jcl_meaning.specs.Agendas.{path_agenda}
use Rattle.jcl_meaning.specs.Names.{names_of}
use Rattle.jcl_meaning.specs.Solo.{nothing_own}
use Rattle.jcl_meaning.specs.States.{Fixed}
use Rattle.jcl_meaning.specs.Stores.{Store, store_of}
use Rattle.part_laws.specs.Fits.{Fits}
use Rattle.path_meaning.specs.Certificates.{TakesPath}
use Rattle.path_meaning.specs.Verdicts.{IsEarliest}
use Rattle.path_search.specs.declared.verdict.RiskReport.{RiskReport}
use Rattle.path_core.specs.declared.start.StartView.{StartView}
use Rattle.path_core.specs.Starts.{fixed_from}

abbrev pub ReportsPass : Type 0
ReportsPass = (fixed : Fixed) (plan : JobPlan) (store : Store) (limit : ℕ) (fault : Fault) (step dd : ℕ) (path : List Outcome) →
    fixed.job_tests ≡ plan.tests.items → Fits (names_of plan) fixed.meanings (path_agenda plan) nothing_own →
    IsEarliest fixed plan store limit fault step dd path → TakesPath fixed plan store fault step dd path

-- a job that starts so takes the path of a report, and meets the fault that is told
abbrev pub TakesReport : StartView → JobPlan → RiskReport → Type 0
TakesReport start plan report = TakesPath (fixed_from start plan) plan (store_of start.store) report.fault report.step report.dd report.path.items
