-- A job along given outcomes of its steps, and by its programs.
use Rattle.std.specs.Prelude.{◌≡◌, true, List}
use Rattle.jcl_plan.specs.declared.plan.JobPlan.{JobPlan}
use Rattle.jcl_meaning.specs.declared.program.SoloProgram.{SoloProgram}
use Rattle.jcl_meaning.specs.declared.solo.SoloAnswers.{SoloAnswers}
use Rattle.jcl_meaning.specs.Solo.{is_clean, solo_of}
use Rattle.jcl_meaning.specs.States.{Fixed}
use Rattle.jcl_meaning.specs.Stores.{Store}
use Rattle.jcl_meaning.specs.WellFormed.{AreWellFormedPrograms}
use Rattle.path_meaning.specs.Paths.{IsSafe}

-- A job that meets no fault however its steps end meets none whatever its programs do, and whatever cancels and growths come.
abbrev pub CleanByPrograms : Type 0
CleanByPrograms = (fixed : Fixed) (plan : JobPlan) (programs : List SoloProgram) (s : Store) (answers : SoloAnswers) → AreWellFormedPrograms programs →
    IsSafe fixed plan s → is_clean (solo_of fixed plan s programs answers) ≡ true
