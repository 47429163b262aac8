-- An outcome beside the fate of its step, if there is such a step.
use Rattle.std.specs.Prelude.{Option, Some, None}
use Rattle.jcl_plan.specs.declared.outcome.Fate.{Fate}
use Rattle.jcl_plan.specs.declared.outcome.Outcome.{Outcome}
use Rattle.path_meaning.specs.Certificates.{IsOfFate}

abbrev pub IsOfFateAt : Option Fate → Outcome → Type 0
IsOfFateAt None o = ⊥
IsOfFateAt (Some f) o = IsOfFate f o
