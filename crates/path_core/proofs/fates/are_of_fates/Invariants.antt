use Rattle.std.proofs.Common.{◌≡◌, ◌<◌, ℕ, Some}
use Rattle.std.specs.Prelude.{slice_get}
use Rattle.jcl_plan.specs.declared.outcome.Outcome.{Outcome}
use Rattle.path_core.specs.FatesMet.{IsOfFateAt}
use Rattle.path_core.proofs.fates.are_of_fates.Given as goal

abbrev pub invariant-loop-place : goal.invariant-loop-place
invariant-loop-place l = (k : ℕ) (o : Outcome) → k < l.place → slice_get l.path k ≡ Some o → IsOfFateAt (slice_get l.fates k) o
