use Rattle.std.proofs.Common.{◌≡◌, take}
use Rattle.view_core.proofs.again.outputs_again.Given as goal

abbrev pub invariant-loop-output : goal.invariant-loop-output
invariant-loop-output l = l.copy ≡ take l.output-index l.outputs
