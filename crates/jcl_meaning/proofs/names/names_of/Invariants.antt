use Rattle.std.proofs.Common.{◌≡◌, [], take}
use Rattle.jcl_meaning.specs.Names.{wanted_by, with_names}
use Rattle.jcl_meaning.proofs.names.names_of.Given as goal

abbrev pub invariant-loop-step : goal.invariant-loop-step
invariant-loop-step l = l.names.items ≡ with_names [] (wanted_by (take l.step-index l.step-items))
