use Rattle.std.proofs.Common.{◌≡◌, ◌+◌, length, take}
use Rattle.std.specs.List.{flat_map}
use Rattle.jcl_meaning.specs.Names.{dd_names}
use Rattle.jcl_refs.proofs.plan.names_left.Given as goal

abbrev pub invariant-loop-dd : goal.invariant-loop-dd
invariant-loop-dd l = l.left + length (flat_map (λ dd. dd_names dd.kind) (take l.dd-index l.dds)) ≡ l.initial.left
