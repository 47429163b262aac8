use Rattle.std.proofs.Common.{◌≡◌, take}
use Rattle.std.specs.List.{flat_map}
use Rattle.jcl_meaning.specs.Names.{dd_names, with_names}
use Rattle.jcl_meaning.proofs.names.want_of_dds.Given as goal

abbrev pub invariant-loop-dd : goal.invariant-loop-dd
invariant-loop-dd l = l.names.items ≡ with_names l.initial.names.items (flat_map (λ dd. dd_names dd.kind) (take l.dd-index l.dds))
