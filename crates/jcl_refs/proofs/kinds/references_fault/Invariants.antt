use Rattle.std.proofs.Common.{◌≡◌, take}
use Rattle.std.specs.List.{flat_map}
use Rattle.operand_core.specs.Faults.{told}
use Rattle.jcl_refs.specs.Kinds.{spot_of}
use Rattle.jcl_refs.specs.Plans.{faults_of, led}
use Rattle.jcl_refs.proofs.kinds.references_fault.Given as goal

-- the fault of those that were looked at
abbrev pub invariant-loop-reference : goal.invariant-loop-reference
invariant-loop-reference l =
    l.fault ≡ told (flat_map (λ reference. faults_of (led (spot_of l.spot) reference)) (take l.reference-index l.references))
