use Rattle.std.proofs.Common.{◌≡◌, map, arith, rules, ap, ◌∙◌}
use Rattle.std.proofs.lemmas.List.{length-map}
use Rattle.arrayvec.proofs.ArrayVecLemmas.{items-with_items}
use Rattle.prog_core.specs.declared.units.Operation.{Operation}
use Rattle.prog_core.specs.Operations.{without_owner}
use Rattle.prog_core.proofs.OperationLemmas.{each_without_owner}
use Rattle.prog_core.proofs.units.Units.abandon.Goals as goal

pub invariant_of-self : goal.invariant_of-self
invariant_of-self c =
    let operations = c.self.inside.operations.items in
    let after : c.abandon_all.new.operations ≡ map (without_owner c.args.job) operations =
    c.abandon_all.ensures ∙ ap (map (without_owner c.args.job)) c.as_mut_slice.ensures.value in
    rw (items-with_items c.self.inside.operations c.abandon_all.new.operations (search rules), after)
    (each_without_owner c.args.job operations c.self.invariant.0, omega (arith, length-map {B = Operation} operations, c.self.invariant.1))
