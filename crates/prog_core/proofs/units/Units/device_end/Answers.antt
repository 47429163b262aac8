use Rattle.std.proofs.Common.{◌≡◌, Bool, not, arith, rules, ap, ◌∙◌}
use Rattle.std.specs.Str.{bytes_eq}
use Rattle.arrayvec.proofs.ArrayVecLemmas.{filter-from_retain}
use Rattle.prog_core.specs.declared.units.Operation.{Operation}
use Rattle.prog_core.specs.Operations.{without_operation}
use Rattle.prog_core.proofs.OperationLemmas.{each_fewer}
use Rattle.prog_core.proofs.units.Units.device_end.Goals as goal

pub invariant_of-self : goal.invariant_of-self
invariant_of-self c =
    let other : Operation → Bool = λ o. not (bytes_eq o.serial c.args.serial) in
    let left : c.retain.new.self.items ≡ without_operation c.self.inside.operations.items c.args.serial =
    filter-from_retain _ other _ (λ x b f' y called. search rules) _ _ c.retain.ensures.filtered in
    (rw left (each_fewer other c.self.inside.operations.items c.self.invariant.0), omega (arith, c.retain.ensures.bound, c.self.invariant.1))

pub returns-clause-ok : goal.returns-clause-ok
returns-clause-ok c =
    let other : Operation → Bool = λ o. not (bytes_eq o.serial c.args.serial) in
    filter-from_retain _ other _ (λ x b f' y called. search rules) _ _ c.retain.ensures.filtered
    ∙ ap (λ operations. without_operation operations c.args.serial) c.self.view_is
