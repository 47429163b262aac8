use Rattle.std.proofs.Common.{◌≡◌, ◌<◌, false, sym, Some, List, ap, ◌∙◌, length, arith}
use Rattle.prog_core.specs.declared.units.Operation.{Operation}
use Rattle.prog_core.specs.Operations.{is_busy}
use Rattle.prog_core.proofs.OperationLemmas.{one_more}
use Rattle.prog_core.proofs.units.Units.start.Goals as goal

pub invariant_of-self : goal.invariant_of-self
invariant_of-self c =
    let operations = c.self.inside.operations.items in
    let free : is_busy c.args.self.now (Some c.args.serial) ≡ false = sym c.is_busy.ensures ∙ c.if-is_busy.false in
    let none : is_busy operations (Some c.args.serial) ≡ false = ap (λ operations. is_busy operations (Some c.args.serial)) c.self.view_is ∙ free in
    let size : length operations ≡ length c.args.self.now = ap (λ (operations : List Operation). length operations) c.self.view_is in
    let room : length c.args.self.now < 16 = c.requires free in
    (rw c.push.ensures.items (one_more operations _ c.self.invariant.0 none), omega (arith, c.push.ensures.len, size, room))
