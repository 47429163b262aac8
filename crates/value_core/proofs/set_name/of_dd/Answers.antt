use Rattle.std.proofs.Common.{refl}
use Rattle.std.proofs.lemmas.Result.{err_from_is_err_and}
use Rattle.value_core.specs.declared.reference.DdReference.{DdReference}
use Rattle.value_core.specs.declared.set.SetName.{SetName}
use Rattle.value_core.specs.declared.set.SetName.TheVariants as name
use Rattle.value_core.specs.SetNames.{of_dd}
use Rattle.value_core.specs.References.{dd_reference}
use Rattle.value_core.proofs.Both.{err_is, ok_is}
use Rattle.value_core.proofs.set_name.of_dd.Goals as goal

pub returns-in_err-dd : goal.returns-in_err-dd
returns-in_err-dd c =
    err_is (dd_reference c.args.text.now) (of_dd c.args.text.now) c.dd_reference.ensures c.in_err-dd.was refl
    (err_from_is_err_and c.from_residual.result c.from_residual.ensures.1)

pub returns : goal.returns
returns c =
    let made : DdReference → SetName = λ dd. name.OfDd dd in
    ok_is made (dd_reference c.args.text.now) (of_dd c.args.text.now) c.dd_reference.ensures c.in_ok-dd.was refl refl
