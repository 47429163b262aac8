use Rattle.std.proofs.Common.{Bool, cond, sym, ap, ◌∙◌}
use Rattle.std.proofs.lemmas.Result.{err_from_is_err_and}
use Rattle.operand_core.specs.Faults.{told, written_name_faults}
use Rattle.value_core.proofs.Both.{err_is}
use Rattle.jcl_dds.specs.Dds.{dd_names, qualified_names}
use Rattle.jcl_dds.proofs.dd.dd_names.Goals as goal

pub returns-in_err-step : goal.returns-in_err-step
returns-in_err-step c =
    let name = c.args.name.now in
    let same = ap (λ (q : Bool). told (cond q (qualified_names name).faults (written_name_faults name))) (sym c.is_qualified.ensures ∙ c.if-is_qualified.true)
    in
    err_is (qualified_names name) (dd_names name) c.qualified_names.ensures c.in_err-step.was same
    (err_from_is_err_and c.from_residual.result c.from_residual.ensures.1)
