use Rattle.std.proofs.Common.{refl}
use Rattle.std.specs.Option.{option_copied}
use Rattle.std.proofs.lemmas.Result.{err_from_is_err_and}
use Rattle.value_core.specs.Reads.{and_faults, name}
use Rattle.value_core.specs.SetNames.{member_faults, temporary}
use Rattle.value_core.proofs.Both.{err_is, with_fault_is}
use Rattle.value_core.proofs.set_name.temporary.Goals as goal

pub returns-in_err-name : goal.returns-in_err-name
returns-in_err-name c =
    let text = c.args.text.now in
    let within = option_copied c.args.within in
    err_is (and_faults (name text) (member_faults within)) (temporary text within)
    (with_fault_is (name text) (member_faults within) c.name.ensures c.member_fault.ensures c.with_fault.ensures)
    c.in_err-name.was refl (err_from_is_err_and c.from_residual.result c.from_residual.ensures.1)
