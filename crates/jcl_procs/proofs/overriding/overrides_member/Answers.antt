use Rattle.std.proofs.lemmas.Grind.{common_steps}
use Rattle.std.proofs.Common.{◌≡◌, rules, arith}
use Rattle.std.proofs.lemmas.Result.{err_from_is_err_and}
use Rattle.jcl_procs.specs.Overrides.{dds_at}
use Rattle.jcl_procs.proofs.Reached.{error_on, member_error, member_ok}
use Rattle.jcl_procs.proofs.overriding.overrides_member.Goals as goal

pub returns-in_err-members-clause-gives : goal.returns-in_err-members-clause-gives
returns-in_err-members-clause-gives c =
    let taken : c.take_dds-dds.result ≡ dds_at c.args.place.steps c.args.place.at = first_of (search rules, cc, grind arith) in
    error_on _ _ _ (member_error c.args.place c.args.dd c.take_dds-dds.result _ taken c.in_err-members.ensures.gives)
    (err_from_is_err_and c.from_residual.result c.from_residual.ensures.1)

pub returns-clause-gives : goal.returns-clause-gives
returns-clause-gives c =
    let taken : c.take_dds-dds.result ≡ dds_at c.args.place.steps c.args.place.at = first_of (search rules, cc, grind arith) in
    member_ok c.args.place c.args.dd c.take_dds-dds.result _ c.in_ok-members.members c.placed.result c.placed.ensures.placed c.in_ok-members.ensures.gives
    taken (grind (arith, common_steps))
