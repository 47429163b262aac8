use Rattle.std.proofs.lemmas.Grind.{common_steps}
use Rattle.jcl_dds.specs.declared.dd.DdCard.{DdCard}
use Rattle.std.proofs.Common.{◌≡◌, Some, slice_get, ◌∙◌, ap, sym, rules, arith, ◌+◌, Result, Ok}
use Rattle.std.proofs.lemmas.Result.{err_from_is_err_and}
use Rattle.jcl_plan.specs.declared.fault.Cause.{Cause}
use Rattle.jcl_procs.specs.declared.overriding.Members.{Members}
use Rattle.jcl_procs.specs.Overrides.{with_dd}
use Rattle.jcl_procs.proofs.Reached.{mapped, merge_gives, refused_on}
use Rattle.jcl_procs.proofs.overriding.merged_there.Goals as goal

pub returns-in_err-both-clause-gives : goal.returns-in_err-both-clause-gives
returns-in_err-both-clause-gives c =
    let there : slice_get c.args.dds c.args.n ≡ Some c.take_dd-there.result = first_of (search rules, cc, grind arith) in
    let k : DdCard → Members = λ value. let m : Members = record { dds = with_dd c.args.dds c.args.n value; member = c.args.n + 1 } in m in
    refused_on _ _ _ (merge_gives c.args.dds c.args.n c.args.dd c.take_dd-there.result c.merged.result there c.merged.ensures ∙ ap (mapped k) c.in_err-both.was)
    (err_from_is_err_and c.from_residual.result c.from_residual.ensures.1)

pub returns-clause-gives : goal.returns-clause-gives
returns-clause-gives c =
    let there : slice_get c.args.dds c.args.n ≡ Some c.take_dd-there.result = first_of (search rules, cc, grind arith) in
    let k : DdCard → Members = λ value. let m : Members = record { dds = with_dd c.args.dds c.args.n value; member = c.args.n + 1 } in m in
    let is : c.new.result ≡ with_dd c.args.dds c.args.n c.in_ok-both.both = grind (arith, common_steps) in
    merge_gives c.args.dds c.args.n c.args.dd c.take_dd-there.result c.merged.result there c.merged.ensures ∙ ap (mapped k) c.in_ok-both.was
    ∙ ap (λ ds. let r : Result Members Cause = Ok (record { dds = ds; member = c.args.n + 1 }) in r) (sym is)
