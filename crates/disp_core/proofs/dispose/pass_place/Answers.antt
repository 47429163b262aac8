use Rattle.std.proofs.Common.{◌∙◌, sym}
use Rattle.disp_core.proofs.Passes.{pass_found}
use Rattle.disp_core.proofs.dispose.pass_place.Goals as goal

pub returns-then-is_pass_of-clause-found : goal.returns-then-is_pass_of-clause-found
returns-then-is_pass_of-clause-found c =
    (c.loop-i-test.true, pass_found c.args.n c.args.dd c.args.passed.now c.loop-i.i c.index-passed-i.result c.loop-i-test.true c.index-passed-i.is (sym c.is_pass_of.ensures ∙ c.if-is_pass_of.true) c.loop-i.invariant)
