use Rattle.std.proofs.Common.{sym, arith}
use Rattle.jcl_refs.proofs.Earlier.{step_within}
use Rattle.jcl_refs.proofs.tests_of.number_of.Goals as goal

pub overflow_cast-result : goal.overflow_cast-result
overflow_cast-result c =
    let within = step_within c.args.call c.args.reference c.args.k c.args.steps.now c.in-Some.n (sym c.in-Some.ensures) in
    omega (arith, within)
