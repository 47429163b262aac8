use Rattle.std.proofs.Common.{◌∙◌, ap, subst, sym}
use Rattle.value_core.specs.Reads.{Gives}
use Rattle.jcl_procs.specs.Counting.{counted}
use Rattle.jcl_procs.specs.Expansions.{and_then, flat_from, flat_of}
use Rattle.jcl_procs.proofs.Counting.{counted_ok}
use Rattle.jcl_refs.specs.Plans.{most_steps, plan_of}
use Rattle.jcl_job.proofs.job.job_in.Goals as goal

pub returns : goal.returns
returns c =
    let flat = flat_of c.args.library.now c.args.deck in
    let same = ap (λ procedures. counted most_steps (flat_from c.args.library.now procedures 1 c.args.deck.steps)) (sym c.as_slice.ensures) in
    let it = counted_ok most_steps flat c.in_ok-expansion.expansion (same ∙ c.in_ok-expansion.ensures) in
    subst (Gives c.plan_of.result) (sym (ap (λ r. and_then r (plan_of c.args.units.now c.args.deck.job)) it.1)) (c.plan_of.ensures it.0 it.2)
