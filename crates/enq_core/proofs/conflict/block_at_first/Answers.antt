use Rattle.std.proofs.Common.{[], sym, subst}
use Rattle.std.specs.Prelude.{take}
use Rattle.enq_core.specs.Holds.{IsFirstBlock}
use Rattle.enq_core.proofs.Alone.{first_blocked}
use Rattle.enq_core.proofs.conflict.block_at_first.Goals as goal

pub returns-in-Some-lowest_holder-clause-some : goal.returns-in-Some-lowest_holder-clause-some
returns-in-Some-lowest_holder-clause-some c =
    let first = c.in-Some.first.now in
    let job = c.in-Some-lowest_holder.job in
    subst (λ ws. IsFirstBlock c.args.holds.now (take 1 ws) (record { job = job; name = first.name })) (sym c.in-Some.ensures.cases.0)
    (first_blocked c.args.holds.now first [] job c.in-Some-lowest_holder.ensures.some)
