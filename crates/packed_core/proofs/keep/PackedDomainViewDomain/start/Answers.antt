use Rattle.std.proofs.Common.{ap}
use Rattle.jcl_meaning.specs.States.{Fixed}
use Rattle.jcl_meaning.specs.Stores.{store_of}
use Rattle.packed_core.proofs.Kept.{begins_so}
use Rattle.packed_core.proofs.keep.PackedDomainViewDomain.start.Goals as goal

pub returns-clause-first : goal.returns-clause-first
returns-clause-first g c =
    let domain = c.args.self.now in
    begins_so c.first.result (store_of domain.plain.store.now) domain.plain.plan.now g.J.Job.plan domain.plain.given.date g.J.Job.fixed.date domain.planned
    (ap (λ (f : Fixed). f.date) domain.so_fixed) c.first.ensures.first
