use Rattle.std.proofs.Common.{◌≡◌, ap}
use Rattle.jcl_meaning.specs.States.{Fixed}
use Rattle.packed_core.specs.Views.{Views}
use Rattle.packed_core.proofs.Kept.{means_the_same, ok_both, puts_so}
use Rattle.packed_core.proofs.keep.PackedDomainViewDomain.merge.Goals as goal

pub returns-clause-put : goal.returns-clause-put
returns-clause-put g c =
    let domain = c.args.self.now in
    puts_so c.args.behind.now c.put.new.views c.args.view.row.items c.put.result domain.plain.plan.now g.J.Job.plan domain.plain.given.date g.J.Job.fixed.date
    domain.planned (ap (λ (f : Fixed). f.date) domain.so_fixed) c.put.ensures.put

pub returns-clause-meaning : goal.returns-clause-meaning
returns-clause-meaning g c =
    let domain = c.args.self.now in
    let old : Views = c.args.behind.now in
    let new : Views = c.put.new.views in
    ok_both c.put.result (new.part ≡ old.part) (new.scenes ≡ old.scenes) _
    (means_the_same (λ w. w.row.items) domain.plain.plan.now domain.plain.given.date old new) c.put.ensures.part c.put.ensures.scenes
