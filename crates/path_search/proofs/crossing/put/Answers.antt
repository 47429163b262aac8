use Rattle.std.proofs.Common.{List, subst, sym, arith}
use Rattle.path_search.specs.declared.trail.Link.{Link}
use Rattle.path_search.specs.Puts.{IsPutIn, Past}
use Rattle.path_search.proofs.Putting.{put_new, put_stood}
use Rattle.path_search.proofs.crossing.put.Goals as goal

pub returns-then-len-limit-clause-put : goal.returns-then-len-limit-clause-put
returns-then-len-limit-clause-put g c = Past (let e = c.len.ensures in omega arith)

pub returns-in_ok-push-clause-put : goal.returns-in_ok-push-clause-put
returns-in_ok-push-clause-put g c =
    let members = g.D.ViewDomain.members c.args.domain.now in
    let view = g.D.ViewDomain.meaning c.args.domain.now c.args.views.now c.args.view in
    subst (λ (ls : List Link). IsPutIn c.args.limit (members c.args.views.now) c.args.links.now view c.args.link (members c.merge.new.behind) ls)
    (sym c.in_ok-push.ensures.ok)
    (put_new c.args.limit (members c.args.views.now) (members c.merge.new.behind) c.args.links.now view c.args.link c.in_ok-merge.field-0
    c.if-not-branch.true c.in_ok-merge.ensures.put)

pub returns-else-not-branch-clause-put : goal.returns-else-not-branch-clause-put
returns-else-not-branch-clause-put g c =
    let members = g.D.ViewDomain.members c.args.domain.now in
    let view = g.D.ViewDomain.meaning c.args.domain.now c.args.views.now c.args.view in
    put_stood c.args.limit (members c.args.views.now) (members c.merge.new.behind) c.args.links.now view c.args.link c.in_ok-merge.field-0
    c.if-not-branch.false c.in_ok-merge.ensures.put
