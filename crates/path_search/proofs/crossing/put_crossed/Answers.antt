use Rattle.std.proofs.Common.{subst, sym}
use Rattle.view_domain.specs.declared.crossed.Crossed.{Crossed}
use Rattle.path_search.specs.Puts.{ArePut, told_branch, told_of}
use Rattle.path_search.proofs.Putting.{on_ok, put_append, puts_as, puts_counted}
use Rattle.path_search.proofs.crossing.put_crossed.Goals as goal

pub put_branch-requires-in-Runs : goal.put_branch-requires-in-Runs
put_branch-requires-in-Runs g c =
    let members = g.D.ViewDomain.members c.args.domain.now in
    record {
      counted = puts_counted c.args.limit (told_branch (g.D.ViewDomain.meaning c.args.domain.now c.args.views.now) c.args.parent c.in-Runs.by_code)
          (members c.args.views.now) (members c.put_branch.new.views) c.args.links.now c.put_branch.new.links c.in_ok-put_branch-in-Runs.ensures.put
          c.requires.counted;
    }

pub returns-clause-put : goal.returns-clause-put
returns-clause-put g c =
    let members = g.D.ViewDomain.members c.args.domain.now in
    let meaning = g.D.ViewDomain.meaning c.args.domain.now in
    let last = c.put_branch-in-Runs.new in
    on_ok c.put_branch-in-Runs.result
    (λ put. subst (λ (x : Crossed _). ArePut c.args.limit (members c.args.views.now) c.args.links.now
    (told_of (meaning c.args.views.now) c.args.parent x) (members last.views) last.links)
    (sym c.in-Runs.is)
    (put_append c.args.limit (told_branch (meaning c.args.views.now) c.args.parent c.in-Runs.by_code)
    (told_branch (meaning c.args.views.now) c.args.parent c.in-Runs.by_abend)
    (members c.args.views.now) (members c.put_branch.new.views) (members last.views) c.args.links.now c.put_branch.new.links last.links
    c.in_ok-put_branch-in-Runs.ensures.put
    (puts_as c.args.limit c.args.parent c.in-Runs.by_abend (members c.put_branch.new.views) (members last.views) c.put_branch.new.links last.links
    (meaning c.put_branch.new.views) (meaning c.args.views.now) c.in_ok-put_branch-in-Runs.ensures.meaning put)))
    c.put_branch-in-Runs.ensures.put
