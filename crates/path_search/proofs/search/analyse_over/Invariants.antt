use Rattle.std.proofs.Common.{◌≡◌}
use Rattle.path_search.specs.Reached.{IsReached}
use Rattle.path_search.proofs.search.analyse_over.Given as goal

abbrev pub invariant-loop-part : goal.invariant-loop-part
invariant-loop-part g l =
    record {
      reached : IsReached (g.D.ViewDomain.fixed l.domain) (g.D.ViewDomain.plan l.domain) (g.D.ViewDomain.store l.domain) l.most_views l.part
          (g.D.ViewDomain.members l.domain l.views) l.count l.trail l.places.items;
      stands : g.D.ViewDomain.stands l.domain l.views ≡ l.part;
    }
