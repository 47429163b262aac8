use Rattle.std.proofs.Common.{◌≡◌, ◌+◌}
use Rattle.path_search.specs.Crossings.{IsAcross, known_of}
use Rattle.path_search.proofs.crossing.cross_all.Given as goal

abbrev pub invariant-loop-number : goal.invariant-loop-number
invariant-loop-number g l =
    let members = g.D.ViewDomain.members l.domain in
    record {
      before : members l.before ≡ members l.fn.before;
      stands : (g.D.ViewDomain.stands l.domain l.before ≡ l.part) × (g.D.ViewDomain.stands l.domain l.behind.views ≡ l.part + 1);
      across : IsAcross (g.D.ViewDomain.fixed l.domain) (g.D.ViewDomain.plan l.domain) (g.D.ViewDomain.store l.domain) l.part l.limit (members l.fn.before)
          l.number (known_of members l.behind);
    }
