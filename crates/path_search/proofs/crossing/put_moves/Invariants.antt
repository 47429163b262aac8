use Rattle.std.proofs.Common.{◌≡◌, List, length}
use Rattle.std.specs.Vec.Iter.{into_iter_items}
use Rattle.jcl_meaning.specs.Views.{View}
use Rattle.path_search.specs.declared.trail.Link.{Link}
use Rattle.path_search.specs.Puts.{ArePut, told_moves}
use Rattle.path_search.proofs.crossing.put_moves.Given as goal

abbrev pub invariant-loop-next : goal.invariant-loop-next
invariant-loop-next g l =
    let members = g.D.ViewDomain.members l.domain in
    let meaning = g.D.ViewDomain.meaning l.domain in
    record {
      counted : length l.links ≡ length (members l.views);
      same : meaning l.views ≡ meaning l.fn.views;
      stands : g.D.ViewDomain.stands l.domain l.views ≡ g.D.ViewDomain.stands l.domain l.fn.views;
      rest : (vs : List View) (ls : List Link) →
          ArePut l.limit (members l.views) l.links (told_moves (meaning l.fn.views) l.parent (into_iter_items l.next-iterator)) vs ls →
          ArePut l.limit (members l.fn.views) l.fn.links (told_moves (meaning l.fn.views) l.parent l.fn.moves.items) vs ls;
    }
