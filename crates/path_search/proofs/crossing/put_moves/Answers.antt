use Rattle.std.proofs.Common.{◌∙◌, List, subst, sym}
use Rattle.view_domain.specs.declared.crossed.Move.{Move}
use Rattle.path_search.specs.Puts.{ArePut, told_moves}
use Rattle.path_search.proofs.Putting.{put_as, put_counted}
use Rattle.path_search.proofs.crossing.put_moves.Goals as goal

pub loop-next-preserved : goal.loop-next-preserved
loop-next-preserved g c =
    let members = g.D.ViewDomain.members c.args.domain.now in
    let meaning = g.D.ViewDomain.meaning c.args.domain.now in
    record {
      counted = put_counted c.args.limit (members c.loop-next.views) (members c.put.new.views) c.loop-next.links c.put.new.links
          (meaning c.loop-next.views c.in-Some.next.view) (record { parent = c.args.parent; outcome = c.shown_code.result }) c.in_ok-put.ensures.put
          c.loop-next.invariant.counted;
      same = c.in_ok-put.ensures.meaning ∙ c.loop-next.invariant.same;
      stands = c.in_ok-put.ensures.stands ∙ c.loop-next.invariant.stands;
      rest = λ vs ls put. c.loop-next.invariant.rest vs ls
          (subst (λ (items : List (Move _)). ArePut c.args.limit (members c.loop-next.views) c.loop-next.links
          (told_moves (meaning c.args.views.now) c.args.parent items) vs ls)
          (sym c.in-Some.ensures.steps.0) (
            members c.put.new.views,
            c.put.new.links,
            put_as c.args.limit c.args.parent (members c.loop-next.views) (members c.put.new.views) c.loop-next.links c.put.new.links
                (meaning c.loop-next.views)
                (meaning c.args.views.now) c.in-Some.next.view c.shown_code.result _ c.loop-next.invariant.same c.shown_code.ensures c.in_ok-put.ensures.put,
            put,
          ));
    }
