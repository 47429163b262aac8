use Rattle.std.proofs.Common.{◌≡◌, ◌≤◌, ◌<◌, ◌+◌, ◌∙◌, List, length, Option, None, Some, refl, subst, sym, ap, arith}
use Rattle.std.specs.Prelude.{slice_get}
use Rattle.jcl_meaning.specs.Views.{IsViewAfter, View}
use Rattle.view_domain.specs.Crossings.{IsCrossed}
use Rattle.path_search.specs.declared.stops.Found.{Found}
use Rattle.path_search.specs.Crossings.{AreStopsNoted}
use Rattle.path_search.proofs.Across.{at_inside, holds_at, stops_more}
use Rattle.path_search.proofs.crossing.cross_end.Goals as goal

pub transfer-requires-clause-number : goal.transfer-requires-clause-number
transfer-requires-clause-number g c =
    let same = ap length c.loop-number.invariant.before in
    let less = c.loop-number-test.true in
    let count = c.requires.count in
    omega arith

pub transfer-requires-clause-met : goal.transfer-requires-clause-met
transfer-requires-clause-met g c = λ view at.
    let domain = c.args.domain.now in
    holds_at (IsViewAfter (g.D.ViewDomain.fixed domain) (g.D.ViewDomain.plan domain) (g.D.ViewDomain.store domain) c.args.part)
    (g.D.ViewDomain.members domain c.args.before.now) c.loop-number.number view c.requires.seen
    (subst (λ (vs : List View). slice_get vs c.loop-number.number ≡ Some view) c.loop-number.invariant.before at)

pub loop-number-preserved : goal.loop-number-preserved
loop-number-preserved g c =
    let domain = c.args.domain.now in
    let members = g.D.ViewDomain.members domain in
    let fixed = g.D.ViewDomain.fixed domain in
    let plan = g.D.ViewDomain.plan domain in
    let store = g.D.ViewDomain.store domain in
    let before = members c.args.before.now in
    let meaning = g.D.ViewDomain.meaning domain c.transfer.new.behind in
    let there = members c.transfer.new.behind in
    let number = c.loop-number.number in
    let x = c.in_ok-crossed.crossed in
    let to_end : c.args.part ≤ length plan.steps = let end = c.requires.part in omega arith in
    let view = at_inside before number (let less = c.loop-number-test.true in let count = c.requires.count in omega arith) in
    record {
      before = c.in_ok-crossed.ensures.before.0 ∙ c.loop-number.invariant.before;
      stands = (c.in_ok-crossed.ensures.before.1 ∙ c.loop-number.invariant.stands.0, c.in_ok-crossed.ensures.behind.1 ∙ c.loop-number.invariant.stands.1);
      noted = subst (λ (best : Option Found). AreStopsNoted fixed plan store c.args.part before (number + 1) best) (sym c.note_crossed.ensures)
          (stops_more c.path_laws.ensures fixed plan store c.args.part to_end c.requires.job_tests c.requires.fits meaning there number before x
          (λ v at. c.in_ok-crossed.ensures.crossed v (subst (λ (vs : List View). slice_get vs number ≡ Some v) (sym c.loop-number.invariant.before) at))
          view.0 c.loop-number.best view.1 c.loop-number.invariant.noted);
    }
