use Rattle.std.proofs.Common.{◌≡◌, ◌≤◌, ◌<◌, ◌∙◌, List, length, refl, subst, sym, ap, arith}
use Rattle.jcl_meaning.specs.Views.{IsViewAfter, View}
use Rattle.path_search.specs.Crossings.{IsCrossing, known_of}
use Rattle.path_search.proofs.Across.{across_more, across_start, at_inside, holds_at}
use Rattle.path_search.proofs.crossing.cross_all.Goals as goal

pub loop-number-init : goal.loop-number-init
loop-number-init g c =
    let domain = c.args.domain.now in
    let members = g.D.ViewDomain.members domain in
    record {
      before = refl;
      stands = (c.requires.stands_before, c.requires.stands_behind);
      across = across_start (g.D.ViewDomain.fixed domain) (g.D.ViewDomain.plan domain) (g.D.ViewDomain.store domain) c.args.part c.args.limit
          (members c.args.before.now)
          (known_of members c.args.behind.now) c.requires.part c.requires.begins;
    }

pub loop-number-preserved : goal.loop-number-preserved
loop-number-preserved g c =
    let domain = c.args.domain.now in
    let members = g.D.ViewDomain.members domain in
    let fixed = g.D.ViewDomain.fixed domain in
    let plan = g.D.ViewDomain.plan domain in
    let store = g.D.ViewDomain.store domain in
    let before = members c.args.before.now in
    let old = known_of members c.loop-number.behind in
    let new = known_of members c.cross.new.behind in
    let meaning = g.D.ViewDomain.meaning domain c.cross.new.behind.views in
    let number = c.loop-number.number in
    let x = c.in_ok-cross.ensures.crossed.0 in
    let to_end : c.args.part ≤ length plan.steps = let inside = c.requires.part in omega arith in
    let view = at_inside before number (let less = c.loop-number-test.true in let count = c.requires.count in omega arith) in
    let is : IsCrossing meaning plan fixed c.args.part c.args.limit number before x old new =
    subst (λ (vs : List View). IsCrossing meaning plan fixed c.args.part c.args.limit number vs x old new) c.loop-number.invariant.before
    c.in_ok-cross.ensures.crossed.1 in
    record {
      before = c.in_ok-cross.ensures.before ∙ c.loop-number.invariant.before;
      stands = c.in_ok-cross.ensures.stands;
      across = across_more c.path_laws.ensures fixed plan store c.args.part to_end c.requires.job_tests c.requires.fits meaning old.views number
          before x is.covered c.args.limit
          old new refl c.requires.part view.0 view.1 (holds_at (IsViewAfter fixed plan store c.args.part) before number view.0 c.requires.seen view.1) is
          c.loop-number.invariant.across;
    }
