use Rattle.std.proofs.Common.{◌∙◌, ap, sym}
use Rattle.seen_store.specs.Listing.{set_of, sets_of}
use Rattle.view_core.proofs.Beside.{first_known, one_goes, other_known, two_end, two_go}
use Rattle.view_core.proofs.same.sets_alike.Goals as goal

pub two_sets_alike-requires-clause-first : goal.two_sets_alike-requires-clause-first
two_sets_alike-requires-clause-first c =
    first_known _ _ _ _ _ (set_of (c.in-Some.x.0.now, c.in-Some.x.1.now)) (set_of (c.in-Some-next.y.0.now, c.in-Some-next.y.1.now)) _ _ _ _
    (ap sets_of c.in-Some.ensures.steps) (ap sets_of c.in-Some-next.ensures.steps) c.loop-x.invariant.2

pub two_sets_alike-requires-clause-other : goal.two_sets_alike-requires-clause-other
two_sets_alike-requires-clause-other c =
    other_known _ _ _ _ _ (set_of (c.in-Some.x.0.now, c.in-Some.x.1.now)) (set_of (c.in-Some-next.y.0.now, c.in-Some-next.y.1.now)) _ _ _ _
    (ap sets_of c.in-Some.ensures.steps) (ap sets_of c.in-Some-next.ensures.steps) c.loop-x.invariant.2

pub returns-then-not-two_sets_alike : goal.returns-then-not-two_sets_alike
returns-then-not-two_sets_alike c =
    two_end _ _ _ _ _ (set_of (c.in-Some.x.0.now, c.in-Some.x.1.now)) (set_of (c.in-Some-next.y.0.now, c.in-Some-next.y.1.now)) _ _ _ _
    (ap sets_of c.in-Some.ensures.steps) (ap sets_of c.in-Some-next.ensures.steps) c.loop-x.invariant.2
    (sym c.two_sets_alike.ensures ∙ c.if-not-two_sets_alike.true)

pub loop-x-preserved-else-not-two_sets_alike : goal.loop-x-preserved-else-not-two_sets_alike
loop-x-preserved-else-not-two_sets_alike c = (
  tt,
  tt,
  two_go _ _ _ _ _ (set_of (c.in-Some.x.0.now, c.in-Some.x.1.now)) (set_of (c.in-Some-next.y.0.now, c.in-Some-next.y.1.now)) _ _ _ _
      (ap sets_of c.in-Some.ensures.steps) (ap sets_of c.in-Some-next.ensures.steps) c.loop-x.invariant.2
      (sym c.two_sets_alike.ensures ∙ c.if-not-two_sets_alike.false),
)

pub loop-x-preserved : goal.loop-x-preserved
loop-x-preserved c = (
  tt,
  tt,
  one_goes _ _ _ _ _ (set_of (c.in-Some.x.0.now, c.in-Some.x.1.now)) _ _ _ _ (ap sets_of c.in-Some.ensures.steps) (ap sets_of c.in-None.ensures.steps.0) c.loop-x.invariant.2
      (ap sets_of c.in-None.ensures.steps.1)
      (sym c.set_alike.ensures ∙ c.if-not-set_alike.false),
)
