use Rattle.std.proofs.Common.{◌∙◌, ap, sym}
use Rattle.seen_store.specs.Listing.{entry_of, entries_of}
use Rattle.view_core.proofs.Beside.{first_known, one_goes, other_known, two_end, two_go}
use Rattle.view_core.proofs.same.entries_alike.Goals as goal

pub two_entries_alike-requires-clause-first : goal.two_entries_alike-requires-clause-first
two_entries_alike-requires-clause-first c =
    first_known _ _ _ _ _ (entry_of (c.in-Some.x.0.now, c.in-Some.x.1.now)) (entry_of (c.in-Some-next.y.0.now, c.in-Some-next.y.1.now)) _ _ _ _
    (ap entries_of c.in-Some.ensures.steps) (ap entries_of c.in-Some-next.ensures.steps) c.loop-x.invariant.2

pub two_entries_alike-requires-clause-other : goal.two_entries_alike-requires-clause-other
two_entries_alike-requires-clause-other c =
    other_known _ _ _ _ _ (entry_of (c.in-Some.x.0.now, c.in-Some.x.1.now)) (entry_of (c.in-Some-next.y.0.now, c.in-Some-next.y.1.now)) _ _ _ _
    (ap entries_of c.in-Some.ensures.steps) (ap entries_of c.in-Some-next.ensures.steps) c.loop-x.invariant.2

pub returns-then-not-two_entries_alike : goal.returns-then-not-two_entries_alike
returns-then-not-two_entries_alike c =
    two_end _ _ _ _ _ (entry_of (c.in-Some.x.0.now, c.in-Some.x.1.now)) (entry_of (c.in-Some-next.y.0.now, c.in-Some-next.y.1.now)) _ _ _ _
    (ap entries_of c.in-Some.ensures.steps) (ap entries_of c.in-Some-next.ensures.steps) c.loop-x.invariant.2
    (sym c.two_entries_alike.ensures ∙ c.if-not-two_entries_alike.true)

pub loop-x-preserved-else-not-two_entries_alike : goal.loop-x-preserved-else-not-two_entries_alike
loop-x-preserved-else-not-two_entries_alike c = (
  tt,
  tt,
  two_go _ _ _ _ _ (entry_of (c.in-Some.x.0.now, c.in-Some.x.1.now)) (entry_of (c.in-Some-next.y.0.now, c.in-Some-next.y.1.now)) _ _ _ _
      (ap entries_of c.in-Some.ensures.steps) (ap entries_of c.in-Some-next.ensures.steps) c.loop-x.invariant.2
      (sym c.two_entries_alike.ensures ∙ c.if-not-two_entries_alike.false),
)

pub loop-x-preserved : goal.loop-x-preserved
loop-x-preserved c = (
  tt,
  tt,
  one_goes _ _ _ _ _ (entry_of (c.in-Some.x.0.now, c.in-Some.x.1.now)) _ _ _ _ (ap entries_of c.in-Some.ensures.steps) (ap entries_of c.in-None.ensures.steps.0) c.loop-x.invariant.2
      (ap entries_of c.in-None.ensures.steps.1)
      (sym c.entry_alike.ensures ∙ c.if-not-entry_alike.false),
)
