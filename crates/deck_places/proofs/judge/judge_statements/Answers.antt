use Rattle.std.proofs.Common.{◌∙◌, ap, sym, subst}
use Rattle.jcl_deck.specs.Decks.{start}
use Rattle.jcl_deck.specs.Places.{denoted}
use Rattle.jcl_job.specs.Jobs.{job_in}
use Rattle.jcl_procs.specs.Expansions.{and_then}
use Rattle.deck_places.specs.Judging.{AreRead}
use Rattle.deck_places.proofs.Statements.{deck_ended, deck_refused}
use Rattle.deck_places.proofs.judge.judge_statements.Goals as goal

pub returns-in-Refused : goal.returns-in-Refused
returns-in-Refused c =
    let so = subst (AreRead c.args.statements.now) c.in-Refused.is c.in_ok-place.ensures in
    let deck = deck_refused 0 start c.args.statements.now c.in-Refused.k c.in-Refused.cause so in
    (ap (λ r. and_then r (job_in c.args.sources.now.units.now c.args.sources.now.library.now)) deck, so)

pub judge_deck-requires : goal.judge_deck-requires
judge_deck-requires c =
    let so = subst (AreRead c.args.statements.now) c.in-Taken.is c.in_ok-place.ensures in
    deck_ended 0 start c.args.statements.now (denoted c.in-Taken.place) so ∙ sym c.end.ensures ∙ c.in-Ok.is

pub returns-in-Err : goal.returns-in-Err
returns-in-Err c =
    let so = subst (AreRead c.args.statements.now) c.in-Taken.is c.in_ok-place.ensures in
    let deck = deck_ended 0 start c.args.statements.now (denoted c.in-Taken.place) so in
    let refused = sym c.end.ensures ∙ c.in-Err.is in (
      ap (λ r. and_then r (job_in c.args.sources.now.units.now c.args.sources.now.library.now)) (deck ∙ refused),
      record { place = denoted c.in-Taken.place; before = so; refused = refused },
    )
