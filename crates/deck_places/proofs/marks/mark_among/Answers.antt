use Rattle.std.proofs.Common.{◌≡◌, ◌∙◌, ◌<◌, ◌≤◌, ◌+◌, Some, ap, arith, false, length, ltb-true, refl, slice_get, subst, sym, take}
use Rattle.std.proofs.lemmas.Option.{slice_get_read}
use Rattle.std.proofs.lemmas.Result.{IfOk-weaker}
use Rattle.jcl_deck.specs.Decks.{start}
use Rattle.jcl_deck.specs.Places.{denoted}
use Rattle.deck_places.specs.Cards.{walk_from}
use Rattle.deck_places.specs.Judging.{AreRead}
use Rattle.deck_places.specs.Parts.{IsMarkAmong}
use Rattle.deck_places.specs.Statements.{RefusedAt, TakenTo, read_from}
use Rattle.deck_places.proofs.Before.{taken_only}
use Rattle.deck_places.proofs.Spotted.{refused_one}
use Rattle.deck_places.proofs.marks.mark_among.Goals as goal

pub returns-in_default : goal.returns-in_default
returns-in_default c refused many =
    let less : c.args.k < 0 + length c.args.statements.now = refused_one 0 start c.args.statements.now c.args.k c.args.cause refused in
    let short : length c.deref.result.now ≤ c.args.k = c.in_default.ensures.lookup.3 in
    let same : length c.deref.result.now ≡ length c.args.statements.now = ap length c.deref.ensures.value ∙ ap (λ w. length w.begun) c.in_ok-begun.ensures ∙ many in
    absurd (omega (arith, less, short, same))

pub returns-in-Taken : goal.returns-in-Taken
returns-in-Taken c refused many =
    let statements = c.args.statements.now in
    let begun = c.deref.result.now in
    let taken : read_from 0 start (take c.args.k statements) ≡ TakenTo (denoted c.in-Taken.place) =
    ap (read_from 0 start) (sym c.split_at.ensures.front) ∙ subst (AreRead c.split_at.result.0.now) c.in-Taken.is c.in_ok-place.ensures in
    let one = c.in-Some-get.ensures.lookup in
    let there : slice_get statements c.args.k ≡ Some c.in-Some-get.statement.now
    = slice_get_read statements (length statements) c.args.k c.in-Some-get.statement.now refl (ltb-true c.args.k (length statements) (sym one.0)) one.1 in
    let first = c.in-Some.ensures.lookup in
    let begins : slice_get begun c.args.k ≡ Some c.in-Some.first.now
    = slice_get_read begun (length begun) c.args.k c.in-Some.first.now refl (ltb-true c.args.k (length begun) (sym first.0)) first.1 in
    let all : begun ≡ (walk_from false 0 0 c.args.cards.now).begun = c.deref.ensures.value ∙ ap (λ w. w.begun) c.in_ok-begun.ensures in
    IfOk-weaker c.mark_behind.result _ (IsMarkAmong c.args.cards.now statements c.args.k c.args.cause)
    (λ mark so. record {
      place = denoted c.in-Taken.place;
      before = taken;
      statement = c.in-Some-get.statement.now;
      there = there;
      part = so.0;
      is_part = so.1;
      first = c.in-Some.first.now;
      begins = ap (λ b. slice_get b c.args.k) (sym all) ∙ begins;
      so = so.2;
    }) c.mark_behind.ensures

pub returns : goal.returns
returns c refused many =
    let before : read_from 0 start (take c.args.k c.args.statements.now) ≡ RefusedAt c.in-Refused.field-0 c.in-Refused.field-1
    = ap (read_from 0 start) (sym c.split_at.ensures.front) ∙ subst (AreRead c.split_at.result.0.now) c.in-Refused.is c.in_ok-place.ensures in
    absurd (taken_only c.args.k c.args.statements.now c.args.cause refused c.in-Refused.field-0 c.in-Refused.field-1 before)
