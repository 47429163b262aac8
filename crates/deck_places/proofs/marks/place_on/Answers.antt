use Rattle.std.proofs.Common.{◌≡◌, ◌<◌, ◌+◌, ◌-◌, ◌∙◌, Some, ap, arith, drop, false, length, suc, sym}
use Rattle.std.proofs.lemmas.Result.{IfOk-weaker}
use Rattle.card_core.specs.Fields.{operand_text}
use Rattle.deck_places.specs.declared.marks.Mark.{Mark}
use Rattle.deck_places.specs.Parts.{is_behind, place_from, place_on}
use Rattle.deck_places.proofs.Marked.{begins, stands}
use Rattle.deck_places.proofs.marks.place_on.Goals as goal

pub returns-then-not-is_behind : goal.returns-then-not-is_behind
returns-then-not-is_behind c =
    let cards = c.args.cards.now in
    let first = c.args.first in
    let at = c.loop-at.at in
    let place = c.loop-at.place in
    let field = c.loop-at.field.now in
    let here : Mark = record { card = at; column = Some (71 - length field + place) } in
    let within : at + 1 < length cards = omega arith in
    let next : suc first ≡ first + 1 = omega arith in
    let idle : is_behind place (operand_text false field) ≡ false = ap (is_behind place) (sym c.operand_text-text.ensures) ∙ sym c.is_behind.ensures ∙ c.if-not-is_behind.true in
    let so : here ≡ place_on first c.args.place (drop first cards) =
    sym (begins first c.args.place cards first c.in-Some.card.now c.in-Some.ensures.lookup.3.0 (c.in-Some.ensures.lookup.3.1 c.in-Some.card.now)
    ∙ ap (λ f. place_from first c.args.place f (drop (suc first) cards)) (sym c.fields_of.ensures.behind)
    ∙ ap (λ n. place_from first c.args.place c.fields_of.result.behind.now (drop n cards)) next
    ∙ c.loop-at.invariant ∙ stands at place field cards (at + 1) within idle) in
    IfOk-weaker c.mark_on.result (λ mark. mark ≡ here) (λ mark. mark ≡ place_on first c.args.place (drop first cards)) (λ mark is. is ∙ so) c.mark_on.ensures
