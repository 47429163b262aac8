use Rattle.std.proofs.Common.{◌≡◌, ap, sym, ◌∙◌, take, drop, take_while, Some}
use Rattle.std.proofs.lemmas.List.Folds.{length-prefix_len}
use Rattle.card_core.specs.Fields.{begins_quoted, is_unquoted}
use Rattle.card_core.proofs.Operands.{unquoted_text}
use Rattle.card_core.proofs.field.operand_text.Goals as goal

pub returns-else-begins_quoted : goal.returns-else-begins_quoted
returns-else-begins_quoted c =
    let text = c.args.text.now in
    let count = c.unquoted_len.ensures.count in
    let front : c.split_at.result.0.now ≡ take_while is_unquoted text =
    c.split_at.ensures.front ∙ ap (λ n. take n text) (count ∙ length-prefix_len is_unquoted text) in
    let behind = c.split_at.ensures.back ∙ ap (λ n. drop n text) count in
    ap (λ t. Some t) front ∙ sym (unquoted_text text (sym (ap begins_quoted behind) ∙ sym c.begins_quoted.ensures ∙ c.if-begins_quoted.false))
