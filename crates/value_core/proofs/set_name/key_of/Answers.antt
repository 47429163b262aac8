use Rattle.std.proofs.Common.{◌≡◌, true, false, cond, ℕ, List, [], Option, codes, nat_eq, unwrap_or, sym, ap, ◌∙◌, subst}
use Rattle.std.specs.List.{starts_with}
use Rattle.std.specs.Option.{option_copied}
use Rattle.jname_core.specs.declared.key.Key.{Key}
use Rattle.value_core.specs.Reads.{IsRead, Read}
use Rattle.value_core.specs.SetNames.{begins_amount, behind_ampersands, named_part, plain, relative, temporary, within_parentheses}
use Rattle.value_core.proofs.Both.{at_false, at_true}
use Rattle.value_core.proofs.set_name.key_of.Goals as goal

abbrev as_temporary : List ℕ → Read Key
as_temporary text = temporary (behind_ampersands (named_part text)) (within_parentheses text)

abbrev as_relative : List ℕ → Read Key
as_relative text = relative (named_part text) (unwrap_or (within_parentheses text) [])

abbrev as_plain : List ℕ → Read Key
as_plain text = plain (named_part text) (within_parentheses text)

abbrev permanent : List ℕ → Read Key
permanent text = cond (begins_amount (within_parentheses text)) (as_relative text) (as_plain text)

pub returns-then-starts_with : goal.returns-then-starts_with
returns-then-starts_with c =
    let text = c.args.text.now in
    let name : c.behind_ampersands.result.now ≡ behind_ampersands (named_part text) = c.behind_ampersands.ensures ∙ ap behind_ampersands c.split_name.ensures.name in
    let first : IsRead c.temporary.result (temporary (behind_ampersands (named_part text)) (option_copied c.split_name.result.1)) =
    subst (λ (t : List ℕ). IsRead c.temporary.result (temporary t (option_copied c.split_name.result.1))) name c.temporary.ensures in
    let read : IsRead c.temporary.result (as_temporary text) =
    subst (λ (w : Option (List ℕ)). IsRead c.temporary.result (temporary (behind_ampersands (named_part text)) w)) c.split_name.ensures.within first in
    at_true (starts_with nat_eq text (codes "&")) (as_temporary text) (permanent text) (sym c.starts_with.ensures.value ∙ c.if-starts_with.true) read

pub returns-then-not-begins_amount : goal.returns-then-not-begins_amount
returns-then-not-begins_amount c =
    let text = c.args.text.now in
    let first : IsRead c.plain.result (plain (named_part text) (option_copied c.split_name.result.1)) =
    subst (λ (t : List ℕ). IsRead c.plain.result (plain t (option_copied c.split_name.result.1))) c.split_name.ensures.name c.plain.ensures in
    let read : IsRead c.plain.result (as_plain text) =
    subst (λ (w : Option (List ℕ)). IsRead c.plain.result (plain (named_part text) w)) c.split_name.ensures.within first in
    let none : begins_amount (within_parentheses text) ≡ false =
    ap begins_amount (sym c.split_name.ensures.within) ∙ sym c.begins_amount.ensures ∙ c.if-not-begins_amount.true in
    at_false (starts_with nat_eq text (codes "&")) (as_temporary text) (permanent text) (sym c.starts_with.ensures.value ∙ c.if-starts_with.false)
    (at_false (begins_amount (within_parentheses text)) (as_relative text) (as_plain text) none read)

pub returns : goal.returns
returns c =
    let text = c.args.text.now in
    let within : c.value_or_nothing.result.now ≡ unwrap_or (within_parentheses text) [] =
    c.value_or_nothing.ensures ∙ ap (λ (w : Option (List ℕ)). unwrap_or w []) c.split_name.ensures.within in
    let first : IsRead c.relative.result (relative (named_part text) c.value_or_nothing.result.now) =
    subst (λ (t : List ℕ). IsRead c.relative.result (relative t c.value_or_nothing.result.now)) c.split_name.ensures.name c.relative.ensures in
    let read : IsRead c.relative.result (as_relative text) =
    subst (λ (w : List ℕ). IsRead c.relative.result (relative (named_part text) w)) within first in
    let some : begins_amount (within_parentheses text) ≡ true =
    ap begins_amount (sym c.split_name.ensures.within) ∙ sym c.begins_amount.ensures ∙ c.if-not-begins_amount.false in
    at_false (starts_with nat_eq text (codes "&")) (as_temporary text) (permanent text) (sym c.starts_with.ensures.value ∙ c.if-starts_with.false)
    (at_true (begins_amount (within_parentheses text)) (as_relative text) (as_plain text) some read)
