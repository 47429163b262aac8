use Rattle.std.proofs.Common.{◌≡◌, ◌==◌, sym, ap, ◌∙◌, take, drop, ne_eqb}
use Rattle.value_core.proofs.Parentheses.{before_is_front, closed_within, from_parenthesis, nothing_left, whole_at_none, whole_at_one, whole_at_other}
use Rattle.value_core.proofs.set_name.split_name.Goals as goal

pub returns-in_default-clause-within : goal.returns-in_default-clause-within
returns-in_default-clause-within c =
    let text = c.args.text.now in
    let from : from_parenthesis text ≡ c.split_at.result.1.now = ap (λ n. drop n text) (sym c.name_len.ensures.count) ∙ sym c.split_at.ensures.back in
    (whole_at_none text (from ∙ nothing_left c.split_at.result.1.now c.in_default.ensures.cases)).1

pub returns-then-last-ne41-clause-name : goal.returns-then-last-ne41-clause-name
returns-then-last-ne41-clause-name c =
    let text = c.args.text.now in
    let from : from_parenthesis text ≡ c.split_at.result.1.now = ap (λ n. drop n text) (sym c.name_len.ensures.count) ∙ sym c.split_at.ensures.back in
    (whole_at_other text c.in-Some.inside.now c.in-Some.last.now (from ∙ c.in-Some.ensures.cases.0) (ne_eqb _ _ c.if-last-ne41.true)).0

pub returns-then-last-ne41-clause-within : goal.returns-then-last-ne41-clause-within
returns-then-last-ne41-clause-within c =
    let text = c.args.text.now in
    let from : from_parenthesis text ≡ c.split_at.result.1.now = ap (λ n. drop n text) (sym c.name_len.ensures.count) ∙ sym c.split_at.ensures.back in
    (whole_at_other text c.in-Some.inside.now c.in-Some.last.now (from ∙ c.in-Some.ensures.cases.0) (ne_eqb _ _ c.if-last-ne41.true)).1

pub returns-in-Some-split_first-clause-name : goal.returns-in-Some-split_first-clause-name
returns-in-Some-split_first-clause-name c =
    let text = c.args.text.now in
    let from : from_parenthesis text ≡ c.split_at.result.1.now = ap (λ n. drop n text) (sym c.name_len.ensures.count) ∙ sym c.split_at.ensures.back in
    c.split_at.ensures.front
    ∙ ap (λ n. take n text) c.name_len.ensures.count
    ∙ before_is_front text
    ∙ sym (closed_within text c.in-Some.inside.now c.in-Some-split_first.within.now _ c.in-Some.last.now (from ∙ c.in-Some.ensures.cases.0)
    (ap (λ x. x == 41) c.if-last-ne41.false) c.in-Some-split_first.ensures.cases.0).0

pub returns-in-Some-split_first-clause-within : goal.returns-in-Some-split_first-clause-within
returns-in-Some-split_first-clause-within c =
    let text = c.args.text.now in
    let from : from_parenthesis text ≡ c.split_at.result.1.now = ap (λ n. drop n text) (sym c.name_len.ensures.count) ∙ sym c.split_at.ensures.back in
    sym (closed_within text c.in-Some.inside.now c.in-Some-split_first.within.now _ c.in-Some.last.now (from ∙ c.in-Some.ensures.cases.0)
    (ap (λ x. x == 41) c.if-last-ne41.false) c.in-Some-split_first.ensures.cases.0).1

pub returns-in-None-clause-name : goal.returns-in-None-clause-name
returns-in-None-clause-name c =
    let text = c.args.text.now in
    let from : from_parenthesis text ≡ c.split_at.result.1.now = ap (λ n. drop n text) (sym c.name_len.ensures.count) ∙ sym c.split_at.ensures.back in
    (whole_at_one text c.in-Some.inside.now c.in-Some.last.now (from ∙ c.in-Some.ensures.cases.0) c.if-last-ne41.false
    (nothing_left c.in-Some.inside.now c.in-None.ensures.cases)).0

pub returns-in-None-clause-within : goal.returns-in-None-clause-within
returns-in-None-clause-within c =
    let text = c.args.text.now in
    let from : from_parenthesis text ≡ c.split_at.result.1.now = ap (λ n. drop n text) (sym c.name_len.ensures.count) ∙ sym c.split_at.ensures.back in
    (whole_at_one text c.in-Some.inside.now c.in-Some.last.now (from ∙ c.in-Some.ensures.cases.0) c.if-last-ne41.false
    (nothing_left c.in-Some.inside.now c.in-None.ensures.cases)).1
