use Rattle.std.proofs.Common.{List, ℕ, ◌≡◌, ◌<◌, ◌≤◌, get_or, arith, sym, ◌∙◌, subst, ⊎_elim}
use Rattle.std.specs.List.{HoldsAt}
use Rattle.std.proofs.lemmas.Bool.{cases_lt}
use Rattle.std.proofs.lemmas.List.Elements.{at_read}
use Rattle.enq_core.specs.declared.table.Want.{Want}
use Rattle.enq_core.specs.Order.{IsBefore}
use Rattle.enq_core.proofs.Meeting.{before_from_greater}
use Rattle.enq_core.proofs.Rising.{before_trans, wants_rise}
use Rattle.enq_core.proofs.conflict.search_from.Goals as goal

pub returns-in-Greater-clause-found : goal.returns-in-Greater-clause-found
returns-in-Greater-clause-found c = λ k d low high.
    let wants : List Want = c.args.wants.now in
    let place : ℕ = c.loop-place.place in
    let name : List ℕ = c.args.name.now in
    let here : IsBefore name (get_or wants place c.index-wants-place.result).name = before_from_greater (get_or wants place c.index-wants-place.result).name name (sym c.cmp.ensures ∙ c.in-Greater.is) in
    let is : HoldsAt (λ (want : Want). IsBefore name want.name) wants place
    = at_read wants (λ (want : Want). IsBefore name want.name) place c.index-wants-place.result c.loop-place-test.true c.index-wants-place.is
    (subst (λ (want : Want). IsBefore name want.name) (sym c.index-wants-place.is) here) in
    ⊎_elim
    (λ (l : place < k). before_trans name (get_or wants place d).name (get_or wants k d).name (is d) (wants_rise wants place k d d c.requires.order l high))
    (λ (l : k ≤ place). let same : k ≡ place = omega (arith, low) in subst (λ (i : ℕ). IsBefore name (get_or wants i d).name) (sym same) (is d))
    (cases_lt place k)
