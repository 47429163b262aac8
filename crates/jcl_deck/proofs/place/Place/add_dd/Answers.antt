use Rattle.std.proofs.Common.{◌≡◌, ◌-◌, suc, Bool, true, false, ◌||◌, nat_eq, List, length, slice_set, refl, sym, ap, ◌∙◌}
use Rattle.std.proofs.lemmas.Result.{on_err_weaker, on_ok_weaker}
use Rattle.jcl_dds.specs.declared.dd.DdCard.{DdCard}
use Rattle.jcl_deck.specs.declared.deck.DeckStep.{DeckStep}
use Rattle.jcl_deck.specs.Decks.{Place, onto_last}
use Rattle.jcl_deck.specs.Places.{denoted}
use Rattle.jcl_deck.proofs.Lasts.{one_more, onto_last_at, set_itself}
use Rattle.jcl_deck.proofs.place.Place.add_dd.Goals as goal

or_false : (b : Bool) → b ≡ (b || false)
or_false true = refl
or_false false = refl

pub returns-clause-ok : goal.returns-clause-ok
returns-clause-ok c =
    let place = denoted c.args.self.now in
    let at = c.len-last.result - 1 in
    let last = c.index_mut.result.now in
    let with_steps : List DeckStep → Place = λ steps. record place { steps = steps } in
    let kept : Bool → Place = λ b. record place { job_library = b; steps = onto_last c.args.dd place.steps } in
    let made : List DdCard → Place = λ dds. with_steps (slice_set place.steps at (record last { dds = dds })) in
    let size : c.len-last.result ≡ length place.steps = c.len-last.ensures ∙ c.args.self.now.steps.ok.0 in
    let some : length place.steps ≡ suc at =
    sym size ∙ one_more c.len-last.result (c.if-is_empty.ensures ∙ ap (λ n. nat_eq n 0) (sym c.len-last.ensures)) in
    let none : false ≡ nat_eq (length place.steps) 0 = c.if-is_empty.ensures ∙ ap (λ n. nat_eq n 0) c.args.self.now.steps.ok.0 in
    on_ok_weaker c.push.result (λ pushed.
    ap made pushed
    ∙ ap with_steps (onto_last_at c.args.dd place.steps at last some c.index_mut.ensures.value)
    ∙ ap kept (or_false place.job_library ∙ ap (λ b. place.job_library || b) none)) c.push.ensures.ok

pub returns-clause-same : goal.returns-clause-same
returns-clause-same c =
    let place = denoted c.args.self.now in
    let at = c.len-last.result - 1 in
    let last = c.index_mut.result.now in
    let with_steps : List DeckStep → Place = λ steps. record place { steps = steps } in
    on_err_weaker c.push.result (λ unchanged.
    ap (λ dds. with_steps (slice_set place.steps at (record last { dds = dds }))) unchanged
    ∙ ap with_steps (set_itself place.steps at last c.index_mut.ensures.value)) c.push.ensures.err
