use Rattle.std.proofs.Common.{◌≡◌, ◌-◌, suc, nat_eq, List, length, slice_set, sym, ap, ◌∙◌}
use Rattle.std.proofs.lemmas.Result.{on_err_weaker, on_ok_weaker}
use Rattle.card_core.specs.declared.statement.Statement.{Statement}
use Rattle.jcl_deck.specs.declared.deck.Procedure.{Procedure}
use Rattle.jcl_deck.specs.Decks.{Place}
use Rattle.jcl_deck.specs.Places.{denoted}
use Rattle.jcl_deck.proofs.Lasts.{one_more, onto_open_at, set_itself}
use Rattle.jcl_deck.proofs.place.Place.keep.Goals as goal

pub returns-clause-ok : goal.returns-clause-ok
returns-clause-ok c =
    let place = denoted c.args.self.now in
    let at = c.len-last.result - 1 in
    let last = c.index_mut.result.now in
    let with_procedures : List Procedure → Place = λ procedures. record place { procedures = procedures } in
    let made : List Statement → Place =
    λ statements. with_procedures (slice_set place.procedures at (record last { statements = statements })) in
    let size : c.len-last.result ≡ length place.procedures = c.len-last.ensures ∙ c.args.self.now.procedures.ok.0 in
    let some : length place.procedures ≡ suc at =
    sym size ∙ one_more c.len-last.result (c.if-is_empty.ensures ∙ ap (λ n. nat_eq n 0) (sym c.len-last.ensures)) in
    on_ok_weaker c.push.result (λ pushed.
    ap made pushed
    ∙ ap with_procedures (onto_open_at c.args.statement place.procedures at last some c.index_mut.ensures.value)) c.push.ensures.ok

pub returns-clause-same : goal.returns-clause-same
returns-clause-same c =
    let place = denoted c.args.self.now in
    let at = c.len-last.result - 1 in
    let last = c.index_mut.result.now in
    let with_procedures : List Procedure → Place = λ procedures. record place { procedures = procedures } in
    on_err_weaker c.push.result (λ unchanged.
    ap (λ statements. with_procedures (slice_set place.procedures at (record last { statements = statements }))) unchanged
    ∙ ap with_procedures (set_itself place.procedures at last c.index_mut.ensures.value)) c.push.ensures.err
