use Rattle.std.proofs.Common.{◌∙◌, sym}
use Rattle.std.proofs.lemmas.Bool.{eqb-true}
use Rattle.std.proofs.lemmas.List.{nil_from_length}
use Rattle.record_rows.proofs.store.nobody_waits.Goals as goal

pub returns : goal.returns
returns g c = λ none.
    nil_from_length (g.S.RecordStore.queue c.args.store.now).waiting (sym c.waiting_count.ensures ∙ eqb-true c.waiting_count.result 0 none)
