use Rattle.queued_job.proofs.laws.layout_reads_what_it_holds.Goals as goal

pub returns : goal.returns
returns c = λ l holds. record { jct = holds.jct; sct = holds.sct; siot = holds.siot; jfcb = holds.jfcb; cards = holds.cards }
