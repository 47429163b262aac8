use Rattle.std.proofs.Common.{ℕ, ◌∙◌, ap, arith, length, refl}
use Rattle.std.proofs.lemmas.List.{length-replicate}
use Rattle.cb_meaning.specs.Fields.{field, two_bytes, with_part}
use Rattle.cb_queue.proofs.Parts.{with_part_is}
use Rattle.chain_store.proofs.records.owned_record.Goals as goal

pub returns-clause-value : goal.returns-clause-value
returns-clause-value c =
    let size = ap length c.zeroed-own.ensures in
    with_part_is (field 2 2) c.zeroed-own.result (two_bytes c.args.owner) (omega (arith, size, length-replicate {A = ℕ} 176 0)) refl c.write_part.new.self
    c.write_part.ensures.value c.write_part.ensures.others ∙ ap (λ r. with_part r 2 (two_bytes c.args.owner)) c.zeroed-own.ensures
