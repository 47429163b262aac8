use Rattle.std.proofs.Common.{ℕ, ◌∙◌, ap, arith, replicate, sym, take}
use Rattle.std.proofs.lemmas.List.{length-replicate, take-replicate}
use Rattle.cb_queue.proofs.Parts.{with_part_is}
use Rattle.cb_queue.proofs.list_store.write_unlinked.Goals as goal

pub returns-clause-value : goal.returns-clause-value
returns-clause-value c =
    let whole = c.write_part.ensures.whole in
    let same = c.write_part.ensures.others.size in
    let within = c.requires.within in
    with_part_is c.args.link c.args.rec.now (replicate c.args.link.width 0) (omega (arith, whole, same, within)) (length-replicate {A = ℕ} c.args.link.width 0)
    c.write_part.new.self
    (c.write_part.ensures.value ∙ ap (λ w. take w (replicate 4 0)) c.from.ensures ∙ take-replicate {X = ℕ} c.args.link.width 4 0 c.requires.few) c.write_part.ensures.others

pub returns-clause-whole : goal.returns-clause-whole
returns-clause-whole c = sym c.write_part.ensures.others.size ∙ c.write_part.ensures.whole
