use Rattle.std.proofs.lemmas.Result.{IfOk-weaker}
use Rattle.part_copy.proofs.EntryCopies.{held_add}
use Rattle.part_copy.proofs.entries.copy_held.Goals as goal

pub returns : goal.returns
returns c =
    IfOk-weaker c.copy_entries.result _ _ (λ _ added. held_add c.args.name.now c.generation_entries.result c.args.catalog.now
    c.args.entries.now c.copy_entry.new.entries c.copy_entries.new.entries c.generation_entries.ensures.there c.generation_entries.ensures.all
    c.in_ok-copy_entry.ensures added) c.copy_entries.ensures
