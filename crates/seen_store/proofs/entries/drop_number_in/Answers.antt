use Rattle.std.proofs.Common.{List, sym, ap, ◌∙◌}
use Rattle.group_core.specs.declared.entry.CatEntry.TheVariants as entry
use Rattle.group_core.specs.declared.group.Generation.{Generation}
use Rattle.group_core.specs.Groups.{GroupState}
use Rattle.store_core.specs.Entered.{entry_without}
use Rattle.seen_store.proofs.Groups.{without-absent}
use Rattle.seen_store.proofs.entries.drop_number_in.Goals as goal

pub returns-in-Err : goal.returns-in-Err
returns-in-Err c =
    let g : GroupState = c.in-Group.group in
    ap entry.Group (c.in-Err.ensures.err ∙ ap (λ (xs : List Generation). record { limit = g.limit; scratch = g.scratch; generations = xs })
    (sym (without-absent g.generations c.args.number c.in-Err.ensures.answer.1))) ∙ ap (λ e. entry_without e c.args.number) (sym c.in-Group.is)
