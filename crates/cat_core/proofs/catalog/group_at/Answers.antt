use Rattle.std.proofs.Common.{Some, ap, sym, ◌∙◌}
use Rattle.group_core.specs.declared.entry.CatEntry.{CatEntry}
use Rattle.group_core.specs.Entries.{group_in}
use Rattle.cat_core.proofs.catalog.group_at.Goals as goal
use Rattle.cat_core.proofs.Maps.{get_name}

pub returns-in-Some-Group : goal.returns-in-Some-Group
returns-in-Some-Group c =
    ap (λ (e : CatEntry). group_in (Some e)) (sym c.in-Some-Group.field-0-is)
    ∙ ap group_in (c.in-Some-Group.ensures.value ∙ sym (get_name c.args.entries.now.entries c.args.base.now))

pub returns-in-Some-Volume : goal.returns-in-Some-Volume
returns-in-Some-Volume c =
    ap (λ (e : CatEntry). group_in (Some e)) (sym c.in-Some-Volume.field-0-is)
    ∙ ap group_in (c.in-Some-Volume.ensures.value ∙ sym (get_name c.args.entries.now.entries c.args.base.now))

pub returns-in-None : goal.returns-in-None
returns-in-None c = ap group_in (c.in-None.ensures.value ∙ sym (get_name c.args.entries.now.entries c.args.base.now))
