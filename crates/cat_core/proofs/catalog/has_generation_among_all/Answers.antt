use Rattle.std.proofs.Common.{ap, sym, ◌∙◌, rules, tests}
use Rattle.std.specs.List.{list_any}
use Rattle.std.proofs.lemmas.Iterator.Search.{any_from_yields_List}
use Rattle.std.proofs.lemmas.Iterator.Consumers.{YieldsList-from_rest}
use Rattle.cat_core.specs.Catalogs.{enters_generation_of}
use Rattle.cat_core.proofs.Maps.{entries_of}
use Rattle.cat_core.proofs.catalog.has_generation_among_all.Goals as goal

pub returns : goal.returns
returns c =
    any_from_yields_List (enters_generation_of c.args.base.now) _ _ _ c.any.ensures.ran (YieldsList-from_rest _ c.iter.ensures.rest) (λ x b q k. search (rules, tests))
    ∙ ap (list_any (enters_generation_of c.args.base.now)) (sym (entries_of c.args.entries.now.entries c.iter.ensures.ordered))
