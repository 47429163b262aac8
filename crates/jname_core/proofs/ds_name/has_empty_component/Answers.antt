use Rattle.std.proofs.Common.{◌==◌, rules, tests}
use Rattle.std.proofs.lemmas.Iterator.Search.{any_from_yields_List}
use Rattle.std.proofs.lemmas.Iterator.Splits.{YieldsList-from_slice_split}
use Rattle.jname_core.specs.Faults.{is_empty}
use Rattle.jname_core.proofs.ds_name.has_empty_component.Goals as goal

pub returns : goal.returns
returns c = any_from_yields_List (is_empty) _ _ _ c.any.ensures.ran
    (YieldsList-from_slice_split _ (λ d. d == 46) c.args.text.now c.split.ensures.rest c.split.ensures.done c.split.ensures.closure (λ x b q k. search (rules, tests)))
    (λ x b q k. search (rules, tests))
