use Rattle.std.proofs.Common.{◌==◌, rules, tests}
use Rattle.std.specs.Prelude.{nat_lt, length}
use Rattle.std.proofs.lemmas.Iterator.Search.{any_from_yields_List}
use Rattle.std.proofs.lemmas.Iterator.Splits.{YieldsList-from_slice_split}
use Rattle.jname_core.proofs.ds_name.has_long_component.Goals as goal

pub returns : goal.returns
returns c = any_from_yields_List (λ part. nat_lt 8 (length part)) _ _ _ c.any.ensures.ran
    (YieldsList-from_slice_split _ (λ d. d == 46) c.args.text.now c.split.ensures.rest c.split.ensures.done c.split.ensures.closure (λ x b q k. search (rules, tests)))
    (λ x b q k. search (rules, tests))
