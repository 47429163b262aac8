use Rattle.std.proofs.Common.{◌∙◌, rules, tests}
use Rattle.std.proofs.lemmas.Iterator.{YieldsList-from_slice}
use Rattle.std.proofs.lemmas.Iterator.Consumers.{count_from_yields_List, YieldsList-from_filter}
use Rattle.std.proofs.lemmas.List.Sums.{length-filter}
use Rattle.jcl_refs.specs.Planning.{looks_for_later}
use Rattle.jcl_refs.proofs.plan.count_dd_names.Goals as goal

pub returns : goal.returns
returns c =
    count_from_yields_List c.filter.result c.count.result c.count.ensures.ran
    (YieldsList-from_filter _ looks_for_later (YieldsList-from_slice c.args.dds.now cc) c.filter.ensures.closure (λ x b q k. search (rules, tests)))
    ∙ length-filter looks_for_later c.args.dds.now
