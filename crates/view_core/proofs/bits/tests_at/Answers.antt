use Rattle.std.proofs.Common.{◌∙◌, ap, rules, tests}
use Rattle.std.proofs.lemmas.Fn.{filter_same}
use Rattle.jcl_meaning.specs.History.{looks_at}
use Rattle.view_core.specs.Bits.{looking}
use Rattle.view_core.proofs.bits.tests_at.Goals as goal

pub returns : goal.returns
returns c =
    filter_same _ (λ test. looks_at test.step c.args.n) _ (λ x b f k. search (rules, tests)) c.in_ok-found.found.items c.retain.new.self.items c.retain.ensures.filtered
    ∙ ap (looking c.args.n) c.in_ok-found.ensures.items
