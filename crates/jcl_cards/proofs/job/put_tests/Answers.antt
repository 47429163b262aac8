use Rattle.std.proofs.Common.{sym, ap, ◌∙◌}
use Rattle.operand_core.specs.Faults.{told}
use Rattle.jcl_cards.proofs.JobWords.{no_tests_in}
use Rattle.jcl_cards.proofs.job.put_tests.Goals as goal

pub returns-else-has_key-clause-told : goal.returns-else-has_key-clause-told
returns-else-has_key-clause-told c = ap (λ r. told r.faults) (sym (no_tests_in c.args.keywords.now (sym c.has_key.ensures ∙ c.if-has_key.false)))

pub returns-else-has_key-clause-value : goal.returns-else-has_key-clause-value
returns-else-has_key-clause-value c =
    λ none. c.requires ∙ ap (λ r. r.value) (sym (no_tests_in c.args.keywords.now (sym c.has_key.ensures ∙ c.if-has_key.false)))
