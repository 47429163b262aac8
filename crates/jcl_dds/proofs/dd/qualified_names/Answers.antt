use Rattle.std.proofs.Common.{ap, ◌∙◌}
use Rattle.operand_core.specs.Qualified.{head_of}
use Rattle.value_core.specs.Reads.{answer, name}
use Rattle.value_core.proofs.Both.{both_is}
use Rattle.jcl_dds.specs.DdCards.{behind_period}
use Rattle.jcl_dds.proofs.dd.qualified_names.Goals as goal

pub returns : goal.returns
returns c =
    let text = c.args.name.now in
    both_is (name (head_of text)) (name (behind_period text)) (c.name.ensures ∙ ap (λ word. answer (name word)) c.head_of.ensures)
    (c.name-2.ensures ∙ ap (λ word. answer (name word)) c.behind_period.ensures) c.both.ensures
