use Rattle.std.proofs.Common.{◌≡◌, true, ap, ◌∙◌}
use Rattle.operand_core.specs.Faults.{name_faults, told}
use Rattle.operand_core.specs.Qualified.{is_qualified}
use Rattle.jcl_cards.specs.ExecCards.{step_named}
use Rattle.jcl_cards.proofs.ExecNames.{names_step, one_on, step_name}
use Rattle.jcl_cards.proofs.exec.named_steps_of.Goals as goal

pub valid_name-requires : goal.valid_name-requires
valid_name-requires c =
    let keyword = c.keyword-item.result in
    let qualified : is_qualified keyword.key ≡ true = cc in
    let none = one_on c.args.keywords.now c.loop-keyword.keyword-index keyword c.requires c.loop-keyword-test.true c.keyword-item.is in
    ap (λ text. told (name_faults text)) (c.step_named.ensures ∙ ap step_named c.key-key.ensures)
    ∙ step_name keyword qualified (names_step c.requires.0 keyword qualified none)
