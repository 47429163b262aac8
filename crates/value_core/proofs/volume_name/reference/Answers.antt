use Rattle.std.proofs.Common.{sym, ◌∙◌}
use Rattle.value_core.specs.References.{is_reference}
use Rattle.value_core.specs.VolumeNames.{of_dd, of_name}
use Rattle.value_core.proofs.Both.{at_false, at_true}
use Rattle.value_core.proofs.volume_name.reference.Goals as goal

pub returns-then-is_reference : goal.returns-then-is_reference
returns-then-is_reference c =
    let text = c.args.text.now in
    at_true (is_reference text) (of_dd text) (of_name text) (sym c.is_reference.ensures ∙ c.if-is_reference.true) c.of_dd.ensures

pub returns : goal.returns
returns c =
    let text = c.args.text.now in
    at_false (is_reference text) (of_dd text) (of_name text) (sym c.is_reference.ensures ∙ c.if-is_reference.false) c.of_name.ensures
