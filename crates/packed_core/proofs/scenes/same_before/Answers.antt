use Rattle.std.proofs.Common.{◌∙◌, sym}
use Rattle.packed_core.proofs.scenes.same_before.Goals as goal

pub returns : goal.returns
returns c =
    let names = c.args.names.now in
    let first = c.asking-asked.ensures.first names c.args.date in
    let other = c.asking-asked.ensures.other names c.args.date in
    (λ e. sym first ∙ c.same_scene.ensures.0 e ∙ other, λ e. c.same_scene.ensures.1 (first ∙ e ∙ sym other))
