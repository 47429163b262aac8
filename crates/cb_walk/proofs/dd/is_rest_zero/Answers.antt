use Rattle.std.proofs.Common.{◌∙◌, ap}
use Rattle.cb_meaning.specs.Fields.{is_zero_but}
use Rattle.cb_walk.proofs.UsedFields.{used_alike}
use Rattle.cb_walk.proofs.dd.is_rest_zero.Goals as goal

pub returns : goal.returns
returns c =
    c.is_zero_but.ensures ∙ ap (λ fs. is_zero_but fs c.args.r.now) c.siot_fields.ensures
    ∙ used_alike c.args.layout.now c.args.r.now
