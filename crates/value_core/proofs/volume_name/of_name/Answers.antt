use Rattle.std.proofs.Common.{ℕ, List, refl, sym, ◌∙◌}
use Rattle.std.proofs.lemmas.Result.{err_from_is_err_and}
use Rattle.jcl_plan.specs.declared.fault.Cause.TheVariants.{P}
use Rattle.jcl_plan.specs.declared.fault.StatementFault.TheVariants.{BadValue}
use Rattle.value_core.specs.declared.set.VolumeName.{VolumeName}
use Rattle.value_core.specs.declared.set.VolumeName.TheVariants as volume
use Rattle.value_core.specs.Reads.{Read, bad}
use Rattle.value_core.specs.SetNames.{ds_name}
use Rattle.value_core.specs.VolumeNames.{is_other_name}
use Rattle.value_core.proofs.Both.{at_false, at_true, err_is, ok_is}
use Rattle.value_core.proofs.volume_name.of_name.Goals as goal

abbrev named : List ℕ → Read VolumeName
named text = record { value = volume.OfName text; faults = (ds_name text).faults }

pub returns-then-is_other_name : goal.returns-then-is_other_name
returns-then-is_other_name c =
    let text = c.args.text.now in
    at_true (is_other_name text) (bad volume.Any (P BadValue)) (named text) (sym c.is_other_name.ensures ∙ c.if-is_other_name.true) refl

pub returns-in_err-name : goal.returns-in_err-name
returns-in_err-name c =
    let text = c.args.text.now in
    at_false (is_other_name text) (bad volume.Any (P BadValue)) (named text) (sym c.is_other_name.ensures ∙ c.if-is_other_name.false)
    (err_is (ds_name text) (named text) c.ds_name.ensures c.in_err-name.was refl (err_from_is_err_and c.from_residual.result c.from_residual.ensures.1))

pub returns : goal.returns
returns c =
    let text = c.args.text.now in
    let made : List ℕ → VolumeName = λ name. volume.OfName name in
    at_false (is_other_name text) (bad volume.Any (P BadValue)) (named text) (sym c.is_other_name.ensures ∙ c.if-is_other_name.false)
    (ok_is made (ds_name text) (named text) c.ds_name.ensures c.in_ok-name.was refl refl)
