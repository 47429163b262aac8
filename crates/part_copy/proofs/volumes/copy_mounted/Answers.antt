use Rattle.std.proofs.Common.{ap, sym, ◌∙◌}
use Rattle.std.specs.Option.{option_copied}
use Rattle.std.proofs.lemmas.Result.{IfOk-weaker}
use Rattle.jcl_meaning.specs.Parts.{sees_key}
use Rattle.part_copy.proofs.Mounts.{find_is, mounted_add, none_add}
use Rattle.part_copy.proofs.volumes.copy_mounted.Goals as goal

pub returns-in-Some : goal.returns-in-Some
returns-in-Some c =
    IfOk-weaker c.copy_volume.result _ _ (λ _ added. mounted_add c.args.job c.args.volumes.now c.args.serial c.in-Some.mounted.now (λ q. sees_key c.args.names.now q.0)
    c.args.sets.now c.copy_volume.new.sets (sym (find_is c.args.volumes.now c.args.serial) ∙ sym c.mounted_of.ensures ∙ ap option_copied c.in-Some.is) added) c.copy_volume.ensures

pub returns-in-None : goal.returns-in-None
returns-in-None c =
    none_add c.args.job c.args.volumes.now c.args.serial (λ q. sees_key c.args.names.now q.0) c.args.sets.now (sym (find_is c.args.volumes.now c.args.serial) ∙ sym c.mounted_of.ensures ∙ ap option_copied c.in-None.is)
