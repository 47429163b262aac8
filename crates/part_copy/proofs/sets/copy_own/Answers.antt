use Rattle.std.proofs.Common.{◌≡◌, subst}
use Rattle.std.specs.declared.ops.Bound.TheVariants.{Included, Unbounded}
use Rattle.std.proofs.lemmas.Result.{IfOk-weaker}
use Rattle.vtoc_core.specs.declared.entry.SetKey.{SetKey}
use Rattle.vtoc_core.specs.Entries.{set_among, set_within}
use Rattle.vtoc_core.specs.Volumes.{VolumeState}
use Rattle.part_copy.proofs.Held.{own_add}
use Rattle.part_copy.proofs.sets.copy_own.Goals as goal

pub returns : goal.returns
returns c =
    IfOk-weaker c.copy_sets.result _ _ (λ _ added. own_add c.args.job c.args.mounted.now c.key_behind_names.result c.sets_from-all.result
    c.args.sets.now c.copy_sets.new.sets c.key_behind_names.ensures
    (subst (λ (v : VolumeState). (k : SetKey) → set_among c.sets_from-all.result k ≡ set_within (Included c.key_behind_names.result) Unbounded v.sets k)
    c.volume.ensures c.sets_from-all.ensures) (cc)) c.copy_sets.ensures
