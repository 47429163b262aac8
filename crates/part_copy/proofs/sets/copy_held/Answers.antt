use Rattle.std.proofs.Common.{subst}
use Rattle.std.proofs.lemmas.Result.{IfOk-weaker}
use Rattle.vtoc_core.specs.Volumes.{VolumeState}
use Rattle.part_copy.proofs.Held.{AreThere, HasGenerations, held_add}
use Rattle.part_copy.proofs.sets.copy_held.Goals as goal

pub returns : goal.returns
returns c =
    IfOk-weaker c.copy_sets.result _ _ (λ _ added. held_add c.args.job c.args.mounted.now c.args.name.now c.generation_sets-all.result
    c.args.sets.now c.copy_named.new.sets c.copy_sets.new.sets
    (subst (λ (v : VolumeState). AreThere c.generation_sets-all.result v.sets) c.volume.ensures c.generation_sets-all.ensures.there)
    (subst (λ (v : VolumeState). HasGenerations c.args.name.now c.generation_sets-all.result v.sets) c.volume.ensures c.generation_sets-all.ensures.all)
    c.in_ok-copy_named.ensures (cc)) c.copy_sets.ensures
