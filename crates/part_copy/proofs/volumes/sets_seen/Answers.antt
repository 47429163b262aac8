use Rattle.std.proofs.Common.{List, subst}
use Rattle.jcl_meaning.specs.declared.store.SoloSet.{SoloSet}
use Rattle.part_copy.specs.Copies.{AddsSets, bare_at, is_seen_on}
use Rattle.part_copy.proofs.Mounts.{all_found}
use Rattle.part_copy.proofs.volumes.sets_seen.Goals as goal

pub returns : goal.returns
returns c =
    all_found c.args.job c.args.names.now c.args.volumes.now c.copy_all.new.sets
    (subst (λ (old : List SoloSet). AddsSets (bare_at c.args.job c.args.volumes.now) (is_seen_on c.args.names.now c.args.volumes.now) old c.copy_all.new.sets)
    c.empty-sets.ensures c.in_ok-copy_all.ensures)
