use Rattle.std.proofs.Common.{List, ap, ◌∙◌}
use Rattle.mount_core.specs.Mounts.{MountedState}
use Rattle.part_copy.specs.Copies.{bare_at}
use Rattle.part_copy.proofs.Shown.{groups_sound, sets_shown}
use Rattle.part_copy.proofs.part.part_of.Goals as goal

pub returns-clause-sets : goal.returns-clause-sets
returns-clause-sets c =
    sets_shown c.args.job c.args.store.now c.args.names.now (record { volumes = c.in_ok-volumes.volumes; sets = c.in_ok-sets.sets; catalog = c.in_ok-catalog.catalog })
    (λ q h. c.in_ok-sets.ensures q h ∙ ap (λ (ms : List MountedState). bare_at c.args.job ms q) c.as_slice-2.ensures)

pub returns-clause-groups : goal.returns-clause-groups
returns-clause-groups c =
    groups_sound c.args.job c.args.store.now c.args.names.now (record { volumes = c.in_ok-volumes.volumes; sets = c.in_ok-sets.sets; catalog = c.in_ok-catalog.catalog })
    c.in_ok-catalog.ensures.copied
