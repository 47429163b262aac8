use Rattle.std.proofs.Common.{None, ◌∙◌}
use Rattle.shared_core.proofs.Written.{each_in, keeps_in, writes_in}
use Rattle.shared_core.specs.Extents.{GiveUpOn}
use Rattle.shared_core.specs.Shown.{mounted_in}
use Rattle.shared_core.proofs.OnVolumes.{none_given_up}
use Rattle.shared_core.proofs.volumes.scratch_set.Goals as goal

pub returns-clause-changes : goal.returns-clause-changes
returns-clause-changes c = (
  writes_in c.args.volumes.now _ _ _ c.args.serial c.in-Some.at _ _ c.args.key.now c.as_slice.ensures (c.into_vec-all.ensures ∙ c.replace.ensures.value) c.index_mut.ensures.value c.new.ensures
      None c.in-Some.ensures.there c.scratch_on.ensures.changes.0,
  keeps_in c.args.volumes.now _ _ _ c.args.serial c.in-Some.at _ _ c.args.key.now c.as_slice.ensures (c.into_vec-all.ensures ∙ c.replace.ensures.value) c.index_mut.ensures.value c.new.ensures
      c.in-Some.ensures.there c.scratch_on.ensures.changes.0.serial c.scratch_on.ensures.changes.1,
)

pub returns-clause-extents : goal.returns-clause-extents
returns-clause-extents c =
    each_in c.args.volumes.now _ _ _ c.args.serial c.in-Some.at _ _ c.args.key.now c.as_slice.ensures (c.into_vec-all.ensures ∙ c.replace.ensures.value)
    c.index_mut.ensures.value c.new.ensures
    (λ v. GiveUpOn) (λ v. none_given_up) c.in-Some.ensures.there c.scratch_on.ensures.changes.0.serial c.scratch_on.ensures.extents

pub returns-in_default-clause-extents : goal.returns-in_default-clause-extents
returns-in_default-clause-extents c = λ v. none_given_up (mounted_in c.args.volumes.now v)
