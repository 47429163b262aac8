use Rattle.std.proofs.Common.{true, ◌∙◌}
use Rattle.jcl_meaning.specs.Programs.{emptied}
use Rattle.shared_core.proofs.Written.{each_in, changes_in}
use Rattle.shared_core.specs.Extents.{StayOn}
use Rattle.shared_core.specs.Shown.{mounted_in}
use Rattle.shared_core.proofs.OnVolumes.{all_stay}
use Rattle.shared_core.proofs.volumes.empty_set.Goals as goal

pub returns-clause-changes : goal.returns-clause-changes
returns-clause-changes c =
    changes_in c.args.volumes.now _ _ _ c.args.serial c.in-Some.at _ _ c.args.key.now c.as_slice.ensures (c.into_vec-all.ensures ∙ c.replace.ensures.value)
    c.index_mut.ensures.value c.new.ensures (emptied true) c.in-Some.ensures.there c.empty_on.ensures.changes

pub returns-clause-extents : goal.returns-clause-extents
returns-clause-extents c =
    each_in c.args.volumes.now _ _ _ c.args.serial c.in-Some.at _ _ c.args.key.now c.as_slice.ensures (c.into_vec-all.ensures ∙ c.replace.ensures.value)
    c.index_mut.ensures.value c.new.ensures
    (λ v. StayOn) (λ v. all_stay) c.in-Some.ensures.there c.empty_on.ensures.changes.0.serial c.empty_on.ensures.extents

pub returns-in_default-clause-extents : goal.returns-in_default-clause-extents
returns-in_default-clause-extents c = λ v. all_stay (mounted_in c.args.volumes.now v)
