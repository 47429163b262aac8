use Rattle.std.proofs.Common.{◌∙◌}
use Rattle.jcl_meaning.specs.Programs.{appended}
use Rattle.shared_core.proofs.Entries.{ok_by}
use Rattle.shared_core.proofs.Written.{each_in, changes_in}
use Rattle.shared_core.specs.Extents.{StayOn}
use Rattle.shared_core.specs.Shown.{mounted_in}
use Rattle.shared_core.proofs.OnVolumes.{all_stay}
use Rattle.shared_core.proofs.volumes.append_to.Goals as goal

pub returns-clause-ok : goal.returns-clause-ok
returns-clause-ok c =
    ok_by c.append_on-done.result (λ w.
    changes_in c.args.volumes.now _ _ _ c.args.serial c.in-Some.at _ _ c.args.key.now c.as_slice.ensures (c.into_vec-all.ensures ∙ c.replace.ensures.value) c.index_mut.ensures.value c.new.ensures
    (appended c.args.text.now) c.in-Some.ensures.there w) c.append_on-done.ensures.ok

pub returns-clause-extents : goal.returns-clause-extents
returns-clause-extents c =
    ok_by c.append_on-done.result (λ w.
    each_in c.args.volumes.now _ _ _ c.args.serial c.in-Some.at _ _ c.args.key.now c.as_slice.ensures (c.into_vec-all.ensures ∙ c.replace.ensures.value)
    c.index_mut.ensures.value c.new.ensures
    (λ v. StayOn) (λ v. all_stay) c.in-Some.ensures.there w.0.serial c.append_on-done.ensures.extents) c.append_on-done.ensures.ok

pub returns-in_default-clause-extents : goal.returns-in_default-clause-extents
returns-in_default-clause-extents c = λ v. all_stay (mounted_in c.args.volumes.now v)
