use Rattle.std.proofs.Common.{◌≡◌, None, Some, false, true, sym, subst, ◌∙◌}
use Rattle.jcl_meaning.specs.Programs.{grown_by}
use Rattle.shared_core.specs.Rooms.{holds_more}
use Rattle.shared_core.proofs.Entries.{ok_both, ok_by}
use Rattle.shared_core.proofs.Written.{each_in, changes_in, its_state}
use Rattle.shared_core.specs.Extents.{TakeOn}
use Rattle.shared_core.specs.Shown.{mounted_in}
use Rattle.shared_core.proofs.OnVolumes.{none_taken_up}
use Rattle.shared_core.proofs.volumes.grow_set.Goals as goal

pub returns-clause-ok : goal.returns-clause-ok
returns-clause-ok c =
    let at = its_state c.args.volumes.now _ _ _ c.args.serial c.in-Some.at _ _ c.args.key.now c.as_slice.ensures (c.into_vec-all.ensures ∙ c.replace.ensures.value) c.index_mut.ensures.value c.new.ensures c.in-Some.ensures.there in
    ok_by c.grow_on-grown.result (λ w. (
      changes_in c.args.volumes.now _ _ _ c.args.serial c.in-Some.at _ _ c.args.key.now c.as_slice.ensures (c.into_vec-all.ensures ∙ c.replace.ensures.value) c.index_mut.ensures.value c.new.ensures
          (grown_by c.args.tracks) c.in-Some.ensures.there w.0,
      subst (λ o. holds_more (Some c.args.key.now) o c.args.tracks ≡ true) (sym at) w.1,
    )) c.grow_on-grown.ensures.ok

pub returns-clause-refused : goal.returns-clause-refused
returns-clause-refused c =
    let at = its_state c.args.volumes.now _ _ _ c.args.serial c.in-Some.at _ _ c.args.key.now c.as_slice.ensures (c.into_vec-all.ensures ∙ c.replace.ensures.value) c.index_mut.ensures.value c.new.ensures c.in-Some.ensures.there in (
      λ h. subst (λ o. holds_more (Some c.args.key.now) o c.args.tracks ≡ false) (sym at) (c.grow_on-grown.ensures.refused.0 h),
      λ h. c.grow_on-grown.ensures.refused.1 (subst (λ o. holds_more (Some c.args.key.now) o c.args.tracks ≡ false) at h),
    )

pub returns-clause-extents : goal.returns-clause-extents
returns-clause-extents c =
    ok_both c.grow_on-grown.result (λ w r.
    each_in c.args.volumes.now _ _ _ c.args.serial c.in-Some.at _ _ c.args.key.now c.as_slice.ensures (c.into_vec-all.ensures ∙ c.replace.ensures.value)
    c.index_mut.ensures.value c.new.ensures
    (λ v. TakeOn None) (λ v. none_taken_up None) c.in-Some.ensures.there w.0.0.serial r) c.grow_on-grown.ensures.ok c.grow_on-grown.ensures.extents

pub returns-in_default-clause-extents : goal.returns-in_default-clause-extents
returns-in_default-clause-extents c = λ v. none_taken_up None (mounted_in c.args.volumes.now v)
