use Rattle.std.proofs.Common.{◌≡◌, Some, false, true, sym, subst, ◌∙◌}
use Rattle.store_core.specs.Actions.{new_set_of}
use Rattle.shared_core.specs.Rooms.{holds_new}
use Rattle.shared_core.proofs.Entries.{ok_both, ok_by}
use Rattle.shared_core.proofs.Written.{each_in, its_state, keeps_others_in, writes_in}
use Rattle.shared_core.specs.Extents.{TakeOn}
use Rattle.shared_core.specs.Shown.{kept_extents}
use Rattle.shared_core.specs.Writes.{kept_there}
use Rattle.shared_core.proofs.OnVolumes.{here_kept, none_taken_up}
use Rattle.shared_core.proofs.volumes.make_set.Goals as goal

pub returns-clause-ok : goal.returns-clause-ok
returns-clause-ok c =
    let at = its_state c.args.volumes.now _ _ _ c.args.serial c.in-Some.at _ _ c.args.key.now c.as_slice.ensures (c.into_vec-all.ensures ∙ c.replace.ensures.value) c.index_mut.ensures.value c.new.ensures c.in-Some.ensures.there in
    ok_by c.make_on-made.result (λ w. (
      writes_in c.args.volumes.now _ _ _ c.args.serial c.in-Some.at _ _ c.args.key.now c.as_slice.ensures (c.into_vec-all.ensures ∙ c.replace.ensures.value) c.index_mut.ensures.value c.new.ensures
          (Some (new_set_of c.args.tracks c.args.expires)) c.in-Some.ensures.there w.0,
      keeps_others_in c.args.volumes.now _ _ _ c.args.serial c.in-Some.at _ _ c.args.key.now c.as_slice.ensures (c.into_vec-all.ensures ∙ c.replace.ensures.value) c.index_mut.ensures.value c.new.ensures
          c.args.place.now c.in-Some.ensures.there w.0.serial w.1,
      subst (λ o. holds_new (Some c.args.key.now) o c.args.place.now c.args.tracks ≡ true) (sym at) w.2,
    )) c.make_on-made.ensures.ok

pub returns-clause-refused : goal.returns-clause-refused
returns-clause-refused c =
    let at = its_state c.args.volumes.now _ _ _ c.args.serial c.in-Some.at _ _ c.args.key.now c.as_slice.ensures (c.into_vec-all.ensures ∙ c.replace.ensures.value) c.index_mut.ensures.value c.new.ensures c.in-Some.ensures.there in (
      λ h. subst (λ o. holds_new (Some c.args.key.now) o c.args.place.now c.args.tracks ≡ false) (sym at) (c.make_on-made.ensures.refused.0 h),
      λ h. c.make_on-made.ensures.refused.1 (subst (λ o. holds_new (Some c.args.key.now) o c.args.place.now c.args.tracks ≡ false) at h),
    )

pub returns-clause-extents : goal.returns-clause-extents
returns-clause-extents c =
    ok_both c.make_on-made.result (λ w r.
    each_in c.args.volumes.now _ _ _ c.args.serial c.in-Some.at _ _ c.args.key.now c.as_slice.ensures (c.into_vec-all.ensures ∙ c.replace.ensures.value)
    c.index_mut.ensures.value c.new.ensures
    (λ v o. TakeOn (kept_there c.args.serial c.args.place.now v o) o) (λ v o. none_taken_up (kept_there c.args.serial c.args.place.now v o) o) c.in-Some.ensures.there w.0.serial (here_kept c.args.serial c.args.place.now _ _ r)) c.make_on-made.ensures.ok c.make_on-made.ensures.extents
