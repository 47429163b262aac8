use Rattle.std.proofs.Common.{◌≡◌, ◌<◌, ℕ, List, Some, ap, sym, subst, ◌∙◌, arith}
use Rattle.std.specs.FinMap.{get, insert}
use Rattle.jcl_plan.specs.declared.plan.TheConstants.{MOST_TRACKS}
use Rattle.extent_core.specs.declared.extent.Extent.{Extent}
use Rattle.vtoc_core.specs.declared.entry.SetEntry.{SetEntry}
use Rattle.vtoc_core.specs.declared.volume.Track.TheVariants.{Free, InSet}
use Rattle.vtoc_core.specs.Entries.{changed, sets_of, with_extents}
use Rattle.vtoc_core.specs.Extents.{kept_front, past_front, tracks_in}
use Rattle.vtoc_core.specs.Volumes.{AreOf, Moves, VolumeState, marked, times_in, tracks_past}
use Rattle.vtoc_core.proofs.CutLemmas.{tracks_in_past}
use Rattle.vtoc_core.proofs.MapLemmas.{changed_is}
use Rattle.vtoc_core.proofs.SoundLemmas.{past_tracks, same_state, set_below, sound_as, sound_cut}
use Rattle.vtoc_core.proofs.volume.Volume.trim.Goals as goal

pub cut-kept-requires-clause-below : goal.cut-kept-requires-clause-below
cut-kept-requires-clause-below c = λ k l.
    let v : VolumeState = record { tracks = c.self.inside.tracks; sets = sets_of c.self.inside.sets.entries } in
    let m : 0 < times_in k c.in-Some.entry.now.extents.items = subst (λ es. 0 < times_in k es) c.as_slice.ensures.value l in
    let b : k < MOST_TRACKS = set_below v c.args.key.now c.in-Some.entry.now k (sym c.in-Some.ensures) m c.self.invariant in
    omega arith

pub set_free-requires-clause-kinds : goal.set_free-requires-clause-kinds
set_free-requires-clause-kinds c =
    let v : VolumeState = record { tracks = c.self.inside.tracks; sets = sets_of c.self.inside.sets.entries } in
    let e : SetEntry = c.in-Some.entry.now in
    let past : c.as_slice-2.result.now ≡ past_front c.args.tracks e.extents.items = cc in
    subst (λ (fs : List Extent). AreOf InSet v.tracks fs) (sym past) (past_tracks v c.args.tracks c.args.key.now e (sym c.in-Some.ensures) c.self.invariant)

pub invariant_of-self : goal.invariant_of-self
invariant_of-self c =
    let v : VolumeState = record { tracks = c.self.inside.tracks; sets = sets_of c.self.inside.sets.entries } in
    let e : SetEntry = c.in-Some.entry.now in
    let there : get v.sets c.args.key.now ≡ Some e = sym c.in-Some.ensures in
    let past : c.as_slice-2.result.now ≡ past_front c.args.tracks e.extents.items = cc in
    let kept : c.cut-kept.result.0.items ≡ kept_front c.args.tracks e.extents.items = cc in
    let f : SetEntry = with_extents (λ _. c.cut-kept.result.0.items) e in
    sound_as (marked Free (past_front c.args.tracks e.extents.items) v.tracks) c.set_free.new.self (insert v.sets c.args.key.now f)
    (sets_of c.set_extents.new.sets.entries)
    (c.set_free.ensures.tracks ∙ ap (λ fs. marked Free fs v.tracks) past)
    (c.set_extents.ensures ∙ changed_is v.sets c.args.key.now (with_extents (λ _. c.cut-kept.result.0.items)) e there)
    (sound_cut v c.args.tracks c.args.key.now e f there kept c.self.invariant)

pub returns-clause-ok : goal.returns-clause-ok
returns-clause-ok c =
    let v : VolumeState = record { tracks = c.self.inside.tracks; sets = sets_of c.self.inside.sets.entries } in
    let e : SetEntry = c.in-Some.entry.now in
    let n = c.args.tracks in
    let there : get v.sets c.args.key.now ≡ Some e = sym c.in-Some.ensures in
    let past : c.as_slice-2.result.now ≡ past_front n e.extents.items = cc in
    let kept : c.cut-kept.result.0.items ≡ kept_front n e.extents.items = cc in
    let lost : tracks_in c.as_slice-2.result.now ≡ tracks_past n e.extents.items = ap tracks_in past ∙ tracks_in_past n e.extents.items in (
      e,
      ap (λ (w : VolumeState). get w.sets c.args.key.now) (sym c.self.view_is) ∙ there,
      same_state _ _ _ _
          (c.set_free.ensures.tracks ∙ ap (λ fs. marked Free fs v.tracks) past
          ∙ ap (λ (w : VolumeState). marked Free (past_front n e.extents.items) w.tracks) c.self.view_is)
          (c.set_extents.ensures
          ∙ changed_is v.sets c.args.key.now (with_extents (λ _. c.cut-kept.result.0.items)) e there
          ∙ ap (λ (es : List Extent). insert v.sets c.args.key.now (with_extents (λ _. es) e)) kept
          ∙ sym (changed_is v.sets c.args.key.now (with_extents (kept_front n)) e there)
          ∙ ap (λ (w : VolumeState). changed w.sets c.args.key.now (with_extents (kept_front n))) c.self.view_is),
      subst (λ (w : VolumeState). Moves InSet Free (tracks_past n e.extents.items) w.tracks c.set_free.new.self) c.self.view_is
          (subst (λ (m : ℕ). Moves InSet Free m v.tracks c.set_free.new.self) lost c.set_free.ensures.counts),
    )
