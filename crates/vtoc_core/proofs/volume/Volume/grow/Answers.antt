use Rattle.std.proofs.Common.{◌≡◌, ◌+◌, ◌<◌, ◌++◌, Some, length, ap, refl, sym, ◌∙◌, arith}
use Rattle.std.specs.FinMap.{get, insert}
use Rattle.vtoc_core.specs.declared.entry.SetEntry.{SetEntry}
use Rattle.vtoc_core.specs.declared.volume.Track.TheVariants.{InSet}
use Rattle.vtoc_core.specs.Entries.{sets_of, with_extents}
use Rattle.vtoc_core.specs.Extents.{free_extents, planned}
use Rattle.vtoc_core.specs.Volumes.{VolumeState, marked}
use Rattle.vtoc_core.proofs.MapLemmas.{changed_is}
use Rattle.vtoc_core.proofs.SoundLemmas.{same_state, sound_as, sound_grown}
use Rattle.vtoc_core.proofs.TableLemmas.{space_back, space_held}
use Rattle.vtoc_core.proofs.volume.Volume.grow.Goals as goal

pub set_free-requires-clause-kinds : goal.set_free-requires-clause-kinds
set_free-requires-clause-kinds c = space_held InSet c.args.tracks c.self.inside.tracks c.take.new.self c.in-Some-take.more.items _ c.as_slice-in_default-joined.ensures.value c.in-Some-take.ensures

pub invariant_of-self-in_default-joined : goal.invariant_of-self-in_default-joined
invariant_of-self-in_default-joined c =
    let v : VolumeState = record { tracks = c.self.inside.tracks; sets = sets_of c.self.inside.sets.entries } in
    sound_as v.tracks c.set_free.new.self v.sets v.sets
    (c.set_free.ensures.tracks ∙ space_back InSet c.args.tracks v.tracks c.take.new.self c.in-Some-take.more.items _ c.as_slice-in_default-joined.ensures.value c.in-Some-take.ensures)
    refl c.self.invariant

pub returns-in_default-joined : goal.returns-in_default-joined
returns-in_default-joined c =
    let v : VolumeState = record { tracks = c.self.inside.tracks; sets = sets_of c.self.inside.sets.entries } in
    let e : SetEntry = c.in-Some.entry.now in
    let es = c.in-Some-take.more.items in
    let first : c.as_slice.result.now ≡ e.extents.items = cc in
    let last : c.as_slice-2.result.now ≡ es = cc in
    let many : 16 < length c.as_slice.result.now + length c.as_slice-2.result.now = c.in_default-joined.ensures in
    record {
      answer = (
        e,
        es,
        ap (λ (w : VolumeState). get w.sets c.args.key.now) (sym c.self.view_is) ∙ sym c.in-Some.ensures,
        ap (λ (w : VolumeState). planned (free_extents w.tracks) c.args.tracks) (sym c.self.view_is) ∙ c.in-Some-take.ensures.planned,
        omega (arith, ap length first, ap length last),
        same_state _ _ _ _
            (c.set_free.ensures.tracks ∙ space_back InSet c.args.tracks v.tracks c.take.new.self es _ c.as_slice-in_default-joined.ensures.value c.in-Some-take.ensures)
            refl
            ∙ c.self.view_is,
      );
    }

pub invariant_of-self-2 : goal.invariant_of-self-2
invariant_of-self-2 c =
    let v : VolumeState = record { tracks = c.self.inside.tracks; sets = sets_of c.self.inside.sets.entries } in
    let es = c.in-Some-take.more.items in
    let e : SetEntry = c.in-Some.entry.now in
    let all = c.in-Some-joined.extents.items in
    let f : SetEntry = with_extents (λ _. all) e in
    let there : get v.sets c.args.key.now ≡ Some e = sym c.in-Some.ensures in
    let joined : all ≡ c.as_slice.result.now ++ c.as_slice-2.result.now = c.in-Some-joined.ensures.1 in
    let held : all ≡ e.extents.items ++ es = cc in
    sound_as (marked InSet es v.tracks) c.take.new.self (insert v.sets c.args.key.now f) (sets_of c.set_extents.new.sets.entries) c.in-Some-take.ensures.marked
    (c.set_extents.ensures ∙ changed_is v.sets c.args.key.now (with_extents (λ _. all)) e there)
    (sound_grown v es c.args.key.now e f c.in-Some-take.ensures.free there held c.self.invariant)
