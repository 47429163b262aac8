use Rattle.std.proofs.Common.{◌≡◌, ℕ, List, [], ap, sym, ◌∙◌}
use Rattle.extent_core.specs.declared.extent.Extent.{Extent}
use Rattle.vtoc_core.specs.declared.entry.SetEntry.{SetEntry}
use Rattle.vtoc_core.specs.declared.volume.Track.TheVariants.{Free, InSet}
use Rattle.vtoc_core.specs.Entries.{sets_of}
use Rattle.std.specs.FinMap.{insert}
use Rattle.vtoc_core.specs.Extents.{free_extents, planned}
use Rattle.vtoc_core.specs.Volumes.{VolumeState, marked}
use Rattle.vtoc_core.proofs.KindLemmas.{free≢in_set}
use Rattle.vtoc_core.proofs.SoundLemmas.{same_state, sound_as, sound_made}
use Rattle.vtoc_core.proofs.TableLemmas.{space_back, space_held}
use Rattle.vtoc_core.proofs.volume.Volume.make_set.Goals as goal

pub invariant_of-self-in-Ok : goal.invariant_of-self-in-Ok
invariant_of-self-in-Ok c =
    let v : VolumeState = record { tracks = c.self.inside.tracks; sets = sets_of c.self.inside.sets.entries } in
    let es = c.in-Some.taken.items in
    let taken = c.in-Some.ensures in
    let e : SetEntry = record { extents = c.extents_of.result; expires = c.args.expires; records = c.new.result } in
    let held : e.extents.items ≡ es = cc in
    sound_as (marked InSet es v.tracks) c.take.new.self (insert v.sets c.args.key e) (sets_of c.enter.new.sets.entries) taken.marked c.in-Ok.ensures.ok
    (sound_made Free v es c.args.key e free≢in_set taken.free held c.in-Ok.ensures.absent c.self.invariant)

pub returns-in-Ok-clause-ok : goal.returns-in-Ok-clause-ok
returns-in-Ok-clause-ok c =
    let v : VolumeState = record { tracks = c.self.inside.tracks; sets = sets_of c.self.inside.sets.entries } in
    let es = c.in-Some.taken.items in
    let taken = c.in-Some.ensures in
    let held : c.extents_of.result.items ≡ es = cc in (
      es,
      ap (λ (w : VolumeState). planned (free_extents w.tracks) c.args.tracks) (sym c.self.view_is) ∙ taken.planned,
      same_state _ _ _ _
          (taken.marked ∙ ap (λ (w : VolumeState). marked InSet es w.tracks) c.self.view_is)
          (c.in-Ok.ensures.ok
          ∙ ap (λ (xs : List Extent). insert v.sets c.args.key
          (record { extents = record { items = xs }; expires = c.args.expires; records = c.new.result })) held
          ∙ ap (λ (rs : List (List ℕ)). insert v.sets c.args.key (record { extents = record { items = es }; expires = c.args.expires; records = rs }))
          c.new.ensures
          ∙ ap (λ (w : VolumeState). insert w.sets c.args.key (record { extents = record { items = es }; expires = c.args.expires; records = [] }))
          c.self.view_is),
    )

pub set_free-requires-clause-kinds : goal.set_free-requires-clause-kinds
set_free-requires-clause-kinds c = space_held InSet c.args.tracks c.self.inside.tracks c.take.new.self c.in-Some.taken.items _ c.as_slice-in-Err.ensures.value c.in-Some.ensures

pub invariant_of-self-in-Err : goal.invariant_of-self-in-Err
invariant_of-self-in-Err c =
    let v : VolumeState = record { tracks = c.self.inside.tracks; sets = sets_of c.self.inside.sets.entries } in
    sound_as v.tracks c.set_free.new.self v.sets (sets_of c.enter.new.sets.entries)
    (c.set_free.ensures.tracks ∙ space_back InSet c.args.tracks v.tracks c.take.new.self c.in-Some.taken.items _ c.as_slice-in-Err.ensures.value c.in-Some.ensures)
    c.in-Err.ensures.err c.self.invariant

pub returns-in-Err-clause-err : goal.returns-in-Err-clause-err
returns-in-Err-clause-err c =
    let v : VolumeState = record { tracks = c.self.inside.tracks; sets = sets_of c.self.inside.sets.entries } in
    same_state _ _ _ _
    (c.set_free.ensures.tracks ∙ space_back InSet c.args.tracks v.tracks c.take.new.self c.in-Some.taken.items _ c.as_slice-in-Err.ensures.value c.in-Some.ensures)
    c.in-Err.ensures.err
    ∙ c.self.view_is
