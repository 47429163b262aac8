use Rattle.std.proofs.Common.{◌≡◌, List, ap, refl, sym, subst, ◌∙◌, arith}
use Rattle.vtoc_core.specs.declared.volume.Track.{Track}
use Rattle.vtoc_core.specs.declared.volume.Track.TheVariants.{Aside, InSet}
use Rattle.vtoc_core.specs.Extents.{tracks_in}
use Rattle.vtoc_core.specs.Volumes.{AreOf, Moves, marked}
use Rattle.vtoc_core.proofs.CountLemmas.{moves}
use Rattle.vtoc_core.proofs.FreeTracks.{are_free_same}
use Rattle.vtoc_core.proofs.KindLemmas.{aside≢in_set}
use Rattle.vtoc_core.proofs.MarkLemmas.{length-marked, written}
use Rattle.vtoc_core.proofs.TableLemmas.{table_kept}
use Rattle.vtoc_core.proofs.table.TrackTable.assign.Goals as goal

pub invariant_of-self : goal.invariant_of-self
invariant_of-self c =
    let ts = c.self.inside.tracks.items in
    let es = c.args.extents.now in
    let a : AreOf Aside ts es = subst (λ (us : List Track). AreOf Aside us es) (sym c.self.view_is) c.requires.kinds in
    let new : c.change-self-inside.new.tracks ≡ marked InSet es ts = c.change-self-inside.ensures.tracks ∙ ap (λ us. marked InSet es us) c.as_mut_slice.ensures.value in
    table_kept InSet es ts _ c.change-self-inside.new.tracks c.change-self-inside.result c.self.inside.free
    (written c.change-self-inside.new.tracks (marked InSet es ts) ts c.self.inside.tracks.len new (omega (arith, length-marked InSet es ts)))
    new c.self.invariant.1 c.change-self-inside.ensures.counted (c.self.invariant.2 ∙ sym (are_free_same Aside InSet es ts a refl))

pub returns-clause-counts : goal.returns-clause-counts
returns-clause-counts c =
    let ts = c.self.inside.tracks.items in
    let es = c.args.extents.now in
    let a : AreOf Aside ts es = subst (λ (us : List Track). AreOf Aside us es) (sym c.self.view_is) c.requires.kinds in
    let new : c.change-self-inside.new.tracks ≡ marked InSet es ts = c.change-self-inside.ensures.tracks ∙ ap (λ us. marked InSet es us) c.as_mut_slice.ensures.value in
    subst (λ (us : List Track). Moves Aside InSet (tracks_in es) c.args.self.now us)
    (sym (written c.change-self-inside.new.tracks (marked InSet es ts) ts c.self.inside.tracks.len new (omega (arith, length-marked InSet es ts))))
    (subst (λ (us : List Track). Moves Aside InSet (tracks_in es) us (marked InSet es ts)) c.self.view_is (moves Aside InSet es ts aside≢in_set a))
