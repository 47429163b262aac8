use Rattle.std.proofs.Common.{◌≡◌, List, Bool, ap, sym, subst, ◌∙◌, arith}
use Rattle.vtoc_core.specs.declared.volume.Track.{Track}
use Rattle.vtoc_core.specs.declared.volume.Track.TheVariants.{Free}
use Rattle.vtoc_core.specs.Extents.{tracks_in}
use Rattle.vtoc_core.specs.Searches.{TakenInTurn}
use Rattle.vtoc_core.specs.Volumes.{AreOf, Moves, marked}
use Rattle.vtoc_core.proofs.CountLemmas.{moves}
use Rattle.vtoc_core.proofs.FreeTracks.{taken_in_turn, not_free}
use Rattle.vtoc_core.proofs.MarkLemmas.{length-marked, written}
use Rattle.vtoc_core.proofs.TableLemmas.{freed_are_free, table_kept}
use Rattle.vtoc_core.proofs.table.TrackTable.set_free.Goals as goal

pub free_all-requires : goal.free_all-requires
free_all-requires c =
    let ts = c.self.inside.tracks.items in
    let es = c.args.extents.now in
    let a : AreOf c.args.from ts es = subst (λ (us : List Track). AreOf c.args.from us es) (sym c.self.view_is) c.requires.kinds in
    subst (λ (bs : List Bool). TakenInTurn bs es) (sym c.self.invariant.2) (taken_in_turn c.args.from es ts a (not_free c.args.from c.requires.apart))

pub invariant_of-self : goal.invariant_of-self
invariant_of-self c =
    let ts = c.self.inside.tracks.items in
    let es = c.args.extents.now in
    let new : c.change-self-inside.new.tracks ≡ marked Free es ts = c.change-self-inside.ensures.tracks ∙ ap (λ us. marked Free es us) c.as_mut_slice.ensures.value in
    table_kept Free es ts _ c.change-self-inside.new.tracks c.change-self-inside.result c.free_all.new.free
    (written c.change-self-inside.new.tracks (marked Free es ts) ts c.self.inside.tracks.len new (omega (arith, length-marked Free es ts)))
    new c.self.invariant.1 c.change-self-inside.ensures.counted
    (freed_are_free es ts c.self.inside.free c.free_all.new.free c.self.invariant.2 c.free_all.ensures)

pub returns-clause-counts : goal.returns-clause-counts
returns-clause-counts c =
    let ts = c.self.inside.tracks.items in
    let es = c.args.extents.now in
    let from = c.args.from in
    let a : AreOf from ts es = subst (λ (us : List Track). AreOf from us es) (sym c.self.view_is) c.requires.kinds in
    let new : c.change-self-inside.new.tracks ≡ marked Free es ts = c.change-self-inside.ensures.tracks ∙ ap (λ us. marked Free es us) c.as_mut_slice.ensures.value in
    subst (λ (us : List Track). Moves from Free (tracks_in es) c.args.self.now us)
    (sym (written c.change-self-inside.new.tracks (marked Free es ts) ts c.self.inside.tracks.len new (omega (arith, length-marked Free es ts))))
    (subst (λ (us : List Track). Moves from Free (tracks_in es) us (marked Free es ts)) c.self.view_is (moves from Free es ts c.requires.apart a))
