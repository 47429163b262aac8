use Rattle.std.proofs.Common.{◌≡◌, List, Some, ap, refl, sym, subst, ◌∙◌, arith}
use Rattle.extent_core.specs.Extents as extents
use Rattle.extent_core.specs.declared.extent.Extent.{Extent}
use Rattle.vtoc_core.specs.declared.volume.Track.{Track}
use Rattle.vtoc_core.specs.declared.volume.Track.TheVariants.{Free}
use Rattle.vtoc_core.specs.Extents.{free_extents, planned}
use Rattle.vtoc_core.specs.Volumes.{AreOf, LacksSpace, marked}
use Rattle.vtoc_core.proofs.MarkLemmas.{length-marked, written}
use Rattle.vtoc_core.proofs.PlanLemmas.{IsPlan, planned_is}
use Rattle.vtoc_core.proofs.TableLemmas.{space_lacking, space_taken, table_kept, taken_are_not}
use Rattle.vtoc_core.proofs.table.TrackTable.take.Goals as goal

pub invariant_of-self : goal.invariant_of-self
invariant_of-self c = (c.self.invariant.0, c.self.invariant.1, c.in_default.ensures.1 ∙ c.self.invariant.2)

pub returns-in_default : goal.returns-in_default
returns-in_default c =
    let ts = c.self.inside.tracks.items in
    let n = c.args.wanted in
    subst (λ (us : List Track). LacksSpace n us ts) c.self.view_is
    (space_lacking n ts ts (ap (λ bs. planned (extents.free_extents bs) n) (sym c.self.invariant.2) ∙ c.in_default.ensures.0) refl)

pub change-self-inside-requires-clause-kinds : goal.change-self-inside-requires-clause-kinds
change-self-inside-requires-clause-kinds c =
    let ts = c.self.inside.tracks.items in
    let n = c.args.wanted in
    let es = c.in-Some.taken.items in
    let h : planned (free_extents ts) n ≡ Some es = ap (λ bs. planned (extents.free_extents bs) n) (sym c.self.invariant.2) ∙ c.in-Some.ensures.0 in
    let p : IsPlan ts n es = planned_is ts n es h in
    subst (λ (us : List Track). AreOf Free us c.as_slice.result.now) (sym c.as_mut_slice.ensures.value)
    (subst (λ (fs : List Extent). AreOf Free ts fs) (sym c.as_slice.ensures.value) p.free)

pub invariant_of-self-2 : goal.invariant_of-self-2
invariant_of-self-2 c =
    let ts = c.self.inside.tracks.items in
    let es = c.in-Some.taken.items in
    let to = c.args.to in
    let new : c.change-self-inside.new.tracks ≡ marked to es ts =
    c.change-self-inside.ensures.tracks ∙ ap (λ us. marked to c.as_slice.result.now us) c.as_mut_slice.ensures.value ∙ ap (λ fs. marked to fs ts) c.as_slice.ensures.value in
    table_kept to es ts _ c.change-self-inside.new.tracks c.change-self-inside.result c.take.new.free
    (written c.change-self-inside.new.tracks (marked to es ts) ts c.self.inside.tracks.len new (omega (arith, length-marked to es ts)))
    new c.self.invariant.1 c.change-self-inside.ensures.counted
    (taken_are_not to es ts c.self.inside.free c.take.new.free c.requires c.self.invariant.2 c.in-Some.ensures.1)

pub returns : goal.returns
returns c =
    let ts = c.self.inside.tracks.items in
    let es = c.in-Some.taken.items in
    let to = c.args.to in
    let n = c.args.wanted in
    let h : planned (free_extents ts) n ≡ Some es = ap (λ bs. planned (extents.free_extents bs) n) (sym c.self.invariant.2) ∙ c.in-Some.ensures.0 in
    let new : c.change-self-inside.new.tracks ≡ marked to es ts =
    c.change-self-inside.ensures.tracks ∙ ap (λ us. marked to c.as_slice.result.now us) c.as_mut_slice.ensures.value ∙ ap (λ fs. marked to fs ts) c.as_slice.ensures.value in
    space_taken to n c.args.self.now ts _ es c.requires c.self.view_is h
    (written c.change-self-inside.new.tracks (marked to es ts) ts c.self.inside.tracks.len new (omega (arith, length-marked to es ts)))
