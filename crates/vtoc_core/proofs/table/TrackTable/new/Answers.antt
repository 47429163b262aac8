use Rattle.std.proofs.Common.{◌≡◌, length, replicate, ap, subst, ◌∙◌, arith, rules}
use Rattle.std.proofs.lemmas.List.{length-replicate}
use Rattle.vtoc_core.specs.declared.volume.Track.TheVariants.{Free, Unusable}
use Rattle.vtoc_core.specs.Extents.{are_free}
use Rattle.vtoc_core.specs.Volumes.{Counted, first_tracks}
use Rattle.vtoc_core.proofs.MarkLemmas.{length-marked, written}
use Rattle.vtoc_core.proofs.table.TrackTable.new.Goals as goal

pub invariant_of-result : goal.invariant_of-result
invariant_of-result c =
    let n = c.args.tracks in
    let es = c.args.unusable.now in
    let all : c.in_ok-all.all.items ≡ replicate n Free = search rules in
    let new : c.mark.new.tracks ≡ first_tracks n es = cc in
    let size : length (first_tracks n es) ≡ n = length-marked Unusable es (replicate n Free) ∙ length-replicate n Free in
    let w = written c.mark.new.tracks (first_tracks n es) c.in_ok-all.all.items c.in_ok-all.all.len new
    (omega (arith, ap length all, length-replicate n Free)) in (
      subst (Counted c.count_all-counts.result) c.as_slice-2.ensures.value c.count_all-counts.ensures,
      omega (arith, ap length w, c.requires),
      c.in_ok-free.ensures ∙ ap are_free c.as_slice.ensures.value,
    )
