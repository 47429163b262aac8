use Rattle.std.proofs.Common.{[], ◌+◌, drop, get_or, refl, sym, ap, ◌∙◌, arith}
use Rattle.std.proofs.lemmas.List.{at_drop_more, at_drop_all}
use Rattle.extent_core.specs.Extents.{extent}
use Rattle.vtoc_core.specs.Volumes.{marked}
use Rattle.vtoc_core.proofs.MarkLemmas.{marked-cons, marked_none}
use Rattle.vtoc_core.proofs.marks.mark.Goals as goal

pub loop-extent-preserved : goal.loop-extent-preserved
loop-extent-preserved c =
    let es = c.args.extents.now in
    let i = c.loop-extent.extent-index in
    let e = get_or es i (extent 0 0) in
    ap (λ ts. marked c.args.kind (drop (i + 1) es) ts) c.mark_one.ensures
    ∙ marked-cons c.args.kind e (drop (i + 1) es) c.loop-extent.tracks
    ∙ sym (at_drop_more (λ fs. marked c.args.kind fs c.loop-extent.tracks) es i (extent 0 0) (omega arith))
    ∙ c.loop-extent.invariant

pub returns : goal.returns
returns c =
    sym (at_drop_all (λ fs. marked c.args.kind fs c.loop-extent.tracks) c.args.extents.now c.loop-extent.extent-index (omega arith)
    ∙ marked_none c.args.kind [] c.loop-extent.tracks (λ k l. refl))
    ∙ c.loop-extent.invariant
