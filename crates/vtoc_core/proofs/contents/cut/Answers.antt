use Rattle.std.proofs.Common.{◌≡◌, ◌<◌, ◌+◌, ◌++◌, ◌∷◌, [], ◌-◌, length, get_or, drop, ap, arith}
use Rattle.std.proofs.lemmas.List.{drop_more, length_push}
use Rattle.extent_core.specs.Extents.{extent}
use Rattle.extent_core.proofs.Marking.{is_in_within}
use Rattle.vtoc_core.proofs.CutLemmas.{keeps_none, passes_none, keeps_whole, passes_whole, keeps_part, passes_part, track_of_one}
use Rattle.vtoc_core.proofs.contents.cut.Goals as goal
use Rattle.vtoc_core.proofs.contents.cut.Goals.{then-left-eq0, else-left-eq0+then-size-left, else-left-eq0+else-size-left}

pub overflow_add-extent : goal.overflow_add-extent
overflow_add-extent c =
    let es = c.args.extents.now in
    let i = c.loop-extent.extent-index in
    let e = get_or es i (extent 0 0) in
    let k = e.start + c.loop-extent.left in
    let below : k < 65536 = c.requires.below k (track_of_one es i k (extent 0 0) c.loop-extent-test.true (is_in_within k e (omega arith) (omega arith))) in
    omega arith

pub loop-extent-preserved : goal.loop-extent-preserved
loop-extent-preserved c =
    let es = c.args.extents.now in
    let i = c.loop-extent.extent-index in
    let e = get_or es i (extent 0 0) in
    let l = c.loop-extent in
    let inv = c.loop-extent.invariant in
    let more = drop_more es i (extent 0 0) c.loop-extent-test.true in
    elim c.if-left-eq0.branch [
      | then-left-eq0 w ↦
          let kept : c.if-left-eq0.kept.items ≡ l.kept.items = cc in
          let past : c.if-left-eq0.past.items ≡ l.past.items ++ e ∷ [] = cc in
          record {
            kept_few = omega (arith, ap length kept);
            past_few = omega (arith, ap length past, length_push l.past.items e);
            keeps = rw (kept, w.left-is) (keeps_none _ _ (drop i es) _ _ w.if-left-eq0.true inv.keeps);
            passes = rw (past, w.left-is) (passes_none _ _ _ e _ w.if-left-eq0.true (rw more at inv.passes));
          }
      | else-left-eq0+then-size-left w ↦
          let kept : c.if-left-eq0.kept.items ≡ l.kept.items ++ e ∷ [] = cc in
          let past : c.if-left-eq0.past.items ≡ l.past.items = cc in
          let left : c.if-left-eq0.left ≡ l.left - e.tracks = omega arith in
          record {
            kept_few = omega (arith, ap length kept, length_push l.kept.items e);
            past_few = omega (arith, ap length past);
            keeps = rw (kept, left) (keeps_whole _ _ _ e _ w.if-left-eq0.false (omega arith) (rw more at inv.keeps));
            passes = rw (past, left) (passes_whole _ _ _ e _ w.if-left-eq0.false (omega arith) (rw more at inv.passes));
          }
      | else-left-eq0+else-size-left w ↦
          let kept : c.if-left-eq0.kept.items ≡ l.kept.items ++ extent e.start l.left ∷ [] = cc in
          let past : c.if-left-eq0.past.items ≡ l.past.items ++ extent (e.start + l.left) (e.tracks - l.left) ∷ [] = cc in
          record {
            kept_few = omega (arith, ap length kept, length_push l.kept.items (extent e.start l.left));
            past_few = omega (arith, ap length past, length_push l.past.items (extent (e.start + l.left) (e.tracks - l.left)));
            keeps = rw kept (keeps_part _ _ _ e _ _ w.if-left-eq0.false (omega arith) (omega arith) (rw more at inv.keeps));
            passes = rw past (passes_part _ _ _ e _ _ w.if-left-eq0.false (omega arith) (omega arith) (rw more at inv.passes));
          }
    ]
