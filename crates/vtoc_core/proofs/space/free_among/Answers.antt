use Rattle.std.proofs.Common.{sym, ◌∙◌, arith}
use Rattle.vtoc_core.specs.declared.volume.Track.TheVariants.{Free}
use Rattle.vtoc_core.proofs.FreeTracks.{found_all, found_free, found_none, found_taken}
use Rattle.vtoc_core.proofs.space.free_among.Goals as goal
use Rattle.vtoc_core.proofs.space.free_among.Goals.{then-is_free, else-is_free}

pub loop-at-init : goal.loop-at-init
loop-at-init c = found_none _ c.args.tracks.now c.in_ok-free.free (omega arith) c.in_ok-free.ensures

pub loop-at-preserved : goal.loop-at-preserved
loop-at-preserved c =
    let ts = c.args.tracks.now in
    let at = c.loop-at.at in
    let inv = c.loop-at.invariant in
    elim c.if-is_free.branch [
      | then-is_free w ↦
          rw w.free-is (found_free at ts Free c.loop-at.free w.free.new.self inv c.loop-at-test.true (sym c.is_free.ensures ∙ w.if-is_free.true) w.free.ensures)
      | else-is_free w ↦ rw w.free-is (found_taken at ts Free c.loop-at.free inv c.loop-at-test.true (sym c.is_free.ensures ∙ w.if-is_free.false))
    ]

pub returns : goal.returns
returns c = found_all c.loop-at.at c.args.tracks.now c.loop-at.free c.loop-at.invariant (omega arith)
