use Rattle.std.proofs.Common.{◌≡◌, ◌+◌, ◌≤◌, length, ◌∙◌, arith}
use Rattle.cb_walk.specs.declared.marks.TheConstants.{PIECE}
use Rattle.cb_walk.proofs.Marking.{none_marked}
use Rattle.cb_walk.proofs.Unset.{more_size, more_unset}
use Rattle.cb_walk.proofs.marks.no_marks.Goals as goal

pub loop-piece-preserved : goal.loop-piece-preserved
loop-piece-preserved c =
    let marks = c.loop-piece.marks.items in
    let new = c.extend_from_slice.new.self.items in
    let some = c.min-some.result in
    let few : some ≤ PIECE = omega arith in
    let held : c.len-in-loop-piece.result ≡ length marks = c.len-in-loop-piece.ensures ∙ c.loop-piece.marks.ok.0 in
    let size : length new ≡ length marks + some =
    more_size marks new PIECE some c.loop-piece.invariant.unset few c.in_ok-extend_from_slice.ensures.items in
    record {
      unset = more_unset marks new PIECE some c.loop-piece.invariant.unset few c.in_ok-extend_from_slice.ensures.items;
      few = omega arith;
    }

pub returns-clause-none : goal.returns-clause-none
returns-clause-none c = none_marked c.loop-piece.marks.items (length c.loop-piece.marks.items) c.loop-piece.invariant.unset
