use Rattle.std.proofs.Common.{◌≡◌, ◌+◌, ◌≤◌, replicate, length, ◌∙◌, arith}
use Rattle.cb_queue.proofs.Zeros.{more_size, more_zeros}
use Rattle.cb_queue.proofs.list_store.blank_records.Goals as goal

pub loop-piece-preserved : goal.loop-piece-preserved
loop-piece-preserved c =
    let records = c.loop-piece.records.items in
    let new = c.extend_from_slice.new.self.items in
    let some = c.min-some.result in
    let few : some ≤ 16 = omega arith in
    let held : c.len-in-loop-piece.result ≡ length records = c.len-in-loop-piece.ensures ∙ c.loop-piece.records.ok.0 in
    let size : length new ≡ length records + some =
    more_size (replicate 176 0) c.zeroed-piece.result records new some c.loop-piece.invariant.zeros few c.zeroed-piece.ensures
    c.in_ok-extend_from_slice.ensures.items in
    record {
      zeros = more_zeros (replicate 176 0) c.zeroed-piece.result records new some c.loop-piece.invariant.zeros few c.zeroed-piece.ensures
          c.in_ok-extend_from_slice.ensures.items;
      few = omega arith;
    }
