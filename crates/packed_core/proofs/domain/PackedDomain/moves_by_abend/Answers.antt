use Rattle.std.proofs.Common.{◌≡◌, ◌∙◌, ℕ, List, ap, arith, drop, get_or, length}
use Rattle.packed_core.specs.Words.{bit}
use Rattle.packed_core.proofs.Bits.{written}
use Rattle.packed_core.proofs.Moves.{abend_moves}
use Rattle.packed_core.proofs.domain.PackedDomain.moves_by_abend.Goals as goal

pub returns : goal.returns
returns g c =
    let base : List ℕ = c.args.base.items in
    let row : List ℕ = c.mark.new.row in
    let same : c.as_mut_slice.result.now ≡ base = c.as_mut_slice.ensures.value in
    let many : length row ≡ c.args.base.len = omega (arith, c.mark.auto.row, c.as_mut_slice.ensures.len) in
    abend_moves _ g.J.Job.plan g.J.Job.fixed.date c.args.behind.now base row _ c.zero.result c.push_told.new.moves.items c.new-moves.result.items
    c.move_to-told.result (written row (drop (length row) base) c.args.base.len many) c.zero.ensures c.new-moves.ensures.items c.in_ok-push_told.ensures.pushed
    c.move_to-told.ensures.leads c.mark.ensures.here (λ i above. c.mark.ensures.elsewhere i (λ e. omega (arith, e, above)) ∙ ap (λ (l : List ℕ). bit l i) same)
    (c.mark.ensures.first ∙ ap (λ (l : List ℕ). get_or l 0 0) same)
