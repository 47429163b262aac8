use Rattle.std.proofs.Common.{ap, ◌∙◌, sym, arith}
use Rattle.prog_core.specs.Moves.{is_move}
use Rattle.prog_core.proofs.MoveLemmas.{few_moves, moves_counted, one_more_move}
use Rattle.prog_core.proofs.counted.count_moves.Goals as goal

pub returns-then-not-is_move : goal.returns-then-not-is_move
returns-then-not-is_move c =
    moves_counted c.args.requests.now c.loop-at.at c.loop-at.invariant (ap is_move (sym c.at.ensures) ∙ sym c.is_move.ensures ∙ c.if-not-is_move.true)

pub loop-at-preserved : goal.loop-at-preserved
loop-at-preserved c =
    one_more_move c.args.requests.now c.loop-at.at c.loop-at.invariant (ap is_move (sym c.at.ensures) ∙ sym c.is_move.ensures ∙ c.if-not-is_move.false)

pub returns : goal.returns
returns c = omega (arith, c.loop-at.invariant, few_moves c.args.requests.now, c.loop-at-test.false, c.len.ensures, c.len-at-end.ensures)
