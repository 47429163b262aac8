use Rattle.std.proofs.Common.{◌≡◌, ◌+◌, ◌∷◌, length, take, sym, ap, ◌∙◌, arith}
use Rattle.std.specs.List.{position_or_len}
use Rattle.std.proofs.lemmas.List.{take_all}
use Rattle.std.proofs.lemmas.List.Sums.{fold_push}
use Rattle.session_text.specs.Begun.{begun_of, taken, told_at_end, told_cut, with_line}
use Rattle.session_text.specs.Lines.{lines_of}
use Rattle.session_text.specs.Statements.{is_end}
use Rattle.session_text.proofs.Places.{next_left, position_or_len-next}
use Rattle.session_text.proofs.Taking.{taken_cut, taken_says}
use Rattle.session_text.proofs.parse.block_in.Goals as goal

pub returns-then-is_end-clause-says : goal.returns-then-is_end-clause-says
returns-then-is_end-clause-says c =
    c.in_ok-says.ensures ∙ ap told_at_end c.loop-row.invariant.front
    ∙ taken_says c.args.block.now (take c.loop-row.count (lines_of c.args.ending c.args.text.now))

pub returns-clause-left : goal.returns-clause-left
returns-clause-left c =
    let rows = lines_of c.args.ending c.args.text.now in
    let none = ap length c.in_default.ensures.none in
    let all : take c.loop-row.count rows ≡ rows = take_all c.loop-row.count rows (omega (arith, c.loop-row.invariant.all, none)) in
    c.in_ok-says-2.ensures ∙ ap (told_cut c.args.ending) (c.loop-row.invariant.front ∙ ap (taken c.args.block.now) all) ∙ taken_cut c.args.ending c.args.block.now rows

pub returns-then-is_end-clause-behind : goal.returns-then-is_end-clause-behind
returns-then-is_end-clause-behind c =
    sym (next_left c.loop-row.count (lines_of c.args.ending c.args.text.now) _ _ (c.loop-row.invariant.left ∙ c.in-Some.ensures.some)).1

pub loop-row-preserved : goal.loop-row-preserved
loop-row-preserved c =
    let rows = lines_of c.args.ending c.args.text.now in
    let behind = lines_of c.args.ending c.in-Some.behind.now in
    let first = c.in-Some.ensures.some in
    let next = next_left c.loop-row.count rows _ _ (c.loop-row.invariant.left ∙ first) in
    let passed : position_or_len is_end (c.in-Some.row ∷ behind) ≡ 1 + position_or_len is_end behind
    = position_or_len-next is_end c.in-Some.row behind (sym c.is_end.ensures ∙ c.if-is_end.false) in
    let place = ap (position_or_len is_end) first ∙ passed in
    let all = ap length first in
    let one_more : taken c.args.block.now (take (c.loop-row.count + 1) rows) ≡ with_line (taken c.args.block.now (take c.loop-row.count rows)) c.in-Some.row
    = ap (taken c.args.block.now) next.0 ∙ fold_push with_line (begun_of c.args.block.now) (take c.loop-row.count rows) c.in-Some.row in
    record {
      left = next.1;
      front = c.in_ok-take_line.ensures ∙ (λ i. with_line (c.loop-row.invariant.front i) (c.row.view_is i)) ∙ sym one_more;
      place = omega (arith, c.loop-row.invariant.place, place);
      all = omega (arith, c.loop-row.invariant.all, all);
      within = omega (arith, c.in-Some.ensures.shorter, c.loop-row.invariant.within);
    }
