use Rattle.std.proofs.Common.{◌+◌, ◌++◌, codes, drop, sym, ap, subst, ◌∙◌, append_assoc}
use Rattle.svg_text.specs.Elements.{content_text, element_text}
use Rattle.svg_text.specs.Pictures.{mark_element, marks_content}
use Rattle.svg_text.specs.Writing.{GivesFront}
use Rattle.svg_text.proofs.Given.{front_behind, front_of_more, put_twice}
use Rattle.svg_text.proofs.Joined.{of_any}
use Rattle.svg_text.proofs.Pieces.{marks_more}
use Rattle.svg_text.proofs.pen.put_marks.Goals as goal

pub loop-mark-preserved : goal.loop-mark-preserved
loop-mark-preserved g c =
    let i = c.loop-mark.mark-index in
    let marks = c.args.marks.now in
    let m = c.mark-item.result in
    let one = element_text (mark_element m) ++ codes "\n" in
    let kept = c.loop-mark.invariant in
    record {
      begun = c.in_ok-put_mark.ensures.begun;
      text = kept.text ++ one;
      put = put_twice _ _ _ _ _ _ kept.text one kept.put c.in_ok-put_mark.ensures.ok;
      whole = append_assoc kept.text one (content_text (marks_content (drop (i + 1) marks)))
          ∙ ap (λ xs. kept.text ++ xs) (sym (marks_more marks i m c.mark-item.is c.loop-mark-test.true)) ∙ kept.whole;
    }

pub returns-in_err-put_mark-clause-err : goal.returns-in_err-put_mark-clause-err
returns-in_err-put_mark-clause-err g c =
    let i = c.loop-mark.mark-index in
    let marks = c.args.marks.now in
    let m = c.mark-item.result in
    let one = element_text (mark_element m) ++ codes "\n" in
    let rest = content_text (marks_content (drop (i + 1) marks)) in
    let kept = c.loop-mark.invariant in
    let more = front_of_more _ _ _ one rest c.in_err-put_mark.ensures.err in
    let whole = ap (λ xs. kept.text ++ xs) (sym (marks_more marks i m c.mark-item.is c.loop-mark-test.true)) ∙ kept.whole in
    of_any c.from_residual.result
    (subst (λ xs. GivesFront (g.W.Write.contents c.args.writer.now) (g.W.Write.contents c.put_mark.new.writer) (c.args.out.now.kept ++ xs)) whole
    (front_behind _ _ _ _ _ kept.text (one ++ rest) kept.put more))
