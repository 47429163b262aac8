use Rattle.std.proofs.Common.{◌+◌, ◌++◌, codes, drop, sym, ap, subst, ◌∙◌, append_assoc}
use Rattle.svg_text.specs.Elements.{content_text, element_text}
use Rattle.svg_text.specs.Pictures.{group_element, groups_content}
use Rattle.svg_text.specs.Writing.{GivesFront}
use Rattle.svg_text.proofs.Given.{front_behind, front_of_more, put_twice}
use Rattle.svg_text.proofs.Joined.{of_any}
use Rattle.svg_text.proofs.Pieces.{groups_more}
use Rattle.svg_text.proofs.picture.put_groups.Goals as goal

pub loop-group-preserved : goal.loop-group-preserved
loop-group-preserved g c =
    let i = c.loop-group.group-index in
    let groups = c.args.groups.now in
    let m = c.group-item.result in
    let one = element_text (group_element m) ++ codes "\n" in
    let kept = c.loop-group.invariant in
    record {
      begun = c.in_ok-put_group.ensures.begun;
      text = kept.text ++ one;
      put = put_twice _ _ _ _ _ _ kept.text one kept.put c.in_ok-put_group.ensures.ok;
      whole = append_assoc kept.text one (content_text (groups_content (drop (i + 1) groups)))
          ∙ ap (λ xs. kept.text ++ xs) (sym (groups_more groups i m c.group-item.is c.loop-group-test.true)) ∙ kept.whole;
    }

pub returns-in_err-put_group-clause-err : goal.returns-in_err-put_group-clause-err
returns-in_err-put_group-clause-err g c =
    let i = c.loop-group.group-index in
    let groups = c.args.groups.now in
    let m = c.group-item.result in
    let one = element_text (group_element m) ++ codes "\n" in
    let rest = content_text (groups_content (drop (i + 1) groups)) in
    let kept = c.loop-group.invariant in
    let more = front_of_more _ _ _ one rest c.in_err-put_group.ensures.err in
    let whole = ap (λ xs. kept.text ++ xs) (sym (groups_more groups i m c.group-item.is c.loop-group-test.true)) ∙ kept.whole in
    of_any c.from_residual.result
    (subst (λ xs. GivesFront (g.W.Write.contents c.args.writer.now) (g.W.Write.contents c.put_group.new.writer) (c.args.out.now.kept ++ xs)) whole
    (front_behind _ _ _ _ _ kept.text (one ++ rest) kept.put more))
