use Rattle.std.proofs.Common.{sym, ap, ◌+◌, drop, ◌∙◌}
use Rattle.std.proofs.lemmas.List.{drop_more}
use Rattle.cb_meaning.specs.Fields.{field, is_zero_but}
use Rattle.cb_walk.proofs.Cleared.{all_zero, cleared}
use Rattle.cb_walk.proofs.fields.is_zero_but.Goals as goal

pub loop-f-preserved : goal.loop-f-preserved
loop-f-preserved c =
    let named = c.args.named.now in
    let i = c.loop-f.f-index in
    record {
      size = c.clear.ensures.size ∙ c.loop-f.invariant.size;
      left =
          cleared _ (drop (i + 1) named) c.loop-f.own c.clear.new.bytes c.clear.ensures.size c.clear.ensures.bytes
          ∙ ap (λ fs. is_zero_but fs c.loop-f.own) (sym (drop_more named i (field 0 0) c.loop-f-test.true)) ∙ c.loop-f.invariant.left;
    }

pub returns : goal.returns
returns c =
    c.are_zeros.ensures ∙ sym (all_zero c.args.named.now c.loop-f.f-index c.loop-f.own c.loop-f-test.false) ∙ c.loop-f.invariant.left
