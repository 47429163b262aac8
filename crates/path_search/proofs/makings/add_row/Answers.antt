use Rattle.std.proofs.Common.{◌+◌, ◌∙◌, List, Vec, Global, subst, sym, ap, arith}
use Rattle.jcl_meaning.specs.declared.state.Place.{Place}
use Rattle.path_search.proofs.Rising.{IsRowUpTo, row_same, row_more, row_end}
use Rattle.path_search.proofs.makings.add_row.Goals.{then-is_first_in+in_ok-push, else-is_first_in}
use Rattle.path_search.proofs.makings.add_row.Goals as goal

pub loop-at-preserved : goal.loop-at-preserved
loop-at-preserved c =
    elim c.if-is_first_in.branch [
      | then-is_first_in+in_ok-push w ↦
          subst (λ (new : List Place). IsRowUpTo c.args.volumes.now c.args.step c.args.dd c.args.row.now (c.loop-at.at + 1) c.args.places.now.items new)
          (sym (ap (λ (v : Vec Place Global). v.items) w.places-is ∙ w.in_ok-push.ensures.items))
          (row_more c.args.volumes.now c.args.step c.args.dd c.args.row.now c.args.places.now.items c.loop-at.at c.loop-at.places.items
          c.index-volumes-at.result
          c.loop-at-test.true c.index-volumes-at.is c.loop-at.invariant (sym c.is_first_in.ensures ∙ w.if-is_first_in.true))
      | else-is_first_in w ↦
          subst (λ (v : Vec Place Global). IsRowUpTo c.args.volumes.now c.args.step c.args.dd c.args.row.now (c.loop-at.at + 1) c.args.places.now.items v.items)
          (sym w.places-is)
          (row_same c.args.volumes.now c.args.step c.args.dd c.args.row.now c.args.places.now.items c.loop-at.at c.loop-at.places.items
          c.index-volumes-at.result
          c.loop-at-test.true c.index-volumes-at.is c.loop-at.invariant (sym c.is_first_in.ensures ∙ w.if-is_first_in.false))
    ]

pub returns : goal.returns
returns c = record {
  added = row_end c.args.volumes.now c.args.step c.args.dd c.args.row.now c.args.places.now.items c.loop-at.at
      c.loop-at.places.items (omega arith) c.loop-at.invariant;
}
