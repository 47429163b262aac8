use Rattle.std.proofs.Common.{◌∙◌, ap, arith, false, length, replicate, subst, sym}
use Rattle.chain_store.specs.declared.chains.Chain.{Chain}
use Rattle.record_spans.specs.Spans.{AreSpanned}
use Rattle.chain_store.specs.Chains.{chain, chain_of}
use Rattle.chain_store.specs.Links.{link_at}
use Rattle.chain_store.proofs.Marked.{marked_first}
use Rattle.chain_store.proofs.Noted.{noted_first}
use Rattle.record_spans.proofs.Spanned.{spanned_first}
use Rattle.chain_store.proofs.Starting.{chained_new, linked_new, no_chain_at}
use Rattle.chain_store.proofs.store.ChainStore.new.Goals as goal

pub invariant_of-result : goal.invariant_of-result
invariant_of-result c = record {
  tables = chained_new c.args.layout c.requires.own_link c.requires.links c.new.result.items c.new-2.result.items c.in_ok-vec.field-0.items c.new.ensures.items c.new-2.ensures.items
      (c.in_ok-vec.ensures.items_if_clones_equal (λ _ e. e));
  noted = noted_first c.new-4.result.items _ c.new-4.ensures.items (λ place. ap (λ (ch : Chain). chain (link_at c.args.layout c.new.result.items) ch.first ch.count)
      (ap (λ cs. chain_of cs place) (c.in_ok-vec.ensures.items_if_clones_equal (λ _ e. e)) ∙ no_chain_at 210 place));
  spots = (let none = ap length c.new-2.ensures.items in omega (arith, none));
  marked = marked_first (replicate 15 false) c.in_ok-vec.field-0.items 210 (c.in_ok-vec.ensures.items_if_clones_equal (λ _ e. e));
  spanned = subst (AreSpanned c.in_ok-new.field-0) (sym c.new-2.ensures.items) (spanned_first c.in_ok-new.field-0);
}

pub returns : goal.returns
returns c =
    linked_new c.args.layout c.requires.own_link c.requires.links c.new.result.items c.new-2.result.items c.in_ok-vec.field-0.items c.new.ensures.items c.new-2.ensures.items
    (c.in_ok-vec.ensures.items_if_clones_equal (λ _ e. e))
