use Rattle.std.proofs.Common.{replicate}
use Rattle.record_spans.proofs.Spanned.{spanned_free}
use Rattle.cb_queue.proofs.Storing.{seen_new, stored_new}
use Rattle.cb_queue.proofs.list_store.ListStore.new.Goals as goal

pub invariant_of-result : goal.invariant_of-result
invariant_of-result c = (
  stored_new c.args.layout (replicate 176 0) c.in_ok-vec.field-0.items c.in_ok-blank_records.field-0.items c.in_ok-all_numbers.field-0.items c.new-2.result
      (c.in_ok-vec.ensures.items_if_clones_equal (λ _ e. e)) c.in_ok-blank_records.ensures c.in_ok-all_numbers.ensures.numbers c.new-2.ensures
      c.requires c.in_ok-all_numbers.ensures.few,
  spanned_free c.in_ok-new.field-0 c.in_ok-vec.field-0.items c.args.layout.most_records (c.in_ok-vec.ensures.items_if_clones_equal (λ _ e. e)),
)

pub returns : goal.returns
returns c =
    seen_new c.args.layout (replicate 176 0) c.in_ok-vec.field-0.items c.in_ok-blank_records.field-0.items c.in_ok-all_numbers.field-0.items c.new-2.result
    (c.in_ok-vec.ensures.items_if_clones_equal (λ _ e. e)) c.in_ok-blank_records.ensures c.in_ok-all_numbers.ensures.numbers c.new-2.ensures
