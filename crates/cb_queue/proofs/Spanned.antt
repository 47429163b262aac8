-- The records of a job are in its span.
use Rattle.std.proofs.Common.{◌≡◌, ◌≢◌, ◌∙◌, ℕ, ◌-◌, ◌<◌, ◌≤◌, arith, get_or, length, subst, sym}
use Rattle.cb_queue.specs.declared.list_store.ListStore.TheInside.{Inside}
use Rattle.record_spans.specs.declared.spans.Span.{Span}
use Rattle.record_spans.specs.Spans.{IsIn, MayOwn}
use Rattle.cb_queue.specs.RecordQueues.{HasNoneBetween, owner_at, record_at}
use Rattle.cb_queue.specs.Stored.{IsSpanned, seen}
use Rattle.cb_queue.proofs.Changing.{used_of}
use Rattle.cb_queue.proofs.Storing.{used_number}
use Rattle.cb_queue.proofs.Uses.{owner_read}

-- outside of its span an owner has none
module _ (a : Inside) (h : IsSpanned a) (owner : ℕ) (some : owner ≢ 0) (span : Span) (has : (k : ℕ) → k < a.layout.most_records → MayOwn a.spans owner k → IsIn span k) where
  is_in : (n : ℕ) → owner_at (seen a) n ≡ owner → (1 ≤ n) × IsIn span (n - 1)
  is_in n same =
      let there = used_number (seen a) n (used_of (record_at (seen a) n) (λ none. some (sym same ∙ none))) in
      let size = h.0.sound.size in
      let from : 1 ≤ n = there.0 in
      let here : n - 1 < a.layout.most_records = (let below = there.1 in omega (arith, below, size)) in
      let read : get_or a.owners.items (n - 1) 0 ≡ owner = owner_read a h.0 n from here ∙ same in
      (from, has (n - 1) here (subst (λ o. MayOwn a.spans o (n - 1)) read (h.1 (n - 1) (λ none. some (sym read ∙ none)))))

  pub none_before : HasNoneBetween (seen a) owner 0 span.low
  none_before n behind within same =
      let inside = is_in n same in
      let from = inside.1.from in
      absurd (omega (arith, from, within, behind))

  pub none_behind : HasNoneBetween (seen a) owner span.high (length (seen a).records)
  none_behind n behind within same =
      let inside = is_in n same in
      let to = inside.1.to in
      absurd (omega (arith, to, behind))
