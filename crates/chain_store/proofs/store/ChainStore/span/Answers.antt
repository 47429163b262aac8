use Rattle.std.proofs.Common.{◌≡◌, ◌≢◌, ℕ, List, ◌+◌, ◌-◌, ◌≤◌, ◌∙◌, ap, arith, get_or, length, subst, suc, sym}
use Rattle.cb_queue.specs.RecordQueues.{owner_at}
use Rattle.record_spans.specs.Spans.{AreSpanned, MayOwn}
use Rattle.chain_store.specs.Chained.{AreChained, Tables, queue_in, tables_of}
use Rattle.chain_store.specs.Values.{Linked}
use Rattle.record_spans.specs.declared.spans.Span.{Span}
use Rattle.chain_store.proofs.Ops.{few_records, owned_place, owner_there}
use Rattle.chain_store.proofs.store.ChainStore.span.Goals as goal

-- a record of the owner is in its span
its_span : (t : Tables) (h : AreChained t) (spans : List Span) (spanned : AreSpanned spans t.owners) (owner : ℕ) → owner ≢ 0 → (n : ℕ) → owner_at (queue_in t) n ≡ owner →
    (1 ≤ n) × (n ≤ length t.owners) × MayOwn spans owner (n - 1)
its_span t h spans spanned owner some n is =
    let at = owned_place t h n (λ none. some (sym is ∙ none)) in
    let number : suc (n - 1) ≡ n = omega (arith, at.0) in
    let read : get_or t.owners (n - 1) 0 ≡ owner = owner_there t h (suc (n - 1)) ∙ ap (owner_at (queue_in t)) number ∙ is in
    (at.0, at.1, subst (λ o. MayOwn spans o (n - 1)) read (spanned (n - 1) (λ none. some (sym read ∙ none))))

pub returns-clause-none_before : goal.returns-clause-none_before
returns-clause-none_before c = λ n from within same.
    let t = tables_of c.self.inside in
    let is : owner_at (queue_in t) n ≡ c.args.owner = ap (λ (v : Linked). owner_at v.queue n) c.self.view_is ∙ same in
    let at = its_span t c.self.invariant.tables c.self.inside.spans c.self.invariant.spanned c.args.owner c.requires n is in
    let whole = c.self.inside.owners.ok.0 in
    let size = c.len.ensures in
    let inside = c.span.ensures.has (n - 1) (omega (arith, at.0, at.1, whole, size)) at.2 in
    let low = inside.from in
    absurd (omega (arith, low, within, at.0))

pub returns-clause-none_behind : goal.returns-clause-none_behind
returns-clause-none_behind c = λ n from within same.
    let t = tables_of c.self.inside in
    let is : owner_at (queue_in t) n ≡ c.args.owner = ap (λ (v : Linked). owner_at v.queue n) c.self.view_is ∙ same in
    let at = its_span t c.self.invariant.tables c.self.inside.spans c.self.invariant.spanned c.args.owner c.requires n is in
    let whole = c.self.inside.owners.ok.0 in
    let size = c.len.ensures in
    let inside = c.span.ensures.has (n - 1) (omega (arith, at.0, at.1, whole, size)) at.2 in
    let high = inside.to in
    absurd (omega (arith, high, from, at.0))

pub returns-clause-known : goal.returns-clause-known
returns-clause-known c =
    let h = c.self.invariant.tables in
    let records = h.sound.size in
    let most = h.most in
    let whole = c.self.inside.owners.ok.0 in
    let size = c.len.ensures in
    let within = c.span.ensures.within in
    subst (λ (v : Linked). c.span.result.high + v.lacking ≤ length v.queue.records) c.self.view_is (omega (arith, records, most, whole, size, within))

pub overflow_cast-len : goal.overflow_cast-len
overflow_cast-len c =
    let h = c.self.invariant.tables in
    let few = few_records (tables_of c.self.inside) h in
    let most = h.most in
    let whole = c.self.inside.owners.ok.0 in
    let size = c.len.ensures in
    omega (arith, few, most, whole, size)
