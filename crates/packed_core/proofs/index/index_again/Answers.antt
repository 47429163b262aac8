use Rattle.std.proofs.Common.{◌≡◌, ◌∙◌, ◌<◌, ℕ, List, [], ap, arith, get_or, length, subst, sym, take}
use Rattle.std.proofs.lemmas.List.{length-map, take_all, take_more}
use Rattle.packed_core.specs.Indexed.{IsIndexOf, hash_at, hash_from}
use Rattle.packed_core.specs.Rows.{row_at}
use Rattle.packed_core.proofs.Indexing.{hash_there}
use Rattle.packed_core.proofs.index.index_again.Goals as goal

pub loop-hash-preserved : goal.loop-hash-preserved
loop-hash-preserved c = record {
  linked = λ rows is.
      let j : ℕ = c.loop-hash.hash-index in
      let items : List ℕ = c.as_slice-hash-items.result.now in
      let same : items ≡ c.args.index.now.hashes.items = c.as_slice-hash-items.ensures.value in
      let many : length items ≡ length rows = ap (λ (l : List ℕ). length l) (same ∙ is.hashes) ∙ length-map rows (hash_from 0) in
      let below : j < length rows = omega (arith, many, c.loop-hash-test.true) in
      let its : get_or items j 0 ≡ hash_from 0 (row_at rows j) = ap (λ (l : List ℕ). hash_at l j) same ∙ hash_there rows c.args.index.now is j below in
      subst (λ (l : List (List ℕ)). IsIndexOf l c.link.new.self) (sym (take_more rows j [] below))
      (c.in_ok-link.ensures.linked (take j rows) (row_at rows j)
      (subst (IsIndexOf (take j rows)) (sym c.deref_mut.ensures.value) (c.loop-hash.invariant.linked rows is)) its);
  some = c.link.ensures.some;
}

pub returns : goal.returns
returns c rows is =
    let items : List ℕ = c.as_slice-hash-items.result.now in
    let many : length items ≡ length rows =
    ap (λ (l : List ℕ). length l) (c.as_slice-hash-items.ensures.value ∙ is.hashes) ∙ length-map rows (hash_from 0) in
    subst (λ (l : List (List ℕ)). IsIndexOf l c.loop-hash.more.value)
    (take_all c.loop-hash.hash-index rows (omega (arith, many, c.loop-hash-test.false))) (c.loop-hash.invariant.linked rows is)
