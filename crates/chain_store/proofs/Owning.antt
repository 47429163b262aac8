-- Records that are looked at together, none of which a job owns.
use Rattle.std.proofs.Common.{◌≡◌, ℕ, zero, suc, ◌+◌, ◌-◌, ◌<◌, ◌≤◌, ◌==◌, Bool, false, List, get_or, length, arith, ◌∙◌, ap, sym}
use Rattle.std.specs.List.{AllWithin, slice_range}
use Rattle.std.proofs.lemmas.Bool.{eq-eqb, true≢false}
use Rattle.std.proofs.lemmas.List.Edits.{get_or-between}
use Rattle.chain_store.specs.Spots.{OwnsNone}

pub owns_none_of : (owners block : List ℕ) (job low high : ℕ) → low ≤ high → high ≤ length owners → block ≡ slice_range owners low high → length block + low ≡ high →
    AllWithin (λ y. (y == job) ≡ false) block 0 (length block) → OwnsNone owners job low high
owns_none_of owners block job low high order there cut size apart zero after within same = omega (arith, after)
owns_none_of owners block job low high order there cut size apart (suc i) after within same =
    let k = i - low in
    let in_block : k < length block = omega (arith, size, after, within) in
    let place : low + k ≡ i = omega (arith, after) in
    let seen : get_or block k 0 ≡ get_or owners i 0 =
    ap (λ xs. get_or xs k 0) cut ∙ get_or-between owners low high k 0 (omega (arith, size, in_block)) ∙ ap (λ m. get_or owners m 0) place in
    true≢false (sym (eq-eqb (get_or block k 0) job (seen ∙ same)) ∙ apart k 0 (omega arith) in_block)
