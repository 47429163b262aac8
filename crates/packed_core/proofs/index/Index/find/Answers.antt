use Rattle.std.proofs.Common.{◌≡◌, ◌∙◌, ◌-◌, ◌%◌, ◌<◌, ◌≤◌, true, false, inl, inr, ℕ, List, [], Some, ap, arith, get_or, length, sym}
use Rattle.std.proofs.lemmas.Bool.{cases_lt}
use Rattle.std.proofs.lemmas.List.{get_or_default}
use Rattle.packed_core.specs.Indexed.{hash_at, hash_from, place_in}
use Rattle.packed_core.specs.Rows.{row_at}
use Rattle.packed_core.specs.Words.{joined_words}
use Rattle.packed_core.proofs.Indexing.{hash_there}
use Rattle.packed_core.proofs.Joining.{none_there, words_alike}
use Rattle.packed_core.proofs.Places.{got_at}
use Rattle.packed_core.proofs.Standing.{words_same}
use Rattle.packed_core.proofs.index.Index.find.Goals as goal

pub returns-then-is_at : goal.returns-then-is_at
returns-then-is_at c =
    let all : List ℕ = joined_words c.args.row.now c.args.mask.now in
    let rows : List (List ℕ) = c.args.rows.now in
    let n : ℕ = c.loop-left.left - 1 in
    let below : n < length rows = omega (arith, c.loop-left-test.true, c.loop-left.invariant.within) in
    got_at rows n [] below ∙ ap Some (sym (words_same all (row_at rows n) (sym c.is_at.ensures ∙ c.if-is_at.true)))

pub loop-left-preserved : goal.loop-left-preserved
loop-left-preserved c =
    let rows : List (List ℕ) = c.args.rows.now in
    let all : List ℕ = joined_words c.args.row.now c.args.mask.now in
    let hashes : List ℕ = c.args.self.now.hashes.items in
    let heads : List ℕ = c.args.self.now.heads.items in
    let next : List ℕ = c.args.self.now.next.items in
    let is = c.requires.indexed.places in
    let n : ℕ = c.loop-left.left - 1 in
    let below : n < length rows = omega (arith, c.loop-left-test.true, c.loop-left.invariant.within) in
    let behind : ℕ = c.index-left-in-loop-left.result.now in
    let next_is : behind ≡ get_or next n 0 = c.index-left-in-loop-left.ensures ∙ get_or_default next n behind 0 (omega (arith, is.size, below)) in
    let its_place : place_in (length heads) (hash_at hashes n) ≡ place_in (length heads) c.args.hash =
    c.loop-left.invariant.here n (omega (arith, c.loop-left-test.true)) in
    let back : (get_or next n 0) ≤ n = is.back n below in
    record {
      within = omega (arith, back, next_is, below);
      sought = λ i h e.
          let left : i < c.loop-left.left = c.loop-left.invariant.sought i h e in
          let its : hash_at hashes i ≡ c.args.hash = hash_there rows c.args.self.now c.requires.indexed i h ∙ ap (hash_from 0) e ∙ sym c.requires.hash in
          elim (cases_lt i n) [
            | inl l ↦ let later : i < get_or next n 0 = is.later i n l below (ap (place_in (length heads)) its ∙ sym its_place) in omega (arith, later, next_is)
            | inr l ↦
                let same : i ≡ n = omega (arith, left, l) in
                let no : true ≡ false = sym (words_alike all (row_at rows n) (sym e ∙ ap (row_at rows) same)) ∙ sym c.is_at.ensures ∙ c.if-is_at.false in
                absurd cc
          ];
      here = λ i e. is.at_next i n below (sym next_is ∙ e) ∙ its_place;
    }

pub returns : goal.returns
returns c =
    none_there (joined_words c.args.row.now c.args.mask.now) c.args.rows.now
    (λ i h e. omega (arith, c.loop-left-test.false, c.loop-left.invariant.sought i h e))

pub loop-left-init : goal.loop-left-init
loop-left-init c =
    let rows : List (List ℕ) = c.args.rows.now in
    let hash : ℕ = c.args.hash in
    let heads : List ℕ = c.args.self.now.heads.items in
    let hashes : List ℕ = c.args.self.now.hashes.items in
    let is = c.requires.indexed.places in
    let many : c.len.result ≡ length heads = omega (arith, c.len.ensures) in
    let within : hash % c.len.result < length heads = omega (arith, many, is.some) in
    let place : hash % c.len.result ≡ place_in (length heads) hash = ap (λ (n : ℕ). hash % n) many in
    let left_is : c.index-left.result.now ≡ get_or heads (place_in (length heads) hash) 0 =
    c.index-left.ensures ∙ get_or_default heads (hash % c.len.result) c.index-left.result.now 0 within ∙ ap (λ (k : ℕ). get_or heads k 0) place in
    record {
      within = omega (arith, left_is, is.within (place_in (length heads) hash));
      sought = λ i h e.
          let its : hash_at hashes i ≡ hash = hash_there rows c.args.self.now c.requires.indexed i h ∙ ap (hash_from 0) e ∙ sym c.requires.hash in
          let at : get_or heads (place_in (length heads) (hash_at hashes i)) 0 ≡ c.index-left.result.now =
          ap (λ (k : ℕ). get_or heads (place_in (length heads) k) 0) its ∙ sym left_is in
          let first : i < get_or heads (place_in (length heads) (hash_at hashes i)) 0 = is.first i h in
          omega (arith, first, at);
      here = λ i e. is.at_head i (place_in (length heads) hash) (sym left_is ∙ e);
    }

pub loop-left-smaller : goal.loop-left-smaller
loop-left-smaller c =
    let n : ℕ = c.loop-left.left - 1 in
    let below : n < length c.args.rows.now = omega (arith, c.loop-left-test.true, c.loop-left.invariant.within) in
    let next : List ℕ = c.args.self.now.next.items in
    let is = c.requires.indexed.places in
    let behind : ℕ = c.index-left-in-loop-left.result.now in
    let next_is : behind ≡ get_or next n 0 = c.index-left-in-loop-left.ensures ∙ get_or_default next n behind 0 (omega (arith, is.size, below)) in
    omega (arith, next_is, is.back n below, c.loop-left-test.true)
