use Rattle.std.proofs.Common.{◌≡◌, ◌+◌, ◌*◌, ◌++◌, ◌∷◌, ◌∙◌, ℕ, suc, List, [], add-one, ap, arith, length, length-append, refl, subst, sym}
use Rattle.std.specs.Simd.{first_chunks}
use Rattle.packed_core.specs.Rows.{AreAsLong}
use Rattle.packed_core.proofs.Sheets.{chunk_more, same_chunks}
use Rattle.packed_core.proofs.sheet.Sheet.push.Goals as goal

pub invariant_of-self-2 : goal.invariant_of-self-2
invariant_of-self-2 c =
    let words : List ℕ = c.self.inside.words.items in
    let row : List ℕ = c.args.row.now in
    let same = same_chunks c.self.inside.width c.self.inside.count words (length row) c.self.invariant.0
    (subst (λ (l : List (List ℕ)). AreAsLong l (length row)) (sym (c.self.view_is ∙ c.begin.ensures.same)) c.requires.as_long) in
    let as_many : length words ≡ c.self.inside.count * length row = same.1 in
    let more : length c.extend_from_slice.new.self.items ≡ length words + length row =
    ap (λ (l : List ℕ). length l) c.in_ok-extend_from_slice.ensures.items ∙ length-append words row in
    (omega (arith, as_many, more), omega (arith, more, c.self.invariant.1, c.requires.some))

pub returns-clause-put : goal.returns-clause-put
returns-clause-put c =
    let count : ℕ = c.self.inside.count in
    let words : List ℕ = c.self.inside.words.items in
    let row : List ℕ = c.args.row.now in
    let same = same_chunks c.self.inside.width count words (length row) c.self.invariant.0
    (subst (λ (l : List (List ℕ)). AreAsLong l (length row)) (sym (c.self.view_is ∙ c.begin.ensures.same)) c.requires.as_long) in
    (λ i. first_chunks (length row) (add-one count i) (c.in_ok-extend_from_slice.ensures.items i))
    ∙ chunk_more (length row) count words row same.1 refl
    ∙ ap (λ (l : List (List ℕ)). l ++ row ∷ []) (same.0 ∙ c.self.view_is ∙ c.begin.ensures.same)
