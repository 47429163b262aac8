use Rattle.std.proofs.Common.{◌≡◌, ◌∙◌, ℕ, List, ap, arith, length, sym}
use Rattle.std.proofs.lemmas.List.{get_or_default, length-map}
use Rattle.packed_core.specs.Indexed.{hash_at, hash_from}
use Rattle.packed_core.specs.Rows.{row_at}
use Rattle.packed_core.specs.Words.{joined_words}
use Rattle.packed_core.proofs.Indexing.{hash_there}
use Rattle.packed_core.proofs.Joining.{words_apart}
use Rattle.packed_core.proofs.index.Index.is_at.Goals as goal

pub returns-then-index-hash : goal.returns-then-index-hash
returns-then-index-hash c =
    let rows : List (List ℕ) = c.args.rows.now in
    let n : ℕ = c.args.n in
    let all : List ℕ = joined_words c.args.row.now c.args.mask.now in
    let hashes : List ℕ = c.args.self.now.hashes.items in
    let is = c.requires.indexed in
    let many : length hashes ≡ length rows = ap (λ (l : List ℕ). length l) is.hashes ∙ length-map rows (hash_from 0) in
    let got : c.index.result.now ≡ hash_at hashes n = c.index.ensures ∙ get_or_default hashes n c.index.result.now 0 (omega (arith, many, c.requires.number)) in
    sym (words_apart all (row_at rows n)
    (λ e. c.if-index-hash.true (got ∙ hash_there rows c.args.self.now is n c.requires.number ∙ ap (hash_from 0) (sym e) ∙ sym c.requires.hash)))
