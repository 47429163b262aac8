use Rattle.std.proofs.Common.{◌≡◌, ◌∙◌, ◌+◌, ◌*◌, ◌≤◌, ℕ, List, ap, arith, drop, length, sym, take}
use Rattle.packed_core.specs.Rows.{row_at}
use Rattle.packed_core.proofs.Sheets.{chunk_at, length-chunks, row_within}
use Rattle.packed_core.proofs.sheet.Sheet.at.Goals as goal

pub overflow_mul-number : goal.overflow_mul-number
overflow_mul-number c =
    let many : length c.args.self.now ≡ c.self.inside.count =
    ap (λ (l : List (List ℕ)). length l) (sym c.self.view_is) ∙ length-chunks c.self.inside.width c.self.inside.count c.self.inside.words.items in
    let within : c.args.number * c.self.inside.width + c.self.inside.width ≤ length c.self.inside.words.items =
    row_within c.self.inside.width c.self.inside.count c.args.number (length c.self.inside.words.items) (omega (arith, many, c.requires)) c.self.invariant.0 in
    omega (arith, within, c.as_slice-words.ensures.len, ap (λ (l : List ℕ). length l) c.as_slice-words.ensures.value)

pub part_of-requires : goal.part_of-requires
part_of-requires c =
    let many : length c.args.self.now ≡ c.self.inside.count =
    ap (λ (l : List (List ℕ)). length l) (sym c.self.view_is) ∙ length-chunks c.self.inside.width c.self.inside.count c.self.inside.words.items in
    let within : c.args.number * c.self.inside.width + c.self.inside.width ≤ length c.self.inside.words.items =
    row_within c.self.inside.width c.self.inside.count c.args.number (length c.self.inside.words.items) (omega (arith, many, c.requires)) c.self.invariant.0 in
    omega (arith, within, ap (λ (l : List ℕ). length l) c.as_slice-words.ensures.value)

pub returns : goal.returns
returns c =
    let width : ℕ = c.self.inside.width in
    let count : ℕ = c.self.inside.count in
    let words : List ℕ = c.self.inside.words.items in
    let many : length c.args.self.now ≡ count = ap (λ (l : List (List ℕ)). length l) (sym c.self.view_is) ∙ length-chunks width count words in
    c.part_of.ensures ∙ ap (λ (l : List ℕ). take width (drop (c.args.number * width) l)) c.as_slice-words.ensures.value
    ∙ sym (chunk_at width count c.args.number words (omega (arith, many, c.requires)))
    ∙ ap (λ (l : List (List ℕ)). row_at l c.args.number) c.self.view_is
