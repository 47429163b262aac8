use Rattle.std.proofs.Common.{◌≡◌, ◌∙◌, ◌<◌, inl, inr, true, false, ℕ, List, [], Some, ap, arith, length, sym}
use Rattle.std.proofs.lemmas.Bool.{cases_lt}
use Rattle.packed_core.specs.Rows.{row_at, same_words}
use Rattle.packed_core.specs.Words.{joined_words}
use Rattle.packed_core.proofs.Joining.{none_there, words_alike}
use Rattle.packed_core.proofs.Places.{got_at}
use Rattle.packed_core.proofs.Standing.{words_same}
use Rattle.packed_core.proofs.index.find_among.Goals as goal

pub returns-then-is_joined : goal.returns-then-is_joined
returns-then-is_joined c =
    let all : List ℕ = joined_words c.args.row.now c.args.mask.now in
    let rows : List (List ℕ) = c.args.rows.now in
    let n : ℕ = c.loop-n.n in
    let below : n < length rows = omega (arith, c.loop-n-test.true, c.len-n-end.ensures, c.loop-n.auto.n-end) in
    got_at rows n [] below
    ∙ ap Some (sym (words_same all (row_at rows n) (sym (c.is_joined.ensures ∙ ap (same_words all) c.at.ensures) ∙ c.if-is_joined.true)))

pub loop-n-preserved : goal.loop-n-preserved
loop-n-preserved c i h e =
    let rows : List (List ℕ) = c.args.rows.now in
    let all : List ℕ = joined_words c.args.row.now c.args.mask.now in
    let n : ℕ = c.loop-n.n in
    elim (cases_lt i n) [
      | inl l ↦ c.loop-n.invariant i l e
      | inr l ↦
          let same : i ≡ n = omega arith in
          let alike : same_words all (row_at rows n) ≡ true = words_alike all (row_at rows n) (sym e ∙ ap (row_at rows) same) in
          let no : true ≡ false = sym alike ∙ ap (same_words all) (sym c.at.ensures) ∙ sym c.is_joined.ensures ∙ c.if-is_joined.false in
          absurd cc
    ]

pub returns : goal.returns
returns c =
    none_there (joined_words c.args.row.now c.args.mask.now) c.args.rows.now
    (λ i h e. c.loop-n.invariant i (omega (arith, h, c.loop-n-test.false, c.len-n-end.ensures, c.loop-n.auto.n-end)) e)
