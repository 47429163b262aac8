use Rattle.std.proofs.Common.{◌≡◌, ◌∙◌, inl, inr, ℕ, List, ap, arith, bit_or, get_or, length, sym}
use Rattle.std.proofs.lemmas.Bool.{cases_lt}
use Rattle.packed_core.specs.Words.{joined_words}
use Rattle.packed_core.proofs.Joining.{joined_at, length-joined, words_alike, words_apart, words_are}
use Rattle.packed_core.proofs.index.is_joined.Goals as goal

pub returns-then-all-row : goal.returns-then-all-row
returns-then-all-row c =
    let row : List ℕ = c.args.row.now in
    let mask : List ℕ = c.args.mask.now in
    sym (words_apart (joined_words row mask) c.args.all.now
    (λ e. absurd (omega (arith, c.if-all-row.true, ap (λ (l : List ℕ). length l) e, length-joined row mask c.requires.as_long))))

pub returns-then-all-j : goal.returns-then-all-j
returns-then-all-j c =
    let row : List ℕ = c.args.row.now in
    let mask : List ℕ = c.args.mask.now in
    sym (words_apart (joined_words row mask) c.args.all.now
    (λ e. c.if-all-j.true (ap (λ (l : List ℕ). get_or l c.loop-j.j 0) (sym e) ∙ joined_at row mask c.loop-j.j c.requires.as_long c.loop-j-test.true)))

pub loop-j-preserved : goal.loop-j-preserved
loop-j-preserved c i h =
    let row : List ℕ = c.args.row.now in
    let mask : List ℕ = c.args.mask.now in
    elim (cases_lt i c.loop-j.j) [
      | inl l ↦ c.loop-j.invariant i l
      | inr l ↦
          let is : i ≡ c.loop-j.j = omega arith in
          ap (λ (k : ℕ). get_or c.args.all.now k 0) is ∙ c.if-all-j.false ∙ ap (λ (k : ℕ). bit_or (get_or row k 0) (get_or mask k 0)) (sym is)
    ]

pub returns : goal.returns
returns c =
    let row : List ℕ = c.args.row.now in
    let mask : List ℕ = c.args.mask.now in
    sym (words_alike (joined_words row mask) c.args.all.now
    (sym (words_are row mask c.args.all.now c.requires.as_long c.if-all-row.false (λ j l. c.loop-j.invariant j (omega (arith, c.loop-j-test.false))))))
