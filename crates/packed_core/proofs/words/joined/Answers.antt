use Rattle.std.proofs.Common.{◌≡◌, ◌∙◌, ◌+◌, ◌<◌, ◌∷◌, ℕ, [], List, ap, arith, bit_or, get_or, length, length-append, refl}
use Rattle.std.specs.Int.Bits.{or_zero_r}
use Rattle.packed_core.proofs.Bits.{at_word, joined_bits, joined_words, one_word}
use Rattle.packed_core.proofs.Joining.{words_are}
use Rattle.packed_core.proofs.words.joined.Goals as goal

pub loop-j-preserved : goal.loop-j-preserved
loop-j-preserved c =
    let word : ℕ → ℕ = λ j. bit_or (get_or c.args.row.now j 0) (get_or c.args.mask.now j 0) in
    record {
      count = ap length c.in_ok-push.ensures.items ∙ length-append c.loop-j.all.items (word c.loop-j.j ∷ []) ∙ (ap (λ n. n + 1) c.loop-j.invariant.count);
      each = λ i h. ap (λ (l : List ℕ). get_or l i 0) c.in_ok-push.ensures.items
          ∙ one_word c.loop-j.all.items (word c.loop-j.j) word c.loop-j.j c.loop-j.invariant.count c.loop-j.invariant.each refl i h;
    }

pub returns-clause-words : goal.returns-clause-words
returns-clause-words c =
    let whole : c.loop-j.j ≡ length c.args.row.now = omega (arith, c.loop-j-test.false, c.loop-j.auto.j-end) in
    words_are c.args.row.now c.args.mask.now c.loop-j.all.items c.requires.as_long (c.loop-j.invariant.count ∙ whole)
    (λ j h. c.loop-j.invariant.each j (omega arith))

pub returns-clause-first : goal.returns-clause-first
returns-clause-first c =
    let whole : c.loop-j.j ≡ length c.args.row.now = omega (arith, c.loop-j-test.false, c.loop-j.auto.j-end) in
    let each : (j : ℕ) → j < length c.args.row.now → get_or c.loop-j.all.items j 0 ≡ bit_or (get_or c.args.row.now j 0) (get_or c.args.mask.now j 0) =
    λ j h. c.loop-j.invariant.each j (omega arith) in
    at_word c.args.row.now c.args.mask.now c.loop-j.all.items c.requires.as_long (c.loop-j.invariant.count ∙ whole) each 0
    ∙ ap (bit_or (get_or c.args.row.now 0 0)) c.requires.unnumbered ∙ or_zero_r (get_or c.args.row.now 0 0)

pub returns-clause-bits : goal.returns-clause-bits
returns-clause-bits c =
    let whole : c.loop-j.j ≡ length c.args.row.now = omega (arith, c.loop-j-test.false, c.loop-j.auto.j-end) in
    let each : (j : ℕ) → j < length c.args.row.now → get_or c.loop-j.all.items j 0 ≡ bit_or (get_or c.args.row.now j 0) (get_or c.args.mask.now j 0) =
    λ j h. c.loop-j.invariant.each j (omega arith) in
    joined_bits c.args.row.now c.args.mask.now c.loop-j.all.items c.requires.as_long (c.loop-j.invariant.count ∙ whole) each

pub returns-clause-within : goal.returns-clause-within
returns-clause-within c =
    let whole : c.loop-j.j ≡ length c.args.row.now = omega (arith, c.loop-j-test.false, c.loop-j.auto.j-end) in
    let each : (j : ℕ) → j < length c.args.row.now → get_or c.loop-j.all.items j 0 ≡ bit_or (get_or c.args.row.now j 0) (get_or c.args.mask.now j 0) =
    λ j h. c.loop-j.invariant.each j (omega arith) in
    joined_words c.args.row.now c.args.mask.now c.loop-j.all.items c.requires.as_long (c.loop-j.invariant.count ∙ whole) each
