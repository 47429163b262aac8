use Rattle.std.proofs.Common.{◌≡◌, ◌∙◌, ◌+◌, ℕ, Bool, List, ap, arith, drop, get_or, length, sym, subst}
use Rattle.std.specs.Prelude.{◌||◌}
use Rattle.packed_core.specs.Classes.{bit_at}
use Rattle.packed_core.specs.Words.{bit}
use Rattle.packed_core.proofs.Bits.{no_bits, written}
use Rattle.packed_core.proofs.TestBits.{ArePart, mask_is, part_more}
use Rattle.packed_core.proofs.Places.{got_below, got_read}
use Rattle.packed_core.proofs.masks.mask_of.Goals as goal

pub loop-i-init : goal.loop-i-init
loop-i-init c =
    let zero : (j : ℕ) → get_or c.in_ok-mask.mask.items j 0 ≡ 0 = c.in_ok-mask.ensures.zeros in
    record {
      size = c.in_ok-mask.ensures.size;
      within = λ j. omega (arith, zero j);
      first = zero 0;
      done = λ j t h at. absurd (omega arith);
      rest = λ k h. no_bits c.in_ok-mask.mask.items zero k;
    }

pub loop-i-preserved : goal.loop-i-preserved
loop-i-preserved c =
    let row : List ℕ = c.mark.new.row in
    let old : List ℕ = c.loop-i.mask.items in
    let met : Bool = c.met_by-met.result in
    let at : ℕ = c.bit_at.result in
    let many : length row ≡ c.loop-i.mask.len = omega (arith, c.mark.auto.row, c.as_mut_slice.ensures.len) in
    let same : c.as_mut_slice.result.now ≡ old = c.as_mut_slice.ensures.value in
    let place : at ≡ bit_at c.args.room c.loop-i.i = c.bit_at.ensures in
    let here : bit row at ≡ (met || bit old at) = subst (λ xs. bit row at ≡ (met || bit xs at)) same c.mark.ensures.here in
    subst (ArePart c.args.n c.args.tests.now c.args.room c.args.code (c.loop-i.i + 1)) (sym (written row (drop (length row) old) c.loop-i.mask.len many))
    (part_more c.args.n c.args.tests.now c.args.room c.args.code c.loop-i.i old row met c.index-tests-i.result
    (got_read c.args.tests.now c.loop-i.i c.index-tests-i.result (omega (arith, c.loop-i-test.true)) c.index-tests-i.is) c.met_by-met.ensures
    (subst (λ k. bit row k ≡ (met || bit old k)) place here)
    (λ k apart. c.mark.ensures.elsewhere k (λ e. apart (e ∙ place)) ∙ ap (λ xs. bit xs k) same)
    c.loop-i.invariant (omega (arith, many, c.as_mut_slice.ensures.len, ap length same)) c.mark.ensures.within
    (c.mark.ensures.first ∙ ap (λ xs. get_or xs 0 0) same))

pub returns : goal.returns
returns c =
    let whole : c.loop-i.i ≡ length c.args.tests.now = omega (arith, c.loop-i-test.false, c.loop-i.auto.i-end) in
    mask_is c.args.n c.args.tests.now c.args.room c.args.code c.loop-i.mask.items c.requires.kept
    (λ j t at. c.loop-i.invariant.done j t (omega (arith, whole, got_below c.args.tests.now j t at)) at)
    (λ k h. c.loop-i.invariant.rest k (λ j below e. h j (omega (arith, whole)) e))
    c.loop-i.invariant.size c.loop-i.invariant.within c.loop-i.invariant.first
