-- Lines up to the first that tells a fault.
use Rattle.std.proofs.Common.{◌≡◌, ◌+◌, ◌≤◌, not, ℕ, zero, suc, Bool, true, false, cond, List, [], ◌∷◌, length, take, Some, None, arith, refl, sym, ap, ◌∙◌}
use Rattle.std.specs.Prelude.{nat_lt, if◌then◌else◌}
use Rattle.std.specs.List.{position, position_or_len}
use Rattle.std.proofs.lemmas.Bool.{ltb-false}
use Rattle.jcl_plan.specs.declared.entry.JobLine.{JobLine}
use Rattle.path_meaning.specs.Explanations.{tells_fault, up_to_fault}

-- one more than stand before it
to_fault : (lines : List JobLine) → take (suc (position_or_len tells_fault lines)) lines ≡ up_to_fault lines
to_fault [] = refl
to_fault (l ∷ lines) = by (tells_fault l) (to_fault lines)
  where
    by : (b : Bool) → take (suc (position_or_len tells_fault lines)) lines ≡ up_to_fault lines →
        l ∷ take (cond (not b) (1 + position_or_len tells_fault lines) 0) lines ≡ (if b then l ∷ [] else l ∷ up_to_fault lines)
    by true rest = refl
    by false rest =
        let more : 1 + position_or_len tells_fault lines ≡ suc (position_or_len tells_fault lines) = omega arith in
        ap (λ n. l ∷ take n lines) more ∙ ap (λ ls. l ∷ ls) rest

-- where it stands
at_place : (lines : List JobLine) (place : ℕ) (b : Bool) → cond b (Some (position_or_len tells_fault lines)) None ≡ Some place →
    position_or_len tells_fault lines ≡ place
at_place lines place true e = cc
at_place lines place false e = absurd cc

pub to_place : (lines : List JobLine) (place : ℕ) → position tells_fault lines ≡ Some place → take (place + 1) lines ≡ up_to_fault lines
to_place lines place e =
    let at = at_place lines place (nat_lt (position_or_len tells_fault lines) (length lines)) e in
    let more : place + 1 ≡ suc (position_or_len tells_fault lines) = omega (arith, at) in
    ap (λ n. take n lines) more ∙ to_fault lines

-- or all of them, where none tells one
whole : (lines : List JobLine) (n : ℕ) → length lines ≤ n → take n lines ≡ lines
whole [] zero h = refl
whole [] (suc n) h = refl
whole (l ∷ lines) zero h = absurd (omega (arith, h))
whole (l ∷ lines) (suc n) h = ap (λ ls. l ∷ ls) (whole lines n (omega (arith, h)))

none_at : (lines : List JobLine) (b : Bool) → nat_lt (position_or_len tells_fault lines) (length lines) ≡ b →
    cond b (Some (position_or_len tells_fault lines)) None ≡ None → length lines ≤ position_or_len tells_fault lines
none_at lines true is e = absurd cc
none_at lines false is e = ltb-false (position_or_len tells_fault lines) (length lines) is

pub to_end : (lines : List JobLine) → position tells_fault lines ≡ None → take (length lines) lines ≡ up_to_fault lines
to_end lines e =
    let past = none_at lines (nat_lt (position_or_len tells_fault lines) (length lines)) refl e in
    whole lines (length lines) (omega arith) ∙ sym (whole lines (suc (position_or_len tells_fault lines)) (omega (arith, past))) ∙ to_fault lines
