-- Parts of records, and the numbers in them.
use Rattle.std.proofs.Common.{◌≡◌, ◌==◌, ◌+◌, ◌-◌, ◌*◌, ◌≤◌, ◌<◌, arith, ℕ, zero, suc, true, List, [], ◌∷◌, take, drop, get_or, refl, sym, ap, ◌∙◌}
use Rattle.std.specs.Prelude.{fold}
use Rattle.std.specs.List.{list_all}
use Rattle.std.proofs.lemmas.Bool.{and_from, and_parts, eq-eqb, eqb-true}
use Rattle.std.proofs.lemmas.List.{drop-drop, drop-take, get_or-drop, get_or-take, take-take}
use Rattle.cb_meaning.specs.declared.layout.Field.{Field}
use Rattle.cb_meaning.specs.Fields.{byte_at, number_at, number_of, part, two_bytes}

-- a part of a part
pub part_within : (r : List ℕ) (at width from count : ℕ) → from + count ≤ width → part r (at + from) count ≡ take count (drop from (part r at width))
part_within r at width from count h =
    let whole : from + (width - from) ≡ width = omega (arith, h) in
    let inner : drop from (take width (drop at r)) ≡ take (width - from) (drop from (drop at r)) =
    ap (λ w. drop from (take w (drop at r))) (sym whole) ∙ drop-take from (width - from) (drop at r) in
    sym (ap (take count) inner ∙ (take-take count (width - from) (drop from (drop at r)) (omega (arith, h)) ∙ ap (take count) (drop-drop from at r)))

pub byte_within : (r : List ℕ) (at width i : ℕ) → i < width → byte_at r (at + i) ≡ get_or (part r at width) i 0
byte_within r at width i h = sym (get_or-take width (drop at r) i 0 h ∙ get_or-drop at r i 0)

pub two_bytes_are : (n : ℕ) → number_of (two_bytes n) ≡ n
two_bytes_are n = omega arith

-- a number that is zero has zeros alone
folded_zero : (before : ℕ) (bytes : List ℕ) → fold (λ n b. n * 256 + b) before bytes ≡ 0 → (before ≡ 0) × (list_all (λ b. b == 0) bytes ≡ true)
folded_zero before [] h = (h, refl)
folded_zero before (b ∷ bytes) h =
    let rest = folded_zero (before * 256 + b) bytes h in
    let sum : before * 256 + b ≡ 0 = rest.0 in
    (omega (arith, sum), and_from (b == 0) (list_all (λ c. c == 0) bytes) (eq-eqb b 0 (omega (arith, sum))) rest.1)

pub zeros_of : (r : List ℕ) (f : Field) → number_at r f ≡ 0 → list_all (λ b. b == 0) (part r f.at f.width) ≡ true
zeros_of r f h = (folded_zero 0 (part r f.at f.width) h).1

zero_in : (bytes : List ℕ) (i : ℕ) → list_all (λ b. b == 0) bytes ≡ true → get_or bytes i 0 ≡ 0
zero_in [] i h = refl
zero_in (b ∷ bytes) zero h = eqb-true b 0 (and_parts (b == 0) (list_all (λ c. c == 0) bytes) h).0
zero_in (b ∷ bytes) (suc i) h = zero_in bytes i (and_parts (b == 0) (list_all (λ c. c == 0) bytes) h).1

pub zero_byte : (r : List ℕ) (at width k : ℕ) → list_all (λ b. b == 0) (part r at width) ≡ true → at ≤ k → k < at + width → byte_at r k ≡ 0
zero_byte r at width k h low high =
    let place : at + (k - at) ≡ k = omega (arith, low) in
    ap (λ n. byte_at r n) (sym place) ∙ (byte_within r at width (k - at) (omega (arith, low, high)) ∙ zero_in (part r at width) (k - at) h)
