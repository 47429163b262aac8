-- What is written of a text reads back.
use Rattle.std.proofs.Common.{◌≡◌, ◌≢◌, ℕ, Bool, true, false, cond, List, [], ◌∷◌, ◌++◌, map, codes, refl, sym, ap, subst, ◌∙◌, ◌⊎◌, inl, inr, append_assoc, arith}
use Rattle.std.proofs.lemmas.Bool.Decides.{eqb_tells}
use Rattle.std.proofs.Math.Dec.{eqb}
use Rattle.svg_text.specs.Elements.{byte_text, escaped, is_shown}
use Rattle.svg_text.specs.Reading.{IsPlain, ReadsAs, at_end, plain, ampersand, less, greater, quote, kept_byte}

-- a byte that is no mark
pub shown_or : (b : ℕ) (w r : List ℕ) → ReadsAs w r → b ≢ 38 → b ≢ 60 → b ≢ 62 → b ≢ 34 → (x : Bool) → is_shown b ≡ x →
    ReadsAs (cond x (b ∷ []) (codes "?") ++ w) (cond x b 63 ∷ r)
shown_or b w r h n38 n60 n62 n34 true e =
    plain b w r (record { not_ampersand = n38; not_less = n60; not_greater = n62; not_quote = n34; shown = e }) h
shown_or b w r h n38 n60 n62 n34 false e =
    plain 63 w r (record {
      not_ampersand = λ q. omega (arith, q);
      not_less = λ q. omega (arith, q);
      not_greater = λ q. omega (arith, q);
      not_quote = λ q. omega (arith, q);
      shown = refl;
    }) h

abbrev pub after_quote : ℕ → List ℕ
after_quote b = cond (is_shown b) (b ∷ []) (codes "?")

abbrev pub after_greater : ℕ → List ℕ
after_greater b = cond (eqb b 34) (codes "&quot;") (after_quote b)

abbrev pub after_less : ℕ → List ℕ
after_less b = cond (eqb b 62) (codes "&gt;") (after_greater b)

abbrev pub after_ampersand : ℕ → List ℕ
after_ampersand b = cond (eqb b 60) (codes "&lt;") (after_less b)

-- where a test is known, the text is that of its branch
chosen : (b k : ℕ) (text rest : List ℕ) (w r : List ℕ) → eqb b k ≡ true → ReadsAs (text ++ w) (kept_byte b ∷ r) → ReadsAs (cond (eqb b k) text rest ++ w) (kept_byte b ∷ r)
chosen b k text rest w r e h = subst (λ x. ReadsAs (cond x text rest ++ w) (kept_byte b ∷ r)) (sym e) h

passed : (b k : ℕ) (text rest : List ℕ) (w r : List ℕ) → eqb b k ≡ false → ReadsAs (rest ++ w) (kept_byte b ∷ r) → ReadsAs (cond (eqb b k) text rest ++ w) (kept_byte b ∷ r)
passed b k text rest w r e h = subst (λ x. ReadsAs (cond x text rest ++ w) (kept_byte b ∷ r)) (sym e) h

at_byte : (b k : ℕ) (t w r : List ℕ) → b ≡ k → ReadsAs (t ++ w) (kept_byte k ∷ r) → ReadsAs (t ++ w) (kept_byte b ∷ r)
at_byte b k t w r e h = subst (λ n. ReadsAs (t ++ w) (kept_byte n ∷ r)) (sym e) h

reads_quote : (b : ℕ) (w r : List ℕ) → ReadsAs w r → b ≢ 38 → b ≢ 60 → b ≢ 62 → ReadsAs (after_greater b ++ w) (kept_byte b ∷ r)
reads_quote b w r h n38 n60 n62 = elim (eqb_tells b 34) [
  | inl p ↦ chosen b 34 (codes "&quot;") (after_quote b) w r p.0 (at_byte b 34 (codes "&quot;") w r p.1 (quote w r h))
  | inr p ↦ passed b 34 (codes "&quot;") (after_quote b) w r p.0 (shown_or b w r h n38 n60 n62 p.1 (is_shown b) refl)
]

reads_greater : (b : ℕ) (w r : List ℕ) → ReadsAs w r → b ≢ 38 → b ≢ 60 → ReadsAs (after_less b ++ w) (kept_byte b ∷ r)
reads_greater b w r h n38 n60 = elim (eqb_tells b 62) [
  | inl p ↦ chosen b 62 (codes "&gt;") (after_greater b) w r p.0 (at_byte b 62 (codes "&gt;") w r p.1 (greater w r h))
  | inr p ↦ passed b 62 (codes "&gt;") (after_greater b) w r p.0 (reads_quote b w r h n38 n60 p.1)
]

reads_less : (b : ℕ) (w r : List ℕ) → ReadsAs w r → b ≢ 38 → ReadsAs (after_ampersand b ++ w) (kept_byte b ∷ r)
reads_less b w r h n38 = elim (eqb_tells b 60) [
  | inl p ↦ chosen b 60 (codes "&lt;") (after_less b) w r p.0 (at_byte b 60 (codes "&lt;") w r p.1 (less w r h))
  | inr p ↦ passed b 60 (codes "&lt;") (after_less b) w r p.0 (reads_greater b w r h n38 p.1)
]

reads_byte : (b : ℕ) (w r : List ℕ) → ReadsAs w r → ReadsAs (byte_text b ++ w) (kept_byte b ∷ r)
reads_byte b w r h = elim (eqb_tells b 38) [
  | inl p ↦ chosen b 38 (codes "&amp;") (after_ampersand b) w r p.0 (at_byte b 38 (codes "&amp;") w r p.1 (ampersand w r h))
  | inr p ↦ passed b 38 (codes "&amp;") (after_ampersand b) w r p.0 (reads_less b w r h p.1)
]

pub reads_back : (t : List ℕ) → ReadsAs (escaped t) (map kept_byte t)
reads_back [] = at_end
reads_back (b ∷ t) = reads_byte b (escaped t) (map kept_byte t) (reads_back t)
