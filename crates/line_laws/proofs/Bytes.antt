-- Texts whose bytes are all from the blank to the tilde.
use Rattle.std.proofs.Common.{◌≡◌, ◌≤◌, ◌<◌, ◌+◌, ◌-◌, ◌/◌, ◌%◌, ◌++◌, ◌==◌, ◌&&◌, ℕ, zero, suc, Bool, true, false, List, [], ◌∷◌, Option, Some, None, length, replicate, nat_le, nat_lt, codes, refl, arith, decimal}
use Rattle.std.specs.Prelude.{All}
use Rattle.std.specs.Fmt.{digit_glyph, digits, digits_onto}
use Rattle.std.specs.List.{list_all}
use Rattle.std.proofs.lemmas.Bool.{and_parts, cond_both, leb-true}
use Rattle.std.proofs.lemmas.List.Elements.{All-append, All-cons, All-head, All-nil, All-replicate, All-tail, All-weaker}
use Rattle.jcl_plan.specs.Texts.{behind_blank, onto_text, shown, step_shown, trimmed, digits as padded}
use Rattle.line_laws.specs.Printable.{IsPrintable, IsPrintableName}

abbrev pub IsByte : ℕ → Type 0
IsByte c = (32 ≤ c) × (c ≤ 126)

-- as the letters and digits are
abbrev pub IsGlyph : ℕ → Type 0
IsGlyph c = (48 ≤ c) × (c ≤ 126)

-- the same as the definition's, under a name that tells its text
pub record Printable (text : List ℕ) : Type 0 where
  pub so : IsPrintable text

pub join : {xs ys : List ℕ} → Printable xs → Printable ys → Printable (xs ++ ys)
join {xs} {ys} p q = record { so = All-append IsByte xs ys p.so q.so }

abbrev is_byte : ℕ → Bool
is_byte c = nat_le 32 c && nat_le c 126

bytes : (text : List ℕ) → list_all is_byte text ≡ true → All IsByte text
bytes [] h = All-nil IsByte
bytes (c ∷ text) h =
    let parts = and_parts (is_byte c) (list_all is_byte text) h in
    let ends = and_parts (nat_le 32 c) (nat_le c 126) parts.0 in
    All-cons IsByte c text (leb-true 32 c ends.0, leb-true c 126 ends.1) (bytes text parts.1)

-- a word that is written out
pub word : (text : List ℕ) → list_all is_byte text ≡ true → Printable text
word text h = record { so = bytes text h }

glyph : (d : ℕ) → d < 10 → IsGlyph (digit_glyph false d)
glyph d h = cond_both (nat_lt d 10) (48 + d) (87 + d) IsGlyph (λ e. (omega arith, omega arith)) (λ e. (omega arith, omega arith))

glyphs_onto : (k n : ℕ) (acc : List ℕ) → All IsGlyph acc → All IsGlyph (digits_onto k 10 false n acc)
glyphs_onto zero n acc h = h
glyphs_onto (suc k) n acc h =
    let more : All IsGlyph (digit_glyph false (n % 10) ∷ acc) = All-cons IsGlyph (digit_glyph false (n % 10)) acc (glyph (n % 10) (omega arith)) h in
    cond_both (n / 10 == 0) (digit_glyph false (n % 10) ∷ acc) (digits_onto k 10 false (n / 10) (digit_glyph false (n % 10) ∷ acc)) (All IsGlyph)
    (λ e. more) (λ e. glyphs_onto k (n / 10) (digit_glyph false (n % 10) ∷ acc) more)

pub decimal_glyphs : (n : ℕ) → All IsGlyph (decimal n)
unfolding digits
decimal_glyphs n = glyphs_onto 64 n [] (All-nil IsGlyph)

pub digits_glyphs : (width n : ℕ) → All IsGlyph (padded width n)
digits_glyphs width n =
    All-append IsGlyph (replicate (width - length (decimal n)) 48) (decimal n)
    (All-replicate IsGlyph (width - length (decimal n)) 48 (omega arith, omega arith)) (decimal_glyphs n)

of_glyphs : (text : List ℕ) → All IsGlyph text → Printable text
of_glyphs text h = record { so = All-weaker IsGlyph IsByte (λ c g. (omega (arith, g.0), g.1)) text h }

pub number : (n : ℕ) → Printable (decimal n)
number n = of_glyphs (decimal n) (decimal_glyphs n)

pub numbered : (width n : ℕ) → Printable (padded width n)
numbered width n = of_glyphs (padded width n) (digits_glyphs width n)

onto_printable : (c : ℕ) (text : List ℕ) → IsByte c → All IsByte text → All IsByte (onto_text c text)
onto_printable c [] h t = cond_both (c == 32) [] (c ∷ []) (All IsByte) (λ e. t) (λ e. All-cons IsByte c [] h t)
onto_printable c (d ∷ ds) h t = All-cons IsByte c (d ∷ ds) h t

trimmed_printable : (text : List ℕ) → All IsByte text → All IsByte (trimmed text)
trimmed_printable [] h = h
trimmed_printable (c ∷ cs) h =
    onto_printable c (trimmed cs) (All-head IsByte c cs h) (trimmed_printable cs (All-tail IsByte c cs h))

behind_printable : (text : List ℕ) → All IsByte text → All IsByte (behind_blank text)
behind_printable [] h = h
behind_printable (c ∷ cs) h = All-cons IsByte 32 (c ∷ cs) (omega arith, omega arith) h

pub shortened : (text : List ℕ) → IsPrintable text → Printable (behind_blank (trimmed text))
shortened text h = record { so = behind_printable (trimmed text) (trimmed_printable text h) }

pub name_shown : (name : Option (List ℕ)) → IsPrintableName name → Printable (shown name)
name_shown None h = word (codes "-") refl
name_shown (Some name) h = record { so = h }

pub names_shown : (name step : Option (List ℕ)) → IsPrintableName name → IsPrintableName step → Printable (step_shown name step)
names_shown name None h k = name_shown name h
names_shown name (Some step) h k = join (join (name_shown name h) (word (codes ".") refl)) (record { so = k })
