-- Names hold no blank, so a name that is filled with blanks is one name's alone.
use Rattle.std.proofs.Common.{◌≡◌, ◌≢◌, ◌==◌, ◌++◌, arith, ℕ, zero, suc, Bool, true, false, cond, List, [], ◌∷◌, replicate, refl, sym, ap, ◌∙◌, eqb-true}
use Rattle.std.specs.Prelude.{IsTrue}
use Rattle.std.specs.List.{AllByRecursion, onto_first, slice_split}
use Rattle.std.proofs.lemmas.Bool.{both_ways}
use Rattle.jname_core.specs.Characters.{is_component_character, is_first, is_name_character}
use Rattle.jname_core.specs.Grammar.{Consists, IsComponent, IsDotted, IsName8, IsSerial, components_of}

abbrev pub NoBlank : List ℕ → Type 0
NoBlank [] = Unit {0}
NoBlank (c ∷ cs) = (c ≢ 32) × NoBlank cs

not_blank : (kind : ℕ → Bool) → kind 32 ≡ false → (c : ℕ) → IsTrue (kind c) → c ≢ 32
not_blank kind blank c h e = both_ways (kind c) (ap kind e ∙ blank) h

consists : (kind : ℕ → Bool) → kind 32 ≡ false → (cs : List ℕ) → Consists kind cs → NoBlank cs
consists kind blank [] h = tt
consists kind blank (c ∷ cs) h = (not_blank kind blank c h.0, consists kind blank cs h.1)

pub name_blank : (text : List ℕ) → IsName8 text → NoBlank text
name_blank [] h = absurd h
name_blank (c ∷ cs) h = (not_blank is_first refl c h.0, consists is_name_character refl cs h.1)

pub serial_blank : (text : List ℕ) → IsSerial text → NoBlank text
serial_blank [] h = absurd h
serial_blank (c ∷ cs) h = consists is_component_character refl (c ∷ cs) h.0

component_blank : (text : List ℕ) → IsComponent text → NoBlank text
component_blank [] h = absurd h
component_blank (c ∷ cs) h = (not_blank is_first refl c h.0, consists is_component_character refl cs h.1)

components_blank : (parts : List (List ℕ)) → AllByRecursion IsComponent parts → AllByRecursion NoBlank parts
components_blank [] h = tt
components_blank (part ∷ parts) h = (component_blank part h.0, components_blank parts h.1)

by_parts : (c : ℕ) (cs : List ℕ) (parts : List (List ℕ)) → AllByRecursion NoBlank (onto_first c parts) → (AllByRecursion NoBlank parts → NoBlank cs) →
    (c ≢ 32) × NoBlank cs
by_parts c cs [] g later = (g.0.0, later tt)
by_parts c cs (x ∷ xs) g later = (g.0.0, later (g.0.1, g.1))

period_blank : (c : ℕ) → c ≡ 46 → c ≢ 32
period_blank c is blank = let no : ⊥ = omega (arith, is, blank) in no

by_period : (c : ℕ) (cs : List ℕ) (b : Bool) → (c == 46) ≡ b → (parts : List (List ℕ)) → AllByRecursion NoBlank (cond b ([] ∷ parts) (onto_first c parts)) →
    (AllByRecursion NoBlank parts → NoBlank cs) → (c ≢ 32) × NoBlank cs
by_period c cs true e parts g later = (period_blank c (eqb-true c 46 e), later g.1)
by_period c cs false e parts g later = by_parts c cs parts g later

joined_blank : (text : List ℕ) → AllByRecursion NoBlank (slice_split (λ c. c == 46) text) → NoBlank text
joined_blank [] h = tt
joined_blank (c ∷ cs) h = by_period c cs (c == 46) refl (slice_split (λ d. d == 46) cs) h (joined_blank cs)

pub dotted_blank : (limit : ℕ) (text : List ℕ) → IsDotted limit text → NoBlank text
dotted_blank limit text h = joined_blank text (components_blank (components_of text) h.joined)

-- texts with blanks behind them
pub same_text : (a b : List ℕ) (m n : ℕ) → NoBlank a → NoBlank b → a ++ replicate m 32 ≡ b ++ replicate n 32 → a ≡ b
same_text [] [] m n h g e = refl
same_text [] (d ∷ b) zero n h g e = absurd cc
same_text [] (d ∷ b) (suc m) n h g e = let is : 32 ≡ d = cc in absurd (g.0 (sym is))
same_text (c ∷ a) [] m zero h g e = absurd cc
same_text (c ∷ a) [] m (suc n) h g e = let is : c ≡ 32 = cc in absurd (h.0 is)
same_text (c ∷ a) (d ∷ b) m n h g e =
    let first : c ≡ d = cc in
    let rest : a ++ replicate m 32 ≡ b ++ replicate n 32 = cc in
    λ i. first i ∷ same_text a b m n h.1 g.1 rest i
