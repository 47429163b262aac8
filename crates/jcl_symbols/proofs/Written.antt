-- text that is written piece by piece
use Rattle.std.proofs.Common.{◌≡◌, ℕ, ◌<◌, ◌≤◌, Bool, true, false, cond, not, ◌&&◌, ◌||◌, nat_lt, List, [], ◌∷◌, ◌++◌, length, Some, None, inl, inr, refl, sym, ap, ◌∙◌, subst, arith, append_assoc, length-append}
use Rattle.std.proofs.lemmas.Bool.Decides.{nat_tests}
use Rattle.card_core.specs.Fields.{quoted_after}
use Rattle.jcl_symbols.specs.declared.symbol.Symbol.{Symbol}
use Rattle.jcl_symbols.specs.Substitutions.{Substituted, begins_symbol, behind, nothing, substituted_from, substituted_in}
use Rattle.jcl_symbols.specs.Writing.{Stores, Writes, WritesNext, commas_before, texts_of}
use Rattle.jcl_symbols.proofs.Joined.{joined_commas}
use Rattle.jcl_symbols.proofs.Walk.{at_character, at_symbol}

-- a piece is written, where the text is not yet too long
abbrev pub IsPut : List ℕ → List ℕ → List ℕ → Type 0
IsPut old new piece = new ≡ cond (nat_lt 1024 (length old)) old (old ++ piece)

put_cases : (over : Bool) (old new piece rest whole : List ℕ) → over ≡ nat_lt 1024 (length old) → new ≡ cond over old (old ++ piece) →
    Stores old (piece ++ rest) whole → Stores new rest whole
put_cases true old new piece rest whole is put (inl same) =
    let long : 1024 < length old = grind (arith, nat_tests) in
    let kept : 1024 < length new = omega (arith, ap length put) in
    let all : 1024 < length whole = omega (arith, ap length same, length-append old (piece ++ rest)) in
    inr (kept, all)
put_cases true old new piece rest whole is put (inr long) =
    let kept : 1024 < length new = omega (arith, ap length put) in
    inr (kept, long.1)
put_cases false old new piece rest whole is put (inl same) = inl (ap (λ xs. xs ++ rest) put ∙ append_assoc old piece rest ∙ same)
put_cases false old new piece rest whole is put (inr long) =
    let short : length old ≤ 1024 = grind (arith, nat_tests) in
    absurd (omega (arith, long.0))

pub stored : (old new piece rest whole : List ℕ) → IsPut old new piece → Stores old (piece ++ rest) whole → Stores new rest whole
stored old new piece rest whole put before = put_cases (nat_lt 1024 (length old)) old new piece rest whole refl put before

-- a piece in front of a text
pub writes_behind : (old new piece : List ℕ) (s : Substituted) → IsPut old new piece → Writes old new (behind piece s) s false
writes_behind old new piece s put = record {
  text = λ rest whole before.
      let in_front : Stores old (piece ++ (s.text ++ rest)) whole =
      subst (λ (xs : List ℕ). Stores old xs whole) (append_assoc piece s.text rest) before in
      stored old new piece (s.text ++ rest) whole put in_front;
  lacks = refl;
}

or_assoc : (a b c : Bool) → (a || (b || c)) ≡ ((a || b) || c)
or_assoc false b c = refl
or_assoc true b c = refl

-- one piece behind another
pub writes_both : (old between new : List ℕ) (all some left : Substituted) (first second : Bool) → Writes old between all some first → Writes between new some left second →
    Writes old new all left (first || second)
writes_both old between new all some left first second p q = record {
  text = λ rest whole before. q.text rest whole (p.text rest whole before);
  lacks = p.lacks ∙ ap (λ (b : Bool). first || b) q.lacks ∙ or_assoc first second left.lacks_value;
}

or_false : (a : Bool) → (a || false) ≡ a
or_false true = refl
or_false false = refl

not_quoted : (quoted : Bool) (c : ℕ) → begins_symbol quoted c ≡ true → quoted ≡ false
not_quoted true c h = absurd (cc)
not_quoted false c h = refl

-- a symbol is written
pub symbol_step : (symbols : List Symbol) (quoted : Bool) (c : ℕ) (cs rest left old between new : List ℕ) (all : Substituted) (first second lacks : Bool) →
    begins_symbol quoted c ≡ true → rest ≡ c ∷ cs → Writes old between all (substituted_from symbols quoted None rest) first →
    Writes between new (substituted_from symbols false (Some []) cs) (substituted_from symbols false None left) second → (first || second) ≡ lacks →
    Writes old new all (substituted_from symbols quoted None left) lacks
symbol_step symbols quoted c cs rest left old between new all first second lacks is in_front before step same =
    let begun = subst (λ (s : Substituted). Writes old between all s first) (ap (substituted_from symbols quoted None) in_front ∙ at_symbol symbols quoted c cs is) before in
    let done = writes_both old between new all (substituted_from symbols false (Some []) cs) (substituted_from symbols false None left) first second begun step in
    let told = subst (λ (b : Bool). Writes old new all (substituted_from symbols false None left) b) same done in
    subst (λ (q : Bool). Writes old new all (substituted_from symbols q None left) lacks) (sym (not_quoted quoted c is)) told

-- another character is written
pub character_step : (symbols : List Symbol) (quoted behind_quoted : Bool) (c : ℕ) (cs rest old between new : List ℕ) (all : Substituted) (lacks : Bool) →
    begins_symbol quoted c ≡ false → rest ≡ c ∷ cs → Writes old between all (substituted_from symbols quoted None rest) lacks → IsPut between new (c ∷ []) →
    behind_quoted ≡ quoted_after quoted c → Writes old new all (substituted_from symbols behind_quoted None cs) lacks
character_step symbols quoted behind_quoted c cs rest old between new all lacks is in_front before put quotes =
    let s = substituted_from symbols (quoted_after quoted c) None cs in
    let begun = subst (λ (s : Substituted). Writes old between all s lacks) (ap (substituted_from symbols quoted None) in_front ∙ at_character symbols quoted c cs is) before in
    let done = writes_both old between new all (behind (c ∷ []) s) s lacks false begun (writes_behind between new (c ∷ []) s put) in
    let told = subst (λ (b : Bool). Writes old new all s b) (or_false lacks) done in
    subst (λ (q : Bool). Writes old new all (substituted_from symbols q None cs) lacks) (sym quotes) told

flipped : (over : Bool) (old between : List ℕ) → between ≡ cond (true && not over) (old ++ 44 ∷ []) old → between ≡ cond over old (old ++ 44 ∷ [])
flipped true old between h = h
flipped false old between h = h

-- a place is written behind those before it
pub writes_next : (symbols : List Symbol) (old between new : List ℕ) (begun : Bool) (place : List ℕ) (lacks : Bool) →
    between ≡ cond (begun && not (nat_lt 1024 (length old))) (old ++ 44 ∷ []) old → Writes between new (substituted_in symbols place) nothing lacks →
    WritesNext symbols old new begun place
writes_next symbols old between new true place lacks comma step = λ places whole before.
    let text = (substituted_in symbols place).text in
    let others = commas_before (texts_of symbols places) in
    step.text others whole (stored old between (44 ∷ []) (text ++ others) whole (flipped (nat_lt 1024 (length old)) old between comma) before)
writes_next symbols old between new false place lacks comma step = λ places whole before.
    let text = (substituted_in symbols place).text in
    let others = commas_before (texts_of symbols places) in
    let in_front = subst (λ (xs : List ℕ). Stores old xs whole) (joined_commas text (texts_of symbols places)) before in
    step.text others whole (subst (λ (xs : List ℕ). Stores xs (text ++ others) whole) (sym comma) in_front)
