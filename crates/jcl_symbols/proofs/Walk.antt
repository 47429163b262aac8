-- symbols, one after another
use Rattle.std.proofs.Common.{◌≡◌, ℕ, suc, zero, ◌+◌, Bool, true, false, cond, ◌&&◌, ◌==◌, nat_lt, List, [], ◌∷◌, ◌++◌, length, take, take_while, drop, codes, Option, Some, None, is_some, refl, sym, ap, ◌∙◌, arith, append_assoc, length-append, lt-ltb, le-ltb, ne_eqb, nat_eq, Bor}
use Rattle.std.specs.Option.{option_copied}
use Rattle.std.specs.List.{starts_with}
use Rattle.std.proofs.lemmas.List.{append-nil}
use Rattle.std.proofs.lemmas.List.Sums.{take_while-cons}
use Rattle.jname_core.specs.Characters.{is_name_character}
use Rattle.card_core.specs.Fields.{quoted_after}
use Rattle.jcl_symbols.specs.declared.symbol.Symbol.{Symbol}
use Rattle.jcl_symbols.specs.Substitutions.{Substituted, begins_symbol, behind, ended, goes_on, is_doubled, is_dropped, nothing, substituted_from, value_of}
use Rattle.jcl_symbols.specs.Writing.{ended_with, without_period}

pub at_end : (symbols : List Symbol) (quoted : Bool) → substituted_from symbols quoted None [] ≡ nothing
unfolding substituted_from
at_end symbols quoted = refl

pub at_character : (symbols : List Symbol) (quoted : Bool) (c : ℕ) (cs : List ℕ) → begins_symbol quoted c ≡ false →
    substituted_from symbols quoted None (c ∷ cs) ≡ behind (c ∷ []) (substituted_from symbols (quoted_after quoted c) None cs)
unfolding substituted_from
at_character symbols quoted c cs is =
    ap (λ (b : Bool). cond b (substituted_from symbols false (Some []) cs) (behind (c ∷ []) (substituted_from symbols (quoted_after quoted c) None cs))) is

pub at_symbol : (symbols : List Symbol) (quoted : Bool) (c : ℕ) (cs : List ℕ) → begins_symbol quoted c ≡ true →
    substituted_from symbols quoted None (c ∷ cs) ≡ substituted_from symbols false (Some []) cs
unfolding substituted_from
at_symbol symbols quoted c cs is =
    ap (λ (b : Bool). cond b (substituted_from symbols false (Some []) cs) (behind (c ∷ []) (substituted_from symbols (quoted_after quoted c) None cs))) is

-- what follows a name that does not go on
abbrev pub after_name : List Symbol → List ℕ → List ℕ → Substituted
after_name symbols name [] = ended symbols name nothing
after_name symbols name (c ∷ cs) =
    cond (is_doubled name c) (behind (codes "&&") (substituted_from symbols false None cs))
    (ended symbols name (cond (is_dropped symbols name c) (substituted_from symbols false None cs) (substituted_from symbols false None (c ∷ cs))))

-- the longest run of so many name characters
abbrev pub run : ℕ → List ℕ → List ℕ
run most text = take_while is_name_character (take most text)

name_ends : (symbols : List Symbol) (quoted : Bool) (name : List ℕ) (c : ℕ) (cs : List ℕ) → goes_on name c ≡ false →
    substituted_from symbols quoted (Some name) (c ∷ cs) ≡ after_name symbols name (c ∷ cs)
unfolding substituted_from
name_ends symbols quoted name c cs is =
    ap (λ (b : Bool). cond b (substituted_from symbols false (Some (name ++ c ∷ [])) cs)
    (cond (is_doubled name c) (behind (codes "&&") (substituted_from symbols false None cs))
    (ended symbols name
    (cond (is_dropped symbols name c) (substituted_from symbols false None cs)
    (cond (c == 38) (substituted_from symbols false (Some []) cs) (behind (c ∷ []) (substituted_from symbols (quoted_after false c) None cs))))))) is

name_goes_on : (symbols : List Symbol) (quoted : Bool) (name : List ℕ) (c : ℕ) (cs : List ℕ) → goes_on name c ≡ true →
    substituted_from symbols quoted (Some name) (c ∷ cs) ≡ substituted_from symbols false (Some (name ++ c ∷ [])) cs
unfolding substituted_from
name_goes_on symbols quoted name c cs is =
    ap (λ (b : Bool). cond b (substituted_from symbols false (Some (name ++ c ∷ [])) cs)
    (cond (is_doubled name c) (behind (codes "&&") (substituted_from symbols false None cs))
    (ended symbols name
    (cond (is_dropped symbols name c) (substituted_from symbols false None cs)
    (cond (c == 38) (substituted_from symbols false (Some []) cs) (behind (c ∷ []) (substituted_from symbols (quoted_after false c) None cs))))))) is

name_at_end : (symbols : List Symbol) (quoted : Bool) (name : List ℕ) → substituted_from symbols quoted (Some name) [] ≡ after_name symbols name []
unfolding substituted_from
name_at_end symbols quoted name = refl

run_more : (most c : ℕ) (cs : List ℕ) (is : Bool) → is_name_character c ≡ is → run (suc most) (c ∷ cs) ≡ cond is (c ∷ run most cs) []
run_more most c cs is same = take_while-cons is_name_character c (take most cs) ∙ ap (λ (b : Bool). cond b (c ∷ run most cs) []) same

-- a run is what a text begins with
pub run_front : (most : ℕ) (text : List ℕ) → take (length (run most text)) text ≡ run most text
run_front zero [] = refl
run_front zero (c ∷ cs) = refl
run_front (suc most) [] = refl
run_front (suc most) (c ∷ cs) = either (is_name_character c) refl (run_front most cs)
  where
    either : (named : Bool) → is_name_character c ≡ named → take (length (run most cs)) cs ≡ run most cs →
        take (length (run (suc most) (c ∷ cs))) (c ∷ cs) ≡ run (suc most) (c ∷ cs)
    either true same later =
        ap (λ r. take (length r) (c ∷ cs)) (run_more most c cs true same) ∙ ap (λ r. c ∷ r) later ∙ sym (run_more most c cs true same)
    either false same later =
        ap (λ r. take (length r) (c ∷ cs)) (run_more most c cs false same) ∙ sym (run_more most c cs false same)

and_false : (a b : Bool) → b ≡ false → (a && b) ≡ false
and_false true b h = h
and_false false b h = refl

-- a name is read with all that goes on
pub name_read : (symbols : List Symbol) (quoted : Bool) (most : ℕ) (name text : List ℕ) → length name + most ≡ 7 →
    substituted_from symbols quoted (Some name) text ≡ after_name symbols (name ++ run most text) (drop (length (run most text)) text)
name_read symbols quoted zero name [] is = name_at_end symbols quoted name ∙ ap (λ n. ended symbols n nothing) (sym (append-nil name))
name_read symbols quoted (suc most) name [] is = name_at_end symbols quoted name ∙ ap (λ n. ended symbols n nothing) (sym (append-nil name))
name_read symbols quoted zero name (c ∷ cs) is =
    name_ends symbols quoted name c cs (and_false (is_name_character c) (nat_lt (length name) 7) (le-ltb (length name) 7 (omega arith)))
    ∙ ap (λ n. after_name symbols n (c ∷ cs)) (sym (append-nil name))
name_read symbols quoted (suc most) name (c ∷ cs) is = either (is_name_character c) refl (name_read symbols false most (name ++ c ∷ []) cs (omega (arith, length-append name (c ∷ []))))
  where
    either : (named : Bool) → is_name_character c ≡ named →
        substituted_from symbols false (Some (name ++ c ∷ [])) cs ≡ after_name symbols ((name ++ c ∷ []) ++ run most cs) (drop (length (run most cs)) cs) →
        substituted_from symbols quoted (Some name) (c ∷ cs) ≡ after_name symbols (name ++ run (suc most) (c ∷ cs)) (drop (length (run (suc most) (c ∷ cs))) (c ∷ cs))
    either true same later =
        let goes : goes_on name c ≡ true = ap (λ (b : Bool). b && nat_lt (length name) 7) same ∙ lt-ltb (length name) 7 (omega arith) in
        name_goes_on symbols quoted name c cs goes
        ∙ later
        ∙ ap (λ n. after_name symbols n (drop (length (run most cs)) cs)) (append_assoc name (c ∷ []) (run most cs))
        ∙ ap (λ r. after_name symbols (name ++ r) (drop (length r) (c ∷ cs))) (sym (run_more most c cs true same))
    either false same later =
        name_ends symbols quoted name c cs (ap (λ (b : Bool). b && nat_lt (length name) 7) same)
        ∙ ap (λ n. after_name symbols n (c ∷ cs)) (sym (append-nil name))
        ∙ ap (λ r. after_name symbols (name ++ r) (drop (length r) (c ∷ cs))) (sym (run_more most c cs false same))

-- two ampersands
pub at_doubled : (symbols : List Symbol) (cs : List ℕ) →
    substituted_from symbols false (Some []) (38 ∷ cs) ≡ behind (codes "&&") (substituted_from symbols false None cs)
unfolding substituted_from
at_doubled symbols cs = refl

ended_is : (symbols : List Symbol) (name : List ℕ) (s : Substituted) → ended symbols name s ≡ ended_with (value_of symbols name) name s
ended_is symbols [] s = refl
ended_is symbols (c ∷ cs) s = refl

is_single : (name : List ℕ) (c : ℕ) → (name ≡ [] → (c == 38) ≡ false) → is_doubled name c ≡ false
is_single [] c other = other refl
is_single (n ∷ name) c other =
    let some : length (n ∷ name) ≡ 0 → ⊥ = λ e. omega (arith, e) in
    ap (λ (b : Bool). b && c == 38) (ne_eqb (length (n ∷ name)) 0 some)

period_is : (symbols : List Symbol) (has_value : Bool) (c : ℕ) (cs : List ℕ) →
    cond (has_value && c == 46) (substituted_from symbols false None cs) (substituted_from symbols false None (c ∷ cs))
    ≡ substituted_from symbols false None (cond (has_value && c == 46) cs (c ∷ cs))
period_is symbols has_value c cs = either (has_value && c == 46)
  where
    either : (drops : Bool) → cond drops (substituted_from symbols false None cs) (substituted_from symbols false None (c ∷ cs)) ≡ substituted_from symbols false None (cond drops cs (c ∷ cs))
    either true = refl
    either false = refl

after_is : (symbols : List Symbol) (name rest : List ℕ) → ((c : ℕ) (cs : List ℕ) → rest ≡ c ∷ cs → name ≡ [] → (c == 38) ≡ false) →
    after_name symbols name rest ≡ ended_with (value_of symbols name) name (substituted_from symbols false None (without_period (is_some (value_of symbols name)) rest))
after_is symbols name [] other =
    ended_is symbols name nothing ∙ ap (ended_with (value_of symbols name) name) (sym (at_end symbols false))
after_is symbols name (c ∷ cs) other =
    ap (λ (b : Bool). cond b (behind (codes "&&") (substituted_from symbols false None cs))
    (ended symbols name (cond (is_dropped symbols name c) (substituted_from symbols false None cs) (substituted_from symbols false None (c ∷ cs)))))
    (is_single name c (other c cs refl))
    ∙ ap (ended symbols name) (period_is symbols (is_some (value_of symbols name)) c cs)
    ∙ ended_is symbols name (substituted_from symbols false None (without_period (is_some (value_of symbols name)) (c ∷ cs)))

no_ampersand : (c : ℕ) (cs : List ℕ) → starts_with nat_eq (c ∷ cs) (codes "&") ≡ false → (c == 38) ≡ false
no_ampersand c cs h = ne_eqb c 38 (λ e. either (38 == c) h (ap (λ n. 38 == n) e))
  where
    either : (b : Bool) → (b && true) ≡ false → b ≡ true → ⊥
    either true k e = cc
    either false k e = cc

whole_left : (name text : List ℕ) → name ≡ [] → drop (length name) text ≡ text
whole_left name text none = ap (λ n. drop (length n) text) none

-- an ampersand with another character behind it
pub symbol_is : (symbols : List Symbol) (text : List ℕ) → starts_with nat_eq text (codes "&") ≡ false →
    substituted_from symbols false (Some []) text
    ≡ ended_with (value_of symbols (run 7 text)) (run 7 text)
    (substituted_from symbols false None (without_period (is_some (value_of symbols (run 7 text))) (drop (length (run 7 text)) text)))
symbol_is symbols text other =
    name_read symbols false 7 [] text refl
    ∙ after_is symbols (run 7 text) (drop (length (run 7 text)) text)
    (λ c cs rest none. no_ampersand c cs (ap (λ xs. starts_with nat_eq xs (codes "&")) (sym rest ∙ whole_left (run 7 text) text none) ∙ other))

pub some_copied : {X : Type 0} (o : Option (Bor X)) → is_some o ≡ is_some (option_copied o)
some_copied None = refl
some_copied (Some x) = refl
