-- what is asked for in SPACE, place by place
use Rattle.std.proofs.Common.{◌≡◌, ℕ, ◌+◌, ◌-◌, ◌^◌, ◌==◌, ◌<◌, ◌≤◌, Bool, true, false, cond, not, ◌&&◌, ◌||◌, nat_lt, min, List, [], ◌∷◌, ◌++◌, length, Option, Some, None, is_some, Result, Bor, MatchOption, ◌⊎◌, inl, inr, lt-ltb, ne_eqb, refl, sym, ap, ◌∙◌, subst, arith}
use Rattle.std.specs.Option.{option_copied, option_to_list}
use Rattle.std.specs.Str.{bytes_eq}
use Rattle.std.specs.Prelude.{codes}
use Rattle.std.proofs.lemmas.Bool.{cases_lt}
use Rattle.jcl_plan.specs.declared.fault.Cause.{Cause}
use Rattle.jcl_plan.specs.declared.fault.Cause.TheVariants.{P}
use Rattle.jcl_plan.specs.declared.fault.StatementFault.TheVariants.{BadValue, LeftOut}
use Rattle.jname_core.specs.Decimals.{decimal_value}
use Rattle.operand_core.specs.Faults.{when}
use Rattle.value_core.specs.Reads.{IsRead}
use Rattle.value_core.specs.Spaces.{further_faults, further_place_faults, is_left_out, is_quantity, pair, quantities, quantity_in, tracks_of}

pair_cases : (a b : Bool) (t v : ℕ) (r : Result (ℕ × ℕ) Cause) → IsRead r (pair (cond a (Some t) None) (cond b (Some v) None)) →
    IsRead r (record { value = (cond a t 0, cond b v 0); faults = when (not a || not b) (P BadValue) })
pair_cases true true t v r h = h
pair_cases true false t v r h = h
pair_cases false true t v r h = h
pair_cases false false t v r h = h

pub two_quantities : (name : List ℕ) (places : List (List ℕ)) (p s : List ℕ) (primary secondary : Option ℕ) (r : Result (ℕ × ℕ) Cause) →
    places ≡ p ∷ (s ∷ []) → primary ≡ quantity_in name p → secondary ≡ quantity_in name s → IsRead r (pair primary secondary) → IsRead r (quantities name places)
two_quantities name places p s primary secondary r is p_is s_is h =
    let first : IsRead r (pair (quantity_in name p) secondary) = subst (λ (o : Option ℕ). IsRead r (pair o secondary)) p_is h in
    let second : IsRead r (pair (quantity_in name p) (quantity_in name s)) = subst (λ (o : Option ℕ). IsRead r (pair (quantity_in name p) o)) s_is first in
    subst (λ (xs : List (List ℕ)). IsRead r (quantities name xs)) (sym is)
    (pair_cases (is_quantity name p) (is_quantity name s) (tracks_of name (decimal_value p)) (tracks_of name (decimal_value s)) r second)

-- past the fifth place all are alike
place_far : (k j : ℕ) (text : List ℕ) (is_last : Bool) → 4 < k → 4 < j → further_place_faults k text is_last ≡ further_place_faults j text is_last
place_far k j text is_last kf jf =
    let no_third : (k == 2) ≡ (j == 2) = ne_eqb k 2 (λ e. omega arith) ∙ sym (ne_eqb j 2 (λ e. omega arith)) in
    let both_past : nat_lt 4 k ≡ nat_lt 4 j = lt-ltb 4 k kf ∙ sym (lt-ltb 4 j jf) in
    ap (λ (third : Bool). cond (is_left_out text) (P LeftOut ∷ []) (when (not (third && bytes_eq text (codes "RLSE")) && (not (length text == 0) || is_last || nat_lt 4 k)) (P BadValue))) no_third
    ∙ ap (λ (past : Bool). cond (is_left_out text) (P LeftOut ∷ []) (when (not (j == 2 && bytes_eq text (codes "RLSE")) && (not (length text == 0) || is_last || past)) (P BadValue))) both_past

far : (places : List (List ℕ)) (k j : ℕ) → 4 < k → 4 < j → further_faults k places ≡ further_faults j places
far [] k j kf jf = refl
far (text ∷ places) k j kf jf =
    ap (λ faults. faults ++ further_faults (k + 1) places) (place_far k j text (length places == 0) kf jf)
    ∙ ap (λ faults. further_place_faults j text (length places == 0) ++ faults) (far places (k + 1) (j + 1) (omega arith) (omega arith))

pub next_at : (places : List (List ℕ)) (k next : ℕ) → next ≡ min (k + 1) (2 ^ 64 - 1) → further_faults next places ≡ further_faults (k + 1) places
next_at places k next is = cases (cases_lt (2 ^ 64 - 1) (k + 1))
  where
    cases : (2 ^ 64 - 1 < k + 1) ⊎ (k + 1 ≤ 2 ^ 64 - 1) → further_faults next places ≡ further_faults (k + 1) places
    cases (inl over) = far places next (k + 1) (omega arith) (omega arith)
    cases (inr within) = let same : next ≡ k + 1 = omega arith in ap (λ n. further_faults n places) same

-- a place and those behind it
abbrev pub left_of : Option (Bor (List ℕ)) → List (List ℕ) → List (List ℕ)
left_of next places = option_to_list (option_copied next) ++ places

pub left_is : (next : Option (Bor (List ℕ))) (old new : List (List ℕ)) → MatchOption next ((old ≡ []) × (new ≡ [])) (λ p. old ≡ p.now ∷ new) →
    left_of next new ≡ old
left_is None old new h = h.1 ∙ sym h.0
left_is (Some p) old new h = sym h

pub last_is : (next : Option (Bor (List ℕ))) (old new : List (List ℕ)) → MatchOption next ((old ≡ []) × (new ≡ [])) (λ p. old ≡ p.now ∷ new) →
    not (is_some next) ≡ (length old == 0)
last_is None old new h = ap (λ xs. length xs == 0) (sym h.0)
last_is (Some p) old new h = sym (ne_eqb (length old) 0 (λ e. omega (arith, ap length h)))

pub none_left : (next : Option (Bor (List ℕ))) (old new : List (List ℕ)) → MatchOption next ((old ≡ []) × (new ≡ [])) (λ p. old ≡ p.now ∷ new) →
    next ≡ None → new ≡ []
none_left None old new h none = h.1
none_left (Some p) old new h none = absurd (cc)

pub other_of : (a b : Bool) → b ≡ not a → a ≡ not b
other_of true b h = sym (ap not h)
other_of false b h = sym (ap not h)
