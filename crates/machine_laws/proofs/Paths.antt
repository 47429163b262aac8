-- Two faults, and two paths, are the same or not.
use Rattle.std.proofs.Common.{◌≡◌, ◌≢◌, ◌⊎◌, inl, inr, ℕ, zero, suc, List, [], ◌∷◌, refl, sym, ap, ◌∙◌}
use Rattle.std.proofs.lemmas.Bool.{cases_eq}
use Rattle.jcl_plan.specs.declared.fault.Fault.{Fault}
use Rattle.jcl_plan.specs.declared.fault.Fault.TheVariants as fault
use Rattle.jcl_plan.specs.declared.outcome.Abend.{Abend}
use Rattle.jcl_plan.specs.declared.outcome.Abend.TheVariants as abend
use Rattle.jcl_plan.specs.declared.outcome.Outcome.{Outcome}
use Rattle.jcl_plan.specs.declared.outcome.Outcome.TheVariants as outcome

-- values that have a key of their own are the same where their keys are
by_key : {X : Type 0} (key : X → ℕ) (of_key : ℕ → X) → ((x : X) → of_key (key x) ≡ x) → (x y : X) → (x ≡ y) ⊎ (x ≢ y)
by_key key of_key back x y =
    elim (cases_eq (key x) (key y)) [
      | inl is ↦ inl (sym (back x) ∙ ap of_key is ∙ back y)
      | inr isnt ↦ inr (λ e. isnt (ap key e))
    ]

abbrev fault_key : Fault → ℕ
fault_key fault.F1 = 0
fault_key fault.F2 = 1
fault_key fault.F3 = 2
fault_key fault.F4 = 3
fault_key fault.F5 = 4
fault_key fault.F6 = 5
fault_key fault.F7 = 6
fault_key fault.F8 = 7
fault_key fault.F9 = 8
fault_key fault.F10 = 9

abbrev fault_of : ℕ → Fault
fault_of zero = fault.F1
fault_of (suc zero) = fault.F2
fault_of (suc (suc zero)) = fault.F3
fault_of (suc (suc (suc zero))) = fault.F4
fault_of (suc (suc (suc (suc zero)))) = fault.F5
fault_of (suc (suc (suc (suc (suc zero))))) = fault.F6
fault_of (suc (suc (suc (suc (suc (suc zero)))))) = fault.F7
fault_of (suc (suc (suc (suc (suc (suc (suc zero))))))) = fault.F8
fault_of (suc (suc (suc (suc (suc (suc (suc (suc zero)))))))) = fault.F9
fault_of other = fault.F10

fault_back : (f : Fault) → fault_of (fault_key f) ≡ f
fault_back fault.F1 = refl
fault_back fault.F2 = refl
fault_back fault.F3 = refl
fault_back fault.F4 = refl
fault_back fault.F5 = refl
fault_back fault.F6 = refl
fault_back fault.F7 = refl
fault_back fault.F8 = refl
fault_back fault.F9 = refl
fault_back fault.F10 = refl

pub same_fault : (f g : Fault) → (f ≡ g) ⊎ (f ≢ g)
same_fault = by_key fault_key fault_of fault_back

-- an ABEND of the program has its code behind the six of the system
abbrev abend_key : Abend → ℕ
abend_key abend.S222 = 0
abend_key abend.S806 = 1
abend_key abend.SB37 = 2
abend_key abend.SD37 = 3
abend_key abend.SFF0 = 4
abend_key abend.SFF1 = 5
abend_key (abend.User code) = suc (suc (suc (suc (suc (suc code)))))

abbrev abend_of : ℕ → Abend
abend_of zero = abend.S222
abend_of (suc zero) = abend.S806
abend_of (suc (suc zero)) = abend.SB37
abend_of (suc (suc (suc zero))) = abend.SD37
abend_of (suc (suc (suc (suc zero)))) = abend.SFF0
abend_of (suc (suc (suc (suc (suc zero))))) = abend.SFF1
abend_of (suc (suc (suc (suc (suc (suc code)))))) = abend.User code

abend_back : (a : Abend) → abend_of (abend_key a) ≡ a
abend_back abend.S222 = refl
abend_back abend.S806 = refl
abend_back abend.SB37 = refl
abend_back abend.SD37 = refl
abend_back abend.SFF0 = refl
abend_back abend.SFF1 = refl
abend_back (abend.User code) = refl

same_abend : (a b : Abend) → (a ≡ b) ⊎ (a ≢ b)
same_abend = by_key abend_key abend_of abend_back

abbrev code_in : Outcome → ℕ
code_in (outcome.Code c) = c
code_in other = 0

abbrev abend_in : Outcome → Abend
abend_in (outcome.Abend a) = a
abend_in other = abend.S222

same_outcome : (o p : Outcome) → (o ≡ p) ⊎ (o ≢ p)
same_outcome (outcome.Code c) (outcome.Code d) =
    elim (cases_eq c d) [ inl is ↦ inl (ap outcome.Code is) | inr isnt ↦ inr (λ e. isnt (ap code_in e)) ]
same_outcome (outcome.Abend a) (outcome.Abend b) =
    elim (same_abend a b) [ inl is ↦ inl (ap outcome.Abend is) | inr isnt ↦ inr (λ e. isnt (ap abend_in e)) ]
same_outcome outcome.Bypassed outcome.Bypassed = inl refl
same_outcome outcome.Flushed outcome.Flushed = inl refl
same_outcome (outcome.Code c) (outcome.Abend b) = inr (λ e. cc)
same_outcome (outcome.Code c) outcome.Bypassed = inr (λ e. cc)
same_outcome (outcome.Code c) outcome.Flushed = inr (λ e. cc)
same_outcome (outcome.Abend a) (outcome.Code d) = inr (λ e. cc)
same_outcome (outcome.Abend a) outcome.Bypassed = inr (λ e. cc)
same_outcome (outcome.Abend a) outcome.Flushed = inr (λ e. cc)
same_outcome outcome.Bypassed (outcome.Code d) = inr (λ e. cc)
same_outcome outcome.Bypassed (outcome.Abend b) = inr (λ e. cc)
same_outcome outcome.Bypassed outcome.Flushed = inr (λ e. cc)
same_outcome outcome.Flushed (outcome.Code d) = inr (λ e. cc)
same_outcome outcome.Flushed (outcome.Abend b) = inr (λ e. cc)
same_outcome outcome.Flushed outcome.Bypassed = inr (λ e. cc)

pub same_path : (ps qs : List Outcome) → (ps ≡ qs) ⊎ (ps ≢ qs)
same_path [] [] = inl refl
same_path [] (q ∷ qs) = inr (λ e. cc)
same_path (p ∷ ps) [] = inr (λ e. cc)
same_path (p ∷ ps) (q ∷ qs) =
    elim (same_outcome p q) [
      | inl is ↦ elim (same_path ps qs) [
        | inl rest ↦ inl (λ i. is i ∷ rest i)
        | inr isnt ↦ inr (λ e. let so : ps ≡ qs = cc in isnt so)
      ]
      | inr isnt ↦ inr (λ e. let so : p ≡ q = cc in isnt so)
    ]
