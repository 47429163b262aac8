-- The faults that actions met, one action more.
use Rattle.std.proofs.Common.{◌≡◌, ◌+◌, ◌<◌, ◌++◌, ◌∷◌, ℕ, suc, List, [], Option, Some, None, length, map, take, get_or, refl, sym, ap, ◌∙◌}
use Rattle.std.proofs.lemmas.List.{append-nil, map-append, take_more}
use Rattle.jcl_plan.specs.declared.fault.Fault.{Fault}
use Rattle.jcl_meaning.specs.Solo.{Met, later, met_first}
use Rattle.solo_core.specs.declared.path.MetFault.{MetFault}
use Rattle.solo_core.specs.Meets.{faults_of, met_of}
use Rattle.solo_core.proofs.Runs.{front_length}

-- what the action at a place meets
abbrev pub met_at : ℕ → Option Fault → List Met
met_at n None = []
met_at n (Some fault) = record { place = n; fault = fault } ∷ []

met_first-append : (m : Option Fault) (xs ys : List Met) → met_first m (xs ++ ys) ≡ met_first m xs ++ ys
met_first-append None xs ys = refl
met_first-append (Some f) xs ys = refl

met_first-nil : (m : Option Fault) → met_first m [] ≡ met_at 0 m
met_first-nil None = refl
met_first-nil (Some f) = refl

later_met : (n : ℕ) (m : Option Fault) → map later (met_at n m) ≡ met_at (suc n) m
later_met n None = refl
later_met n (Some f) = refl

faults_of-snoc : (xs : List (Option Fault)) (m : Option Fault) → faults_of (xs ++ m ∷ []) ≡ faults_of xs ++ met_at (length xs) m
faults_of-snoc [] m = met_first-nil m
faults_of-snoc (x ∷ xs) m =
    ap (λ l. met_first x (map later l)) (faults_of-snoc xs m)
    ∙ ap (met_first x) (map-append later (faults_of xs) (met_at (length xs) m) ∙ ap (λ l. map later (faults_of xs) ++ l) (later_met (length xs) m))
    ∙ met_first-append x (map later (faults_of xs)) (met_at (suc (length xs)) m)

-- the faults among a front, one action longer
pub faults_more : (meets : List (Option Fault)) (i : ℕ) (m : Option Fault) (faults more : List MetFault) → i < length meets → m ≡ get_or meets i None →
    map met_of faults ≡ faults_of (take i meets) → map met_of more ≡ map met_of faults ++ met_at i m → map met_of more ≡ faults_of (take (i + 1) meets)
faults_more meets i m faults more h is known e =
    e ∙ (λ j. known j ++ met_at (sym (front_length meets i h) j) m) ∙ sym (faults_of-snoc (take i meets) m) ∙ ap faults_of (sym (take_more meets i None h ∙ ap (λ x. take i meets ++ x ∷ []) (sym is)))

-- a fault more
pub fault_more : (faults : List MetFault) (i : ℕ) (f : Fault) →
    map met_of (faults ++ record { place = i; fault = f } ∷ []) ≡ map met_of faults ++ met_at i (Some f)
fault_more faults i f = map-append met_of faults (record { place = i; fault = f } ∷ [])

-- and none
pub none_more : (faults : List MetFault) (i : ℕ) → map met_of faults ≡ map met_of faults ++ met_at i None
none_more faults i = sym (append-nil (map met_of faults))
