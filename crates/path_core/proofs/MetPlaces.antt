-- A fault is met at a place where the action there meets it.
use Rattle.std.proofs.Common.{◌≡◌, ⊎_elim, ℕ, zero, suc, List, [], ◌∷◌, Option, Some, None, length, map, refl, sym, ap, ◌∙◌, subst, arith}
use Rattle.std.specs.Prelude.{slice_get}
use Rattle.std.specs.List.{Contains}
use Rattle.std.proofs.lemmas.Option.{get_or_from_slice_get}
use Rattle.jcl_plan.specs.declared.fault.Fault.{Fault}
use Rattle.jcl_meaning.specs.Acts.{act}
use Rattle.jcl_meaning.specs.Agendas.{Action}
use Rattle.jcl_meaning.specs.Solo.{Met, later, met_first, run}
use Rattle.jcl_meaning.specs.States.{Fixed, State}
use Rattle.solo_core.specs.Meets.{faults_of, meets_in}
use Rattle.solo_core.proofs.Runs.{run_faults}
use Rattle.path_core.proofs.Members.{contains_cons, contains_map, cons_cases, image_of}

abbrev met_with : ℕ → Fault → Met
met_with place fault = record { place = place; fault = fault }

behind_first : (m : Option Fault) (more : List Met) (x : Met) → Contains more x → Contains (met_first m more) x
behind_first None more x h = h
behind_first (Some f) more x h = contains_cons (met_with 0 f) more x h

met_there : (ms : List (Option Fault)) (place : ℕ) (fault : Fault) → slice_get ms place ≡ Some (Some fault) → Contains (faults_of ms) (met_with place fault)
met_there [] place fault e = absurd cc
met_there (m ∷ ms) zero fault e =
    let same : m ≡ Some fault = cc in
    subst (λ (x : Option Fault). Contains (met_first x (map later (faults_of ms))) (met_with 0 fault)) (sym same) (0, omega arith, refl)
met_there (m ∷ ms) (suc n) fault e =
    behind_first m (map later (faults_of ms)) (met_with (suc n) fault) (contains_map later (faults_of ms) (met_with n fault) (met_there ms n fault e))

-- one that comes later is met by a later action
met_later : (ms : List (Option Fault)) (m : Option Fault) (place : ℕ) (fault : Fault) →
    ((n : ℕ) → Contains (faults_of ms) (met_with n fault) → slice_get ms n ≡ Some (Some fault)) →
    Contains (map later (faults_of ms)) (met_with place fault) → slice_get (m ∷ ms) place ≡ Some (Some fault)
met_later ms m place fault earlier h =
    let image = image_of later (faults_of ms) (met_with place fault) h in
    let at : suc image.from.place ≡ place = ap (λ (x : Met). x.place) image.is in
    let same : image.from.fault ≡ fault = ap (λ (x : Met). x.fault) image.is in
    let there : Contains (faults_of ms) image.from =
    (image.number, image.less, get_or_from_slice_get (faults_of ms) image.number image.from image.from image.there) in
    let its : Contains (faults_of ms) (met_with image.from.place fault) =
    subst (λ (f : Fault). Contains (faults_of ms) (met_with image.from.place f)) same there in
    ap (slice_get (m ∷ ms)) (sym at) ∙ earlier image.from.place its

met_by_first : (ms : List (Option Fault)) (m : Option Fault) (place : ℕ) (fault : Fault) →
    ((n : ℕ) → Contains (faults_of ms) (met_with n fault) → slice_get ms n ≡ Some (Some fault)) →
    Contains (met_first m (map later (faults_of ms))) (met_with place fault) → slice_get (m ∷ ms) place ≡ Some (Some fault)
met_by_first ms None place fault earlier h = met_later ms None place fault earlier h
met_by_first ms (Some f) place fault earlier h = ⊎_elim
    (λ (e : met_with 0 f ≡ met_with place fault).
    ap (slice_get (Some f ∷ ms)) (sym (ap (λ (x : Met). x.place) e)) ∙ ap (λ (x : Met). Some (Some x.fault)) e)
    (met_later ms (Some f) place fault earlier)
    (cons_cases (met_with 0 f) (map later (faults_of ms)) (met_with place fault) h)

there_met : (ms : List (Option Fault)) (place : ℕ) (fault : Fault) → Contains (faults_of ms) (met_with place fault) → slice_get ms place ≡ Some (Some fault)
there_met [] place fault (k, l, e) = absurd (omega arith)
there_met (m ∷ ms) place fault h = met_by_first ms m place fault (λ n. there_met ms n fault) h

pub meets_size : (fixed : Fixed) (actions : List Action) (s : State) → length (meets_in fixed actions s) ≡ length actions
meets_size fixed [] s = refl
meets_size fixed (a ∷ actions) s = ap suc (meets_size fixed actions (act fixed a s).state)

pub meets_from : (fixed : Fixed) (actions : List Action) (s : State) (place : ℕ) (fault : Fault) →
    Contains (run fixed actions s).faults (record { place = place; fault = fault }) → slice_get (meets_in fixed actions s) place ≡ Some (Some fault)
meets_from fixed actions s place fault h =
    there_met (meets_in fixed actions s) place fault (subst (λ (ms : List Met). Contains ms (met_with place fault)) (run_faults fixed actions s) h)

pub met_from : (fixed : Fixed) (actions : List Action) (s : State) (place : ℕ) (fault : Fault) →
    slice_get (meets_in fixed actions s) place ≡ Some (Some fault) → Contains (run fixed actions s).faults (record { place = place; fault = fault })
met_from fixed actions s place fault e =
    subst (λ (ms : List Met). Contains ms (met_with place fault)) (sym (run_faults fixed actions s)) (met_there (meets_in fixed actions s) place fault e)
