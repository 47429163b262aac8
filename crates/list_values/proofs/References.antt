-- the references of DCB, place by place
use Rattle.std.proofs.Common.{◌≡◌, Bool, true, false, cond, ℕ, List, [], ◌∷◌, ◌++◌, filter, map, Option, Some, None, Result, Ok, Err, refl, sym, ap, ◌∙◌, append_assoc}
use Rattle.std.specs.List.{flat_map}
use Rattle.std.proofs.lemmas.List.{append-nil}
use Rattle.jcl_plan.specs.declared.fault.Cause.{Cause}
use Rattle.operand_core.specs.Faults.{earlier, or_fault, told}
use Rattle.operand_core.proofs.Told.{earlier_assoc, told_append}
use Rattle.value_core.specs.declared.reference.DdReference.{DdReference}
use Rattle.value_core.specs.Reads.{IsRead, Read}
use Rattle.value_core.specs.References.{dd_reference, is_reference}
use Rattle.list_values.proofs.Told.{earlier-some, err_told, ok_told}

abbrev pub read_of : List (List ℕ) → List (Read DdReference)
read_of places = map dd_reference (filter is_reference places)

abbrev pub faults_of : List (List ℕ) → List Cause
faults_of places = flat_map (λ (r : Read DdReference). r.faults) (read_of places)

abbrev pub values_of : List (List ℕ) → List DdReference
values_of places = map (λ (r : Read DdReference). r.value) (read_of places)

-- what was read, with what is left, is all
pub record Continues (references : List DdReference) (fault : Option Cause) (left all : List (List ℕ)) : Type 0 where
  pub faults : earlier fault (told (faults_of left)) ≡ told (faults_of all)
  pub values : fault ≡ None → references ++ values_of left ≡ values_of all

read_more : (place : List ℕ) (left : List (List ℕ)) → is_reference place ≡ true → read_of (place ∷ left) ≡ dd_reference place ∷ read_of left
read_more place left is = ap (λ (b : Bool). map dd_reference (cond b (place ∷ filter is_reference left) (filter is_reference left))) is

-- a place that is no reference
pub passes : (references : List DdReference) (fault : Option Cause) (place : List ℕ) (left all : List (List ℕ)) → is_reference place ≡ false →
    Continues references fault (place ∷ left) all → Continues references fault left all
passes references fault place left all is c =
    let same : read_of (place ∷ left) ≡ read_of left = ap (λ (b : Bool). map dd_reference (cond b (place ∷ filter is_reference left) (filter is_reference left))) is in
    record {
      faults = ap (λ rs. earlier fault (told (flat_map (λ (r : Read DdReference). r.faults) rs))) (sym same) ∙ c.faults;
      values = λ none. ap (λ rs. references ++ map (λ (r : Read DdReference). r.value) rs) (sym same) ∙ c.values none;
    }

faults_more : (place : List ℕ) (left : List (List ℕ)) → is_reference place ≡ true → told (faults_of (place ∷ left)) ≡ earlier (told (dd_reference place).faults) (told (faults_of left))
faults_more place left is =
    ap (λ rs. told (flat_map (λ (r : Read DdReference). r.faults) rs)) (read_more place left is) ∙ told_append (dd_reference place).faults (faults_of left)

-- a reference that is read
pub reads : (references more : List DdReference) (fault : Option Cause) (place : List ℕ) (dd : DdReference) (left all : List (List ℕ)) → is_reference place ≡ true →
    IsRead (Ok dd) (dd_reference place) → more ≡ references ++ dd ∷ [] → Continues references fault (place ∷ left) all → Continues more fault left all
reads references more fault place dd left all is read added c =
    let ok = ok_told (told (dd_reference place).faults) (dd_reference place).value dd read in
    record {
      faults =
          ap (λ f. earlier fault (earlier f (told (faults_of left)))) (sym ok.0)
          ∙ ap (earlier fault) (sym (faults_more place left is))
          ∙ c.faults;
      values = λ none.
          ap (λ xs. xs ++ values_of left) added
          ∙ append_assoc references (dd ∷ []) (values_of left)
          ∙ ap (λ d. references ++ d ∷ values_of left) ok.1
          ∙ ap (λ rs. references ++ map (λ (r : Read DdReference). r.value) rs) (sym (read_more place left is))
          ∙ c.values none;
    }

-- one that is not
pub refuses : (references : List DdReference) (fault new : Option Cause) (place : List ℕ) (other : Cause) (left all : List (List ℕ)) → is_reference place ≡ true →
    IsRead (Err other) (dd_reference place) → new ≡ earlier fault (Some other) → Continues references fault (place ∷ left) all → Continues references new left all
refuses references fault new place other left all is read told_now c =
    let err = err_told (told (dd_reference place).faults) (dd_reference place).value other read in
    record {
      faults =
          ap (λ f. earlier f (told (faults_of left))) told_now
          ∙ earlier_assoc fault (Some other) (told (faults_of left))
          ∙ ap (λ f. earlier fault (earlier f (told (faults_of left)))) (sym err)
          ∙ ap (earlier fault) (sym (faults_more place left is))
          ∙ c.faults;
      values = λ none. absurd (earlier-some fault other (sym told_now ∙ none));
    }

-- where nothing is left
pub ends : (references : List DdReference) (fault : Option Cause) (all : List (List ℕ)) → Continues references fault [] all →
    or_fault fault references ≡ or_fault (told (faults_of all)) (values_of all)
ends references None all c =
    ap (λ xs. let r : Result (List DdReference) Cause = Ok xs in r) (sym (append-nil references) ∙ c.values refl)
    ∙ ap (λ f. or_fault f (values_of all)) c.faults
ends references (Some fault) all c = ap (λ f. or_fault f (values_of all)) c.faults
