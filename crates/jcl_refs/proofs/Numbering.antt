-- Names of units by their places: a number is one more than a place.
use Rattle.std.proofs.Common.{◌≡◌, ℕ, ◌+◌, zero, suc, Bool, true, false, cond, List, [], ◌∷◌, Option, Some, None, Decides, refl, sym, ap, ◌∙◌, arith}
use Rattle.std.specs.List.{position_from}
use Rattle.std.specs.Option.{option_map}
use Rattle.std.specs.Str.{bytes_eq}
use Rattle.std.proofs.lemmas.Bool.Decides.{same_from_decides}
use Rattle.std.proofs.lemmas.Iterator.Adapters.{position_from-zero}
use Rattle.std.proofs.lemmas.Slice.Eq.{bytes_eq-Decides}
use Rattle.name_places.specs.Places.{place_of}
use Rattle.jcl_refs.specs.Plans.{unit_number}

-- places count from 1
abbrev pub from_one : Option ℕ → Option ℕ
from_one None = None
from_one (Some n) = Some (n + 1)

same_either_way : (a b : List ℕ) → bytes_eq a b ≡ bytes_eq b a
same_either_way a b =
    let there : Decides (bytes_eq a b) (a ≡ b) = bytes_eq-Decides a b in
    let back : Decides (bytes_eq b a) (b ≡ a) = bytes_eq-Decides b a in
    let turned : Decides (bytes_eq b a) (a ≡ b) = (λ e. sym (back.0 e), λ e. back.1 (sym e)) in
    same_from_decides (bytes_eq a b) (bytes_eq b a) there turned

further : (i : ℕ) (here : Bool) (place : Option ℕ) →
    cond here (Some i) (option_map (λ n. i + 1 + n) place) ≡ option_map (λ n. i + n) (cond here (Some zero) (option_map suc place))
further i true place = ap (λ n. let o : Option ℕ = Some n in o) (let e : i ≡ i + 0 = omega arith in e)
further i false None = refl
further i false (Some n) = ap (λ n. let o : Option ℕ = Some n in o) (let e : i + 1 + n ≡ i + suc n = omega arith in e)

position_from_is : (i : ℕ) (names : List (List ℕ)) (name : List ℕ) → position_from (bytes_eq name) i names ≡ option_map (λ n. i + n) (place_of names name)
position_from_is i [] name = refl
position_from_is i (first ∷ names) name =
    ap (λ here. cond here (Some i) (position_from (bytes_eq name) (i + 1) names)) (same_either_way name first)
    ∙ ap (cond (bytes_eq first name) (Some i)) (position_from_is (i + 1) names name)
    ∙ further i (bytes_eq first name) (place_of names name)

counted : (place : Option ℕ) → from_one place ≡ from_one (option_map (λ n. 0 + n) place)
counted None = refl
counted (Some n) = ap (λ n. let o : Option ℕ = Some (n + 1) in o) (let e : n ≡ 0 + n = omega arith in e)

-- the number of a name, by its place
pub number_is : (names : List (List ℕ)) (name : List ℕ) → from_one (place_of names name) ≡ unit_number names name
number_is names name =
    counted (place_of names name) ∙ ap from_one (sym (position_from-zero (bytes_eq name) names ∙ position_from_is 0 names name))

not_there : (place : Option ℕ) → from_one place ≡ None → place ≡ None
not_there None none = refl
not_there (Some n) none = cc

-- a name without a number has no place
pub no_place : (names : List (List ℕ)) (name : List ℕ) → unit_number names name ≡ None → place_of names name ≡ None
no_place names name none = not_there (place_of names name) (number_is names name ∙ none)
