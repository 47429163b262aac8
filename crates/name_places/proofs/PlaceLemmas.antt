-- Places lie within the list, and stay as they are with one more name behind the others.
use Rattle.std.proofs.Common.{◌≡◌, ◌<◌, ℕ, zero, suc, Bool, true, false, cond, List, [], ◌∷◌, ◌++◌, length, Option, Some, None, refl, ap, ◌∙◌, subst, arith}
use Rattle.std.specs.BTreeMap.{BTreeMap, Updates}
use Rattle.std.specs.Cmp.Lexicographic.{slice_cmp}
use Rattle.std.specs.Option.{option_map}
use Rattle.std.specs.Ordering.{nat_cmp, is_eq}
use Rattle.std.specs.Str.{bytes_eq}
use Rattle.std.proofs.lemmas.Map.Text.{is_eq-slice_cmp}
use Rattle.std.proofs.lemmas.Slice.Eq.{bytes_eq-Decides}
use Rattle.name_places.specs.Places.{ArePlacesOf, place_of}

within : (len : ℕ) (here : Bool) (place : Option ℕ) (n : ℕ) → ((m : ℕ) → place ≡ Some m → m < len) →
    cond here (Some zero) (option_map suc place) ≡ Some n → n < suc len
within len true place n before is = let e : zero ≡ n = cc in omega (arith, e)
within len false None n before is = absurd (cc)
within len false (Some m) n before is = let e : suc m ≡ n = cc in omega (arith, e, before m refl)

pub place_within : (names : List (List ℕ)) (name : List ℕ) (n : ℕ) → place_of names name ≡ Some n → n < length names
place_within [] name n is = absurd (cc)
place_within (first ∷ names) name n is = within (length names) (bytes_eq first name) (place_of names name) n (place_within names name) is

none_here : (here : Bool) (place : Option ℕ) → cond here (Some zero) (option_map suc place) ≡ None → (here ≡ false) × (place ≡ None)
none_here true place none = absurd (cc)
none_here false None none = (refl, refl)
none_here false (Some n) none = absurd (cc)

-- the name at the end is found where no earlier one is equal
last_found : (own here : Bool) (n : ℕ) (place more : Option ℕ) → (own ≡ true → here ≡ false) → cond own (Some n) place ≡ more →
    cond own (Some (suc n)) (cond here (Some zero) (option_map suc place)) ≡ cond here (Some zero) (option_map suc more)
last_found true true n place more apart is = absurd (let h = apart refl in cc)
last_found true false n place more apart is = ap (option_map suc) is
last_found false true n place more apart is = refl
last_found false false n place more apart is = ap (option_map suc) is

place_more : (names : List (List ℕ)) (name q : List ℕ) → place_of names name ≡ None →
    cond (bytes_eq name q) (Some (length names)) (place_of names q) ≡ place_of (names ++ name ∷ []) q
place_more [] name q none = refl
place_more (first ∷ names) name q none =
    let both = none_here (bytes_eq first name) (place_of names name) none in
    let P : List ℕ → Type 0 = λ x. bytes_eq first x ≡ false in
    last_found (bytes_eq name q) (bytes_eq first q) (length names) (place_of names q) (place_of (names ++ name ∷ []) q)
    (λ same. subst P ((bytes_eq-Decides name q).0 same) both.0) (place_more names name q both.1)

pub places_more : (places new : BTreeMap (List ℕ) ℕ) (names : List (List ℕ)) (name : List ℕ) → ArePlacesOf places names →
    place_of names name ≡ None → Updates (slice_cmp nat_cmp) places new name (Some (length names)) → ArePlacesOf new (names ++ name ∷ [])
places_more places new names name are none updates = λ q.
    let last : Option ℕ = Some (length names) in
    updates.0 q ∙ ap (cond (is_eq (slice_cmp nat_cmp name q)) last) (are q)
    ∙ ap (λ same. cond same last (place_of names q)) (is_eq-slice_cmp name q)
    ∙ place_more names name q none
