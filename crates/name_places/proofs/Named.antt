-- The first item of a name in a list, by the place of its name among those of the items.
use Rattle.std.proofs.Common.{◌≡◌, ℕ, zero, suc, Bool, true, false, cond, if◌then◌else◌, List, [], ◌∷◌, ◌++◌, length, map, Option, Some, None, is_some, slice_get}
use Rattle.std.proofs.Common.{Bor, refl, sym, ap, ◌∙◌}
use Rattle.std.specs.Option.{option_map}
use Rattle.std.specs.Slice.{IsItemAt}
use Rattle.std.specs.Str.{bytes_eq}
use Rattle.std.proofs.lemmas.List.{map-append}
use Rattle.std.proofs.lemmas.Option.{slice_get_past, slice_get_read}
use Rattle.name_places.specs.Places.{place_of}

-- what is told of the first item of a name
abbrev pub first_named : {A B : Type 0} → (A → List ℕ) → (A → B) → List A → List ℕ → Option B
first_named name_of told [] name = None
first_named name_of told (x ∷ xs) name = if bytes_eq (name_of x) name then Some (told x) else first_named name_of told xs name

-- what is told of the item at a place
abbrev pub told_at : {A B : Type 0} → (A → B) → List A → Option ℕ → Option B
told_at told xs None = None
told_at told xs (Some n) = option_map told (slice_get xs n)

behind_at : {A B : Type 0} (told : A → B) (x : A) (xs : List A) (place : Option ℕ) → told_at told xs place ≡ told_at told (x ∷ xs) (option_map suc place)
behind_at told x xs None = refl
behind_at told x xs (Some n) = refl

first_at : {A B : Type 0} (told : A → B) (x : A) (xs : List A) (here : Bool) (place : Option ℕ) (found : Option B) →
    found ≡ told_at told xs place → cond here (Some (told x)) found ≡ told_at told (x ∷ xs) (cond here (Some zero) (option_map suc place))
first_at told x xs true place found is = refl
first_at told x xs false place found is = is ∙ behind_at told x xs place

found_at : {A B : Type 0} (name_of : A → List ℕ) (told : A → B) (xs : List A) (name : List ℕ) →
    first_named name_of told xs name ≡ told_at told xs (place_of (map name_of xs) name)
found_at name_of told [] name = refl
found_at name_of told (x ∷ xs) name =
    first_at told x xs (bytes_eq (name_of x) name) (place_of (map name_of xs) name) (first_named name_of told xs name) (found_at name_of told xs name)

-- what `get` gives
got : {A B : Type 0} (told : A → B) (xs : List A) (n : ℕ) (r : Option (Bor A)) → IsItemAt xs n r →
    option_map (λ x. told x.now) r ≡ option_map told (slice_get xs n)
got told xs n None is = ap (option_map told) (sym (slice_get_past xs n is.3))
got told xs n (Some x) is = ap (option_map told) (sym (slice_get_read xs (length xs) n x.now refl is.3.0 (is.3.1 x.now)))

-- the item at the place of a name is the first of that name
pub found : {A B : Type 0} (name_of : A → List ℕ) (told : A → B) (xs : List A) (names : List (List ℕ)) (name : List ℕ) (place : ℕ) (r : Option (Bor A)) →
    map name_of xs ≡ names → Some place ≡ place_of names name → IsItemAt xs place r → option_map (λ x. told x.now) r ≡ first_named name_of told xs name
found name_of told xs names name place r are there is =
    got told xs place r is ∙ ap (told_at told xs) (there ∙ ap (λ names. place_of names name) (sym are)) ∙ sym (found_at name_of told xs name)

-- there is none where its name has no place
pub not_found : {A B : Type 0} (name_of : A → List ℕ) (told : A → B) (xs : List A) (names : List (List ℕ)) (name : List ℕ) →
    map name_of xs ≡ names → None ≡ place_of names name → None ≡ first_named name_of told xs name
not_found name_of told xs names name are none =
    ap (told_at told xs) (none ∙ ap (λ names. place_of names name) (sym are)) ∙ sym (found_at name_of told xs name)

some_here : {B : Type 0} (b : B) (here : Bool) (place : Option ℕ) (found : Option B) → is_some place ≡ is_some found →
    is_some (cond here (Some zero) (option_map suc place)) ≡ is_some (cond here (Some b) found)
some_here b true place found is = refl
some_here b false None found is = is
some_here b false (Some n) found is = is

has_place : {A B : Type 0} (name_of : A → List ℕ) (told : A → B) (xs : List A) (name : List ℕ) →
    is_some (place_of (map name_of xs) name) ≡ is_some (first_named name_of told xs name)
has_place name_of told [] name = refl
has_place name_of told (x ∷ xs) name =
    some_here (told x) (bytes_eq (name_of x) name) (place_of (map name_of xs) name) (first_named name_of told xs name) (has_place name_of told xs name)

-- a name has a place where an item has it
pub has_named : {A B : Type 0} (name_of : A → List ℕ) (told : A → B) (xs : List A) (names : List (List ℕ)) (name : List ℕ) →
    map name_of xs ≡ names → is_some (place_of names name) ≡ is_some (first_named name_of told xs name)
has_named name_of told xs names name are =
    ap (λ names. let place : Option ℕ = place_of names name in is_some place) (sym are) ∙ has_place name_of told xs name

none_is : {A : Type 0} (o : Option A) → is_some o ≡ false → o ≡ None
none_is None none = refl
none_is (Some x) none = absurd (cc)

-- a name that no item has is new
pub new_name : {A B : Type 0} (name_of : A → List ℕ) (told : A → B) (xs : List A) (names : List (List ℕ)) (name : List ℕ) →
    map name_of xs ≡ names → is_some (first_named name_of told xs name) ≡ false → place_of names name ≡ None
new_name name_of told xs names name are none = none_is (place_of names name) (has_named name_of told xs names name are ∙ none)

-- the names with that of one more item behind them
pub names_more : {A : Type 0} (name_of : A → List ℕ) (xs : List A) (names : List (List ℕ)) (x : A) →
    map name_of xs ≡ names → map name_of (xs ++ x ∷ []) ≡ names ++ name_of x ∷ []
names_more name_of xs names x are = map-append name_of xs (x ∷ []) ∙ ap (λ names. names ++ name_of x ∷ []) are
