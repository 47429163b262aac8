-- Places by name: what is found of a name where the list of one is changed.
use Rattle.std.proofs.Common.{◌≡◌, ◌<◌, ℕ, zero, suc, ◌+◌, Bool, true, false, cond, List, [], ◌∷◌, ◌++◌, length, slice_get, slice_set, Option, Some, None, refl, sym, ap, ◌∙◌, subst, arith, append-nil, option_to_list, MatchOption}
use Rattle.std.specs.Global.{Vec}
use Rattle.std.specs.Vec.{vec_len}
use Rattle.std.specs.Option.{option_map}
use Rattle.std.specs.Str.{bytes_eq}
use Rattle.std.proofs.lemmas.Slice.Eq.{bytes_eq-Decides}
use Rattle.name_places.specs.Places.{place_of}
use Rattle.jcl_refs.specs.Waiting.{items_of, listed, own}

-- a name that is added is at the end, without places
shifted : (p : Vec ℕ) (ps : List (Vec ℕ)) (place : Option ℕ) → listed (p ∷ ps) (option_map suc place) ≡ listed ps place
shifted p ps None = refl
shifted p ps (Some n) = refl

more_by : (here : Bool) (p : Vec ℕ) (more ps : List (Vec ℕ)) (place last : Option ℕ) → listed more last ≡ listed ps place →
    listed (p ∷ more) (cond here (Some zero) (option_map suc last)) ≡ listed (p ∷ ps) (cond here (Some zero) (option_map suc place))
more_by true p more ps place last same = refl
more_by false p more ps place last same = shifted p more last ∙ same ∙ sym (shifted p ps place)

last_by : (here : Bool) (v : Vec ℕ) → v.items ≡ [] → listed (v ∷ []) (cond here (Some zero) (option_map suc None)) ≡ []
last_by true v none = none
last_by false v none = refl

pub same_more : (names : List (List ℕ)) (ps : List (Vec ℕ)) (name x : List ℕ) (v : Vec ℕ) → v.items ≡ [] → length names ≡ length ps →
    listed (ps ++ v ∷ []) (place_of (names ++ name ∷ []) x) ≡ listed ps (place_of names x)
same_more [] [] name x v none as_many = last_by (bytes_eq name x) v none
same_more [] (p ∷ ps) name x v none as_many = absurd (cc)
same_more (n ∷ names) [] name x v none as_many = absurd (cc)
same_more (n ∷ names) (p ∷ ps) name x v none as_many =
    more_by (bytes_eq n x) p (ps ++ v ∷ []) ps (place_of names x) (place_of (names ++ name ∷ []) x) (same_more names ps name x v none (omega (arith, as_many)))

last_here : (here : Bool) (place more : Option ℕ) (n : ℕ) → cond here (Some zero) (option_map suc place) ≡ None → (place ≡ None → more ≡ Some n) →
    cond here (Some zero) (option_map suc more) ≡ Some (suc n)
last_here true place more n none found = absurd (cc)
last_here false None more n none found = ap (option_map suc) (found refl)
last_here false (Some m) more n none found = absurd (cc)

pub place_last : (names : List (List ℕ)) (name : List ℕ) → place_of names name ≡ None → place_of (names ++ name ∷ []) name ≡ Some (length names)
place_last [] name none = ap (λ b. let r : Option ℕ = cond b (Some zero) None in r) ((bytes_eq-Decides name name).1 refl)
place_last (n ∷ names) name none =
    last_here (bytes_eq n name) (place_of names name) (place_of (names ++ name ∷ []) name) (length names) none (place_last names name)

-- names of one place are equal
name_here : (here : Bool) (place : Option ℕ) (first x : List ℕ) (names : List (List ℕ)) (n : ℕ) → (here ≡ true → first ≡ x) →
    ((m : ℕ) → place ≡ Some m → slice_get names m ≡ Some x) → cond here (Some zero) (option_map suc place) ≡ Some n → slice_get (first ∷ names) n ≡ Some x
name_here true place first x names zero same next is = ap Some (same refl)
name_here true place first x names (suc n) same next is = absurd (cc)
name_here false None first x names n same next is = absurd (cc)
name_here false (Some m) first x names zero same next is = absurd (cc)
name_here false (Some m) first x names (suc n) same next is = let e : m ≡ n = cc in next n (ap Some e)

pub name_at : (names : List (List ℕ)) (x : List ℕ) (n : ℕ) → place_of names x ≡ Some n → slice_get names n ≡ Some x
name_at [] x n is = absurd (cc)
name_at (first ∷ names) x n is =
    name_here (bytes_eq first x) (place_of names x) first x names n (bytes_eq-Decides first x).0 (name_at names x) is

same_name : (names : List (List ℕ)) (a b : List ℕ) (n : ℕ) → place_of names a ≡ Some n → place_of names b ≡ Some n → a ≡ b
same_name names a b n at_a at_b = let e : Some a ≡ Some b = sym (name_at names a n at_a) ∙ name_at names b n at_b in cc

-- the list of one name is changed
pub set_here : (ps : List (Vec ℕ)) (n : ℕ) (v : Vec ℕ) → n < length ps → slice_get (slice_set ps n v) n ≡ Some v
set_here [] n v lt = absurd (omega (arith, lt))
set_here (p ∷ ps) zero v lt = refl
set_here (p ∷ ps) (suc n) v lt = set_here ps n v (omega (arith, lt))

pub set_apart : (ps : List (Vec ℕ)) (n m : ℕ) (v : Vec ℕ) → (m ≡ n → ⊥) → slice_get (slice_set ps n v) m ≡ slice_get ps m
set_apart [] n m v apart = refl
set_apart (p ∷ ps) zero zero v apart = absurd (apart refl)
set_apart (p ∷ ps) zero (suc m) v apart = refl
set_apart (p ∷ ps) (suc n) zero v apart = refl
set_apart (p ∷ ps) (suc n) (suc m) v apart = set_apart ps n m v (λ e. apart (ap suc e))

-- what changes for one name stays for the others
changed_by : (names : List (List ℕ)) (ps : List (Vec ℕ)) (name x : List ℕ) (n : ℕ) (v : Vec ℕ) (place : Option ℕ) → place_of names name ≡ Some n →
    place_of names x ≡ place → (bytes_eq name x ≡ false) → listed (slice_set ps n v) place ≡ listed ps place
changed_by names ps name x n v None here there apart = refl
changed_by names ps name x n v (Some m) here there apart =
    ap items_of (set_apart ps n m v (λ e.
    let same : name ≡ x = same_name names name x n here (there ∙ ap Some e) in
    let equal : bytes_eq name x ≡ true = (bytes_eq-Decides name x).1 same in cc))

listed_here : (names : List (List ℕ)) (ps : List (Vec ℕ)) (name : List ℕ) (n : ℕ) (v : Vec ℕ) → place_of names name ≡ Some n → n < length ps →
    listed (slice_set ps n v) (place_of names name) ≡ v.items
listed_here names ps name n v here lt = ap (listed (slice_set ps n v)) here ∙ ap items_of (set_here ps n v lt)

-- one more place of a name
pushed_by : (b : Bool) (names : List (List ℕ)) (ps : List (Vec ℕ)) (name x : List ℕ) (n place : ℕ) (v : Vec ℕ) → bytes_eq name x ≡ b →
    place_of names name ≡ Some n → n < length ps → v.items ≡ listed ps (place_of names name) ++ place ∷ [] →
    listed (slice_set ps n v) (place_of names x) ≡ listed ps (place_of names x) ++ own b place
pushed_by true names ps name x n place v is here lt more =
    let same : name ≡ x = (bytes_eq-Decides name x).0 is in
    subst (λ y. listed (slice_set ps n v) (place_of names y) ≡ listed ps (place_of names y) ++ own true place) same
    (listed_here names ps name n v here lt ∙ more)
pushed_by false names ps name x n place v is here lt more =
    changed_by names ps name x n v (place_of names x) here refl is ∙ sym (append-nil (listed ps (place_of names x)))

pub pushed : (names : List (List ℕ)) (ps : List (Vec ℕ)) (name x : List ℕ) (n place : ℕ) (v : Vec ℕ) → place_of names name ≡ Some n → n < length ps →
    v.items ≡ listed ps (place_of names name) ++ place ∷ [] →
    listed (slice_set ps n v) (place_of names x) ≡ listed ps (place_of names x) ++ own (bytes_eq name x) place
pushed names ps name x n place v here lt more = pushed_by (bytes_eq name x) names ps name x n place v refl here lt more

-- one less
popped_by : (b : Bool) (names : List (List ℕ)) (ps : List (Vec ℕ)) (name x : List ℕ) (n place : ℕ) (v : Vec ℕ) → bytes_eq name x ≡ b →
    place_of names name ≡ Some n → n < length ps → listed ps (place_of names name) ≡ v.items ++ place ∷ [] →
    listed ps (place_of names x) ≡ listed (slice_set ps n v) (place_of names x) ++ own b place
popped_by true names ps name x n place v is here lt less =
    let same : name ≡ x = (bytes_eq-Decides name x).0 is in
    subst (λ y. listed ps (place_of names y) ≡ listed (slice_set ps n v) (place_of names y) ++ own true place) same
    (less ∙ ap (λ items. items ++ place ∷ []) (sym (listed_here names ps name n v here lt)))
popped_by false names ps name x n place v is here lt less =
    sym (changed_by names ps name x n v (place_of names x) here refl is) ∙ sym (append-nil (listed (slice_set ps n v) (place_of names x)))

pub popped : (names : List (List ℕ)) (ps : List (Vec ℕ)) (name x : List ℕ) (n place : ℕ) (v : Vec ℕ) → place_of names name ≡ Some n → n < length ps →
    listed ps (place_of names name) ≡ v.items ++ place ∷ [] →
    listed ps (place_of names x) ≡ listed (slice_set ps n v) (place_of names x) ++ own (bytes_eq name x) place
popped names ps name x n place v here lt less = popped_by (bytes_eq name x) names ps name x n place v refl here lt less

-- none is taken where there is none
pub kept : (names : List (List ℕ)) (ps : List (Vec ℕ)) (name x : List ℕ) (n : ℕ) (v : Vec ℕ) → place_of names name ≡ Some n → n < length ps →
    listed ps (place_of names name) ≡ v.items → listed (slice_set ps n v) (place_of names x) ≡ listed ps (place_of names x)
kept names ps name x n v here lt same = by (bytes_eq name x) refl
  where
    by : (b : Bool) → bytes_eq name x ≡ b → listed (slice_set ps n v) (place_of names x) ≡ listed ps (place_of names x)
    by true is =
        let equal : name ≡ x = (bytes_eq-Decides name x).0 is in
        subst (λ y. listed (slice_set ps n v) (place_of names y) ≡ listed ps (place_of names y)) equal
        (listed_here names ps name n v here lt ∙ sym same)
    by false is = changed_by names ps name x n v (place_of names x) here refl is

-- the list of a name, as it is read
pub read_at : (names : List (List ℕ)) (ps : List (Vec ℕ)) (name : List ℕ) (n : ℕ) (v : Vec ℕ) → place_of names name ≡ Some n → slice_get ps n ≡ Some v →
    listed ps (place_of names name) ≡ v.items
read_at names ps name n v here is = ap (listed ps) here ∙ ap items_of is

no_items : (xs : List ℕ) → length xs ≡ 0 → xs ≡ []
no_items [] none = refl
no_items (x ∷ xs) none = absurd (omega (arith, none))

-- what is taken from the list of a name
pub found_some : (names : List (List ℕ)) (ps : List (Vec ℕ)) (name : List ℕ) (n : ℕ) (v new : Vec ℕ) (place : Option ℕ) → place_of names name ≡ Some n →
    n < length ps → slice_get ps n ≡ Some v → v.items ≡ new.items ++ option_to_list place →
    MatchOption place ((vec_len v ≡ 0) × (vec_len new ≡ 0)) (λ m. vec_len new + 1 ≡ vec_len v) →
    MatchOption place (listed ps (place_of names name) ≡ [])
    (λ m. (x : List ℕ) → listed ps (place_of names x) ≡ listed (slice_set ps n new) (place_of names x) ++ own (bytes_eq name x) m)
found_some names ps name n v new None here lt read is empty =
    let size : vec_len v ≡ 0 = empty.0 in
    read_at names ps name n v here read ∙ no_items v.items (omega (arith, size, v.ok.0))
found_some names ps name n v new (Some m) here lt read is empty = λ x. popped names ps name x n m new here lt (read_at names ps name n v here read ∙ is)

pub stays_for_none : (names : List (List ℕ)) (ps : List (Vec ℕ)) (name : List ℕ) (n : ℕ) (v new : Vec ℕ) (place : Option ℕ) → place_of names name ≡ Some n →
    n < length ps → slice_get ps n ≡ Some v → v.items ≡ new.items ++ option_to_list place →
    MatchOption place ((x : List ℕ) → listed (slice_set ps n new) (place_of names x) ≡ listed ps (place_of names x)) (λ m. m ≡ m)
stays_for_none names ps name n v new None here lt read is = λ x. kept names ps name x n new here lt (read_at names ps name n v here read ∙ is ∙ append-nil new.items)
stays_for_none names ps name n v new (Some m) here lt read is = refl
