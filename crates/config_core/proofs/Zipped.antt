-- Units of names and volumes: the one and the other again, how many, and one more.
use Rattle.std.proofs.Common.{◌≡◌, ℕ, suc, List, [], ◌∷◌, ◌++◌, Option, Some, None, false, is_some, arith, ap, length, refl}
use Rattle.config_core.specs.Configs.{unit_names, unit_volumes}
use Rattle.config_core.specs.Units.{units_of}

fewer : {X Y : Type 0} (x : X) (y : Y) (xs : List X) (ys : List Y) → length (x ∷ xs) ≡ length (y ∷ ys) → length xs ≡ length ys
fewer x y xs ys h = omega (arith, h)

pub names_of_units : (names : List (List ℕ)) (volumes : List (List (List ℕ))) → length names ≡ length volumes → unit_names (units_of names volumes) ≡ names
names_of_units [] volumes h = refl
names_of_units (n ∷ ns) [] h = absurd (omega (arith, h))
names_of_units (n ∷ ns) (v ∷ vs) h = ap (λ all. n ∷ all) (names_of_units ns vs (fewer n v ns vs h))

pub volumes_of_units : (names : List (List ℕ)) (volumes : List (List (List ℕ))) → length names ≡ length volumes → unit_volumes (units_of names volumes) ≡ volumes
volumes_of_units [] [] h = refl
volumes_of_units [] (v ∷ vs) h = absurd (omega (arith, h))
volumes_of_units (n ∷ ns) [] h = absurd (omega (arith, h))
volumes_of_units (n ∷ ns) (v ∷ vs) h = ap (λ all. v ∷ all) (volumes_of_units ns vs (fewer n v ns vs h))

pub length_of_units : (names : List (List ℕ)) (volumes : List (List (List ℕ))) → length names ≡ length volumes → length (units_of names volumes) ≡ length volumes
length_of_units [] [] h = refl
length_of_units [] (v ∷ vs) h = absurd (omega (arith, h))
length_of_units (n ∷ ns) [] h = absurd (omega (arith, h))
length_of_units (n ∷ ns) (v ∷ vs) h = ap (λ k. suc k) (length_of_units ns vs (fewer n v ns vs h))

pub one_unit_more : (names : List (List ℕ)) (volumes : List (List (List ℕ))) (name : List ℕ) (serials : List (List ℕ)) → length names ≡ length volumes →
    units_of (names ++ name ∷ []) (volumes ++ serials ∷ []) ≡ units_of names volumes ++ record { name = name; serials = serials } ∷ []
one_unit_more [] [] name serials h = refl
one_unit_more [] (v ∷ vs) name serials h = absurd (omega (arith, h))
one_unit_more (n ∷ ns) [] name serials h = absurd (omega (arith, h))
one_unit_more (n ∷ ns) (v ∷ vs) name serials h = ap (λ all. record { name = n; serials = v } ∷ all) (one_unit_more ns vs name serials (fewer n v ns vs h))

pub none_from_false : {X : Type 0} (o : Option X) → is_some o ≡ false → o ≡ None
none_from_false None h = refl
none_from_false (Some x) h = absurd cc
