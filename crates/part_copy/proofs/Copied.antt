-- What is found among the copies of sets.
use Rattle.std.proofs.Common.{◌≡◌, ℕ, Bool, true, false, cond, ◌&&◌, ◌==◌, List, [], ◌∷◌, ◌++◌, Option, Some, None, refl, ap, sym, ◌∙◌}
use Rattle.std.specs.Cmp.{Equal-is}
use Rattle.std.specs.List.{cons_option}
use Rattle.std.specs.Option.{option_map, option_or}
use Rattle.std.specs.Ordering.{is_eq}
use Rattle.std.specs.Str.{bytes_eq}
use Rattle.std.proofs.lemmas.Bool.{and_parts, eqb-true, eq-eqb}
use Rattle.std.proofs.lemmas.Bool.Decides.{same_from_decides}
use Rattle.std.proofs.lemmas.Slice.Eq.{bytes_eq-Decides}
use Rattle.jname_core.specs.declared.key.Key.{Key}
use Rattle.jname_core.specs.declared.key.Key.TheVariants.{Named, Relative, Temporary, Unnamed}
use Rattle.jname_core.specs.Generations.{base_of}
use Rattle.vtoc_core.specs.declared.entry.SetEntry.{SetEntry}
use Rattle.vtoc_core.specs.declared.entry.SetKey.{SetKey}
use Rattle.vtoc_core.specs.declared.entry.SetKey.TheVariants as world
use Rattle.vtoc_core.specs.Entries.{key_cmp, set_among, same_key as same_set}
use Rattle.vtoc_core.proofs.PlaceLemmas.{order_tells}
use Rattle.jcl_meaning.specs.declared.store.DataSet.{DataSet}
use Rattle.jcl_meaning.specs.declared.store.SoloSet.{SoloSet}
use Rattle.jcl_meaning.specs.Names.{held_under, same_key}
use Rattle.jcl_meaning.specs.Stores.{set_in}
use Rattle.world_meaning.specs.Lenses.{world_key}
use Rattle.part_copy.specs.Copies.{Spot, bare, copies_of_sets, copy_under, is_under, job_key, set_at}

pub names_same : (a b : List ℕ) → bytes_eq a b ≡ true → a ≡ b
names_same a b = (bytes_eq-Decides a b).0

pub name_itself : (a : List ℕ) → bytes_eq a a ≡ true
name_itself a = (bytes_eq-Decides a a).1 refl

pub names_turned : (a b : List ℕ) → bytes_eq a b ≡ bytes_eq b a
names_turned a b = same_from_decides (bytes_eq a b) (bytes_eq b a) (bytes_eq-Decides a b)
    (λ h. sym ((bytes_eq-Decides b a).0 h), λ h. (bytes_eq-Decides b a).1 (sym h))

-- one list behind another
pub or_by : {Y : Type 0} (b : Bool) (x : Y) (o p : Option Y) → cond b (Some x) (option_or o p) ≡ option_or (cond b (Some x) o) p
or_by true x o p = refl
or_by false x o p = refl

pub sets_behind : (xs ys : List SoloSet) (q : Spot) → set_at (xs ++ ys) q ≡ option_or (set_at xs q) (set_at ys q)
sets_behind [] ys q = refl
sets_behind (x ∷ xs) ys q =
    ap (cond (same_key q.0 x.key && bytes_eq q.1 x.serial) (Some x.set)) (sets_behind xs ys q)
    ∙ or_by (same_key q.0 x.key && bytes_eq q.1 x.serial) x.set (set_at xs q) (set_at ys q)

-- keys of one set are held under one name
held_same : (a b : Key) → same_key a b ≡ true → held_under a ≡ held_under b
held_same (Named a) (Named b) h = ap (λ n. Some (base_of n)) (names_same a b h)
held_same (Relative a s n) (Relative b t m) h = ap Some (names_same a b (and_parts (bytes_eq a b) _ h).0)
held_same (Temporary a) (Temporary b) h = refl
held_same (Unnamed s d) (Unnamed t e) h = refl
held_same _ _ h = absurd cc

-- a key is one that the job sees
abbrev is_key : Option Key → Key → Bool
is_key None k = false
is_key (Some other) k = same_key k other

keys_tied : (a b : SetKey) → is_eq (key_cmp a b) ≡ same_set a b
keys_tied a b = same_from_decides (is_eq (key_cmp a b)) (same_set a b) (Equal-is (key_cmp a b)) (order_tells a b)

numbers_turned : (i j : ℕ) → (i == j) ≡ (j == i)
numbers_turned i j = same_from_decides (i == j) (j == i) (eqb-true i j, eq-eqb i j) (λ h. sym (eqb-true j i h), λ p. eq-eqb j i (sym p))

temporary_by : (b : Bool) (x y : List ℕ) → (b && bytes_eq x y) ≡ is_key (cond b (Some (Temporary y)) None) (Temporary x)
temporary_by true x y = refl
temporary_by false x y = refl

unnamed_by : (b : Bool) (s d t e : ℕ) → (b && s == t && d == e) ≡ is_key (cond b (Some (Unnamed t e)) None) (Unnamed s d)
unnamed_by true s d t e = refl
unnamed_by false s d t e = refl

other_by : (b : Bool) (k other : Key) → same_key k other ≡ false → false ≡ is_key (cond b (Some other) None) k
other_by true k other h = sym h
other_by false k other h = refl

-- the set of a key is told from all others as the keys of the job are
abbrev is_told : Option SetKey → SetKey → Bool
is_told None other = false
is_told (Some here) other = is_eq (key_cmp here other)

set_told : (job : ℕ) (k : Key) (other : SetKey) → is_told (world_key job k) other ≡ is_key (job_key job other) k
set_told job (Named a) (world.Named b) = keys_tied (world.Named a) (world.Named b)
set_told job (Named a) (world.Temporary o b) = other_by (o == job) (Named a) (Temporary b) refl
set_told job (Named a) (world.Unnamed o t e) = other_by (o == job) (Named a) (Unnamed t e) refl
set_told job (Relative a s n) (world.Named b) = refl
set_told job (Relative a s n) (world.Temporary o b) = other_by (o == job) (Relative a s n) (Temporary b) refl
set_told job (Relative a s n) (world.Unnamed o t e) = other_by (o == job) (Relative a s n) (Unnamed t e) refl
set_told job (Temporary a) (world.Named b) = refl
set_told job (Temporary a) (world.Temporary o b) =
    keys_tied (world.Temporary job a) (world.Temporary o b) ∙ ap (λ x. x && bytes_eq a b) (numbers_turned job o) ∙ temporary_by (o == job) a b
set_told job (Temporary a) (world.Unnamed o t e) = other_by (o == job) (Temporary a) (Unnamed t e) refl
set_told job (Unnamed s d) (world.Named b) = refl
set_told job (Unnamed s d) (world.Temporary o b) = other_by (o == job) (Unnamed s d) (Temporary b) refl
set_told job (Unnamed s d) (world.Unnamed o t e) =
    keys_tied (world.Unnamed job s d) (world.Unnamed o t e) ∙ ap (λ x. x && s == t && d == e) (numbers_turned job o) ∙ unnamed_by (o == job) s d t e

-- the set, bare, that some sets have for a key
abbrev pub among : Option SetKey → List (SetKey × SetEntry) → Option DataSet
among None sets = None
among (Some here) sets = option_map bare (set_among sets here)

among_none : (here : Option SetKey) → among here [] ≡ None
among_none None = refl
among_none (Some k) = refl

mapped_by : (b : Bool) (e : SetEntry) (o : Option SetEntry) → option_map bare (cond b (Some e) o) ≡ cond b (Some (bare e)) (option_map bare o)
mapped_by true e o = refl
mapped_by false e o = refl

among_step : (here : Option SetKey) (s : SetKey × SetEntry) (sets : List (SetKey × SetEntry)) →
    among here (s ∷ sets) ≡ cond (is_told here s.0) (Some (bare s.1)) (among here sets)
among_step None s sets = refl
among_step (Some here) s sets = mapped_by (is_eq (key_cmp here s.0)) s.1 (set_among sets here)

none_by : (b : Bool) → ◌≡◌ {A = Option DataSet} None (cond b None None)
none_by true = refl
none_by false = refl

-- a copy in front: it is of the key or not, and on the volume or not
placed : (u : Bool) (copy : SoloSet) (rest : List SoloSet) (k : Key) (v : List ℕ) →
    set_in (cons_option (cond u (Some copy) None) rest) k v ≡ cond u (cond (same_key k copy.key && bytes_eq v copy.serial) (Some copy.set) (set_in rest k v)) (set_in rest k v)
placed true copy rest k v = refl
placed false copy rest k v = refl

tested : {Y : Type 0} (t u here b : Bool) (y x : Option Y) (d : Y) → (t ≡ true → here ≡ u) → y ≡ cond (b && u) x None →
    cond here (cond (t && b) (Some d) y) y ≡ cond (b && u) (cond t (Some d) x) None
tested true true true true y x d h k = refl
tested true true true false y x d h k = k
tested true true false b y x d h k = let e : false ≡ true = h refl in absurd cc
tested true false true b y x d h k = let e : true ≡ false = h refl in absurd cc
tested true false false true y x d h k = k
tested true false false false y x d h k = k
tested false u true b y x d h k = k
tested false u false b y x d h k = k

step : (other : Option Key) (held : Option (List ℕ)) (serial : List ℕ) (e : SetEntry) (k : Key) (v : List ℕ) (rest : List SoloSet) (x : Option DataSet) →
    set_in rest k v ≡ cond (bytes_eq v serial && is_under held (held_under k)) x None →
    set_in (cons_option (copy_under other held serial e) rest) k v ≡ cond (bytes_eq v serial && is_under held (held_under k)) (cond (is_key other k) (Some (bare e)) x) None
step None held serial e k v rest x h = h
step (Some other) held serial e k v rest x h =
    placed (is_under held (held_under other)) (record { serial = serial; key = other; set = bare e }) rest k v
    ∙ tested (same_key k other) (is_under held (held_under k)) (is_under held (held_under other)) (bytes_eq v serial) (set_in rest k v) x (bare e)
    (λ same. ap (is_under held) (sym (held_same k other same))) h

-- what is found among the copies of sets
pub copies_found : (job : ℕ) (held : Option (List ℕ)) (serial : List ℕ) (sets : List (SetKey × SetEntry)) (k : Key) (v : List ℕ) →
    set_in (copies_of_sets job held serial sets) k v ≡ cond (bytes_eq v serial && is_under held (held_under k)) (among (world_key job k) sets) None
copies_found job held serial [] k v =
    none_by (bytes_eq v serial && is_under held (held_under k))
    ∙ ap (λ (o : Option DataSet). cond (bytes_eq v serial && is_under held (held_under k)) o None) (sym (among_none (world_key job k)))
copies_found job held serial (s ∷ sets) k v =
    step (job_key job s.0) held serial s.1 k v (copies_of_sets job held serial sets) (among (world_key job k) sets) (copies_found job held serial sets k v)
    ∙ ap (λ (o : Option DataSet). cond (bytes_eq v serial && is_under held (held_under k)) o None)
    (sym (among_step (world_key job k) s sets ∙ ap (λ b. cond b (Some (bare s.1)) (among (world_key job k) sets)) (set_told job k s.0)))
