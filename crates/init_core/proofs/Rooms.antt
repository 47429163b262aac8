-- On configured volumes there is room for one operation each; and sets stand on configured volumes alone.
use Rattle.std.proofs.Common.{◌≡◌, ◌≢◌, ◌<◌, ◌≤◌, ◌||◌, ◌⊎◌, inl, inr, ℕ, zero, suc, Bool, true, false, cond, List, [], ◌∷◌, All, Option, Some, None, arith, get_or, is_some, length, refl, sym, ap, ◌∙◌}
use Rattle.std.specs.Prelude.{IfSome}
use Rattle.std.specs.List.{Contains, list_any}
use Rattle.std.specs.Str.{bytes_eq}
use Rattle.std.proofs.lemmas.List.Elements.{All-cons, All-head, All-nil, All-tail}
use Rattle.std.proofs.lemmas.Slice.Eq.{bytes_eq-Decides}
use Rattle.jname_core.specs.declared.key.Key.TheVariants as key
use Rattle.vtoc_core.specs.declared.entry.SetKey.{SetKey}
use Rattle.vtoc_core.specs.declared.entry.SetKey.TheVariants as world
use Rattle.jcl_meaning.specs.Takes.{is_known}
use Rattle.prog_core.specs.declared.units.Operation.{Operation}
use Rattle.prog_core.specs.Operations.{IsRoomFor, OneEach, is_busy}
use Rattle.world_meaning.specs.Lenses.{seen}
use Rattle.mount_core.specs.Mounts.{MountedState}
use Rattle.shared_core.specs.Shown.{mounted_in, set_on, world_store_of}
use Rattle.shared_core.specs.declared.store.SharedStore.{SharedStore}
use Rattle.place_core.specs.Placings.{serials_of}
use Rattle.init_core.proofs.Volumes.{StandOn}

abbrev IsIn : List (List ℕ) → List ℕ → Type 0
IsIn [] x = ⊥
IsIn (y ∷ ys) x = (y ≡ x) ⊎ IsIn ys x

is_in : (xs : List (List ℕ)) (k : ℕ) (x : List ℕ) → k < length xs → get_or xs k x ≡ x → IsIn xs x
is_in [] k x h e = absurd (omega (arith, h))
is_in (y ∷ ys) zero x h e = inl e
is_in (y ∷ ys) (suc k) x h e = inr (is_in ys k x (omega (arith, h)) e)

contained : (xs : List (List ℕ)) (x : List ℕ) → Contains xs x → IsIn xs x
contained xs x c = is_in xs c.0 x c.1 c.2

without : List ℕ → List (List ℕ) → List (List ℕ)
without s [] = []
without s (y ∷ ys) = cond (bytes_eq y s) ys (y ∷ without s ys)

split : (a b : Bool) → (a || b) ≡ false → (a ≡ false) × (b ≡ false)
split true b e = absurd cc
split false b e = (refl, e)

differ : (x y : List ℕ) → bytes_eq x y ≡ false → x ≢ y
differ x y h e = let same : bytes_eq x y ≡ true = (bytes_eq-Decides x y).1 e in absurd cc

one_less : (s : List ℕ) (ys : List (List ℕ)) → IsIn ys s → length ys ≡ suc (length (without s ys))
unfolding without
one_less s [] h = absurd h
one_less s (y ∷ ys) h = by (bytes_eq y s) refl h (one_less s ys)
  where
    by : (b : Bool) → bytes_eq y s ≡ b → (y ≡ s) ⊎ IsIn ys s → (IsIn ys s → length ys ≡ suc (length (without s ys))) →
        suc (length ys) ≡ suc (length (cond b ys (y ∷ without s ys)))
    by true e h more = refl
    by false e (inl same) more = absurd (differ y s e same)
    by false e (inr h) more = ap suc (more h)

stays_in : (s t : List ℕ) (ys : List (List ℕ)) → s ≢ t → IsIn ys t → IsIn (without s ys) t
unfolding without
stays_in s t [] apart h = h
stays_in s t (y ∷ ys) apart h = by (bytes_eq y s) refl h (stays_in s t ys apart)
  where
    by : (b : Bool) → bytes_eq y s ≡ b → (y ≡ t) ⊎ IsIn ys t → (IsIn ys t → IsIn (without s ys) t) → IsIn (cond b ys (y ∷ without s ys)) t
    by true e (inl same) more = absurd (apart (sym ((bytes_eq-Decides y s).0 e) ∙ same))
    by true e (inr h) more = h
    by false e (inl same) more = inl same
    by false e (inr h) more = inr (more h)

abbrev AreIn : List (List ℕ) → List Operation → Type 0
AreIn volumes os = All (λ o. IsIn volumes o.serial) os

others_in : (s : List ℕ) (volumes : List (List ℕ)) (os : List Operation) → is_busy os (Some s) ≡ false → AreIn volumes os → AreIn (without s volumes) os
others_in s volumes [] free all = All-nil (λ o. IsIn (without s volumes) o.serial)
others_in s volumes (o ∷ os) free all =
    let both : (bytes_eq o.serial s ≡ false) × (is_busy os (Some s) ≡ false) = split (bytes_eq o.serial s) (is_busy os (Some s)) free in
    All-cons (λ o. IsIn (without s volumes) o.serial) o os
    (stays_in s o.serial volumes (λ e. differ o.serial s both.0 (sym e)) (All-head (λ o. IsIn volumes o.serial) o os all))
    (others_in s volumes os both.1 (All-tail (λ o. IsIn volumes o.serial) o os all))

fewer : (volumes : List (List ℕ)) (os : List Operation) (serial : List ℕ) → OneEach os → AreIn volumes os → IsIn volumes serial → is_busy os (Some serial) ≡ false →
    length os < length volumes
fewer volumes [] serial each all there free = let e : length volumes ≡ suc (length (without serial volumes)) = one_less serial volumes there in omega (arith, e)
fewer volumes (o ∷ os) serial each all there free =
    let both : (bytes_eq o.serial serial ≡ false) × (is_busy os (Some serial) ≡ false) = split (bytes_eq o.serial serial) (is_busy os (Some serial)) free in
    let e : length volumes ≡ suc (length (without o.serial volumes)) = one_less o.serial volumes (All-head (λ o. IsIn volumes o.serial) o os all) in
    let behind : length os < length (without o.serial volumes) = fewer (without o.serial volumes) os serial each.1
    (others_in o.serial volumes os each.0 (All-tail (λ o. IsIn volumes o.serial) o os all))
    (stays_in o.serial serial volumes (differ o.serial serial both.0) there) both.1 in
    omega (arith, e, behind)

all_in : (volumes : List (List ℕ)) (os : List Operation) → All (λ o. Contains volumes o.serial) os → AreIn volumes os
all_in volumes [] all = All-nil (λ o. IsIn volumes o.serial)
all_in volumes (o ∷ os) all =
    All-cons (λ o. IsIn volumes o.serial) o os (contained volumes o.serial (All-head (λ o. Contains volumes o.serial) o os all))
    (all_in volumes os (All-tail (λ o. Contains volumes o.serial) o os all))

-- at most sixteen volumes, an operation at most on each
pub room_for : (volumes : List (List ℕ)) (os : List Operation) (serial : List ℕ) → length volumes ≤ 16 → OneEach os → All (λ o. Contains volumes o.serial) os →
    Contains volumes serial → IsRoomFor os serial
room_for volumes os serial few each all there free =
    let h : length os < length volumes = fewer volumes os serial each (all_in volumes os all) (contained volumes serial there) free in omega (arith, h, few)

pub room_if : (volumes : List (List ℕ)) (os : List Operation) (starts : Option (List ℕ)) → length volumes ≤ 16 → OneEach os → All (λ o. Contains volumes o.serial) os →
    IfSome starts (λ serial. Contains volumes serial) → IfSome starts (IsRoomFor os)
room_if volumes os None few each all there = tt
room_if volumes os (Some serial) few each all there = room_for volumes os serial few each all there

-- a volume that is mounted
further : (y : List ℕ) (ys : List (List ℕ)) (x : List ℕ) → Contains ys x → Contains (y ∷ ys) x
further y ys x c = (suc c.0, omega (arith, c.1), c.2)

first : (y : List ℕ) (ys : List (List ℕ)) (x : List ℕ) → y ≡ x → Contains (y ∷ ys) x
first y ys x e = (0, omega arith, e)

mounted_on : (ms : List MountedState) (serial : List ℕ) (k : SetKey) → is_some (set_on (mounted_in ms serial) k) ≡ true → Contains (serials_of ms) serial
mounted_on [] serial k h = absurd cc
mounted_on (m ∷ ms) serial k h = by (bytes_eq m.serial serial) refl h (mounted_on ms serial k)
  where
    by : (b : Bool) → bytes_eq m.serial serial ≡ b → is_some (set_on (cond b (Some m) (mounted_in ms serial)) k) ≡ true →
        (is_some (set_on (mounted_in ms serial) k) ≡ true → Contains (serials_of ms) serial) → Contains (serials_of (m ∷ ms)) serial
    by true e h more = first m.serial (serials_of ms) serial ((bytes_eq-Decides m.serial serial).0 e)
    by false e h more = further m.serial (serials_of ms) serial (more h)

pub stand_on : (job : ℕ) (s : SharedStore) → StandOn (serials_of s.volumes) (seen job (world_store_of s))
stand_on job s (key.Named name) serial h = mounted_on s.volumes serial (world.Named name) h
stand_on job s (key.Relative base sign amount) serial h = absurd cc
stand_on job s (key.Temporary name) serial h = mounted_on s.volumes serial (world.Temporary job name) h
stand_on job s (key.Unnamed step dd) serial h = mounted_on s.volumes serial (world.Unnamed job step dd) h

-- a volume that is known
known_in : (volumes : List (List ℕ)) (serial : List ℕ) → list_any (bytes_eq serial) volumes ≡ true → Contains volumes serial
known_in [] serial h = absurd cc
known_in (v ∷ vs) serial h = by (bytes_eq serial v) refl h (known_in vs serial)
  where
    by : (b : Bool) → bytes_eq serial v ≡ b → (b || list_any (bytes_eq serial) vs) ≡ true → (list_any (bytes_eq serial) vs ≡ true → Contains vs serial) →
        Contains (v ∷ vs) serial
    by true e h more = first v vs serial (sym ((bytes_eq-Decides serial v).0 e))
    by false e h more = further v vs serial (more h)

pub known_on : (volumes : List (List ℕ)) (serial : Option (List ℕ)) → is_known volumes serial ≡ true → IfSome serial (λ v. Contains volumes v)
known_on volumes None h = tt
known_on volumes (Some serial) h = known_in volumes serial h
