-- Keys and names that compare as one are one.
use Rattle.std.proofs.Common.{◌≡◌, ℕ, Bool, true, ◌&&◌, ◌==◌, List, refl, sym, ap}
use Rattle.std.specs.Str.{bytes_eq}
use Rattle.std.proofs.lemmas.Bool.{and_parts, and_from, eqb-true, eq-eqb}
use Rattle.std.proofs.lemmas.Slice.Eq.{bytes_eq-Decides}
use Rattle.jname_core.specs.declared.key.Key.{Key}
use Rattle.jname_core.specs.declared.key.Key.TheVariants.{Named, Relative, Temporary, Unnamed}
use Rattle.jname_core.specs.declared.key.Sign.{Sign}
use Rattle.jname_core.specs.declared.key.Sign.TheVariants.{Plus, Minus}
use Rattle.jcl_meaning.specs.Names.{same_key, same_sign}

pub bytes_eq-true : (a b : List ℕ) → bytes_eq a b ≡ true → a ≡ b
bytes_eq-true a b = (bytes_eq-Decides a b).0

pub bytes_eq-refl : (a : List ℕ) → bytes_eq a a ≡ true
bytes_eq-refl a = (bytes_eq-Decides a a).1 refl

same_sign-true : (s t : Sign) → same_sign s t ≡ true → s ≡ t
same_sign-true Plus Plus h = refl
same_sign-true Minus Minus h = refl
same_sign-true Plus Minus h = absurd cc
same_sign-true Minus Plus h = absurd cc

same_sign-refl : (s : Sign) → same_sign s s ≡ true
same_sign-refl Plus = refl
same_sign-refl Minus = refl

pub same_key-refl : (k : Key) → same_key k k ≡ true
same_key-refl (Named a) = bytes_eq-refl a
same_key-refl (Relative a s n) = and_from (bytes_eq a a) _ (bytes_eq-refl a) (and_from (same_sign s s) (n == n) (same_sign-refl s) (eq-eqb n n refl))
same_key-refl (Temporary a) = bytes_eq-refl a
same_key-refl (Unnamed s d) = and_from (s == s) (d == d) (eq-eqb s s refl) (eq-eqb d d refl)

relative_path : (a b : List ℕ) (s t : Sign) (n m : ℕ) → a ≡ b → s ≡ t → n ≡ m → Relative a s n ≡ Relative b t m
relative_path a b s t n m p q r = λ i. Relative (p i) (q i) (r i)

pub same_key-true : (k l : Key) → same_key k l ≡ true → k ≡ l
same_key-true (Named a) (Named b) h = ap Named (bytes_eq-true a b h)
same_key-true (Relative a s n) (Relative b t m) h =
    let p : (bytes_eq a b ≡ true) × (same_sign s t && n == m ≡ true) = and_parts (bytes_eq a b) (same_sign s t && n == m) h in
    let q : (same_sign s t ≡ true) × ((n == m) ≡ true) = and_parts (same_sign s t) (n == m) p.1 in
    relative_path a b s t n m (bytes_eq-true a b p.0) (same_sign-true s t q.0) (eqb-true n m q.1)
same_key-true (Temporary a) (Temporary b) h = ap Temporary (bytes_eq-true a b h)
same_key-true (Unnamed s d) (Unnamed t e) h =
    let p : ((s == t) ≡ true) × ((d == e) ≡ true) = and_parts (s == t) (d == e) h in
    let q : s ≡ t = eqb-true s t p.0 in
    let r : d ≡ e = eqb-true d e p.1 in
    λ i. Unnamed (q i) (r i)
same_key-true (Named a) (Relative b t m) h = absurd cc
same_key-true (Named a) (Temporary b) h = absurd cc
same_key-true (Named a) (Unnamed t e) h = absurd cc
same_key-true (Relative a s n) (Named b) h = absurd cc
same_key-true (Relative a s n) (Temporary b) h = absurd cc
same_key-true (Relative a s n) (Unnamed t e) h = absurd cc
same_key-true (Temporary a) (Named b) h = absurd cc
same_key-true (Temporary a) (Relative b t m) h = absurd cc
same_key-true (Temporary a) (Unnamed t e) h = absurd cc
same_key-true (Unnamed s d) (Named b) h = absurd cc
same_key-true (Unnamed s d) (Relative b t m) h = absurd cc
same_key-true (Unnamed s d) (Temporary b) h = absurd cc

-- a key on a volume
abbrev pub same_place : Key → List ℕ → Key → List ℕ → Bool
same_place k v key serial = same_key k key && bytes_eq v serial

pub same_place-refl : (k : Key) (v : List ℕ) → same_place k v k v ≡ true
same_place-refl k v = and_from (same_key k k) (bytes_eq v v) (same_key-refl k) (bytes_eq-refl v)

pub same_place-true : (k : Key) (v : List ℕ) (l : Key) (w : List ℕ) → same_place k v l w ≡ true → (k ≡ l) × (v ≡ w)
same_place-true k v l w h =
    let p : (same_key k l ≡ true) × (bytes_eq v w ≡ true) = and_parts (same_key k l) (bytes_eq v w) h in
    (same_key-true k l p.0, bytes_eq-true v w p.1)

-- what is in the place of another is where that is
pub same_place-moved : (k : Key) (v : List ℕ) (l m : Key) (w x : List ℕ) → same_place l w m x ≡ true → same_place k v m x ≡ same_place k v l w
same_place-moved k v l m w x h =
    let p : (l ≡ m) × (w ≡ x) = same_place-true l w m x h in
    λ i. same_place k v (sym p.0 i) (sym p.1 i)
