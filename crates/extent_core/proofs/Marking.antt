-- Which tracks lie in an extent, and what tracks are once those of an extent are marked.
use Rattle.std.proofs.Common.{◌≡◌, ℕ, suc, zero, ◌+◌, ◌<◌, ◌≤◌, Bool, true, false, cond, List, [], ◌∷◌, length, get_or, refl, ap, sym, ◌∙◌, arith, ⊎_elim, nat_lt, nat_le}
use Rattle.std.proofs.lemmas.Bool.{cases_Bool, both_ways, false_from_ne_true, ltb-true, lt-ltb, le-leb, lt-leb, le-ltb, leb-true, and_parts, and_right}
use Rattle.extent_core.specs.declared.extent.Extent.{Extent}
use Rattle.extent_core.specs.Extents.{is_in, marked_from, marked}

pub length-marked_from : (at : ℕ) (free : Bool) (e : Extent) (tracks : List Bool) → length (marked_from at free e tracks) ≡ length tracks
length-marked_from at free e [] = refl
length-marked_from at free e (t ∷ ts) = ap suc (length-marked_from (at + 1) free e ts)

get_or-marked_from : (at : ℕ) (free : Bool) (e : Extent) (tracks : List Bool) (i k : ℕ) (d : Bool) → k ≡ at + i → i < length tracks → get_or (marked_from at free e tracks) i d ≡ cond (is_in k e) free (get_or tracks i d)
get_or-marked_from at free e [] i k d q l = absurd (omega arith)
get_or-marked_from at free e (t ∷ ts) zero k d q l = let p : k ≡ at = omega arith in rw p refl
get_or-marked_from at free e (t ∷ ts) (suc i) k d q l = get_or-marked_from (at + 1) free e ts i k d (omega arith) (omega arith)

pub get_or-marked : (free : Bool) (e : Extent) (tracks : List Bool) (k : ℕ) (d : Bool) → k < length tracks → get_or (marked free e tracks) k d ≡ cond (is_in k e) free (get_or tracks k d)
get_or-marked free e tracks k d l = get_or-marked_from 0 free e tracks k k d (omega arith) l

-- a track lies in an extent, in front of it, or behind it
pub is_in_within : (k : ℕ) (e : Extent) → e.start ≤ k → k < e.start + e.tracks → is_in k e ≡ true
is_in_within k e l r = simp (le-leb e.start k l, lt-ltb k (e.start + e.tracks) r)

pub is_in_before : (k : ℕ) (e : Extent) → k < e.start → is_in k e ≡ false
is_in_before k e l = simp (lt-leb e.start k l)

pub is_in_behind : (k : ℕ) (e : Extent) → e.start + e.tracks ≤ k → is_in k e ≡ false
is_in_behind k e l = and_right (nat_le e.start k) (nat_lt k (e.start + e.tracks)) (le-ltb k (e.start + e.tracks) l)

pub within_is_in : (k : ℕ) (e : Extent) → is_in k e ≡ true → (e.start ≤ k) × (k < e.start + e.tracks)
within_is_in k e h =
    let p = and_parts (nat_le e.start k) (nat_lt k (e.start + e.tracks)) h in
    (leb-true e.start k p.0, ltb-true k (e.start + e.tracks) p.1)

pub is_in_as : (k : ℕ) (e f : Extent) → ((e.start ≤ k) × (k < e.start + e.tracks) → (f.start ≤ k) × (k < f.start + f.tracks)) → ((f.start ≤ k) × (k < f.start + f.tracks) → (e.start ≤ k) × (k < e.start + e.tracks)) → is_in k e ≡ is_in k f
is_in_as k e f there back =
    ⊎_elim (λ (h : is_in k e ≡ true). let p = there (within_is_in k e h) in h ∙ sym (is_in_within k f p.0 p.1))
    (λ (h : is_in k e ≡ false). h ∙ sym (false_from_ne_true (is_in k f) (λ g. let p = back (within_is_in k f g) in both_ways (is_in k e) h (is_in_within k e p.0 p.1))))
    (cases_Bool (is_in k e))
