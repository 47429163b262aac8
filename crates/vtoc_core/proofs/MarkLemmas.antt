-- What tracks are once those of some extents are marked.
use Rattle.std.proofs.Common.{◌≡◌, ◌≢◌, ℕ, suc, zero, ◌+◌, ◌-◌, ◌<◌, ◌≤◌, min, Bool, true, false, ◌||◌, cond, List, [], ◌∷◌, ◌++◌, length, get_or, set, take, drop, refl, ap, sym, ◌∙◌, arith, ⊎_elim, get_or-set_same, get_or-set_other, length-set}
use Rattle.std.proofs.lemmas.Bool.{cases_eq, cases_lt, or_from}
use Rattle.std.proofs.lemmas.List.{same_lists, take_at}
use Rattle.extent_core.specs.declared.extent.Extent.{Extent}
use Rattle.extent_core.proofs.Marking.{is_in_as, is_in_before, is_in_behind, is_in_within}
use Rattle.extent_core.specs.Extents.{extent, is_in}
use Rattle.vtoc_core.specs.declared.volume.Track.{Track}
use Rattle.vtoc_core.specs.Volumes.{is_in_some, marked_from, marked}

pub length-marked_from : (at : ℕ) (kind : Track) (es : List Extent) (ts : List Track) → length (marked_from at kind es ts) ≡ length ts
length-marked_from at kind es [] = refl
length-marked_from at kind es (t ∷ ts) = ap suc (length-marked_from (at + 1) kind es ts)

pub get_or-marked_from : (at : ℕ) (kind : Track) (es : List Extent) (ts : List Track) (i k : ℕ) (d : Track) → k ≡ at + i → i < length ts → get_or (marked_from at kind es ts) i d ≡ cond (is_in_some k es) kind (get_or ts i d)
get_or-marked_from at kind es [] i k d e l = absurd (omega arith)
get_or-marked_from at kind es (t ∷ ts) zero k d e l = let q : k ≡ at = omega arith in rw q refl
get_or-marked_from at kind es (t ∷ ts) (suc i) k d e l = get_or-marked_from (at + 1) kind es ts i k d (omega arith) (omega arith)

pub length-marked : (kind : Track) (es : List Extent) (ts : List Track) → length (marked kind es ts) ≡ length ts
length-marked kind es ts = length-marked_from 0 kind es ts

pub get_or-marked : (kind : Track) (es : List Extent) (ts : List Track) (k : ℕ) (d : Track) → k < length ts → get_or (marked kind es ts) k d ≡ cond (is_in_some k es) kind (get_or ts k d)
get_or-marked kind es ts k d l = get_or-marked_from 0 kind es ts k k d (omega arith) l

-- the same tracks marked
pub marked_as : (kind : Track) (es fs : List Extent) (ts : List Track) → ((k : ℕ) → k < length ts → is_in_some k es ≡ is_in_some k fs) → marked kind es ts ≡ marked kind fs ts
marked_as kind es fs ts h =
    same_lists (marked kind es ts) (marked kind fs ts) (length-marked kind es ts ∙ sym (length-marked kind fs ts))
    (λ k d l. let m : k < length ts = omega (arith, length-marked kind es ts) in
    get_or-marked kind es ts k d m ∙ ap (λ b. cond b kind (get_or ts k d)) (h k m) ∙ sym (get_or-marked kind fs ts k d m))

pub marked_none : (kind : Track) (es : List Extent) (ts : List Track) → ((k : ℕ) → k < length ts → is_in_some k es ≡ false) → marked kind es ts ≡ ts
marked_none kind es ts h =
    same_lists (marked kind es ts) ts (length-marked kind es ts)
    (λ k d l. let m : k < length ts = omega (arith, length-marked kind es ts) in
    get_or-marked kind es ts k d m ∙ ap (λ b. cond b kind (get_or ts k d)) (h k m))

twice : (b c : Bool) (kind t : Track) → cond c kind (cond (b || false) kind t) ≡ cond (b || c) kind t
twice true true kind t = refl
twice true false kind t = refl
twice false true kind t = refl
twice false false kind t = refl

-- one extent after another
pub marked-cons : (kind : Track) (e : Extent) (es : List Extent) (ts : List Track) → marked kind es (marked kind (e ∷ []) ts) ≡ marked kind (e ∷ es) ts
marked-cons kind e es ts =
    same_lists (marked kind es (marked kind (e ∷ []) ts)) (marked kind (e ∷ es) ts)
    (length-marked kind es (marked kind (e ∷ []) ts) ∙ length-marked kind (e ∷ []) ts ∙ sym (length-marked kind (e ∷ es) ts))
    (λ k d l. let m : k < length ts = omega (arith, length-marked kind es (marked kind (e ∷ []) ts), length-marked kind (e ∷ []) ts) in
    get_or-marked kind es (marked kind (e ∷ []) ts) k d (omega (arith, length-marked kind (e ∷ []) ts))
    ∙ ap (λ t. cond (is_in_some k es) kind t) (get_or-marked kind (e ∷ []) ts k d m)
    ∙ twice (is_in k e) (is_in_some k es) kind (get_or ts k d)
    ∙ sym (get_or-marked kind (e ∷ es) ts k d m))

-- marking one extent, track by track
pub one_none : (kind : Track) (s n : ℕ) (ts : List Track) → n ≡ 0 → marked kind (extent s n ∷ []) ts ≡ ts
one_none kind s n ts e = marked_none kind (extent s n ∷ []) ts
    (λ k l. ⊎_elim (λ (b : k < s). or_from (is_in k (extent s n)) false (is_in_before k (extent s n) b) refl)
    (λ (b : s ≤ k). or_from (is_in k (extent s n)) false (is_in_behind k (extent s n) (omega arith)) refl) (cases_lt k s))

one_step : (kind : Track) (s i : ℕ) (ts : List Track) (k : ℕ) (d : Track) → s ≤ i → i < length ts → k < length ts → get_or (set (marked kind (extent s (i - s) ∷ []) ts) i kind) k d ≡ get_or (marked kind (extent s (i + 1 - s) ∷ []) ts) k d
one_step kind s i ts k d l m h =
    ⊎_elim (λ (q : k ≡ i). rw q (get_or-set_same (marked kind (extent s (i - s) ∷ []) ts) i kind d (omega (arith, length-marked kind (extent s (i - s) ∷ []) ts))
    ∙ sym (get_or-marked kind (extent s (i + 1 - s) ∷ []) ts i d m ∙ ap (λ b. cond (b || false) kind (get_or ts i d)) (is_in_within i (extent s (i + 1 - s)) l (omega arith)))))
    (λ (q : k ≢ i). get_or-set_other (marked kind (extent s (i - s) ∷ []) ts) i k kind d q
    ∙ get_or-marked kind (extent s (i - s) ∷ []) ts k d h
    ∙ ap (λ b. cond (b || false) kind (get_or ts k d)) (is_in_as k (extent s (i - s)) (extent s (i + 1 - s)) (λ p. (p.0, omega arith)) (λ p. (p.0, omega arith)))
    ∙ sym (get_or-marked kind (extent s (i + 1 - s) ∷ []) ts k d h))
    (cases_eq k i)

pub one_more : (kind : Track) (s i : ℕ) (ts : List Track) → s ≤ i → i < length ts → set (marked kind (extent s (i - s) ∷ []) ts) i kind ≡ marked kind (extent s (i + 1 - s) ∷ []) ts
one_more kind s i ts l m =
    let n : length (set (marked kind (extent s (i - s) ∷ []) ts) i kind) ≡ length ts
    = length-set (marked kind (extent s (i - s) ∷ []) ts) i kind ∙ length-marked kind (extent s (i - s) ∷ []) ts in
    same_lists (set (marked kind (extent s (i - s) ∷ []) ts) i kind) (marked kind (extent s (i + 1 - s) ∷ []) ts)
    (n ∙ sym (length-marked kind (extent s (i + 1 - s) ∷ []) ts))
    (λ k d h. one_step kind s i ts k d l m (omega arith))

pub one_all : (kind : Track) (e : Extent) (s i : ℕ) (ts : List Track) → s ≡ e.start → s ≤ i → i ≤ s + e.tracks → min (s + e.tracks) (length ts) ≤ i → marked kind (extent s (i - s) ∷ []) ts ≡ marked kind (e ∷ []) ts
one_all kind e s i ts q l r past = marked_as kind (extent s (i - s) ∷ []) (e ∷ []) ts
    (λ k h. ap (λ b. b || false) (is_in_as k (extent s (i - s)) e (λ p. (omega arith, omega arith)) (λ p. (omega arith, omega arith))))

-- tracks that were written in place
pub written : (ws ts xs : List Track) (n : ℕ) → ws ≡ ts → length ts ≡ n → take n (ws ++ drop (length ws) xs) ≡ ts
written ws ts xs n e l = take_at ws (drop (length ws) xs) n (ap length e ∙ l) ∙ e
