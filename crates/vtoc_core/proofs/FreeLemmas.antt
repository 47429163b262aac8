-- The free extents of a volume stand in order, and a track lies in one of them at most.
use Rattle.std.proofs.Common.{◌≡◌, ℕ, ◌+◌, ◌<◌, ◌≤◌, false, cond, List, [], ◌∷◌, ◌++◌, length, nat_eq, refl, ap, ◌∙◌, arith, ⊎_elim, zero-add}
use Rattle.std.proofs.lemmas.Bool.{cases_lt, cond_both, ne_eqb}
use Rattle.std.proofs.lemmas.List.Sums.{sum_by-append, sum_by-cons}
use Rattle.extent_core.specs.declared.extent.Extent.{Extent}
use Rattle.extent_core.specs.Extents.{AreApart, is_in}
use Rattle.extent_core.proofs.LawLemmas.{free_extents_are_apart}
use Rattle.extent_core.proofs.Marking.{is_in_before, is_in_behind}
use Rattle.vtoc_core.specs.declared.volume.Track.{Track}
use Rattle.vtoc_core.specs.Extents.{are_free, free_extents}
use Rattle.vtoc_core.specs.Volumes.{empty_among, times_in}

-- extents in order, the first at or behind a track
abbrev pub InOrder : ℕ → List Extent → Type 0
InOrder at [] = Unit {0}
InOrder at (e ∷ es) = (at ≤ e.start) × (0 < e.tracks) × InOrder (e.start + e.tracks) es

pub in_order_from : (at from : ℕ) (es : List Extent) → from ≤ at → InOrder at es → InOrder from es
in_order_from at from [] l h = tt
in_order_from at from (e ∷ es) l h = (omega (arith, h.0), h.1, h.2)

pub in_order_apart : (from end : ℕ) (es : List Extent) → AreApart from end es → InOrder from es
in_order_apart from end [] h = tt
in_order_apart from end (e ∷ es) h =
    (h.0, h.1, in_order_from (e.start + e.tracks + 1) (e.start + e.tracks) es (omega arith) (in_order_apart (e.start + e.tracks + 1) end es h.3))

pub in_order-free_extents : (ts : List Track) → InOrder 0 (free_extents ts)
in_order-free_extents ts = in_order_apart 0 (length (are_free ts)) (free_extents ts) (free_extents_are_apart (are_free ts))

-- how often a track lies in extents
pub times_in-cons : (k : ℕ) (e : Extent) (es : List Extent) → times_in k (e ∷ es) ≡ cond (is_in k e) 1 0 + times_in k es
times_in-cons k e es = sum_by-cons (λ f. cond (is_in k f) 1 0) e es

pub times_in-cons_not : (k : ℕ) (e : Extent) (es : List Extent) → is_in k e ≡ false → times_in k (e ∷ es) ≡ times_in k es
times_in-cons_not k e es h = times_in-cons k e es ∙ ap (λ b. cond b 1 0 + times_in k es) h ∙ zero-add (times_in k es)

-- how many extents have no track
pub empty-cons : (e : Extent) (es : List Extent) → empty_among (e ∷ es) ≡ cond (nat_eq e.tracks 0) 1 0 + empty_among es
empty-cons e es = sum_by-cons (λ f. cond (nat_eq f.tracks 0) 1 0) e es

pub empty-cons_not : (e : Extent) (es : List Extent) → 0 < e.tracks → empty_among (e ∷ es) ≡ empty_among es
empty-cons_not e es l =
    empty-cons e es ∙ ap (λ b. cond b 1 0 + empty_among es) (ne_eqb e.tracks 0 (λ z. omega arith)) ∙ zero-add (empty_among es)

pub empty-append : (es fs : List Extent) → empty_among (es ++ fs) ≡ empty_among es + empty_among fs
empty-append es fs = sum_by-append (λ e. cond (nat_eq e.tracks 0) 1 0) es fs

pub times_in-append : (k : ℕ) (es fs : List Extent) → times_in k (es ++ fs) ≡ times_in k es + times_in k fs
times_in-append k es fs = sum_by-append (λ e. cond (is_in k e) 1 0) es fs

-- the tracks in front of extents in order lie in none
pub times_in_before : (k at : ℕ) (es : List Extent) → InOrder at es → k < at → times_in k es ≡ 0
times_in_before k at [] h l = refl
times_in_before k at (e ∷ es) h l =
    times_in-cons_not k e es (is_in_before k e (omega (arith, h.0))) ∙ times_in_before k (e.start + e.tracks) es h.2 (omega (arith, h.0))

-- a track lies in one of extents in order at most
pub in_order_once : (k at : ℕ) (es : List Extent) → InOrder at es → times_in k es ≤ 1
in_order_once k at [] h = omega arith
in_order_once k at (e ∷ es) h =
    ⊎_elim
    (λ (l : k < e.start + e.tracks). rw times_in-cons
    (let z : times_in k es ≡ 0 = times_in_before k (e.start + e.tracks) es h.2 l in
    cond_both (is_in k e) 1 0 (λ n. n + times_in k es ≤ 1) (λ q. omega arith) (λ q. omega arith)))
    (λ (l : e.start + e.tracks ≤ k). rw (times_in-cons_not k e es (is_in_behind k e l)) (in_order_once k (e.start + e.tracks) es h.2))
    (cases_lt k (e.start + e.tracks))
