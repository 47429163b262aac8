-- What is found among the numbers of tracks is what is sought among the free extents.
use Rattle.std.proofs.Common.{◌≡◌, ℕ, ◌+◌, ◌-◌, ◌<◌, ◌≤◌, List, length, get_or, set, take, max, Some, None, ap, sym, ◌∙◌, subst, arith, nat_eq}
use Rattle.std.specs.List.{Contains, find}
use Rattle.extent_core.specs.declared.extent.Extent.{Extent}
use Rattle.extent_core.specs.Extents.{extent, first_of, free_extents, largest_of}
use Rattle.extent_core.specs.Maxima.{IsFirst, IsFirstLargest}
use Rattle.extent_core.specs.Sizes.{AreKept, tracks_of}
use Rattle.extent_core.proofs.Changes.{IsTaking}
use Rattle.extent_core.proofs.Tracks.{taking}
use Rattle.extent_core.proofs.Listing.{find-listed, find-listed_none, first_of-listed, first_of-listed_max, first_of-listed_none, free_extents_listed, get_or-take_kept, largest_of-listed, largest_of-listed_none, length-take_kept, listed, listed_is}

same_extents : (s t m n : ℕ) → s ≡ t → m ≡ n → Some (extent s m) ≡ Some (extent t n)
same_extents s t m n p q = cc

-- the free extent that begins at a track
pub find_kept : (count : ℕ) (sizes ends : List ℕ) (s : ℕ) → AreKept count sizes ends → 0 < get_or sizes s 0 → find (λ (e : Extent). nat_eq e.start s) (free_extents (tracks_of count sizes)) ≡ Some (extent s (get_or sizes s 0))
find_kept count sizes ends s kept p =
    let same = get_or-take_kept count sizes ends kept in
    ap (find (λ (e : Extent). nat_eq e.start s)) (free_extents_listed count sizes ends kept)
    ∙ find-listed s 0 (take count sizes) s (omega arith) (omega (arith, same s))
    ∙ ap (λ n. Some (extent s n)) (same s)

pub find_kept_none : (count : ℕ) (sizes ends : List ℕ) (s : ℕ) → AreKept count sizes ends → get_or sizes s 0 ≡ 0 → find (λ (e : Extent). nat_eq e.start s) (free_extents (tracks_of count sizes)) ≡ None
find_kept_none count sizes ends s kept p =
    let same = get_or-take_kept count sizes ends kept in
    ap (find (λ (e : Extent). nat_eq e.start s)) (free_extents_listed count sizes ends kept)
    ∙ find-listed_none s 0 (take count sizes) s (omega arith) (same s ∙ p)

-- the first free extent that has so many tracks
pub first_kept : (count : ℕ) (sizes ends : List ℕ) (n m place : ℕ) → AreKept count sizes ends → m ≡ max n 1 → IsFirst sizes m place → first_of n (free_extents (tracks_of count sizes)) ≡ Some (extent place (get_or sizes place 0))
first_kept count sizes ends n m place kept q first =
    let same = get_or-take_kept count sizes ends kept in
    let zs = take count sizes in
    let enough : m ≤ get_or sizes place 0 = first.enough in
    ap (first_of n) (free_extents_listed count sizes ends kept)
    ∙ first_of-listed_max n 0 zs
    ∙ ap (λ k. first_of k (listed 0 zs)) (let r : max n 1 ≡ m = omega arith in r)
    ∙ first_of-listed m 0 zs place (omega arith) (omega (arith, length-take_kept count sizes ends kept, kept.within place (omega arith))) (omega (arith, same place)) (λ j l. omega (arith, same j, first.before j l))
    ∙ same_extents (0 + place) place (get_or zs place 0) (get_or sizes place 0) (omega arith) (same place)

pub first_kept_none : (count : ℕ) (sizes ends : List ℕ) (n m : ℕ) → AreKept count sizes ends → m ≡ max n 1 → ((k : ℕ) → k < length sizes → get_or sizes k 0 < m) → first_of n (free_extents (tracks_of count sizes)) ≡ None
first_kept_none count sizes ends n m kept q small =
    let same = get_or-take_kept count sizes ends kept in
    let zs = take count sizes in
    ap (first_of n) (free_extents_listed count sizes ends kept)
    ∙ first_of-listed_max n 0 zs
    ∙ ap (λ k. first_of k (listed 0 zs)) (let r : max n 1 ≡ m = omega arith in r)
    ∙ first_of-listed_none m 0 zs (λ k l. omega (arith, same k, small k (omega (arith, length-take_kept count sizes ends kept, kept.room))))

-- the largest free extent
pub largest_kept : (count : ℕ) (sizes ends : List ℕ) (place : ℕ) → AreKept count sizes ends → IsFirstLargest sizes place → 0 < get_or sizes place 0 → largest_of (free_extents (tracks_of count sizes)) ≡ Some (extent place (get_or sizes place 0))
largest_kept count sizes ends place kept most p =
    let same = get_or-take_kept count sizes ends kept in
    let size = length-take_kept count sizes ends kept in
    let zs = take count sizes in
    ap largest_of (free_extents_listed count sizes ends kept)
    ∙ largest_of-listed 0 zs place (omega (arith, same place)) (omega (arith, size, kept.within place p)) (λ j l. omega (arith, same j, same place, most.bound j (omega (arith, size, kept.room)))) (λ j l. omega (arith, same j, same place, most.before j l))
    ∙ same_extents (0 + place) place (get_or zs place 0) (get_or sizes place 0) (omega arith) (same place)

pub largest_kept_none : (count : ℕ) (sizes ends : List ℕ) (place : ℕ) → AreKept count sizes ends → IsFirstLargest sizes place → get_or sizes place 0 ≡ 0 → largest_of (free_extents (tracks_of count sizes)) ≡ None
largest_kept_none count sizes ends place kept most p =
    let same = get_or-take_kept count sizes ends kept in
    let size = length-take_kept count sizes ends kept in
    ap largest_of (free_extents_listed count sizes ends kept)
    ∙ largest_of-listed_none 0 (take count sizes) (λ k l. omega (arith, same k, most.bound k (omega (arith, size, kept.room))))

-- a free extent has its number of tracks at its first track
pub size_of_listed : (count : ℕ) (sizes ends : List ℕ) (e : Extent) → AreKept count sizes ends → Contains (free_extents (tracks_of count sizes)) e → (0 < e.tracks) × (get_or sizes e.start 0 ≡ e.tracks)
size_of_listed count sizes ends e kept h =
    let r = listed_is e 0 (take count sizes) (subst (λ es. Contains es e) (free_extents_listed count sizes ends kept) h) in
    let place : r.0 ≡ e.start = omega (arith, r.1) in
    (r.2, rw (← place) (sym (get_or-take_kept count sizes ends kept r.0) ∙ r.3))

-- the writes that take the front of a free extent
pub taking_front : (count : ℕ) (sizes ends : List ℕ) (e : Extent) (n start rest last : ℕ) → AreKept count sizes ends → Contains (free_extents (tracks_of count sizes)) e → n ≤ e.tracks → start ≡ e.start → rest ≡ e.start + n → last ≡ e.start + e.tracks
    → IsTaking count sizes ends (set (set sizes start 0) rest (e.tracks - n)) (set ends last (e.tracks - n)) e.start n (e.tracks - n)
taking_front count sizes ends e n start rest last kept h l p q r =
    let at = size_of_listed count sizes ends e kept h in
    let left = e.tracks - n in
    let whole : n + left ≡ e.tracks = omega arith in
    rw p (taking count sizes ends e.start n left rest last kept (at.1 ∙ sym whole) (omega (arith, at.0)) q (omega arith))

-- where they are
pub front_within : (count : ℕ) (sizes ends : List ℕ) (e : Extent) → AreKept count sizes ends → Contains (free_extents (tracks_of count sizes)) e → e.start + e.tracks ≤ count
front_within count sizes ends e kept h =
    let at = size_of_listed count sizes ends e kept h in
    rw (← at.1) (kept.within e.start (omega (arith, at.0, at.1)))
