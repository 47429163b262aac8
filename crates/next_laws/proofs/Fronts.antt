-- How many tracks a set has says which extents it has, where these are a front of its extents before, or continue them.
use Rattle.std.proofs.Common.{◌≡◌, ◌≢◌, ◌≤◌, ◌<◌, ◌+◌, ◌-◌, ◌++◌, ℕ, cond, List, [], ◌∷◌, Option, Some, None, min, refl, sym, ap, ◌∙◌, arith, nat_eq, inl, inr}
use Rattle.std.proofs.lemmas.Bool.{cases_eq, cases_lt, eq-eqb, le-leb, lt-leb, ne_eqb}
use Rattle.extent_core.specs.declared.extent.Extent.{Extent}
use Rattle.extent_core.specs.Extents.{extent}
use Rattle.vtoc_core.specs.Extents.{kept_front, planned, tracks_in}
use Rattle.vtoc_core.specs.Volumes.{empty_among}
use Rattle.vtoc_core.proofs.FreeLemmas.{empty-cons}
use Rattle.vtoc_core.proofs.PlanLemmas.{planned_none, tracks_in-cons}
use Rattle.mount_core.proofs.Keeping.{tracks_in-append}
use Rattle.shared_core.specs.Extents.{IsFront, IsGrown}

-- a first extent that has tracks
has_tracks : (e : Extent) (es : List Extent) → empty_among (e ∷ es) ≡ 0 → 0 < e.tracks
has_tracks e es none =
    elim (cases_eq e.tracks 0) [
      | inl empty ↦ let one : ◌≡◌ {A = ℕ} (cond (nat_eq e.tracks 0) 1 0) 1 = ap (λ b. cond b 1 0) (eq-eqb e.tracks 0 empty) in
          absurd (omega (arith, empty-cons e es, none, one))
      | inr some ↦ omega (arith, some)
    ]

others_have : (e : Extent) (es : List Extent) → empty_among (e ∷ es) ≡ 0 → empty_among es ≡ 0
others_have e es none = omega (arith, empty-cons e es, none)

-- the front of one more extent
no_front : (n : ℕ) (es : List Extent) → n ≡ 0 → kept_front n es ≡ []
no_front n [] z = refl
no_front n (e ∷ es) z = simp (eq-eqb n 0 z)

with_first : (n : ℕ) (e : Extent) (es : List Extent) → n ≢ 0 → e.tracks ≤ n → kept_front n (e ∷ es) ≡ e ∷ kept_front (n - e.tracks) es
with_first n e es some whole = simp (ne_eqb n 0 some, le-leb e.tracks n whole)

of_first : (n : ℕ) (e : Extent) (es : List Extent) → n ≢ 0 → n < e.tracks → kept_front n (e ∷ es) ≡ extent e.start n ∷ []
of_first n e es some part = simp (ne_eqb n 0 some, lt-leb e.tracks n part)

-- it has so many tracks, or all
front_tracks : (n : ℕ) (es : List Extent) → tracks_in (kept_front n es) ≡ min n (tracks_in es)
front_tracks n [] = omega arith
front_tracks n (e ∷ es) =
    elim (cases_eq n 0) [
      | inl z ↦ let none : tracks_in (kept_front n (e ∷ es)) ≡ 0 = ap tracks_in (no_front n (e ∷ es) z) in omega (arith, none, z)
      | inr some ↦ elim (cases_lt n e.tracks) [
        | inl part ↦ let is : tracks_in (kept_front n (e ∷ es)) ≡ n + 0 = ap tracks_in (of_first n e es some part) ∙ tracks_in-cons (extent e.start n) [] in
            omega (arith, is, part, tracks_in-cons e es)
        | inr whole ↦ let is : tracks_in (kept_front n (e ∷ es)) ≡ e.tracks + tracks_in (kept_front (n - e.tracks) es) =
            ap tracks_in (with_first n e es some whole) ∙ tracks_in-cons e (kept_front (n - e.tracks) es) in
            omega (arith, is, whole, front_tracks (n - e.tracks) es, tracks_in-cons e es)
      ]
    ]

-- all extents are the front of all tracks, and of more
all_front : (n : ℕ) (es : List Extent) → empty_among es ≡ 0 → tracks_in es ≤ n → kept_front n es ≡ es
all_front n [] none all = refl
all_front n (e ∷ es) none all =
    let size : tracks_in (e ∷ es) ≡ e.tracks + tracks_in es = tracks_in-cons e es in
    let first : 0 < e.tracks = has_tracks e es none in
    with_first n e es (λ z. absurd (omega (arith, z, size, first, all))) (omega (arith, size, all))
    ∙ ap (λ fs. e ∷ fs) (all_front (n - e.tracks) es (others_have e es none) (omega (arith, size, all)))

-- so a front is that of as many tracks as it has
itself_front : (n : ℕ) (es : List Extent) → empty_among es ≡ 0 → kept_front n es ≡ kept_front (tracks_in (kept_front n es)) es
itself_front n es none =
    elim (cases_lt n (tracks_in es)) [
      | inl part ↦ ap (λ m. kept_front m es) (let is : n ≡ tracks_in (kept_front n es) = omega (arith, front_tracks n es, part) in is)
      | inr all ↦ all_front n es none all
          ∙ sym (all_front (tracks_in (kept_front n es)) es none (let is : tracks_in es ≤ tracks_in (kept_front n es) = omega (arith, front_tracks n es, all) in is))
    ]

abbrev pub or_none : Option (List Extent) → List Extent
or_none None = []
or_none (Some es) = es

-- the extents of a set that has so many tracks behind an event, and had these before
abbrev pub behind : List Extent → List Extent → ℕ → List Extent
behind free before n = kept_front n before ++ or_none (planned free (n - tracks_in before))

to_nothing : (xs : List Extent) → xs ++ [] ≡ xs
to_nothing [] = refl
to_nothing (x ∷ xs) = ap (λ ys. x ∷ ys) (to_nothing xs)

pub front_is : (free before now : List Extent) → empty_among before ≡ 0 → IsFront before now → now ≡ behind free before (tracks_in now)
front_is free before now none f =
    let is : now ≡ kept_front (tracks_in now) before =
    f.1 ∙ itself_front f.0 before none ∙ ap (λ l. kept_front (tracks_in l) before) (sym f.1) in
    let few : tracks_in now ≤ tracks_in before = omega (arith, ap tracks_in f.1, front_tracks f.0 before) in
    let no_more : planned free (tracks_in now - tracks_in before) ≡ Some [] =
    planned_none free (tracks_in now - tracks_in before) (let z : tracks_in now - tracks_in before ≡ 0 = omega (arith, few) in z) in
    is ∙ sym (to_nothing (kept_front (tracks_in now) before)) ∙ ap (λ o. kept_front (tracks_in now) before ++ or_none o) (sym no_more)

pub grown_is : (free before now : List Extent) → empty_among before ≡ 0 → IsGrown free before now → now ≡ behind free before (tracks_in now)
grown_is free before now none g =
    let size : tracks_in now ≡ tracks_in before + tracks_in g.0 = ap tracks_in g.2 ∙ tracks_in-append before g.0 in
    let more : tracks_in now - tracks_in before ≡ tracks_in g.0 = omega (arith, size) in
    let all : kept_front (tracks_in now) before ≡ before = all_front (tracks_in now) before none (omega (arith, size)) in
    let its : planned free (tracks_in now - tracks_in before) ≡ Some g.0 = ap (planned free) more ∙ g.1 in
    g.2 ∙ ap (λ l. l ++ g.0) (sym all) ∙ ap (λ o. kept_front (tracks_in now) before ++ or_none o) (sym its)
