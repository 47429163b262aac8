-- What each track is: its sets, what is kept, and which tracks are never free say it.
use Rattle.std.proofs.Common.{◌≡◌, ◌≢◌, ◌<◌, ℕ, zero, suc, Bool, true, false, cond, List, [], ◌∷◌, Option, Some, None, refl, sym, ap, ◌∙◌, arith}
use Rattle.std.specs.List.{slice_get}
use Rattle.std.specs.Option.{option_map}
use Rattle.vtoc_core.specs.declared.volume.Track.{Track}
use Rattle.vtoc_core.specs.declared.volume.Track.TheVariants.{Aside, Free, InSet, Unusable}
use Rattle.vtoc_core.specs.Volumes.{count_of, extents_of_all, is_kind, marked, times_in}
use Rattle.vtoc_core.proofs.CountLemmas.{count-cons, moves}
use Rattle.vtoc_core.proofs.KindLemmas.{marked_not_in}
use Rattle.mount_core.specs.Kept.{extents_kept}
use Rattle.mount_core.specs.Mounts.{MountedState, is_unusable, unusable_at}
use Rattle.shared_core.specs.LaidOut.{IsLaidOut}

aside_is_not_free : Aside ≢ Free
aside_is_not_free e = cc

-- one that is there counts
counted : (tracks : List Track) (n : ℕ) → slice_get tracks n ≡ Some Aside → 0 < count_of Aside tracks
counted [] n here = cc
counted (t ∷ ts) zero here =
    let is : t ≡ Aside = cc in
    let one : ◌≡◌ {A = ℕ} (cond (is_kind Aside t) 1 0) 1 = ap (λ k. cond (is_kind Aside k) 1 0) is in
    omega (arith, one, count-cons Aside t ts)
counted (t ∷ ts) (suc n) here = let rest : 0 < count_of Aside ts = counted ts n here in omega (arith, rest, count-cons Aside t ts)

-- a track that lies in so many extents of sets, and of what is kept, and is never free, or is, or is not there
abbrev known : ℕ → ℕ → Option Bool → Option Track
known (suc sets) kept unusable = Some InSet
known zero (suc kept) unusable = Some Aside
known zero zero (Some true) = Some Unusable
known zero zero (Some false) = Some Free
known zero zero None = None

module _ (m : MountedState) (laid_out : IsLaidOut m) where
  abbrev in_sets : ℕ → ℕ
  in_sets n = times_in n (extents_of_all m.volume.sets)

  abbrev in_kept : ℕ → ℕ
  in_kept n = times_in n (extents_kept m.kept)

  -- a track that is aside is kept: were it not, more would be aside than are kept
  is_kept : (n : ℕ) → slice_get m.volume.tracks n ≡ Some Aside → in_kept n ≢ 0
  is_kept n aside out =
      let list = extents_kept m.kept in
      let left : slice_get (marked Free list m.volume.tracks) n ≡ Some Aside = marked_not_in Free list m.volume.tracks n out ∙ aside in
      omega (
        arith,
        (moves Aside Free list m.volume.tracks aside_is_not_free laid_out.kept.aside).fewer,
        laid_out.kept.count,
        counted (marked Free list m.volume.tracks) n left,
      )

  by : (n : ℕ) (track : Option Track) (sets kept : ℕ) → slice_get m.volume.tracks n ≡ track → in_sets n ≡ sets → in_kept n ≡ kept →
      track ≡ known sets kept (option_map is_unusable track)
  by n track (suc sets) kept here some other = sym here ∙ laid_out.sets.in_sets.kinds n (omega (arith, some))
  by n track zero (suc kept) here none some = sym here ∙ laid_out.kept.aside.kinds n (omega (arith, some))
  by n None zero zero here none nor = refl
  by n (Some Free) zero zero here none nor = refl
  by n (Some Unusable) zero zero here none nor = refl
  by n (Some Aside) zero zero here none nor = absurd (is_kept n here nor)
  by n (Some InSet) zero zero here none nor = absurd (omega (arith, laid_out.sets.no_others n here, none))

  pub track_is : (n : ℕ) → slice_get m.volume.tracks n ≡ known (in_sets n) (in_kept n) (unusable_at m.volume.tracks n)
  track_is n = by n (slice_get m.volume.tracks n) (in_sets n) (in_kept n) refl refl refl

by_place : (xs ys : List Track) → ((n : ℕ) → slice_get xs n ≡ slice_get ys n) → xs ≡ ys
by_place [] [] same = refl
by_place [] (y ∷ ys) same = let first : None ≡ Some y = same 0 in absurd cc
by_place (x ∷ xs) [] same = let first : Some x ≡ None = same 0 in absurd cc
by_place (x ∷ xs) (y ∷ ys) same =
    let both : Some x ≡ Some y = same 0 in
    let first : x ≡ y = cc in
    let rest : xs ≡ ys = by_place xs ys (λ n. same (suc n)) in
    λ i. first i ∷ rest i

pub same_tracks : (one other : MountedState) → IsLaidOut one → IsLaidOut other → one.volume.sets ≡ other.volume.sets → one.kept ≡ other.kept →
    ((n : ℕ) → unusable_at one.volume.tracks n ≡ unusable_at other.volume.tracks n) → one.volume.tracks ≡ other.volume.tracks
same_tracks one other laid_out laid_out_too sets kept unusable =
    by_place one.volume.tracks other.volume.tracks
    (λ n. track_is one laid_out n
    ∙ (λ i. known (times_in n (extents_of_all (sets i))) (times_in n (extents_kept (kept i))) (unusable n i))
    ∙ sym (track_is other laid_out_too n))
