-- What is kept stays kept: what marking and taking lists out or in do to the tracks set aside.
use Rattle.std.proofs.Common.{◌≡◌, ◌≢◌, ℕ, zero, suc, ◌+◌, ◌<◌, ◌≤◌, Bool, true, false, cond, is_some, length, replicate, List, [], ◌∷◌, ◌++◌, Option, Some, None, refl, ap, sym, ◌∙◌, subst, arith, ⊎_elim}
use Rattle.std.specs.FinMap.{empty, entries, get, insert, len-empty, len-entries, remove}
use Rattle.std.specs.List.{flat_map}
use Rattle.std.proofs.lemmas.Bool.{cases_lt}
use Rattle.extent_core.specs.declared.extent.Extent.{Extent}
use Rattle.vtoc_core.specs.declared.volume.Track.{Track}
use Rattle.vtoc_core.specs.declared.volume.Track.TheVariants.{Free, Aside, Unusable}
use Rattle.vtoc_core.specs.Extents.{tracks_in}
use Rattle.vtoc_core.specs.Volumes.{AreOf, count_of, empty_among, first_tracks, is_in_some, is_kind, marked, marked_from, times_in}
use Rattle.vtoc_core.proofs.CountLemmas.{count-cons}
use Rattle.vtoc_core.proofs.FreeLemmas.{empty-append, times_in-append}
use Rattle.vtoc_core.proofs.KindLemmas.{apart, are_of_stay, marked_in, marked_not_in}
use Rattle.vtoc_core.proofs.PlanLemmas.{tracks_in-cons}
use Rattle.mount_core.specs.declared.place.KeptPlace.{KeptPlace}
use Rattle.mount_core.specs.Kept.{AreKept, Kept, extents_kept, place_cmp}
use Rattle.mount_core.proofs.KeptMaps.{Entry}
use Rattle.mount_core.proofs.KeptTracks.{size_fewer, size_more}

pub tracks_in-append : (es fs : List Extent) → tracks_in (es ++ fs) ≡ tracks_in es + tracks_in fs
tracks_in-append [] fs = omega arith
tracks_in-append (e ∷ es) fs =
    let i : tracks_in (es ++ fs) ≡ tracks_in es + tracks_in fs = tracks_in-append es fs in
    omega (arith, i, tracks_in-cons e (es ++ fs), tracks_in-cons e es)

free≢aside : Free ≢ Aside
free≢aside h = absurd cc

module _ (tracks : List Track) (kept : Kept) (place : KeptPlace) where
  -- how often a track lies in the lists, with a list more or fewer
  more_times : (k : ℕ) (list : List Extent) → get kept place ≡ None →
      times_in k (extents_kept (insert kept place list)) ≡ times_in k (extents_kept kept) + times_in k list
  more_times k list h = size_more (times_in k) (times_in-append k) kept place list h

  fewer_times : (k : ℕ) (v : Entry) → get kept place ≡ Some v → times_in k (extents_kept kept) ≡ times_in k (extents_kept (remove kept place)) + times_in k v
  fewer_times k v h = size_fewer (times_in k) (times_in-append k) kept place v h

  -- and how many extents have no track
  more_empty : (list : List Extent) → get kept place ≡ None →
      empty_among (extents_kept (insert kept place list)) ≡ empty_among (extents_kept kept) + empty_among list
  more_empty list h = size_more empty_among empty-append kept place list h

  fewer_empty : (v : Entry) → get kept place ≡ Some v → empty_among (extents_kept kept) ≡ empty_among (extents_kept (remove kept place)) + empty_among v
  fewer_empty v h = size_fewer empty_among empty-append kept place v h

  -- a list that is kept is aside
  pub list_kept : (list : List Extent) → get kept place ≡ Some list → AreKept tracks kept → AreOf Aside tracks list
  list_kept list h a = record {
    kinds = λ k l. a.aside.kinds k (omega (arith, fewer_times k list h));
    once = λ k. let o = a.aside.once k in omega (arith, fewer_times k list h);
    none_empty = omega (arith, fewer_empty list h, a.aside.none_empty);
  }

  -- one list more
  pub one_kept : (list : List Extent) (n : ℕ) (now : List Track) → get kept place ≡ None → AreOf Free tracks list → tracks_in list ≡ n → now ≡ marked Aside list tracks →
      count_of Aside now ≡ count_of Aside tracks + n → AreKept tracks kept → AreKept now (insert kept place list)
  one_kept list n now h f s q c a = subst (λ ts. AreKept ts (insert kept place list)) (sym q) (record {
    aside = record {
      kinds = λ k l.
          let t = more_times k list h in
          ⊎_elim
          (λ (p : 0 < times_in k list). marked_in Aside list tracks k Free (f.kinds k p) p)
          (λ (p : times_in k list ≤ 0). marked_not_in Aside list tracks k (omega arith) ∙ a.aside.kinds k (omega arith))
          (cases_lt 0 (times_in k list));
      once = λ k.
          let t = more_times k list h in
          let o = a.aside.once k in
          let r = f.once k in
          ⊎_elim
          (λ (p : 0 < times_in k list). let z : times_in k (extents_kept kept) ≡ 0 = apart k Free Aside tracks list (extents_kept kept) free≢aside f a.aside p in omega arith)
          (λ (p : times_in k list ≤ 0). omega arith)
          (cases_lt 0 (times_in k list));
      none_empty = omega (arith, more_empty list h, f.none_empty, a.aside.none_empty);
    };
    count =
        let t : tracks_in (extents_kept (insert kept place list)) ≡ tracks_in (extents_kept kept) + tracks_in list = size_more tracks_in tracks_in-append kept place list h in
        let d : count_of Aside (marked Aside list tracks) ≡ count_of Aside tracks + n = sym (ap (count_of Aside) q) ∙ c in
        omega (arith, t, d, s, a.count);
  })

  -- one list fewer, whose tracks are now of another kind
  pub one_fewer : (kind : Track) (list : List Extent) (now : List Track) → get kept place ≡ Some list → now ≡ marked kind list tracks →
      count_of Aside now + tracks_in list ≡ count_of Aside tracks → AreKept tracks kept → AreKept now (remove kept place)
  one_fewer kind list now h q c a = subst (λ ts. AreKept ts (remove kept place)) (sym q) (record {
    aside = record {
      kinds = λ k l.
          let t = fewer_times k list h in
          let o = a.aside.once k in
          marked_not_in kind list tracks k (omega arith) ∙ a.aside.kinds k (omega arith);
      once = λ k. let o = a.aside.once k in omega (arith, fewer_times k list h);
      none_empty = omega (arith, fewer_empty list h, a.aside.none_empty);
    };
    count =
        let t : tracks_in (extents_kept kept) ≡ tracks_in (extents_kept (remove kept place)) + tracks_in list = size_fewer tracks_in tracks_in-append kept place list h in
        let d : count_of Aside (marked kind list tracks) + tracks_in list ≡ count_of Aside tracks = sym (ap (λ ts. count_of Aside ts + tracks_in list) q) ∙ c in
        omega (arith, t, d, a.count);
  })

-- other tracks of another kind
pub others_kept : (from kind : Track) (tracks now : List Track) (es : List Extent) (kept : Kept) → from ≢ Aside → AreOf from tracks es → now ≡ marked kind es tracks →
    count_of Aside now ≡ count_of Aside tracks → AreKept tracks kept → AreKept now kept
others_kept from kind tracks now es kept n x q c a = subst (λ ts. AreKept ts kept) (sym q) (record {
  aside = are_of_stay from kind Aside es (extents_kept kept) tracks n x a.aside;
  count = a.count ∙ sym (sym (ap (count_of Aside) q) ∙ c);
})

-- a new volume has no track aside
no_aside : (b : Bool) → ◌≡◌ {A = ℕ} (cond (is_kind Aside (cond b Unusable Free)) 1 0) 0
no_aside true = refl
no_aside false = refl

first_aside : (n at : ℕ) (es : List Extent) → count_of Aside (marked_from at Unusable es (replicate n Free)) ≡ 0
first_aside zero at es = refl
first_aside (suc n) at es =
    let i : count_of Aside (marked_from (at + 1) Unusable es (replicate n Free)) ≡ 0 = first_aside n (at + 1) es in
    let q : cond (is_kind Aside (cond (is_in_some at es) Unusable Free)) 1 0 ≡ 0 = no_aside (is_in_some at es) in
    count-cons Aside (cond (is_in_some at es) Unusable Free) (marked_from (at + 1) Unusable es (replicate n Free)) ∙ omega (arith, i, q)

no_entries : (es : List (KeptPlace × Entry)) → length es ≡ 0 → es ≡ []
no_entries [] h = refl
no_entries (e ∷ es) h = absurd cc

none_in : extents_kept empty ≡ []
none_in = ap (flat_map (λ e. e.1)) (no_entries (entries (empty {R = place_cmp})) (sym (len-entries empty) ∙ len-empty place_cmp Entry))

pub first_kept : (n : ℕ) (es : List Extent) (tracks : List Track) (kept : Kept) → tracks ≡ first_tracks n es → kept ≡ empty → AreKept tracks kept
first_kept n es tracks kept q r = subst (λ ts. AreKept ts kept) (sym q) (subst (AreKept (first_tracks n es)) (sym r) (record {
  aside = record {
    kinds = λ k l. let z : times_in k (extents_kept empty) ≡ 0 = ap (times_in k) none_in in absurd (omega arith);
    once = λ k. let z : times_in k (extents_kept empty) ≡ 0 = ap (times_in k) none_in in omega arith;
    none_empty = ap empty_among none_in;
  };
  count = ap tracks_in none_in ∙ sym (first_aside n 0 es);
}))

absent : (o : Option Entry) → is_some o ≡ false → o ≡ None
absent None h = refl
absent (Some v) h = absurd cc

pub not_taken : (kept : Kept) (place : KeptPlace) → is_some (get kept place) ≡ false → get kept place ≡ None
not_taken kept place h = absent (get kept place) h
