-- A volume stays sound: what marking does to the tracks of sets and to those set aside.
use Rattle.std.proofs.Common.{◌≡◌, ◌≢◌, ℕ, ◌+◌, ◌<◌, ◌≤◌, true, false, cond, List, [], ◌∷◌, ◌++◌, length, get_or, replicate, Some, None, Result, Ok, Err, OnOk, OnErr, refl, ap, sym, ◌∙◌, subst, arith, ⊎_elim}
use Rattle.std.specs.FinMap.{empty, entries, get, insert, len-empty, len-entries, remove}
use Rattle.std.specs.List.{flat_map, slice_get}
use Rattle.std.proofs.lemmas.Bool.{cases_Bool, cases_lt}
use Rattle.std.proofs.lemmas.List.{get_or-replicate, length-replicate}
use Rattle.std.proofs.lemmas.Option.{get_or_from_slice_get, slice_get_within, same_Some}
use Rattle.jcl_plan.specs.declared.plan.TheConstants.{MOST_TRACKS}
use Rattle.extent_core.specs.declared.extent.Extent.{Extent}
use Rattle.vtoc_core.specs.declared.entry.SetEntry.{SetEntry}
use Rattle.vtoc_core.specs.declared.entry.SetKey.{SetKey}
use Rattle.vtoc_core.specs.declared.volume.Track.{Track}
use Rattle.vtoc_core.specs.declared.volume.Track.TheVariants.{Free, InSet, Unusable}
use Rattle.vtoc_core.specs.Entries.{Sets, changed, key_cmp, with_records}
use Rattle.vtoc_core.specs.Extents.{kept_front, past_front}
use Rattle.vtoc_core.specs.Volumes.{VolumeState, empty_among, is_in_some, times_in, marked, AreOf, IsSoundVolume, extents_of_all, first_tracks}
use Rattle.vtoc_core.proofs.CutLemmas.{empty_in_parts, times_in_parts}
use Rattle.vtoc_core.proofs.FreeLemmas.{empty-append, times_in-append}
use Rattle.vtoc_core.proofs.KindLemmas.{apart, are_of_stay, free≢in_set, marked_in, marked_not_in, unusable≢in_set}
use Rattle.vtoc_core.proofs.LargestLemmas.{none_or_some}
use Rattle.vtoc_core.proofs.MapLemmas.{changed_is, not_changed, size_fewer, size_more, size_other, times_in_fewer, times_in_more, times_in_other}
use Rattle.vtoc_core.proofs.MarkLemmas.{length-marked, get_or-marked}

-- tracks of no set become tracks of no set
pub sound_aside : (from kind : Track) (v : VolumeState) (es : List Extent) → from ≢ InSet → kind ≢ InSet → AreOf from v.tracks es → IsSoundVolume v →
    IsSoundVolume (record { tracks = marked kind es v.tracks; sets = v.sets })
sound_aside from kind v es n m a s = record {
  in_sets = are_of_stay from kind InSet es (extents_of_all v.sets) v.tracks n a s.in_sets;
  no_others = λ k h.
      ⊎_elim
      (λ (p : 0 < times_in k es). absurd (m (same_Some kind InSet (sym (marked_in kind es v.tracks k from (a.kinds k p) p) ∙ h))))
      (λ (p : times_in k es ≤ 0). s.no_others k (sym (marked_not_in kind es v.tracks k (omega arith)) ∙ h))
      (cases_lt 0 (times_in k es));
  size = let l = length-marked kind es v.tracks in let z = s.size in omega arith;
}

-- extents without a track among those of all sets, once a set is there, is not there, or is another
empty_more : (m : Sets) (key : SetKey) (e : SetEntry) → get m key ≡ None →
    empty_among (extents_of_all (insert m key e)) ≡ empty_among (extents_of_all m) + empty_among e.extents.items
empty_more = size_more empty_among empty-append

empty_fewer : (m : Sets) (key : SetKey) (e : SetEntry) → get m key ≡ Some e →
    empty_among (extents_of_all m) ≡ empty_among (extents_of_all (remove m key)) + empty_among e.extents.items
empty_fewer = size_fewer empty_among empty-append

empty_other : (m : Sets) (key : SetKey) (e : SetEntry) →
    empty_among (extents_of_all (insert m key e)) ≡ empty_among (extents_of_all (remove m key)) + empty_among e.extents.items
empty_other = size_other empty_among empty-append

-- tracks of no set become those of a set
pub sound_more : (from : Track) (v : VolumeState) (es : List Extent) (sets : Sets) → from ≢ InSet → AreOf from v.tracks es →
    ((k : ℕ) → times_in k (extents_of_all sets) ≡ times_in k (extents_of_all v.sets) + times_in k es) →
    empty_among (extents_of_all sets) ≡ empty_among (extents_of_all v.sets) + empty_among es → IsSoundVolume v →
    IsSoundVolume (record { tracks = marked InSet es v.tracks; sets = sets })
sound_more from v es sets n a t z s = record {
  in_sets = record {
    kinds = λ k l.
        ⊎_elim
        (λ (p : 0 < times_in k es). marked_in InSet es v.tracks k from (a.kinds k p) p)
        (λ (p : times_in k es ≤ 0). marked_not_in InSet es v.tracks k (omega arith) ∙ s.in_sets.kinds k (let q = t k in omega arith))
        (cases_lt 0 (times_in k es));
    once = λ k.
        let q = t k in
        let o = s.in_sets.once k in
        let r = a.once k in
        ⊎_elim
        (λ (p : 0 < times_in k es). let z : times_in k (extents_of_all v.sets) ≡ 0 =
        apart k from InSet v.tracks es (extents_of_all v.sets) n a s.in_sets p in omega arith)
        (λ (p : times_in k es ≤ 0). omega arith)
        (cases_lt 0 (times_in k es));
    none_empty = omega (arith, z, a.none_empty, s.in_sets.none_empty);
  };
  no_others = λ k h.
      let q = t k in
      ⊎_elim
      (λ (p : 0 < times_in k es). omega arith)
      (λ (p : times_in k es ≤ 0). let i : 0 < times_in k (extents_of_all v.sets) =
      s.no_others k (sym (marked_not_in InSet es v.tracks k (omega arith)) ∙ h) in omega arith)
      (cases_lt 0 (times_in k es));
  size = let l = length-marked InSet es v.tracks in let z = s.size in omega arith;
}

-- tracks of sets become free
pub sound_fewer : (v : VolumeState) (es : List Extent) (sets : Sets) →
    ((k : ℕ) → times_in k (extents_of_all v.sets) ≡ times_in k (extents_of_all sets) + times_in k es) →
    empty_among (extents_of_all v.sets) ≡ empty_among (extents_of_all sets) + empty_among es → IsSoundVolume v →
    IsSoundVolume (record { tracks = marked Free es v.tracks; sets = sets })
sound_fewer v es sets t z s = record {
  in_sets = record {
    kinds = λ k l.
        let q = t k in
        let o = s.in_sets.once k in
        marked_not_in Free es v.tracks k (omega arith) ∙ s.in_sets.kinds k (omega arith);
    once = λ k. let q = t k in let o = s.in_sets.once k in omega arith;
    none_empty = omega (arith, z, s.in_sets.none_empty);
  };
  no_others = λ k h.
      let q = t k in
      ⊎_elim
      (λ (p : 0 < times_in k es). absurd
      (free≢in_set (same_Some Free InSet (sym (marked_in Free es v.tracks k InSet (s.in_sets.kinds k (omega arith)) p) ∙ h))))
      (λ (p : times_in k es ≤ 0). let i : 0 < times_in k (extents_of_all v.sets) =
      s.no_others k (sym (marked_not_in Free es v.tracks k (omega arith)) ∙ h) in omega arith)
      (cases_lt 0 (times_in k es));
  size = let l = length-marked Free es v.tracks in let z = s.size in omega arith;
}

-- a new volume is sound
first_kind : (n : ℕ) (es : List Extent) (k : ℕ) → slice_get (marked Unusable es (replicate n Free)) k ≡ Some InSet → ⊥
first_kind n es k h =
    let l : k < n = omega
    (arith, slice_get_within (marked Unusable es (replicate n Free)) k InSet h, length-marked Unusable es (replicate n Free), length-replicate n Free) in
    let g : cond (is_in_some k es) Unusable (get_or (replicate n Free) k InSet) ≡ InSet
    = sym (get_or-marked Unusable es (replicate n Free) k InSet (omega (arith, length-replicate n Free)))
    ∙ get_or_from_slice_get (marked Unusable es (replicate n Free)) k InSet InSet h in
    ⊎_elim
    (λ (b : is_in_some k es ≡ true). unusable≢in_set (simp b at g))
    (λ (b : is_in_some k es ≡ false). free≢in_set
    (sym (get_or-replicate n k Free InSet l) ∙ (let f : get_or (replicate n Free) k InSet ≡ InSet = simp b at g in f)))
    (cases_Bool (is_in_some k es))

nothing : {X : Type 0} (xs : List X) → length xs ≡ 0 → xs ≡ []
nothing [] h = refl
nothing (x ∷ xs) h = absurd (omega arith)

nothing_of_empty : extents_of_all empty ≡ []
nothing_of_empty = ap (λ es. flat_map (λ (s : SetKey × SetEntry). s.1.extents.items) es)
    (nothing (entries (empty {R = key_cmp})) (sym (len-entries empty) ∙ len-empty key_cmp SetEntry))

none_of_empty : (k : ℕ) → times_in k (extents_of_all empty) ≡ 0
none_of_empty k = ap (times_in k) nothing_of_empty

pub sound_first : (n : ℕ) (es : List Extent) → n ≤ MOST_TRACKS → IsSoundVolume (record { tracks = first_tracks n es; sets = empty })
sound_first n es l = record {
  in_sets = record {
    kinds = λ k m. absurd (omega (arith, none_of_empty k));
    once = λ k. omega (arith, none_of_empty k);
    none_empty = ap empty_among nothing_of_empty;
  };
  no_others = λ k h. absurd (first_kind n es k h);
  size = omega (arith, length-marked Unusable es (replicate n Free), length-replicate n Free);
}

-- what the calls leave sound: a set made, scratched, grown, cut, or with other records
pub sound_made : (from : Track) (v : VolumeState) (es : List Extent) (key : SetKey) (e : SetEntry) → from ≢ InSet → AreOf from v.tracks es →
    e.extents.items ≡ es → get v.sets key ≡ None → IsSoundVolume v → IsSoundVolume (record { tracks = marked InSet es v.tracks; sets = insert v.sets key e })
sound_made from v es key e n a t h s =
    sound_more from v es (insert v.sets key e) n a
    (λ k. times_in_more k v.sets key e h ∙ ap (λ fs. times_in k (extents_of_all v.sets) + times_in k fs) t)
    (empty_more v.sets key e h ∙ ap (λ fs. empty_among (extents_of_all v.sets) + empty_among fs) t) s

pub sound_scratched : (v : VolumeState) (key : SetKey) (e : SetEntry) → get v.sets key ≡ Some e → IsSoundVolume v →
    IsSoundVolume (record { tracks = marked Free e.extents.items v.tracks; sets = remove v.sets key })
sound_scratched v key e h s = sound_fewer v e.extents.items (remove v.sets key) (λ k. times_in_fewer k v.sets key e h)
    (empty_fewer v.sets key e h) s

pub sound_grown : (v : VolumeState) (es : List Extent) (key : SetKey) (e f : SetEntry) → AreOf Free v.tracks es → get v.sets key ≡ Some e →
    f.extents.items ≡ e.extents.items ++ es → IsSoundVolume v → IsSoundVolume (record { tracks = marked InSet es v.tracks; sets = insert v.sets key f })
sound_grown v es key e f a h t s =
    sound_more Free v es (insert v.sets key f) free≢in_set a
    (λ k.
    let r : times_in k f.extents.items ≡ times_in k e.extents.items + times_in k es = ap (times_in k) t ∙ times_in-append k e.extents.items es in
    omega (arith, times_in_fewer k v.sets key e h, times_in_other k v.sets key f))
    (let r : empty_among f.extents.items ≡ empty_among e.extents.items + empty_among es = ap empty_among t ∙ empty-append e.extents.items es in
    omega (arith, empty_fewer v.sets key e h, empty_other v.sets key f)) s

pub sound_cut : (v : VolumeState) (n : ℕ) (key : SetKey) (e f : SetEntry) → get v.sets key ≡ Some e → f.extents.items ≡ kept_front n e.extents.items →
    IsSoundVolume v → IsSoundVolume (record { tracks = marked Free (past_front n e.extents.items) v.tracks; sets = insert v.sets key f })
sound_cut v n key e f h t s =
    sound_fewer v (past_front n e.extents.items) (insert v.sets key f)
    (λ k.
    let r : times_in k f.extents.items ≡ times_in k (kept_front n e.extents.items) = ap (times_in k) t in
    omega (arith, times_in_parts k n e.extents.items, times_in_fewer k v.sets key e h, times_in_other k v.sets key f))
    (let r : empty_among f.extents.items ≡ empty_among (kept_front n e.extents.items) = ap empty_among t in
    omega (arith, empty_in_parts n e.extents.items, empty_fewer v.sets key e h, empty_other v.sets key f)) s

pub sound_same : (v : VolumeState) (key : SetKey) (e f : SetEntry) → get v.sets key ≡ Some e → f.extents.items ≡ e.extents.items → IsSoundVolume v →
    IsSoundVolume (record { tracks = v.tracks; sets = insert v.sets key f })
sound_same v key e f h t s =
    let same : (k : ℕ) → times_in k (extents_of_all (insert v.sets key f)) ≡ times_in k (extents_of_all v.sets) =
    λ k. let r : times_in k f.extents.items ≡ times_in k e.extents.items = ap (times_in k) t in
    omega (arith, times_in_fewer k v.sets key e h, times_in_other k v.sets key f) in
    record {
      in_sets = record {
        kinds = λ k l. let q = same k in s.in_sets.kinds k (omega arith);
        once = λ k. let q = same k in let o = s.in_sets.once k in
            omega arith;
        none_empty =
            let r : empty_among f.extents.items ≡ empty_among e.extents.items = ap empty_among t in
            omega (arith, empty_fewer v.sets key e h, empty_other v.sets key f, s.in_sets.none_empty);
      };
      no_others = λ k h. let q = same k in let o = s.no_others k h in omega arith;
      size = s.size;
    }

-- the tracks of a set are marked as those of sets, each once
pub set_tracks : (v : VolumeState) (key : SetKey) (e : SetEntry) → get v.sets key ≡ Some e → IsSoundVolume v → AreOf InSet v.tracks e.extents.items
set_tracks v key e h s = record {
  kinds = λ k l. s.in_sets.kinds k (omega (arith, times_in_fewer k v.sets key e h));
  once = λ k. let o = s.in_sets.once k in omega (arith, times_in_fewer k v.sets key e h);
  none_empty = omega (arith, empty_fewer v.sets key e h, s.in_sets.none_empty);
}

pub past_tracks : (v : VolumeState) (n : ℕ) (key : SetKey) (e : SetEntry) → get v.sets key ≡ Some e → IsSoundVolume v →
    AreOf InSet v.tracks (past_front n e.extents.items)
past_tracks v n key e h s =
    let a : AreOf InSet v.tracks e.extents.items = set_tracks v key e h s in
    record {
      kinds = λ k l. a.kinds k (omega (arith, times_in_parts k n e.extents.items));
      once = λ k. let o = a.once k in omega (arith, times_in_parts k n e.extents.items);
      none_empty = omega (arith, empty_in_parts n e.extents.items, a.none_empty);
    }

-- and lie on the volume
pub set_below : (v : VolumeState) (key : SetKey) (e : SetEntry) (k : ℕ) → get v.sets key ≡ Some e → 0 < times_in k e.extents.items → IsSoundVolume v → k < MOST_TRACKS
set_below v key e k h l s =
    let a : AreOf InSet v.tracks e.extents.items = set_tracks v key e h s in
    omega (arith, slice_get_within v.tracks k InSet (a.kinds k l), s.size)

-- a volume with these tracks and these sets
pub sound_as : (ts us : List Track) (ss rs : Sets) → us ≡ ts → rs ≡ ss → IsSoundVolume (record { tracks = ts; sets = ss }) →
    IsSoundVolume (record { tracks = us; sets = rs })
sound_as ts us ss rs p q s =
    subst (λ (xs : List Track). IsSoundVolume (record { tracks = xs; sets = rs })) (sym p)
    (subst (λ (xs : Sets). IsSoundVolume (record { tracks = ts; sets = xs })) (sym q) s)

-- a set with other records
sound_kept : (v : VolumeState) (key : SetKey) (f : List (List ℕ) → List (List ℕ)) → IsSoundVolume v →
    IsSoundVolume (record { tracks = v.tracks; sets = changed v.sets key (with_records f) })
sound_kept v key f s =
    ⊎_elim
    (λ (h : get v.sets key ≡ None). sound_as v.tracks v.tracks v.sets (changed v.sets key (with_records f)) refl (not_changed v.sets key (with_records f) h) s)
    (λ (p : (e : SetEntry) × (get v.sets key ≡ Some e)).
    sound_as v.tracks v.tracks (insert v.sets key (with_records f p.0)) (changed v.sets key (with_records f)) refl
    (changed_is v.sets key (with_records f) p.0 p.1)
    (sound_same v key p.0 (with_records f p.0) p.1 refl s))
    (none_or_some (get v.sets key))

pub sound_by : (v : VolumeState) (key : SetKey) (f : List (List ℕ) → List (List ℕ)) (rs : Sets) → rs ≡ changed v.sets key (with_records f) → IsSoundVolume v →
    IsSoundVolume (record { tracks = v.tracks; sets = rs })
sound_by v key f rs q s = sound_as v.tracks v.tracks (changed v.sets key (with_records f)) rs refl q (sound_kept v key f s)

pub sound_tried : {A E : Type 0} (r : Result A E) (v : VolumeState) (key : SetKey) (f : List (List ℕ) → List (List ℕ)) (rs : Sets) →
    OnOk r (rs ≡ changed v.sets key (with_records f)) → OnErr r (rs ≡ v.sets) → IsSoundVolume v → IsSoundVolume (record { tracks = v.tracks; sets = rs })
sound_tried (Ok x) v key f rs q o s = sound_by v key f rs q s
sound_tried (Err x) v key f rs q o s = sound_as v.tracks v.tracks v.sets rs refl o s

pub same_state : (ts us : List Track) (ss rs : Sets) → ts ≡ us → ss ≡ rs →
    ◌≡◌ {A = VolumeState} (record { tracks = ts; sets = ss }) (record { tracks = us; sets = rs })
same_state ts us ss rs p q =
    ap (λ (xs : List Track). let v : VolumeState = record { tracks = xs; sets = ss } in v) p
    ∙ ap (λ (xs : Sets). let v : VolumeState = record { tracks = us; sets = xs } in v) q
