-- Tracks of a kind: what marking does to them, and to others.
use Rattle.std.proofs.Common.{◌≡◌, ◌≢◌, ℕ, ◌+◌, ◌<◌, ◌≤◌, true, false, Bool, cond, List, [], ◌∷◌, length, get_or, Some, refl, ap, sym, ◌∙◌, arith, ⊎_elim}
use Rattle.std.specs.List.{slice_get}
use Rattle.std.proofs.lemmas.Bool.{cases_Bool, cases_lt, true≢false}
use Rattle.std.proofs.lemmas.List.{same_lists}
use Rattle.std.proofs.lemmas.Option.{get_or_from_slice_get, slice_get-get_or, slice_get_within, slice_get_past, same_Some}
use Rattle.extent_core.specs.declared.extent.Extent.{Extent}
use Rattle.extent_core.specs.Extents.{is_in}
use Rattle.vtoc_core.specs.declared.volume.Track.{Track}
use Rattle.vtoc_core.specs.declared.volume.Track.TheVariants.{Free, Aside, InSet, Unusable}
use Rattle.vtoc_core.specs.Volumes.{empty_among, is_in_some, times_in, marked, AreOf, LieApart}
use Rattle.vtoc_core.proofs.MarkLemmas.{length-marked, get_or-marked}
use Rattle.vtoc_core.proofs.FreeLemmas.{empty-cons, times_in-cons}

-- the kinds differ
pub free≢in_set : Free ≢ InSet
free≢in_set h = cc

pub aside≢in_set : Aside ≢ InSet
aside≢in_set h = cc

pub unusable≢in_set : Unusable ≢ InSet
unusable≢in_set h = cc

pub some_in : (k : ℕ) (es : List Extent) → is_in_some k es ≡ true → 0 < times_in k es
some_in k [] h = absurd (true≢false (sym h))
some_in k (e ∷ es) h =
    ⊎_elim
    (λ (b : is_in k e ≡ true). let t : times_in k (e ∷ es) ≡ 1 + times_in k es = times_in-cons k e es ∙ simp b in omega arith)
    (λ (b : is_in k e ≡ false). let i : 0 < times_in k es = some_in k es (simp b at h) in omega (arith, times_in-cons k e es))
    (cases_Bool (is_in k e))

pub none_in : (k : ℕ) (es : List Extent) → is_in_some k es ≡ false → times_in k es ≡ 0
none_in k [] h = refl
none_in k (e ∷ es) h =
    ⊎_elim
    (λ (b : is_in k e ≡ true). absurd (true≢false (simp b at h)))
    (λ (b : is_in k e ≡ false). let i : times_in k es ≡ 0 = none_in k es (simp b at h) in times_in-cons k e es ∙ ap (λ c. cond c 1 0 + times_in k es) b
    ∙ omega arith)
    (cases_Bool (is_in k e))

-- a track that was marked, and one that was not
pub marked_in : (kind : Track) (es : List Extent) (ts : List Track) (k : ℕ) (t : Track) → slice_get ts k ≡ Some t → 0 < times_in k es →
    slice_get (marked kind es ts) k ≡ Some kind
marked_in kind es ts k t h l =
    let m : k < length ts = slice_get_within ts k t h in
    ⊎_elim
    (λ (b : is_in_some k es ≡ true).
    slice_get-get_or (marked kind es ts) k kind (omega (arith, length-marked kind es ts))
    ∙ ap Some (get_or-marked kind es ts k kind m ∙ simp b))
    (λ (b : is_in_some k es ≡ false). absurd (omega (arith, none_in k es b)))
    (cases_Bool (is_in_some k es))

pub marked_not_in : (kind : Track) (es : List Extent) (ts : List Track) (k : ℕ) → times_in k es ≡ 0 → slice_get (marked kind es ts) k ≡ slice_get ts k
marked_not_in kind es ts k z =
    ⊎_elim
    (λ (b : is_in_some k es ≡ true). absurd (omega (arith, some_in k es b)))
    (λ (b : is_in_some k es ≡ false).
    ⊎_elim
    (λ (l : k < length ts).
    slice_get-get_or (marked kind es ts) k kind (omega (arith, length-marked kind es ts))
    ∙ ap Some (get_or-marked kind es ts k kind l ∙ simp b)
    ∙ sym (slice_get-get_or ts k kind l))
    (λ (l : length ts ≤ k). slice_get_past (marked kind es ts) k (omega (arith, length-marked kind es ts)) ∙ sym (slice_get_past ts k l))
    (cases_lt k (length ts)))
    (cases_Bool (is_in_some k es))

-- extents whose tracks were all of one kind are of the kind that they are marked with
pub are_of-marked : (from kind : Track) (es : List Extent) (ts : List Track) → AreOf from ts es → AreOf kind (marked kind es ts) es
are_of-marked from kind es ts a = record {
  kinds = λ k l. marked_in kind es ts k from (a.kinds k l) l;
  once = a.once;
  none_empty = a.none_empty;
}

-- no track is of two kinds
pub apart : (k : ℕ) (a b : Track) (ts : List Track) (es fs : List Extent) → a ≢ b → AreOf a ts es → AreOf b ts fs → 0 < times_in k es → times_in k fs ≡ 0
apart k a b ts es fs n x y l =
    ⊎_elim
    (λ (p : 0 < times_in k fs). absurd (n (same_Some a b (sym (x.kinds k l) ∙ y.kinds k p))))
    (λ (p : times_in k fs ≤ 0). omega arith)
    (cases_lt 0 (times_in k fs))

-- extents of another kind stay as they are
pub are_of_stay : (from kind b : Track) (es fs : List Extent) (ts : List Track) → from ≢ b → AreOf from ts es → AreOf b ts fs → AreOf b (marked kind es ts) fs
are_of_stay from kind b es fs ts n x y = record {
  kinds = λ k l.
      ⊎_elim
      (λ (p : 0 < times_in k es). absurd (omega (arith, apart k from b ts es fs n x y p)))
      (λ (p : times_in k es ≤ 0). marked_not_in kind es ts k (omega arith) ∙ y.kinds k l)
      (cases_lt 0 (times_in k es));
  once = y.once;
  none_empty = y.none_empty;
}

-- tracks that are apart from those marked stay as they are
pub are_of_apart : (kind b : Track) (ts : List Track) (fs es : List Extent) → AreOf b ts fs → LieApart fs es → AreOf b (marked kind es ts) fs
are_of_apart kind b ts fs es y h = record {
  kinds = λ k l. marked_not_in kind es ts k (h k l) ∙ y.kinds k l;
  once = y.once;
  none_empty = y.none_empty;
}

-- extents of one kind behind the first, once that is marked
pub others_stay : (from kind : Track) (e : Extent) (es : List Extent) (ts : List Track) → AreOf from ts (e ∷ es) → AreOf from (marked kind (e ∷ []) ts) es
others_stay from kind e es ts a = record {
  kinds = λ k l.
      let o : times_in k (e ∷ es) ≤ 1 = a.once k in
      let z : times_in k (e ∷ []) ≡ 0 = omega (arith, times_in-cons k e es, times_in-cons k e []) in
      marked_not_in kind (e ∷ []) ts k z ∙ a.kinds k (omega (arith, times_in-cons k e es));
  once = λ k. let o : times_in k (e ∷ es) ≤ 1 = a.once k in omega (arith, times_in-cons k e es);
  none_empty = let z : empty_among (e ∷ es) ≡ 0 = a.none_empty in omega (arith, empty-cons e es);
}

-- tracks that are marked and marked back are as before
marked_twice : (b : Bool) (first last t : Track) → (b ≡ true → t ≡ last) → cond b last (cond b first t) ≡ t
marked_twice true first last t h = sym (h refl)
marked_twice false first last t h = refl

pub marked_back : (first last : Track) (es : List Extent) (ts : List Track) → AreOf last ts es → marked last es (marked first es ts) ≡ ts
marked_back first last es ts a =
    same_lists (marked last es (marked first es ts)) ts
    (length-marked last es (marked first es ts) ∙ length-marked first es ts)
    (λ k d l. let m : k < length ts = omega (arith, length-marked last es (marked first es ts), length-marked first es ts) in
    get_or-marked last es (marked first es ts) k d (omega (arith, length-marked first es ts))
    ∙ ap (λ t. cond (is_in_some k es) last t) (get_or-marked first es ts k d m)
    ∙ marked_twice (is_in_some k es) first last (get_or ts k d)
    (λ q. get_or_from_slice_get ts k last d (a.kinds k (some_in k es q))))
