-- Which tracks are free after a change of the numbers of tracks of free extents.
use Rattle.std.proofs.Common.{◌≡◌, ◌≢◌, ℕ, ◌+◌, ◌-◌, ◌<◌, ◌≤◌, inl, inr, Bool, true, false, cond, List, length, get_or, set, replicate, Some, refl, ap, sym, ◌∙◌, subst, arith, ⊎_elim, get_or-set_same, get_or-set_other, length-set}
use Rattle.std.specs.List.{slice_get}
use Rattle.std.proofs.lemmas.Bool.{cases_Bool, cases_lt, false≢true}
use Rattle.std.proofs.lemmas.List.{length-replicate, get_or-replicate, get_or_default, get_or_read, same_lists}
use Rattle.std.proofs.lemmas.Option.{get_or_from_slice_get, slice_get_within}
use Rattle.extent_core.specs.declared.extent.Extent.{Extent}
use Rattle.extent_core.specs.Extents.{IsTaken, is_in, marked}
use Rattle.extent_core.specs.Sizes.{AreKept, tracks_of}
use Rattle.extent_core.proofs.Changes.{IsFreeing, IsTaking, behind_within, freed_reached, freed_reaches, in_front, taken_reached, taken_reaches}
use Rattle.extent_core.proofs.Covering.{Reaches, free_is_reached, length-tracks_of, reached_is_free}
use Rattle.extent_core.proofs.Marking.{get_or-marked, is_in_before, is_in_behind, is_in_within, length-marked_from, within_is_in}

same_bools : (b c : Bool) → (b ≡ true → c ≡ true) → (c ≡ true → b ≡ true) → b ≡ c
same_bools true c there back = sym (there refl)
same_bools false true there back = back refl
same_bools false false there back = refl

-- the same tracks are free
pub same_tracks : (xs ys : List Bool) → length xs ≡ length ys → ((k : ℕ) → k < length xs → get_or xs k false ≡ true → get_or ys k false ≡ true) → ((k : ℕ) → k < length xs → get_or ys k false ≡ true → get_or xs k false ≡ true) → xs ≡ ys
same_tracks xs ys q there back =
    same_lists xs ys q
    (λ k d l. get_or_default xs k d false l ∙ same_bools (get_or xs k false) (get_or ys k false) (there k l) (back k l) ∙ get_or_default ys k false d (omega arith))

pub tracks_freed : (count : ℕ) (sizes ends new_sizes new_ends : List ℕ) (s z a b : ℕ) (e : Extent) → IsFreeing count sizes ends new_sizes new_ends s z a b → e.start ≡ s → e.tracks ≡ z → tracks_of count new_sizes ≡ marked true e (tracks_of count sizes)
tracks_freed count sizes ends new_sizes new_ends s z a b e f start tracks =
    let old = tracks_of count sizes in
    let size : length old ≡ count = length-tracks_of count sizes f.kept.room in
    let new_size : length (tracks_of count new_sizes) ≡ count = length-tracks_of count new_sizes f.room in
    same_tracks (tracks_of count new_sizes) (marked true e old) (omega (arith, length-marked_from 0 true e old))
    (λ k l h. get_or-marked true e old k false (omega arith) ∙
    ⊎_elim
    (λ (i : is_in k e ≡ true). simp i)
    (λ (o : is_in k e ≡ false). simp o
    (⊎_elim
    (λ (i : (s ≤ k) × (k < s + z)). absurd (false≢true (sym o ∙ is_in_within k e (omega (arith, i.0)) (omega (arith, i.1)))))
    (λ (r : Reaches sizes k). reached_is_free count sizes k f.kept.room (omega arith) r)
    (freed_reached count sizes ends new_sizes new_ends s z a b f k (free_is_reached count new_sizes k (omega arith) h))))
    (cases_Bool (is_in k e)))
    (λ k l h. reached_is_free count new_sizes k f.room (omega arith) (freed_reaches count sizes ends new_sizes new_ends s z a b f k
    (⊎_elim
    (λ (i : is_in k e ≡ true). let w = within_is_in k e i in inl (omega (arith, w.0), omega (arith, w.1)))
    (λ (o : is_in k e ≡ false).
    let g : cond (is_in k e) true (get_or old k false) ≡ true = sym (get_or-marked true e old k false (omega arith)) ∙ h in
    inr (free_is_reached count sizes k (omega arith) (simp o at g)))
    (cases_Bool (is_in k e)))))

pub tracks_taken : (count : ℕ) (sizes ends new_sizes new_ends : List ℕ) (s n left : ℕ) (e : Extent) → IsTaking count sizes ends new_sizes new_ends s n left → e.start ≡ s → e.tracks ≡ n → tracks_of count new_sizes ≡ marked false e (tracks_of count sizes)
tracks_taken count sizes ends new_sizes new_ends s n left e f start tracks =
    let old = tracks_of count sizes in
    let size : length old ≡ count = length-tracks_of count sizes f.kept.room in
    let new_size : length (tracks_of count new_sizes) ≡ count = length-tracks_of count new_sizes f.room in
    same_tracks (tracks_of count new_sizes) (marked false e old) (omega (arith, length-marked_from 0 false e old))
    (λ k l h. get_or-marked false e old k false (omega arith) ∙
    let r = taken_reached count sizes ends new_sizes new_ends s n left f k (free_is_reached count new_sizes k (omega arith) h) in
    let o : is_in k e ≡ false = ⊎_elim (λ (i : k < s). is_in_before k e (omega arith)) (λ (i : s + n ≤ k). is_in_behind k e (omega arith)) r.0 in
    simp o (reached_is_free count sizes k f.kept.room (omega arith) r.1))
    (λ k l h.
    let g : cond (is_in k e) false (get_or old k false) ≡ true = sym (get_or-marked false e old k false (omega arith)) ∙ h in
    ⊎_elim
    (λ (i : is_in k e ≡ true). absurd (false≢true (simp i at g)))
    (λ (o : is_in k e ≡ false).
    reached_is_free count new_sizes k f.room (omega arith) (taken_reaches count sizes ends new_sizes new_ends s n left f k
    (⊎_elim
    (λ (m : k < s). inl m)
    (λ (m : s ≤ k). ⊎_elim (λ (p : k < s + n). absurd (false≢true (sym o ∙ is_in_within k e (omega arith) (omega arith)))) (λ (p : s + n ≤ k). inr p) (cases_lt k (s + n)))
    (cases_lt k s))
    (free_is_reached count sizes k (omega arith) (simp o at g))))
    (cases_Bool (is_in k e)))

-- no extent reaches a track that is taken
taken_reached_not : (count : ℕ) (sizes : List ℕ) (e : Extent) (k : ℕ) → count < length sizes → IsTaken (tracks_of count sizes) e → e.start ≤ k → k < e.start + e.tracks → Reaches sizes k → ⊥
taken_reached_not count sizes e k room taken low high r =
    let tracks = tracks_of count sizes in
    let at : slice_get tracks k ≡ Some false = taken k (is_in_within k e low high) in
    let l : k < length tracks = slice_get_within tracks k false at in
    let l' : k < count = omega (arith, length-tracks_of count sizes room) in
    false≢true (sym (get_or_from_slice_get tracks k false false at) ∙ reached_is_free count sizes k room l' r)

pub taken_inside : (count : ℕ) (sizes : List ℕ) (e : Extent) → count < length sizes → IsTaken (tracks_of count sizes) e → 0 < e.tracks → e.start + e.tracks ≤ count
taken_inside count sizes e room taken some =
    let tracks = tracks_of count sizes in
    let k = e.start + e.tracks - 1 in
    let l : k < length tracks = slice_get_within tracks k false (taken k (is_in_within k e (omega arith) (omega arith))) in
    omega (arith, length-tracks_of count sizes room)

pub taken_none : (count : ℕ) (sizes : List ℕ) (e : Extent) → count < length sizes → IsTaken (tracks_of count sizes) e → (k : ℕ) → e.start ≤ k → k < e.start + e.tracks → get_or sizes k 0 ≡ 0
taken_none count sizes e room taken k low high =
    ⊎_elim
    (λ (l : 0 < get_or sizes k 0). absurd (taken_reached_not count sizes e k room taken low high (k, omega arith, omega arith)))
    (λ (l : get_or sizes k 0 ≤ 0). omega arith)
    (cases_lt 0 (get_or sizes k 0))

pub taken_short : (count : ℕ) (sizes : List ℕ) (e : Extent) → count < length sizes → IsTaken (tracks_of count sizes) e → 0 < e.tracks → (k : ℕ) → k < e.start → k + get_or sizes k 0 ≤ e.start
taken_short count sizes e room taken some k l =
    ⊎_elim
    (λ (h : e.start < k + get_or sizes k 0). absurd (taken_reached_not count sizes e e.start room taken (omega arith) (omega arith) (k, omega arith, h)))
    (λ (h : k + get_or sizes k 0 ≤ e.start). h)
    (cases_lt e.start (k + get_or sizes k 0))

-- two writes, the second in another place
set_first : (xs : List ℕ) (i j v w : ℕ) → i < length xs → i ≢ j → get_or (set (set xs i v) j w) i 0 ≡ v
set_first xs i j v w l q = get_or-set_other (set xs i v) j i w 0 q ∙ get_or-set_same xs i v 0 l

set_last : (xs : List ℕ) (i j v w : ℕ) → j < length xs → get_or (set (set xs i v) j w) j 0 ≡ w
set_last xs i j v w l = get_or-set_same (set xs i v) j w 0 (omega (arith, length-set xs i v))

set_others : (xs : List ℕ) (i j v w k : ℕ) → k ≢ i → k ≢ j → get_or (set (set xs i v) j w) k 0 ≡ get_or xs k 0
set_others xs i j v w k p q = get_or-set_other (set xs i v) j k w 0 q ∙ get_or-set_other xs i k v 0 p

length-set_both : (xs : List ℕ) (i j v w : ℕ) → length (set (set xs i v) j w) ≡ length xs
length-set_both xs i j v w = length-set (set xs i v) j w ∙ length-set xs i v

-- the writes that free the tracks of an extent
pub freeing : (count : ℕ) (sizes ends : List ℕ) (e : Extent) (a b size first last : ℕ) → AreKept count sizes ends → IsTaken (tracks_of count sizes) e → 0 < e.tracks → a ≡ get_or ends e.start 0 → b ≡ get_or sizes (e.start + e.tracks) 0 → size ≡ a + e.tracks + b → first ≡ e.start - a → last ≡ e.start + e.tracks + b → last ≤ count → a ≤ e.start
    → IsFreeing count sizes ends (set (set sizes (e.start + e.tracks) 0) first size) (set (set ends e.start 0) last size) e.start e.tracks a b
freeing count sizes ends e a b size first last kept taken some front behind q f l top low =
    let room : count < length sizes = kept.room in
    let end_room : count < length ends = kept.end_room in
    let s = e.start in
    let z = e.tracks in
    record {
      kept = kept;
      inside = omega arith;
      some = some;
      none = taken_none count sizes e room taken;
      short = taken_short count sizes e room taken some;
      front = front;
      behind = behind;
      size_first = rw (← f) (set_last sizes (s + z) first 0 size (omega arith) ∙ q);
      size_behind = set_first sizes (s + z) first 0 size (omega arith) (λ t. omega arith);
      size_other = λ k p r. set_others sizes (s + z) first 0 size k r (λ t. p (omega arith));
      end_front = set_first ends s last 0 size (omega arith) (λ t. omega arith);
      end_last = rw (← l) (set_last ends s last 0 size (omega arith) ∙ q);
      end_other = λ k p r. set_others ends s last 0 size k p (λ t. r (omega arith));
      room = omega (arith, length-set_both sizes (s + z) first 0 size);
      end_room = omega (arith, length-set_both ends s last 0 size);
    }

-- the writes that take the front of an extent
pub taking : (count : ℕ) (sizes ends : List ℕ) (s n left rest last : ℕ) → AreKept count sizes ends → get_or sizes s 0 ≡ n + left → 0 < n + left → rest ≡ s + n → last ≡ s + n + left
    → IsTaking count sizes ends (set (set sizes s 0) rest left) (set ends last left) s n left
taking count sizes ends s n left rest last kept size some r l =
    let room : count < length sizes = kept.room in
    let end_room : count < length ends = kept.end_room in
    let within : s + (n + left) ≤ count = rw (← size) (kept.within s (omega arith)) in
    record {
      kept = kept;
      size = size;
      some = some;
      size_taken = λ p. set_first sizes s rest 0 left (omega arith) (λ t. omega arith);
      size_rest = rw (← r) (set_last sizes s rest 0 left (omega arith));
      size_other = λ k p q. set_others sizes s rest 0 left k p (λ t. q (omega arith));
      end_rest = rw (← l) (get_or-set_same ends last left 0 (omega arith));
      end_other = λ k p. get_or-set_other ends last k left 0 (λ t. p (omega arith));
      room = omega (arith, length-set_both sizes s rest 0 left);
      end_room = omega (arith, length-set ends last left);
    }

-- what is read before the tracks of an extent are freed
pub record IsReadAround (count : ℕ) (sizes ends : List ℕ) (e : Extent) (a b : ℕ) : Type 0 where
  pub taken : IsTaken (tracks_of count sizes) e
  pub some : 0 < e.tracks
  pub front : a ≡ get_or ends e.start 0
  pub behind : b ≡ get_or sizes (e.start + e.tracks) 0
  pub low : a ≤ e.start
  pub top : e.start + e.tracks + b ≤ count

pub inside_of : (count : ℕ) (sizes ends : List ℕ) (tracks : List Bool) (e : Extent) → AreKept count sizes ends → tracks_of count sizes ≡ tracks → IsTaken tracks e → e.tracks ≢ 0 → e.start + e.tracks ≤ count
inside_of count sizes ends tracks e kept view taken some = taken_inside count sizes e kept.room (subst (λ t. IsTaken t e) (sym view) taken) (omega arith)

pub read_around : (count : ℕ) (sizes ends : List ℕ) (tracks : List Bool) (e : Extent) (start end a b : ℕ) → AreKept count sizes ends → tracks_of count sizes ≡ tracks → IsTaken tracks e → e.tracks ≢ 0
    → start ≡ e.start → end ≡ e.start + e.tracks → a ≡ get_or ends start a → b ≡ get_or sizes end 0 → IsReadAround count sizes ends e a b
read_around count sizes ends tracks e start end a b kept view taken some p q front behind =
    let inside : e.start + e.tracks ≤ count = inside_of count sizes ends tracks e kept view taken some in
    let front_is : a ≡ get_or ends e.start 0 = rw (← p) (get_or_read ends start a (omega (arith, kept.end_room)) front 0) in
    let behind_is : b ≡ get_or sizes (e.start + e.tracks) 0 = rw (← q) behind in
    let low = in_front count sizes ends e.start a kept front_is in
    record {
      taken = subst (λ t. IsTaken t e) (sym view) taken;
      some = omega arith;
      front = front_is;
      behind = behind_is;
      low = low.0;
      top = behind_within count sizes ends e.start e.tracks b kept inside behind_is;
    }

-- the writes, as they are made
pub freeing_of : (count : ℕ) (sizes ends : List ℕ) (e : Extent) (a b start end size first last : ℕ) → AreKept count sizes ends → IsReadAround count sizes ends e a b → start ≡ e.start → end ≡ e.start + e.tracks → size ≡ a + e.tracks + b → first ≡ e.start - a → last ≡ e.start + e.tracks + b
    → IsFreeing count sizes ends (set (set sizes end 0) first size) (set (set ends start 0) last size) e.start e.tracks a b
freeing_of count sizes ends e a b start end size first last kept f p q r s t =
    rw (p, q) (freeing count sizes ends e a b size first last kept f.taken f.some f.front f.behind r s t (rw t f.top) f.low)

-- no tracks are freed
pub marked_none : (free : Bool) (e : Extent) (tracks : List Bool) → e.tracks ≡ 0 → marked free e tracks ≡ tracks
marked_none free e tracks q =
    same_lists (marked free e tracks) tracks (length-marked_from 0 free e tracks)
    (λ k d l. get_or-marked free e tracks k d (omega (arith, length-marked_from 0 free e tracks))
    ∙ let out : is_in k e ≡ false = ⊎_elim (λ (m : k < e.start). is_in_before k e m) (λ (m : e.start ≤ k). is_in_behind k e (omega arith)) (cases_lt k e.start) in
    ap (λ b. cond b free (get_or tracks k d)) out)

-- where no extent is free no track is
pub none_free : (count n : ℕ) (sizes : List ℕ) → count < length sizes → n ≡ count → ((k : ℕ) → get_or sizes k 0 ≡ 0) → tracks_of count sizes ≡ replicate n false
none_free count n sizes room q zeros =
    same_tracks (tracks_of count sizes) (replicate n false) (omega (arith, length-tracks_of count sizes room, length-replicate n false))
    (λ k l h. let r = free_is_reached count sizes k (omega (arith, length-tracks_of count sizes room)) h in absurd (omega (arith, r.1, r.2, zeros r.0)))
    (λ k l h. absurd (false≢true (sym (get_or-replicate n k false false (omega (arith, length-tracks_of count sizes room))) ∙ h)))
