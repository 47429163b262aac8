-- What is planned: free tracks, as many as are wanted, of five extents at most, exactly where the five largest have as many.
use Rattle.std.proofs.Common.{◌≡◌, ◌≢◌, ℕ, suc, zero, ◌+◌, ◌-◌, ◌<◌, ◌≤◌, true, false, cond, List, [], ◌∷◌, length, Option, Some, None, refl, ap, sym, ◌∙◌, subst, arith, ⊎_elim, nat_le, nat_eq, inl, inr, IsSome}
use Rattle.std.specs.Option.{is_some}
use Rattle.std.proofs.lemmas.Bool.{true≢false, cases_Bool, cases_eq, cases_lt, cond_both, eq-eqb, ne_eqb, lt-leb, leb-true, leb-false}
use Rattle.std.proofs.lemmas.Option.{same_Some, none-some}
use Rattle.std.proofs.lemmas.List.Sums.{sum_by-cons, sum-map}
use Rattle.extent_core.specs.declared.extent.Extent.{Extent}
use Rattle.extent_core.specs.Extents.{extent, first_of, is_in, larger, largest_of}
use Rattle.extent_core.proofs.Marking.{is_in_within, within_is_in}
use Rattle.vtoc_core.specs.declared.volume.Track.{Track}
use Rattle.vtoc_core.specs.declared.volume.Track.TheVariants.{Free}
use Rattle.vtoc_core.specs.Extents.{without_extent, others_by, tracks_of_largest_by, tracks_of_largest, five_largest, behind, largest_taken, front_or, planned, tracks_in, free_extents}
use Rattle.vtoc_core.specs.Volumes.{empty_among, times_in, AreOf}
use Rattle.vtoc_core.proofs.FreeLemmas.{InOrder, empty-cons, empty-cons_not, in_order_from, in_order-free_extents, in_order_once, times_in-cons, times_in-cons_not}
use Rattle.vtoc_core.proofs.FreeTracks.{free_extents_hold}
use Rattle.vtoc_core.proofs.LargestLemmas.{largest, before, largest_taken_is, largest_is_one, IsOneOf, sought, none_or_some, taken_from}

-- the number of tracks, one extent after another
pub tracks_in-cons : (e : Extent) (es : List Extent) → tracks_in (e ∷ es) ≡ e.tracks + tracks_in es
tracks_in-cons e es = sum-map (λ (f : Extent). f.tracks) (e ∷ es) ∙ sum_by-cons (λ (f : Extent). f.tracks) e es ∙ ap (λ n. e.tracks + n) (sym (sum-map (λ (f : Extent). f.tracks) es))

pub planned_none : (es : List Extent) (n : ℕ) → n ≡ 0 → planned es n ≡ Some []
unfolding planned
planned_none es n h = ap (λ b. cond b (Some []) (sought n es)) (eq-eqb n 0 h)

pub planned_sought : (es : List Extent) (n : ℕ) → n ≢ 0 → planned es n ≡ sought n es
unfolding planned
planned_sought es n h = ap (λ b. cond b (Some []) (sought n es)) (ne_eqb n 0 h)

-- one of extents in order, and the others
same_start : (es : List Extent) (at : ℕ) (m : Extent) → InOrder at es → IsOneOf m es → at ≤ m.start
same_start [] at m h o = absurd o
same_start (x ∷ xs) at m h o =
    ⊎_elim (λ (q : m ≡ x). rw q h.0)
    (λ (t : IsOneOf m xs). omega (arith, h.0, same_start xs (x.start + x.tracks) m h.2 t)) o

head_is : (x : Extent) (xs : List Extent) (at : ℕ) (m : Extent) → InOrder at (x ∷ xs) → IsOneOf m (x ∷ xs) → x.start ≡ m.start → m ≡ x
head_is x xs at m h o q =
    ⊎_elim (λ (e : m ≡ x). e)
    (λ (t : IsOneOf m xs). absurd (omega (arith, h.1, same_start xs (x.start + x.tracks) m h.2 t))) o

tail_is : (x : Extent) (xs : List Extent) (m : Extent) → IsOneOf m (x ∷ xs) → x.start ≢ m.start → IsOneOf m xs
tail_is x xs m o q = ⊎_elim (λ (e : m ≡ x). absurd (q (ap (λ (y : Extent). y.start) (sym e)))) (λ (t : IsOneOf m xs). t) o

pub times_without : (es : List Extent) (at : ℕ) (m : Extent) (k : ℕ) → InOrder at es → IsOneOf m es → times_in k es ≡ cond (is_in k m) 1 0 + times_in k (without_extent m es)
times_without [] at m k h o = absurd o
times_without (x ∷ xs) at m k h o =
    ⊎_elim
    (λ (q : x.start ≡ m.start). times_in-cons k x xs
    ∙ ap (λ (y : Extent). cond (is_in k y) 1 0 + times_in k xs) (sym (head_is x xs at m h o q))
    ∙ sym (ap (λ b. cond (is_in k m) 1 0 + times_in k (cond b xs (x ∷ without_extent m xs))) (eq-eqb x.start m.start q)))
    (λ (q : x.start ≢ m.start).
    let i : times_in k xs ≡ cond (is_in k m) 1 0 + times_in k (without_extent m xs) = times_without xs (x.start + x.tracks) m k h.2 (tail_is x xs m o q) in
    let j : times_in k (x ∷ without_extent m xs) ≡ cond (is_in k x) 1 0 + times_in k (without_extent m xs) = times_in-cons k x (without_extent m xs) in
    let f : times_in k (x ∷ xs) ≡ cond (is_in k x) 1 0 + times_in k xs = times_in-cons k x xs in
    let g : times_in k (x ∷ xs) ≡ cond (is_in k m) 1 0 + times_in k (x ∷ without_extent m xs) = omega arith in
    g ∙ sym (ap (λ b. cond (is_in k m) 1 0 + times_in k (cond b xs (x ∷ without_extent m xs))) (ne_eqb x.start m.start q)))
    (cases_eq x.start m.start)

pub in_order_without : (es : List Extent) (at : ℕ) (m : Extent) → InOrder at es → InOrder at (without_extent m es)
in_order_without [] at m h = tt
in_order_without (x ∷ xs) at m h =
    cond_both (nat_eq x.start m.start) xs (x ∷ without_extent m xs) (InOrder at)
    (λ q. in_order_from (x.start + x.tracks) at xs (omega (arith, h.0)) h.2)
    (λ q. (h.0, h.1, in_order_without xs (x.start + x.tracks) m h.2))

-- the largest of extents in order are among them, each once
pub times_in_largest : (j : ℕ) (es : List Extent) (at k : ℕ) → InOrder at es → times_in k (largest j es) ≤ times_in k es
times_in_largest zero es at k h = omega arith
times_in_largest (suc j) es at k h =
    ⊎_elim
    (λ (n : largest_of es ≡ None). rw n (omega arith))
    (λ (p : (m : Extent) × (largest_of es ≡ Some m)).
    rw p.1
    (let i : times_in k (largest j (without_extent p.0 es)) ≤ times_in k (without_extent p.0 es) = times_in_largest j (without_extent p.0 es) at k (in_order_without es at p.0 h) in
    omega (arith, times_in-cons k p.0 (largest j (without_extent p.0 es)), times_without es at p.0 k h (largest_is_one es p.0 p.1))))
    (none_or_some (largest_of es))

-- each of extents in order has a track, so have the largest of them
one_has_tracks : (es : List Extent) (at : ℕ) (m : Extent) → InOrder at es → IsOneOf m es → 0 < m.tracks
one_has_tracks [] at m h o = absurd o
one_has_tracks (x ∷ xs) at m h o =
    ⊎_elim (λ (q : m ≡ x). rw q h.1) (λ (t : IsOneOf m xs). one_has_tracks xs (x.start + x.tracks) m h.2 t) o

empty_largest : (j : ℕ) (es : List Extent) (at : ℕ) → InOrder at es → empty_among (largest j es) ≡ 0
empty_largest zero es at h = refl
empty_largest (suc j) es at h =
    ⊎_elim
    (λ (n : largest_of es ≡ None). rw n refl)
    (λ (p : (m : Extent) × (largest_of es ≡ Some m)).
    rw p.1
    (empty-cons_not p.0 (largest j (without_extent p.0 es)) (one_has_tracks es at p.0 h (largest_is_one es p.0 p.1))
    ∙ empty_largest j (without_extent p.0 es) at (in_order_without es at p.0 h)))
    (none_or_some (largest_of es))

-- what is taken of some extents: as many tracks as are wanted, each of those extents, no more extents, and none without a track
pub record Takes (from : List Extent) (n : ℕ) (list : List Extent) : Type 0 where
  pub tracks : tracks_in list ≡ n
  pub among : (k : ℕ) → times_in k list ≤ times_in k from
  pub few : length list ≤ length from
  pub none_empty : 0 < n → empty_among from ≡ 0 → empty_among list ≡ 0

takes_front : (e : Extent) (es : List Extent) (n : ℕ) → n ≤ e.tracks → Takes (e ∷ es) n (extent e.start n ∷ [])
takes_front e es n l = record {
  tracks = tracks_in-cons (extent e.start n) [] ∙ omega arith;
  among = λ k.
      ⊎_elim
      (λ (q : is_in k (extent e.start n) ≡ true).
      let p : (e.start ≤ k) × (k < e.start + n) = within_is_in k (extent e.start n) q in
      let r : is_in k e ≡ true = is_in_within k e p.0 (omega arith) in
      let f : times_in k (extent e.start n ∷ []) ≡ 1 + 0 = times_in-cons k (extent e.start n) [] ∙ simp q in
      let g : times_in k (e ∷ es) ≡ 1 + times_in k es = times_in-cons k e es ∙ ap (λ b. cond b 1 0 + times_in k es) r in
      omega arith)
      (λ (q : is_in k (extent e.start n) ≡ false). rw (times_in-cons_not k (extent e.start n) [] q) (omega arith))
      (cases_Bool (is_in k (extent e.start n)));
  few = omega arith;
  none_empty = λ p z. empty-cons_not (extent e.start n) [] p;
}

takes_whole : (e : Extent) (es list : List Extent) (n : ℕ) → e.tracks < n → Takes es (n - e.tracks) list → Takes (e ∷ es) n (e ∷ list)
takes_whole e es list n l t = record {
  tracks = tracks_in-cons e list ∙ let q = t.tracks in omega arith;
  among = λ k. let q = t.among k in omega (arith, times_in-cons k e list, times_in-cons k e es);
  few = let q = t.few in omega arith;
  none_empty = λ p z.
      let r : empty_among list ≡ 0 = t.none_empty (omega arith) (omega (arith, empty-cons e es)) in
      omega (arith, empty-cons e es, empty-cons e list);
}

behind_some : (e : Extent) (o : Option (List Extent)) (list : List Extent) → behind e o ≡ Some list → (rest : List Extent) × (o ≡ Some rest) × (list ≡ e ∷ rest)
behind_some e None list h = absurd (none-some list h)
behind_some e (Some rest) list h = (rest, refl, sym (same_Some (e ∷ rest) list h))

pub taken_takes : (es : List Extent) (n : ℕ) (list : List Extent) → taken_from es n ≡ Some list → Takes es n list
taken_takes [] n list h = absurd (none-some list h)
taken_takes (e ∷ es) n list h =
    ⊎_elim
    (λ (b : nat_le n e.tracks ≡ true).
    let q : extent e.start n ∷ [] ≡ list = same_Some (extent e.start n ∷ []) list (simp b at h) in
    subst (Takes (e ∷ es) n) q (takes_front e es n (leb-true n e.tracks b)))
    (λ (b : nat_le n e.tracks ≡ false).
    let q : behind e (taken_from es (n - e.tracks)) ≡ Some list = simp b at h in
    let p = behind_some e (taken_from es (n - e.tracks)) list q in
    subst (Takes (e ∷ es) n) (sym p.2) (takes_whole e es p.0 n (let l = leb-false n e.tracks b in omega arith) (taken_takes es (n - e.tracks) p.0 p.1)))
    (cases_Bool (nat_le n e.tracks))

-- when something is taken
is_some_behind : (e : Extent) (o : Option (List Extent)) → IsSome o → IsSome (behind e o)
is_some_behind e None h = h
is_some_behind e (Some es) h = h

pub taken_where : (es : List Extent) (n : ℕ) → 0 < n → n ≤ tracks_in es → IsSome (taken_from es n)
taken_where [] n p l = absurd (omega arith)
taken_where (e ∷ es) n p l =
    ⊎_elim
    (λ (b : nat_le n e.tracks ≡ true). simp b refl)
    (λ (b : nat_le n e.tracks ≡ false). simp b (is_some_behind e (taken_from es (n - e.tracks))
    (let m : e.tracks < n = leb-false n e.tracks b in taken_where es (n - e.tracks) (omega arith) (omega (arith, tracks_in-cons e es)))))
    (cases_Bool (nat_le n e.tracks))

pub taken_not_where : (es : List Extent) (n : ℕ) → tracks_in es < n → taken_from es n ≡ None
taken_not_where [] n l = refl
taken_not_where (e ∷ es) n l =
    simp (lt-leb n e.tracks (omega (arith, tracks_in-cons e es)))
    (ap (behind e) (taken_not_where es (n - e.tracks) (omega (arith, tracks_in-cons e es))))

tracks_before : (o : Option Extent) (es : List Extent) → tracks_of_largest_by o (tracks_in es) ≡ tracks_in (before o es)
tracks_before None es = refl
tracks_before (Some e) es = sym (tracks_in-cons e es)

pub tracks_of_largest_is : (k : ℕ) (es : List Extent) → tracks_of_largest k es ≡ tracks_in (largest k es)
tracks_of_largest_is zero es = refl
tracks_of_largest_is (suc k) es =
    ap (tracks_of_largest_by (largest_of es)) (tracks_of_largest_is k (others_by (largest_of es) es))
    ∙ tracks_before (largest_of es) (largest k (others_by (largest_of es) es))

-- an extent that has all is no larger than the largest
first_of_some : (n : ℕ) (es : List Extent) (e : Extent) → first_of n es ≡ Some e → (n ≤ e.tracks) × IsOneOf e es
first_of_some n [] e h = absurd (none-some e h)
first_of_some n (x ∷ xs) e h =
    ⊎_elim
    (λ (b : nat_le n x.tracks ≡ true). let q : x ≡ e = same_Some x e (simp b at h) in subst (λ (y : Extent). (n ≤ y.tracks) × IsOneOf y (x ∷ xs)) q (leb-true n x.tracks b, inl refl))
    (λ (b : nat_le n x.tracks ≡ false). let r : first_of n xs ≡ Some e = simp b at h in let i = first_of_some n xs e r in (i.0, inr i.1))
    (cases_Bool (nat_le n x.tracks))

largest_bounds : (es : List Extent) (e : Extent) → IsOneOf e es → (m : Extent) × (largest_of es ≡ Some m) × (e.tracks ≤ m.tracks)
largest_bounds [] e o = absurd o
largest_bounds (x ∷ xs) e o =
    ⊎_elim
    (λ (n : largest_of xs ≡ None). (x, ap (λ p. Some (larger x p)) n, ⊎_elim (λ (q : e ≡ x). rw q (omega arith)) (λ (t : IsOneOf e xs). let b = largest_bounds xs e t in absurd (none-some b.0 (sym n ∙ b.1))) o))
    (λ (p : (m : Extent) × (largest_of xs ≡ Some m)). (
      larger x (Some p.0),
      ap (λ q. Some (larger x q)) p.1,
      ⊎_elim
          (λ (q : e ≡ x). rw q (cond_both (nat_le p.0.tracks x.tracks) x p.0 (λ (y : Extent). x.tracks ≤ y.tracks) (λ b. omega arith) (λ b. let l = leb-false p.0.tracks x.tracks b in omega arith)))
          (λ (t : IsOneOf e xs).
          let b = largest_bounds xs e t in
          let m : b.0 ≡ p.0 = same_Some b.0 p.0 (sym b.1 ∙ p.1) in
          let l : e.tracks ≤ p.0.tracks = subst (λ (y : Extent). e.tracks ≤ y.tracks) m b.2 in
          cond_both (nat_le p.0.tracks x.tracks) x p.0 (λ (y : Extent). e.tracks ≤ y.tracks) (λ c. let k = leb-true p.0.tracks x.tracks c in omega arith) (λ c. l))
          o,
    ))
    (none_or_some (largest_of xs))

largest_hold : (k : ℕ) (es : List Extent) (e : Extent) → IsOneOf e es → e.tracks ≤ tracks_of_largest (suc k) es
largest_hold k es e o =
    let b = largest_bounds es e o in
    rw b.1 (let l : e.tracks ≤ b.0.tracks = b.2 in omega arith)

taken_by_first : (k : ℕ) (n : ℕ) (es : List Extent) → 0 < n → (n ≤ tracks_of_largest (suc k) es → IsSome (front_or (first_of n es) n (largest_taken (suc k) es n))) × (tracks_of_largest (suc k) es < n → front_or (first_of n es) n (largest_taken (suc k) es n) ≡ None)
taken_by_first k n es p =
    ⊎_elim
    (λ (f : first_of n es ≡ None). (
      (λ l. subst IsSome (sym (ap (λ o. front_or o n (largest_taken (suc k) es n)) f ∙ largest_taken_is (suc k) es n)) (taken_where (largest (suc k) es) n p (subst (λ m. n ≤ m) (tracks_of_largest_is (suc k) es) l))),
      (λ l. ap (λ o. front_or o n (largest_taken (suc k) es n)) f ∙ largest_taken_is (suc k) es n ∙ taken_not_where (largest (suc k) es) n (subst (λ m. m < n) (tracks_of_largest_is (suc k) es) l)),
    ))
    (λ (q : (e : Extent) × (first_of n es ≡ Some e)).
    let f = first_of_some n es q.0 q.1 in (
      (λ l. subst IsSome (sym (ap (λ o. front_or o n (largest_taken (suc k) es n)) q.1)) refl),
      (λ l. absurd (let m : n ≤ q.0.tracks = f.0 in let h : q.0.tracks ≤ tracks_of_largest (suc k) es = largest_hold k es q.0 f.1 in omega arith)),
    ))
    (none_or_some (first_of n es))

pub planned_where : (es : List Extent) (n : ℕ) → n ≤ five_largest es → IsSome (planned es n)
unfolding five_largest
planned_where es n l =
    ⊎_elim
    (λ (z : n ≡ 0). subst IsSome (sym (planned_none es n z)) refl)
    (λ (z : n ≢ 0). subst IsSome (sym (planned_sought es n z)) ((taken_by_first 4 n es (omega arith)).0 l))
    (cases_eq n 0)

pub planned_not_where : (es : List Extent) (n : ℕ) → five_largest es < n → planned es n ≡ None
unfolding five_largest
planned_not_where es n l =
    let z : n ≢ 0 = λ q. omega arith in
    planned_sought es n z ∙ (taken_by_first 4 n es (omega arith)).1 l

-- what is planned on a volume is free
pub record IsPlan (ts : List Track) (n : ℕ) (list : List Extent) : Type 0 where
  pub free : AreOf Free ts list
  pub tracks : tracks_in list ≡ n
  pub few : length list ≤ 5

plan_from : (ts : List Track) (n : ℕ) (list : List Extent) → tracks_in list ≡ n → ((k : ℕ) → times_in k list ≤ times_in k (free_extents ts)) → length list ≤ 5 →
    empty_among list ≡ 0 → IsPlan ts n list
plan_from ts n list t among few none_empty = record {
  free = record {
    kinds = λ k l. free_extents_hold k ts (let a = among k in omega arith);
    once = λ k. let a = among k in let o = in_order_once k 0 (free_extents ts) (in_order-free_extents ts) in omega arith;
    none_empty = none_empty;
  };
  tracks = t;
  few = few;
}

length-before : (o : Option Extent) (es : List Extent) (k : ℕ) → length es ≤ k → length (before o es) ≤ suc k
length-before None es k l = omega arith
length-before (Some e) es k l = omega arith

length-largest : (k : ℕ) (es : List Extent) → length (largest k es) ≤ k
length-largest zero es = omega arith
length-largest (suc k) es = length-before (largest_of es) (largest k (others_by (largest_of es) es)) k (length-largest k (others_by (largest_of es) es))

times_in_one : (es : List Extent) (e : Extent) (k : ℕ) → IsOneOf e es → times_in k (e ∷ []) ≤ times_in k es
times_in_one [] e k o = absurd o
times_in_one (x ∷ xs) e k o =
    ⊎_elim
    (λ (q : e ≡ x). rw q (omega (arith, times_in-cons k x [], times_in-cons k x xs)))
    (λ (t : IsOneOf e xs). let i : times_in k (e ∷ []) ≤ times_in k xs = times_in_one xs e k t in omega (arith, times_in-cons k x xs))
    o

plan_taken : (j : ℕ) (ts : List Track) (n : ℕ) (list : List Extent) → 0 < n → j ≤ 5 → largest_taken j (free_extents ts) n ≡ Some list → IsPlan ts n list
plan_taken j ts n list p l h =
    let t : Takes (largest j (free_extents ts)) n list = taken_takes (largest j (free_extents ts)) n list (sym (largest_taken_is j (free_extents ts) n) ∙ h) in
    plan_from ts n list t.tracks
    (λ k. let a = t.among k in let b = times_in_largest j (free_extents ts) 0 k (in_order-free_extents ts) in omega arith)
    (let a = t.few in let b = length-largest j (free_extents ts) in omega arith)
    (t.none_empty p (empty_largest j (free_extents ts) 0 (in_order-free_extents ts)))

plan_front : (ts : List Track) (n : ℕ) (e : Extent) → 0 < n → first_of n (free_extents ts) ≡ Some e → IsPlan ts n (extent e.start n ∷ [])
plan_front ts n e p h =
    let f = first_of_some n (free_extents ts) e h in
    let t : Takes (e ∷ []) n (extent e.start n ∷ []) = takes_front e [] n f.0 in
    plan_from ts n (extent e.start n ∷ []) t.tracks
    (λ k. let a = t.among k in let b = times_in_one (free_extents ts) e k f.1 in omega arith)
    (omega arith)
    (empty-cons_not (extent e.start n) [] p)

pub planned_is : (ts : List Track) (n : ℕ) (list : List Extent) → planned (free_extents ts) n ≡ Some list → IsPlan ts n list
planned_is ts n list h =
    ⊎_elim
    (λ (z : n ≡ 0). subst (IsPlan ts n) (same_Some [] list (sym (planned_none (free_extents ts) n z) ∙ h)) (plan_from ts n [] (sym z) (λ k. omega arith) (omega arith) refl))
    (λ (z : n ≢ 0).
    let s : sought n (free_extents ts) ≡ Some list = sym (planned_sought (free_extents ts) n z) ∙ h in
    ⊎_elim
    (λ (f : first_of n (free_extents ts) ≡ None). plan_taken 5 ts n list (omega arith) (omega arith) (sym (ap (λ o. front_or o n (largest_taken 5 (free_extents ts) n)) f) ∙ s))
    (λ (q : (e : Extent) × (first_of n (free_extents ts) ≡ Some e)).
    subst (IsPlan ts n) (same_Some (extent q.0.start n ∷ []) list (sym (ap (λ o. front_or o n (largest_taken 5 (free_extents ts) n)) q.1) ∙ s)) (plan_front ts n q.0 (omega arith) q.1))
    (none_or_some (first_of n (free_extents ts))))
    (cases_eq n 0)

-- the five largest have as many tracks as are wanted exactly where something is planned
pub planned_some : (es : List Extent) (n : ℕ) (list : List Extent) → planned es n ≡ Some list → n ≤ five_largest es
planned_some es n list h =
    ⊎_elim (λ (l : five_largest es < n). absurd (none-some list (sym (planned_not_where es n l) ∙ h))) (λ (l : n ≤ five_largest es). l) (cases_lt (five_largest es) n)

pub planned_refused : (es : List Extent) (n : ℕ) → planned es n ≡ None → five_largest es < n
planned_refused es n h =
    ⊎_elim (λ (l : five_largest es < n). l) (λ (l : n ≤ five_largest es). absurd (true≢false (sym (planned_where es n l) ∙ ap is_some h))) (cases_lt (five_largest es) n)
