-- Free extents that are taken one after another, and freed again.
use Rattle.std.proofs.Common.{◌≡◌, ◌≢◌, ℕ, suc, zero, ◌+◌, ◌-◌, ◌<◌, ◌≤◌, Bool, true, false, cond, List, [], ◌∷◌, ◌++◌, length, Option, Some, None, refl, ap, sym, ◌∙◌, subst, arith, append_assoc}
use Rattle.std.specs.List.{Contains}
use Rattle.std.specs.Option.{option_map}
use Rattle.std.proofs.lemmas.Bool.{eq-eqb, le-leb, lt-leb, ne_eqb}
use Rattle.extent_core.specs.declared.extent.Extent.{Extent}
use Rattle.extent_core.specs.ExtentLaws.{AnswersLargest}
use Rattle.extent_core.specs.Extents.{AreApart, IsTaken, extent, first_of, free_extents, front_taken, largest_of, marked}
use Rattle.extent_core.proofs.LawLemmas.{free_extents_are_apart, largest_is_largest, taken_front_is_taken}
use Rattle.extent_core.proofs.ListChanges.{taken_front_leaves_the_rest}
use Rattle.vtoc_core.specs.Extents.{behind, front_or, largest_taken, left_by, others_by, planned, taken_by, without_extent}
use Rattle.vtoc_core.specs.Searches.{FreeInTurn, WereTaken, marked_each}
use Rattle.vtoc_core.proofs.PlanLemmas.{planned_sought}

-- one more at the end
marked_each-push : (free : Bool) (es : List Extent) (e : Extent) (ts : List Bool) → marked_each free (es ++ e ∷ []) ts ≡ marked free e (marked_each free es ts)
marked_each-push free [] e ts = refl
marked_each-push free (x ∷ xs) e ts = marked_each-push free xs e (marked free x ts)

free_in_turn-push : (es : List Extent) (e : Extent) (ts : List Bool) → FreeInTurn ts es → Contains (free_extents (marked_each false es ts)) e → FreeInTurn ts (es ++ e ∷ [])
free_in_turn-push [] e ts a h = (h, tt)
free_in_turn-push (x ∷ xs) e ts a h = (a.0, free_in_turn-push xs e (marked false x ts) a.1 h)

free_in_turn-last : (es : List Extent) (e : Extent) (ts : List Bool) → FreeInTurn ts (es ++ e ∷ []) → FreeInTurn ts es × Contains (free_extents (marked_each false es ts)) e
free_in_turn-last [] e ts a = (tt, a.0)
free_in_turn-last (x ∷ xs) e ts a = let r = free_in_turn-last xs e (marked false x ts) a.1 in ((a.0, r.0), r.1)

taken_more : (before now : List Bool) (es : List Extent) (e : Extent) → WereTaken before es now → Contains (free_extents now) e → WereTaken before (es ++ e ∷ []) (marked false e now)
taken_more before now es e w h = record {
  free = free_in_turn-push es e before w.free (subst (λ ts. Contains (free_extents ts) e) w.marked h);
  marked = ap (marked false e) w.marked ∙ sym (marked_each-push false es e before);
}

pub marked_more : (before now : List Bool) (es all : List Extent) (e : Extent) → WereTaken before es now → all ≡ es ++ e ∷ [] → marked false e now ≡ marked_each false all before
marked_more before now es all e w q =
    ap (marked false e) w.marked ∙ sym (ap (λ xs. marked_each false xs before) q ∙ marked_each-push false es e before)

-- the last is freed again
pub taken_last : (before now : List Bool) (all es : List Extent) (e : Extent) → all ≡ es ++ e ∷ [] → WereTaken before all now → IsTaken now e × WereTaken before es (marked true e now)
taken_last before now all es e q w =
    let a : FreeInTurn before (es ++ e ∷ []) = subst (FreeInTurn before) q w.free in
    let ts = marked_each false es before in
    let p = free_in_turn-last es e before a in
    let m : now ≡ marked false e ts = w.marked ∙ ap (λ xs. marked_each false xs before) q ∙ marked_each-push false es e before in
    let t = taken_front_is_taken ts e e.tracks p.1 (omega arith) in (
      subst (λ bs. IsTaken bs e) (sym m) t.0,
      record { free = p.0; marked = ap (marked true e) m ∙ t.1 },
    )

-- the largest is one of the extents
pub largest_contained : (es : List Extent) (e : Extent) → Some e ≡ largest_of es → Contains es e
largest_contained es e q =
    let h : AnswersLargest es (Some e) = subst (λ o. AnswersLargest es o) (sym q) (largest_is_largest es) in
    (h.0.0, h.0.1, h.0.2)

-- where an extent is taken whole, the others are left
begins_from : (from end : ℕ) (es : List Extent) (e : Extent) → AreApart from end es → Contains es e → from ≤ e.start
begins_from from end [] e a (k, l, q) = absurd (omega arith)
begins_from from end (f ∷ fs) e a (zero, l, q) = rw (← q) a.0
begins_from from end (f ∷ fs) e a (suc k, l, q) = omega (arith, a.0, begins_from (f.start + f.tracks + 1) end fs e a.3 (k, omega arith, q))

whole_taken : (from end : ℕ) (es : List Extent) (e : Extent) → AreApart from end es → Contains es e → front_taken e e.tracks es ≡ without_extent e es
whole_taken from end [] e a h = refl
whole_taken from end (f ∷ fs) e a (zero, l, q) = rw (← q) (simp (eq-eqb f.start f.start refl, le-leb f.tracks f.tracks (omega arith)))
whole_taken from end (f ∷ fs) e a (suc k, l, q) =
    let i = begins_from (f.start + f.tracks + 1) end fs e a.3 (k, omega arith, q) in
    simp (ne_eqb f.start e.start (λ p. omega (arith, i, a.1)))
    (ap (λ xs. f ∷ xs) (whole_taken (f.start + f.tracks + 1) end fs e a.3 (k, omega arith, q)))

pub others_left : (ts : List Bool) (e : Extent) → Contains (free_extents ts) e → free_extents (marked false e ts) ≡ without_extent e (free_extents ts)
others_left ts e h =
    taken_front_leaves_the_rest ts e e.tracks h (omega arith)
    ∙ whole_taken 0 (length ts) (free_extents ts) e (free_extents_are_apart ts) h

-- a turn: the largest is taken whole
turn_some : (o : Option (List Extent)) (taken es : List Extent) (e : Extent) (j k left : ℕ) → j ≡ suc k →
    o ≡ option_map (λ more. taken ++ more) (largest_taken j es left) → Some e ≡ largest_of es →
    o ≡ option_map (λ more. taken ++ more) (taken_by (Some e) left (largest_taken k (without_extent e es) (left - e.tracks)))
turn_some o taken es e j k left i h q =
    h ∙ ap (λ m. option_map (λ more. taken ++ more) (largest_taken m es left)) i
    ∙ ap (λ l. option_map (λ more. taken ++ more) (taken_by l left (largest_taken k (others_by l es) (left_by l left)))) (sym q)

behind_all : (taken : List Extent) (e : Extent) (o : Option (List Extent)) →
    option_map (λ more. taken ++ more) (behind e o) ≡ option_map (λ more. (taken ++ e ∷ []) ++ more) o
behind_all taken e None = refl
behind_all taken e (Some es) = ap Some (sym (append_assoc taken (e ∷ []) es))

whole_turn : (o : Option (List Extent)) (taken : List Extent) (ts : List Bool) (e : Extent) (j k left : ℕ) → j ≡ suc k →
    o ≡ option_map (λ more. taken ++ more) (largest_taken j (free_extents ts) left) → Some e ≡ largest_of (free_extents ts) → e.tracks < left →
    o ≡ option_map (λ more. (taken ++ e ∷ []) ++ more) (largest_taken k (free_extents (marked false e ts)) (left - e.tracks))
whole_turn o taken ts e j k left i h q l =
    let es = free_extents ts in
    turn_some o taken es e j k left i h q
    ∙ ap (λ b. option_map (λ more. taken ++ more) (cond b (Some (extent e.start left ∷ [])) (behind e (largest_taken k (without_extent e es) (left - e.tracks)))))
    (lt-leb left e.tracks l)
    ∙ behind_all taken e (largest_taken k (without_extent e es) (left - e.tracks))
    ∙ ap (λ xs. option_map (λ more. (taken ++ e ∷ []) ++ more) (largest_taken k xs (left - e.tracks))) (sym (others_left ts e (largest_contained es e q)))

pub turn_whole : (o : Option (List Extent)) (taken all : List Extent) (ts us : List Bool) (e : Extent) (j k left : ℕ) → j ≡ suc k → all ≡ taken ++ e ∷ [] → us ≡ marked false e ts →
    o ≡ option_map (λ more. taken ++ more) (largest_taken j (free_extents ts) left) → Some e ≡ largest_of (free_extents ts) → e.tracks < left →
    o ≡ option_map (λ more. all ++ more) (largest_taken k (free_extents us) (left - e.tracks))
turn_whole o taken all ts us e j k left i p m h q l =
    whole_turn o taken ts e j k left i h q l
    ∙ ap (λ xs. option_map (λ more. xs ++ more) (largest_taken k (free_extents (marked false e ts)) (left - e.tracks))) (sym p)
    ∙ ap (λ bs. option_map (λ more. all ++ more) (largest_taken k (free_extents bs) (left - e.tracks))) (sym m)

pub turn_taken : (before ts us : List Bool) (taken all : List Extent) (e : Extent) → all ≡ taken ++ e ∷ [] → us ≡ marked false e ts → WereTaken before taken ts → Some e ≡ largest_of (free_extents ts) → WereTaken before all us
turn_taken before ts us taken all e p m w q =
    subst (λ xs. WereTaken before xs us) (sym p)
    (subst (WereTaken before (taken ++ e ∷ [])) (sym m) (taken_more before ts taken e w (largest_contained (free_extents ts) e q)))

-- what is planned: the front of the first that has all, or of the largest
pub planned_first : (es : List Extent) (n : ℕ) (e : Extent) → n ≢ 0 → Some e ≡ first_of n es → planned es n ≡ Some (extent e.start n ∷ [])
planned_first es n e z q = planned_sought es n z ∙ ap (λ o. front_or o n (largest_taken 5 es n)) (sym q)

pub planned_largest : (es : List Extent) (n : ℕ) → n ≢ 0 → None ≡ first_of n es → planned es n ≡ largest_taken 5 es n
planned_largest es n z q = planned_sought es n z ∙ ap (λ o. front_or o n (largest_taken 5 es n)) (sym q)
