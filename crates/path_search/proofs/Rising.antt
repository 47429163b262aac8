-- Places are put behind others by DD, and by volume as configured.
use Rattle.std.proofs.Common.{◌≡◌, ◌≢◌, ◌⊎◌, inl, inr, ⊎_elim, ◌∷◌, ◌<◌, ◌≤◌, ◌+◌, ◌-◌, ◌∙◌, ◌++◌, ◌&&◌, ◌==◌, List, [], length, get_or, ℕ, zero, suc}
use Rattle.std.proofs.Common.{Bool, true, false, Option, Some, None, subst, sym, refl, ap, arith, length-append, append_assoc, lt-ltb}
use Rattle.std.specs.Prelude.{Contains, All, nat_lt, cond}
use Rattle.std.specs.List.{list_any, position, position_or_len}
use Rattle.std.specs.Str.{bytes_eq}
use Rattle.std.specs.Cmp.Lexicographic.{nat_list_eq_equiv}
use Rattle.std.proofs.lemmas.Bool.{eqb-true, cases_eq}
use Rattle.std.proofs.lemmas.List.{get_or_past}
use Rattle.std.proofs.lemmas.List.Sums.{fails_before_first}
use Rattle.std.proofs.lemmas.List.Elements.{All-nil, All-cons, All-push, All-append, All-weaker, All-contains, Contains-append_left}
use Rattle.std.proofs.lemmas.List.Elements.{Contains-append_right, Contains-push}
use Rattle.std.proofs.lemmas.List.Quantifiers.{position-Some}
use Rattle.std.proofs.lemmas.Map.Views.{list_any-from_Contains}
use Rattle.std.proofs.lemmas.Slice.Eq.{bytes_eq-Decides}
use Rattle.jcl_meaning.specs.declared.state.Place.{Place}
use Rattle.path_meaning.specs.Verdicts.{AreRising, ComesBefore, IsOnEarlier, IsOnEarlierVolume}
use Rattle.path_search.specs.Makings.{AreAdded, IsMarked, IsOfRow, IsOfStep, IsRowAdded, Rows, is_some_of, row_at}
use Rattle.path_search.proofs.Marking.{contains_serial}

below_or_past : (a b : ℕ) → (a < b) ⊎ (b ≤ a)
below_or_past a zero = inr (omega arith)
below_or_past zero (suc b) = inl (omega arith)
below_or_past (suc a) (suc b) = ⊎_elim (λ l. inl (omega arith)) (λ p. inr (omega arith)) (below_or_past a b)

-- rising lists, one behind the other
pub rising_append : (volumes : List (List ℕ)) (ps qs : List Place) → AreRising volumes ps → AreRising volumes qs →
    ((p q : Place) → Contains ps p → Contains qs q → ComesBefore volumes p q) → AreRising volumes (ps ++ qs)
rising_append volumes [] qs a b between = b
rising_append volumes (p ∷ ps) qs a b between = (
  All-append (ComesBefore volumes p) ps qs a.0 (λ i d h. between p (get_or qs i d) (0, omega arith, refl) (i, h, by_default i d h)),
  rising_append volumes ps qs a.1 b (λ x y h k. between x y (suc h.0, omega (arith, h.1), h.2) k),
)
  where
    by_default : (i : ℕ) (d : Place) → i < length qs → get_or qs i (get_or qs i d) ≡ get_or qs i d
    by_default i d h = same qs i d h
      where
        same : (xs : List Place) (i : ℕ) (d : Place) → i < length xs → get_or xs i (get_or xs i d) ≡ get_or xs i d
        same [] i d h = absurd (omega arith)
        same (x ∷ xs) zero d h = refl
        same (x ∷ xs) (suc i) d h = same xs i d (omega arith)

abbrev pub IsBelow : ℕ → Option ℕ → Type 0
IsBelow at None = ⊥
IsBelow at (Some i) = i < at

below_more : (at : ℕ) (o : Option ℕ) → IsBelow at o → IsBelow (at + 1) o
below_more at None h = h
below_more at (Some i) h = omega arith

-- the places of a DD, on the volumes before one
pub record IsRowUpTo (volumes : List (List ℕ)) (step dd : ℕ) (row : List (List ℕ)) (at : ℕ) (old new : List Place) : Type 0 where
  pub more : List Place
  pub added : new ≡ old ++ more
  pub each : All (IsOfRow step dd row) more
  pub below : All (λ p. IsBelow at (position (bytes_eq p.serial) volumes)) more
  pub all : (serial : List ℕ) (i : ℕ) → Contains row serial → position (bytes_eq serial) volumes ≡ Some i → i < at →
      Contains more (record { step = step; dd = dd; serial = serial })
  pub rising : AreRising volumes more

append_nil : {X : Type 0} (xs : List X) → xs ≡ xs ++ []
append_nil [] = refl
append_nil (x ∷ xs) = ap (λ ys. x ∷ ys) (append_nil xs)

module _ (volumes : List (List ℕ)) (step dd : ℕ) (row : List (List ℕ)) (old : List Place) where
  pub row_start : IsRowUpTo volumes step dd row 0 old old
  row_start = record { more = []; added = append_nil old; each = All-nil _; below = All-nil _; all = λ serial i h p l. absurd (omega arith); rising = tt }

  and_true : (a b : Bool) → (a && b) ≡ true → (a ≡ true) × (b ≡ true)
  and_true true true h = (refl, refl)
  and_true true false h = absurd (cc)
  and_true false b h = absurd (cc)

  is_at : (n : ℕ) (o : Option ℕ) → is_some_of n o ≡ true → o ≡ Some n
  is_at n None h = absurd (cc)
  is_at n (Some m) h = ap Some (eqb-true m n h)

  module _ (at : ℕ) (new : List Place) (serial : List ℕ) (within : at < length volumes) (is : serial ≡ get_or volumes at serial)
      (before : IsRowUpTo volumes step dd row at old new) where
    abbrev chosen : Bool
    chosen = is_some_of at (position (bytes_eq serial) volumes) && list_any (bytes_eq serial) row

    -- a volume whose first place this is
    here : (s : List ℕ) → position (bytes_eq s) volumes ≡ Some at → s ≡ serial
    here s p = (bytes_eq-Decides s serial).0
        (ap (bytes_eq s) is ∙ (position-Some (bytes_eq s) volumes at serial p).1)

    pub row_same : chosen ≡ false → IsRowUpTo volumes step dd row (at + 1) old new
    row_same none = record {
      more = before.more;
      added = before.added;
      each = before.each;
      below = All-weaker (λ (p : Place). IsBelow at (position (bytes_eq p.serial) volumes))
          (λ (p : Place). IsBelow (at + 1) (position (bytes_eq p.serial) volumes))
          (λ p h. below_more at (position (bytes_eq p.serial) volumes) h) before.more before.below;
      all = λ s i h p l. ⊎_elim (λ e. absurd (never s h (subst (λ (n : ℕ). position (bytes_eq s) volumes ≡ Some n) e p)))
          (λ other. before.all s i h p (omega (arith, other, l))) (cases_eq i at);
      rising = before.rising;
    }
      where
        never : (s : List ℕ) → Contains row s → position (bytes_eq s) volumes ≡ Some at → ⊥
        never s h p =
            let e : s ≡ serial = here s p in
            let at_first : position (bytes_eq serial) volumes ≡ Some at = subst (λ (x : List ℕ). position (bytes_eq x) volumes ≡ Some at) e p in
            let marked : list_any (bytes_eq serial) row ≡ true = any_from row serial (subst (λ (x : List ℕ). Contains row x) e h) in
            let first : is_some_of at (position (bytes_eq serial) volumes) ≡ true = ap (is_some_of at) at_first ∙ self at in
            let yes : chosen ≡ true = ap (λ (b : Bool). b && list_any (bytes_eq serial) row) first ∙ marked in
            let both : true ≡ false = sym yes ∙ none in absurd (cc)
          where
            self : (n : ℕ) → (n == n) ≡ true
            self n = grind arith

            any_from : (xs : List (List ℕ)) (x : List ℕ) → Contains xs x → list_any (bytes_eq x) xs ≡ true
            any_from xs x h = list_any-from_Contains nat_list_eq_equiv x xs h

    pub row_more : chosen ≡ true → IsRowUpTo volumes step dd row (at + 1) old (new ++ record { step = step; dd = dd; serial = serial } ∷ [])
    row_more is_chosen =
        let both = and_true (is_some_of at (position (bytes_eq serial) volumes)) (list_any (bytes_eq serial) row) is_chosen in
        let first : position (bytes_eq serial) volumes ≡ Some at = is_at at (position (bytes_eq serial) volumes) both.0 in
        let marked : Contains row serial = contains_serial serial row both.1 in
        let p : Place = record { step = step; dd = dd; serial = serial } in
        record {
          more = before.more ++ p ∷ [];
          added = ap (λ (ps : List Place). ps ++ p ∷ []) before.added ∙ append_assoc old before.more (p ∷ []);
          each = All-push (IsOfRow step dd row) before.more p before.each (refl, refl, marked);
          below = All-push (λ (q : Place). IsBelow (at + 1) (position (bytes_eq q.serial) volumes)) before.more p
              (All-weaker (λ (q : Place). IsBelow at (position (bytes_eq q.serial) volumes))
              (λ (q : Place). IsBelow (at + 1) (position (bytes_eq q.serial) volumes))
              (λ q h. below_more at (position (bytes_eq q.serial) volumes) h) before.more before.below)
              (subst (λ (o : Option ℕ). IsBelow (at + 1) o) (sym first) (omega arith));
          all = λ s i h q l. ⊎_elim
              (λ e. subst (λ (x : List ℕ). Contains (before.more ++ p ∷ []) (record { step = step; dd = dd; serial = x }))
              (sym (here s (subst (λ (n : ℕ). position (bytes_eq s) volumes ≡ Some n) e q))) (Contains-push before.more p))
              (λ other. Contains-append_left before.more (p ∷ []) _ (before.all s i h q (omega (arith, other, l))))
              (cases_eq i at);
          rising = rising_append volumes before.more (p ∷ []) before.rising (All-nil _, tt)
              (λ q r h k. follows first q r h (only r k));
        }
      where
        only : (r : Place) → Contains (record { step = step; dd = dd; serial = serial } ∷ []) r → record { step = step; dd = dd; serial = serial } ≡ r
        only r k = one k.0 k.1 k.2
          where
            one : (n : ℕ) → n < 1 → get_or (record { step = step; dd = dd; serial = serial } ∷ []) n r ≡ r → record
                { step = step; dd = dd; serial = serial } ≡ r
            one zero l e = e
            one (suc n) l e = absurd (omega arith)

        earlier : (o o2 : Option ℕ) → IsBelow at o → o2 ≡ Some at → IsOnEarlier o o2
        earlier None o2 b e = absurd b
        earlier (Some i) o2 b e = subst (λ (x : Option ℕ). IsOnEarlier (Some i) x) (sym e) b

        follows : position (bytes_eq serial) volumes ≡ Some at → (q r : Place) → Contains before.more q → record { step = step; dd = dd; serial = serial } ≡ r →
            ComesBefore volumes q r
        follows first q r h e =
            let of : IsOfRow step dd row q = All-contains (IsOfRow step dd row) before.more q before.each h in
            let low : IsBelow at (position (bytes_eq q.serial) volumes) =
            All-contains (λ (x : Place). IsBelow at (position (bytes_eq x.serial) volumes)) before.more q before.below h in
            subst (λ (x : Place). ComesBefore volumes q x) e
            (inr (of.0, inr (of.1, earlier (position (bytes_eq q.serial) volumes) (position (bytes_eq serial) volumes) low first)))

  pub row_end : (at : ℕ) (new : List Place) → length volumes ≤ at → IsRowUpTo volumes step dd row at old new → IsRowAdded volumes step dd row old new
  row_end at new whole up = record {
    more = up.more;
    added = up.added;
    each = up.each;
    all = λ serial h there. found serial h (known serial there);
    rising = up.rising;
  }
    where
      known : (serial : List ℕ) → Contains volumes serial → (i : ℕ) × (position (bytes_eq serial) volumes ≡ Some i) × (i < length volumes)
      known serial there =
          let p = bytes_eq serial in
          let passes : bytes_eq serial (get_or volumes there.0 serial) ≡ true = (bytes_eq-Decides serial (get_or volumes there.0 serial)).1 (sym there.2) in
          let low : position_or_len p volumes ≤ there.0 = ⊎_elim
          (λ before. let fails = fails_before_first p volumes there.0 serial before in absurd (cc))
          (λ past. past)
          (below_or_past there.0 (position_or_len p volumes)) in
          let inside : position_or_len p volumes < length volumes = omega (arith, low, there.1) in
          (position_or_len p volumes, ap (λ (b : Bool). cond b (Some (position_or_len p volumes)) None) (lt-ltb _ _ inside), inside)

      found : (serial : List ℕ) → Contains row serial → (i : ℕ) × (position (bytes_eq serial) volumes ≡ Some i) × (i < length volumes) →
          Contains up.more (record { step = step; dd = dd; serial = serial })
      found serial h k = up.all serial k.0 h k.1 (omega (arith, k.2, whole))

-- rows, by DD
pub record AreRowsUpTo (volumes : List (List ℕ)) (step : ℕ) (rows : Rows) (count : ℕ) (old new : List Place) : Type 0 where
  pub more : List Place
  pub added : new ≡ old ++ more
  pub each : All (λ p. IsOfStep step rows p × (p.dd ≤ count)) more
  pub all : (dd : ℕ) (serial : List ℕ) → dd < count → IsMarked rows dd serial → Contains volumes serial →
      Contains more (record { step = step; dd = dd + 1; serial = serial })
  pub rising : AreRising volumes more

module _ (volumes : List (List ℕ)) (step : ℕ) (rows : Rows) (old : List Place) where
  pub rows_start : AreRowsUpTo volumes step rows 0 old old
  rows_start = record { more = []; added = append_nil old; each = All-nil _; all = λ dd serial l h k. absurd (omega arith); rising = tt }

  pub rows_more : (count : ℕ) (between new : List Place) (row : List (List ℕ)) → row ≡ row_at rows count → AreRowsUpTo volumes step rows count old between →
      IsRowAdded volumes step (count + 1) row between new → AreRowsUpTo volumes step rows (count + 1) old new
  rows_more count between new row is up added = record {
    more = up.more ++ added.more;
    added = added.added ∙ ap (λ (ps : List Place). ps ++ added.more) up.added ∙ append_assoc old up.more added.more;
    each = All-append (λ (p : Place). IsOfStep step rows p × (p.dd ≤ count + 1)) up.more added.more
        (All-weaker (λ (p : Place). IsOfStep step rows p × (p.dd ≤ count)) (λ (p : Place). IsOfStep step rows p × (p.dd ≤ count + 1))
        (λ p h. let low = h.1 in (h.0, omega arith)) up.more up.each)
        (All-weaker (IsOfRow step (count + 1) row) (λ (p : Place). IsOfStep step rows p × (p.dd ≤ count + 1)) (λ p h. of_step p h) added.more added.each);
    all = λ dd serial l h k. ⊎_elim
        (λ e. subst (λ (n : ℕ). Contains (up.more ++ added.more) (record { step = step; dd = n + 1; serial = serial })) (sym e)
        (Contains-append_right up.more added.more _ (added.all serial (subst (λ (r : List (List ℕ)). Contains r serial) (sym is)
        (subst (λ (n : ℕ). IsMarked rows n serial) e h)) k)))
        (λ other. Contains-append_left up.more added.more _ (up.all dd serial (omega (arith, other, l)) h k))
        (cases_eq dd count);
    rising = rising_append volumes up.more added.more up.rising added.rising (λ p q h k.
        let a : IsOfStep step rows p × (p.dd ≤ count) = All-contains (λ (x : Place). IsOfStep step rows x × (x.dd ≤ count)) up.more p up.each h in
        let b : IsOfRow step (count + 1) row q = All-contains (IsOfRow step (count + 1) row) added.more q added.each k in
        inr (a.0.of_step ∙ sym b.0, inl (omega (arith, a.1, b.1))));
  }
    where
      of_step : (p : Place) → IsOfRow step (count + 1) row p → IsOfStep step rows p × (p.dd ≤ count + 1)
      of_step p h =
          let same : p.dd ≡ count + 1 = h.1 in
          let back : p.dd - 1 ≡ count = omega arith in (
            record {
              of_step = h.0;
              from_one = omega (arith, h.1);
              marked = subst (λ (n : ℕ). IsMarked rows n p.serial) (sym back) (subst (λ (r : List (List ℕ)). Contains r p.serial) is h.2);
            },
            omega (arith, h.1),
          )

  pub rows_end : (count : ℕ) (new : List Place) → length rows ≤ count → AreRowsUpTo volumes step rows count old new → AreAdded volumes step rows old new
  rows_end count new whole up = record {
    more = up.more;
    added = up.added;
    each = All-weaker (λ (p : Place). IsOfStep step rows p × (p.dd ≤ count)) (IsOfStep step rows) (λ p h. h.0) up.more up.each;
    all = λ dd serial h k. up.all dd serial (inside dd serial h) h k;
    rising = up.rising;
  }
    where
      inside : (dd : ℕ) (serial : List ℕ) → IsMarked rows dd serial → dd < count
      inside dd serial h = ⊎_elim (λ l. omega (arith, l, whole))
          (λ past. absurd (none serial (subst (λ (r : List (List ℕ)). Contains r serial) (get_or_past rows dd [] past) h)))
          (below_or_past dd (length rows))
        where
          none : (s : List ℕ) → Contains [] s → ⊥
          none s h = omega (arith, h.1)
