-- The volumes on which the DDs of a step make their sets.
use Rattle.std.proofs.Common.{◌≡◌, ◌≢◌, ◌⊎◌, inl, inr, ⊎_elim, ◌∷◌, ◌<◌, ◌≤◌, ◌+◌, ◌-◌, ◌∙◌, ◌++◌, List, [], length, get_or, set, ℕ, Bool, true}
use Rattle.std.proofs.Common.{false, subst, sym, refl, ap, arith, length-append, if◌then◌else◌}
use Rattle.std.specs.Prelude.{Contains, All}
use Rattle.std.specs.List.{list_any}
use Rattle.std.specs.Str.{bytes_eq}
use Rattle.std.proofs.Math.ListN.{length-set}
use Rattle.std.proofs.lemmas.Bool.{cases_eq}
use Rattle.std.proofs.lemmas.List.{get_or-set_same, get_or-set_other, get_or_default}
use Rattle.std.proofs.lemmas.List.Elements.{All-push, All-weaker, Contains-append_left, Contains-push, Contains-push_cases}
use Rattle.std.proofs.lemmas.Map.Views.{Contains-from_any}
use Rattle.std.proofs.lemmas.Slice.Eq.{bytes_eq-Decides}
use Rattle.jcl_meaning.specs.declared.state.Place.{Place}
use Rattle.path_search.specs.Makings.{AreMarked, IsMarked, IsOfDd, Rows, row_at}

pub contains_serial : (serial : List ℕ) (row : List (List ℕ)) → list_any (bytes_eq serial) row ≡ true → Contains row serial
contains_serial serial row h = Contains-from_any {eq = bytes_eq} (λ x y. (bytes_eq-Decides x y).0) serial row h

-- a row with one volume more, unless it stands there
module _ (row : List (List ℕ)) (serial : List ℕ) where
  abbrev with_serial : Bool → List (List ℕ)
  with_serial there = if there then row else row ++ serial ∷ []

  row_keeps : (there : Bool) (s : List ℕ) → Contains row s → Contains (with_serial there) s
  row_keeps true s h = h
  row_keeps false s h = Contains-append_left row (serial ∷ []) s h

  row_has : (there : Bool) → list_any (bytes_eq serial) row ≡ there → Contains (with_serial there) serial
  row_has true h = contains_serial serial row h
  row_has false h = Contains-push row serial

  row_only : (there : Bool) (s : List ℕ) → Contains (with_serial there) s → Contains row s ⊎ (serial ≡ s)
  row_only true s h = inl h
  row_only false s h = Contains-push_cases row serial s h

-- one place is marked behind others
module _ (ps : List Place) (p : Place) (old mid : Rows) (row : List (List ℕ)) (dd : IsOfDd (length old) p) (marked : AreMarked ps old mid)
    (is : row ≡ (if list_any (bytes_eq p.serial) (row_at mid (p.dd - 1)) then row_at mid (p.dd - 1) else row_at mid (p.dd - 1) ++ p.serial ∷ [])) where
  abbrev new : Rows
  new = set mid (p.dd - 1) row

  inside : p.dd - 1 < length mid
  inside = let count = marked.count in omega (arith, count, dd.0, dd.1)

  here : row_at new (p.dd - 1) ≡ row
  here = get_or-set_same mid (p.dd - 1) row [] inside

  elsewhere : (i : ℕ) → i ≢ p.dd - 1 → row_at new i ≡ row_at mid i
  elsewhere i other = get_or-set_other mid (p.dd - 1) i row [] other

  keeps : (i : ℕ) (s : List ℕ) → IsMarked mid i s → IsMarked new i s
  keeps i s h = ⊎_elim
      (λ e. subst (λ (n : ℕ). IsMarked new n s) (sym e) (subst (λ (r : List (List ℕ)). Contains r s) (sym (here ∙ is))
      (row_keeps (row_at mid (p.dd - 1)) p.serial (list_any (bytes_eq p.serial) (row_at mid (p.dd - 1))) s (subst (λ (n : ℕ). IsMarked mid n s) e h))))
      (λ other. subst (λ (r : List (List ℕ)). Contains r s) (sym (elsewhere i other)) h)
      (cases_eq i (p.dd - 1))

  has : IsMarked new (p.dd - 1) p.serial
  has = subst (λ (r : List (List ℕ)). Contains r p.serial) (sym (here ∙ is))
      (row_has (row_at mid (p.dd - 1)) p.serial (list_any (bytes_eq p.serial) (row_at mid (p.dd - 1))) refl)

  abbrev IsOld : ℕ → List ℕ → List Place → Type 0
  IsOld i s places = IsMarked old i s ⊎ ((q : Place) × Contains places q × (q.dd ≡ i + 1) × (q.serial ≡ s))

  wider : (i : ℕ) (s : List ℕ) → IsOld i s ps → IsOld i s (ps ++ p ∷ [])
  wider i s (inl h) = inl h
  wider i s (inr h) = inr (h.0, Contains-append_left ps (p ∷ []) h.0 h.1, h.2, h.3)

  only : (i : ℕ) (s : List ℕ) → IsMarked new i s → IsOld i s (ps ++ p ∷ [])
  only i s h = ⊎_elim
      (λ e. by_row i e (row_only (row_at mid (p.dd - 1)) p.serial (list_any (bytes_eq p.serial) (row_at mid (p.dd - 1))) s
      (subst (λ (r : List (List ℕ)). Contains r s) (here ∙ is) (subst (λ (n : ℕ). IsMarked new n s) e h))))
      (λ other. wider i s (marked.only i s (subst (λ (r : List (List ℕ)). Contains r s) (elsewhere i other) h)))
      (cases_eq i (p.dd - 1))
    where
      by_row : (i : ℕ) → i ≡ p.dd - 1 → Contains (row_at mid (p.dd - 1)) s ⊎ (p.serial ≡ s) → IsOld i s (ps ++ p ∷ [])
      by_row i e (inl there) = wider i s (marked.only i s (subst (λ (n : ℕ). IsMarked mid n s) (sym e) there))
      by_row i e (inr same) = inr (p, Contains-push ps p, omega (arith, e, dd.0), same)

  pub marked_one : AreMarked (ps ++ p ∷ []) old new
  marked_one = record {
    count = length-set mid (p.dd - 1) row ∙ marked.count;
    kept = λ i s h. keeps i s (marked.kept i s h);
    all = All-push (λ (q : Place). IsMarked new (q.dd - 1) q.serial) ps p
        (All-weaker (λ (q : Place). IsMarked mid (q.dd - 1) q.serial) (λ (q : Place). IsMarked new (q.dd - 1) q.serial)
        (λ q h. keeps (q.dd - 1) q.serial h) ps marked.all)
        has;
    only = only;
  }
