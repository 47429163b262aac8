-- What moves tell, one class of codes after another.
use Rattle.std.proofs.Common.{◌≡◌, inl, inr, arith, ◌++◌, ◌∷◌, ◌∙◌, ℕ, List, [], map, sym, ap, subst}
use Rattle.std.specs.Prelude.{Contains, None, Option, Some}
use Rattle.std.proofs.lemmas.List.{append-nil, append_assoc, map-append}
use Rattle.std.proofs.lemmas.List.Elements.{Contains-append_left, Contains-push, Contains-push_cases}
use Rattle.jcl_meaning.specs.Views.{View}
use Rattle.view_domain.specs.declared.crossed.Move.{Move}
use Rattle.view_domain.specs.Crossings.{views_of}
use Rattle.view_core.specs.Moves.{AreTold, Told}
use Rattle.packed_core.specs.Moving.{LeadsTo, TellsOne, listed}
use Rattle.packed_core.proofs.Standing.{stands}

module _ {V : Type 0} (meaning : V → View) (view_of : Told → View) (there : List View) (tolds : List Told) (t : Told) (moves : List (Move V))
    (so_far : AreTold meaning view_of there tolds moves) where
  founded_more : (m : Move V) → Contains moves m → (u : Told) × Contains (tolds ++ t ∷ []) u × (m.outcome ≡ u.outcome) × (meaning m.view ≡ view_of u)
  founded_more m h = let u = so_far.founded m h in (u.0, Contains-append_left tolds (t ∷ []) u.0 u.1, u.2, u.3)

  -- its view stood there
  pub told_stood : Contains there (view_of t) → AreTold meaning view_of there (tolds ++ t ∷ []) moves
  told_stood stood = record {
    covers = λ u h. elim (Contains-push_cases tolds t u h) [
      | inl g ↦ so_far.covers u g
      | inr e ↦ subst (λ v. Contains (there ++ views_of meaning moves) (view_of v)) e (Contains-append_left there (views_of meaning moves) (view_of t) stood)
    ];
    founded = founded_more;
  }

  -- a move leads to it
  pub told_more : (m : Move V) → m.outcome ≡ t.outcome → meaning m.view ≡ view_of t → AreTold meaning view_of there (tolds ++ t ∷ []) (moves ++ m ∷ [])
  told_more m outcome view =
      let views : List View = views_of meaning moves in
      let longer : there ++ views_of meaning (moves ++ m ∷ []) ≡ (there ++ views) ++ meaning m.view ∷ [] =
      ap (λ vs. there ++ vs) (map-append (λ (x : Move V). meaning x.view) moves (m ∷ [])) ∙ sym (append_assoc there views (meaning m.view ∷ [])) in
      record {
        covers = λ u h. subst (λ vs. Contains vs (view_of u)) (sym longer) (elim (Contains-push_cases tolds t u h) [
          | inl g ↦ Contains-append_left (there ++ views) (meaning m.view ∷ []) (view_of u) (so_far.covers u g)
          | inr e ↦ subst (λ v. Contains ((there ++ views) ++ meaning m.view ∷ []) v) (view ∙ ap view_of e) (Contains-push (there ++ views) (meaning m.view))
        ]);
        founded = λ n h. elim (Contains-push_cases moves m n h) [
          | inl g ↦ founded_more n g
          | inr e ↦ (
            t,
            Contains-push tolds t,
            subst (λ (x : Move V). x.outcome ≡ t.outcome) e outcome,
            subst (λ (x : Move V). meaning x.view ≡ view_of t) e view,
          )
        ];
      }

  -- one of both
  pub told_one : (told : Option (Move V)) → TellsOne meaning view_of there t told → AreTold meaning view_of there (tolds ++ t ∷ []) (moves ++ listed told)
  told_one None h = subst (AreTold meaning view_of there (tolds ++ t ∷ [])) (sym (append-nil moves)) (told_stood h)
  told_one (Some m) h = told_more m h.0 h.1

-- a row that shows what is to be told
pub one_told : {V : Type 0} (f : List ℕ → View) (row_of : V → List ℕ) (rows : List (List ℕ)) (row : List ℕ) (view_of : Told → View) (t : Told) →
    f row ≡ view_of t →
    (told : Option (Move V)) → LeadsTo row_of rows t.outcome row told → TellsOne (λ v. f (row_of v)) view_of (map f rows) t told
one_told f row_of rows row view_of t shows None h = subst (Contains (map f rows)) shows (stands f row rows h)
one_told f row_of rows row view_of t shows (Some m) h = (h.0, ap f h.1 ∙ shows)

-- nothing is told yet
pub none_told : {V : Type 0} (meaning : V → View) (view_of : Told → View) (there : List View) → AreTold meaning view_of there [] []
none_told meaning view_of there = record {
  covers = λ t h. absurd (omega (arith, h.1));
  founded = λ m h. absurd (omega (arith, h.1));
}
