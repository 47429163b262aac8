-- A job holds each name that its DDs want, alone where one of them wants it alone.
use Rattle.std.proofs.Common.{◌≡◌, ◌&&◌, ◌||◌, ◌⊎◌, inl, inr, ℕ, Bool, true, false, List, [], ◌∷◌, ◌++◌, refl, sym, ap, ◌∙◌, subst, rules}
use Rattle.std.specs.List.{list_any}
use Rattle.std.specs.Ordering.{is_eq, nat_cmp}
use Rattle.std.specs.Str.{bytes_eq}
use Rattle.std.specs.Cmp.Lexicographic.{slice_cmp}
use Rattle.std.specs.declared.cmp.Ordering.{Ordering}
use Rattle.std.specs.declared.cmp.Ordering.TheVariants.{Less, Equal, Greater}
use Rattle.std.proofs.lemmas.Bool.{and_from, and_parts, or_cases, or_left, or_right}
use Rattle.std.proofs.lemmas.Map.Text.{is_eq-slice_cmp}
use Rattle.std.proofs.lemmas.Slice.Eq.{bytes_eq-Decides}
use Rattle.jcl_plan.specs.declared.plan.JobPlan.{JobPlan}
use Rattle.jcl_meaning.specs.declared.names.HeldName.{HeldName}
use Rattle.jcl_meaning.specs.Names.{entered_at, held, names_of, wanted_by, with_name, with_names}
use Rattle.jcl_meaning.specs.Parts.{is_alone, is_among}
use Rattle.part_laws.proofs.SameWrites.{same_bytes}

equal_names : (a b : List ℕ) → slice_cmp nat_cmp a b ≡ Equal → a ≡ b
equal_names a b e = same_bytes a b (sym (is_eq-slice_cmp a b) ∙ ap is_eq e)

-- a test that a name and the same name held otherwise pass alike
module _ (test : HeldName → Bool) (merged : (there h : HeldName) → h.name ≡ there.name → (test h || test there) ≡ true → test
    (held there.name (there.exclusive || h.exclusive)) ≡ true) where
  entered_passes : (o : Ordering) (h there : HeldName) (rest more : List HeldName) → (o ≡ Equal → h.name ≡ there.name) →
      (list_any test (h ∷ rest) ≡ true → list_any test more ≡ true) →
      list_any test (h ∷ there ∷ rest) ≡ true → list_any test (entered_at o h there rest more) ≡ true
  entered_passes Less h there rest more same later e = e
  entered_passes Greater h there rest more same later e = skipped (or_cases (test h) (test there || list_any test rest) e)
    where
      beside : (test there ≡ true) ⊎ (list_any test rest ≡ true) → list_any test (there ∷ more) ≡ true
      beside (inl f) = or_left (test there) (list_any test more) f
      beside (inr f) = or_right (test there) (list_any test more) (later (or_right (test h) (list_any test rest) f))

      skipped : (test h ≡ true) ⊎ ((test there || list_any test rest) ≡ true) → list_any test (there ∷ more) ≡ true
      skipped (inl f) = or_right (test there) (list_any test more) (later (or_left (test h) (list_any test rest) f))
      skipped (inr f) = beside (or_cases (test there) (list_any test rest) f)
  entered_passes Equal h there rest more same later e = joined (or_cases (test h) (test there || list_any test rest) e)
    where
      one : HeldName
      one = held there.name (there.exclusive || h.exclusive)

      beside : (test there ≡ true) ⊎ (list_any test rest ≡ true) → list_any test (held there.name (there.exclusive || h.exclusive) ∷ rest) ≡ true
      beside (inl f) =
          or_left (test (held there.name (there.exclusive || h.exclusive))) (list_any test rest) (merged there h (same refl) (or_right (test h) (test there) f))
      beside (inr f) = or_right (test (held there.name (there.exclusive || h.exclusive))) (list_any test rest) f

      joined : (test h ≡ true) ⊎ ((test there || list_any test rest) ≡ true) → list_any test (held there.name (there.exclusive || h.exclusive) ∷ rest) ≡ true
      joined (inl f) =
          or_left (test (held there.name (there.exclusive || h.exclusive))) (list_any test rest) (merged there h (same refl) (or_left (test h) (test there) f))
      joined (inr f) = beside (or_cases (test there) (list_any test rest) f)

  name_passes : (names : List HeldName) (h : HeldName) → list_any test (h ∷ names) ≡ true → list_any test (with_name names h) ≡ true
  name_passes [] h e = e
  name_passes (there ∷ rest) h e =
      entered_passes (slice_cmp nat_cmp h.name there.name) h there rest (with_name rest h) (equal_names h.name there.name) (name_passes rest h) e

  -- what passes among the names wanted, or held before, passes among those held
  names_pass : (names wanted : List HeldName) → (list_any test wanted || list_any test names) ≡ true → list_any test (with_names names wanted) ≡ true
  names_pass names [] e = e
  names_pass names (h ∷ hs) e = names_pass (with_name names h) hs (by_place (or_cases (list_any test (h ∷ hs)) (list_any test names) e))
    where
      behind : (test h ≡ true) ⊎ (list_any test hs ≡ true) → (list_any test hs || list_any test (with_name names h)) ≡ true
      behind (inl f) = or_right (list_any test hs) (list_any test (with_name names h)) (name_passes names h (or_left (test h) (list_any test names) f))
      behind (inr f) = or_left (list_any test hs) (list_any test (with_name names h)) f

      by_place : ((test h || list_any test hs) ≡ true) ⊎ (list_any test names ≡ true) → (list_any test hs || list_any test (with_name names h)) ≡ true
      by_place (inl f) = behind (or_cases (test h) (list_any test hs) f)
      by_place (inr f) = or_right (list_any test hs) (list_any test (with_name names h)) (name_passes names h (or_right (test h) (list_any test names) f))

same_held : (name : List ℕ) (there h : HeldName) → h.name ≡ there.name → (bytes_eq h.name name || bytes_eq there.name name) ≡ true →
    bytes_eq there.name name ≡ true
same_held name there h same e = by_place (or_cases (bytes_eq h.name name) (bytes_eq there.name name) e)
  where
    by_place : (bytes_eq h.name name ≡ true) ⊎ (bytes_eq there.name name ≡ true) → bytes_eq there.name name ≡ true
    by_place (inl f) = subst (λ (n : List ℕ). bytes_eq n name ≡ true) same f
    by_place (inr f) = f

same_alone : (name : List ℕ) (there h : HeldName) → h.name ≡ there.name →
    ((h.exclusive && bytes_eq h.name name) || (there.exclusive && bytes_eq there.name name)) ≡ true →
    ((there.exclusive || h.exclusive) && bytes_eq there.name name) ≡ true
same_alone name there h same e = by_place (or_cases (h.exclusive && bytes_eq h.name name) (there.exclusive && bytes_eq there.name name) e)
  where
    by_place : ((h.exclusive && bytes_eq h.name name) ≡ true) ⊎ ((there.exclusive && bytes_eq there.name name) ≡ true) →
        ((there.exclusive || h.exclusive) && bytes_eq there.name name) ≡ true
    by_place (inl f) =
        let parts : (h.exclusive ≡ true) × (bytes_eq h.name name ≡ true) = and_parts h.exclusive (bytes_eq h.name name) f in
        and_from (there.exclusive || h.exclusive) (bytes_eq there.name name) (or_right there.exclusive h.exclusive parts.0)
        (subst (λ (n : List ℕ). bytes_eq n name ≡ true) same parts.1)
    by_place (inr f) =
        let parts : (there.exclusive ≡ true) × (bytes_eq there.name name ≡ true) = and_parts there.exclusive (bytes_eq there.name name) f in
        and_from (there.exclusive || h.exclusive) (bytes_eq there.name name) (or_left there.exclusive h.exclusive parts.0) parts.1

-- all of these names are held, alone where they are wanted so
pub record AreHeld (names wanted : List HeldName) : Type 0 where
  pub among : (name : List ℕ) → is_among wanted name ≡ true → is_among names name ≡ true
  pub alone : (name : List ℕ) → is_alone wanted name ≡ true → is_alone names name ≡ true

pub all_held : (plan : JobPlan) → AreHeld (names_of plan) (wanted_by plan.steps)
all_held plan = record {
  among = λ name e. names_pass (λ x. bytes_eq x.name name) (same_held name) [] (wanted_by plan.steps) (or_left (is_among (wanted_by plan.steps) name) false e);
  alone =
      λ name e. names_pass (λ x. x.exclusive && bytes_eq x.name name) (same_alone name) [] (wanted_by plan.steps)
      (or_left (is_alone (wanted_by plan.steps) name) false e);
}

any_front : {X : Type 0} (test : X → Bool) (xs ys : List X) → list_any test xs ≡ true → list_any test (xs ++ ys) ≡ true
any_front test [] ys e = absurd cc
any_front test (x ∷ xs) ys e = by_place (or_cases (test x) (list_any test xs) e) (any_front test xs ys)
  where
    by_place : (test x ≡ true) ⊎ (list_any test xs ≡ true) → (list_any test xs ≡ true → list_any test (xs ++ ys) ≡ true) → list_any test (x ∷ (xs ++ ys)) ≡ true
    by_place (inl f) more = or_left (test x) (list_any test (xs ++ ys)) f
    by_place (inr f) more = or_right (test x) (list_any test (xs ++ ys)) (more f)

any_behind : {X : Type 0} (test : X → Bool) (xs ys : List X) → list_any test ys ≡ true → list_any test (xs ++ ys) ≡ true
any_behind test [] ys e = e
any_behind test (x ∷ xs) ys e = or_right (test x) (list_any test (xs ++ ys)) (any_behind test xs ys e)

pub held_front : (names xs ys : List HeldName) → AreHeld names (xs ++ ys) → AreHeld names xs
held_front names xs ys h = record {
  among = λ name e. h.among name (any_front (λ x. bytes_eq x.name name) xs ys e);
  alone = λ name e. h.alone name (any_front (λ x. x.exclusive && bytes_eq x.name name) xs ys e);
}

pub held_behind : (names xs ys : List HeldName) → AreHeld names (xs ++ ys) → AreHeld names ys
held_behind names xs ys h = record {
  among = λ name e. h.among name (any_behind (λ x. bytes_eq x.name name) xs ys e);
  alone = λ name e. h.alone name (any_behind (λ x. x.exclusive && bytes_eq x.name name) xs ys e);
}

itself : (name : List ℕ) → bytes_eq name name ≡ true
itself name = grind (rules, bytes_eq-Decides name name)

pub one_held : (names : List HeldName) (name : List ℕ) (exclusive : Bool) → AreHeld names (held name exclusive ∷ []) →
    (is_among names name ≡ true) × (exclusive ≡ true → is_alone names name ≡ true)
one_held names name exclusive h = (
  h.among name (or_left (bytes_eq name name) false (itself name)),
  λ e. h.alone name (or_left (exclusive && bytes_eq name name) false (and_from exclusive (bytes_eq name name) e (itself name))),
)
