-- A list holds no more different elements than it is long.
use Rattle.std.proofs.Common.{◌≡◌, ◌≤◌, ◌<◌, ℕ, zero, suc, List, [], ◌∷◌, length, Some, refl, sym, ap, ◌∙◌, subst, arith}
use Rattle.std.specs.Prelude.{All, slice_get}
use Rattle.std.specs.List.{Contains}
use Rattle.std.proofs.lemmas.List.Elements.{All-head, All-tail, All-weaker}
use Rattle.std.proofs.lemmas.Option.{slice_get-get_or}
use Rattle.plain.specs.Lists.{Differ}
use Rattle.jcl_plan.specs.declared.plan.JobPlan.{JobPlan}
use Rattle.jcl_meaning.specs.States.{Fixed}
use Rattle.jcl_meaning.specs.Stores.{Store}
use Rattle.jcl_meaning.specs.Views.{IsViewAfter, View}
use Rattle.path_meaning.specs.Paths.{HasMoreViews}
use Rattle.path_laws.specs.Paths.{AreAllViews}

-- a place of a list at which an element stands
abbrev StandsIn : {X : Type 0} → List X → X → Type 0
StandsIn xs x = (k : ℕ) × (slice_get xs k ≡ Some x)

stands_in : {X : Type 0} (xs : List X) (x : X) → Contains xs x → StandsIn xs x
stands_in xs x h = (h.0, slice_get-get_or xs h.0 x h.1 ∙ ap Some h.2)

-- a list without the element at one of its places
without : {X : Type 0} → ℕ → List X → List X
without k [] = []
without zero (x ∷ xs) = xs
without (suc k) (x ∷ xs) = x ∷ without k xs

one_less : {X : Type 0} (k : ℕ) (xs : List X) (x : X) → slice_get xs k ≡ Some x → suc (length (without k xs)) ≡ length xs
unfolding without
one_less k [] x e = absurd cc
one_less zero (y ∷ xs) x e = refl
one_less (suc k) (y ∷ xs) x e = ap suc (one_less k xs x e)

-- the others still stand there
still_there : {X : Type 0} (k j : ℕ) (xs : List X) (x z : X) → (x ≡ z → ⊥) → slice_get xs k ≡ Some x → slice_get xs j ≡ Some z → StandsIn (without k xs) z
unfolding without
still_there k j [] x z other e f = absurd cc
still_there zero zero (y ∷ xs) x z other e f = let same : x ≡ z = cc in absurd (other same)
still_there zero (suc j) (y ∷ xs) x z other e f = (j, f)
still_there (suc k) zero (y ∷ xs) x z other e f = (0, f)
still_there (suc k) (suc j) (y ∷ xs) x z other e f = let found = still_there k j xs x z other e f in (suc found.0, found.1)

as_long : {X : Type 0} (xs ys : List X) → Differ xs → All (StandsIn ys) xs → length xs ≤ length ys
as_long [] ys differ there = omega arith
as_long (x ∷ xs) ys differ there =
    let first = All-head (StandsIn ys) x xs there in
    let later : All (StandsIn ys) xs = All-tail (StandsIn ys) x xs there in
    let rest : length xs ≤ length (without first.0 ys) = as_long xs (without first.0 ys) differ.1
    (λ k d below. let z = later k d below in still_there first.0 z.0 ys x _ (differ.0 k d below) first.1 z.1) in
    let size : suc (length (without first.0 ys)) ≡ length ys = one_less first.0 ys x first.1 in
    omega arith

pub are_few : (fixed : Fixed) (plan : JobPlan) (store : Store) (k limit : ℕ) (views : List View) → AreAllViews fixed plan store k views → length views ≤ limit →
    HasMoreViews fixed plan store k limit → ⊥
are_few fixed plan store k limit views all within more =
    let there : (view : View) → IsViewAfter fixed plan store k view → StandsIn views view =
    λ view after. subst (StandsIn views) (sym after.seen) (stands_in views _ (all after.outcomes after.within after.without_fault)) in
    let size : length more.views ≤ length views =
    as_long more.views views more.different (All-weaker (IsViewAfter fixed plan store k) (StandsIn views) there more.views more.seen) in
    let larger : limit < length more.views = more.more in
    absurd (omega arith)
