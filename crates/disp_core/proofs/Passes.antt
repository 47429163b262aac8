-- The first pass of a DD, where it stands in the list.
use Rattle.std.proofs.Common.{◌≡◌, ◌<◌, ◌==◌, ◌&&◌, ℕ, suc, Bool, true, false, cond, List, ◌∷◌, ◌++◌, length, take, drop, get_or, refl, sym, ap, ◌∙◌, drop-cons}
use Rattle.std.specs.List.{remove}
use Rattle.jcl_meaning.specs.declared.state.Passed.{Passed}
use Rattle.jcl_meaning.specs.EndActs.{without_pass}

chosen : {X : Type 0} (b : Bool) (x y : X) → b ≡ true → cond b x y ≡ x
chosen true x y h = refl
chosen false x y h = absurd cc

pub pass_found : (n dd : ℕ) (xs : List Passed) (i : ℕ) (p : Passed) → i < length xs → p ≡ get_or xs i p → (p.step == n && p.dd == dd) ≡ true →
    take i xs ++ without_pass (drop i xs) n dd ≡ without_pass xs n dd → remove xs i ≡ without_pass xs n dd
pass_found n dd xs i p h e t k =
    let split : drop i xs ≡ p ∷ drop (suc i) xs = drop-cons xs i p h ∙ ap (λ q. q ∷ drop (suc i) xs) (sym e) in
    let rest : without_pass (drop i xs) n dd ≡ drop (suc i) xs =
    ap (λ ps. without_pass ps n dd) split ∙ chosen (p.step == n && p.dd == dd) (drop (suc i) xs) (p ∷ without_pass (drop (suc i) xs) n dd) t in
    ap (λ ps. take i xs ++ ps) (sym rest) ∙ k
