-- A walk that goes on, over so many records at most, whichever walk it is.
use Rattle.std.proofs.Common.{◌≡◌, ℕ, suc, ◌-◌, ◌<◌, ◌≤◌, Bool, List, subst, ◌∙◌, arith}
use Rattle.cb_walk.specs.Follows.{Follows, From, Refuses}

pub follows_on : {A : Type 0} (first second third : List ℕ) (f g h : From A) → Follows first second f g → Follows second third g h → Follows first third f h
follows_on first second third f g h one two seen marked =
    let a = one seen marked in
    let b = two a.0 a.1 in
    (b.0, b.1, a.2 ∙ b.2)

pub refuses_on : {A : Type 0} (first second : List ℕ) (f g : From A) (fault : ℕ) → Follows first second f g → Refuses second g fault → Refuses first f fault
refuses_on first second f g fault one two seen marked = let a = one seen marked in a.2 ∙ two a.0 a.1

-- The walk came here, where so many records are left.
module _ {A : Type 0} (here : ℕ → From A) (left : ℕ) (first marks : List ℕ) (walk : From A) (goes : Follows first marks walk (here left)) where
  module _ (some : 0 < left) where
    with_left : Follows first marks walk (here (suc (left - 1)))
    with_left =
        let whole : left ≡ suc (left - 1) = omega (arith, some) in
        let P : ℕ → Type 0 = λ x. Follows first marks walk (here x) in
        subst P whole goes

    pub one_passed : (there : ℕ → From A) (later : List ℕ) → ((fuel : ℕ) → Follows marks later (here (suc fuel)) (there fuel)) →
        Follows first later walk (there (left - 1))
    one_passed there later passes = follows_on first marks later walk (here (suc (left - 1))) (there (left - 1)) with_left (passes (left - 1))

    pub one_refused : (fault : ℕ) → ((fuel : ℕ) → Refuses marks (here (suc fuel)) fault) → Refuses first walk fault
    one_refused fault refuses = refuses_on first marks walk (here (suc (left - 1))) fault with_left (refuses (left - 1))

    pub all_passed : (end : From A) → ((fuel : ℕ) → Follows marks marks (here (suc fuel)) end) → Follows first marks walk end
    all_passed end ends = one_passed (λ x. end) marks ends

  pub none_left : left ≤ 0 → Refuses marks (here 0) 4 → Refuses first walk 4
  none_left end spent =
      let none : left ≡ 0 = omega (arith, end) in
      let P : ℕ → Type 0 = λ x. Follows first marks walk (here x) in
      refuses_on first marks walk (here 0) 4 (subst P none goes) spent
