use Rattle.std.proofs.Common.{◌≡◌, inl, inr, ◌++◌, ◌∷◌, ◌<◌, ℕ, List, [], ap, arith, length, subst, sym}
use Rattle.std.specs.Prelude.{All, Contains}
use Rattle.std.proofs.lemmas.Bool.{cases_lt}
use Rattle.std.proofs.lemmas.List.Elements.{All-push, Contains-append_left, Contains-push}
use Rattle.packed_core.proofs.apart.numbers_to.Goals as goal

pub loop-i-init : goal.loop-i-init
loop-i-init c = record {
  below = λ k d h. absurd (omega (arith, h, ap (λ (l : List ℕ). length l) c.in_ok-numbers.ensures.items));
  every = λ j h. absurd (omega arith);
}

pub loop-i-preserved : goal.loop-i-preserved
loop-i-preserved c =
    let i : ℕ = c.loop-i.i in
    let old : List ℕ = c.loop-i.numbers.items in
    let pushed : c.push.new.self.items ≡ old ++ i ∷ [] = c.in_ok-push.ensures.items in
    record {
      below = subst (All (λ (j : ℕ). j < c.args.count)) (sym pushed)
          (All-push (λ (j : ℕ). j < c.args.count) old i c.loop-i.invariant.below (omega (arith, c.loop-i-test.true)));
      every = λ j h. elim (cases_lt j i) [
        | inl l ↦ subst (λ (xs : List ℕ). Contains xs j) (sym pushed) (Contains-append_left old (i ∷ []) j (c.loop-i.invariant.every j l))
        | inr l ↦
            let same : i ≡ j = omega arith in
            subst (Contains c.push.new.self.items) same (subst (λ (xs : List ℕ). Contains xs i) (sym pushed) (Contains-push old i))
      ];
    }

pub returns-clause-below : goal.returns-clause-below
returns-clause-below c = c.loop-i.invariant.below

pub returns-clause-every : goal.returns-clause-every
returns-clause-every c j h = c.loop-i.invariant.every j (omega (arith, c.loop-i-test.false))
