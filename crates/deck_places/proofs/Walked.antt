-- A walk over cards, of which some are taken.
use Rattle.std.proofs.Common.{◌≡◌, ◌∷◌, ◌∙◌, ◌+◌, ◌≤◌, ℕ, zero, suc, Bool, List, [], drop, length, refl, sym, ap, arith, subst}
use Rattle.card_core.specs.Deck.{Card}
use Rattle.deck_places.specs.Cards.{Walk, step_of, walk_by, walk_from}
use Rattle.deck_places.specs.Walks.{GoesWithin, LeadsOn, behind}
use Rattle.deck_places.specs.declared.walk.Onward.{Onward}
use Rattle.deck_places.specs.declared.walk.Onward.TheVariants.{Goes}
use Rattle.deck_places.specs.declared.walk.Step.{Step}

pub taken : (called : Bool) (at used : ℕ) (cards : List Card) → used ≤ length cards →
    walk_from called at used cards ≡ walk_from called (at + used) 0 (drop used cards)
taken called at zero [] h = refl
taken called at zero (card ∷ cards) h = ap (λ n. walk_from called n 0 (card ∷ cards)) (let e : at ≡ at + 0 = omega arith in e)
taken called at (suc used) [] h = absurd (omega arith)
taken called at (suc used) (card ∷ cards) h =
    taken called (at + 1) used cards (omega arith)
    ∙ ap (λ n. walk_from called n 0 (drop used cards)) (let e : at + 1 + used ≡ at + suc used = omega arith in e)

pub goes_within : (count : ℕ) (on : Onward) (c : Bool) (used : ℕ) → GoesWithin count on → on ≡ Goes c used → used ≤ count
goes_within count on c used h e = subst (GoesWithin count) e h

pub leads_on : (called : Bool) (at : ℕ) (step : Step) (old new : List ℕ) (on : Onward) (c : Bool) (used : ℕ) → LeadsOn called at step old new on → on ≡ Goes c used →
    (next : Bool → ℕ → Walk) → behind old (walk_by at step called next) ≡ behind new (next c used)
leads_on called at step old new on c used h e = subst (LeadsOn called at step old new) e h

-- a walk over one card more, and what is taken behind it
pub walk_on : (called : Bool) (at : ℕ) (card : Card) (cards : List Card) (step : Step) (old new : List ℕ) (c : Bool) (used : ℕ) →
    step ≡ step_of called card cards → used ≤ length cards →
    ((next : Bool → ℕ → Walk) → behind old (walk_by at step called next) ≡ behind new (next c used)) →
    behind old (walk_from called at 0 (card ∷ cards)) ≡ behind new (walk_from c (at + (1 + used)) 0 (drop used cards))
walk_on called at card cards step old new c used is fits leads =
    ap (λ s. behind old (walk_by at s called (λ k n. walk_from k (at + 1) n cards))) (sym is)
    ∙ leads (λ k n. walk_from k (at + 1) n cards)
    ∙ ap (behind new) (taken c (at + 1) used cards fits
    ∙ ap (λ n. walk_from c n 0 (drop used cards)) (let e : at + 1 + used ≡ at + (1 + used) = omega arith in e))
