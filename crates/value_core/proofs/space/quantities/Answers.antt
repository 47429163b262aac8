use Rattle.std.proofs.Common.{◌≡◌, [], ◌∷◌, sym, ap, ◌∙◌}
use Rattle.value_core.proofs.Tracks.{two_quantities}
use Rattle.value_core.proofs.space.quantities.Goals as goal
use Rattle.value_core.proofs.space.quantities.Goals.{in-Some, in-None}

pub returns-in_default-next : goal.returns-in_default-next
returns-in_default-next c = λ name unit.
    elim c.match-next.branch [
      | in-Some w ↦
          two_quantities name _ w.in-Some.text.now c.in-Some-next.secondary.now c.match-next.primary c.quantity.result c.pair-in_default-next.result
          (sym c.of_value-places.ensures ∙ w.in-Some.ensures ∙ ap (λ xs. w.in-Some.text.now ∷ xs) (c.in-Some-next.ensures ∙ ap (λ xs. c.in-Some-next.secondary.now ∷ xs) c.in_default-next.ensures.0))
          (w.primary-is ∙ w.quantity-primary.ensures name unit) (c.quantity.ensures name unit) c.pair-in_default-next.ensures
      | in-None w ↦
          let none : c.next.new.self ≡ [] = w.in-None.ensures.1 in
          let some : c.next.new.self ≡ c.in-Some-next.secondary.now ∷ c.next-2.new.self = c.in-Some-next.ensures in
          absurd (cc (none, some))
    ]
