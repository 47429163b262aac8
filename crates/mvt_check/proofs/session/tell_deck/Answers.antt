use Rattle.std.proofs.Common.{◌++◌, ◌∙◌, ap}
use Rattle.mvt_check.proofs.session.tell_deck.Goals as goal

pub returns-clause-added : goal.returns-clause-added
returns-clause-added c =
    let between = c.push_found.new.text.items in
    record {
      between = between;
      added = c.in_ok-warned.ensures.told;
      asides = c.in_ok-asides.asides.items;
      on = c.in_ok-extend_from_slice.ensures.items ∙ ap (λ t. between ++ t) c.as_slice-2.ensures.value;
      answered = c.in_ok-asides.ensures;
    }
