use Rattle.std.proofs.Common.{◌≡◌, Ok, subst}
use Rattle.jcl_procs.specs.Counting.{is_over}
use Rattle.jcl_procs.specs.Expansions.{flat_from, flat_of}
use Rattle.jcl_refs.specs.Plans.{most_steps}
use Rattle.deck_places.proofs.Numbers.{counted_by}
use Rattle.deck_places.proofs.refusing.Sources.refuses_number.Goals as goal

pub returns-in-Ok : goal.returns-in-Ok
returns-in-Ok c =
    let library = c.args.self.now.library.now in
    let deck = c.args.deck in
    counted_by c.args.self.now.units.now deck.job (flat_of library deck) c.in-Ok.over
    (subst (λ procedures. is_over most_steps (flat_from library procedures 1 deck.steps) ≡ Ok c.in-Ok.over) c.as_slice.ensures c.in-Ok.ensures)
