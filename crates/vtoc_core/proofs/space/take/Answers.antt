use Rattle.std.proofs.Common.{◌≡◌, ◌∷◌, [], Some, false, ap, sym, ◌∙◌, arith}
use Rattle.extent_core.proofs.CompareLemmas.{first_contained}
use Rattle.extent_core.specs.Extents.{extent, free_extents}
use Rattle.vtoc_core.specs.Searches.{marked_each}
use Rattle.vtoc_core.proofs.PlanLemmas.{planned_none}
use Rattle.vtoc_core.proofs.TakeLemmas.{planned_first, planned_largest}
use Rattle.vtoc_core.proofs.space.take.Goals as goal

pub returns-then-wanted-eq0 : goal.returns-then-wanted-eq0
returns-then-wanted-eq0 c =
    let bs = c.args.free.now in (
      planned_none (free_extents bs) c.args.wanted c.if-wanted-eq0.true ∙ ap Some (sym c.new-taken.ensures),
      ap (λ es. marked_each false es bs) (sym c.new-taken.ensures),
    )

pub returns-in_default : goal.returns-in_default
returns-in_default c =
    let es = free_extents c.args.free.now in
    rw (planned_largest es c.args.wanted (λ z. omega arith) c.in_default.ensures) c.take_largest.ensures

pub take_front-requires-clause-listed : goal.take_front-requires-clause-listed
take_front-requires-clause-listed c = (first_contained c.args.wanted (free_extents c.args.free.now) c.in-Some.first c.in-Some.ensures).0

pub take_front-requires-clause-within : goal.take_front-requires-clause-within
take_front-requires-clause-within c = (first_contained c.args.wanted (free_extents c.args.free.now) c.in-Some.first c.in-Some.ensures).1

pub returns : goal.returns
returns c =
    let bs = c.args.free.now in
    let front = extent c.in-Some.first.start c.args.wanted in
    let items : c.push.new.self.items ≡ front ∷ [] = cc in (
      planned_first (free_extents bs) c.args.wanted c.in-Some.first (λ z. omega arith) c.in-Some.ensures ∙ ap Some (sym items),
      c.take_front.ensures ∙ ap (λ es. marked_each false es bs) (sym items),
    )
