use Rattle.std.proofs.Common.{◌∷◌, [], true, sym, ap, ◌∙◌, subst}
use Rattle.std.proofs.lemmas.List.Elements.{filter-append}
use Rattle.spool_core.specs.declared.spool.Place.{Place}
use Rattle.spool_core.specs.Places.{AreStarts, Stand, filled_places, sets_at}
use Rattle.spool_core.proofs.Entering.{none_entered, sets_entered, stands_entered}
use Rattle.spool_core.proofs.Filled.{starts_pushed}
use Rattle.spool_core.proofs.spool.put.Goals as goal

pub returns-then-has_lines-clause-stand : goal.returns-then-has_lines-clause-stand
returns-then-has_lines-clause-stand c =
    let u = c.insert_reserved-key.ensures in
    let place : Place = record { class = c.class-class.result; key = c.insert_reserved-key.result; filled = true } in
    let places = c.args.places.now.items in
    let now = ap filled_places c.push_reserved.ensures.items ∙ filter-append (λ (p : Place). p.filled) places (place ∷ []) in
    subst (Stand c.insert_reserved-key.new.self) (sym now)
    (stands_entered c.args.sets.now c.insert_reserved-key.new.self (filled_places places) place c.args.queued c.requires.stand u.was_vacant u.updates (sym c.if-has_lines.ensures) c.class-class.ensures)

pub returns-then-has_lines-clause-entered : goal.returns-then-has_lines-clause-entered
returns-then-has_lines-clause-entered c =
    let u = c.insert_reserved-key.ensures in
    let place : Place = record { class = c.class-class.result; key = c.insert_reserved-key.result; filled = true } in
    let places = c.args.places.now.items in
    let now = ap filled_places c.push_reserved.ensures.items ∙ filter-append (λ (p : Place). p.filled) places (place ∷ []) in
    ap (sets_at c.insert_reserved-key.new.self) now
    ∙ sets_entered c.args.sets.now c.insert_reserved-key.new.self (filled_places places) place c.args.queued c.requires.stand u.was_vacant u.updates (sym c.if-has_lines.ensures)

pub returns-then-has_lines-clause-starts : goal.returns-then-has_lines-clause-starts
returns-then-has_lines-clause-starts c = λ starts s.
    let place : Place = record { class = c.class-class.result; key = c.insert_reserved-key.result; filled = true } in
    subst (AreStarts starts) (sym c.push_reserved.ensures.items) (starts_pushed starts c.args.places.now.items place s)

pub returns-else-has_lines-clause-entered : goal.returns-else-has_lines-clause-entered
returns-else-has_lines-clause-entered c = none_entered _ c.args.queued (sym c.if-has_lines.ensures)
