use Rattle.std.proofs.Common.{◌∙◌, ◌&&◌, Bool, ap, rules, sym}
use Rattle.view_core.specs.Same.{entry_alike}
use Rattle.view_core.proofs.Beside.{entries_of_name}
use Rattle.view_core.proofs.same.two_entries_alike.Goals as goal

pub returns-then-same_name : goal.returns-then-same_name
returns-then-same_name c =
    c.seen_alike.ensures
    ∙ entries_of_name c.args.names.now c.args.a.now c.args.b.now c.args.x.0.now c.args.y.0.now c.args.x.1.now c.args.y.1.now
    (search rules) c.requires.first c.requires.other

pub returns-then-entry_alike : goal.returns-then-entry_alike
returns-then-entry_alike c =
    c.entry_alike-then-entry_alike.ensures
    ∙ ap (λ (b : Bool). b && entry_alike c.args.names.now c.args.a.now c.args.b.now c.args.y.0.now) (sym c.if-entry_alike.true ∙ c.entry_alike.ensures)

pub returns-else-entry_alike : goal.returns-else-entry_alike
returns-else-entry_alike c =
    c.if-entry_alike.false
    ∙ ap (λ (b : Bool). b && entry_alike c.args.names.now c.args.a.now c.args.b.now c.args.y.0.now) (sym c.if-entry_alike.false ∙ c.entry_alike.ensures)
