use Rattle.std.proofs.Common.{◌∙◌, ℕ, List, ap, subst, sym}
use Rattle.packed_core.specs.Indexed.{hash_from}
use Rattle.packed_core.specs.Rows.{IsFound}
use Rattle.packed_core.proofs.Joining.{joined_self}
use Rattle.packed_core.proofs.row_list.RowList.find.Goals as goal

pub find-requires-clause-hash : goal.find-requires-clause-hash
find-requires-clause-hash c = c.requires.hash ∙ ap (hash_from 0) (sym (joined_self c.args.row.now))

pub returns-in-Some : goal.returns-in-Some
returns-in-Some c =
    subst (λ (l : List (List ℕ)). IsFound l c.args.row.now c.find.result) c.self.view_is
    (subst (λ (r : List ℕ). IsFound c.self.inside.rows r c.find.result) (joined_self c.args.row.now) c.find.ensures)

pub returns-in-None : goal.returns-in-None
returns-in-None c =
    subst (λ (l : List (List ℕ)). IsFound l c.args.row.now c.find_among.result) c.self.view_is
    (subst (λ (r : List ℕ). IsFound c.self.inside.rows r c.find_among.result) (joined_self c.args.row.now) c.find_among.ensures)
