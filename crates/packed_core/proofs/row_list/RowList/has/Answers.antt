use Rattle.std.proofs.Common.{◌≡◌, ◌∙◌, ℕ, List, Option, None, Some, sym}
use Rattle.std.specs.Prelude.{is_some}
use Rattle.packed_core.specs.Rows.{IsFound, has_row}
use Rattle.packed_core.proofs.Skipping.{got_stands}
use Rattle.packed_core.proofs.row_list.RowList.has.Goals as goal

found_has : (rows : List (List ℕ)) (row : List ℕ) (o : Option ℕ) → IsFound rows row o → is_some o ≡ has_row row rows
found_has rows row None h = sym h
found_has rows row (Some n) h = sym (got_stands row rows n h)

pub returns : goal.returns
returns c = c.is_some.ensures ∙ found_has c.args.self.now c.args.row.now c.find.result c.find.ensures
