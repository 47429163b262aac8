use Rattle.std.proofs.Common.{◌∙◌, List, ℕ, ap, length, sym}
use Rattle.packed_core.proofs.Sheets.{length-chunks}
use Rattle.packed_core.proofs.sheet.Sheet.len.Goals as goal

pub returns : goal.returns
returns c = sym (length-chunks c.self.inside.width c.self.inside.count c.self.inside.words.items) ∙ ap (λ (l : List (List ℕ)). length l) c.self.view_is
