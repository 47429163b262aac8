use Rattle.std.proofs.Common.{◌≡◌, true, false, cond, ℕ, List, codes, refl, sym, ◌∙◌}
use Rattle.std.specs.Str.{bytes_eq}
use Rattle.value_core.specs.declared.set.SetName.{SetName}
use Rattle.value_core.specs.declared.set.SetName.TheVariants as name
use Rattle.value_core.specs.Reads.{Read, good}
use Rattle.value_core.specs.References.{is_reference}
use Rattle.value_core.specs.SetNames.{of_dd, of_key}
use Rattle.value_core.proofs.Both.{at_false, at_true}
use Rattle.value_core.proofs.set_name.set_name.Goals as goal

abbrev other : List ℕ → Read SetName
other text = cond (is_reference text) (of_dd text) (of_key text)

pub returns-then-is_reference : goal.returns-then-is_reference
returns-then-is_reference c =
    let text = c.args.text.now in
    let no : bytes_eq text (codes "NULLFILE") ≡ false = cc in
    at_false (bytes_eq text (codes "NULLFILE")) (good name.Null) (other text) no
    (at_true (is_reference text) (of_dd text) (of_key text) (sym c.is_reference.ensures ∙ c.if-is_reference.true) c.of_dd.ensures)

pub returns : goal.returns
returns c =
    let text = c.args.text.now in
    let no : bytes_eq text (codes "NULLFILE") ≡ false = cc in
    at_false (bytes_eq text (codes "NULLFILE")) (good name.Null) (other text) no
    (at_false (is_reference text) (of_dd text) (of_key text) (sym c.is_reference.ensures ∙ c.if-is_reference.false) c.of_key.ensures)

pub returns-then-eq : goal.returns-then-eq
returns-then-eq c =
    let text = c.args.text.now in
    let yes : bytes_eq text (codes "NULLFILE") ≡ true = cc in
    at_true (bytes_eq text (codes "NULLFILE")) (good name.Null) (other text) yes refl
