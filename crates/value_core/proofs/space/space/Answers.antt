use Rattle.std.proofs.Common.{◌≡◌, true, false, ◌∷◌, codes, sym, ap, ◌∙◌}
use Rattle.std.specs.Str.{bytes_eq}
use Rattle.operand_core.specs.Operands.{places_of}
use Rattle.operand_core.specs.Subparameters.{inside, is_wrapped}
use Rattle.value_core.specs.Spaces.{space}
use Rattle.value_core.proofs.BadUnits.{space_with_bad_unit}
use Rattle.value_core.proofs.Both.{refused_is}
use Rattle.value_core.proofs.space.space.Goals as goal

pub returns-in-None : goal.returns-in-None
returns-in-None c =
    let text = c.args.text.now in
    let unit = c.in-Some.name.now in
    let quantities = c.in-Some-next.quantities.now in
    let further = c.next-2.new.self in
    let wrapped : is_wrapped text ≡ true = sym c.is_wrapped.ensures ∙ c.if-not-is_wrapped.false in
    let places : places_of (inside text) ≡ unit ∷ (quantities ∷ further) =
    ap places_of (sym c.inside.ensures) ∙ sym c.of_text-places.ensures ∙ c.in-Some.ensures ∙ ap (λ xs. unit ∷ xs) c.in-Some-next.ensures in
    let relative : bytes_eq unit (codes "ABSTR") ≡ false = cc in
    refused_is (space text) (space_with_bad_unit text unit quantities further wrapped places relative c.in-None.ensures)
