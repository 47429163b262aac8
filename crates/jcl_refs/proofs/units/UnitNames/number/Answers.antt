use Rattle.std.proofs.Common.{◌<◌, length, ap, ◌∙◌, sym, arith}
use Rattle.name_places.proofs.PlaceLemmas.{place_within}
use Rattle.jcl_refs.proofs.Numbering.{from_one, number_is}
use Rattle.jcl_refs.proofs.units.UnitNames.number.Goals as goal

pub returns-in_err-place : goal.returns-in_err-place
returns-in_err-place c =
    rw (← c.self.view_is, ← c.as_slice.ensures.value)
    (c.from_residual.ensures ∙ ap from_one c.in_err-place.ensures ∙ number_is c.self.inside.places c.as_slice.result.now)

pub overflow_cast-result : goal.overflow_cast-result
overflow_cast-result c =
    let within : c.in_ok-place.place < length c.self.inside.places = place_within _ _ _ (sym c.in_ok-place.ensures) in
    omega (arith, within, c.self.invariant)

pub overflow_add-result : goal.overflow_add-result
overflow_add-result c =
    let within : c.in_ok-place.place < length c.self.inside.places = place_within _ _ _ (sym c.in_ok-place.ensures) in
    omega (arith, within, c.self.invariant)

pub returns : goal.returns
returns c =
    rw (← c.self.view_is, ← c.as_slice.ensures.value)
    (ap from_one c.in_ok-place.ensures ∙ number_is c.self.inside.places c.as_slice.result.now)
