use Rattle.std.proofs.Common.{◌≡◌, ◌<◌, Some, sym, ap, ◌∙◌, length, slice_get, arith}
use Rattle.std.proofs.lemmas.Option.{slice_get_read}
use Rattle.name_places.proofs.PlaceLemmas.{place_within}
use Rattle.name_places.specs.Places.{place_of}
use Rattle.jcl_refs.proofs.NamedPlaces.{found_some, stays_for_none}
use Rattle.jcl_refs.proofs.places.Places.pop.Goals as goal

pub index_mut-requires : goal.index_mut-requires
index_mut-requires c =
    let within = place_within c.args.self.now.names c.as_slice.result.now c.in_ok-number.number (sym c.in_ok-number.ensures) in
    omega (arith, within, c.requires, c.args.self.now.places.ok.0)

pub returns-clause-none : goal.returns-clause-none
returns-clause-none c =
    let names = c.args.self.now.names in
    let ps = c.args.self.now.places.items in
    let n = c.in_ok-number.number in
    let found : place_of names c.args.name ≡ Some n = ap (place_of names) (sym c.as_slice.ensures.value) ∙ sym c.in_ok-number.ensures in
    let within = place_within names c.args.name n found in
    let lt : n < length ps = omega (arith, within, c.requires) in
    let read : slice_get ps n ≡ Some c.index_mut.result.now = slice_get_read ps (length ps) n c.index_mut.result.now (λ i. length ps) lt c.index_mut.ensures.value in
    found_some names ps c.args.name n c.index_mut.result.now c.pop.new.self c.pop.result found lt read c.pop.ensures.items c.pop.ensures.cases

pub returns-clause-same : goal.returns-clause-same
returns-clause-same c =
    let names = c.args.self.now.names in
    let ps = c.args.self.now.places.items in
    let n = c.in_ok-number.number in
    let found : place_of names c.args.name ≡ Some n = ap (place_of names) (sym c.as_slice.ensures.value) ∙ sym c.in_ok-number.ensures in
    let within = place_within names c.args.name n found in
    let lt : n < length ps = omega (arith, within, c.requires) in
    let read : slice_get ps n ≡ Some c.index_mut.result.now = slice_get_read ps (length ps) n c.index_mut.result.now (λ i. length ps) lt c.index_mut.ensures.value in
    stays_for_none names ps c.args.name n c.index_mut.result.now c.pop.new.self c.pop.result found lt read c.pop.ensures.items
