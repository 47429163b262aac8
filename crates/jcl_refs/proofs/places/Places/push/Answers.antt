use Rattle.std.proofs.Common.{◌≡◌, ◌<◌, ◌++◌, ◌∷◌, [], Some, sym, ap, ◌∙◌, length, slice_get, arith}
use Rattle.std.proofs.lemmas.Option.{slice_get_read}
use Rattle.std.specs.Str.{bytes_eq}
use Rattle.name_places.proofs.PlaceLemmas.{place_within}
use Rattle.jcl_refs.specs.Waiting.{own}
use Rattle.jcl_refs.proofs.NamedPlaces.{pushed, read_at}
use Rattle.jcl_refs.proofs.places.Places.push.Goals as goal

pub index_mut-requires : goal.index_mut-requires
index_mut-requires c =
    let within = place_within c.number.new.self.names c.args.name c.in_ok-number.number c.in_ok-number.ensures.found in
    let aligned = c.in_ok-number.ensures.aligned in
    omega (arith, within, aligned, c.number.new.self.places.ok.0)

pub returns-clause-more : goal.returns-clause-more
returns-clause-more c x =
    let names = c.number.new.self.names in
    let ps = c.number.new.self.places.items in
    let n = c.in_ok-number.number in
    let found = c.in_ok-number.ensures.found in
    let within = place_within names c.args.name n found in
    let lt : n < length ps = omega (arith, within, c.in_ok-number.ensures.aligned) in
    let read : slice_get ps n ≡ Some c.index_mut.result.now = slice_get_read ps (length ps) n c.index_mut.result.now (λ i. length ps) lt c.index_mut.ensures.value in
    pushed names ps c.args.name x n c.args.place c.push.new.self found lt
    (c.in_ok-push.ensures.items ∙ ap (λ items. items ++ c.args.place ∷ []) (sym (read_at names ps c.args.name n c.index_mut.result.now found read)))
    ∙ ap (λ items. items ++ own (bytes_eq c.args.name x) c.args.place) (c.in_ok-number.ensures.same x)
