use Rattle.std.proofs.Common.{◌≡◌, get_or, ap, sym, ◌∙◌, arith, Some}
use Rattle.extent_core.specs.Extents.{extent}
use Rattle.extent_core.proofs.Finding.{largest_kept, largest_kept_none}
use Rattle.extent_core.proofs.free.FreeExtents.largest.Goals as goal

pub returns-then-tracks-eq0 : goal.returns-then-tracks-eq0
returns-then-tracks-eq0 c =
    let place = c.largest-place.result in
    rw (← c.self.view_is)
    (sym (largest_kept_none c.self.inside.count c.self.inside.sizes c.self.inside.ends.items place c.self.invariant c.largest-place.ensures (sym c.get-tracks.ensures ∙ c.if-tracks-eq0.true)))

pub returns : goal.returns
returns c =
    let place = c.largest-place.result in
    let size : c.get-tracks.result ≡ get_or c.self.inside.sizes place 0 = c.get-tracks.ensures in
    let not_zero = c.if-tracks-eq0.false in
    rw (← c.self.view_is)
    (ap (λ n. Some (extent place n)) size
    ∙ sym (largest_kept c.self.inside.count c.self.inside.sizes c.self.inside.ends.items place c.self.invariant c.largest-place.ensures (omega arith)))
