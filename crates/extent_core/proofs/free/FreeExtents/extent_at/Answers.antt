use Rattle.std.proofs.Common.{◌≡◌, ◌<◌, get_or, ap, sym, ◌∙◌, arith, Some, ⊎_elim}
use Rattle.std.proofs.lemmas.Bool.{cases_lt}
use Rattle.extent_core.specs.Extents.{extent}
use Rattle.extent_core.proofs.Finding.{find_kept, find_kept_none}
use Rattle.extent_core.proofs.free.FreeExtents.extent_at.Goals as goal

pub returns-then-place-self : goal.returns-then-place-self
returns-then-place-self c =
    let s = c.args.start in
    let sizes = c.self.inside.sizes in
    let none : get_or sizes s 0 ≡ 0 =
    ⊎_elim
    (λ (l : 0 < get_or sizes s 0). absurd (omega (arith, c.self.invariant.within s l)))
    (λ l. omega arith)
    (cases_lt 0 (get_or sizes s 0))
    in
    rw (← c.self.view_is) (sym (find_kept_none c.self.inside.count sizes c.self.inside.ends.items s c.self.invariant none))

pub returns-then-tracks-eq0 : goal.returns-then-tracks-eq0
returns-then-tracks-eq0 c =
    let s = c.args.start in
    let sizes = c.self.inside.sizes in
    let none : get_or sizes s 0 ≡ 0 = rw (← c.from-place.ensures) (sym c.get-tracks.ensures ∙ c.if-tracks-eq0.true) in
    rw (← c.self.view_is) (sym (find_kept_none c.self.inside.count sizes c.self.inside.ends.items s c.self.invariant none))

pub returns : goal.returns
returns c =
    let s = c.args.start in
    let sizes = c.self.inside.sizes in
    let size : c.get-tracks.result ≡ get_or sizes s 0 = rw (← c.from-place.ensures) c.get-tracks.ensures in
    let not_zero = c.if-tracks-eq0.false in
    rw (← c.self.view_is)
    (ap (λ n. Some (extent s n)) size ∙ sym (find_kept c.self.inside.count sizes c.self.inside.ends.items s c.self.invariant (omega arith)))
