use Rattle.std.proofs.Common.{◌≡◌, ap, sym, subst, ◌∙◌}
use Rattle.vtoc_core.specs.Volumes.{marked}
use Rattle.vtoc_core.specs.declared.volume.Track.TheVariants.{Aside, Free}
use Rattle.vtoc_core.proofs.KindLemmas.{marked_back}
use Rattle.mount_core.specs.Kept.{AreKept, kept_of}
use Rattle.mount_core.proofs.mounted.Mounted.has_room.Goals as goal

pub invariant_of-self : goal.invariant_of-self
invariant_of-self c =
    let back : c.give_back.new.self.tracks ≡ c.self.inside.volume.tracks =
    ap (λ v. v.tracks) c.give_back.ensures.state ∙ ap (λ v. marked Free c.in-Ok.list v.tracks) c.in-Ok.ensures.aside
    ∙ marked_back Aside Free c.in-Ok.list c.self.inside.volume.tracks c.in-Ok.ensures.free in
    subst (λ tracks. AreKept tracks (kept_of c.self.inside.kept.entries)) (sym back) c.self.invariant

pub returns-in-Ok-clause-same : goal.returns-in-Ok-clause-same
returns-in-Ok-clause-same c =
    let tracks : c.give_back.new.self.tracks ≡ c.self.inside.volume.tracks =
    ap (λ v. v.tracks) c.give_back.ensures.state ∙ ap (λ v. marked Free c.in-Ok.list v.tracks) c.in-Ok.ensures.aside
    ∙ marked_back Aside Free c.in-Ok.list c.self.inside.volume.tracks c.in-Ok.ensures.free in
    let sets : c.give_back.new.self.sets ≡ c.self.inside.volume.sets =
    ap (λ v. v.sets) c.give_back.ensures.state ∙ ap (λ v. v.sets) c.in-Ok.ensures.aside in
    (λ i. record { serial = c.self.inside.serial; volume = record { tracks = tracks i; sets = sets i }; kept = kept_of c.self.inside.kept.entries }) ∙ c.self.view_is
