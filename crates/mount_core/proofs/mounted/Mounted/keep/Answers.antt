use Rattle.std.proofs.Common.{◌≡◌, ap, sym, subst, ◌∙◌}
use Rattle.vtoc_core.specs.Volumes.{marked}
use Rattle.vtoc_core.specs.declared.volume.Track.TheVariants.{Aside, Free}
use Rattle.vtoc_core.proofs.KindLemmas.{marked_back}
use Rattle.std.specs.FinMap.{insert}
use Rattle.mount_core.specs.Kept.{AreKept, kept_of}
use Rattle.mount_core.proofs.Keeping.{not_taken, one_kept}
use Rattle.mount_core.proofs.mounted.Mounted.keep.Goals as goal

pub invariant_of-self-in-Ok : goal.invariant_of-self-in-Ok
invariant_of-self-in-Ok c =
    let tracks = c.self.inside.volume.tracks in
    let kept = kept_of c.self.inside.kept.entries in
    let k = c.args.place in
    let list = c.in_ok-list.list in
    subst (AreKept c.reserve.new.self.tracks) (sym (c.in-Ok.ensures.ok ∙ ap (insert kept k) (c.copy_of.ensures ∙ c.into_extents-taken.ensures)))
    (one_kept tracks kept k list c.args.tracks c.reserve.new.self.tracks (not_taken kept k (sym c.is_taken.ensures ∙ c.if-is_taken.false))
    c.in_ok-list.ensures.free c.in_ok-list.ensures.list.1 (ap (λ v. v.tracks) c.in_ok-list.ensures.aside) c.in_ok-list.ensures.counts.more c.self.invariant)

-- what was taken for the list and given back
pub invariant_of-self-in-Err : goal.invariant_of-self-in-Err
invariant_of-self-in-Err c =
    let tracks = c.self.inside.volume.tracks in
    let list = c.in_ok-list.list in
    let back : c.give_back.new.self.tracks ≡ tracks =
    ap (λ v. v.tracks) c.give_back.ensures.state ∙ ap (λ l. marked Free l c.reserve.new.self.tracks) (c.of.ensures ∙ c.into_extents-taken.ensures)
    ∙ ap (λ v. marked Free list v.tracks) c.in_ok-list.ensures.aside ∙ marked_back Aside Free list tracks c.in_ok-list.ensures.free in
    subst (λ ts. AreKept ts (kept_of c.put.new.lists.entries)) (sym back) (subst (AreKept tracks) (sym c.in-Err.ensures.err) c.self.invariant)

pub returns-in-Err-clause-err : goal.returns-in-Err-clause-err
returns-in-Err-clause-err c =
    let tracks = c.self.inside.volume.tracks in
    let list = c.in_ok-list.list in
    let back : marked Free c.of.result c.reserve.new.self.tracks ≡ tracks =
    ap (λ l. marked Free l c.reserve.new.self.tracks) (c.of.ensures ∙ c.into_extents-taken.ensures)
    ∙ ap (λ v. marked Free list v.tracks) c.in_ok-list.ensures.aside ∙ marked_back Aside Free list tracks c.in_ok-list.ensures.free in
    let sets : c.reserve.new.self.sets ≡ c.self.inside.volume.sets = ap (λ v. v.sets) c.in_ok-list.ensures.aside in
    let volume : c.give_back.new.self ≡ c.self.inside.volume = c.give_back.ensures.state ∙ (λ i. record { tracks = back i; sets = sets i }) in
    (λ i. record { serial = c.self.inside.serial; volume = volume i; kept = c.in-Err.ensures.err i }) ∙ c.self.view_is
