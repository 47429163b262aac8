use Rattle.std.proofs.Common.{◌≡◌, Some, None, ap, sym, ◌∙◌, append-nil}
use Rattle.std.specs.FinMap as map
use Rattle.std.specs.Option.{option_copied}
use Rattle.vtoc_core.specs.declared.entry.SetKey.TheVariants.{Named}
use Rattle.vtoc_core.specs.Volumes.{VolumeState}
use Rattle.part_copy.specs.Copies.{copies_of_named}
use Rattle.part_copy.proofs.sets.copy_named.Goals as goal

pub returns-in_ok-push : goal.returns-in_ok-push
returns-in_ok-push c =
    let at : map.get c.args.mounted.now.volume.sets (Named c.args.name.now) ≡ Some c.in-Some.entry.now =
    ap (λ (v : VolumeState). map.get v.sets (Named c.args.name.now)) (sym c.volume.ensures) ∙ sym c.find.ensures ∙ ap option_copied c.in-Some.is in
    let copied = ap (copies_of_named c.args.mounted.now.serial c.args.name.now) at in
    let pushed = c.in_ok-push.ensures.ok in
    cc

pub returns-in_default : goal.returns-in_default
returns-in_default c =
    let at : map.get c.args.mounted.now.volume.sets (Named c.args.name.now) ≡ None =
    ap (λ (v : VolumeState). map.get v.sets (Named c.args.name.now)) (sym c.volume.ensures) ∙ sym c.find.ensures ∙ ap option_copied c.in_default.is in
    let copied = ap (copies_of_named c.args.mounted.now.serial c.args.name.now) at in
    let none = append-nil c.args.sets.now in
    cc
