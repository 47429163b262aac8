use Rattle.std.proofs.Common.{◌∙◌, List, ap, sym}
use Rattle.std.proofs.lemmas.Option.{same_Some}
use Rattle.packed_core.specs.declared.classes.Class.{Class}
use Rattle.packed_core.proofs.Places.{got_read}
use Rattle.packed_core.proofs.apart.mask_at.Goals as goal

pub returns : goal.returns
returns c class at =
    let list : List Class = c.args.list.now in
    let x : Class = c.index-list-i.result in
    c.as_slice.ensures.value ∙ sym (ap (λ (k : Class). k.mask.items) c.index-list-i.is)
    ∙ ap (λ (k : Class). k.mask.items) (same_Some x class (sym (got_read list c.args.i x c.requires c.index-list-i.is) ∙ at))
