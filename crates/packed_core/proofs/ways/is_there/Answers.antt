use Rattle.std.proofs.Common.{◌∙◌, ◌<◌, ℕ, List, [], Some, ap, arith, length, sym}
use Rattle.std.proofs.lemmas.List.{get_or_default}
use Rattle.packed_core.specs.declared.classes.Class.{Class}
use Rattle.packed_core.specs.Words.{joined_words}
use Rattle.packed_core.proofs.Places.{got_read}
use Rattle.packed_core.proofs.Standing.{words_same}
use Rattle.packed_core.proofs.ways.is_there.Goals as goal

pub returns : goal.returns
returns c e =
    let rows : List (List ℕ) = c.args.rows.now in
    let list : List Class = c.args.list.now in
    let base : List ℕ = c.args.base.now in
    let class : Class = c.index-list-looked.result in
    let row : List ℕ = c.at.result.now in
    let number : c.args.looked.class < length list = omega (arith, c.if-looked-list.false) in
    let below : c.args.looked.row < length rows = omega (arith, c.if-looked-len.false, c.len.ensures) in (
      class,
      got_read list c.args.looked.class class number c.index-list-looked.is,
      got_read rows c.args.looked.row row below (c.at.ensures ∙ get_or_default rows c.args.looked.row [] row below)
          ∙ ap Some (sym (words_same (joined_words base c.as_slice.result.now) row (sym c.is_joined.ensures ∙ e)) ∙ ap (joined_words base) c.as_slice.ensures.value),
    )
