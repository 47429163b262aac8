use Rattle.std.proofs.Common.{◌≡◌, ◌<◌, ℕ, List, None, Option, Some, arith, length, subst}
use Rattle.std.specs.Prelude.{IfSome, slice_get}
use Rattle.packed_core.specs.declared.classes.Class.{Class}
use Rattle.packed_core.specs.Rows.{IsFound}
use Rattle.packed_core.specs.Ways.{IsThere}
use Rattle.packed_core.specs.Words.{joined_words}
use Rattle.packed_core.proofs.Places.{got_read}
use Rattle.packed_core.proofs.ways.place_of.Goals as goal

found_there : (rows : List (List ℕ)) (list : List Class) (base : List ℕ) (number : ℕ) (class : Class) → slice_get list number ≡ Some class → (o : Option ℕ) →
    IsFound rows (joined_words base class.mask.items) o → IfSome o (λ n. IsThere rows list base (record { class = number; row = n }))
found_there rows list base number class at None h = tt
found_there rows list base number class at (Some n) h = (class, at, h)

pub returns : goal.returns
returns c =
    let rows : List (List ℕ) = c.args.rows.now in
    let list : List Class = c.args.list.now in
    let base : List ℕ = c.args.base.now in
    let class : Class = c.index-list-looked.result in
    let below : c.args.looked.class < length list = omega (arith, c.if-looked-list.false) in
    found_there rows list base c.args.looked.class class (got_read list c.args.looked.class class below c.index-list-looked.is) c.find_joined.result
    (subst (λ (m : List ℕ). IsFound rows (joined_words base m) c.find_joined.result) c.as_slice.ensures.value c.find_joined.ensures)
