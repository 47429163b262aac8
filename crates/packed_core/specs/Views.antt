-- The views before a part: the scenes that they show, each once, and a row for each.
use Rattle.std.specs.Prelude.{◌≡◌, ◌<◌, ◌+◌, ◌++◌, ℕ, List, Option, IfSome, length, slice_index_or}
use Rattle.jcl_plan.specs.declared.plan.JobPlan.{JobPlan}
use Rattle.view_core.specs.declared.scene.Scene.{Scene}
use Rattle.jcl_meaning.specs.States.{Fixed}
use Rattle.packed_core.specs.declared.placed.Known.{Known}
use Rattle.packed_core.specs.declared.room.Room.{Room}
use Rattle.packed_core.specs.declared.ways.Ways.{Ways}
use Rattle.packed_core.specs.Entries.{Entry, scenes_of}
use Rattle.packed_core.specs.Placed.{AreKnown}
use Rattle.packed_core.specs.Rooms.{IsSmall, room_at}
use Rattle.packed_core.specs.Rows.{row_at}
use Rattle.packed_core.specs.Shown.{AreApart}
use Rattle.packed_core.specs.Sights.{Sight}
use Rattle.packed_core.specs.Ways.{AreWays}
use Rattle.packed_core.specs.Words.{IsRow}

pub record Views : Type 0 where
  pub part : ℕ
  pub scenes : List Scene
  pub rows : List (List ℕ)

-- each row is of one of these scenes
pub record AreRows (plan : JobPlan) (part scenes : ℕ) (rows : List (List ℕ)) : Type 0 where
  pub numbered : (n : ℕ) → n < length rows → slice_index_or (row_at rows n) 0 0 < scenes
  pub packed : (n : ℕ) → n < length rows → IsRow (room_at plan part) (row_at rows n)

-- What was told of these scenes is so, and what is known of the scenes in front.
pub record AreViews (plan : JobPlan) (fixed : Fixed) (part : ℕ) (room : Room) (entries : List Entry) (sight from : Option Sight) (known : Known)
    (rows : List (List ℕ)) (ways : Option Ways) : Type 0 where
  pub roomed : room ≡ room_at plan part
  pub small : IsSmall room
  pub apart : AreApart plan fixed.date part (scenes_of entries)
  pub sighted : IfSome sight (λ s. s ≡ record { part = part; scenes = scenes_of entries })
  pub so_known : IfSome from (λ s. (part ≡ s.part + 1) × AreKnown plan fixed s.part s.scenes (scenes_of entries) known)
  pub are_rows : AreRows plan part (length entries) rows
  pub are_ways : IfSome ways (AreWays plan part rows)

-- the views are the same, but for scenes that came behind the others
pub record HasMoreScenes (old new : Views) : Type 0 where
  pub more : List Scene
  pub scenes : new.scenes ≡ old.scenes ++ more
  pub part : new.part ≡ old.part
  pub rows : new.rows ≡ old.rows
