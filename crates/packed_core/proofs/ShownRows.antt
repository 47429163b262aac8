-- What a row shows, by the scene that it names and by its bits.
use Rattle.std.proofs.Common.{◌≡◌, ◌++◌, ◌∷◌, ◌∙◌, ◌<◌, ℕ, suc, Bool, List, [], Some, length, get_or, map, refl, sym, ap, arith}
use Rattle.std.specs.Prelude.{slice_get}
use Rattle.jcl_plan.specs.declared.plan.JobPlan.{JobPlan}
use Rattle.view_core.specs.declared.scene.Scene.{Scene}
use Rattle.view_core.specs.PlainViews.{shown_parts}
use Rattle.packed_core.specs.Rooms.{room_at}
use Rattle.packed_core.specs.Rows.{row_at}
use Rattle.packed_core.specs.Scenes.{HasScene}
use Rattle.packed_core.specs.Shown.{alone, nothing_shown, row_shown, with_bits}
use Rattle.packed_core.specs.Words.{bit, met_of}
use Rattle.packed_core.proofs.Places.{got_from, got_front, got_there}

module _ (plan : JobPlan) (date k : ℕ) (scenes : List Scene) (row : List ℕ) (scene : Scene) (abended : Bool) (met : List Bool)
    (after : bit row 0 ≡ abended) (these : met_of (room_at plan k) row ≡ met) where
  -- a scene with its number
  pub shown_at : slice_get scenes (get_or row 0 0) ≡ Some scene → row_shown plan date k scenes row ≡ shown_parts plan date k scene abended met
  shown_at at = λ i. with_bits plan k (got_from (alone plan date k) scenes (get_or row 0 0) scene nothing_shown at i) (after i) (these i)

  -- or one that shows the same
  pub shown_like : (n : ℕ) → get_or row 0 0 ≡ n → HasScene plan date k scenes scene n →
      row_shown plan date k scenes row ≡ shown_parts plan date k scene abended met
  shown_like n first h = λ i. with_bits plan k ((ap (λ (m : ℕ). get_or (map (alone plan date k) scenes) m nothing_shown) first
      ∙ got_from (alone plan date k) scenes n h.one nothing_shown h.there ∙ h.same) i) (after i) (these i)

-- where scenes came behind the others
module _ (plan : JobPlan) (date k : ℕ) (scenes more : List Scene) where
  pub scene_stays : (scene : Scene) (n : ℕ) → HasScene plan date k scenes scene n → HasScene plan date k (scenes ++ more) scene n
  scene_stays scene n h = record {
    one = h.one;
    there = got_front scenes more n h.one h.there;
    same = h.same;
  }

  row_stays : (row : List ℕ) → get_or row 0 0 < length scenes → row_shown plan date k (scenes ++ more) row ≡ row_shown plan date k scenes row
  row_stays row h =
      let s : (x : Scene) × (slice_get scenes (get_or row 0 0) ≡ Some x) = got_there scenes (get_or row 0 0) h in
      shown_at plan date k (scenes ++ more) row s.0 (bit row 0) (met_of (room_at plan k) row) refl refl (got_front scenes more (get_or row 0 0) s.0 s.1)
      ∙ sym (shown_at plan date k scenes row s.0 (bit row 0) (met_of (room_at plan k) row) refl refl s.1)

  pub rows_stay : (rows : List (List ℕ)) → ((n : ℕ) → n < length rows → get_or (row_at rows n) 0 0 < length scenes) →
      map (row_shown plan date k (scenes ++ more)) rows ≡ map (row_shown plan date k scenes) rows
  rows_stay [] h = refl
  rows_stay (row ∷ rows) h = λ i. row_stays row (h 0 (omega arith)) i ∷ rows_stay rows (λ n l. h (suc n) (omega arith)) i
