-- A job that makes no set needs no tracks.
use Rattle.std.proofs.Common.{◌≡◌, ℕ, List, [], ◌∷◌, All, arith, sym, ap, subst}
use Rattle.std.specs.List.{Contains}
use Rattle.std.proofs.lemmas.List.Elements.{All-nil}
use Rattle.plain.specs.Lists.{all_different}
use Rattle.jcl_plan.specs.declared.plan.JobPlan.{JobPlan}
use Rattle.jcl_meaning.specs.declared.state.Place.{Place}
use Rattle.jcl_meaning.specs.States.{Fixed}
use Rattle.jcl_meaning.specs.Stores.{Store}
use Rattle.world_meaning.specs.Admissions.{AreKept, IsKeptAt, is_same_dd}
use Rattle.world_meaning.specs.Tracks.{kept_of}
use Rattle.world_meaning.specs.Worlds.{Kept}
use Rattle.path_meaning.specs.Paths.{Makes}
use Rattle.path_meaning.specs.Verdicts.{AreMade}

pub in_none : {X : Type 0} (x : X) → Contains [] x → ⊥
in_none x (n, less, is) = omega (arith, less)

-- it makes sets at no place
pub no_places : (fixed : Fixed) (plan : JobPlan) (store : Store) → ((p : Place) → Makes fixed plan store p → ⊥) → AreMade fixed plan store []
no_places fixed plan store none = record {
  made = All-nil (Makes fixed plan store);
  all = λ p m. absurd (none p m);
  rising = tt;
}

-- and where nothing is kept for it, that is all that it asks for
pub none_kept : (plan : JobPlan) (job : ℕ) (kept : List ℕ → List Kept) → ((serial : List ℕ) → kept_of job kept serial ≡ []) → AreKept plan job [] kept
none_kept plan job kept none = record {
  founded = λ serial. subst (All (IsKeptAt plan [] serial)) (sym (none serial)) (All-nil (IsKeptAt plan [] serial));
  all = λ p within. absurd (in_none p within);
  once = λ serial. ap (all_different is_same_dd) (none serial);
}
