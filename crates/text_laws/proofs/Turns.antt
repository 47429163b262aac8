-- What a turn of a job wrote and left, of printable characters.
use Rattle.std.proofs.Common.{◌++◌, ◌∷◌, ◌≡◌, All, List, None, Option, [], subst, sym}
use Rattle.std.specs.Prelude.{IfSome}
use Rattle.std.proofs.lemmas.List.Elements.{All-append, All-same}
use Rattle.jcl_plan.specs.declared.entry.JobLine.{JobLine}
use Rattle.world_meaning.specs.Worlds.{Running, Shared, Stage, going_on}
use Rattle.line_laws.specs.Printable.{IsPrintableLine}
use Rattle.print_laws.specs.Texts.{IsPrintableRunning, IsPrintableStage}
use Rattle.text_laws.proofs.Elements.{of_one}
use Rattle.text_laws.proofs.Shares.{IsPrintableShared}

-- what a turn wrote and left
pub record IsPrintableTurn (lines : List JobLine) (new : Shared) (runs : Option Running) : Type 0 where
  pub told : All IsPrintableLine lines
  pub shared : IsPrintableShared new
  pub runs_on : IfSome runs IsPrintableRunning

pub told_one : (lines : List JobLine) (l : JobLine) → lines ≡ l ∷ [] → IsPrintableLine l → All IsPrintableLine lines
told_one lines l is h = All-same IsPrintableLine lines (l ∷ []) is (of_one IsPrintableLine l h)

-- the job goes on, or it is over
pub goes_on : (runs : Option Running) (r : Running) (lines : List JobLine) (stage : Stage) → runs ≡ going_on r lines stage → IsPrintableRunning r →
    All IsPrintableLine lines → IsPrintableStage stage → IfSome runs IsPrintableRunning
goes_on runs r lines stage is h told at = subst (λ (x : Option Running). IfSome x IsPrintableRunning) (sym is) on
  where
    on : IsPrintableRunning (record r { listing = r.listing ++ lines; stage = stage })
    on = record { numbered = h.numbered; listing = All-append IsPrintableLine r.listing lines h.listing told; stage = at }

pub gone : (runs : Option Running) → runs ≡ None → IfSome runs IsPrintableRunning
gone runs is = subst (λ (x : Option Running). IfSome x IsPrintableRunning) (sym is) tt
