-- What a table of tracks keeps beside them once some are marked.
use Rattle.std.proofs.Common.{◌≡◌, ◌≢◌, ℕ, ◌≤◌, true, false, Bool, List, length, Some, None, ap, sym, ◌∙◌, subst, arith}
use Rattle.jcl_plan.specs.declared.plan.TheConstants.{MOST_TRACKS}
use Rattle.extent_core.specs.declared.extent.Extent.{Extent}
use Rattle.vtoc_core.specs.declared.volume.Track.{Track}
use Rattle.vtoc_core.specs.declared.volume.Track.TheVariants.{Free}
use Rattle.vtoc_core.specs.declared.volume.TrackCounts.{TrackCounts}
use Rattle.vtoc_core.specs.Extents.{are_free, free_extents, planned}
use Rattle.vtoc_core.specs.Searches.{marked_each}
use Rattle.vtoc_core.specs.Volumes.{AreOf, Counted, IsSpace, LacksSpace, Moves, marked}
use Rattle.vtoc_core.proofs.CountLemmas.{moves}
use Rattle.vtoc_core.proofs.FreeTracks.{are_free-marked, not_free}
use Rattle.vtoc_core.proofs.KindLemmas.{are_of-marked, marked_back}
use Rattle.vtoc_core.proofs.MarkLemmas.{length-marked}
use Rattle.vtoc_core.proofs.PlanLemmas.{IsPlan, planned_is, planned_refused, planned_some}

pub table_kept : (to : Track) (es : List Extent) (ts us ws : List Track) (counts : TrackCounts) (free : List Bool) → us ≡ marked to es ts → ws ≡ marked to es ts → length ts ≤ MOST_TRACKS →
    Counted counts ws → free ≡ are_free (marked to es ts) → Counted counts us × (length us ≤ MOST_TRACKS) × (free ≡ are_free us)
table_kept to es ts us ws counts free p q l c f =
    subst (λ (xs : List Track). Counted counts xs × (length xs ≤ MOST_TRACKS) × (free ≡ are_free xs)) (sym p)
    (subst (Counted counts) q c, omega (arith, length-marked to es ts), f)

-- where they are free, once some are free and once some are no longer
pub freed_are_free : (es : List Extent) (ts : List Track) (free new : List Bool) → free ≡ are_free ts → new ≡ marked_each true es free → new ≡ are_free (marked Free es ts)
freed_are_free es ts free new f n = n ∙ ap (marked_each true es) f ∙ sym (are_free-marked Free es ts)

pub taken_are_not : (to : Track) (es : List Extent) (ts : List Track) (free new : List Bool) → Free ≢ to → free ≡ are_free ts → new ≡ marked_each false es free → new ≡ are_free (marked to es ts)
taken_are_not to es ts free new a f n =
    n ∙ ap (marked_each false es) f
    ∙ ap (λ b. marked_each b es (are_free ts)) (sym (not_free to (λ e. a (sym e))))
    ∙ sym (are_free-marked to es ts)

-- what is taken
pub space_taken : (to : Track) (n : ℕ) (old ts us : List Track) (es : List Extent) → Free ≢ to → ts ≡ old → planned (free_extents ts) n ≡ Some es → us ≡ marked to es ts →
    IsSpace to n old es us
space_taken to n old ts us es a o h q =
    let p : IsPlan ts n es = planned_is ts n es h in
    let m : Moves Free to n ts (marked to es ts) = subst (λ (k : ℕ). Moves Free to k ts (marked to es ts)) p.tracks (moves Free to es ts a p.free) in
    subst (λ (xs : List Track). IsSpace to n xs es us) o
    (record {
      planned = h;
      held = planned_some (free_extents ts) n es h;
      free = p.free;
      size = p.tracks;
      few = p.few;
      marked = q;
      counts = subst (λ (xs : List Track). Moves Free to n ts xs) (sym q) m;
    })

pub space_lacking : (n : ℕ) (ts us : List Track) → planned (free_extents ts) n ≡ None → us ≡ ts → LacksSpace n ts us
space_lacking n ts us h q = record { none = h; exceeded = planned_refused (free_extents ts) n h; same = q }

-- what is taken is of its kind, and is freed again
pub space_held : (to : Track) (n : ℕ) (old new : List Track) (es fs : List Extent) → fs ≡ es → IsSpace to n old es new → AreOf to new fs
space_held to n old new es fs q s =
    subst (λ (xs : List Extent). AreOf to new xs) (sym q) (subst (λ (us : List Track). AreOf to us es) (sym s.marked) (are_of-marked Free to es old s.free))

pub space_back : (to : Track) (n : ℕ) (old new : List Track) (es fs : List Extent) → fs ≡ es → IsSpace to n old es new → marked Free fs new ≡ old
space_back to n old new es fs q s = ap (λ (xs : List Extent). marked Free xs new) q ∙ ap (λ (us : List Track). marked Free es us) s.marked ∙ marked_back to Free es old s.free
