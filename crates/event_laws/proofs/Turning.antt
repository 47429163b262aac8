-- A turn of an initiator leaves one machine, but for the free tracks.
use Rattle.std.proofs.Common.{◌≡◌, ◌≢◌, ℕ, List, [], ◌∷◌, Option, Some, None, refl, sym, ap, ◌∙◌, subst}
use Rattle.jcl_plan.specs.declared.entry.Entry.{Entry}
use Rattle.jcl_plan.specs.declared.entry.JobLine.TheVariants as line
use Rattle.turn_core.specs.Performing.{StoreAnswers}
use Rattle.world_meaning.specs.Choices.{choice_of_acting, choice_of_turn}
use Rattle.world_meaning.specs.Selections.{Selects, nothing, selected, taken_by}
use Rattle.world_meaning.specs.Transitions.{Acts, Goes, Turns, acts, explained_by, told_with, unknown}
use Rattle.world_meaning.specs.Worlds.{Initiator, Running, Shared, Waiting, World, counted, of_job, with_running, without_waiting}
use Rattle.world_laws.proofs.Beside.{one_there}
use Rattle.law_core.specs.Soundness.{IsSound}
use Rattle.turn_laws.specs.Decided.{IsDecidedBy, IsSameTurn, TurnsAreDecided}
use Rattle.event_laws.proofs.Selecting.{none_selected, one_selected}
use Rattle.event_laws.proofs.Splits.{holds_at, one_place}
use Rattle.event_laws.proofs.Stages.{goes_alike, unexplained}

-- machines that are the same but for the free tracks
abbrev pub IsSameBut : World → World → Type 0
IsSameBut one other = other ≡ record one { shared = record one.shared { free = other.shared.free } }

pub same_but : (one other u v : World) → one ≡ u → other ≡ v → IsSameBut u v → IsSameBut one other
same_but one other u v p q is = subst (IsSameBut one) (sym q) (subst (λ (w : World). IsSameBut w v) (sym p) is)

-- the same lines, and the same machine but for these
pub record IsSameDone (l m : List Entry) (one other : World) : Type 0 where
  pub lines : m ≡ l
  pub rest : IsSameBut one other

-- both do the same
pub both_do : (l m told : List Entry) (one other x : World) → l ≡ told → m ≡ told → one ≡ x → other ≡ x → IsSameDone l m one other
both_do l m told one other x t u n o = record { lines = u ∙ sym t; rest = same_but one other x x n o refl }

module _ (law : TurnsAreDecided) (grants : ℕ → StoreAnswers) (w : World) (s : IsSound w) (l m : List Entry) (a b : World) where
  abbrev old : World
  old = counted w

  selects_alike : (place : ℕ) (x : Initiator) → Selects old place x l a → Selects old place x m b → IsSameDone l m a b
  selects_alike place x (nothing none t n) (nothing none_too u o) = both_do l m [] a b old t u n o
  selects_alike place x (nothing none t n) (selected v is u o) = absurd (none_selected w.waiting x.classes v none is)
  selects_alike place x (selected v is t n) (nothing none u o) = absurd (none_selected w.waiting x.classes v none is)
  selects_alike place x (selected v is t n) (selected v_too is_too u o) =
      let one : v_too ≡ v = one_selected w.waiting x.classes v_too v s.in_order is_too is in
      both_do l m (of_job v.job (line.Selected x.number ∷ [])) a b (left v) t (u ∙ ap (λ (z : Waiting). of_job z.job (line.Selected x.number ∷ [])) one) n
      (o ∙ ap left one)
    where
      left : Waiting → World
      left v = record old {
        waiting = without_waiting old.waiting v.job;
        initiators = with_running old.initiators place x (Some (taken_by x.number v));
      }

  goes_on_alike : (place : ℕ) (x : Initiator) (r : Running) (p : Goes old place x r l a) (q : Goes old place x r m b) →
      IsDecidedBy grants (choice_of_acting old place x (Some r) l a p) → IsDecidedBy grants (choice_of_acting old place x (Some r) m b q) → IsSameDone l m a b
  goes_on_alike place x r p q by by_too = record {
    lines = q.told ∙ ap (told_with r.job q.job_lines) plain_too ∙ ap (of_job r.job) same.lines ∙ sym (p.told ∙ ap (told_with r.job p.job_lines) plain);
    rest = same_but a b (left p.shared p.runs) (left q.shared q.runs) p.leaves q.leaves (λ i. left (same.shared i) (same.runs i));
  }
    where
      left : Shared → Option Running → World
      left shared runs = record old { shared = shared; initiators = with_running old.initiators place x runs }

      same : IsSameTurn p.job_lines q.job_lines p.shared q.shared p.runs q.runs
      same = goes_alike old.config old.shared r p.job_lines q.job_lines p.shared q.shared p.runs q.runs law grants r.stage p.goes q.goes by by_too

      plain : explained_by old.config old.shared r r.stage p.job_lines p.shared p.runs p.goes ≡ []
      plain = unexplained old.config old.shared r p.job_lines p.shared p.runs grants r.stage p.goes by

      plain_too : explained_by old.config old.shared r r.stage q.job_lines q.shared q.runs q.goes ≡ []
      plain_too = unexplained old.config old.shared r q.job_lines q.shared q.runs grants r.stage q.goes by_too

  acts_alike : (place : ℕ) (x : Initiator) (o : Option Running) (p : Acts old place x o l a) (q : Acts old place x o m b) →
      IsDecidedBy grants (choice_of_acting old place x o l a p) → IsDecidedBy grants (choice_of_acting old place x o m b q) → IsSameDone l m a b
  acts_alike place x None p q by by_too = selects_alike place x p q
  acts_alike place x (Some r) p q by by_too = goes_on_alike place x r p q by by_too

  -- a decided act of the initiator at a place
  abbrev ActsAt : ℕ → Initiator → Type 0
  ActsAt place x = (q : Acts old place x x.running m b) × IsDecidedBy grants (choice_of_acting old place x x.running m b q)

  pub turns_alike : (number : ℕ) (p : Turns old number l a) (q : Turns old number m b) → IsDecidedBy grants (choice_of_turn p) →
      IsDecidedBy grants (choice_of_turn q) → IsSameDone l m a b
  turns_alike number (unknown none t n) (unknown none_too u o) by by_too = both_do l m _ a b old t u n o
  turns_alike number (unknown none t n) (acts place x at is q) by by_too = absurd (holds_at (λ y. y.number ≢ number) w.initiators place x none at is)
  turns_alike number (acts place x at is p) (unknown none u o) by by_too = absurd (holds_at (λ y. y.number ≢ number) w.initiators place x none at is)
  turns_alike number (acts place x at is p) (acts other y there so q) by by_too =
      let one : other ≡ place = one_place (λ (z : Initiator). z.number) w.initiators place other x y s.initiators at there (is ∙ sym so) in
      let it : y ≡ x = one_there w.initiators other place y x one there at in
      let moved : ActsAt place x = subst (ActsAt place) it (subst (λ (k : ℕ). ActsAt k y) one (q, by_too)) in
      acts_alike place x x.running p moved.0 by moved.1
