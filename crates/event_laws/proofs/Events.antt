-- One machine behind an event.
use Rattle.std.proofs.Common.{◌≡◌, inl, inr, ◌<◌, ℕ, List, arith, refl, sym, ap, ◌∙◌, subst}
use Rattle.jcl_plan.specs.declared.entry.Entry.{Entry}
use Rattle.machine_meaning.specs.declared.machine.TheConstants.{MOST_EVENTS}
use Rattle.turn_core.specs.Performing.{StoreAnswers}
use Rattle.world_meaning.specs.declared.event.Event.{Event}
use Rattle.world_meaning.specs.Choices.{choice_of_event}
use Rattle.world_meaning.specs.Readings.{Denoting}
use Rattle.world_meaning.specs.Records.{IsQueueLayout, SameRecords}
use Rattle.world_meaning.specs.Transitions.{Happens, past, taken}
use Rattle.world_meaning.specs.Worlds.{Config, Shared, World, counted}
use Rattle.world_laws.proofs.Effects.{changes}
use Rattle.walk_laws.specs.WalkLaws.{AreRecords}
use Rattle.law_core.specs.Soundness.{IsSound}
use Rattle.turn_laws.specs.Decided.{IsDecidedBy, TurnsAreDecided}
use Rattle.spelled_laws.specs.Once.{IsSameReading, ReadsAreDecided}
use Rattle.event_laws.specs.Decided.{AreAlike, EventsAreDecided, IsSameEvent}
use Rattle.event_laws.proofs.Doing.{IsReading, ReadsNoDeck, does_alike, reads_or_not}
use Rattle.event_laws.proofs.Reopening.{as_they_are, both_reopened}
use Rattle.event_laws.proofs.Turning.{IsSameDone}

-- machines are alike where they are equal to such
alike : (one other u v : World) → one ≡ u → other ≡ v → AreAlike u v → AreAlike one other
alike one other u v p q is = subst (AreAlike one) (sym q) (subst (λ (w : World). AreAlike w v) (sym p) is)

module _ (job_of : Denoting) (w one other : World) (e : Event) (l m : List Entry) (s : IsSound w) where
  -- what an event leaves before the records are opened again
  module _ (h : Happens job_of (counted w) e l one) (k : Happens job_of (counted w) e m other) (done : IsSameDone l m h.middle k.middle)
      (own : IsQueueLayout h.middle.config.layout) where
    behind : AreAlike one other
    behind =
        alike one other
        (record h.middle { shared = record h.middle.shared { records = h.reopened.records } })
        (record h.middle { shared = record h.middle.shared { free = k.middle.shared.free; records = k.reopened.records } })
        (h.rest ∙ ap (λ (x : Shared). record h.middle { shared = x }) h.reopened.rest)
        (k.rest ∙ ap (λ (x : Shared). record k.middle { shared = x }) k.reopened.rest
        ∙ ap (λ (z : World). record z { shared = record z.shared { records = k.reopened.records } }) done.rest)
        (record {
          records = both_reopened h.middle.config.layout h.middle.shared.records h.reopened.records k.reopened.records own h.reopened.same
              (subst (λ (z : World). SameRecords z.config.layout z.shared.records k.reopened.records) done.rest k.reopened.same);
          rest = refl;
        })

  happens_alike : TurnsAreDecided → (grants : ℕ → StoreAnswers) → ReadsNoDeck e → w.events < MOST_EVENTS → (h : Happens job_of (counted w) e l one)
      (k : Happens job_of (counted w) e m other) → IsDecidedBy grants (choice_of_event job_of (counted w) e l h.middle h.does) →
      IsDecidedBy grants (choice_of_event job_of (counted w) e m k.middle k.does) → IsSameEvent l m one other
  happens_alike law grants none few h k by by_too =
      let done : IsSameDone l m h.middle k.middle = does_alike w s l m h.middle k.middle law grants job_of e none h.does k.does by by_too in
      let config : w.config ≡ h.middle.config = sym (changes job_of w one e l (taken few h)).config ∙ ap (λ (z : World). z.config) h.rest in
      record { lines = done.lines; alike = behind h k done (subst (λ (c : Config). IsQueueLayout c.layout) config s.layout) }

  -- a deck is read
  reading_alike : ReadsAreDecided → IsReading e → AreRecords one.shared.records → AreRecords other.shared.records → Happens job_of (counted w) e l one →
      Happens job_of (counted w) e m other → IsSameEvent l m one other
  reading_alike law is bytes bytes_too h k =
      let same : IsSameReading l m one other =
      law job_of (counted w) one other is.deck l m s.layout bytes bytes_too
      (subst (λ (x : Event). Happens job_of (counted w) x l one) is.is h) (subst (λ (x : Event). Happens job_of (counted w) x m other) is.is k) in
      record { lines = same.lines; alike = alike one other one other refl refl (record { records = same.same.records; rest = behind_rest same }) }
    where
      free_is : IsSameReading l m one other → other.shared.free ≡ one.shared.free
      free_is same = ap (λ (x : World). x.shared.free) same.same.rest

      behind_rest : IsSameReading l m one other → other ≡ record one { shared = record one.shared { records = other.shared.records; free = other.shared.free } }
      behind_rest same =
          same.same.rest ∙ sym (λ i. record one { shared = record one.shared { records = other.shared.records; free = free_is same i } })

pub decided : TurnsAreDecided → ReadsAreDecided → EventsAreDecided
decided law reads job_of grants w one other e lines more s bytes bytes_too (past many t n) (past many_too u o) by by_too = record {
  lines = u ∙ sym t;
  alike = alike one other w w n o (record { records = as_they_are w.config.layout w.shared.records; rest = refl });
}
decided law reads job_of grants w one other e lines more s bytes bytes_too (past many t n) (taken few k) by by_too = absurd (omega arith)
decided law reads job_of grants w one other e lines more s bytes bytes_too (taken few h) (past many u o) by by_too = absurd (omega arith)
decided law reads job_of grants w one other e lines more s bytes bytes_too (taken few h) (taken few_too k) by by_too =
    elim (reads_or_not e) [
      | inl is ↦ reading_alike job_of w one other e lines more s reads is bytes bytes_too h k
      | inr none ↦ happens_alike job_of w one other e lines more s law grants none few h k by by_too
    ]
