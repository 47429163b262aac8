-- Machines behind two answers to one job, and machines whose volumes are the same.
use Rattle.std.proofs.Common.{◌≡◌, ℕ, List, Option, sym, ap, subst, ◌∙◌}
use Rattle.jcl_plan.specs.declared.entry.Entry.{Entry}
use Rattle.cb_meaning.specs.Spelled.{Records}
use Rattle.world_meaning.specs.Choices.{Choice}
use Rattle.world_meaning.specs.Records.{IsQueueLayout, SameRecords}
use Rattle.world_meaning.specs.Worlds.{Config, Running, Shared, World, with_running}
use Rattle.shared_core.specs.Tracks.{free_on, kept_shown}
use Rattle.shared_core.specs.declared.store.SharedStore.{SharedStore}
use Rattle.open_laws.specs.Open.{IsSameButOpen, IsSameness, SamenessIsKept}
use Rattle.event_laws.specs.Named.{AsksAt, IsAnsweredAt}
use Rattle.sched_core.specs.Systems.{Machine, world_of}

-- the same but for what is open in records, and for what the volumes have: the free tracks, and what is kept
pub record IsSameOutside (one other : World) : Type 0 where
  pub records : SameRecords one.config.layout one.shared.records other.shared.records
  pub rest : other ≡ record one { shared = record one.shared { records = other.shared.records; free = other.shared.free; kept = other.shared.kept } }

pub same_inside : (one other : Machine) → other.parts.store ≡ one.parts.store → IsSameOutside (world_of one) (world_of other) →
    IsSameButOpen (world_of one) (world_of other)
same_inside one other same out = record {
  records = out.records;
  rest = out.rest ∙ (λ i. record (world_of one) {
    shared = record (world_of one).shared { records = (world_of other).shared.records; free = free i; kept = kept i };
  });
}
  where
    free : (world_of other).shared.free ≡ (world_of one).shared.free
    free = ap (λ (s : SharedStore). λ (serial : List ℕ). free_on s.volumes serial) same

    kept : (world_of other).shared.kept ≡ (world_of one).shared.kept
    kept = ap (λ (s : SharedStore). kept_shown s.volumes) same

-- what stands outside of the records and the volumes
but_outside : (a b one other : Shared) (q r : Records) → one ≡ record a { records = q } → other ≡ record b { records = r } →
    b ≡ record a { free = b.free; kept = b.kept } → other ≡ record one { records = other.records; free = other.free; kept = other.kept }
but_outside a b one other q r p o is =
    o ∙ ap (λ (s : Shared). record s { records = r }) is
    ∙ sym (λ i. record (p i) { records = (o i).records; free = (o i).free; kept = (o i).kept })

module _ (sameness : SamenessIsKept) (old : World) (own : IsQueueLayout old.config.layout) (at : AsksAt old) (lines more : List Entry) (one other : World)
    (choice choice_too : Choice) (a : IsAnsweredAt old at lines one choice) (b : IsAnsweredAt old at more other choice_too) where
  abbrev left : Shared → Option Running → World
  left shared runs = record old { shared = shared; initiators = with_running old.initiators at.place at.it runs }

  pub sides_alike : b.shared ≡ record a.shared { free = b.shared.free; kept = b.shared.kept } → b.runs ≡ a.runs → IsSameOutside one other
  sides_alike is runs = record {
    records = subst (λ (c : Config). SameRecords c.layout one.shared.records other.shared.records) (sym (ap (λ (w : World). w.config) a.rest))
        (s.on one.shared.records a.shared.records other.shared.records (s.back a.shared.records one.shared.records first) second);
    rest = b.rest ∙ ap (left other.shared) runs
        ∙ ap (λ (x : Shared). left x a.runs) (but_outside a.shared b.shared one.shared other.shared a.reopened.records b.reopened.records a.reopened.rest
        b.reopened.rest is)
        ∙ sym (ap (λ (w : World). record w {
          shared = record one.shared { records = other.shared.records; free = other.shared.free; kept = other.shared.kept };
        }) a.rest);
  }
    where
      s : IsSameness old.config.layout
      s = sameness old.config.layout own

      first : SameRecords old.config.layout a.shared.records one.shared.records
      first = subst (SameRecords old.config.layout a.shared.records) (sym (ap (λ (x : Shared). x.records) a.reopened.rest)) a.reopened.same

      second : SameRecords old.config.layout a.shared.records other.shared.records
      second =
          subst (λ (q : Records). SameRecords old.config.layout q other.shared.records) (ap (λ (x : Shared). x.records) is)
          (subst (SameRecords old.config.layout b.shared.records) (sym (ap (λ (x : Shared). x.records) b.reopened.rest)) b.reopened.same)
