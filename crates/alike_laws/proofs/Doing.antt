-- What an event does to one machine, and to one that is the same but for what is open.
use Rattle.std.proofs.Common.{◌≡◌, refl, sym, subst}
use Rattle.cb_meaning.specs.Spelled.{Records}
use Rattle.world_meaning.specs.Choices.{Choice, Closed}
use Rattle.world_meaning.specs.Records.{SameRecords}
use Rattle.world_meaning.specs.Worlds.{Config, World}
use Rattle.alike_laws.proofs.Holding.{with_records}

-- the machine with other records
abbrev pub on_records : World → Records → World
on_records w q = record w { shared = with_records w.shared q }

-- It leads to the same but for the records, which are the same but for what is open, and leaves as much open.
pub record DoesTo (old : World) (D : World → Type 0) (choice_in : (w : World) → D w → Choice) (new : World) (choice : Choice) : Type 0 where
  pub records : Records
  pub does : D (on_records new records)
  pub same : SameRecords old.config.layout records new.shared.records
  pub config : new.config ≡ old.config
  pub chosen : choice_in (on_records new records) does ≡ choice

-- the records, and what is configured
abbrev pub records_in : World → Records
records_in w = w.shared.records

abbrev pub config_in : World → Config
config_in w = w.config

-- other records take their place
pub takes : (old : World) (D : World → Type 0) (new : World) (p s : Records) → D (on_records new p) → SameRecords old.config.layout p s →
    new.shared.records ≡ s → new.config ≡ old.config → DoesTo old D (λ w d. Closed) new Closed
takes old D new p s d are e config = record {
  records = p;
  does = d;
  same = subst (SameRecords old.config.layout p) (sym e) are;
  config = config;
  chosen = refl;
}

module _ (old : World) (r : Records) (same : SameRecords old.config.layout old.shared.records r) where
  abbrev q : Records
  q = old.shared.records

  -- the records stay as they are
  pub stays : (D : World → Type 0) (new : World) → D (on_records new q) → new.shared.records ≡ r → new.config ≡ old.config →
      DoesTo old D (λ w d. Closed) new Closed
  stays D new d e config = record {
    records = q;
    does = d;
    same = subst (SameRecords old.config.layout q) (sym e) same;
    config = config;
    chosen = refl;
  }
