-- Two starts of one configuration are alike.
use Rattle.std.proofs.Common.{◌≡◌, ℕ, Bool, refl, sym, ap, subst, ◌∙◌}
use Rattle.std.specs.FinMap.{same_map}
use Rattle.std.specs.Cmp.Lexicographic.{nat_list_cmp_total}
use Rattle.std.proofs.lemmas.Map.Lookups.{exact_bytes}
use Rattle.cb_meaning.specs.declared.layout.Layout.{Layout}
use Rattle.config_core.specs.Configs.{Configuration}
use Rattle.world_meaning.specs.Worlds.{World}
use Rattle.open_laws.specs.Open.{IsSameButOpen}
use Rattle.sched_core.specs.Starting.{IsStarted}
use Rattle.sched_core.specs.Systems.{Machine, world_of}
use Rattle.machine_laws.specs.Alike.{AreAlike}

same_but_open : (w : World) → IsSameButOpen w w
same_but_open w = record { records = record { free = refl; used = λ n used. record { size = refl; bytes = λ k out. refl } }; rest = refl }

module _ (c : Configuration) (refuses : Bool) (views : ℕ) (explains : Bool) (l : Layout) (one other : Machine) (a : IsStarted c refuses views explains l one)
    (b : IsStarted c refuses views explains l other) where
  worlds : world_of other ≡ world_of one
  worlds = b.world ∙ sym a.world

  catalogs : other.parts.store.catalog ≡ one.parts.store.catalog
  catalogs =
      same_map nat_list_cmp_total exact_bytes other.parts.store.catalog one.parts.store.catalog
      (λ name. ap (λ (w : World). w.shared.store.catalog name) worlds)

  volumes : other.parts.store.volumes ≡ one.parts.store.volumes
  volumes = b.volumes ∙ sym a.volumes

  pub starts_alike : AreAlike one other
  starts_alike = record {
    store = λ i. record one.parts.store { catalog = catalogs i; volumes = volumes i };
    fixed = record {
      config = ap (λ (w : World). w.config) worlds;
      unit_names = b.unit_names ∙ sym a.unit_names;
      library = b.library ∙ sym a.library;
    };
    world = subst (IsSameButOpen (world_of one)) (sym worlds) (same_but_open (world_of one));
  }
