-- What a job writes of the store of all jobs: its own sets and the named ones.
use Rattle.std.proofs.Common.{◌≡◌, ℕ, ◌==◌, Bool, true, false, cond, List, Option, None, refl, ap}
use Rattle.std.proofs.lemmas.Bool.{eqb-true}
use Rattle.jcl_meaning.specs.declared.store.DataSet.{DataSet}
use Rattle.vtoc_core.specs.declared.entry.SetKey.{SetKey}
use Rattle.vtoc_core.specs.declared.entry.SetKey.TheVariants.{Named, Temporary, Unnamed}
use Rattle.world_meaning.specs.Lenses.{WorldStore, put_back, seen, written_set}
use Rattle.shared_core.specs.Rooms.{set_of_others}

-- what is the job's own, and what is not
one_owner : (b : Bool) (own new old : Option DataSet) → (b ≡ true → new ≡ own) → cond b None new ≡ cond b None old → new ≡ cond b own old
one_owner true own new old h e = h refl
one_owner false own new old h e = e

each_set : (job : ℕ) (old new : WorldStore) → ((k : SetKey) (v : List ℕ) → set_of_others job new k v ≡ set_of_others job old k v) →
    (k : SetKey) (v : List ℕ) → new.set k v ≡ written_set job old (seen job new) k v
each_set job old new h (Named name) v = refl
each_set job old new h (Temporary owner name) v =
    one_owner (owner == job) (new.set (Temporary job name) v) (new.set (Temporary owner name) v) (old.set (Temporary owner name) v)
    (λ e. ap (λ j. new.set (Temporary j name) v) (eqb-true owner job e)) (h (Temporary owner name) v)
each_set job old new h (Unnamed owner step dd) v =
    one_owner (owner == job) (new.set (Unnamed job step dd) v) (new.set (Unnamed owner step dd) v) (old.set (Unnamed owner step dd) v)
    (λ e. ap (λ j. new.set (Unnamed j step dd) v) (eqb-true owner job e)) (h (Unnamed owner step dd) v)

pub written_back : (job : ℕ) (old new : WorldStore) → ((k : SetKey) (v : List ℕ) → set_of_others job new k v ≡ set_of_others job old k v) →
    new ≡ put_back job old (seen job new)
written_back job old new h = λ i. record { set = λ k v. each_set job old new h k v i; catalog = new.catalog }
