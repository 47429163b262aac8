-- What a job did to the store that it sees, put back into the store of all jobs.
use Rattle.std.proofs.Common.{◌≡◌, ℕ, Bool, true, false, ◌&&◌, ◌==◌, cond, List, Option, refl, sym, ap}
use Rattle.std.specs.Str.{bytes_eq}
use Rattle.std.proofs.lemmas.Bool.{eqb-true}
use Rattle.jname_core.specs.declared.key.Key.TheVariants as own
use Rattle.group_core.specs.declared.entry.CatEntry.{CatEntry}
use Rattle.vtoc_core.specs.declared.entry.SetKey.{SetKey}
use Rattle.vtoc_core.specs.declared.entry.SetKey.TheVariants as all
use Rattle.jcl_meaning.specs.declared.store.DataSet.{DataSet}
use Rattle.jcl_meaning.specs.Stores.{with_set}
use Rattle.world_meaning.specs.Lenses.{WorldStore, put_back, seen, with_world_set, written_set}

-- a set of the job's own, and one of another's
its_own : (f : ℕ → Option DataSet) (owner job : ℕ) (b : Bool) → (owner == job) ≡ b → cond b (f job) (f owner) ≡ f owner
its_own f owner job true e = ap f (sym (eqb-true owner job e))
its_own f owner job false e = refl

-- what is seen, put back, changes nothing
same_set : (job : ℕ) (w : WorldStore) (k : SetKey) (v : List ℕ) → written_set job w (seen job w) k v ≡ w.set k v
same_set job w (all.Named n) v = refl
same_set job w (all.Temporary owner n) v = its_own (λ x. w.set (all.Temporary x n) v) owner job (owner == job) refl
same_set job w (all.Unnamed owner n d) v = its_own (λ x. w.set (all.Unnamed x n d) v) owner job (owner == job) refl

pub put_same : (job : ℕ) (w : WorldStore) → put_back job w (seen job w) ≡ w
put_same job w = λ i. record { set = λ k v. same_set job w k v i; catalog = w.catalog }

-- only the catalog changed
pub put_catalog : (job : ℕ) (w : WorldStore) (c : List ℕ → Option CatEntry) →
    put_back job w (record { set = (seen job w).set; catalog = c }) ≡ record { set = w.set; catalog = c }
put_catalog job w c = λ i. record { set = λ k v. same_set job w k v i; catalog = c }

-- a set of the job changed
own_set : (f : ℕ → Option DataSet) (owner job : ℕ) (x y : Bool) (there : Option DataSet) (b : Bool) → (owner == job) ≡ b →
    cond b (cond (x && y) there (f job)) (f owner) ≡ cond ((b && x) && y) there (f owner)
own_set f owner job x y there true e = ap (λ z. cond (x && y) there (f z)) (sym (eqb-true owner job e))
own_set f owner job x y there false e = refl

own_unnamed : (f : ℕ → Option DataSet) (owner job : ℕ) (x z y : Bool) (there : Option DataSet) (b : Bool) → (owner == job) ≡ b →
    cond b (cond ((x && z) && y) there (f job)) (f owner) ≡ cond (((b && x) && z) && y) there (f owner)
own_unnamed f owner job x z y there true e = ap (λ q. cond ((x && z) && y) there (f q)) (sym (eqb-true owner job e))
own_unnamed f owner job x z y there false e = refl

named_set : (job : ℕ) (w : WorldStore) (name serial : List ℕ) (there : Option DataSet) (k : SetKey) (v : List ℕ) →
    written_set job w (with_set (seen job w) (own.Named name) serial there) k v ≡ (with_world_set w (all.Named name) serial there).set k v
named_set job w name serial there (all.Named n) v = refl
named_set job w name serial there (all.Temporary owner n) v = its_own (λ x. w.set (all.Temporary x n) v) owner job (owner == job) refl
named_set job w name serial there (all.Unnamed owner n d) v = its_own (λ x. w.set (all.Unnamed x n d) v) owner job (owner == job) refl

temporary_set : (job : ℕ) (w : WorldStore) (name serial : List ℕ) (there : Option DataSet) (k : SetKey) (v : List ℕ) →
    written_set job w (with_set (seen job w) (own.Temporary name) serial there) k v ≡ (with_world_set w (all.Temporary job name) serial there).set k v
temporary_set job w name serial there (all.Named n) v = refl
temporary_set job w name serial there (all.Temporary owner n) v =
    own_set (λ x. w.set (all.Temporary x n) v) owner job (bytes_eq n name) (bytes_eq v serial) there (owner == job) refl
temporary_set job w name serial there (all.Unnamed owner n d) v = its_own (λ x. w.set (all.Unnamed x n d) v) owner job (owner == job) refl

unnamed_set : (job : ℕ) (w : WorldStore) (step dd : ℕ) (serial : List ℕ) (there : Option DataSet) (k : SetKey) (v : List ℕ) →
    written_set job w (with_set (seen job w) (own.Unnamed step dd) serial there) k v ≡ (with_world_set w (all.Unnamed job step dd) serial there).set k v
unnamed_set job w step dd serial there (all.Named n) v = refl
unnamed_set job w step dd serial there (all.Temporary owner n) v = its_own (λ x. w.set (all.Temporary x n) v) owner job (owner == job) refl
unnamed_set job w step dd serial there (all.Unnamed owner n d) v =
    own_unnamed (λ x. w.set (all.Unnamed x n d) v) owner job (n == step) (d == dd) (bytes_eq v serial) there (owner == job) refl

pub put_named : (job : ℕ) (w : WorldStore) (name serial : List ℕ) (there : Option DataSet) →
    put_back job w (with_set (seen job w) (own.Named name) serial there) ≡ with_world_set w (all.Named name) serial there
put_named job w name serial there = λ i. record { set = λ k v. named_set job w name serial there k v i; catalog = w.catalog }

pub put_temporary : (job : ℕ) (w : WorldStore) (name serial : List ℕ) (there : Option DataSet) →
    put_back job w (with_set (seen job w) (own.Temporary name) serial there) ≡ with_world_set w (all.Temporary job name) serial there
put_temporary job w name serial there = λ i. record { set = λ k v. temporary_set job w name serial there k v i; catalog = w.catalog }

pub put_unnamed : (job : ℕ) (w : WorldStore) (step dd : ℕ) (serial : List ℕ) (there : Option DataSet) →
    put_back job w (with_set (seen job w) (own.Unnamed step dd) serial there) ≡ with_world_set w (all.Unnamed job step dd) serial there
put_unnamed job w step dd serial there = λ i. record { set = λ k v. unnamed_set job w step dd serial there k v i; catalog = w.catalog }
