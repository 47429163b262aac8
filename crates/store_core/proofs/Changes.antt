-- A set that is written twice, or as it is.
use Rattle.std.proofs.Common.{◌≡◌, ℕ, Bool, true, false, cond, List, Option, Some, None, refl, sym, ap, ◌∙◌}
use Rattle.jname_core.specs.declared.key.Key.{Key}
use Rattle.jcl_meaning.specs.declared.store.DataSet.{DataSet}
use Rattle.jcl_meaning.specs.Programs.{emptied, grown_by, or_nothing}
use Rattle.jcl_meaning.specs.Stores.{Store, with_set, with_set_there}
use Rattle.store_core.specs.Actions.{changed_at}
use Rattle.store_core.proofs.Keys.{same_place, same_place-refl, same_place-true}

module _ (s : Store) (key : Key) (serial : List ℕ) where
  -- the last that is written stands
  last_stands : {Y : Type 0} (b : Bool) (x y rest : Y) → cond b y (cond b x rest) ≡ cond b y rest
  last_stands true x y rest = refl
  last_stands false x y rest = refl

  written_twice : (x y : Option DataSet) → with_set (with_set s key serial x) key serial y ≡ with_set s key serial y
  written_twice x y = λ i. record { set = λ k v. last_stands (same_place k v key serial) x y (s.set k v) i; catalog = s.catalog }

  -- and is read there
  chosen : {Y : Type 0} (b : Bool) (x rest : Y) → b ≡ true → cond b x rest ≡ x
  chosen true x rest h = refl
  chosen false x rest h = absurd cc

  read_there : (x : Option DataSet) → (with_set s key serial x).set key serial ≡ x
  read_there x = chosen (same_place key serial key serial) x (s.set key serial) (same_place-refl key serial)

  -- what is there may be written again
  same_there : (b : Bool) (x rest : Option DataSet) → (b ≡ true → rest ≡ x) → cond b x rest ≡ rest
  same_there true x rest h = sym (h refl)
  same_there false x rest h = refl

  at_its_place : (x : Option DataSet) → s.set key serial ≡ x → (k : Key) (v : List ℕ) → same_place k v key serial ≡ true → s.set k v ≡ x
  at_its_place x e k v h = moved (same_place-true k v key serial h)
    where
      moved : (k ≡ key) × (v ≡ serial) → s.set k v ≡ x
      moved p = (λ i. s.set (p.0 i) (p.1 i)) ∙ e

  written_again : (x : Option DataSet) → s.set key serial ≡ x → with_set s key serial x ≡ s
  written_again x e = λ i. record { set = λ k v. same_there (same_place k v key serial) x (s.set k v) (at_its_place x e k v) i; catalog = s.catalog }

  not_emptied_of : (x : Option DataSet) → s.set key serial ≡ x → with_set_there x (emptied false (or_nothing x)) s key serial ≡ s
  not_emptied_of None e = refl
  not_emptied_of (Some set) e = written_again (Some set) e

  -- the one order or the other
  either_order : (empties : Bool) (tracks : ℕ) (set : DataSet) → emptied empties (grown_by tracks set) ≡ grown_by tracks (emptied empties set)
  either_order true tracks set = refl
  either_order false tracks set = refl

  abbrev emptied_at : Bool → Store → Option DataSet → Store
  emptied_at empties w x = with_set_there x (emptied empties (or_nothing x)) w key serial

  grown_of : (empties : Bool) (tracks : ℕ) (x : Option DataSet) → s.set key serial ≡ x →
      changed_at (emptied empties) (with_set_there x (grown_by tracks (or_nothing x)) s key serial) key serial
      ≡ with_set_there x (grown_by tracks (emptied empties (or_nothing x))) s key serial
  grown_of empties tracks None e = ap (λ x. emptied_at empties s x) e
  grown_of empties tracks (Some set) e =
      ap (λ x. emptied_at empties (with_set s key serial (Some (grown_by tracks set))) x) (read_there (Some (grown_by tracks set)))
      ∙ written_twice (Some (grown_by tracks set)) (Some (emptied empties (grown_by tracks set)))
      ∙ ap (λ x. with_set s key serial (Some x)) (either_order empties tracks set)

pub not_emptied : (s : Store) (key : Key) (serial : List ℕ) → changed_at (emptied false) s key serial ≡ s
not_emptied s key serial = not_emptied_of s key serial (s.set key serial) refl

pub grown_and_emptied : (s : Store) (key : Key) (serial : List ℕ) (empties : Bool) (tracks : ℕ) →
    changed_at (emptied empties) (changed_at (grown_by tracks) s key serial) key serial ≡ changed_at (λ set. grown_by tracks (emptied empties set)) s key serial
grown_and_emptied s key serial empties tracks = grown_of s key serial empties tracks (s.set key serial) refl
