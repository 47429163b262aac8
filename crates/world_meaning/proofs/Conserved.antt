-- Tracks are conserved where nothing changed, and where one set did.
use Rattle.std.proofs.Common.{◌≡◌, arith, subst, ℕ, ◌+◌, Bool, true, false, ◌&&◌, ◌||◌, cond, List, [], ◌∷◌, Option, refl, sym, ap, ◌∙◌}
use Rattle.std.specs.Str.{bytes_eq}
use Rattle.std.proofs.lemmas.Slice.Eq.{bytes_eq-Decides}
use Rattle.vtoc_core.specs.declared.entry.SetKey.{SetKey}
use Rattle.vtoc_core.specs.Entries.{same_key}
use Rattle.jcl_meaning.specs.declared.store.DataSet.{DataSet}
use Rattle.world_meaning.specs.Lenses.{WorldStore, with_world_set}
use Rattle.world_meaning.specs.Tracks.{Conserves, kept_on, tracks_of, used_by}
use Rattle.world_meaning.specs.Worlds.{Shared}

-- neither sets, nor free tracks, nor kept ones changed
pub conserved_same : (old new : Shared) → new.store.set ≡ old.store.set → new.free ≡ old.free → new.kept ≡ old.kept → Conserves old new
conserved_same old new sets free kept serial = record {
  touched = [];
  once = refl;
  others = λ k out. ap (λ f. f k serial) sets;
  sum = λ i. free i serial + (kept_on (kept i) serial + 0);
}

-- at one place something else stands
abbrev at_place : SetKey → List ℕ → Option DataSet → WorldStore → SetKey → List ℕ → Option DataSet
at_place k v there w other serial = (with_world_set w k v there).set other serial

elsewhere : (k other : SetKey) (v serial : List ℕ) (there : Option DataSet) (w : WorldStore) (b : Bool) → same_key other k ≡ b → b ≡ false →
    at_place k v there w other serial ≡ w.set other serial
elsewhere k other v serial there w b e out = ap (λ (x : Bool). cond (x && bytes_eq serial v) there (w.set other serial)) (e ∙ out)

not_touched : (b : Bool) → (b || false) ≡ false → b ≡ false
not_touched true h = h
not_touched false h = refl

-- sets of one key alone changed, and on each volume the sum is as before
pub conserved_at : (old new : Shared) (k : SetKey) (v : List ℕ) (there : Option DataSet) → new.store.set ≡ (with_world_set old.store k v there).set →
    ((serial : List ℕ) → new.free serial + (kept_on new.kept serial + used_by (with_world_set old.store k v there) serial (k ∷ []))
    ≡ old.free serial + (kept_on old.kept serial + used_by old.store serial (k ∷ []))) → Conserves old new
conserved_at old new k v there sets sums serial = record {
  touched = k ∷ [];
  once = refl;
  others = λ other out. ap (λ f. f other serial) sets ∙ elsewhere k other v serial there old.store (same_key other k) refl (not_touched (same_key other k) out);
  sum = (λ i. new.free serial + (kept_on new.kept serial + used_by (record { set = sets i; catalog = new.store.catalog }) serial (k ∷ []))) ∙ sums serial;
}

-- so many tracks are free on a volume now
abbrev pub with_free : (List ℕ → ℕ) → List ℕ → ℕ → List ℕ → ℕ
with_free free v n serial = cond (bytes_eq serial v) n (free serial)

one_sum : (n f k x y : ℕ) → n + x ≡ f + y → n + (k + (0 + x)) ≡ f + (k + (0 + y))
one_sum n f k x y e = omega (arith, e)

here_or_not : (v serial : List ℕ) (n : ℕ) (f kept : List ℕ → ℕ) (there : Option DataSet) (stood : List ℕ → Option DataSet) (t b : Bool) →
    t ≡ true → bytes_eq serial v ≡ b → n + tracks_of there ≡ f v + tracks_of (stood v) →
    cond b n (f serial) + (kept serial + (0 + tracks_of (cond (t && b) there (stood serial)))) ≡ f serial + (kept serial + (0 + tracks_of (stood serial)))
here_or_not v serial n f kept there stood false b h e sum = absurd cc
here_or_not v serial n f kept there stood true false h e sum = refl
here_or_not v serial n f kept there stood true true h e sum =
    subst (λ (w : List ℕ). n + (kept w + (0 + tracks_of there)) ≡ f w + (kept w + (0 + tracks_of (stood w)))) (sym ((bytes_eq-Decides serial v).0 e))
    (one_sum n (f v) (kept v) (tracks_of there) (tracks_of (stood v)) sum)

-- at one place something else stands, and what that takes or leaves is told by the volume's free tracks
pub conserved_there : (old new : Shared) (k : SetKey) (v : List ℕ) (there : Option DataSet) (n : ℕ) → same_key k k ≡ true →
    new.store.set ≡ (with_world_set old.store k v there).set → new.free ≡ with_free old.free v n → new.kept ≡ old.kept →
    n + tracks_of there ≡ old.free v + tracks_of (old.store.set k v) → Conserves old new
conserved_there old new k v there n itself sets free kept sum =
    conserved_at old new k v there sets (λ serial.
    (λ i. free i serial + (kept_on (kept i) serial + used_by (with_world_set old.store k v there) serial (k ∷ [])))
    ∙ here_or_not v serial n old.free (kept_on old.kept) there (old.store.set k) (same_key k k) (bytes_eq serial v) itself refl sum)
