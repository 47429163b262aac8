-- What a job reads of two stores that show the same is the same.
use Rattle.std.proofs.Common.{◌≡◌, ◌&&◌, ℕ, Bool, true, false, not, List, Option, Some, None, refl, sym, ap, ◌∙◌}
use Rattle.std.specs.Prelude.{is_some}
use Rattle.jname_core.specs.declared.key.Key.{Key}
use Rattle.jname_core.specs.declared.key.Key.TheVariants.{Named, Relative, Temporary, Unnamed}
use Rattle.jname_core.specs.Generations.{base_of}
use Rattle.jcl_plan.specs.declared.plan.VolumePlan.{VolumePlan}
use Rattle.jcl_plan.specs.declared.plan.VolumePlan.TheVariants as volume
use Rattle.jcl_plan.specs.declared.plan.Word.{Word}
use Rattle.jcl_meaning.specs.declared.names.HeldName.{HeldName}
use Rattle.jcl_meaning.specs.declared.state.DdVolume.{DdVolume}
use Rattle.jcl_meaning.specs.declared.state.Passed.{Passed}
use Rattle.jcl_meaning.specs.declared.state.TakenSet.{TakenSet}
use Rattle.jcl_meaning.specs.declared.store.DataSet.{DataSet}
use Rattle.jcl_meaning.specs.Dispositions.{catalogs, disposed_by, is_entered_on, unless_gone, word_does}
use Rattle.jcl_meaning.specs.Parts.{SamePart, is_among, sees_key}
use Rattle.jcl_meaning.specs.Stores.{Store, catalogued, is_unexpired, member_of}
use Rattle.jcl_meaning.specs.Takes.{is_there, where_of}
use Rattle.jcl_meaning.specs.Views.{shown_set}
use Rattle.part_laws.specs.Fits.{IsVolumeHeld, sees_set}
use Rattle.part_laws.proofs.SameReads as part
use Rattle.path_laws.proofs.Sights.{ShowAlike}

-- what is shown of a set tells whether it is there, and whether it is unexpired
there_by_shown : (x : Option DataSet) (date : ℕ) → is_some (shown_set x date) ≡ is_some x
there_by_shown None date = refl
there_by_shown (Some set) date = refl

abbrev told_unexpired : Option Bool → Bool
told_unexpired None = false
told_unexpired (Some unexpired) = unexpired

unexpired_by_shown : (x : Option DataSet) (date : ℕ) → told_unexpired (shown_set x date) ≡ is_unexpired x date
unexpired_by_shown None date = refl
unexpired_by_shown (Some set) date = refl

pub same_presence : (x y : Option DataSet) (date : ℕ) → shown_set x date ≡ shown_set y date → is_some x ≡ is_some y
same_presence x y date e = sym (there_by_shown x date) ∙ ap is_some e ∙ there_by_shown y date

pub same_expiry : (x y : Option DataSet) (date : ℕ) → shown_set x date ≡ shown_set y date → is_unexpired x date ≡ is_unexpired y date
same_expiry x y date e = sym (unexpired_by_shown x date) ∙ ap told_unexpired e ∙ unexpired_by_shown y date

-- a key of a set that the job sees is one of which a view shows the set
pub key_shown : (names : List HeldName) (key : Key) → sees_set names key ≡ true → sees_key names key ≡ true
key_shown names (Named name) seen = seen
key_shown names (Relative base sign amount) seen = absurd cc
key_shown names (Temporary name) seen = refl
key_shown names (Unnamed step dd) seen = refl

-- Between the two stores stands a third, with the sets of the one and the catalog of the other: it has an equal part with the one, and what is
-- read of a catalog alone is read of it as of the other.
abbrev with_catalog_of : Store → Store → Store
with_catalog_of t s = record { set = s.set; catalog = t.catalog }

catalogued_between : (s t : Store) (key : Key) → catalogued (with_catalog_of t s) key ≡ catalogued t key
catalogued_between s t (Named name) = refl
catalogued_between s t (Relative base sign amount) = refl
catalogued_between s t (Temporary name) = refl
catalogued_between s t (Unnamed step dd) = refl

catalogs_between : (s t : Store) (key : Key) (serial : List ℕ) → catalogs (with_catalog_of t s) key serial ≡ catalogs t key serial
catalogs_between s t (Named name) serial = refl
catalogs_between s t (Relative base sign amount) serial = refl
catalogs_between s t (Temporary name) serial = refl
catalogs_between s t (Unnamed step dd) serial = refl

where_between : (s t : Store) (v : VolumePlan) (passed : List Passed) (volumes : List DdVolume) →
    where_of v (with_catalog_of t s) passed volumes ≡ where_of v t passed volumes
where_between s t volume.NotCoded passed volumes = refl
where_between s t (volume.Serial serial) passed volumes = refl
where_between s t (volume.OfName name) passed volumes = refl
where_between s t (volume.OfDd step dd) passed volumes = refl

module _ (names : List HeldName) (date : ℕ) (s t : Store) (h : ShowAlike names date s t) where
  between : SamePart names s (with_catalog_of t s)
  between = record { named = λ name serial held. refl; temporary = λ name serial. refl; unnamed = λ step dd serial. refl; catalog = h.entries }

  pub member_alike : (name : List ℕ) → is_among names (base_of name) ≡ true → member_of s name ≡ member_of t name
  member_alike name held = part.same_member names s (with_catalog_of t s) between name held

  pub catalogued_alike : (key : Key) → sees_set names key ≡ true → catalogued s key ≡ catalogued t key
  catalogued_alike key seen = part.same_catalogued names s (with_catalog_of t s) between key seen ∙ catalogued_between s t key

  pub where_alike : (v : VolumePlan) (passed : List Passed) (volumes : List DdVolume) → IsVolumeHeld names v →
      where_of v s passed volumes ≡ where_of v t passed volumes
  where_alike v passed volumes held = part.same_where names s (with_catalog_of t s) between v passed volumes held ∙ where_between s t v passed volumes

  pub there_alike : (key : Key) (at : Option (List ℕ)) → sees_set names key ≡ true → is_there s key at ≡ is_there t key at
  there_alike key None seen = refl
  there_alike key (Some serial) seen = same_presence (s.set key serial) (t.set key serial) date (h.sets key serial (key_shown names key seen))

  -- what a word comes to
  pub disposed_alike : (w : Word) (x : TakenSet) → sees_set names x.key ≡ true → disposed_by w s x date ≡ disposed_by w t x date
  disposed_alike w x seen =
      let shown : shown_set (s.set x.key x.serial) date ≡ shown_set (t.set x.key x.serial) date = h.sets x.key x.serial (key_shown names x.key seen) in
      let there : is_some (s.set x.key x.serial) ≡ is_some (t.set x.key x.serial) = same_presence (s.set x.key x.serial) (t.set x.key x.serial) date shown in
      let unexpired : is_unexpired (s.set x.key x.serial) date ≡ is_unexpired (t.set x.key x.serial) date =
      same_expiry (s.set x.key x.serial) (t.set x.key x.serial) date shown in
      part.same_disposed names s (with_catalog_of t s) between w x date seen
      ∙ (λ i. unless_gone (there i)
      (word_does w (not x.made_here && unexpired i) x.by_catalog (is_entered_on (catalogued_between s t x.key i) x.serial)
      (catalogs_between s t x.key x.serial i)))
