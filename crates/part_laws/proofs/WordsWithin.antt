-- A word that is done on a set which is not held alone changes nothing, and one that changes an entry finds it as it has to be.
use Rattle.std.proofs.Common.{◌≡◌, ◌&&◌, ◌||◌, ℕ, Bool, true, false, cond, not, List, Option, Some, None, Result, Ok, Err, refl, sym, ◌∙◌, subst}
use Rattle.std.specs.Prelude.{is_some}
use Rattle.std.specs.Str.{bytes_eq}
use Rattle.std.proofs.lemmas.Bool.{and_parts, both_ways, false_from_ne_true, or_parts}
use Rattle.jname_core.specs.declared.key.Key.{Key}
use Rattle.jname_core.specs.declared.key.Key.TheVariants.{Named, Relative, Temporary, Unnamed}
use Rattle.group_core.specs.declared.group.GroupFault.{GroupFault}
use Rattle.group_core.specs.declared.group.Rolled.{Rolled}
use Rattle.group_core.specs.declared.group.Rolled.TheVariants.{Entered, Removed, Lowest, Same}
use Rattle.group_core.specs.Entries.{Member, volume_in}
use Rattle.group_core.specs.Groups.{GroupState, entered}
use Rattle.jcl_plan.specs.declared.plan.ConditionalWord.{ConditionalWord}
use Rattle.jcl_plan.specs.declared.plan.ConditionalWord.TheVariants as conditional
use Rattle.jcl_plan.specs.declared.plan.SetPlan.{SetPlan}
use Rattle.jcl_plan.specs.declared.plan.Word.{Word}
use Rattle.jcl_plan.specs.declared.plan.Word.TheVariants as word
use Rattle.jcl_plan.specs.declared.words.DispWord.TheVariants as disp
use Rattle.jcl_meaning.specs.declared.names.HeldName.{HeldName}
use Rattle.jcl_meaning.specs.declared.state.Change.TheVariants as change
use Rattle.jcl_meaning.specs.declared.state.Disposed.{Disposed}
use Rattle.jcl_meaning.specs.declared.state.TakenSet.{TakenSet}
use Rattle.jcl_meaning.specs.Dispositions.{catalogs, catalogs_by, catalogs_in_group, catalogs_name, changed, deletes, disposed_by, does, is_entered_on, left_word, uncatalogs, unless_gone, word_does}
use Rattle.jcl_meaning.specs.Names.{changes, changes_after_abend, is_shr, is_temporary, wants_alone}
use Rattle.jcl_meaning.specs.Plans.{conditional_meaning, normal_meaning, or_omitted, word_done}
use Rattle.jcl_meaning.specs.Stores.{Store, catalogued, group_of, is_unexpired, member_of}
use Rattle.part_laws.specs.Fits.{IsHeldFor, sees_alone}
use Rattle.part_laws.proofs.ChangesWithin.{IsFounded, Stays, change_stays, stays_same}

-- KEEP and PASS change no store
abbrev is_quiet : Word → Bool
is_quiet word.Delete = false
is_quiet word.Keep = true
is_quiet word.Pass = true
is_quiet word.Catlg = false
is_quiet word.Uncatlg = false

quiet_normal : (normal : Option Word) → changes normal ≡ false → is_quiet (or_omitted normal false) ≡ true
quiet_normal None e = refl
quiet_normal (Some word.Delete) e = absurd cc
quiet_normal (Some word.Keep) e = refl
quiet_normal (Some word.Pass) e = refl
quiet_normal (Some word.Catlg) e = absurd cc
quiet_normal (Some word.Uncatlg) e = absurd cc

quiet_done : (normal : Option Word) (after : Option ConditionalWord) (abended : Bool) → changes normal ≡ false → changes_after_abend after ≡ false →
    is_quiet (word_done (normal_meaning false normal) (conditional_meaning false after) abended false) ≡ true
quiet_done normal None true n c = quiet_normal normal n
quiet_done normal None false n c = quiet_normal normal n
quiet_done normal (Some conditional.Delete) abended n c = absurd cc
quiet_done normal (Some conditional.Keep) true n c = refl
quiet_done normal (Some conditional.Keep) false n c = quiet_normal normal n
quiet_done normal (Some conditional.Catlg) abended n c = absurd cc
quiet_done normal (Some conditional.Uncatlg) abended n c = absurd cc

quiet_left : (after : Option ConditionalWord) (later : Bool) → changes_after_abend after ≡ false →
    is_quiet (left_word false later (conditional_meaning false after) false) ≡ true
quiet_left None true c = refl
quiet_left None false c = refl
quiet_left (Some conditional.Delete) later c = absurd cc
quiet_left (Some conditional.Keep) true c = refl
quiet_left (Some conditional.Keep) false c = refl
quiet_left (Some conditional.Catlg) later c = absurd cc
quiet_left (Some conditional.Uncatlg) later c = absurd cc

not_temporary : (names : List HeldName) (key : Key) → sees_alone names key ≡ false → is_temporary key ≡ false
not_temporary names (Named name) e = refl
not_temporary names (Relative base sign amount) e = refl
not_temporary names (Temporary name) e = absurd cc
not_temporary names (Unnamed step dd) e = absurd cc

-- a set that is not held alone was not made, and its DD has no word that changes it
module _ (names : List HeldName) (p : SetPlan) (key : Key) (made : Bool) (held : IsHeldFor names p key) (makes : made ≡ true → sees_alone names key ≡ true)
    (shared : sees_alone names key ≡ false) where
  not_made : made ≡ false
  not_made = false_from_ne_true made (λ e. both_ways (sees_alone names key) shared (makes e))

  no_words : (changes p.normal ≡ false) × (changes_after_abend p.conditional ≡ false)
  no_words =
      let wants : wants_alone p ≡ false = false_from_ne_true (wants_alone p) (λ e. both_ways (sees_alone names key) shared (held.alone e)) in
      or_parts (changes p.normal) (changes_after_abend p.conditional)
      (or_parts (not (is_shr p.status)) (changes p.normal || changes_after_abend p.conditional) wants).1

  pub done_quiet : (abended : Bool) →
      is_quiet (word_done (normal_meaning (is_temporary key) p.normal) (conditional_meaning (is_temporary key) p.conditional) abended made) ≡ true
  done_quiet abended =
      let temporary : is_temporary key ≡ false = not_temporary names key shared in
      (λ i. is_quiet (word_done (normal_meaning (temporary i) p.normal) (conditional_meaning (temporary i) p.conditional) abended (not_made i)))
      ∙ quiet_done p.normal p.conditional abended no_words.0 no_words.1

  pub left_quiet : (later : Bool) → is_quiet (left_word (is_temporary key) later (conditional_meaning (is_temporary key) p.conditional) made) ≡ true
  left_quiet later =
      let temporary : is_temporary key ≡ false = not_temporary names key shared in
      (λ i. is_quiet (left_word (temporary i) later (conditional_meaning (temporary i) p.conditional) (not_made i)))
      ∙ quiet_left p.conditional later no_words.1

-- such a word changes nothing
change_quiet : (w : Word) (there stays by_catalog here : Bool) (catlg : Disposed) → is_quiet w ≡ true →
    (unless_gone there (word_does w stays by_catalog here catlg)).change ≡ change.Nothing
change_quiet w false stays by_catalog here catlg e = refl
change_quiet word.Delete true stays by_catalog here catlg e = absurd cc
change_quiet word.Keep true stays by_catalog here catlg e = refl
change_quiet word.Pass true stays by_catalog here catlg e = refl
change_quiet word.Catlg true stays by_catalog here catlg e = absurd cc
change_quiet word.Uncatlg true stays by_catalog here catlg e = absurd cc

-- and any other finds the entry as it has to be
module _ (s : Store) (key : Key) where
  delete_founded : (stays ours : Bool) → (ours ≡ true → is_some (catalogued s key) ≡ true) → IsFounded s key (deletes stays ours).change
  delete_founded true ours h = tt
  delete_founded false true h = h refl
  delete_founded false false h = tt

  uncatalog_founded : (here : Bool) → (here ≡ true → is_some (catalogued s key) ≡ true) → IsFounded s key (uncatalogs here).change
  uncatalog_founded true h = h refl
  uncatalog_founded false h = tt

  word_founded : (w : Word) (there stays by_catalog here : Bool) (catlg : Disposed) → (here ≡ true → is_some (catalogued s key) ≡ true) →
      IsFounded s key catlg.change → IsFounded s key (unless_gone there (word_does w stays by_catalog here catlg)).change
  word_founded w false stays by_catalog here catlg h c = tt
  word_founded word.Delete true stays by_catalog here catlg h c = delete_founded stays (by_catalog && here) (λ e. h (and_parts by_catalog here e).1)
  word_founded word.Keep true stays by_catalog here catlg h c = tt
  word_founded word.Pass true stays by_catalog here catlg h c = tt
  word_founded word.Catlg true stays by_catalog here catlg h c = c
  word_founded word.Uncatlg true stays by_catalog here catlg h c = uncatalog_founded here h

entered_somewhere : (at : Option (List ℕ)) (serial : List ℕ) → is_entered_on at serial ≡ true → is_some at ≡ true
entered_somewhere None serial e = e
entered_somewhere (Some there) serial e = refl

module _ (s : Store) (name : List ℕ) where
  in_group_founded : (r : Result Rolled GroupFault) → IsFounded s (Named name) (catalogs_in_group r).change
  in_group_founded (Ok Entered) = tt
  in_group_founded (Ok (Removed low serial)) = tt
  in_group_founded (Ok Same) = tt
  in_group_founded (Ok Lowest) = tt
  in_group_founded (Err f) = tt

  on_same_volume : (b : Bool) → IsFounded s (Named name) (cond b (does disp.Cataloged change.Nothing) (does disp.F3 change.Nothing)).change
  on_same_volume true = tt
  on_same_volume false = tt

  name_founded : (there : Option (List ℕ)) (serial : List ℕ) → group_of s name ≡ None → IsFounded s (Named name) (catalogs_name there serial).change
  name_founded None serial none = none
  name_founded (Some there) serial none = on_same_volume (bytes_eq there serial)

  by_member_founded : (m : Option Member) (there : Option (List ℕ)) (serial : List ℕ) → group_of s name ≡ None →
      IsFounded s (Named name) (catalogs_by m there serial).change
  by_member_founded (Some m) there serial none = in_group_founded (entered m.1 m.0 serial)
  by_member_founded None there serial none = name_founded there serial none

  unless_base_founded : (g : Option GroupState) (m : Option Member) (there : Option (List ℕ)) (serial : List ℕ) → group_of s name ≡ g →
      IsFounded s (Named name) (cond (is_some g) (does disp.F3 change.Nothing) (catalogs_by m there serial)).change
  unless_base_founded None m there serial e = by_member_founded m there serial e
  unless_base_founded (Some g) m there serial e = tt

catalogs_founded : (s : Store) (key : Key) (serial : List ℕ) → IsFounded s key (catalogs s key serial).change
catalogs_founded s (Named name) serial = unless_base_founded s name (group_of s name) (member_of s name) (volume_in (s.catalog name)) serial refl
catalogs_founded s (Relative base sign amount) serial = tt
catalogs_founded s (Temporary name) serial = tt
catalogs_founded s (Unnamed step dd) serial = tt

disposed_founded : (w : Word) (s : Store) (t : TakenSet) (date : ℕ) → IsFounded s t.key (disposed_by w s t date).change
disposed_founded w s t date =
    word_founded s t.key w (is_some (s.set t.key t.serial)) (not t.made_here && is_unexpired (s.set t.key t.serial) date) t.by_catalog
    (is_entered_on (catalogued s t.key) t.serial)
    (catalogs s t.key t.serial) (entered_somewhere (catalogued s t.key) t.serial) (catalogs_founded s t.key t.serial)

-- so what a disposition changes stays within the names
pub disposed_stays : (names : List HeldName) (s : Store) (w : Word) (t : TakenSet) (date : ℕ) → (sees_alone names t.key ≡ false → is_quiet w ≡ true) →
    Stays names s (changed (disposed_by w s t date).change s t.key t.serial date)
disposed_stays names s w t date quiet = by_holding (sees_alone names t.key) refl
  where
    by_holding : (alone : Bool) → sees_alone names t.key ≡ alone → Stays names s (changed (disposed_by w s t date).change s t.key t.serial date)
    by_holding true e = change_stays names s (disposed_by w s t date).change t.key t.serial date e (disposed_founded w s t date)
    by_holding false e =
        subst (λ c. Stays names s (changed c s t.key t.serial date))
        (sym (change_quiet w (is_some (s.set t.key t.serial)) (not t.made_here && is_unexpired (s.set t.key t.serial) date) t.by_catalog
        (is_entered_on (catalogued s t.key) t.serial) (catalogs s t.key t.serial) (quiet e)))
        (stays_same names s)
