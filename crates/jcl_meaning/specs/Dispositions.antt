-- What becomes of a set at its disposition and at the job's end. (GC28-6704, DISP parameter; LEFT is this profile's)
use Rattle.std.specs.Prelude.{ℕ, Bool, true, false, not, ◌&&◌, ◌||◌, List, Option, Some, None, Result, Ok, Err, is_some, if◌then◌else◌}
use Rattle.std.specs.Str.{bytes_eq}
use Rattle.jname_core.specs.declared.key.Key.{Key}
use Rattle.jname_core.specs.declared.key.Key.TheVariants.{Named, Relative, Temporary, Unnamed}
use Rattle.group_core.specs.declared.group.GroupFault.{GroupFault}
use Rattle.group_core.specs.declared.group.Rolled.{Rolled}
use Rattle.group_core.specs.declared.group.Rolled.TheVariants.{Entered, Removed, Lowest, Same}
use Rattle.group_core.specs.Entries.{Member, volume_in}
use Rattle.group_core.specs.Groups.{entered}
use Rattle.jcl_plan.specs.declared.fault.Fault.{Fault}
use Rattle.jcl_plan.specs.declared.fault.Fault.TheVariants as fault
use Rattle.jcl_plan.specs.declared.plan.Word.{Word}
use Rattle.jcl_plan.specs.declared.plan.Word.TheVariants as word
use Rattle.jcl_plan.specs.declared.words.DispWord.{DispWord}
use Rattle.jcl_plan.specs.declared.words.DispWord.TheVariants as disp
use Rattle.jcl_plan.specs.declared.words.BackWord.{BackWord}
use Rattle.jcl_plan.specs.declared.words.BackWord.TheVariants as back
use Rattle.jcl_meaning.specs.declared.state.Change.{Change}
use Rattle.jcl_meaning.specs.declared.state.Change.TheVariants as change
use Rattle.jcl_meaning.specs.declared.state.Disposed.{Disposed}
use Rattle.jcl_meaning.specs.declared.state.Passed.{Passed}
use Rattle.jcl_meaning.specs.declared.state.TakenSet.{TakenSet}
use Rattle.jcl_meaning.specs.Names.{is_temporary}
use Rattle.jcl_meaning.specs.Plans.{omitted}
use Rattle.jcl_meaning.specs.Stores.{Store, catalogued, generation_entered, group_of, is_unexpired, member_of, name_entered, uncatalogued, with_set}

abbrev pub does : DispWord → Change → Disposed
does w c = record { word = w; change = c; passes = false }

-- CATLG: an entry for another volume, and a group's base, are F3; in a full group the lowest is not entered
abbrev pub catalogs_in_group : Result Rolled GroupFault → Disposed
catalogs_in_group (Ok Entered) = does disp.Cataloged change.EnterGeneration
catalogs_in_group (Ok (Removed low serial)) = does disp.Cataloged change.EnterGeneration
catalogs_in_group (Ok Same) = does disp.Cataloged change.EnterGeneration
catalogs_in_group (Ok Lowest) = does disp.Kept change.Nothing
catalogs_in_group (Err f) = does disp.F3 change.Nothing

abbrev pub catalogs_name : Option (List ℕ) → List ℕ → Disposed
catalogs_name None serial = does disp.Cataloged change.Catalog
catalogs_name (Some there) serial = if bytes_eq there serial then does disp.Cataloged change.Nothing else does disp.F3 change.Nothing

abbrev pub catalogs_by : Option Member → Option (List ℕ) → List ℕ → Disposed
catalogs_by (Some m) there serial = catalogs_in_group (entered m.1 m.0 serial)
catalogs_by None there serial = catalogs_name there serial

abbrev pub catalogs : Store → Key → List ℕ → Disposed
catalogs s (Named name) serial =
    if is_some (group_of s name) then does disp.F3 change.Nothing
    else catalogs_by (member_of s name) (volume_in (s.catalog name)) serial
catalogs s (Relative base sign amount) serial = does disp.F3 change.Nothing
catalogs s (Temporary name) serial = does disp.F3 change.Nothing
catalogs s (Unnamed step dd) serial = does disp.F3 change.Nothing

-- the catalog has this volume for the name
abbrev pub is_entered_on : Option (List ℕ) → List ℕ → Bool
is_entered_on None serial = false
is_entered_on (Some there) serial = bytes_eq there serial

-- DELETE: a set that is not to be deleted yet stays, but where the DD that made it deletes it in its own step
abbrev pub deletes : Bool → Bool → Disposed
deletes true ours = does disp.Unexpired change.Nothing
deletes false true = does disp.Deleted change.ScratchAndUncatalog
deletes false false = does disp.Deleted change.Scratch

abbrev pub uncatalogs : Bool → Disposed
uncatalogs true = does disp.Uncataloged change.Uncatalog
uncatalogs false = does disp.F4 change.Nothing

-- What a word does to a set that is there. The set stays unless it is deleted; it was found by the catalog or not; the catalog has it here
-- or not; and CATLG does what it does.
abbrev pub word_does : Word → Bool → Bool → Bool → Disposed → Disposed
word_does word.Delete stays by_catalog here catlg = deletes stays (by_catalog && here)
word_does word.Keep stays by_catalog here catlg = does disp.Kept change.Nothing
word_does word.Pass stays by_catalog here catlg = record { word = disp.Passed; change = change.Nothing; passes = true }
word_does word.Catlg stays by_catalog here catlg = catlg
word_does word.Uncatlg stays by_catalog here catlg = uncatalogs here

-- a set that is gone is F8, whatever the word
abbrev pub unless_gone : Bool → Disposed → Disposed
unless_gone false disposed = does disp.F8 change.Nothing
unless_gone true disposed = disposed

-- the word done on a set
abbrev pub disposed_by : Word → Store → TakenSet → ℕ → Disposed
disposed_by w s t date =
    unless_gone (is_some (s.set t.key t.serial))
    (word_does w (not t.made_here && is_unexpired (s.set t.key t.serial) date) t.by_catalog
    (is_entered_on (catalogued s t.key) t.serial) (catalogs s t.key t.serial))

-- what it changes
abbrev pub changed : Change → Store → Key → List ℕ → ℕ → Store
changed change.Nothing s key serial date = s
changed change.Scratch s key serial date = with_set s key serial None
changed change.ScratchAndUncatalog s key serial date = uncatalogued (with_set s key serial None) key
changed change.Catalog s key serial date = name_entered s key serial
changed change.Uncatalog s key serial date = uncatalogued s key
changed change.EnterGeneration s key serial date = generation_entered s key serial date

-- the words that are faults of a job which goes on
abbrev pub fault_in : DispWord → Option Fault
fault_in disp.F3 = Some fault.F3
fault_in disp.F4 = Some fault.F4
fault_in disp.F8 = Some fault.F8
fault_in disp.Kept = None
fault_in disp.Deleted = None
fault_in disp.Passed = None
fault_in disp.Cataloged = None
fault_in disp.Uncataloged = None
fault_in disp.Unexpired = None
fault_in (disp.Spooled n) = None
fault_in disp.Nothing = None

-- what is done at the job's end with a passed set that was not received: a temporary one is deleted; after an ABEND in a step later than
-- the pass the passing DD's conditional word is done, if coded; else a set that the job made is deleted and any other kept
abbrev pub left_word_after : Bool → Option Word → Bool → Word
left_word_after true (Some w) made = w
left_word_after true None made = omitted made
left_word_after false conditional made = omitted made

abbrev pub left_word : Bool → Bool → Option Word → Bool → Word
left_word true later conditional made = word.Delete
left_word false later conditional made = left_word_after later conditional made

abbrev pub as_taken : Passed → TakenSet
as_taken p = record { key = p.key; serial = p.serial; made = p.made; by_catalog = p.by_catalog; made_here = false }

-- a set given back at a fault, by its marks alone
abbrev pub is_deleted_back : TakenSet → Bool
is_deleted_back t = t.made || is_temporary t.key

abbrev pub back_word : Bool → BackWord
back_word true = back.Deleted
back_word false = back.Kept
