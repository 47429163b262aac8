-- Volumes and catalogs that statements change stay printable.
use Rattle.std.proofs.Common.{ℕ, Bool, List, [], All, Option, Some, None, sym, subst}
use Rattle.std.specs.Prelude.{IfSome}
use Rattle.std.specs.FinMap.{empty, get, get-empty, get-insert, insert}
use Rattle.std.specs.Ordering.{eq_by_cmp, is_eq}
use Rattle.std.proofs.lemmas.Cmp.{nat_list_cmp_total}
use Rattle.std.proofs.lemmas.List.Elements.{All-nil}
use Rattle.extent_core.specs.declared.extent.Extent.{Extent}
use Rattle.jname_core.specs.Generations.{base_of, generation_of}
use Rattle.group_core.specs.declared.entry.CatEntry.{CatEntry}
use Rattle.group_core.specs.declared.entry.CatEntry.TheVariants.{Group, Volume}
use Rattle.group_core.specs.Entries.{Member}
use Rattle.group_core.specs.Groups.{with_entered}
use Rattle.cat_core.specs.Catalogs.{Contents, group_of, member_of, name_cmp, with_group, with_name, with_name_by}
use Rattle.vtoc_core.specs.declared.entry.SetEntry.{SetEntry}
use Rattle.vtoc_core.specs.declared.entry.SetKey.{SetKey}
use Rattle.vtoc_core.specs.declared.entry.SetKey.TheVariants.{Named}
use Rattle.vtoc_core.specs.Entries.{key_cmp}
use Rattle.vtoc_core.proofs.PlaceLemmas.{key_total}
use Rattle.mount_core.specs.Mounts.{MountedState}
use Rattle.session_input.specs.declared.statement.SetStatement.{SetStatement}
use Rattle.line_laws.specs.Printable.{IsPrintable}
use Rattle.print_laws.specs.Printable.{IsPrintableCatEntry}
use Rattle.print_laws.proofs.GroupsPrintable.{IsPrintableMember, either, group_printable, member_printable, with_entered_printable}
use Rattle.config_core.specs.Configs.{catalog_with, new_volume, with_set_in, with_set_on}
use Rattle.config_core.proofs.Changed.{all_changed}

-- the records of a set, and a volume's serial and sets
abbrev pub IsPrintableEntry : Option SetEntry → Type 0
IsPrintableEntry entry = IfSome entry (λ e. All IsPrintable e.records)

pub record IsPrintableMounted (m : MountedState) : Type 0 where
  pub serial : IsPrintable m.serial
  pub sets : (key : SetKey) → IsPrintableEntry (get m.volume.sets key)

-- what a catalog has under each name
abbrev pub IsPrintableFound : Option CatEntry → Type 0
IsPrintableFound entry = IfSome entry IsPrintableCatEntry

abbrev pub ArePrintableContents : Contents → Type 0
ArePrintableContents catalog = (name : List ℕ) → IsPrintableFound (get catalog name)

-- a volume without sets
pub new_printable : (serial : List ℕ) (tracks : ℕ) (used : List Extent) → IsPrintable serial → IsPrintableMounted (new_volume serial tracks used)
new_printable serial tracks used h =
    record { serial = h; sets = λ key. subst IsPrintableEntry (sym (get-empty key_cmp key)) tt }

-- with one set more
with_set_printable : (extents : List Extent) (s : SetStatement) → All IsPrintable s.records → (m : MountedState) → IsPrintableMounted m →
    IsPrintableMounted (with_set_on m extents s)
with_set_printable extents s records m h = record { serial = h.serial; sets = sets }
  where
    entry : SetEntry
    entry = record { extents = record { items = extents }; expires = s.expires; records = s.records }

    sets : (key : SetKey) → IsPrintableEntry (get (insert m.volume.sets (Named s.name) entry) key)
    sets key =
        subst IsPrintableEntry (sym (get-insert key_total m.volume.sets (Named s.name) entry key))
        (either IsPrintableEntry (eq_by_cmp key_cmp key (Named s.name)) (Some entry) (get m.volume.sets key) records (h.sets key))

pub volumes_printable : (volumes : List MountedState) (extents : Option (List Extent)) (s : SetStatement) → All IsPrintable s.records →
    All IsPrintableMounted volumes → All IsPrintableMounted (with_set_in volumes extents s)
volumes_printable volumes None s records h = h
volumes_printable volumes (Some extents) s records h =
    all_changed (λ m. with_set_on m extents s) s.serial IsPrintableMounted (with_set_printable extents s records) volumes h

-- a catalog with nothing in it
pub nothing_printable : ArePrintableContents empty
nothing_printable name = subst IsPrintableFound (sym (get-empty name_cmp name)) tt

-- with one entry more, or another one there
inserted_printable : (c : Contents) (name : List ℕ) (v : CatEntry) → ArePrintableContents c → IsPrintableCatEntry v → ArePrintableContents (insert c name v)
inserted_printable c name v h p q =
    subst IsPrintableFound (sym (get-insert nat_list_cmp_total c name v q))
    (either IsPrintableFound (is_eq (name_cmp q name)) (Some v) (get c q) p (h q))

pub grouped_printable : (c : Contents) (base : List ℕ) (limit : ℕ) (scratch : Bool) → ArePrintableContents c →
    ArePrintableContents (with_group c base limit scratch)
grouped_printable c base limit scratch h =
    inserted_printable c base (Group (record { limit = limit; scratch = scratch; generations = [] })) h (All-nil _)

-- a name, of a group's generation the number
named_by : (m : Option Member) (c : Contents) (name serial : List ℕ) → IfSome m IsPrintableMember → ArePrintableContents c → IsPrintable serial →
    ArePrintableContents (with_name_by m c name serial)
named_by (Some m) c name serial k h p =
    inserted_printable c (base_of name) (Group (with_entered m.1 m.0 serial)) h (with_entered_printable m.1 m.0 serial k p)
named_by None c name serial k h p = inserted_printable c name (Volume serial) h p

named_printable : (c : Contents) (name serial : List ℕ) → ArePrintableContents c → IsPrintable serial → ArePrintableContents (with_name c name serial)
named_printable c name serial h p =
    named_by (member_of c name) c name serial
    (member_printable (generation_of name) (group_of c (base_of name)) (group_printable (get c (base_of name)) (h (base_of name)))) h p

pub catalog_printable : (c : Contents) (s : SetStatement) → ArePrintableContents c → IsPrintable s.serial → ArePrintableContents (catalog_with c s)
catalog_printable c s h p = either ArePrintableContents s.catalogued (with_name c s.name s.serial) c (named_printable c s.name s.serial h p) h
