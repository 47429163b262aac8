-- Each statement that is not refused keeps what every configuration has.
use Rattle.std.proofs.Common.{◌≡◌, ◌<◌, ◌≤◌, ℕ, Bool, true, false, ◌&&◌, ◌==◌, List, [], ◌∷◌, ◌++◌, All, IsSome, Option, Some, None, length, refl, sym, subst, arith, length-append}
use Rattle.std.specs.FinMap as finite
use Rattle.std.specs.Str.{bytes_eq}
use Rattle.std.proofs.lemmas.Bool.{eq-eqb, leb-false, ltb-false}
use Rattle.std.proofs.lemmas.List.{map-append}
use Rattle.std.proofs.lemmas.List.Elements.{All-nil, All-push}
use Rattle.std.proofs.lemmas.Slice.Eq.{bytes_eq-Decides}
use Rattle.extent_core.specs.declared.extent.Extent.{Extent}
use Rattle.jcl_meaning.specs.declared.program.Request.{Request}
use Rattle.jcl_meaning.specs.declared.program.SoloProgram.{SoloProgram}
use Rattle.jcl_meaning.specs.WellFormed.{IsEntry, IsRequest}
use Rattle.cat_core.specs.Catalogs.{is_entered, member_of, name_cmp}
use Rattle.vtoc_core.specs.declared.entry.SetEntry.{SetEntry}
use Rattle.vtoc_core.specs.Entries.{key_cmp}
use Rattle.machine_meaning.specs.declared.config.ConfiguredInitiator.{ConfiguredInitiator}
use Rattle.mount_core.specs.Mounts.{MountedState}
use Rattle.shared_core.specs.LaidOut.{IsLaidOut, VolumesAreLaidOut}
use Rattle.shared_core.specs.Shown.{mounted_in}
use Rattle.config_core.specs.Configs.{Configuration, catalog_with, extents_on, group_fault, initiator_fault, is_full_for, new_volume, nothing_configured, set_fault, unit_fault, volume_fault, with_group_of, with_initiator, with_procedure, with_program, with_set, with_unit, with_volume}
use Rattle.config_core.specs.Configured.{AreEntries, HasNamedSets, IsConfigured, IsInitiator, IsName, numbers_of, serials_of}
use Rattle.config_core.proofs.Changed.{same_length, same_serials, still_named, still_nothing_kept}
use Rattle.config_core.proofs.Differing.{differ_push, none_such}
use Rattle.config_core.proofs.Entering.{entries_grouped, entries_named}
use Rattle.config_core.proofs.Refused.{neither, no_fault, so}
use Rattle.session_input.specs.declared.statement.SetStatement.{SetStatement}
use Rattle.plain.specs.Lists.{Differ}

abbrev KeepsNothing : MountedState → Type 0
KeepsNothing m = m.kept ≡ finite.empty

pub nothing_is_configured : IsConfigured nothing_configured
nothing_is_configured = record {
  few_volumes = omega arith;
  serials = tt;
  kept = All-nil KeepsNothing;
  sets = All-nil HasNamedSets;
  laid_out = All-nil IsLaidOut;
  entries = λ name. subst (IsEntry name) (sym (finite.get-empty name_cmp name)) tt;
  few_units = omega arith;
  programs = All-nil _;
  numbers = tt;
  initiators = All-nil IsInitiator;
}

one_more : {X : Type 0} (xs : List X) (x : X) (most : ℕ) → length xs < most → length (xs ++ x ∷ []) ≤ most
one_more xs x most h = omega (arith, length-append xs (x ∷ []), h)

not_some : (o : Option SetEntry) → o ≡ None → IsSome o → ⊥
not_some None e h = absurd cc
not_some (Some entry) e h = absurd cc

no_sets : (serial : List ℕ) (tracks : ℕ) (used : List Extent) → HasNamedSets (new_volume serial tracks used)
no_sets serial tracks used key h = absurd (not_some (finite.get finite.empty key) (finite.get-empty key_cmp key) h)

pub volume_configured : (c : Configuration) (serial : List ℕ) (tracks : ℕ) (used : List Extent) →
    IsConfigured c → volume_fault c serial tracks used ≡ None → VolumesAreLaidOut (with_volume c serial tracks used).volumes →
    IsConfigured (with_volume c serial tracks used)
volume_configured c serial tracks used h e laid_out =
    let both = no_fault _ _ e in
    let few = leb-false _ _ (neither _ _ both.0).1 in
    let m = new_volume serial tracks used in
    let found : (x : MountedState) → x.serial ≡ serial → bytes_eq x.serial serial ≡ true = λ x is. (bytes_eq-Decides x.serial serial).1 is in
    record {
      few_volumes = one_more c.volumes m _ few;
      serials = subst Differ (sym (map-append (λ (x : MountedState). x.serial) c.volumes (m ∷ [])))
          (differ_push (serials_of c.volumes) serial h.serials (none_such (λ (x : MountedState). x.serial) (λ x. bytes_eq x.serial serial) serial found c.volumes both.1));
      kept = All-push KeepsNothing c.volumes m h.kept refl;
      sets = All-push HasNamedSets c.volumes m h.sets (no_sets serial tracks used);
      laid_out = laid_out;
      entries = h.entries;
      few_units = h.few_units;
      programs = h.programs;
      numbers = h.numbers;
      initiators = h.initiators;
    }

pub unit_configured : (c : Configuration) (name : List ℕ) (serials : List (List ℕ)) → IsConfigured c → unit_fault c name serials ≡ None →
    IsConfigured (with_unit c name serials)
unit_configured c name serials h e =
    let few = leb-false _ _ (neither _ _ (neither _ _ (no_fault _ _ e).0).0).0 in
    record {
      few_volumes = h.few_volumes;
      serials = h.serials;
      kept = h.kept;
      sets = h.sets;
      laid_out = h.laid_out;
      entries = h.entries;
      few_units = one_more c.units (record { name = name; serials = serials }) _ few;
      programs = h.programs;
      numbers = h.numbers;
      initiators = h.initiators;
    }

pub group_configured : (c : Configuration) (base : List ℕ) (limit : ℕ) (scratch : Bool) → IsConfigured c → group_fault c base limit ≡ None → IsName base →
    IsConfigured (with_group_of c base limit scratch)
group_configured c base limit scratch h e name =
    let value = neither _ _ (no_fault _ _ e).0 in
    let limits = neither _ _ value.0 in
    let some = ltb-false limit 1 limits.0 in
    let few = ltb-false 255 limit limits.1 in
    let short = ltb-false 35 (length base) value.1 in
    record {
      few_volumes = h.few_volumes;
      serials = h.serials;
      kept = h.kept;
      sets = h.sets;
      laid_out = h.laid_out;
      entries = entries_grouped c.catalog base limit scratch h.entries name short some few;
      few_units = h.few_units;
      programs = h.programs;
      numbers = h.numbers;
      initiators = h.initiators;
    }

catalogued_by : (c : Configuration) (s : SetStatement) (b : Bool) → IsConfigured c → IsName s.name → (b && is_full_for (member_of c.catalog s.name)) ≡ false →
    (b && is_entered c.catalog s.name) ≡ false → AreEntries (catalog_with c.catalog (record s { catalogued = b }))
catalogued_by c s true h name room new = entries_named c.catalog s.name s.serial (member_of c.catalog s.name) refl h.entries name new room
catalogued_by c s false h name room new = h.entries

pub set_configured : (c : Configuration) (s : SetStatement) → IsConfigured c → set_fault c s ≡ None → IsName s.name → VolumesAreLaidOut (with_set c s).volumes →
    IsConfigured (with_set c s)
set_configured c s h e name laid_out =
    let both = no_fault _ _ e in
    let extents = extents_on (mounted_in c.volumes s.serial) s.tracks in
    record {
      few_volumes = omega (arith, same_length c.volumes extents s, h.few_volumes);
      serials = subst Differ (sym (same_serials c.volumes extents s)) h.serials;
      kept = still_nothing_kept c.volumes extents s h.kept;
      sets = still_named c.volumes extents s h.sets;
      laid_out = laid_out;
      entries = catalogued_by c s s.catalogued h name (neither _ _ both.0).1 (neither _ _ both.1).1;
      few_units = h.few_units;
      programs = h.programs;
      numbers = h.numbers;
      initiators = h.initiators;
    }

pub procedure_configured : (c : Configuration) (name : List ℕ) (lines : List (List ℕ)) → IsConfigured c → IsConfigured (with_procedure c name lines)
procedure_configured c name lines h = record {
  few_volumes = h.few_volumes;
  serials = h.serials;
  kept = h.kept;
  sets = h.sets;
  laid_out = h.laid_out;
  entries = h.entries;
  few_units = h.few_units;
  programs = h.programs;
  numbers = h.numbers;
  initiators = h.initiators;
}

pub program_configured : (c : Configuration) (name : List ℕ) (requests : List Request) → IsConfigured c → All IsRequest requests →
    IsConfigured (with_program c name requests)
program_configured c name requests h good = record {
  few_volumes = h.few_volumes;
  serials = h.serials;
  kept = h.kept;
  sets = h.sets;
  laid_out = h.laid_out;
  entries = h.entries;
  few_units = h.few_units;
  programs = All-push (λ (p : SoloProgram). All IsRequest p.requests) c.programs (record { name = name; requests = requests }) h.programs good;
  numbers = h.numbers;
  initiators = h.initiators;
}

pub initiator_configured : (c : Configuration) (number : ℕ) (classes : List ℕ) → IsConfigured c → initiator_fault c number classes ≡ None →
    IsConfigured (with_initiator c number classes)
initiator_configured c number classes h e =
    let both = no_fault _ _ e in
    let value = neither _ _ both.0 in
    let range = neither _ _ value.0 in
    let some = ltb-false number 1 range.0 in
    let few = ltb-false 15 number range.1 in
    let x : ConfiguredInitiator = record { number = number; classes = classes } in
    record {
      few_volumes = h.few_volumes;
      serials = h.serials;
      kept = h.kept;
      sets = h.sets;
      laid_out = h.laid_out;
      entries = h.entries;
      few_units = h.few_units;
      programs = h.programs;
      numbers = subst Differ (sym (map-append (λ (y : ConfiguredInitiator). y.number) c.initiators (x ∷ [])))
          (differ_push (numbers_of c.initiators) number h.numbers
          (none_such (λ (y : ConfiguredInitiator). y.number) (λ y. y.number == number) number (λ y is. eq-eqb y.number number is) c.initiators both.1));
      initiators = All-push IsInitiator c.initiators x h.initiators (some, few, so _ value.1);
    }
