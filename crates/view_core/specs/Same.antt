-- When two views show a job the same, as a test.
use Rattle.std.specs.Prelude.{ℕ, Bool, true, false, not, ◌&&◌, ◌||◌, ◌==◌, List, [], ◌∷◌, take, drop, length, zip, Option, Some, None, if◌then◌else◌}
use Rattle.std.specs.Bool.{beq}
use Rattle.std.specs.Cmp.Lexicographic.{pointwise}
use Rattle.std.specs.List.{list_all}
use Rattle.std.specs.Str.{bytes_eq}
use Rattle.jname_core.specs.declared.key.Key.{Key}
use Rattle.jname_core.specs.Generations.{base_of}
use Rattle.group_core.specs.declared.entry.CatEntry.{CatEntry}
use Rattle.group_core.specs.declared.entry.CatEntry.TheVariants.{Volume, Group}
use Rattle.group_core.specs.declared.group.Generation.{Generation}
use Rattle.group_core.specs.Groups.{GroupState}
use Rattle.jcl_plan.specs.declared.plan.DdKind.{DdKind}
use Rattle.jcl_plan.specs.declared.plan.DdKind.TheVariants.{Sysout, Dummy, Cards, Set}
use Rattle.jcl_plan.specs.declared.plan.DdPlan.{DdPlan}
use Rattle.jcl_plan.specs.declared.plan.StepPlan.{StepPlan}
use Rattle.jcl_plan.specs.declared.plan.VolumePlan.{VolumePlan}
use Rattle.jcl_plan.specs.declared.plan.VolumePlan.TheVariants.{NotCoded, Serial, OfName, OfDd}
use Rattle.jcl_meaning.specs.declared.names.HeldName.{HeldName}
use Rattle.jcl_meaning.specs.declared.state.DdVolume.{DdVolume}
use Rattle.jcl_meaning.specs.declared.state.Passed.{Passed}
use Rattle.jcl_meaning.specs.declared.store.DataSet.{DataSet}
use Rattle.jcl_meaning.specs.declared.store.SoloEntry.{SoloEntry}
use Rattle.jcl_meaning.specs.declared.store.SoloSet.{SoloSet}
use Rattle.jcl_meaning.specs.declared.store.SoloStore.{SoloStore}
use Rattle.jcl_meaning.specs.Names.{same_key}
use Rattle.jcl_meaning.specs.Parts.{is_among, part_of, sees_key}
use Rattle.jcl_meaning.specs.Stores.{entry_in, set_in, store_of}
use Rattle.jcl_meaning.specs.Takes.{dd_volume}
use Rattle.jcl_meaning.specs.Views.{View, shown_set, steps_refer}
use Rattle.seen_store.specs.declared.place.SetPlace.{SetPlace}
use Rattle.view_core.specs.declared.scene.PlainView.{PlainView}
use Rattle.view_core.specs.declared.scene.Scene.{Scene}
use Rattle.view_core.specs.PlainViews.{by_step}

-- what a view shows a job with these names and so many tests of its JOB statement, before these steps
abbrev pub shown_under : List HeldName → ℕ → ℕ → List StepPlan → PlainView → View
shown_under names date tests later v = record {
  sets = λ key serial. shown_set ((part_of names (store_of v.scene.value.store)).set key serial) date;
  catalog = (part_of names (store_of v.scene.value.store)).catalog;
  passed = v.scene.value.passed;
  volumes = λ step dd. if steps_refer later step dd then dd_volume v.scene.value.volumes step dd else None;
  abended = v.abended;
  job_tests = take tests v.met.items;
  step_tests = by_step later (drop tests v.met.items);
}

-- what a scene shows by itself
abbrev pub shown_alone : List HeldName → ℕ → List StepPlan → Scene → View
shown_alone names date later s = record {
  sets = λ key serial. shown_set ((part_of names (store_of s.store)).set key serial) date;
  catalog = (part_of names (store_of s.store)).catalog;
  passed = s.passed;
  volumes = λ step dd. if steps_refer later step dd then dd_volume s.volumes step dd else None;
  abended = false;
  job_tests = [];
  step_tests = [];
}

-- sets
abbrev pub same_shown : Option Bool → Option Bool → Bool
same_shown None None = true
same_shown None (Some y) = false
same_shown (Some x) None = false
same_shown (Some x) (Some y) = beq x y

-- of two sets of a key, if it is seen
abbrev pub shown_alike : List HeldName → ℕ → Key → Option DataSet → Option DataSet → Bool
shown_alike names date key x y = not (sees_key names key) || same_shown (shown_set x date) (shown_set y date)

abbrev pub set_alike : List HeldName → ℕ → SoloStore → SoloStore → Key → List ℕ → Bool
set_alike names date a b key serial = shown_alike names date key (set_in a.sets key serial) (set_in b.sets key serial)

-- the sets of two places, each shown alike in both stores
abbrev pub both_sets_alike : List HeldName → ℕ → SoloStore → SoloStore → SetPlace → SetPlace → Bool
both_sets_alike names date a b p q = set_alike names date a b p.key p.serial && set_alike names date a b q.key q.serial

abbrev pub same_place : SetPlace → SetPlace → Bool
same_place p q = same_key p.key q.key && bytes_eq p.serial q.serial

abbrev pub sets_alike : List HeldName → ℕ → SoloStore → SoloStore → List SoloSet → Bool
sets_alike names date a b sets = list_all (λ x. set_alike names date a b x.key x.serial) sets

-- entries: of a group that is not held itself only that it is one
abbrev pub same_generation : Generation → Generation → Bool
same_generation g h = g.number == h.number && bytes_eq g.serial h.serial

abbrev pub same_group : GroupState → GroupState → Bool
same_group g h = g.limit == h.limit && beq g.scratch h.scratch && (length g.generations == length h.generations)
    && list_all (λ p. same_generation p.0 p.1) (zip g.generations h.generations)

abbrev pub same_seen : Bool → Bool → Option CatEntry → Option CatEntry → Bool
same_seen whole base None None = true
same_seen whole base None (Some (Volume serial)) = not base
same_seen whole base None (Some (Group g)) = not whole && not base
same_seen whole base (Some (Volume serial)) None = not base
same_seen whole base (Some (Volume serial)) (Some (Volume other)) = not base || bytes_eq serial other
same_seen whole base (Some (Volume serial)) (Some (Group g)) = not whole && not base
same_seen whole base (Some (Group g)) None = not whole && not base
same_seen whole base (Some (Group g)) (Some (Volume serial)) = not whole && not base
same_seen whole base (Some (Group g)) (Some (Group h)) = not whole || same_group g h

abbrev pub entry_alike : List HeldName → SoloStore → SoloStore → List ℕ → Bool
entry_alike names a b name = same_seen (is_among names name) (is_among names (base_of name)) (entry_in a.catalog name) (entry_in b.catalog name)

abbrev pub entries_alike : List HeldName → SoloStore → SoloStore → List SoloEntry → Bool
entries_alike names a b entries = list_all (λ x. entry_alike names a b x.name) entries

-- passed sets
abbrev pub same_passed : Passed → Passed → Bool
same_passed a b = same_key a.key b.key && bytes_eq a.serial b.serial && beq a.made b.made && beq a.by_catalog b.by_catalog && (a.step == b.step)
    && (a.dd == b.dd) && beq a.abend_later b.abend_later

abbrev pub all_same_passed : List Passed → List Passed → Bool
all_same_passed a b = length a == length b && list_all (λ p. same_passed p.0 p.1) (zip a b)

-- volumes
abbrev pub same_serial : Option (List ℕ) → Option (List ℕ) → Bool
same_serial None None = true
same_serial None (Some y) = false
same_serial (Some x) None = false
same_serial (Some x) (Some y) = bytes_eq x y

abbrev pub same_volume : List DdVolume → List DdVolume → ℕ → ℕ → Bool
same_volume a b step dd = same_serial (dd_volume a step dd) (dd_volume b step dd)

abbrev pub same_by_plan : List DdVolume → List DdVolume → VolumePlan → Bool
same_by_plan a b NotCoded = true
same_by_plan a b (Serial serial) = true
same_by_plan a b (OfName name) = true
same_by_plan a b (OfDd step dd) = same_volume a b step dd

abbrev pub same_for_kind : List DdVolume → List DdVolume → DdKind → Bool
same_for_kind a b (Sysout class) = true
same_for_kind a b Dummy = true
same_for_kind a b (Cards cards) = true
same_for_kind a b (Set p) = same_by_plan a b p.volume

abbrev pub same_for_dds : List DdVolume → List DdVolume → List DdPlan → Bool
same_for_dds a b dds = list_all (λ d. same_for_kind a b d.kind) dds

abbrev pub same_volumes : List DdVolume → List DdVolume → List StepPlan → Bool
same_volumes a b later = list_all (λ s. same_for_dds a b s.dds) later

abbrev pub same_scene : List HeldName → ℕ → List StepPlan → Scene → Scene → Bool
same_scene names date later a b = all_same_passed a.passed b.passed && same_volumes a.volumes b.volumes later
    && sets_alike names date a.store b.store a.store.sets && sets_alike names date a.store b.store b.store.sets
    && entries_alike names a.store b.store a.store.catalog && entries_alike names a.store b.store b.store.catalog

-- tests
abbrev pub same_bits : List Bool → List Bool → Bool
same_bits a b = pointwise beq a b

abbrev pub same_by_step : List StepPlan → List Bool → List Bool → Bool
same_by_step [] a b = true
same_by_step (s ∷ later) a b =
    same_bits (take (length s.tests.items) a) (take (length s.tests.items) b)
    && same_by_step later (drop (length s.tests.items) a) (drop (length s.tests.items) b)

abbrev pub same_met : ℕ → List StepPlan → List Bool → List Bool → Bool
same_met tests later a b = same_bits (take tests a) (take tests b) && same_by_step later (drop tests a) (drop tests b)

abbrev pub same_view : List HeldName → ℕ → ℕ → List StepPlan → PlainView → PlainView → Bool
same_view names date tests later a b =
    beq a.abended b.abended && same_met tests later a.met.items b.met.items && same_scene names date later a.scene.value b.scene.value
