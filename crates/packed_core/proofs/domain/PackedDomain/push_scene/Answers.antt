use Rattle.std.proofs.Common.{◌≡◌, ◌++◌, ◌∷◌, ◌∙◌, ◌+◌, ℕ, List, [], Some, ap, arith, length, subst, sym, length-append}
use Rattle.std.specs.Prelude.{IfSome, slice_get}
use Rattle.std.proofs.lemmas.List.{length-map}
use Rattle.view_core.specs.declared.scene.Scene.{Scene}
use Rattle.packed_core.specs.Entries.{Entry, scenes_of}
use Rattle.packed_core.specs.Placed.{AreKnown}
use Rattle.packed_core.specs.Shown.{AreApart, alone}
use Rattle.packed_core.specs.Views.{Views}
use Rattle.packed_core.proofs.Adding.{apart_more, rows_more, scenes_more}
use Rattle.packed_core.proofs.Places.{got_last}
use Rattle.packed_core.proofs.Placing.{so_known_more}
use Rattle.packed_core.proofs.domain.PackedDomain.push_scene.Goals as goal

pub invariant_of-views-2 : goal.invariant_of-views-2
invariant_of-views-2 g c =
    let old : List Entry = c.views.inside.entries.items in
    let entry : Entry = c.entry_of.result in
    let part : ℕ = c.views.inside.part in
    let pushed : c.push.new.self.items ≡ old ++ entry ∷ [] = c.in_ok-push.ensures.items in
    let is = c.views.invariant in
    let none : (i : ℕ) (w : Scene) → slice_get (scenes_of old) i ≡ Some w →
    alone g.J.Job.plan g.J.Job.fixed.date part w ≡ alone g.J.Job.plan g.J.Job.fixed.date part entry.scene → ⊥ =
    λ i w at same. c.requires.new i w (sym (ap (λ (v : Views). slice_get v.scenes i) c.views.view_is) ∙ at)
    (sym (ap (λ (v : Views). alone g.J.Job.plan g.J.Job.fixed.date v.part w) c.views.view_is) ∙ same ∙ ap (alone g.J.Job.plan g.J.Job.fixed.date part)
    (ap (λ (e : Entry). e.scene) c.entry_of.ensures)
    ∙ ap (λ (v : Views). alone g.J.Job.plan g.J.Job.fixed.date v.part c.args.scene.value) c.views.view_is) in
    record {
      roomed = is.roomed;
      small = is.small;
      apart = subst (AreApart g.J.Job.plan g.J.Job.fixed.date part) (sym (ap scenes_of pushed ∙ scenes_more old entry))
          (apart_more g.J.Job.plan g.J.Job.fixed.date part (scenes_of old) entry.scene is.apart none);
      sighted = tt;
      so_known = subst (λ (l : List Scene). IfSome c.views.inside.from (λ s. (part ≡ s.part + 1)
          × AreKnown g.J.Job.plan g.J.Job.fixed s.part s.scenes l c.views.inside.known)) (sym (ap scenes_of pushed ∙ scenes_more old entry))
          (so_known_more g.J.Job.plan g.J.Job.fixed part c.views.inside.from c.views.inside.known (scenes_of old) (entry.scene ∷ []) is.so_known);
      are_rows = rows_more g.J.Job.plan part (length old) (length c.push.new.self.items) c.views.inside.rows
          (let longer : length c.push.new.self.items ≡ length old + 1 = ap length pushed ∙ length-append old (entry ∷ []) in omega arith) is.are_rows;
      are_ways = is.are_ways;
    }

pub returns-clause-more : goal.returns-clause-more
returns-clause-more g c =
    let old : List Entry = c.views.inside.entries.items in
    let entry : Entry = c.entry_of.result in
    record {
      more = entry.scene ∷ [];
      scenes = ap scenes_of c.in_ok-push.ensures.items ∙ scenes_more old entry ∙ ap (λ (v : Views). v.scenes ++ entry.scene ∷ []) c.views.view_is;
      part = ap (λ (v : Views). v.part) c.views.view_is;
      rows = ap (λ (v : Views). v.rows) c.views.view_is;
    }

pub returns-clause-there : goal.returns-clause-there
returns-clause-there g c =
    let old : List Entry = c.views.inside.entries.items in
    let entry : Entry = c.entry_of.result in
    let part : ℕ = c.views.inside.part in
    let last : c.len-number.result ≡ length (scenes_of old) = omega (arith, length-map old (λ (e : Entry). e.scene)) in
    record {
      one = entry.scene;
      there = ap (λ (l : List Scene). slice_get l c.len-number.result) (ap scenes_of c.in_ok-push.ensures.items ∙ scenes_more old entry)
          ∙ ap (slice_get (scenes_of old ++ entry.scene ∷ [])) last ∙ got_last (scenes_of old) entry.scene;
      same = ap (alone g.J.Job.plan g.J.Job.fixed.date part) (ap (λ (e : Entry). e.scene) c.entry_of.ensures);
    }
