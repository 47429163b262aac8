use Rattle.std.proofs.Common.{inl, inr, ◌∙◌, ℕ, List, Option, ap, subst, sym}
use Rattle.std.specs.Prelude.{All, Contains, IfSome}
use Rattle.packed_core.specs.declared.classes.Class.{Class}
use Rattle.packed_core.specs.declared.classes.Classes.{Classes}
use Rattle.packed_core.specs.declared.ways.Looked.{Looked}
use Rattle.packed_core.specs.declared.ways.Pending.{Pending}
use Rattle.std.specs.Global.{Box}
use Rattle.packed_core.specs.Ways.{AreKept, AreLooked, HasNoOthers, IsThere}
use Rattle.packed_core.proofs.Skipping.{no_others_more, settled}
use Rattle.packed_core.proofs.ways.Ways.settle.Goals.{else-place_all, then-place_all+in_ok-lengthen}
use Rattle.packed_core.proofs.ways.Ways.settle.Goals as goal

pub returns-clause-kept : goal.returns-clause-kept
returns-clause-kept c =
    let rows : List (List ℕ) = c.args.rows.now in
    let list : List Class = c.args.self.now.classes.value.list.items in
    let base : List ℕ = c.into_inner-base.result.base.items in
    let looked : List Looked = c.place_all.new.looked.items in
    let told : AreLooked rows list base c.into_inner-base.result.looked.items =
    subst (λ (p : Pending). AreLooked rows list p.base.items p.looked.items) (sym c.into_inner-base.ensures)
    (subst (λ (o : Option (Box Pending)). IfSome o (λ (p : Box Pending). AreLooked rows list p.value.base.items p.value.looked.items)) (sym c.in-Some.ensures.value)
    c.requires.kept.pending) in
    let all : AreLooked rows list base looked = λ j class at. elim (told j class at) [
      | inl h ↦ inl (subst (λ (l : List ℕ). Contains l j) (sym c.place_all.ensures.same) h)
      | inr h ↦ inr h
    ] in
    let none = subst (λ (o : Option (Box Pending)). IfSome o (λ (p : Box Pending). AreLooked rows list p.value.base.items p.value.looked.items)) (sym c.take.ensures.after) tt in
    elim c.if-place_all.branch [
      | then-place_all+in_ok-lengthen w ↦
          let there : All (IsThere rows list base) looked =
          subst (λ (l : List Class). All (IsThere rows l base) looked) (c.as_slice-list.ensures.value ∙ ap (λ (x : Classes). x.list.items) c.deref.ensures)
          (subst (λ (b : List ℕ). All (IsThere rows c.as_slice-list.result.now b) looked) c.as_slice.ensures.value
          (c.place_all.ensures.there w.if-place_all.true)) in
          subst (AreKept rows) (sym w.self-is) (record {
            compared = c.requires.kept.compared;
            notes = settled rows list base looked c.args.self.now.notes.items w.note_all.new.notes.items c.requires.kept.notes all there
                (no_others_more c.args.self.now.notes.items w.lengthen.new.notes.items w.note_all.new.notes.items looked w.in_ok-lengthen.ensures
                (subst (HasNoOthers w.lengthen.new.notes.items w.note_all.new.notes.items) w.as_slice-then-place_all.ensures.value w.note_all.ensures));
            pending = none;
          })
      | else-place_all w ↦ subst (AreKept rows) (sym w.self-is) (record {
        compared = c.requires.kept.compared;
        notes = c.requires.kept.notes;
        pending = none;
      })
    ]
