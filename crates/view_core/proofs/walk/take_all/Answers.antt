use Rattle.std.proofs.Common.{◌≡◌, ◌+◌, ◌++◌, [], true, List, refl, sym, ap, ◌∙◌, append_assoc}
use Rattle.std.proofs.lemmas.List.{append-nil}
use Rattle.jcl_meaning.specs.declared.state.Place.{Place}
use Rattle.jcl_meaning.specs.Acts.{act}
use Rattle.jcl_meaning.specs.Agendas.{Take}
use Rattle.jcl_meaning.specs.States.{Answers, Fixed}
use Rattle.jcl_meaning.specs.Stores.{store_of}
use Rattle.disp_core.specs.Courses.{fixed_by}
use Rattle.disp_core.specs.Grants.{made_of}
use Rattle.view_core.specs.Walks.{state_of}
use Rattle.view_core.proofs.Runs.{primary_is_granted, run_nothing, run_one, takes_meet, takes_more}
use Rattle.view_core.proofs.walk.take_all.Goals as goal

pub loop-i-init : goal.loop-i-init
loop-i-init c = ([], sym (append-nil c.args.made.now.items), λ answers h. run_nothing (fixed_by c.args.given.now) (state_of c.args.under.now answers))

pub returns-in-Some : goal.returns-in-Some
unfolding act
returns-in-Some c =
    let fixed : Fixed = fixed_by c.args.given.now in
    let d = c.index-dds-i.result in (
      refl,
      refl,
      λ answers h. (
        c.loop-i.i,
        refl,
        record {
          plan = d;
          meets = takes_meet fixed c.args.n c.loop-i.i c.args.dds.now d (state_of c.args.under.now answers) (state_of c.loop-i.under answers) c.loop-i.invariant.0
              c.loop-i-test.true c.index-dds-i.is c.in-Some.fault (c.loop-i.invariant.2 answers h)
              (((c.in_ok-taken.ensures d.kind (sym c.take_text.ensures)).ok answers (h ∙ sym (primary_is_granted fixed c.args.n (c.loop-i.i + 1) d.kind (store_of c.loop-i.under.store) c.loop-i.under.course.own))).its_fault
              ∙ c.in-Some.is);
        },
      ),
    )

pub loop-i-preserved : goal.loop-i-preserved
unfolding act
loop-i-preserved c =
    let fixed : Fixed = fixed_by c.args.given.now in
    let d = c.index-dds-i.result in
    let sets : List Place = c.loop-i.invariant.0 in
    let more : List Place = made_of c.in_ok-taken.taken.made in
    let granted : (answers : Answers) → answers.primary ≡ true → answers.primary ≡ _ =
    λ answers h. h ∙ sym (primary_is_granted fixed c.args.n (c.loop-i.i + 1) d.kind (store_of c.loop-i.under.store) c.loop-i.under.course.own) in (
      sets ++ more,
      c.in_ok-push_made.ensures ∙ ap (λ (l : List Place). l ++ more) c.loop-i.invariant.1 ∙ append_assoc c.args.made.now.items sets more,
      λ answers h. takes_more fixed c.args.n c.loop-i.i c.args.dds.now d (state_of c.args.under.now answers) (state_of c.loop-i.under answers) sets
          c.loop-i-test.true c.index-dds-i.is (state_of (record { store = c.take.new.store; course = c.take.new.course }) answers) more (c.loop-i.invariant.2 answers h)
          (let did = (c.in_ok-taken.ensures d.kind (sym c.take_text.ensures)).ok answers (granted answers h) in
          run_one fixed (Take c.args.n (c.loop-i.i + 1) d) (state_of c.loop-i.under answers) (state_of (record { store = c.take.new.store; course = c.take.new.course }) answers) more
          did.its_state (did.its_fault ∙ c.in_default.is) did.its_made),
    )
