-- What was carried out over the runner's store is what the runner did.
use Rattle.std.proofs.Common.{◌≡◌, ◌++◌, ◌∷◌, List, [], Option, None, sym, ap, subst, ◌∙◌}
use Rattle.jcl_plan.specs.declared.fault.Fault.{Fault}
use Rattle.jcl_meaning.specs.declared.state.Place.{Place}
use Rattle.jcl_meaning.specs.Agendas.{Action}
use Rattle.jcl_meaning.specs.States.{Answers, Done}
use Rattle.jcl_meaning.specs.Stores.{Store, store_of}
use Rattle.disp_core.specs.Courses as course
use Rattle.disp_core.specs.declared.course.Course.{Course}
use Rattle.solo_core.specs.declared.runner.Runner.{Runner}
use Rattle.solo_core.specs.Runners.{Does, Keeps, answers_by, done_by}

-- the answers that are left
pub with_answers : {done : Done} {seen : Store} {after before : Course} {a b : Answers} → a ≡ b →
    course.Does done seen after before a None [] → course.Does done seen after before b None []
with_answers {done} {seen} {after} {before} e h = subst (λ x. course.Does done seen after before x None []) e h

-- an action that told its fault, which the runner then enters
pub does_told : (action : Action) (old mid new : Runner) (meets : Option Fault) (made : List Place) →
    course.Does (done_by old action) (store_of mid.store.store) mid.course old.course (answers_by mid) meets made →
    Keeps old mid → mid.meets ≡ old.meets → new ≡ record mid { meets = mid.meets ++ meets ∷ [] } → Does action old new
does_told action old mid new meets made h keeps entered e = subst (Does action old) (sym e) (record {
  state = sym h.its_state;
  lines = h.its_lines;
  meets = (λ i. entered i ++ sym h.its_fault i ∷ []);
  keeps = record { given = keeps.given; volumes = keeps.volumes };
})

-- one that meets none
pub does_cleanly : (action : Action) (old mid new : Runner) →
    course.Does (done_by old action) (store_of mid.store.store) mid.course old.course (answers_by mid) None [] →
    Keeps old mid → mid.meets ≡ old.meets → new ≡ record mid { meets = mid.meets ++ None ∷ [] } → Does action old new
does_cleanly action old mid new h keeps entered e = does_told action old mid new None [] h keeps entered e
