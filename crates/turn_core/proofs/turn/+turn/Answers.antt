use Rattle.std.proofs.Common.{◌≡◌, ◌∷◌, ◌∙◌, None, Some, sym, subst}
use Rattle.jcl_meaning.specs.Programs.{moves_of}
use Rattle.disp_core.specs.Courses.{fixed_by}
use Rattle.disp_core.specs.declared.course.Course.{Course}
use Rattle.turn_core.specs.Ending.{course_ended, ended_at}
use Rattle.turn_core.specs.Passing.{Finds}
use Rattle.turn_core.specs.Places.{action_of, agenda_at}
use Rattle.turn_core.specs.Turning.{Around, Tells}
use Rattle.turn_core.specs.declared.walk.Turned.{Turned}
use Rattle.turn_core.specs.declared.walk.Turned.TheVariants as turned
use Rattle.turn_core.proofs.Turning.{acts_here, below, ends_here, fewer, tells_behind, tells_on, waits_here}
use Rattle.turn_core.proofs.turn.+turn.Goals as goal

pub turn-requires : goal.turn-requires
turn-requires g t c =
    let moves = moves_of c.args.setting.now.programs.now in
    let steps = (g.T.JobText.plan c.args.text.now).steps in
    let before = c.args.walk.now.course in
    let from = agenda_at moves steps c.args.walk.now.todo in
    let found : Finds moves steps before.own c.args.walk.now.todo c.in-Does.task c.in-Does.behind =
    c.in-Does.ensures in
    let a = action_of steps c.in-Does.task in
    let rest = agenda_at moves steps c.in-Does.behind in
    λ κs h. (below _ _ t (fewer found.passes.passed from rest a found.passes.left) c.decreases, (h.0, (h.1, c.requires)))

pub returns-in-Over-clause-ok : goal.returns-in-Over-clause-ok
returns-in-Over-clause-ok g t c = λ count.
    let w : Around = record {
      programs = c.args.setting.now.programs.now;
      steps = (g.T.JobText.plan c.args.text.now).steps;
      fixed = fixed_by c.args.setting.now.given;
      operations = c.args.setting.now.units.now;
      job = c.args.setting.now.job;
      cancel = c.args.setting.now.cancelled;
      grants = record { new = g.S.JobStore.grants_new c.args.setting.now.job c.args.store.now; growth = g.S.JobStore.grants_growth c.args.setting.now.job c.args.store.now };
    } in
    let moves = moves_of c.args.setting.now.programs.now in
    let steps = (g.T.JobText.plan c.args.text.now).steps in
    let seen = g.S.JobStore.seen c.args.setting.now.job c.args.store.now in
    let before = c.args.walk.now.course in
    let from = agenda_at moves steps c.args.walk.now.todo in
    ends_here w from seen before.own count
    c.in-Over.ensures

pub returns-then-must_wait-clause-ok : goal.returns-then-must_wait-clause-ok
returns-then-must_wait-clause-ok g t c =
    let w : Around = record {
      programs = c.args.setting.now.programs.now;
      steps = (g.T.JobText.plan c.args.text.now).steps;
      fixed = fixed_by c.args.setting.now.given;
      operations = c.args.setting.now.units.now;
      job = c.args.setting.now.job;
      cancel = c.args.setting.now.cancelled;
      grants = record { new = g.S.JobStore.grants_new c.args.setting.now.job c.args.store.now; growth = g.S.JobStore.grants_growth c.args.setting.now.job c.args.store.now };
    } in
    let moves = moves_of c.args.setting.now.programs.now in
    let steps = (g.T.JobText.plan c.args.text.now).steps in
    let seen = g.S.JobStore.seen c.args.setting.now.job c.args.store.now in
    let before = c.args.walk.now.course in
    let from = agenda_at moves steps c.args.walk.now.todo in
    let found : Finds moves steps before.own c.args.walk.now.todo c.in-Does.task c.in-Does.behind =
    c.in-Does.ensures in
    let a = action_of steps c.in-Does.task in
    let rest = agenda_at moves steps c.in-Does.behind in
    let goes_on : ended_at a before.own ≡ None = sym (c.in-None.ensures steps) in
    tells_on turned.Waits w from (a ∷ rest) rest seen seen before before found.passes
    (λ count. waits_here w a rest seen before.own count found.acts goes_on (sym c.must_wait.ensures ∙ c.if-must_wait.true))

pub returns-in_ok-acted-in-None-clause-ok : goal.returns-in_ok-acted-in-None-clause-ok
returns-in_ok-acted-in-None-clause-ok g t c =
    let w : Around = record {
      programs = c.args.setting.now.programs.now;
      steps = (g.T.JobText.plan c.args.text.now).steps;
      fixed = fixed_by c.args.setting.now.given;
      operations = c.args.setting.now.units.now;
      job = c.args.setting.now.job;
      cancel = c.args.setting.now.cancelled;
      grants = record { new = g.S.JobStore.grants_new c.args.setting.now.job c.args.store.now; growth = g.S.JobStore.grants_growth c.args.setting.now.job c.args.store.now };
    } in
    let moves = moves_of c.args.setting.now.programs.now in
    let steps = (g.T.JobText.plan c.args.text.now).steps in
    let seen = g.S.JobStore.seen c.args.setting.now.job c.args.store.now in
    let before = c.args.walk.now.course in
    let from = agenda_at moves steps c.args.walk.now.todo in
    let found : Finds moves steps before.own c.args.walk.now.todo c.in-Does.task c.in-Does.behind =
    c.in-Does.ensures in
    let a = action_of steps c.in-Does.task in
    let rest = agenda_at moves steps c.in-Does.behind in
    let goes_on : ended_at a before.own ≡ None = sym (c.in-None.ensures steps) in
    let new = g.S.JobStore.seen c.args.setting.now.job c.perform.new.store in
    let after = c.perform.new.course in
    let told = c.in_ok-acted-in-None.acted in
    tells_on (turned.Acts told) w from (a ∷ rest) rest seen new before after found.passes
    (λ count. acts_here w a rest seen new before after count told found.acts goes_on (sym c.must_wait.ensures ∙ c.if-must_wait.false) c.in_ok-acted-in-None.ensures.ok)

pub returns-in-Ok-Acts-clause-ok : goal.returns-in-Ok-Acts-clause-ok
returns-in-Ok-Acts-clause-ok g t c =
    let w : Around = record {
      programs = c.args.setting.now.programs.now;
      steps = (g.T.JobText.plan c.args.text.now).steps;
      fixed = fixed_by c.args.setting.now.given;
      operations = c.args.setting.now.units.now;
      job = c.args.setting.now.job;
      cancel = c.args.setting.now.cancelled;
      grants = record { new = g.S.JobStore.grants_new c.args.setting.now.job c.args.store.now; growth = g.S.JobStore.grants_growth c.args.setting.now.job c.args.store.now };
    } in
    let moves = moves_of c.args.setting.now.programs.now in
    let steps = (g.T.JobText.plan c.args.text.now).steps in
    let seen = g.S.JobStore.seen c.args.setting.now.job c.args.store.now in
    let before = c.args.walk.now.course in
    let from = agenda_at moves steps c.args.walk.now.todo in
    let found : Finds moves steps before.own c.args.walk.now.todo c.in-Does.task c.in-Does.behind =
    c.in-Does.ensures in
    let a = action_of steps c.in-Does.task in
    let rest = agenda_at moves steps c.in-Does.behind in
    let ended : ended_at a before.own ≡ Some c.in-Some.n = sym (c.in-Some.ensures steps) in
    let new = g.S.JobStore.seen c.args.setting.now.job c.turn.new.store in
    let after = c.turn.new.walk.course in
    let behind = agenda_at moves steps c.turn.new.walk.todo in
    let told = c.in-Ok-Acts.field-0 in
    let inner : Tells w rest seen (course_ended c.in-Some.n before) new after behind told =
    subst (λ (m : Course). Tells w rest seen m new after behind told) c.in_ok-end_step-in-Some.ensures.ok c.in-Ok-Acts.ensures.ok in
    subst (λ (x : Turned). Tells w from seen before new after behind x) c.in-Ok-Acts.field-0-is
    (tells_on told w from (a ∷ rest) behind seen new before after found.passes (tells_behind told w a rest behind seen new before after c.in-Some.n found.acts ended inner))

pub returns-in-Ok-Waits-clause-ok : goal.returns-in-Ok-Waits-clause-ok
returns-in-Ok-Waits-clause-ok g t c =
    let w : Around = record {
      programs = c.args.setting.now.programs.now;
      steps = (g.T.JobText.plan c.args.text.now).steps;
      fixed = fixed_by c.args.setting.now.given;
      operations = c.args.setting.now.units.now;
      job = c.args.setting.now.job;
      cancel = c.args.setting.now.cancelled;
      grants = record { new = g.S.JobStore.grants_new c.args.setting.now.job c.args.store.now; growth = g.S.JobStore.grants_growth c.args.setting.now.job c.args.store.now };
    } in
    let moves = moves_of c.args.setting.now.programs.now in
    let steps = (g.T.JobText.plan c.args.text.now).steps in
    let seen = g.S.JobStore.seen c.args.setting.now.job c.args.store.now in
    let before = c.args.walk.now.course in
    let from = agenda_at moves steps c.args.walk.now.todo in
    let found : Finds moves steps before.own c.args.walk.now.todo c.in-Does.task c.in-Does.behind =
    c.in-Does.ensures in
    let a = action_of steps c.in-Does.task in
    let rest = agenda_at moves steps c.in-Does.behind in
    let ended : ended_at a before.own ≡ Some c.in-Some.n = sym (c.in-Some.ensures steps) in
    let new = g.S.JobStore.seen c.args.setting.now.job c.turn.new.store in
    let after = c.turn.new.walk.course in
    let behind = agenda_at moves steps c.turn.new.walk.todo in
    let told = c.in-Ok-Waits.field-0 in
    let inner : Tells w rest seen (course_ended c.in-Some.n before) new after behind told =
    subst (λ (m : Course). Tells w rest seen m new after behind told) c.in_ok-end_step-in-Some.ensures.ok c.in-Ok-Waits.ensures.ok in
    subst (λ (x : Turned). Tells w from seen before new after behind x) c.in-Ok-Waits.field-0-is
    (tells_on told w from (a ∷ rest) behind seen new before after found.passes (tells_behind told w a rest behind seen new before after c.in-Some.n found.acts ended inner))

pub returns-in-Ok-Ends-clause-ok : goal.returns-in-Ok-Ends-clause-ok
returns-in-Ok-Ends-clause-ok g t c =
    let w : Around = record {
      programs = c.args.setting.now.programs.now;
      steps = (g.T.JobText.plan c.args.text.now).steps;
      fixed = fixed_by c.args.setting.now.given;
      operations = c.args.setting.now.units.now;
      job = c.args.setting.now.job;
      cancel = c.args.setting.now.cancelled;
      grants = record { new = g.S.JobStore.grants_new c.args.setting.now.job c.args.store.now; growth = g.S.JobStore.grants_growth c.args.setting.now.job c.args.store.now };
    } in
    let moves = moves_of c.args.setting.now.programs.now in
    let steps = (g.T.JobText.plan c.args.text.now).steps in
    let seen = g.S.JobStore.seen c.args.setting.now.job c.args.store.now in
    let before = c.args.walk.now.course in
    let from = agenda_at moves steps c.args.walk.now.todo in
    let found : Finds moves steps before.own c.args.walk.now.todo c.in-Does.task c.in-Does.behind =
    c.in-Does.ensures in
    let a = action_of steps c.in-Does.task in
    let rest = agenda_at moves steps c.in-Does.behind in
    let ended : ended_at a before.own ≡ Some c.in-Some.n = sym (c.in-Some.ensures steps) in
    let new = g.S.JobStore.seen c.args.setting.now.job c.turn.new.store in
    let after = c.turn.new.walk.course in
    let behind = agenda_at moves steps c.turn.new.walk.todo in
    let told = c.in-Ok-Ends.field-0 in
    let inner : Tells w rest seen (course_ended c.in-Some.n before) new after behind told =
    subst (λ (m : Course). Tells w rest seen m new after behind told) c.in_ok-end_step-in-Some.ensures.ok c.in-Ok-Ends.ensures.ok in
    subst (λ (x : Turned). Tells w from seen before new after behind x) c.in-Ok-Ends.field-0-is
    (tells_on told w from (a ∷ rest) behind seen new before after found.passes (tells_behind told w a rest behind seen new before after c.in-Some.n found.acts ended inner))
