-- An action that does nothing.
use Rattle.std.proofs.Common.{[], None, refl, sym}
use Rattle.std.proofs.lemmas.List.{append-nil}
use Rattle.jcl_meaning.specs.States.{silent}
use Rattle.jcl_meaning.specs.Stores.{Store}
use Rattle.disp_core.specs.Courses.{Carried}
use Rattle.disp_core.specs.declared.course.Course.{Course}

-- nothing is done and nothing written
pub carried_silently : (seen : Store) (course : Course) → Carried (λ s. silent s) seen course seen course None []
carried_silently seen course answers = record { its_state = refl; its_lines = sym (append-nil course.lines); its_fault = refl; its_made = refl }
