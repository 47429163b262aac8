use Rattle.path_laws.proofs.Paths.{clean_by_programs}
use Rattle.path_laws.proofs.clean_by_programs.Goals as goal

pub returns : goal.returns
returns c = clean_by_programs
