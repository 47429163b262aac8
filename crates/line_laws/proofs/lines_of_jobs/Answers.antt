use Rattle.line_laws.proofs.JobLines.{lines_of_jobs}
use Rattle.line_laws.proofs.lines_of_jobs.Goals as goal

pub returns : goal.returns
returns c = lines_of_jobs
