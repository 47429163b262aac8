-- The laws of paths that the analysis rests on, together.
use Rattle.path_laws.specs.Paths.{AgendaHas, AreFew, FitsBefore, MadeByStep, NoneMadeAtEnd, PathBegins, PathEnds, PathGoesOn, PathSees, StandsBefore}
use Rattle.path_laws.specs.Paths.{TellsFates}

pub record PathLaws : Type 0 where
  pub goes_on : PathGoesOn
  pub ends : PathEnds
  pub begins : PathBegins
  pub agenda : AgendaHas
  pub stands : StandsBefore
  pub fits : FitsBefore
  pub fates : TellsFates
  pub sees : PathSees
  pub few : AreFew
  pub made : MadeByStep
  pub none_made : NoneMadeAtEnd
