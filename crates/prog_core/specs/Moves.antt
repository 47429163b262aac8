-- Requests that move a record. (This profile)
use Rattle.std.specs.Prelude.{Bool, true, false, Option, Some, None}
use Rattle.jcl_plan.specs.declared.outcome.Abend.TheVariants as abend
use Rattle.jcl_plan.specs.declared.outcome.Outcome.{Outcome}
use Rattle.jcl_plan.specs.declared.outcome.Outcome.TheVariants as outcome
use Rattle.jcl_meaning.specs.declared.program.Move.{Move}
use Rattle.jcl_meaning.specs.declared.program.Move.TheVariants.{From, To}
use Rattle.jcl_meaning.specs.declared.program.Request.{Request}
use Rattle.jcl_meaning.specs.declared.program.Request.TheVariants.{Get, Put, End, Abend}

-- whether there is a request that moves a record
abbrev pub is_move : Option Request → Bool
is_move None = false
is_move (Some (Get dd)) = true
is_move (Some (Put dd text)) = true
is_move (Some (End code)) = false
is_move (Some (Abend code)) = false

-- how a program ends whose moves are before this request; without one, with code 0
abbrev pub ending_by : Option Request → Outcome
ending_by None = outcome.Code 0
ending_by (Some (Get dd)) = outcome.Code 0
ending_by (Some (Put dd text)) = outcome.Code 0
ending_by (Some (End code)) = outcome.Code code
ending_by (Some (Abend code)) = outcome.Abend (abend.User code)

-- the move that a request asks for; an end is none
abbrev pub move_by : Request → Option Move
move_by (Get dd) = Some (From dd)
move_by (Put dd text) = Some (To dd text)
move_by (End code) = None
move_by (Abend code) = None
