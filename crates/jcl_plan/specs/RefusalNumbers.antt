-- The numbers of refusals.
use Rattle.std.specs.Prelude.{ℕ}
use Rattle.jcl_plan.specs.declared.fault.EventFault.{EventFault}
use Rattle.jcl_plan.specs.declared.fault.EventFault.TheVariants.{NoSuchInitiator, NoSuchJob, NoSuchVolume, NothingUnderWay, PastLimit}
use Rattle.jcl_plan.specs.declared.fault.QueueFault.{QueueFault}
use Rattle.jcl_plan.specs.declared.fault.QueueFault.TheVariants.{Full, NotOwner, Selected}
use Rattle.jcl_plan.specs.declared.fault.StatementFault.{StatementFault}
use Rattle.jcl_plan.specs.declared.fault.StatementFault.TheVariants.{NotOneJob, MissingName, UnknownOperation, UnknownKeyword, KeywordTwice, BadValue, ExcludeOneAnother, UnbalancedParentheses, TooManyPositional, NotOneProgram, NoStep, DdBeforeExec, TooManyTests, CardsInProcedure, NothingToContinue, UnknownUnit, SeveralSerials, MemberName, LeftOut, NoSuchProcedure, ProcedureCallsProcedure, MissingPend, OverrideOutOfOrder, NoSuchProcedureStep, TooManyProcedures, SymbolWithoutValue, OperandTooLong, ReferenceToNothing, ForwardReference, TestOfNoEarlierStep, TooManySteps, TooManyDds, TooManyDdNames, TooManyNames}

abbrev pub number_of : StatementFault → ℕ
number_of NotOneJob = 1
number_of MissingName = 2
number_of UnknownOperation = 3
number_of UnknownKeyword = 4
number_of KeywordTwice = 5
number_of BadValue = 6
number_of ExcludeOneAnother = 7
number_of UnbalancedParentheses = 8
number_of TooManyPositional = 9
number_of NotOneProgram = 10
number_of NoStep = 11
number_of DdBeforeExec = 12
number_of TooManyTests = 13
number_of CardsInProcedure = 14
number_of NothingToContinue = 15
number_of UnknownUnit = 16
number_of SeveralSerials = 17
number_of MemberName = 18
number_of LeftOut = 19
number_of NoSuchProcedure = 20
number_of ProcedureCallsProcedure = 21
number_of MissingPend = 22
number_of OverrideOutOfOrder = 23
number_of NoSuchProcedureStep = 24
number_of TooManyProcedures = 25
number_of SymbolWithoutValue = 31
number_of OperandTooLong = 32
number_of ReferenceToNothing = 40
number_of ForwardReference = 41
number_of TestOfNoEarlierStep = 42
number_of TooManySteps = 43
number_of TooManyDds = 44
number_of TooManyDdNames = 45
number_of TooManyNames = 46

abbrev pub queue_number : QueueFault → ℕ
queue_number Full = 1
queue_number NotOwner = 2
queue_number Selected = 3

abbrev pub event_number : EventFault → ℕ
event_number NoSuchInitiator = 1
event_number NoSuchJob = 2
event_number NoSuchVolume = 3
event_number NothingUnderWay = 4
event_number PastLimit = 5
