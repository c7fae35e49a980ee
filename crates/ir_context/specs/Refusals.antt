-- Which refusals there are.
use Rattle.std.specs.Prelude.{ℕ}
use Rattle.ir_base.specs.declared.growth.GrowError.{GrowError}
use Rattle.ir_base.specs.declared.growth.GrowError.TheVariants as growth
use Rattle.ir_context.specs.declared.errors.ValueError.{ValueError}
use Rattle.ir_context.specs.declared.errors.ValueError.TheVariants as value
use Rattle.ir_context.specs.declared.errors.CoreError.{CoreError}
use Rattle.ir_context.specs.declared.errors.CoreError.TheVariants.{Memory, CounterFull, DanglingPtrDeref, TypedHandle, TypeInterfaceHandle, AttrInterfaceCast, NotInOpResult, NotInBlockArgument, OperandNotUseOfDef, MissingTerminator, TerminatorNotLast, NoParent, InvalidIdentifier, EditNotAllowed}

-- the number of a refusal
abbrev pub refusal_number : CoreError → ℕ
refusal_number Memory = 1
refusal_number CounterFull = 2
refusal_number DanglingPtrDeref = 3
refusal_number TypedHandle = 4
refusal_number TypeInterfaceHandle = 5
refusal_number AttrInterfaceCast = 6
refusal_number NotInOpResult = 7
refusal_number NotInBlockArgument = 8
refusal_number OperandNotUseOfDef = 9
refusal_number MissingTerminator = 10
refusal_number TerminatorNotLast = 11
refusal_number NoParent = 12
refusal_number InvalidIdentifier = 13
refusal_number EditNotAllowed = 14

-- the refusal that stands for a failure to grow
abbrev pub refusal_of_growth : GrowError → CoreError
refusal_of_growth growth.Memory = Memory
refusal_of_growth growth.CounterFull = CounterFull

-- the refusal of a value that does not stand at its definer
abbrev pub refusal_of_value : ValueError → CoreError
refusal_of_value value.NotInOpResult = NotInOpResult
refusal_of_value value.NotInBlockArgument = NotInBlockArgument
