-- Which refusal there is of a value that does not stand at its definer.
use Rattle.ir_program.specs.declared.handles.DefiningEntity.{DefiningEntity}
use Rattle.ir_program.specs.declared.handles.DefiningEntity.TheVariants.{Op, Block}
use Rattle.ir_context.specs.declared.errors.ValueError.{ValueError}
use Rattle.ir_context.specs.declared.errors.ValueError.TheVariants.{NotInOpResult, NotInBlockArgument}

-- the refusal by the definer of the value
abbrev pub refusal_by : DefiningEntity → ValueError
refusal_by (Op p) = NotInOpResult
refusal_by (Block b) = NotInBlockArgument
