use Rattle.std.proofs.Common.{◌≡◌, ℕ, Some, slice_get, subst}
use Rattle.ir_program.specs.Lists.{operations_in, StandsInBlock}
use Rattle.ir_program.specs.declared.handles.BasicBlock.{BasicBlock}
use Rattle.ir_program.specs.declared.handles.Operation.{Operation}
use Rattle.ir_program.specs.declared.handles.Ptr.{Ptr}
use Rattle.kit.specs.Context.{KitProgram}
use Rattle.kit_interpreter.proofs.Tables.{function_table}
use Rattle.kit_interpreter.proofs.functions.functions_of.Goals as goal

pub returns-clause-table : goal.returns-clause-table
returns-clause-table c = function_table c.args.ctx.now.program c.args.outer c.in_ok-handles.handles.keys
    c.in_ok-tables.tables.tables.entries
    (subst (λ (p : KitProgram). (b : Ptr BasicBlock) (k : ℕ) (q : Ptr Operation)
    → slice_get (operations_in p b) k ≡ Some q → StandsInBlock p q b) c.program.ensures c.know_lists.ensures.operations)
    c.in_ok-handles.ensures c.in_ok-tables.ensures
