use Rattle.std.proofs.Common.{subst, sym}
use Rattle.ir_program.specs.Lists.{StandsInOperation}
use Rattle.ir_program.specs.declared.handles.Ptr.{Ptr}
use Rattle.ir_program.specs.declared.handles.Operation.{Operation}
use Rattle.ir_program.proofs.lists.InOperations.{parent_op_stands, only_parent_op}
use Rattle.ir_program.proofs.program.Program.parent_operation.Goals as goal

pub returns-clause-stands : goal.returns-clause-stands
returns-clause-stands g c = subst (λ (p : Ptr Operation). StandsInOperation c.args.self.now c.args.region p) (sym c.operation_in.ensures) (parent_op_stands _ c.args.self.now c.self.view_is c.know_listed.ensures c.args.region c.requires c.in-Some.slot c.in-Some.ensures.linked)

pub returns-clause-only : goal.returns-clause-only
returns-clause-only g c op s = only_parent_op _ c.args.self.now c.self.view_is c.know_listed.ensures c.args.region c.requires c.operation_in.result op (returns-clause-stands g c) s
