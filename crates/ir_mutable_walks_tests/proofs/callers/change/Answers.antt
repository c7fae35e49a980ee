use Rattle.std.proofs.Common.{sym, subst}
use Rattle.ir_program.specs.Lists.{IsLiveNode}
use Rattle.ir_mutable_walks.specs.Changes.{ReshapesBelow}
use Rattle.ir_mutable_walks_tests.proofs.Edits.{unchanged}
use Rattle.ir_mutable_walks_tests.proofs.callers.change.Goals as goal

pub returns-in-BasicBlock : goal.returns-in-BasicBlock
returns-in-BasicBlock c = subst (λ n. IsLiveNode c.args.program.now n → ReshapesBelow c.args.program.now c.change_if_there.new.program n) (sym c.in-BasicBlock.is) c.change_if_there.ensures

pub returns-in_default : goal.returns-in_default
returns-in_default c = λ h. unchanged c.args.program.now c.args.node h
