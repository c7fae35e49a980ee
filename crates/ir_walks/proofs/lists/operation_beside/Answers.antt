use Rattle.std.proofs.Common.{◌≡◌, ◌∷◌, ◌++◌, subst}
use Rattle.ir_program.specs.Lists.{operations_in}
use Rattle.ir_walks.specs.Levels.{directed}
use Rattle.ir_walks.proofs.Sequences.{after_forward, after_reverse}
use Rattle.ir_walks.proofs.lists.operation_beside.Goals as goal

pub returns-in-Forward : goal.returns-in-Forward
returns-in-Forward g c = λ block before after h. after_forward (operations_in c.args.program.now block) before c.args.op after c.next_operation.result (c.next_operation.ensures.next block)
    (subst (λ way. directed way (operations_in c.args.program.now block) ≡ before ++ c.args.op ∷ after) c.in-Forward.is h)

pub returns-in-Reverse : goal.returns-in-Reverse
returns-in-Reverse g c = λ block before after h. after_reverse (operations_in c.args.program.now block) before c.args.op after c.previous_operation.result (c.previous_operation.ensures.previous block) (c.previous_operation.ensures.first block)
    (subst (λ way. directed way (operations_in c.args.program.now block) ≡ before ++ c.args.op ∷ after) c.in-Reverse.is h)
