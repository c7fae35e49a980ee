use Rattle.std.proofs.Common.{◌≡◌, ◌∷◌, ◌++◌, ◌∙◌, subst}
use Rattle.ir_walks.specs.Levels.{members}
use Rattle.ir_walks.proofs.Holders.{operation_next, block_next, region_next}
use Rattle.ir_walks.proofs.turns.next_beside.Goals as goal

pub returns-in-Operation : goal.returns-in-Operation
returns-in-Operation g c = λ holder before after h. c.operation_node.ensures ∙ operation_next c.args.program.now c.args.config.now c.in-Operation.op c.operation_beside.result c.operation_beside.ensures holder before after
    (subst (λ n. members c.args.program.now c.args.config.now holder ≡ before ++ n ∷ after) c.in-Operation.is h)

pub returns-in-Region : goal.returns-in-Region
returns-in-Region g c = λ holder before after h. c.region_node.ensures ∙ region_next c.args.program.now c.args.config.now c.in-Region.region c.region_beside.result c.region_beside.ensures holder before after
    (subst (λ n. members c.args.program.now c.args.config.now holder ≡ before ++ n ∷ after) c.in-Region.is h)

pub returns-in-BasicBlock : goal.returns-in-BasicBlock
returns-in-BasicBlock g c = λ holder before after h. c.block_node.ensures ∙ block_next c.args.program.now c.args.config.now c.in-BasicBlock.block c.block_beside.result c.block_beside.ensures holder before after
    (subst (λ n. members c.args.program.now c.args.config.now holder ≡ before ++ n ∷ after) c.in-BasicBlock.is h)
