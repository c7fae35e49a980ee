use Rattle.std.proofs.Common.{◌≡◌, ◌∷◌, ◌++◌, subst}
use Rattle.ir_program.specs.Lists.{blocks_in}
use Rattle.ir_walks.specs.Levels.{directed}
use Rattle.ir_walks.proofs.Sequences.{after_forward, after_reverse}
use Rattle.ir_walks.proofs.lists.block_beside.Goals as goal

pub returns-in-Forward : goal.returns-in-Forward
returns-in-Forward g c = λ region before after h. after_forward (blocks_in c.args.program.now region) before c.args.block after c.next_block.result (c.next_block.ensures.next region)
    (subst (λ way. directed way (blocks_in c.args.program.now region) ≡ before ++ c.args.block ∷ after) c.in-Forward.is h)

pub returns-in-Reverse : goal.returns-in-Reverse
returns-in-Reverse g c = λ region before after h. after_reverse (blocks_in c.args.program.now region) before c.args.block after c.previous_block.result (c.previous_block.ensures.previous region) (c.previous_block.ensures.first region)
    (subst (λ way. directed way (blocks_in c.args.program.now region) ≡ before ++ c.args.block ∷ after) c.in-Reverse.is h)
