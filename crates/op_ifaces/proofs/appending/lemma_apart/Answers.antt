use Rattle.std.proofs.Common.{refl, subst}
use Rattle.ir_program.specs.Lists.{StandOnce, blocks_in, regions_in}
use Rattle.ir_program.specs.declared.handles.IRNode.TheVariants.{BasicBlock as BlockNode}
use Rattle.op_ifaces.proofs.AroundBodies.{around_body}
use Rattle.op_ifaces.proofs.appending.lemma_apart.Goals as goal

pub returns : goal.returns
returns g c = λ stands. c.requires.apart (around_body c.args.ctx.now.program c.args.outer c.args.op blocks regions c.args.region c.args.body c.requires.region c.requires.body (BlockNode c.args.body) refl stands)
  where
    blocks : StandOnce (blocks_in c.args.ctx.now.program)
    blocks = subst (λ p. StandOnce (blocks_in p)) c.program.ensures c.know_lists.ensures.blocks_once

    regions : StandOnce (regions_in c.args.ctx.now.program)
    regions = subst (λ p. StandOnce (regions_in p)) c.program.ensures c.know_lists.ensures.regions_once
