use Rattle.kit_checks.specs.World.{world_of}
use Rattle.kit_verifier.proofs.ModuleBlocks.{of_module, of_none}
use Rattle.kit_verifier.proofs.symbols.is_of_module.Goals as goal

pub returns-in-Some : goal.returns-in-Some
returns-in-Some c =
    of_module (world_of c.args.ctx.now) c.args.ctx.now.program c.args.block c.get_parent_op.result
    c.get_parent_op.ensures.only c.in-Some.owner c.kind_of.result c.is_module.result c.in-Some.is
    c.in-Some.ensures.found c.kind_of.ensures c.is_module.ensures

pub returns-in-None : goal.returns-in-None
returns-in-None c =
    of_none (world_of c.args.ctx.now) c.args.ctx.now.program c.args.block c.get_parent_op.result
    c.get_parent_op.ensures.only c.in-None.is
