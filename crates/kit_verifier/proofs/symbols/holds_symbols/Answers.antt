use Rattle.kit_checks.specs.World.{world_of}
use Rattle.kit_verifier.proofs.ModuleBlocks.{symbols_if}
use Rattle.kit_verifier.proofs.symbols.holds_symbols.Goals as goal

pub returns : goal.returns
returns c =
    symbols_if (world_of c.args.ctx.now) c.args.ctx.now.program c.args.block c.is_of_module.result
    c.if-not-is_of_module.false c.is_of_module.ensures c.are_symbols.result c.are_symbols.ensures
