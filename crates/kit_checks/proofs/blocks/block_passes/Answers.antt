use Rattle.std.proofs.Common.{◌↔◌, IsTrue, sym, subst}
use Rattle.kit_checks.specs.Passing.{BlockPasses}
use Rattle.kit_checks.specs.World.{world_of}
use Rattle.kit_checks.proofs.blocks.block_passes.Goals as goal

pub returns-in-Values : goal.returns-in-Values
returns-in-Values c b at = subst (λ t. IsTrue c.arguments_pass.result ↔ BlockPasses (world_of c.args.ctx.now) t b) (sym c.in-Values.is) (c.arguments_pass.ensures b at)

pub returns-in-Known : goal.returns-in-Known
returns-in-Known c b at =
    subst (λ t. IsTrue c.has_common_attributes.result ↔ BlockPasses (world_of c.args.ctx.now) t b) (sym c.in-Known.is) (c.has_common_attributes.ensures b at)
