use Rattle.kit_checks.specs.World.{world_of}
use Rattle.kit_checks.specs.Passing.{TypePasses}
use Rattle.std.proofs.Common.{◌↔◌, IsTrue, sym, subst}
use Rattle.kit_checks.proofs.types.type_passes.Goals as goal

pub returns-in-Value : goal.returns-in-Value
returns-in-Value c = subst (λ t. IsTrue c.is_value_type.result ↔ TypePasses (world_of c.args.ctx.now) t c.args.ty) (sym c.in-Value.is) c.is_value_type.ensures

pub returns-in-Bit : goal.returns-in-Bit
returns-in-Bit c = subst (λ t. IsTrue c.is_bit.result ↔ TypePasses (world_of c.args.ctx.now) t c.args.ty) (sym c.in-Bit.is) c.is_bit.ensures
