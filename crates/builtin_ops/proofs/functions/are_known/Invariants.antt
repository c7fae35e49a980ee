use Rattle.std.proofs.Common.{◌≡◌, ℕ, ◌<◌, Some, slice_get}
use Rattle.ir_base.specs.declared.types.TypeHandle.{TypeHandle}
use Rattle.ir_context.specs.Known.{IsKnownIn}
use Rattle.builtin_ops.proofs.functions.are_known.Given as goal

abbrev pub invariant-loop-ty : goal.invariant-loop-ty
invariant-loop-ty g l = (j : ℕ) (ty : TypeHandle) → j < l.ty-index → slice_get l.types j ≡ Some ty → IsKnownIn (g.T.TypeTable.type_count l.ctx.types) ty
