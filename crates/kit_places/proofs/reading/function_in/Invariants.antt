use Rattle.std.proofs.Common.{◌≡◌, ◌++◌, ◌&&◌}
use Rattle.ir_program.specs.Lists.{operations_in}
use Rattle.ir_context.specs.Kept.{kind_at}
use Rattle.kit_ops.specs.Keys.{symbol_name}
use Rattle.kit_places.specs.Store.{attribute_of, first_with, is_name, is_function}
use Rattle.kit_places.proofs.reading.function_in.Given as goal

abbrev pub invariant-loop-op : goal.invariant-loop-op
invariant-loop-op l = record {
  listed : l.yielded ++ l.op-iterator ≡ operations_in l.ctx.program l.fn.block;
  left : first_with (λ p. is_function (kind_at l.ctx.program p) && is_name l.name
      (attribute_of l.ctx.program p symbol_name)) l.op-iterator
      ≡ first_with (λ p. is_function (kind_at l.ctx.program p) && is_name l.name
      (attribute_of l.ctx.program p symbol_name)) (operations_in l.ctx.program l.fn.block);
}
