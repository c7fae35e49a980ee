use Rattle.std.proofs.Common.{◌≡◌, ◌++◌}
use Rattle.ir_program.specs.Lists.{operations_in}
use Rattle.kit_interpreter.specs.Lowering.{AreNamedFunctions}
use Rattle.kit_interpreter.proofs.functions.functions_in.Given as goal

abbrev pub invariant-loop-op : goal.invariant-loop-op
invariant-loop-op l = record {
  listed : l.yielded ++ l.op-iterator ≡ operations_in l.ctx.program l.fn.block;
  functions : AreNamedFunctions l.ctx.program l.yielded l.handles.keys;
}
