use Rattle.std.proofs.Common.{◌≡◌, ◌++◌}
use Rattle.ir_program.specs.Lists.{operations_in}
use Rattle.pass_outside.proofs.nested.add_of_block.Given as goal

-- those that were gone past are behind what was there
abbrev pub invariant-loop-op : goal.invariant-loop-op
invariant-loop-op g l = record {
  listed : l.yielded ++ l.op-iterator ≡ operations_in l.program l.fn.block;
  row : l.nested.items ≡ l.fn.nested.items ++ l.yielded;
}
