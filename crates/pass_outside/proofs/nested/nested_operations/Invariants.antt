use Rattle.std.proofs.Common.{◌≡◌, ◌++◌, flat_map}
use Rattle.ir_program.specs.Lists.{regions_in}
use Rattle.pass_outside.specs.Nested.{operations_of_region}
use Rattle.pass_outside.proofs.nested.nested_operations.Given as goal

-- the operations of the regions that were gone past are there
abbrev pub invariant-loop-region : goal.invariant-loop-region
invariant-loop-region g l = record {
  listed : l.yielded ++ l.region-iterator ≡ regions_in l.program l.fn.op;
  row : l.nested.items ≡ flat_map (operations_of_region l.program) l.yielded;
}
