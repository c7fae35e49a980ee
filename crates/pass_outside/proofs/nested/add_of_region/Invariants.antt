use Rattle.std.proofs.Common.{◌≡◌, ◌++◌, flat_map}
use Rattle.ir_program.specs.Lists.{operations_in, blocks_in}
use Rattle.pass_outside.proofs.nested.add_of_region.Given as goal

-- the operations of the blocks that were gone past are behind what was there
abbrev pub invariant-loop-block : goal.invariant-loop-block
invariant-loop-block g l = record {
  listed : l.yielded ++ l.block-iterator ≡ blocks_in l.program l.fn.region;
  row : l.nested.items ≡ l.fn.nested.items ++ flat_map (operations_in l.program) l.yielded;
}
