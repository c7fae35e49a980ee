use Rattle.std.proofs.Common.{◌≡◌, ◌++◌}
use Rattle.ir_program.specs.Lists.{blocks_in}
use Rattle.kit_interpreter.proofs.numbering.number_blocks.Given as goal

abbrev pub invariant-loop-block : goal.invariant-loop-block
invariant-loop-block g l = record {
  listed : l.yielded ++ l.block-iterator ≡ blocks_in l.program l.fn.region;
  keys : l.blocks.keys ≡ l.yielded;
}
