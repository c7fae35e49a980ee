use Rattle.std.proofs.Common.{◌≡◌, ℕ, ◌<◌, Some, length, slice_get}
use Rattle.ir_program.specs.Lists.{regions_in, blocks_in}
use Rattle.ir_program.specs.declared.handles.Ptr.{Ptr}
use Rattle.ir_program.specs.declared.handles.Region.{Region}
use Rattle.op_ifaces.proofs.single_blocks.SingleBlockRegionInterface.verify.Given as goal

-- those that were seen have one block
abbrev pub invariant-loop-i : goal.invariant-loop-i
invariant-loop-i g l = (k : ℕ) (r : Ptr Region) → k < l.i → slice_get (regions_in l.ctx.program l.op) k ≡ Some r → length (blocks_in l.ctx.program r) ≡ 1
