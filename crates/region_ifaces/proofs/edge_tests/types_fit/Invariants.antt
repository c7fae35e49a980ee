use Rattle.std.proofs.Common.{◌≡◌, ℕ, ◌<◌, ◌+◌}
use Rattle.ir_program.specs.Program.{type_in}
use Rattle.region_ifaces.specs.RegionEdges.{operand_type, receivers_of}
use Rattle.region_ifaces.proofs.edge_tests.types_fit.Given as goal

-- those that were seen have the types of what is given them
abbrev pub invariant-loop-k : goal.invariant-loop-k
invariant-loop-k g l = (j : ℕ) → j < l.k → operand_type l.ctx.program l.from (l.edge.operands.first + j) ≡ type_in (receivers_of l.ctx.program l.op l.edge.target) (l.edge.receivers.first + j)
