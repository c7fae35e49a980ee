use Rattle.ir_program.specs.Made.{AddsRegionCount}
use Rattle.ir_program.proofs.program.Program.add_regions.Given as goal

abbrev pub invariant-loop-made : goal.invariant-loop-made
invariant-loop-made g l = AddsRegionCount l.fn.self l.self l.op l._made
