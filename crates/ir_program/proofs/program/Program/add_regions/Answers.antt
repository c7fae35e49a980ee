use Rattle.std.proofs.Common.{[], refl}
use Rattle.ir_program.proofs.made.RegionSteps.{regions-none, count-next, fewer-came}
use Rattle.ir_program.proofs.program.Program.add_regions.Goals as goal

pub loop-made-init : goal.loop-made-init
loop-made-init g c = ([], refl, regions-none c.args.self.now c.args.op)

pub loop-made-preserved : goal.loop-made-preserved
loop-made-preserved g c = count-next c.args.self.now _ c.add_region.new.self c.args.op c.loop-made._made c.in_ok-add_region.field-0 c.loop-made.invariant c.in_ok-add_region.ensures.made

pub returns-in_err-add_region-clause-err : goal.returns-in_err-add_region-clause-err
returns-in_err-add_region-clause-err g c = fewer-came _ c.args.self.now _ c.add_region.new.self c.args.op c.loop-made._made c.args.count c.loop-made-test.true c.loop-made.invariant c.in_err-add_region.ensures.err
