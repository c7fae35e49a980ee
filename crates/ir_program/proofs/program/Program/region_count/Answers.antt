use Rattle.std.proofs.Common.{◌<◌, ◌^◌, length, inl, arith}
use Rattle.ir_program.specs.Lists.{regions_in}
use Rattle.ir_program.proofs.lists.InOperations.{regions_fit}
use Rattle.ir_program.proofs.program.Program.region_count.Goals as goal

pub count-requires-clause-fits : goal.count-requires-clause-fits
count-requires-clause-fits g c =
    let short : length (regions_in c.args.self.now c.args.op) < 2 ^ 64 = regions_fit _ c.args.self.now c.self.view_is c.know_listed.ensures c.know_short.ensures c.args.op c.requires in
    inl (rw c.regions.ensures.list (omega (arith, short)))
