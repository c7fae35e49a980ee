use Rattle.std.proofs.Common.{◌≡◌, Some, None, length, slice_get, rules, tests}
use Rattle.ir_program.specs.Lists.{regions_in, blocks_in}
use Rattle.ir_symbols.proofs.Lists.{sole, first_alone}
use Rattle.ir_symbols.proofs.bodies.body_of.Goals as goal

pub returns-clause-body : goal.returns-clause-body
returns-clause-body g c =
    let one : length (regions_in c.args.program.now c.args.op) ≡ 1 = search (rules, tests) in
    let here : slice_get (regions_in c.args.program.now c.args.op) 0 ≡ Some c.in_ok-region.region = search (rules, tests) in
    let first : slice_get (blocks_in c.args.program.now c.in_ok-region.region) 0 ≡ Some c.in_ok-block.block = search (rules, tests) in
    let none : c.next_block.result ≡ None = search (rules, tests) in
    let alone : slice_get (blocks_in c.args.program.now c.in_ok-region.region) 1 ≡ None = search (rules, tests) in
    record { region = c.in_ok-region.region; one_region = sole _ _ one here; one_block = first_alone _ _ first alone }
