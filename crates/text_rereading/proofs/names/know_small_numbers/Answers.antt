use Rattle.std.proofs.Common.{subst}
use Rattle.ir_program.specs.Program.{Program}
use Rattle.text_rereading.specs.Numbers.{HasSmallNodes}
use Rattle.text_rereading.proofs.KnownPlaces.{KeepsLists}
use Rattle.text_rereading.proofs.SmallNumbers.{small_inside}
use Rattle.text_rereading.proofs.names.know_small_numbers.Goals as goal

pub returns : goal.returns
returns g c =
    let told = c.know_lists.ensures in
    let lists : KeepsLists c.program-program.result.now = record {
      operations_once = told.operations_once;
      blocks_once = told.blocks_once;
      regions_once = told.regions_once;
      operations = told.operations;
      blocks = told.blocks;
      regions = told.regions;
      operation_apart = told.operation_apart;
      block_apart = told.block_apart;
      region_apart = told.region_apart;
    } in
    small_inside c.args.ctx.now c.args.root (subst KeepsLists c.program-program.ensures lists)
    (subst (λ (p : Program _ _). HasSmallNodes p c.args.root) c.program-program.ensures c.know_nodes.ensures)
