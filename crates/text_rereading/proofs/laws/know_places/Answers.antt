use Rattle.std.proofs.Common.{subst}
use Rattle.text_rereading.proofs.KnownPlaces.{KeepsLists, KeepsDefiners, own_places}
use Rattle.text_rereading.proofs.laws.know_places.Goals as goal

pub returns : goal.returns
returns g c =
    let told = c.know_lists.ensures in
    let values = c.know_values.ensures in
    let lists : KeepsLists c.program-program.result.now = record {
      operations_once = told.operations_once;
      blocks_once = told.blocks_once;
      regions_once = told.regions_once;
      operations = told.operations;
      blocks = told.blocks;
      regions = told.regions;
      operation_apart = told.operation_apart;
      block_apart = told.block_apart;
      region_apart = told.region_apart;
    } in
    let definers : KeepsDefiners c.program-program.result.now =
    record { definer = values.definer; typed = values.typed; stands = values.stands; own = values.own } in
    own_places c.args.ctx.now (subst KeepsLists c.program-program.ensures lists)
    (subst KeepsDefiners c.program-program.ensures definers)
