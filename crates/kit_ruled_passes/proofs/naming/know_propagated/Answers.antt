use Rattle.std.proofs.Common.{subst}
use Rattle.kit.specs.Context.{KitProgram}
use Rattle.opt_inside.proofs.Around.{HasLists}
use Rattle.opt_inside.proofs.Values.{defined}
use Rattle.kit_ruled_passes.proofs.LiveValues.{KnowsValues}
use Rattle.kit_ruled_passes.proofs.PutNames.{is_named}
use Rattle.kit_ruled_passes.proofs.naming.know_propagated.Goals as goal

pub returns : goal.returns
returns c =
    let old = c.args.ctx.now.program in
    let root = c.args.root in
    let v = c.know_values.ensures in
    let program = c.program-program.ensures in
    let knows : KnowsValues old = subst (λ (p : KitProgram). KnowsValues p) program
    (record { definer = v.definer; stands = v.stands; used = v.used }) in
    let lists : HasLists old = subst (λ (p : KitProgram). HasLists p) program
    (record {
      operations_once = c.know_lists.ensures.operations_once;
      blocks_once = c.know_lists.ensures.blocks_once;
      regions_once = c.know_lists.ensures.regions_once;
      operations = c.know_lists.ensures.operations;
      blocks = c.know_lists.ensures.blocks;
      regions = c.know_lists.ensures.regions;
      operation_apart = c.know_lists.ensures.operation_apart;
      block_apart = c.know_lists.ensures.block_apart;
    }) in
    λ new answer propagated t stands. is_named old new root knows answer t
    (λ x has. c.requires.contained x ((defined old lists root t stands x).0 has)) stands (propagated t stands)
