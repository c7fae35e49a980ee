use Rattle.opt_inside.proofs.Around.{HasLists}
use Rattle.opt_inside.proofs.ReachLemmas.Begins.{starts_at_operation, starts_at_block, starts_at_region, starts_nowhere}
use Rattle.opt_inside.proofs.reach.starts.has_start.Goals as goal

pub returns-in-Operation-clause-there : goal.returns-in-Operation-clause-there
returns-in-Operation-clause-there g c = λ h. starts_at_operation c.args.program.now c.args.start c.in-Operation.field-0 c.in-Operation.is

pub returns-in-Block-clause-there : goal.returns-in-Block-clause-there
returns-in-Block-clause-there g c = λ h. starts_at_block c.args.program.now c.args.start c.in-Block.field-0 c.in-Block.is

pub returns-in-Region-clause-there : goal.returns-in-Region-clause-there
returns-in-Region-clause-there g c = λ h. starts_at_region c.args.program.now c.args.start c.in-Region.region c.in-Region.is (c.has_owner.ensures.0 h)

pub returns-in-Region-clause-nowhere : goal.returns-in-Region-clause-nowhere
returns-in-Region-clause-nowhere g c = λ h p is.
    let lists : HasLists c.args.program.now = record {
      operations_once = c.know_lists.ensures.operations_once;
      blocks_once = c.know_lists.ensures.blocks_once;
      regions_once = c.know_lists.ensures.regions_once;
      operations = c.know_lists.ensures.operations;
      blocks = c.know_lists.ensures.blocks;
      regions = c.know_lists.ensures.regions;
      operation_apart = c.know_lists.ensures.operation_apart;
      block_apart = c.know_lists.ensures.block_apart;
    } in
    starts_nowhere c.args.program.now c.args.start lists c.in-Region.region c.in-Region.is (λ q. let t = c.has_owner.ensures.1 q in cc) p is
