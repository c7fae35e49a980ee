use Rattle.ir_trees.proofs.ListErased.{operation_erased, block_erased}
use Rattle.ir_trees.proofs.list_laws.know_erased.Goals as goal

pub returns-clause-operation : goal.returns-clause-operation
returns-clause-operation g c = operation_erased c.args.old.now (record {
  operations_once = c.know_lists.ensures.operations_once;
  blocks_once = c.know_lists.ensures.blocks_once;
  regions_once = c.know_lists.ensures.regions_once;
  operations = c.know_lists.ensures.operations;
  blocks = c.know_lists.ensures.blocks;
  apart = c.know_lists.ensures.operation_apart;
}) c.args._new.now

pub returns-clause-block : goal.returns-clause-block
returns-clause-block g c = block_erased c.args.old.now (record {
  operations_once = c.know_lists.ensures.operations_once;
  blocks_once = c.know_lists.ensures.blocks_once;
  regions_once = c.know_lists.ensures.regions_once;
  operations = c.know_lists.ensures.operations;
  blocks = c.know_lists.ensures.blocks;
  apart = c.know_lists.ensures.operation_apart;
}) c.args._new.now
