use Rattle.ir_trees.proofs.ListEdited.{block_taken_out}
use Rattle.ir_trees.proofs.list_laws.know_block_taken_out.Goals as goal

pub returns : goal.returns
returns g c = block_taken_out c.args.old.now (record {
  operations_once = c.know_lists.ensures.operations_once;
  blocks_once = c.know_lists.ensures.blocks_once;
  regions_once = c.know_lists.ensures.regions_once;
  operations = c.know_lists.ensures.operations;
  blocks = c.know_lists.ensures.blocks;
  apart = c.know_lists.ensures.operation_apart;
}) c.args._new.now
