use Rattle.ir_trees.proofs.ListEdited.{put_before, put_after, put_first, put_last}
use Rattle.ir_trees.proofs.list_laws.know_put.Goals as goal

pub returns-clause-before : goal.returns-clause-before
returns-clause-before g c = put_before c.args.old.now (record {
  operations_once = c.know_lists.ensures.operations_once;
  blocks_once = c.know_lists.ensures.blocks_once;
  regions_once = c.know_lists.ensures.regions_once;
  operations = c.know_lists.ensures.operations;
  blocks = c.know_lists.ensures.blocks;
  apart = c.know_lists.ensures.operation_apart;
}) c.args._new.now

pub returns-clause-after : goal.returns-clause-after
returns-clause-after g c = put_after c.args.old.now (record {
  operations_once = c.know_lists.ensures.operations_once;
  blocks_once = c.know_lists.ensures.blocks_once;
  regions_once = c.know_lists.ensures.regions_once;
  operations = c.know_lists.ensures.operations;
  blocks = c.know_lists.ensures.blocks;
  apart = c.know_lists.ensures.operation_apart;
}) c.args._new.now

pub returns-clause-first : goal.returns-clause-first
returns-clause-first g c = put_first c.args.old.now (record {
  operations_once = c.know_lists.ensures.operations_once;
  blocks_once = c.know_lists.ensures.blocks_once;
  regions_once = c.know_lists.ensures.regions_once;
  operations = c.know_lists.ensures.operations;
  blocks = c.know_lists.ensures.blocks;
  apart = c.know_lists.ensures.operation_apart;
}) c.args._new.now

pub returns-clause-last : goal.returns-clause-last
returns-clause-last g c = put_last c.args.old.now (record {
  operations_once = c.know_lists.ensures.operations_once;
  blocks_once = c.know_lists.ensures.blocks_once;
  regions_once = c.know_lists.ensures.regions_once;
  operations = c.know_lists.ensures.operations;
  blocks = c.know_lists.ensures.blocks;
  apart = c.know_lists.ensures.operation_apart;
}) c.args._new.now
