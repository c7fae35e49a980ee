use Rattle.ir_trees.proofs.ListEdited.{taken_out, taken_stands}
use Rattle.ir_trees.proofs.list_laws.know_taken_out.Goals as goal

pub returns-clause-rest : goal.returns-clause-rest
returns-clause-rest g c = taken_out c.args.old.now (record {
  operations_once = c.know_lists.ensures.operations_once;
  blocks_once = c.know_lists.ensures.blocks_once;
  regions_once = c.know_lists.ensures.regions_once;
  operations = c.know_lists.ensures.operations;
  blocks = c.know_lists.ensures.blocks;
  apart = c.know_lists.ensures.operation_apart;
}) c.args._new.now

pub returns-clause-taken : goal.returns-clause-taken
returns-clause-taken g c = taken_stands c.args.old.now (record {
  operations_once = c.know_lists.ensures.operations_once;
  blocks_once = c.know_lists.ensures.blocks_once;
  regions_once = c.know_lists.ensures.regions_once;
  operations = c.know_lists.ensures.operations;
  blocks = c.know_lists.ensures.blocks;
  apart = c.know_lists.ensures.operation_apart;
}) c.args._new.now
