use Rattle.ir_trees.proofs.Renamed.{blocks_renamed, values_renamed, heads_renamed, labels_renamed, operation_names_renamed, block_names_renamed}
use Rattle.ir_trees.proofs.renaming_laws.know_search_renamed.Goals as goal

pub returns-clause-operations : goal.returns-clause-operations
returns-clause-operations g c m t = heads_renamed m t

pub returns-clause-blocks : goal.returns-clause-blocks
returns-clause-blocks g c m t = labels_renamed m t

pub returns-clause-operation_names : goal.returns-clause-operation_names
returns-clause-operation_names g c m t = operation_names_renamed m t

pub returns-clause-block_names : goal.returns-clause-block_names
returns-clause-block_names g c m t = block_names_renamed m t

pub returns-clause-all_blocks : goal.returns-clause-all_blocks
returns-clause-all_blocks g c m t = blocks_renamed m t

pub returns-clause-all_values : goal.returns-clause-all_values
returns-clause-all_values g c m t = values_renamed m t
