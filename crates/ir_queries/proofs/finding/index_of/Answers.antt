use Rattle.std.proofs.Common.{sym, ◌∙◌}
use Rattle.ir_program.specs.declared.handles.DefiningEntity.TheVariants.{Op, Block}
use Rattle.ir_queries.proofs.Standing.{found_live}
use Rattle.ir_queries.proofs.finding.index_of.Goals as goal

pub returns-in-Op-clause-live : goal.returns-in-Op-clause-live
returns-in-Op-clause-live g c = found_live c.args.program.now c.args.value c.know_values.ensures.typed c.know_values.ensures.stands (Op c.in-Op.op) (sym c.in-Op.is ∙ c.definer.ensures) c.index_in_results.result c.index_in_results.ensures

pub returns-in-Block-clause-live : goal.returns-in-Block-clause-live
returns-in-Block-clause-live g c = found_live c.args.program.now c.args.value c.know_values.ensures.typed c.know_values.ensures.stands (Block c.in-Block.block) (sym c.in-Block.is ∙ c.definer.ensures) c.index_in_arguments.result c.index_in_arguments.ensures
