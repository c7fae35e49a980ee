use Rattle.std.proofs.Common.{sym, subst}
use Rattle.std.specs.Prelude.{IfSome}
use Rattle.ir_program.specs.Lists.{StandsInBlock}
use Rattle.ir_program.specs.Order.{edges_listed}
use Rattle.ir_queries.proofs.UserBlocks.{block-at, user_live}
use Rattle.ir_queries.proofs.predecessors.predecessor_at.Goals as goal

pub block_of-requires-clause-live : goal.block_of-requires-clause-live
block_of-requires-clause-live g c = user_live c.args.program.now c.edge_at.result c.edge_at.ensures.stands

pub block_of-requires-clause-linked : goal.block_of-requires-clause-linked
block_of-requires-clause-linked g c = c.requires.linked c.edge_at.result c.edge_at.ensures.stands c.edge_at.ensures.leads

pub returns-clause-exact : goal.returns-clause-exact
returns-clause-exact g c listed are = block-at c.args.program.now (edges_listed c.args.program.now c.args.block) listed c.args.i c.edge_at.result c.block_of.result c.edge_at.ensures.exact c.block_of.ensures.only are

pub returns-clause-edge : goal.returns-clause-edge
returns-clause-edge g c = subst (λ o. IfSome o (λ u. StandsInBlock c.args.program.now u.user_op c.block_of.result)) (sym c.edge_at.ensures.exact) c.block_of.ensures.stands

pub returns-clause-predecessor : goal.returns-clause-predecessor
returns-clause-predecessor g c = record { edge = c.edge_at.result; stands = c.edge_at.ensures.stands; leads = c.edge_at.ensures.leads; user = c.block_of.ensures.stands }
