use Rattle.std.proofs.Common.{sym, ◌∙◌}
use Rattle.std.proofs.lemmas.Option.{same_Some}
use Rattle.ir_queries.proofs.predecessors.block_of.Goals as goal

pub unreachable-requires : goal.unreachable-requires
unreachable-requires g c = cc (c.in-None.is, c.parent_block.ensures.only c.requires.linked.0 c.requires.linked.1)

pub returns-clause-only : goal.returns-clause-only
returns-clause-only g c b stands = same_Some b c.in-Some.block (sym (c.parent_block.ensures.only b stands) ∙ c.in-Some.is)
