use Rattle.std.proofs.Common.{◌↔◌, ◌∙◌, IsTrue, ap, subst}
use Rattle.std.specs.Prelude.{Contains}
use Rattle.ir_program.specs.Rows.{successors_at}
use Rattle.ir_queries.proofs.EdgeRows.{edges_are}
use Rattle.ir_queries.proofs.edges.PtrBasicBlockBlockEdges.is_succ.Goals as goal

pub returns-in-Some : goal.returns-in-Some
returns-in-Some g c = subst (λ es. IsTrue c.has_successor.result ↔ Contains es c.args.other) (ap (λ p. successors_at p c.in-Some.op) c.program.ensures ∙ edges_are g.D.DialectTables.op_has c.args.ctx.now.program c.args.self c.get_terminator.result c.in-Some.op c.get_terminator.ensures.terminator c.in-Some.is) c.has_successor.ensures
