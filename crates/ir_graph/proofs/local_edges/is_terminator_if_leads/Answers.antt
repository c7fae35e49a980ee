use Rattle.std.proofs.Common.{◌≡◌, ◌<◌, ◌∙◌, length, Some, rules, tests, arith, sym, subst}
use Rattle.ir_program.specs.Rows.{successors_at}
use Rattle.ir_queries.proofs.Partway.{get-within}
use Rattle.ir_graph.specs.RegionLaws.{in_place}
use Rattle.ir_graph.proofs.local_edges.is_terminator_if_leads.Goals as goal

pub returns-else-successor_count-eq0 : goal.returns-else-successor_count-eq0
returns-else-successor_count-eq0 g c = (
  λ h s k. let found : c.get_terminator.result ≡ Some c.args.op = search (rules, tests) in sym c.get_terminator.ensures.terminator ∙ found,
  λ h. let count : c.successor_count.result ≡ length (successors_at c.args.ctx.now.program c.args.op) = subst (λ p. c.successor_count.result ≡ length (successors_at p c.args.op)) c.program.ensures c.successor_count.ensures in
      let some : 0 < length (successors_at c.args.ctx.now.program c.args.op) = omega (arith, count, c.if-successor_count-eq0.false) in
      let s = get-within (successors_at c.args.ctx.now.program c.args.op) 0 some in
      let found : c.get_terminator.result ≡ Some c.args.op = c.get_terminator.ensures.terminator ∙ h s.0 (in_place (successors_at c.args.ctx.now.program c.args.op) 0 s.0 s.1) in
      search (rules, tests),
)
