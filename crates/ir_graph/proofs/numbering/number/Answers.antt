use Rattle.std.proofs.Common.{length, sym, ap, ◌∙◌, ◌≡◌, ℕ, Some, slice_get, subst}
use Rattle.std.specs.Prelude.{All, Contains}
use Rattle.std.proofs.lemmas.List.Elements.{All-contains_itself}
use Rattle.ir_graph.specs.Graphs.{AreNodeNumbers, AreSuccessorRows}
use Rattle.ir_graph.proofs.numbering.number.Goals as goal

pub number_row-requires-clause-known : goal.number_row-requires-clause-known
number_row-requires-clause-known g c =
    subst (λ ks. All (λ n. Contains ks n) c.deref-2.result.now) (sym (c.in_ok-set.ensures ∙ c.deref.ensures.value ∙ sym c.deref-2.ensures.value)) (All-contains_itself c.deref-2.result.now)

pub successor_rows-requires-clause-nodes : goal.successor_rows-requires-clause-nodes
successor_rows-requires-clause-nodes g c = c.deref-3.ensures.value ∙ c.in_ok-nodes.ensures

pub successor_rows-requires-clause-set : goal.successor_rows-requires-clause-set
successor_rows-requires-clause-set g c = c.in_ok-set.ensures ∙ c.deref.ensures.value ∙ sym c.deref-3.ensures.value

pub returns : goal.returns
returns g c =
    let next = g.G.ControlFlowGraph.successors_of c.args.graph.now c.args.ctx.now in
    let all = c.in_ok-nodes.ensures in
    let keys = c.in_ok-set.ensures ∙ c.deref.ensures.value ∙ all in
    let rows = subst (λ ns. AreSuccessorRows next ns c.in_ok-rows.rows.items) (c.deref-3.ensures.value ∙ all) c.in_ok-rows.ensures in
    record {
      all = all;
      named = subst (λ ks. AreNodeNumbers ks c.in_ok-numbers.numbers.items (g.G.ControlFlowGraph.nodes_of c.args.graph.now c.args.ctx.now)) keys
          (subst (λ ns. AreNodeNumbers c.in_ok-set.set.keys c.in_ok-numbers.numbers.items ns) (c.deref-2.ensures.value ∙ all) c.in_ok-numbers.ensures);
      len = rows.len;
      onward = rows.onward;
    }
