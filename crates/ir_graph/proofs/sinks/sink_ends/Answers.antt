use Rattle.std.proofs.Common.{◌<◌, length, sym, subst, rules}
use Rattle.std.specs.Prelude.{All}
use Rattle.std.proofs.lemmas.List.{append-nil}
use Rattle.digraph.specs.Graph.{successors}
use Rattle.ir_graph.specs.Sinks.{MarksAll, AddsEnd}
use Rattle.ir_graph.proofs.Sinking.{ended_none, nodes_in, ended_more, ended_all}
use Rattle.ir_graph.proofs.sinks.sink_ends.Goals as goal

pub parts-init : goal.parts-init
parts-init c = ended_none (successors c.args.graph.now) (length c.args.graph.now) c.args.parts.items c.in_ok-marks.marks.items c.new-ends.result.items (search rules) (search rules) c.new-ends.ensures.items (sym (append-nil c.args.parts.items))

pub add_end-requires-clause-nodes : goal.add_end-requires-clause-nodes
add_end-requires-clause-nodes c = subst (λ xs. All (λ n. n < length c.args.graph.now) xs) (sym c.deref-in-Some.ensures.value)
    (nodes_in c.args.graph.now c.requires.graph c.args.parts.items c.requires.parts c.parts.parts.items c.pop.new.self.items c.in-Some.part c.in-Some.ensures.items c.parts.marks.items c.parts.marks.items c.parts.ends.items c.parts.ends.items c.parts.invariant)

pub mark_all-requires : goal.mark_all-requires
mark_all-requires c = subst (λ l. All (λ n. n < l) c.deref-in-Some-2.result.now) (sym c.parts.invariant.len)
    (subst (λ xs. All (λ n. n < length c.args.graph.now) xs) (sym c.deref-in-Some-2.ensures.value)
    (nodes_in c.args.graph.now c.requires.graph c.args.parts.items c.requires.parts c.parts.parts.items c.pop.new.self.items c.in-Some.part c.in-Some.ensures.items c.parts.marks.items c.parts.marks.items c.parts.ends.items c.parts.ends.items c.parts.invariant))

pub parts-preserved : goal.parts-preserved
parts-preserved c = ended_more c.args.graph.now c.requires.graph c.args.parts.items c.requires.parts c.parts.parts.items c.pop.new.self.items c.in-Some.part c.in-Some.ensures.items c.parts.marks.items c.mark_all.new.marks.items c.parts.ends.items c.add_end.new.ends.items c.parts.invariant
    (subst (λ xs. MarksAll c.parts.marks.items c.mark_all.new.marks.items xs) c.deref-in-Some-2.ensures.value c.mark_all.ensures)
    (subst (λ xs. AddsEnd (successors c.args.graph.now) c.parts.marks.items xs c.parts.ends.items c.add_end.new.ends.items) c.deref-in-Some.ensures.value
    (subst (λ ms. AddsEnd (successors c.args.graph.now) ms c.deref-in-Some.result.now c.parts.ends.items c.add_end.new.ends.items) c.deref.ensures.value c.in_ok-add_end.ensures))

pub returns : goal.returns
returns c = ended_all c.args.graph.now c.requires.graph c.args.parts.items c.requires.parts c.parts.parts.items c.parts.marks.items c.parts.ends.items (search rules) c.parts.invariant
