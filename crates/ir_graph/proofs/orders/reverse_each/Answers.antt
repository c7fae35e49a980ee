use Rattle.std.proofs.Common.{map, reverse, length, drop, sym, ap, ◌∙◌, arith}
use Rattle.std.proofs.lemmas.List.{length-map}
use Rattle.ir_graph.specs.Orders.{lists_of}
use Rattle.ir_graph.proofs.Parts.{reversed_more, all_reversed, take_front}
use Rattle.ir_graph.proofs.orders.reverse_each.Goals as goal

pub loop-part-preserved : goal.loop-part-preserved
loop-part-preserved g c =
    reversed_more (lists_of c.deref_mut-part-items.result.now) c.loop-part.part-items c.loop-part.part-index c.part-item.result c.reverse.new.self
    (let l = c.loop-part-test.true in let m = c.loop-part.auto.part-items in omega (arith, l, m)) c.reverse.ensures.items c.loop-part.invariant

pub returns : goal.returns
returns g c =
    let v = c.deref_mut-part-items.ensures.value in
    ap lists_of (take_front c.loop-part.part-items (drop (length c.loop-part.part-items) c.args.parts.now.items) c.args.parts.now.len (c.args.parts.now.ok.0 ∙ sym (c.loop-part.auto.part-items ∙ ap length v)))
    ∙ c.loop-part.invariant
    ∙ all_reversed (lists_of c.deref_mut-part-items.result.now) c.loop-part.part-index (simp length-map c.loop-part-test.false)
    ∙ ap (λ xs. map reverse (lists_of xs)) v
