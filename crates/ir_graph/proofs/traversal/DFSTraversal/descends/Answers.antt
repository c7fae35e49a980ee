use Rattle.std.proofs.Common.{◌≤◌, arith, rules}
use Rattle.ir_graph.proofs.Descending.{descends_by_times}
use Rattle.ir_graph.proofs.traversal.DFSTraversal.descends.Goals as goal

pub returns-then-is_seen_later : goal.returns-then-is_seen_later
returns-then-is_seen_later g c = λ next roots v.
    let d = descends_by_times next roots c.args.self.now v c.args.from.now c.args.to.now c.pre_order_number.result c.pre_order_number-2.result c.post_order_number-2.result c.post_order_number.result c.pre_order_number.ensures c.pre_order_number-2.ensures c.post_order_number-2.ensures c.post_order_number.ensures in
    ((λ b. let h : c.post_order_number.result ≤ c.post_order_number-2.result = search rules in d.0 (let t = c.if-is_seen_later.true in search rules) h), (λ s. let t = d.1 s in let h : c.post_order_number.result ≤ c.post_order_number-2.result = t.1 in search rules))

pub returns-else-is_seen_later : goal.returns-else-is_seen_later
returns-else-is_seen_later g c = λ next roots v.
    let d = descends_by_times next roots c.args.self.now v c.args.from.now c.args.to.now c.pre_order_number.result c.pre_order_number-2.result c.post_order_number-2.result c.post_order_number.result c.pre_order_number.ensures c.pre_order_number-2.ensures c.post_order_number-2.ensures c.post_order_number.ensures in
    let f = c.if-is_seen_later.false in
    ((λ b. let h : c.pre_order_number.result ≤ c.pre_order_number-2.result = search rules in absurd (omega (arith, h, f))), (λ s. let t = d.1 s in absurd (omega (arith, t.0, f))))
