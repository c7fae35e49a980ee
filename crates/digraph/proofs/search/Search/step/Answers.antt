use Rattle.std.proofs.Common.{rules, ◌≡◌, ◌<◌, ◌≤◌, length, sym, subst, arith, get_or, refl}
use Rattle.digraph.proofs.Searching.{successors_at}
use Rattle.digraph.proofs.Walking.{rest_in, child_in, goes_leave, goes_on}
use Rattle.digraph.proofs.search.Search.step.Goals as goal

pub enter-requires : goal.enter-requires
enter-requires c =
    let t = rest_in c.args.graph.now c.args.self.now c.args.self.now c.pop.new.self.items c.in-Some.top c.requires.search c.in-Some.ensures.items in
    let h : c.in-Some.top.next < length c.index-graph-top.result.items = search rules in
    let k = child_in c.args.graph.now c.in-Some.top.node c.index-graph-top.result c.in-Some.top.next c.index-node.result.now c.requires.graph t.1 (search rules) h (search rules) in
    omega (arith, k, c.requires.search.len)

pub returns-in_ok-enter : goal.returns-in_ok-enter
returns-in_ok-enter c =
    let t = rest_in c.args.graph.now c.args.self.now c.args.self.now c.pop.new.self.items c.in-Some.top c.requires.search c.in-Some.ensures.items in
    let e = successors_at c.args.graph.now c.in-Some.top.node c.index-graph-top.result t.1 (search rules) in
    let h : c.in-Some.top.next < length c.index-graph-top.result.items = search rules in
    let i : c.index-node.result.now ≡ get_or c.index-graph-top.result.items c.in-Some.top.next c.index-node.result.now = search rules in
    let k = child_in c.args.graph.now c.in-Some.top.node c.index-graph-top.result c.in-Some.top.next c.index-node.result.now c.requires.graph t.1 (search rules) h i in
    goes_on c.args.graph.now c.args.self.now c.enter.new.self c.pop.new.self.items c.in-Some.top c.requires.search c.in-Some.ensures.items
    (record { seen = c.args.self.now.seen; pre = c.args.self.now.pre; post = c.args.self.now.post; path = c.push.new.self }) c.index-node.result.now
    (subst (λ xs. c.in-Some.top.next < length xs) (sym e) h)
    (subst (λ xs. c.index-node.result.now ≡ get_or xs c.in-Some.top.next c.index-node.result.now) (sym e) i)
    k refl refl refl c.in_ok-push.ensures.items c.in_ok-enter.ensures

pub returns-in_ok-push-2 : goal.returns-in_ok-push-2
returns-in_ok-push-2 c =
    let t = rest_in c.args.graph.now c.args.self.now c.args.self.now c.pop.new.self.items c.in-Some.top c.requires.search c.in-Some.ensures.items in
    let e = successors_at c.args.graph.now c.in-Some.top.node c.index-graph-top.result t.1 (search rules) in
    let h : length c.index-graph-top.result.items ≤ c.in-Some.top.next = search rules in
    goes_leave c.args.graph.now c.args.self.now _ c.pop.new.self.items c.in-Some.top c.requires.search c.in-Some.ensures.items
    (subst (λ xs. length xs ≤ c.in-Some.top.next) (sym e) h) refl refl c.in_ok-push-2.ensures.items refl
