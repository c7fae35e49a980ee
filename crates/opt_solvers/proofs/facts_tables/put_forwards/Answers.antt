use Rattle.std.proofs.Common.{◌<◌, length, get_or, sym, subst, arith, rules}
use Rattle.std.proofs.lemmas.Option.{slice_get-get_or}
use Rattle.std.proofs.lemmas.List.Elements.{Contains-get_or}
use Rattle.opt_solvers.proofs.FactsTabling.{forwards_more, forwards_all}
use Rattle.opt_solvers.proofs.facts_tables.put_forwards.Goals as goal

pub offset_bounds-operands-forwards : goal.offset_bounds-operands-forwards
offset_bounds-operands-forwards c =
    let h : c.loop-index.index < length c.args.forwards.now = omega (arith, c.min-index-end.ensures) in
    let k = c.requires.forwards _ (Contains-get_or c.args.forwards.now c.loop-index.index 0 h) in search rules

pub bounds-operands-forwards : goal.bounds-operands-forwards
bounds-operands-forwards c =
    let h : c.loop-index.index < length c.args.forwards.now = omega (arith, c.min-index-end.ensures) in
    c.requires.forwards _ (Contains-get_or c.args.forwards.now c.loop-index.index 0 h)

pub put-requires : goal.put-requires
put-requires c =
    let h : c.loop-index.index < length c.args.forwards.now = omega (arith, c.min-index-end.ensures) in
    let k = c.requires.forwards _ (Contains-get_or c.args.forwards.now c.loop-index.index 0 h) in
    let v = get_or c.args.operands.now (get_or c.args.forwards.now c.loop-index.index 0) 0 in
    subst (λ n. v < n) (sym c.loop-index.invariant.len) (c.requires.operands v (Contains-get_or c.args.operands.now (get_or c.args.forwards.now c.loop-index.index 0) 0 k))

pub loop-index-preserved : goal.loop-index-preserved
loop-index-preserved c =
    let h : c.loop-index.index < length c.args.forwards.now = omega (arith, c.min-index-end.ensures) in
    let m : c.loop-index.index < length c.args.arguments.now = omega (arith, c.min-index-end.ensures) in
    let q = get_or c.args.forwards.now c.loop-index.index 0 in
    let k = c.requires.forwards q (Contains-get_or c.args.forwards.now c.loop-index.index 0 h) in
    forwards_more c.args.slots.now c.loop-index.slots c.put.new.table c.args.row c.args.edge c.args.arguments.now c.args.forwards.now c.args.operands.now c.loop-index.index (get_or c.args.arguments.now c.loop-index.index 0) q (get_or c.args.operands.now q 0)
    m (search rules) (slice_get-get_or c.args.forwards.now c.loop-index.index 0 h) (slice_get-get_or c.args.operands.now q 0 k) c.loop-index.invariant c.in_ok-put.ensures

pub returns : goal.returns
returns c = forwards_all c.args.slots.now c.loop-index.slots c.args.row c.args.edge c.args.arguments.now c.args.forwards.now c.args.operands.now c.loop-index.index (λ j h k. omega (arith, h, k, c.min-index-end.ensures, c.loop-index-test.false)) c.loop-index.invariant
