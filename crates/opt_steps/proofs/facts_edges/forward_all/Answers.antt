use Rattle.std.proofs.Common.{◌≡◌, ◌<◌, length, get_or, sym, subst, arith, rules}
use Rattle.std.proofs.lemmas.Option.{slice_get-get_or}
use Rattle.std.proofs.lemmas.List.Elements.{Contains-get_or}
use Rattle.opt_rows.specs.declared.known.Known.TheVariants.{Undetermined}
use Rattle.opt_rows.proofs.FactsFalling.{or_read}
use Rattle.opt_rows.proofs.Lists.{get_more_last}
use Rattle.opt_steps.proofs.FactsEdging.{forwards_none, forward_more, forward_all}
use Rattle.opt_steps.proofs.facts_edges.forward_all.Goals as goal

pub loop-index-init : goal.loop-index-init
loop-index-init g c = forwards_none _ _ _

pub offset_bounds-operands-forwards : goal.offset_bounds-operands-forwards
offset_bounds-operands-forwards g c =
    let h : c.loop-index.index < length c.args.forwards.now = omega (arith, c.min-index-end.ensures) in
    let k = c.requires.forwards _ (Contains-get_or c.args.forwards.now c.loop-index.index 0 h) in search rules

pub bounds-operands-forwards : goal.bounds-operands-forwards
bounds-operands-forwards g c =
    let h : c.loop-index.index < length c.args.forwards.now = omega (arith, c.min-index-end.ensures) in
    c.requires.forwards _ (Contains-get_or c.args.forwards.now c.loop-index.index 0 h)

pub index-fact-requires : goal.index-fact-requires
index-fact-requires g c =
    let h : c.loop-index.index < length c.args.forwards.now = omega (arith, c.min-index-end.ensures) in
    let q = get_or c.args.forwards.now c.loop-index.index 0 in
    let k = c.requires.forwards q (Contains-get_or c.args.forwards.now c.loop-index.index 0 h) in
    let v = get_or c.args.operands.now q 0 in
    let m : v < length c.loop-index.found.known.items = subst (λ n. v < n) (sym c.loop-index.invariant.steps.values_len) (c.requires.operands v (Contains-get_or c.args.operands.now q 0 k)) in search rules

pub lower-requires-clause-in_range : goal.lower-requires-clause-in_range
lower-requires-clause-in_range g c =
    let h : c.loop-index.index < length c.args.arguments.now = omega (arith, c.min-index-end.ensures) in
    let v = get_or c.args.arguments.now c.loop-index.index 0 in
    subst (λ n. v < n) (sym c.loop-index.invariant.steps.values_len) (c.requires.arguments v (Contains-get_or c.args.arguments.now c.loop-index.index 0 h))

pub loop-index-preserved : goal.loop-index-preserved
loop-index-preserved g c =
    let h : c.loop-index.index < length c.args.forwards.now = omega (arith, c.min-index-end.ensures) in
    let n : c.loop-index.index < length c.args.arguments.now = omega (arith, c.min-index-end.ensures) in
    let w = get_or c.args.arguments.now c.loop-index.index 0 in
    let q = get_or c.args.forwards.now c.loop-index.index 0 in
    let k = c.requires.forwards q (Contains-get_or c.args.forwards.now c.loop-index.index 0 h) in
    let v = get_or c.args.operands.now q 0 in
    let m : v < length c.loop-index.found.known.items = subst (λ x. v < x) (sym c.loop-index.invariant.steps.values_len) (c.requires.operands v (Contains-get_or c.args.operands.now q 0 k)) in
    let e : w ≡ get_or c.args.arguments.now c.loop-index.index w = search rules in
    forward_more c.args.arguments.now c.args.forwards.now c.args.operands.now c.loop-index.index w q v c.index-fact.result.now c.args.found.now c.loop-index.found c.lower.new.self n e (get_more_last c.args.arguments.now c.loop-index.index w n e)
    (slice_get-get_or c.args.forwards.now c.loop-index.index 0 h) (slice_get-get_or c.args.operands.now q 0 k) (sym (or_read c.loop-index.found.known.items v c.index-fact.result.now Undetermined m c.index-fact.ensures)) c.loop-index.invariant c.in_ok-lower.ensures

pub returns : goal.returns
returns g c = forward_all c.args.arguments.now c.args.forwards.now c.args.operands.now c.loop-index.index c.args.found.now c.loop-index.found (λ j h k. omega (arith, h, k, c.min-index-end.ensures, c.loop-index-test.false)) c.loop-index.invariant
