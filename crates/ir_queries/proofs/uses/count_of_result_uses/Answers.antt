use Rattle.std.proofs.Common.{◌<◌, ◌+◌, ◌^◌, ◌∙◌, ap, is_some, arith}
use Rattle.ir_program.specs.Program.{results_at, IsLiveValue}
use Rattle.ir_queries.specs.Results.{IsResultOf}
use Rattle.ir_queries.proofs.Standing.{typed_too}
use Rattle.ir_queries.proofs.ResultUses.{IsResultBelow, IsCountBelow, none_below, count_step, count_fits, all_counted, one_count}
use Rattle.ir_queries.proofs.uses.count_of_result_uses.Goals as goal

pub loop-i-init : goal.loop-i-init
loop-i-init g c = none_below c.args.program.now c.args.op

pub overflow_add-count : goal.overflow_add-count
overflow_add-count g c =
    let live : IsLiveValue c.args.program.now c.result.result = ap is_some c.result.ensures.typed ∙ typed_too (results_at c.args.program.now c.args.op) c.loop-i.i c.result.result c.result.ensures.value in
    let next : IsCountBelow c.args.program.now c.args.op (c.loop-i.i + 1) (c.loop-i.count + c.use_count-count.result) = count_step c.args.program.now c.args.op c.know_values.ensures.definer c.know_values.ensures.stands c.loop-i.i c.result.result c.result.ensures.value live c.loop-i.count c.use_count-count.result c.loop-i.invariant c.use_count-count.ensures.count in
    let small : c.loop-i.count + c.use_count-count.result < 2 ^ 64 = count_fits c.args.program.now c.know_few_uses.ensures (IsResultBelow c.args.program.now c.args.op (c.loop-i.i + 1)) (c.loop-i.count + c.use_count-count.result) next in
    omega arith

pub loop-i-preserved : goal.loop-i-preserved
loop-i-preserved g c =
    let live : IsLiveValue c.args.program.now c.result.result = ap is_some c.result.ensures.typed ∙ typed_too (results_at c.args.program.now c.args.op) c.loop-i.i c.result.result c.result.ensures.value in
    count_step c.args.program.now c.args.op c.know_values.ensures.definer c.know_values.ensures.stands c.loop-i.i c.result.result c.result.ensures.value live c.loop-i.count c.use_count-count.result c.loop-i.invariant c.use_count-count.ensures.count

pub returns-clause-count : goal.returns-clause-count
returns-clause-count g c = all_counted c.args.program.now c.args.op c.loop-i.i c.loop-i.count (omega arith) c.loop-i.invariant

pub returns-clause-only : goal.returns-clause-only
returns-clause-only g c n counted = one_count c.args.program.now (IsResultOf c.args.program.now c.args.op) n c.loop-i.count counted (all_counted c.args.program.now c.args.op c.loop-i.i c.loop-i.count (omega arith) c.loop-i.invariant)
