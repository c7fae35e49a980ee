use Rattle.std.proofs.Common.{◌≡◌, ℕ, List, [], get_or, length, replicate, ap, sym, ◌∙◌, rules, arith}
use Rattle.std.specs.Prelude.{slice_get}
use Rattle.std.proofs.lemmas.List.{take_all, length-replicate}
use Rattle.std.proofs.lemmas.Option.{none-some, slice_get-get_or}
use Rattle.opt_solvers.specs.DeadRows.{ForwardsOperand}
use Rattle.opt_rows.proofs.Lists.{gained_none}
use Rattle.opt_steps.proofs.DeadPlacing.{default}
use Rattle.opt_solvers.proofs.DeadNoting.{operands_noted, operands_listed, forward_within}
use Rattle.opt_solvers.proofs.dead_rows.forwarded_rows.Goals as goal

pub loop-number-init : goal.loop-number-init
loop-number-init c = gained_none (ForwardsOperand []) (λ v k (o, t, m). none-some o t) c.in_ok-rows.rows

pub note-requires : goal.note-requires
note-requires c r e =
    let os = c.all_operands-operand-items.result.now in let k = c.loop-number.number in
    let o = get_or os k default.operand in
    let n : c.len-count.result ≡ length c.args.problem.now.arguments.items = search rules in
    let l = c.loop-number.invariant.len in let m = ap length c.in_ok-rows.ensures in let z = length-replicate {A = List ℕ} c.len-count.result [] in
    let w = forward_within c.args.problem.now c.requires k o r (ap (λ xs. slice_get xs k) (sym c.all_operands-operand-items.ensures) ∙ slice_get-get_or os k default.operand c.loop-number-test.true) e in
    omega (arith, w, l, m, n, z)

pub loop-number-preserved : goal.loop-number-preserved
loop-number-preserved c =
    let os = c.all_operands-operand-items.result.now in
    operands_noted c.in_ok-rows.rows c.loop-number.rows c.note.new.rows os c.loop-number.number (get_or os c.loop-number.number default.operand) c.loop-number-test.true (search rules) c.loop-number.invariant c.in_ok-note.ensures

pub returns : goal.returns
returns c =
    let p = c.args.problem.now in
    let n : c.len-count.result ≡ length p.arguments.items = search rules in
    operands_listed p c.in_ok-rows.rows c.loop-number.rows _ (c.in_ok-rows.ensures ∙ ap (λ m. replicate m []) n) (take_all c.loop-number.number c.all_operands-operand-items.result.now c.loop-number-test.false ∙ c.all_operands-operand-items.ensures) c.loop-number.invariant
