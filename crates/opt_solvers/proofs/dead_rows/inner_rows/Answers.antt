use Rattle.std.proofs.Common.{◌≡◌, [], length, replicate, ap, ◌∙◌, rules}
use Rattle.opt_solvers.proofs.DeadNoting.{inside_noted, inside_listed}
use Rattle.opt_solvers.proofs.dead_rows.inner_rows.Goals as goal

pub loop-number-preserved : goal.loop-number-preserved
loop-number-preserved c = inside_noted c.args.problem.now c.in_ok-rows.rows c.loop-number.rows c.note.new.rows c.loop-number.number c.around.result c.around.ensures c.loop-number.invariant c.in_ok-note.ensures

pub returns : goal.returns
returns c =
    let p = c.args.problem.now in
    let n : c.len-count.result ≡ length p.operations = search rules in
    inside_listed p c.in_ok-rows.rows c.loop-number.rows c.loop-number.number (c.in_ok-rows.ensures ∙ ap (λ m. replicate m []) n) (search rules) c.loop-number.invariant
