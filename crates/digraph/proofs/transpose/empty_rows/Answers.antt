use Rattle.std.proofs.Common.{rules, ◌≡◌, subst, arith}
use Rattle.digraph.specs.Transpose.{IsEmptyRows}
use Rattle.digraph.proofs.Reversing.{no_row, empty_row_more}
use Rattle.digraph.proofs.transpose.empty_rows.Goals as goal

pub loop-row-preserved : goal.loop-row-preserved
loop-row-preserved c = empty_row_more c.loop-row.rows.items _ _ c.loop-row._row c.in_ok-push.ensures.items (search rules) c.loop-row.invariant

pub loop-row-init : goal.loop-row-init
loop-row-init c = no_row c.new-rows.result.items c.new-rows.ensures.items

pub returns : goal.returns
returns c =
    let all : c.loop-row._row ≡ c.args.count = omega (arith, c.loop-row-test.false, c.loop-row.auto._row-end) in
    subst (λ n. IsEmptyRows c.loop-row.rows.items n) all c.loop-row.invariant
