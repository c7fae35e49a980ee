use Rattle.kit_checks.specs.Words.{types_of}
use Rattle.kit_checks.proofs.Alike.{alike_first, first_result}
use Rattle.kit_checks.proofs.Combined.{last_decides}
use Rattle.kit_checks.proofs.operands.has_equal_results.Goals as goal

pub returns : goal.returns
returns c u s =
    let all = alike_first (types_of u.head.results) c.get_type.result (first_result c.args.ctx.now.program c.args.op u s c.get_type.result c.get_type.ensures) in
    last_decides c.results_pass.result (c.results_pass.ensures u s) all.0 all.1
