use Rattle.std.proofs.Common.{rules, ◌≡◌, true}
use Rattle.op_ifaces.specs.Interfaces.{is_told_by_rows}
use Rattle.builtin_ifaces.proofs.verifying.verify_by_rows.Goals as goal

pub returns-in-Err : goal.returns-in-Err
returns-in-Err g c = λ rule. let told : is_told_by_rows c.args.interface ≡ true = search rules in c.in-Err.ensures (rule told)
