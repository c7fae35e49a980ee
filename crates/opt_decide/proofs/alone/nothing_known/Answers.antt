use Rattle.std.proofs.Common.{Option, None, refl, arith, get_or}
use Rattle.std.proofs.lemmas.Option.{slice_get-get_or}
use Rattle.ir_program.specs.Rows.{operands_at}
use Rattle.ir_program.specs.declared.handles.Value.{Value}
use Rattle.opt_decide.proofs.Filled.{mapped_next, no_value}
use Rattle.opt_decide.proofs.alone.nothing_known.Goals as goal

pub loop-i-preserved : goal.loop-i-preserved
loop-i-preserved g c =
    let all = operands_at c.args.program.now c.args.op in
    let nothing : Value → Option g.row.A.Denot = λ v. None in
    mapped_next nothing all c.loop-i.known.items c.push.new.self.items c.loop-i.i (get_or all c.loop-i.i no_value) None (slice_get-get_or all c.loop-i.i no_value (omega arith)) refl c.in_ok-push.ensures.items c.loop-i.invariant
