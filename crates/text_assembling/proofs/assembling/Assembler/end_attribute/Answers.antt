use Rattle.std.proofs.Common.{ap, Err}
use Rattle.std.proofs.lemmas.Result.{on_ok_weaker}
use Rattle.ir_print.specs.Shown.{ShowsParts}
use Rattle.ir_tokens.specs.declared.faults.FaultKind.TheVariants as faults
use Rattle.text_frames.proofs.Opening.{refused_at_part}
use Rattle.text_assembling.proofs.assembling.Assembler.end_attribute.Goals as goal

pub returns-in-Ok-clause-made : goal.returns-in-Ok-clause-made
returns-in-Ok-clause-made g c ps shown =
    let here : ShowsParts g.D.TextDialect.says c.args.ctx.now.types.keys c.deref.result.now ps = rw c.deref.ensures.value shown in
    let m = c.in-Ok.ensures.made ps here in
    on_ok_weaker c.put.result (λ h. (m.0, c.in-Ok.attr, m.1, h)) c.put.ensures.put

pub returns-in-Err-clause-refused : goal.returns-in-Err-clause-refused
returns-in-Err-clause-refused g c ps ts shown tokens f e =
    let here : ShowsParts g.D.TextDialect.says c.args.ctx.now.types.keys c.deref.result.now ps = rw c.deref.ensures.value shown in
    refused_at_part c.refused.result c.in-Err.fault faults.Number ts _ _
    (λ i is. c.in-Err.ensures.refused ps here i (ap Err is))
    (λ i is. c.refused.ensures.number ts i tokens is)
    c.refused.ensures.memory f (cc e)
