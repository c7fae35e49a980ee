use Rattle.std.proofs.Common.{◌∙◌, ap, map}
use Rattle.ir_names.specs.Identifier.{text_of}
use Rattle.irkit_driver.proofs.ExecutionLemmas.{answers_at}
use Rattle.irkit_driver.proofs.executing.outcome_in.Goals as goal

pub returns-in-Ok-Some : goal.returns-in-Ok-Some
returns-in-Ok-Some c =
    let says = rw c.in-Ok-Some.field-0-is at c.in-Ok-Some.ensures in
    answers_at c.args.ctx.now c.args.root c.args.path.now c.args.arguments.now c.args.limit _ c.execute.result
    (ap (map text_of) c.as_slice.ensures.value ∙ says) c.execute.ensures

pub returns-in-Ok-None : goal.returns-in-Ok-None
returns-in-Ok-None c = λ path says. absurd ((rw c.in-Ok-None.field-0-is at c.in-Ok-None.ensures) path says)
