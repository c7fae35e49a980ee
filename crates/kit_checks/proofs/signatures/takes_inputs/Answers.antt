use Rattle.std.proofs.Common.{subst}
use Rattle.kit_checks.specs.Reading.{IsEntryOrNone, OfTree}
use Rattle.kit_checks.proofs.Entries.{takes_as, takes_nothing}
use Rattle.kit_checks.proofs.signatures.takes_inputs.Goals as goal

pub returns-in-Some : goal.returns-in-Some
returns-in-Some c u s =
    takes_as c.args.ctx.now.program u c.args.inputs.now c.entry_of.result c.in-Some.entry c.arguments_are.result c.in-Some.is
    (subst (λ p. OfTree p c.args.op (λ x. IsEntryOrNone p x c.entry_of.result)) c.program.ensures c.entry_of.ensures.entry u s) c.arguments_are.ensures

pub returns-in-None : goal.returns-in-None
returns-in-None c u s =
    takes_nothing c.args.ctx.now.program u c.args.inputs.now c.entry_of.result c.in-None.is
    (subst (λ p. OfTree p c.args.op (λ x. IsEntryOrNone p x c.entry_of.result)) c.program.ensures c.entry_of.ensures.entry u s)
