use Rattle.std.proofs.Common.{◌∙◌, ap}
use Rattle.std.specs.Prelude.{option_copied}
use Rattle.kit_checks.specs.World.{world_of}
use Rattle.kit_verifier.proofs.Typed.{no_signature, other_operands, same_operands}
use Rattle.kit_verifier.proofs.signatures.has_signature.Goals as goal

pub returns-then-not-operands_are : goal.returns-then-not-operands_are
returns-then-not-operands_are c u s =
    other_operands (world_of c.args.ctx.now) u c.args.ty c.in-Some.signature.now (c.function_type.ensures ∙ ap option_copied c.in-Some.is) c.operands_are.result c.if-not-operands_are.true
    (c.operands_are.ensures u s) c.as_slice.ensures.value

pub returns-else-not-operands_are : goal.returns-else-not-operands_are
returns-else-not-operands_are c u s =
    same_operands (world_of c.args.ctx.now) u c.args.ty c.in-Some.signature.now (c.function_type.ensures ∙ ap option_copied c.in-Some.is) c.operands_are.result c.if-not-operands_are.false
    (c.operands_are.ensures u s) c.as_slice.ensures.value c.results_are.result (c.results_are.ensures u s) c.as_slice-in-Some.ensures.value

pub returns-in-None : goal.returns-in-None
returns-in-None c u s = no_signature (world_of c.args.ctx.now) u c.args.ty (c.function_type.ensures ∙ ap option_copied c.in-None.is)
