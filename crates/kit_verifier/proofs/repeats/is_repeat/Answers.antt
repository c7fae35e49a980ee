use Rattle.std.proofs.Common.{◌∙◌, ap, option_map, sym}
use Rattle.kit_checks.specs.World.{world_of}
use Rattle.kit_verifier.proofs.Repeated.{named_among, named_gains}
use Rattle.kit_verifier.proofs.repeats.is_repeat.Goals as goal

pub returns-in-Some-clause-is : goal.returns-in-Some-clause-is
returns-in-Some-clause-is c =
    named_among (world_of c.args.ctx.now) c.args.ctx.now.program c.args.op c.in-Some.name.now (sym c.text_under.ensures ∙ ap (option_map (λ text. text.now)) c.in-Some.is) _ c.add_text.result c.add_text.ensures.known

pub returns-in-Some-clause-names : goal.returns-in-Some-clause-names
returns-in-Some-clause-names c =
    named_gains (world_of c.args.ctx.now) c.args.ctx.now.program c.args.op c.in-Some.name.now (sym c.text_under.ensures ∙ ap (option_map (λ text. text.now)) c.in-Some.is) _ _ c.add_text.result c.add_text.ensures.texts
