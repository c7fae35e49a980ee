use Rattle.std.proofs.Common.{◌↔◌, IsTrue, subst}
use Rattle.ir_trees.specs.Stands.{StandsFor}
use Rattle.kit_checks.specs.Reading.{OfTree}
use Rattle.kit_checks.specs.Rules.{HasModuleBody}
use Rattle.kit_checks.specs.World.{world_of}
use Rattle.kit_verifier.proofs.NameRules.{body_told}
use Rattle.kit_verifier.proofs.names.has_body.Goals as goal

pub returns : goal.returns
returns c =
    body_told (world_of c.args.ctx.now) c.args.ctx.now.program c.args.op c.know_tree.ensures.0
    (subst (λ p. StandsFor p c.args.op c.know_tree.ensures.0) c.program-program.ensures c.know_tree.ensures.1)
    c.has_module_body.result
    (subst (λ p. OfTree p c.args.op (λ u. IsTrue c.has_module_body.result ↔ HasModuleBody u)) c.program-program.ensures
    c.has_module_body.ensures)
