use Rattle.std.proofs.Common.{◌≡◌, ◌↔◌, Some, option_map, subst, sym}
use Rattle.kit_checks.specs.World.{world_of}
use Rattle.kit_verifier.specs.Callees.{Calls}
use Rattle.kit_verifier.proofs.Called.{called_is}
use Rattle.kit_verifier.proofs.calls.called_by.Goals as goal

pub returns : goal.returns
returns c s at q =
    subst (λ f. (f ≡ Some q) ↔ Calls (world_of c.args.ctx.now) c.args.ctx.now.program s q) (sym c.callee_from.ensures)
    (called_is (world_of c.args.ctx.now) c.args.ctx.now.program c.args.root c.args.op c.nearest_module.result (option_map (λ text. text.now) c.text_under.result) c.type_under.result c.requires.call
    c.nearest_module.ensures c.text_under.ensures c.type_under.ensures s at q)
