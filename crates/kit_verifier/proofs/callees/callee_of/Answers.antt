use Rattle.std.proofs.Common.{◌≡◌, ◌↔◌, Some, IfSome, option_map, subst, sym}
use Rattle.ir_context.specs.Holders.{HasParent}
use Rattle.kit_checks.specs.World.{world_of}
use Rattle.kit_verifier.specs.Callees.{IsCallable}
use Rattle.kit_verifier.proofs.Called.{callable_is}
use Rattle.kit_verifier.proofs.callees.callee_of.Goals as goal

pub returns : goal.returns
returns c q =
    subst (λ f. (f ≡ Some q) ↔ IsCallable (world_of c.args.ctx.now) c.args.ctx.now.program c.args.op q) (sym c.callee_from.ensures)
    (callable_is (world_of c.args.ctx.now) c.args.ctx.now.program c.args.op c.kind_of.result c.get_parent_op.result (option_map (λ text. text.now) c.text_under.result) c.type_under.result c.kind_of.ensures
    (c.is_function.ensures.0 c.if-not-is_function.false)
    (λ p is. subst (λ r. IfSome r (HasParent c.args.ctx.now.program c.args.op)) is c.get_parent_op.ensures.found)
    c.get_parent_op.ensures.only c.text_under.ensures c.type_under.ensures q)
