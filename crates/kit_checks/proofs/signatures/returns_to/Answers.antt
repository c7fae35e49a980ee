use Rattle.std.proofs.Common.{◌≡◌, ◌∙◌, Some, ap, sym, subst}
use Rattle.std.specs.Prelude.{option_copied}
use Rattle.kit_ops.specs.declared.types.FunctionType.{FunctionType}
use Rattle.kit_checks.specs.Words.{HaveTypes, signature}
use Rattle.kit_checks.specs.World.{world_of}
use Rattle.kit_checks.proofs.signatures.returns_to.Goals as goal

pub returns-in-Some : goal.returns-in-Some
returns-in-Some c u s f t =
    let is : signature (world_of c.args.ctx.now) f ≡ Some c.in-Some.ty.now = c.signature.ensures f t ∙ ap option_copied c.in-Some.is in (
      λ h ty sig.
          let e : Some c.in-Some.ty.now ≡ Some ty = sym is ∙ sig in
          let same : c.in-Some.ty.now ≡ ty = cc in
          subst (λ (x : FunctionType). HaveTypes (world_of c.args.ctx.now) u.head.operands x.results.items) same
          (subst (HaveTypes (world_of c.args.ctx.now) u.head.operands) c.as_slice.ensures.value ((c.operands_are.ensures u s).0 h)),
      λ all. (c.operands_are.ensures u s).1 (subst (HaveTypes (world_of c.args.ctx.now) u.head.operands) (sym c.as_slice.ensures.value) (all c.in-Some.ty.now is)),
    )
