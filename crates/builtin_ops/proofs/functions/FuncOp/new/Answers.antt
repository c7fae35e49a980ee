use Rattle.std.proofs.Common.{◌≡◌, length, subst}
use Rattle.ir_context.specs.Known.{AreKnownIn}
use Rattle.builtin_ops.specs.Asked.{signature_at}
use Rattle.builtin_ops.proofs.FunctionLemmas.{inputs_known}
use Rattle.builtin_ops.proofs.functions.FuncOp.new.Goals as goal

pub build_with_block-requires : goal.build_with_block-requires
build_with_block-requires g c =
    let known = inputs_known (length c.args.ctx.now.types.keys) (signature_at c.args.ctx.now.types g.D.BuiltinDialect.signature c.args.ty) c.inputs_of.result.now c.requires.known c.inputs_of.ensures in
    let copied = c.in_ok-inputs.ensures.items in
    let lent = c.deref.ensures.value in
    let same : c.inputs_of.result.now ≡ c.deref.result.now = cc in
    subst (AreKnownIn (length c.args.ctx.now.types.keys)) same known
