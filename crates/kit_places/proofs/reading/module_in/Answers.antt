use Rattle.std.proofs.Common.{◌≡◌, ◌∙◌, sym, ◌&&◌, Bool}
use Rattle.ir_program.specs.Lists.{operations_in}
use Rattle.ir_program.specs.declared.handles.Ptr.{Ptr}
use Rattle.ir_program.specs.declared.handles.Operation.{Operation}
use Rattle.ir_context.specs.Kept.{kind_at}
use Rattle.kit_ops.specs.Keys.{symbol_name}
use Rattle.kit_places.specs.Store.{attribute_of, is_name, is_module}
use Rattle.kit_places.proofs.Rows.{moved}
use Rattle.kit_places.proofs.Found.{skipped, reached}
use Rattle.kit_places.proofs.reading.module_in.Goals as goal

pub returns-then-is_module_named-clause-found : goal.returns-then-is_module_named-clause-found
returns-then-is_module_named-clause-found c =
    let test : Ptr Operation → Bool = λ p. is_module (kind_at c.args.ctx.now.program p) && is_name c.args.name.now
    (attribute_of c.args.ctx.now.program p symbol_name) in
    sym (sym c.loop-op.invariant.left ∙ reached test c.loop-op.op-iterator _ c.in-Some.op c.is_module_named.result
    c.in-Some.ensures.steps c.is_module_named.ensures c.if-is_module_named.true)

pub loop-op-preserved : goal.loop-op-preserved
loop-op-preserved c =
    let test : Ptr Operation → Bool = λ p. is_module (kind_at c.args.ctx.now.program p) && is_name c.args.name.now
    (attribute_of c.args.ctx.now.program p symbol_name) in
    record {
      listed = moved (λ ps. ps ≡ operations_in c.args.ctx.now.program c.args.block) c.loop-op.yielded _ _
          c.in-Some.op c.in-Some.ensures.steps c.loop-op.invariant.listed;
      left = skipped test c.loop-op.op-iterator _ c.in-Some.op c.is_module_named.result c.in-Some.ensures.steps
          c.is_module_named.ensures c.if-is_module_named.false ∙ c.loop-op.invariant.left;
    }
