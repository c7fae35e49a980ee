use Rattle.std.proofs.Common.{subst, sym, refl, ap, ◌∙◌}
use Rattle.ir_core.specs.edits.MakingEdits.{BuildsNewOperation, BuildsNewBlock}
use Rattle.ir_core.specs.edits.UseEdits.{ReplacesSomeUses, RetargetsSome}
use Rattle.ir_core.specs.edits.Naming.{block_named, value_named}
use Rattle.ir_core.specs.edits.Resolving.{resolved}
use Rattle.ir_core.specs.edits.Steps.{step, IfNamed}
use Rattle.ir_core.proofs.EditsLemmas.Makings.{same_still}
use Rattle.ir_core.proofs.EditsLemmas.Named.{named_some, named_none, of_names}
use Rattle.ir_core.proofs.edits.apply.apply.Goals as goal

pub returns-in-NewOperation : goal.returns-in-NewOperation
returns-in-NewOperation g c = subst (λ e. step g.D.DialectTables.nowhere c.args.ctx.now c.args.made.now e c.new_operation.new.ctx c.new_operation.result) (sym c.in-NewOperation.is) (
    subst
    (λ tys. BuildsNewOperation g.D.DialectTables.nowhere c.args.ctx.now c.args.made.now c.in-NewOperation.kind tys c.in-NewOperation.operands.items c.in-NewOperation.successors.items c.in-NewOperation.num_regions c.new_operation.new.ctx c.new_operation.result)
    c.deref.ensures.value
    (subst
    (λ operands. BuildsNewOperation g.D.DialectTables.nowhere c.args.ctx.now c.args.made.now c.in-NewOperation.kind c.deref.result.now operands c.in-NewOperation.successors.items c.in-NewOperation.num_regions c.new_operation.new.ctx c.new_operation.result)
    c.deref-in-NewOperation.ensures.value
    (subst
    (λ successors. BuildsNewOperation g.D.DialectTables.nowhere c.args.ctx.now c.args.made.now c.in-NewOperation.kind c.deref.result.now c.deref-in-NewOperation.result.now successors c.in-NewOperation.num_regions c.new_operation.new.ctx c.new_operation.result)
    c.deref-in-NewOperation-2.ensures.value
    c.new_operation.ensures)))

pub returns-in-NewBlock : goal.returns-in-NewBlock
returns-in-NewBlock g c = subst (λ e. step g.D.DialectTables.nowhere c.args.ctx.now c.args.made.now e c.new_block.new.ctx c.new_block.result) (sym c.in-NewBlock.is)
    (subst (λ tys. BuildsNewBlock g.D.DialectTables.nowhere c.args.ctx.now c.in-NewBlock.label tys c.new_block.new.ctx c.new_block.result) c.deref-in-NewBlock.ensures.value c.new_block.ensures)

-- both names stand for something
pub returns-in-Some-block : goal.returns-in-Some-block
returns-in-Some-block g c = subst (λ e. step g.D.DialectTables.nowhere c.args.ctx.now c.args.made.now e c.retarget_some.new.ctx c.retarget_some.result) (sym c.in-RetargetSomePredsTo.is)
    (named_some c.args.ctx.now c.retarget_some.new.ctx c.retarget_some.result
    (λ b. IfNamed (block_named c.args.made.now c.in-RetargetSomePredsTo.other) c.args.ctx.now c.retarget_some.new.ctx c.retarget_some.result (λ to. RetargetsSome c.args.ctx.now b c.args.made.now c.in-RetargetSomePredsTo.places.items to c.retarget_some.new.ctx c.retarget_some.result))
    (block_named c.args.made.now c.in-RetargetSomePredsTo.block) c.block.result c.in-Some.block c.block.ensures c.in-Some.is
    (named_some c.args.ctx.now c.retarget_some.new.ctx c.retarget_some.result
    (λ to. RetargetsSome c.args.ctx.now c.in-Some.block c.args.made.now c.in-RetargetSomePredsTo.places.items to c.retarget_some.new.ctx c.retarget_some.result)
    (block_named c.args.made.now c.in-RetargetSomePredsTo.other) c.block-in-RetargetSomePredsTo.result c.in-Some-block.other c.block-in-RetargetSomePredsTo.ensures c.in-Some-block.is
    (subst (λ places. RetargetsSome c.args.ctx.now c.in-Some.block c.args.made.now places c.in-Some-block.other c.retarget_some.new.ctx c.retarget_some.result) c.deref-in-RetargetSomePredsTo.ensures.value c.retarget_some.ensures)))

pub returns-in-Some-value-2 : goal.returns-in-Some-value-2
returns-in-Some-value-2 g c = subst (λ e. step g.D.DialectTables.nowhere c.args.ctx.now c.args.made.now e c.replace_some_uses.new.ctx c.replace_some_uses.result) (sym c.in-ReplaceSomeUsesWith.is)
    (named_some c.args.ctx.now c.replace_some_uses.new.ctx c.replace_some_uses.result
    (λ v. IfNamed (value_named c.args.ctx.now.program c.args.made.now c.in-ReplaceSomeUsesWith.other) c.args.ctx.now c.replace_some_uses.new.ctx c.replace_some_uses.result (λ w. ReplacesSomeUses c.args.ctx.now v c.args.made.now c.in-ReplaceSomeUsesWith.places.items w c.replace_some_uses.new.ctx c.replace_some_uses.result))
    (value_named c.args.ctx.now.program c.args.made.now c.in-ReplaceSomeUsesWith.value) c.value.result c.in-Some-value.value c.value.ensures c.in-Some-value.is
    (named_some c.args.ctx.now c.replace_some_uses.new.ctx c.replace_some_uses.result
    (λ w. ReplacesSomeUses c.args.ctx.now c.in-Some-value.value c.args.made.now c.in-ReplaceSomeUsesWith.places.items w c.replace_some_uses.new.ctx c.replace_some_uses.result)
    (value_named c.args.ctx.now.program c.args.made.now c.in-ReplaceSomeUsesWith.other) c.value-in-ReplaceSomeUsesWith.result c.in-Some-value-2.other c.value-in-ReplaceSomeUsesWith.ensures c.in-Some-value-2.is
    (subst (λ places. ReplacesSomeUses c.args.ctx.now c.in-Some-value.value c.args.made.now places c.in-Some-value-2.other c.replace_some_uses.new.ctx c.replace_some_uses.result) c.deref-in-ReplaceSomeUsesWith.ensures.value c.replace_some_uses.ensures)))

-- the names stand for something
pub returns-in-Some-resolve : goal.returns-in-Some-resolve
returns-in-Some-resolve g c = of_names g.D.DialectTables.nowhere c.args.ctx.now c.args.made.now c.args.edit.now c.apply_direct.new.ctx c.apply_direct.result
    c.in_default.not-NewOperation c.in_default.not-NewBlock c.in_default.not-RetargetSomePredsTo c.in_default.not-ReplaceSomeUsesWith
    (named_some c.args.ctx.now c.apply_direct.new.ctx c.apply_direct.result _ (resolved c.args.ctx.now.program c.args.made.now c.args.edit.now) c.resolve.result c.in-Some-resolve.direct (c.resolve.ensures ∙ ap (λ program. resolved program c.args.made.now c.args.edit.now) c.program.ensures) c.in-Some-resolve.is c.apply_direct.ensures)

-- a name stands for nothing
pub returns-in-None : goal.returns-in-None
returns-in-None g c = of_names g.D.DialectTables.nowhere c.args.ctx.now c.args.made.now c.args.edit.now c.args.ctx.now _
    c.in_default.not-NewOperation c.in_default.not-NewBlock c.in_default.not-RetargetSomePredsTo c.in_default.not-ReplaceSomeUsesWith
    (named_none c.args.ctx.now c.args.ctx.now _ _ (resolved c.args.ctx.now.program c.args.made.now c.args.edit.now) c.resolve.result (c.resolve.ensures ∙ ap (λ program. resolved program c.args.made.now c.args.edit.now) c.program.ensures) c.in-None.is refl (same_still c.args.ctx.now))
