use Rattle.std.proofs.Common.{◌∙◌, ◌++◌, ◌∷◌, [], ap, refl, sym}
use Rattle.std.proofs.lemmas.Result.{on_ok_weaker}
use Rattle.text_frames.specs.declared.opened.Body.TheVariants as body
use Rattle.text_frames.proofs.Ended.{in_it, outer_list, outer_of_region, outer_of_operands, outer_of_edge, outer_region, ended_type, ended_attribute, ended_list, ended_item, ended_choice, ended_operation, ended_operands, ended_edge, ended_region, ended_block, type_refused, attribute_refused, operation_refused}
use Rattle.text_assembling.proofs.RaisingBlocks.{list_around, operation_around, operation_around_edge, text_stays, nothing_made, region_raised, block_raised}
use Rattle.text_frames.proofs.Opening.{interned_same, keeps_keys}
use Rattle.text_assembling.proofs.RaisingOperations.{operation_can, operation_full, operation_raised, operation_shown}
use Rattle.text_assembling.proofs.ReadContents.{parts_read, says_read}
use Rattle.text_assembling.proofs.Stepped.{on_ok_both}
use Rattle.text_assembling.proofs.Undone.{on_err_any, undone_so}
use Rattle.text_assembling.proofs.RaisingValues.{type_raised, attribute_raised, list_raised, item_raised, choice_raised, operands_raised, edge_raised}
use Rattle.text_assembling.proofs.assembling.Assembler.end_in.Goals as goal

pub returns-in-Type-clause-ended : goal.returns-in-Type-clause-ended
returns-in-Type-clause-ended g c text o at next ts e =
    let said = says_read c.deref.ensures (in_it _ _ _ _ _ _ _ _ _ _ e (body.«Type» c.in-Type.kind) c.in-Type.is) in
    on_ok_weaker c.end_type-made.result
    (λ w. ended_type _ _ _ _ _ (keeps_keys c.args.ctx.now.types c.end_type-made.new.ctx.types c.end_type-made.ensures.types) _ _ _ _ _ _ _ _ e c.in-Type.kind w.1 c.in-Type.is w.0 w.2 w.3)
    (c.end_type-made.ensures.made _ said.parts)

pub returns-in-Type-clause-refused : goal.returns-in-Type-clause-refused
returns-in-Type-clause-refused g c text o at next ts e f wrong =
    let said = says_read c.deref.ensures (in_it _ _ _ _ _ _ _ _ _ _ e (body.«Type» c.in-Type.kind) c.in-Type.is) in
    let w = c.end_type-made.ensures.refused _ ts said.parts said.tokens f wrong in
    type_refused _ _ _ _ _ (keeps_keys c.args.ctx.now.types c.end_type-made.new.ctx.types c.end_type-made.ensures.types) _ _ c.end_type-made.new.self.here _ _ _ _ _ e c.in-Type.kind w.0 f c.in-Type.is w.1 w.2

pub returns-in-Attribute-clause-ended : goal.returns-in-Attribute-clause-ended
returns-in-Attribute-clause-ended g c text o at next ts e =
    let said = says_read c.deref-in-Attribute.ensures (in_it _ _ _ _ _ _ _ _ _ _ e (body.Attribute c.in-Attribute.kind) c.in-Attribute.is) in
    on_ok_weaker c.end_attribute-made.result
    (λ w. ended_attribute _ _ _ _ _ (keeps_keys c.args.ctx.now.types c.end_attribute-made.new.ctx.types c.end_attribute-made.ensures.types) _ _ _ _ _ _ _ _ e c.in-Attribute.kind w.1 c.in-Attribute.is w.0 w.2 w.3)
    (c.end_attribute-made.ensures.made _ said.parts)

pub returns-in-Attribute-clause-refused : goal.returns-in-Attribute-clause-refused
returns-in-Attribute-clause-refused g c text o at next ts e f wrong =
    let said = says_read c.deref-in-Attribute.ensures (in_it _ _ _ _ _ _ _ _ _ _ e (body.Attribute c.in-Attribute.kind) c.in-Attribute.is) in
    let w = c.end_attribute-made.ensures.refused _ ts said.parts said.tokens f wrong in
    attribute_refused _ _ _ _ _ (keeps_keys c.args.ctx.now.types c.end_attribute-made.new.ctx.types c.end_attribute-made.ensures.types) _ _ c.end_attribute-made.new.self.here _ _ _ _ _ e c.in-Attribute.kind w.0 f c.in-Attribute.is w.1 w.2

pub returns-in-List-clause-ended : goal.returns-in-List-clause-ended
returns-in-List-clause-ended g c text o at next ts e =
    let tokens = c.deref-in-List-2.ensures.value ∙ ap (λ x. x.tokens.items) c.deref-in-List.ensures in
    on_ok_weaker c.put_all-made.result
    (λ w. ended_list _ _ _ _ _ (λ i key h. h) _ _ _ _ _ _ _ _ e c.in-List.members _ c.in-List.is w tokens)
    c.put_all-made.ensures.put

pub returns-in-Item-clause-ended : goal.returns-in-Item-clause-ended
returns-in-Item-clause-ended g c text o at next ts e =
    let outer = outer_list _ _ _ _ _ _ _ _ _ _ e c.in-Item.is in
    let parts = c.replace-parts.ensures.value ∙ ap (λ x. x.parts) c.deref_mut.ensures.value in
    let tokens = c.deref-in-Item-2.ensures.value ∙ (ap (λ x. x.tokens.items) c.deref-in-Item.ensures ∙ ap (λ x. x.tokens.items) c.deref_mut.ensures.value) in
    on_ok_weaker c.end_item-made.result
    (λ w. ended_item _ _ _ _ _ (λ i key h. h) _ _ _ _ _ _ _ _ e outer.0 w.0 _ c.in-Item.is outer.1 w.1 tokens (w.2 ∙ ap (λ x. outer.0.items ++ x ∷ []) parts))
    (c.end_item-made.ensures.here outer.0 outer.1)

pub returns-in-Choice-clause-ended : goal.returns-in-Choice-clause-ended
returns-in-Choice-clause-ended g c text o at next ts e =
    let parts = c.replace-parts-in-Choice.ensures.value ∙ ap (λ x. x.parts) c.deref_mut-in-Choice.ensures.value in
    let tokens = c.deref-in-Choice-2.ensures.value ∙ (ap (λ x. x.tokens.items) c.deref-in-Choice.ensures ∙ ap (λ x. x.tokens.items) c.deref_mut-in-Choice.ensures.value) in
    on_ok_weaker c.put_all-made-in-Choice.result
    (λ w. ended_choice _ _ _ _ _ (λ i key h. h) _ _ _ _ _ _ _ _ e c.in-Choice.number _ _ c.in-Choice.is w tokens parts)
    c.put_all-made-in-Choice.ensures.put

pub returns-in-Operation-clause-ended : goal.returns-in-Operation-clause-ended
returns-in-Operation-clause-ended g c text o at next ts e =
    let said = says_read c.deref-in-Operation.ensures (in_it _ _ _ _ _ _ _ _ _ _ e (body.Operation c.in-Operation.open) c.in-Operation.is) in
    on_ok_both c.end_operation-made.result (c.end_operation-made.ensures.made _ said.parts) c.end_operation-made.ensures.here
    (λ w h. ended_operation _ _ _ _ _ (keeps_keys c.args.ctx.now.types c.end_operation-made.new.ctx.types c.end_operation-made.ensures.types) _ _ _ _ _ _ _ _ e c.in-Operation.open c.in-Operation.is w.0 w.1 h)

pub returns-in-Operation-clause-refused : goal.returns-in-Operation-clause-refused
returns-in-Operation-clause-refused g c text o at next ts e f wrong =
    let said = says_read c.deref-in-Operation.ensures (in_it _ _ _ _ _ _ _ _ _ _ e (body.Operation c.in-Operation.open) c.in-Operation.is) in
    operation_refused _ _ _ _ _ (keeps_keys c.args.ctx.now.types c.end_operation-made.new.ctx.types c.end_operation-made.ensures.types) _ _ c.end_operation-made.new.self.here _ _ _ _ _ e c.in-Operation.open f c.in-Operation.is
    (c.end_operation-made.ensures.refused _ ts said.parts said.tokens f wrong)

pub returns-in-Operands-clause-ended : goal.returns-in-Operands-clause-ended
returns-in-Operands-clause-ended g c text o at next ts e =
    let outer = outer_of_operands _ _ _ _ _ _ _ _ _ _ e c.in-Operands.tokens c.in-Operands.is in
    on_ok_weaker c.end_operands-made.result
    (λ w. ended_operands _ _ _ _ _ (λ i key h. h) _ _ _ _ _ _ _ _ e outer.0 w.0 c.in-Operands.tokens c.in-Operands.is outer.1 w.1 w.2)
    (c.end_operands-made.ensures.here outer.0 outer.1)

pub returns-in-Successor-clause-ended : goal.returns-in-Successor-clause-ended
returns-in-Successor-clause-ended g c text o at next ts e =
    let outer = outer_of_edge _ _ _ _ _ _ _ _ _ _ e c.in-Successor.tokens c.in-Successor.is in
    on_ok_weaker c.end_successor-made.result
    (λ w. ended_edge _ _ _ _ _ (λ i key h. h) _ _ _ _ _ _ _ _ e outer.0 w.0 c.in-Successor.tokens c.in-Successor.is outer.1 w.1 w.2)
    (c.end_successor-made.ensures.here outer.0 outer.1)

pub returns-in-Region-clause-ended : goal.returns-in-Region-clause-ended
returns-in-Region-clause-ended g c text o at next ts e =
    let outer = outer_of_region _ _ _ _ _ _ _ _ _ _ e c.in-Region.blocks c.in-Region.is in
    on_ok_weaker c.end_region.result
    (λ w. ended_region _ _ _ _ _ (λ i key h. h) _ _ _ _ _ _ _ _ e outer.0 w.0 c.in-Region.blocks c.in-Region.is outer.1 w.1 w.2)
    (c.end_region.ensures.here outer.0 outer.1)

pub returns-clause-ended : goal.returns-clause-ended
returns-clause-ended g c text o at next ts e =
    let outer = outer_region _ _ _ _ _ _ _ _ _ _ e c.in-Block.open c.in-Block.is in
    on_ok_weaker c.end_block.result
    (λ w. ended_block _ _ _ _ _ (λ i key h. h) _ _ _ _ _ _ _ _ e c.in-Block.open outer.0 w.0 c.in-Block.is outer.1 w.1)
    (c.end_block.ensures.here outer.0 outer.1)

pub end_operation-made-requires-clause-shown : goal.end_operation-made-requires-clause-shown
end_operation-made-requires-clause-shown g c =
    let w = c.requires.going in
    let e = w.2 in
    (_, parts_read c.deref-in-Operation.ensures _ _ _ (operation_shown _ _ e.0 _ _ _ w.0 c.args.self.now c.args.ended c.in-Operation.open _ w.1.here w.1.around (sym w.1.made) c.in-Operation.is _ _ _ e.3.holds e.3.made e.4.out))

pub end_operation-made-requires-clause-can : goal.end_operation-made-requires-clause-can
end_operation-made-requires-clause-can g c =
    let w = c.requires.going in
    let e = w.2 in
    operation_can _ _ e.0 _ _ _ w.0 c.args.self.now c.args.ended c.in-Operation.open _ w.1.here w.1.around (sym w.1.made) c.in-Operation.is _ _ _ e.3.holds e.3.made e.4.out

pub returns-in-Operation-clause-raised : goal.returns-in-Operation-clause-raised
returns-in-Operation-clause-raised g c whole text p next w at goes =
    operation_raised _ _ text _ _ _ whole c.args.self.now c.args.ended c.in-Operation.open _ w.here w.around (sym w.made) c.in-Operation.is _ _ next at.holds at.made goes.out
    _ _ c.end_operation-made.new.self (ap (λ v. v.items) c.end_operation-made.ensures.around.around) _ _ c.end_operation-made.result
    (λ shown. c.end_operation-made.ensures.ends _ (parts_read c.deref-in-Operation.ensures _ _ _ shown)) (λ shown. c.end_operation-made.ensures.made _ (parts_read c.deref-in-Operation.ensures _ _ _ shown))
    (on_ok_both c.end_operation-made.result c.end_operation-made.ensures.given c.end_operation-made.ensures.here (λ x y. (x.counter, y)))

pub returns-in-Operation-clause-full : goal.returns-in-Operation-clause-full
returns-in-Operation-clause-full g c whole text p next w at goes wrong =
    operation_full _ _ text _ _ _ whole c.args.self.now c.args.ended c.in-Operation.open _ w.here w.around (sym w.made) c.in-Operation.is _ _ next at.holds at.made goes.out (c.end_operation-made.ensures.full wrong)

pub returns-in-Region-clause-raised : goal.returns-in-Region-clause-raised
returns-in-Region-clause-raised g c whole text p next w at goes =
    region_raised _ _ text _ _ _ whole c.end_region.new.self c.args.ended c.args.self.now.here c.args.self.now.around.items _ w.here w.around
    (ap (λ v. v.items) c.end_region.ensures.around.around) (c.end_region.ensures.assembly ∙ sym w.made) _ _ next _ c.end_region.result at.holds at.made goes.out _ c.in-Region.blocks c.in-Region.is
    (λ o is. c.end_region.ensures.here o is)

pub returns-clause-raised : goal.returns-clause-raised
returns-clause-raised g c whole text p next w at goes =
    block_raised _ _ text _ _ _ whole c.end_block.new.self c.args.ended c.args.self.now.here c.args.self.now.around.items _ w.here w.around
    (ap (λ v. v.items) c.end_block.ensures.around.around) (c.end_block.ensures.assembly ∙ sym w.made) _ _ next _ c.end_block.result at.holds at.made goes.out goes.may c.in-Block.open c.in-Block.is
    (λ bs is. c.end_block.ensures.here bs is)

pub returns-in-Text-clause-raised : goal.returns-in-Text-clause-raised
returns-in-Text-clause-raised g c whole text p next w at goes =
    text_stays _ _ text _ _ _ whole c.args.ended c.args.self.now.here c.args.self.now.around.items _ w.here w.around _ _ next at.holds at.made goes.out c.in-Text.is

pub returns-in-Type-clause-raised : goal.returns-in-Type-clause-raised
returns-in-Type-clause-raised g c whole text p next w at goes =
    type_raised _ _ text _ _ _ _ whole c.end_type-made.new.self c.args.ended c.args.self.now.here c.args.self.now.around.items _ w.here w.around
    (ap (λ v. v.items) c.end_type-made.ensures.around.around)
    (record { same = interned_same c.args.ctx.now c.end_type-made.new.ctx c.end_type-made.ensures.program c.end_type-made.ensures.types; counter = ap (λ q. q.counter) c.end_type-made.ensures.program })
    (c.end_type-made.ensures.assembly ∙ sym w.made) _ _ next _ c.end_type-made.result at.holds at.made goes.out
    c.in-Type.kind _ c.in-Type.is (λ ps shown. c.end_type-made.ensures.made ps (parts_read c.deref.ensures _ _ _ shown))

pub returns-in-Attribute-clause-raised : goal.returns-in-Attribute-clause-raised
returns-in-Attribute-clause-raised g c whole text p next w at goes =
    attribute_raised _ _ text _ _ _ _ whole c.end_attribute-made.new.self c.args.ended c.args.self.now.here c.args.self.now.around.items _ w.here w.around
    (ap (λ v. v.items) c.end_attribute-made.ensures.around.around)
    (record { same = interned_same c.args.ctx.now c.end_attribute-made.new.ctx c.end_attribute-made.ensures.program c.end_attribute-made.ensures.types; counter = ap (λ q. q.counter) c.end_attribute-made.ensures.program })
    (c.end_attribute-made.ensures.assembly ∙ sym w.made) _ _ next _ c.end_attribute-made.result at.holds at.made goes.out
    c.in-Attribute.kind _ c.in-Attribute.is (λ ps shown. c.end_attribute-made.ensures.made ps (parts_read c.deref-in-Attribute.ensures _ _ _ shown))

pub returns-in-List-clause-raised : goal.returns-in-List-clause-raised
returns-in-List-clause-raised g c whole text p next w at goes =
    list_raised _ _ text _ _ _ _ whole (record c.args.self.now { here = c.put_all-made.new.self }) c.args.ended c.args.self.now.here c.args.self.now.around.items _ w.here w.around
    refl (nothing_made _) (sym w.made) _ _ next _ c.put_all-made.result at.holds at.made goes.out _ c.in-List.members c.in-List.is c.put_all-made.ensures.put

pub returns-in-Choice-clause-raised : goal.returns-in-Choice-clause-raised
returns-in-Choice-clause-raised g c whole text p next w at goes =
    choice_raised _ _ text _ _ _ _ whole (record c.args.self.now { here = c.put_all-made-in-Choice.new.self }) c.args.ended c.args.self.now.here c.args.self.now.around.items _ w.here w.around
    refl (nothing_made _) (sym w.made) _ _ next _ c.put_all-made-in-Choice.result at.holds at.made goes.out _ c.in-Choice.number _ c.in-Choice.is c.put_all-made-in-Choice.ensures.put

pub returns-in-Item-clause-raised : goal.returns-in-Item-clause-raised
returns-in-Item-clause-raised g c whole text p next w at goes =
    let outer = list_around _ _ text _ _ _ whole c.args.ended c.args.self.now.here c.args.self.now.around.items _ w.here w.around _ _ next at.holds at.made goes.out c.in-Item.is in
    item_raised _ _ text _ _ _ _ whole c.end_item-made.new.self c.args.ended c.args.self.now.here c.args.self.now.around.items _ w.here w.around
    (ap (λ v. v.items) c.end_item-made.ensures.around.around) (nothing_made _) (c.end_item-made.ensures.assembly ∙ sym w.made) _ _ next _ c.end_item-made.result at.holds at.made goes.out
    _ outer.0 _ c.in-Item.is outer.1 (c.end_item-made.ensures.here outer.0 outer.1)

pub returns-in-Operands-clause-raised : goal.returns-in-Operands-clause-raised
returns-in-Operands-clause-raised g c whole text p next w at goes =
    let outer = operation_around _ _ text _ _ _ whole c.args.ended c.args.self.now.here c.args.self.now.around.items _ w.here w.around _ _ next at.holds at.made goes.out c.in-Operands.tokens c.in-Operands.is in
    operands_raised _ _ text _ _ _ _ whole c.end_operands-made.new.self c.args.ended c.args.self.now.here c.args.self.now.around.items _ w.here w.around
    (ap (λ v. v.items) c.end_operands-made.ensures.around.around) (nothing_made _) (c.end_operands-made.ensures.assembly ∙ sym w.made) _ _ next _ c.end_operands-made.result at.holds at.made goes.out
    _ c.in-Operands.tokens outer.0 c.in-Operands.is outer.1 (c.end_operands-made.ensures.here outer.0 outer.1)

pub returns-in-Successor-clause-raised : goal.returns-in-Successor-clause-raised
returns-in-Successor-clause-raised g c whole text p next w at goes =
    let outer = operation_around_edge _ _ text _ _ _ whole c.args.ended c.args.self.now.here c.args.self.now.around.items _ w.here w.around _ _ next at.holds at.made goes.out c.in-Successor.tokens c.in-Successor.is in
    edge_raised _ _ text _ _ _ _ whole c.end_successor-made.new.self c.args.ended c.args.self.now.here c.args.self.now.around.items _ w.here w.around
    (ap (λ v. v.items) c.end_successor-made.ensures.around.around) (nothing_made _) (c.end_successor-made.ensures.assembly ∙ sym w.made) _ _ next _ c.end_successor-made.result at.holds at.made goes.out
    _ refl c.in-Successor.tokens outer.0 c.in-Successor.is outer.1 (c.end_successor-made.ensures.here outer.0 outer.1)

pub returns-in-Type-clause-undone : goal.returns-in-Type-clause-undone
returns-in-Type-clause-undone g c = on_err_any _ (undone_so _ _ _ _ (interned_same c.args.ctx.now c.end_type-made.new.ctx c.end_type-made.ensures.program c.end_type-made.ensures.types)
    (ap (λ z. z.loose.items) c.end_type-made.ensures.assembly))

pub returns-in-Attribute-clause-undone : goal.returns-in-Attribute-clause-undone
returns-in-Attribute-clause-undone g c = on_err_any _ (undone_so _ _ _ _ (interned_same c.args.ctx.now c.end_attribute-made.new.ctx c.end_attribute-made.ensures.program c.end_attribute-made.ensures.types)
    (ap (λ z. z.loose.items) c.end_attribute-made.ensures.assembly))
