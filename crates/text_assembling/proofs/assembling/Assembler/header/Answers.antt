use Rattle.std.proofs.Common.{rules, ◌≡◌, ◌∙◌, ◌∷◌, ◌++◌, [], List, refl, ap, sym, true}
use Rattle.std.proofs.lemmas.List.{with_items_is, places}
use Rattle.ir_characters.specs.Texts.{codes_of}
use Rattle.ir_names.specs.Text.{is_identifier}
use Rattle.ir_program.specs.Program.{arguments_at}
use Rattle.ir_program.specs.declared.handles.DefiningEntity.TheVariants.{Block as ByBlock}
use Rattle.ir_program.specs.declared.handles.BasicBlock.{BasicBlock}
use Rattle.ir_program.specs.declared.handles.Ptr.{Ptr}
use Rattle.ir_program.specs.declared.handles.IRNode.{IRNode}
use Rattle.ir_program.specs.declared.handles.IRNode.TheVariants.{BasicBlock as BlockNode}
use Rattle.text_frames.proofs.BuildingLemmas.Linked.{values_seen}
use Rattle.text_frames.specs.Makes.{types_in}
use Rattle.text_frames.proofs.Defining.{arguments_made, values_made}
use Rattle.text_assembling.proofs.assembling.Assembler.header.Goals as goal

pub returns-clause-made : goal.returns-clause-made
returns-clause-made g c =
    let said : is_identifier (codes_of c.text.result) ≡ true = rw c.text.ensures c.requires.spelt in
    let label = c.in_ok-label.ensures said in
    let types : c.deref-3.result.now ≡ types_in c.args.self.now.here.content.value.parts.items = c.deref-3.ensures.value ∙ c.in_ok-types.ensures ∙ ap types_in (c.deref-2.ensures.value ∙ ap (λ x. x.parts.items) c.deref.ensures) in
    let opened = c.in_ok-block.ensures.opened in
    record {
      id = label.0;
      spelt = label.2 ∙ c.text.ensures;
      block = c.in_ok-block.block;
      opens = rw (← label.1, ← types) opened;
      body = refl;
      numbers = c.clear-2.ensures.items;
      values = λ many. with_items_is c.args.self.now.made.values c.define_arguments.new.values (search (rules, places))
          ∙ values_made (ByBlock c.in_ok-block.block) c.args.ctx.now.program.counter (arguments_at c.open_block.new.ctx.program c.in_ok-block.block) c.deref-3.result.now
          (types_in c.args.self.now.here.content.value.parts.items) c.deref-4.result.now c.args.self.now.here.numbers.items c.deref_mut.result.now c.args.self.now.made.values.items c.define_arguments.new.values
          (sym (values_seen c.open_block.new.ctx (ByBlock c.in_ok-block.block)) ∙ arguments_made _ _ c.in_ok-block.block c.in_ok-label.label c.deref-3.result.now c.args.ctx.now.program.counter opened)
          types c.deref-4.ensures.value c.deref_mut.ensures.value c.define_arguments.ensures many;
      blocks = c.push_reserved-2.ensures.items ∙ ap (λ (bs : List (Ptr BasicBlock)). bs ++ c.in_ok-block.block ∷ []) c.reserve-2.ensures.items;
      pending = refl;
      root = refl;
      loose = c.push_reserved.ensures.items ∙ ap (λ (xs : List IRNode). xs ++ BlockNode c.in_ok-block.block ∷ []) c.reserve.ensures.items;
    }

pub open_block-requires : goal.open_block-requires
open_block-requires g c = record { known = rw (c.deref-3.ensures.value ∙ c.in_ok-types.ensures ∙ ap types_in (c.deref-2.ensures.value ∙ ap (λ x. x.parts.items) c.deref.ensures)) c.requires.known }
