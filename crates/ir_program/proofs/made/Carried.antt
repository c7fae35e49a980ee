-- Another payload of an operation or a block.
use Rattle.std.proofs.Common.{◌≡◌, Some, option_map, refl, sym, ap, ◌∙◌, subst}
use Rattle.ir_arena.specs.Arena.{get}
use Rattle.ir_program.specs.Program.{Program, OperationView, BlockView, operation_of, block_of}
use Rattle.ir_program.specs.Sound.{IsProgram}
use Rattle.ir_program.specs.Edits.{EditsOperation, EditsBlock}
use Rattle.ir_program.specs.Lent.{payload_at, block_payload_at, with_payload, with_block_payload, operations_with, blocks_with}
use Rattle.ir_program.specs.declared.handles.Ptr.{Ptr}
use Rattle.ir_program.specs.declared.handles.Operation.{Operation}
use Rattle.ir_program.specs.declared.handles.BasicBlock.{BasicBlock}
use Rattle.ir_program.specs.declared.records.OperationRecord.{OperationRecord}
use Rattle.ir_program.specs.declared.records.BlockRecord.{BlockRecord}
use Rattle.ir_program.proofs.made.Frames.{with_operation, with_block, operation-edited, block-edited}
use Rattle.ir_program.proofs.defined.Joins.{same-record-sound}
use Rattle.ir_program.proofs.defined.BlockJoins.{same-block-sound}

module _ {O B : Type 0} (c d : Program O B) (view : c ≡ d) (p : Ptr Operation) (o : OperationRecord O) (here : get c.forest.ops p.key ≡ Some o) where
  abbrev lent : O → Program O B
  lent w = with_operation c p o (record o { payload = w }) here c.values c.targets c.counter

  pub payload-sound : IsProgram c → (w : O) → IsProgram (lent w)
  payload-sound inv w = same-record-sound c p o (record o { payload = w }) here refl refl c.values refl inv refl

  pub payload-is : (w : O) → lent w ≡ with_payload d p w
  payload-is w = ap (λ x. record c { forest = record c.forest { ops = operations_with c.forest.ops p.key w x } }) (sym here) ∙ ap (λ y. with_payload y p w) view

  pub payload-seen : payload_at d p ≡ Some o.payload
  payload-seen = ap (λ y. payload_at y p) (sym view) ∙ ap (λ x. option_map (λ (v : OperationView O). v.payload) (option_map (operation_of c p) x)) here

  pub payload-edits : (w : O) → EditsOperation d (with_payload d p w) p (λ v. record v { payload = w })
  payload-edits w = subst (λ y. EditsOperation y (with_payload d p w) p (λ v. record v { payload = w })) view
      (subst (λ y. EditsOperation c y p (λ v. record v { payload = w })) (payload-is w)
      (operation-edited c p o (record o { payload = w }) here c.values c.targets c.counter (λ v. record v { payload = w }) refl (λ q r ne e. refl)))

module _ {O B : Type 0} (c d : Program O B) (view : c ≡ d) (p : Ptr BasicBlock) (b : BlockRecord B) (here : get c.forest.blocks p.key ≡ Some b) where
  abbrev lent_block : B → Program O B
  lent_block w = with_block c p b (record b { payload = w }) here c.values c.targets c.counter

  pub block_payload-sound : IsProgram c → (w : B) → IsProgram (lent_block w)
  block_payload-sound inv w = same-block-sound c p b (record b { payload = w }) here refl c.values refl inv refl

  pub block_payload-is : (w : B) → lent_block w ≡ with_block_payload d p w
  block_payload-is w = ap (λ x. record c { forest = record c.forest { blocks = blocks_with c.forest.blocks p.key w x } }) (sym here) ∙ ap (λ y. with_block_payload y p w) view

  pub block_payload-seen : block_payload_at d p ≡ Some b.payload
  block_payload-seen = ap (λ y. block_payload_at y p) (sym view) ∙ ap (λ x. option_map (λ (v : BlockView B). v.payload) (option_map (block_of c p) x)) here

  pub block_payload-edits : (w : B) → EditsBlock d (with_block_payload d p w) p (λ v. record v { payload = w })
  block_payload-edits w = subst (λ y. EditsBlock y (with_block_payload d p w) p (λ v. record v { payload = w })) view
      (subst (λ y. EditsBlock c y p (λ v. record v { payload = w })) (block_payload-is w)
      (block-edited c p b (record b { payload = w }) here c.values c.targets c.counter (λ v. record v { payload = w }) refl (λ q r e. refl)))
