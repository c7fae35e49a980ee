-- What was read of a context is what texts need of it.
use Rattle.std.proofs.Common.{◌≡◌, List, [], sym, ap, ◌∙◌}
use Rattle.std.specs.Prelude.{Some, option_map, unwrap_or}
use Rattle.ir_types.specs.Views.{TypesView}
use Rattle.ir_program.specs.declared.handles.Ptr.{Ptr}
use Rattle.ir_program.specs.declared.handles.Operation.{Operation}
use Rattle.ir_program.specs.declared.handles.Region.{Region}
use Rattle.ir_program.specs.declared.handles.BasicBlock.{BasicBlock}
use Rattle.ir_program.specs.declared.handles.Value.{Value}
use Rattle.ir_program.specs.Lists.{operations_in, blocks_in, regions_in}
use Rattle.ir_program.specs.Program.{TypedValue, RegionView, operation_at, block_at, region_at, results_at, arguments_at}
use Rattle.ir_program.specs.Rows.{operands_at, successors_at}
use Rattle.ir_context.specs.Kept.{kind_at, label_at}
use Rattle.ir_context.specs.Views.{ContextView}
use Rattle.ir_context.specs.declared.notes.OperationData.{OperationData}
use Rattle.ir_context.specs.declared.notes.BlockNotes.{BlockNotes}
use Rattle.text_dialect.specs.Seen.{SeenOperation, SeenBlock, Seen, seen, seen_operation, seen_block}
use Rattle.text_printing.proofs.Owed.{found}

-- an operation is of this kind, and has these results, operands, successors and regions
pub record HasRows {K A : Type 0} (o : SeenOperation K A) (k : K) (rs : List TypedValue) (vs : List Value)
    (bs : List (Ptr BasicBlock)) (gs : List (Ptr Region)) : Type 0 where
  pub kind : o.kind ≡ k
  pub results : o.results ≡ rs
  pub operands : o.operands ≡ vs
  pub successors : o.successors ≡ bs
  pub regions : o.regions ≡ gs

-- the same of the one under a handle
pub record IsOperationRead {K A T : Type 0} (s : Seen K A T) (op : Ptr Operation) (kind : K) (results : List TypedValue)
    (operands : List Value) (successors : List (Ptr BasicBlock)) (regions : List (Ptr Region)) : Type 0 where
  pub read : (o : SeenOperation K A) → s.operation op ≡ Some o → HasRows o kind results operands successors regions

module _ {D TypeKind AttrKind TypeBody Saved Location OpKind Attr TypeKey : Type 0}
    (c : ContextView (OperationData D TypeKind AttrKind TypeBody Saved Location OpKind Attr TypeKey)
    (BlockNotes D TypeKind AttrKind TypeBody Saved Location OpKind Attr TypeKey) (TypesView TypeKey TypeBody Saved)) where
  pub operation_read : (op : Ptr Operation) (kind : OpKind) → kind_at c.program op ≡ Some kind →
      IsOperationRead (seen c) op kind (results_at c.program op) (operands_at c.program op) (successors_at c.program op)
      (regions_in c.program op)
  operation_read op kind of = record { read = one }
    where
      one : (o : SeenOperation OpKind Attr) → (seen c).operation op ≡ Some o →
          HasRows o kind (results_at c.program op) (operands_at c.program op) (successors_at c.program op)
          (regions_in c.program op)
      one o h =
          let w = found seen_operation (operation_at c.program op) o h in
          let ek : Some w.0.payload.kind ≡ Some kind =
          sym (ap (λ y. option_map (λ d. d.kind) (option_map (λ z. z.payload) y)) w.1) ∙ of in
          let inner : w.0.payload.kind ≡ kind = cc in
          record {
            kind = ap (λ z. z.kind) (sym w.2) ∙ inner;
            results = ap (λ z. z.results) (sym w.2) ∙ sym (ap (λ y. unwrap_or (option_map (λ z. z.results) y) []) w.1);
            operands = ap (λ z. z.operands) (sym w.2) ∙ sym (ap (λ y. unwrap_or (option_map (λ z. z.operands) y) []) w.1);
            successors = ap (λ z. z.successors) (sym w.2) ∙ sym (ap (λ y. unwrap_or (option_map (λ z. z.successors) y) []) w.1);
            regions = ap (λ z. z.regions) (sym w.2) ∙ sym (ap (λ y. unwrap_or (option_map (λ z. z.regions) y) []) w.1);
          }

  pub region_read : (r : Ptr Region) (bs : List (Ptr BasicBlock)) → (seen c).region r ≡ Some bs → bs ≡ blocks_in c.program r
  region_read r bs h =
      let w = found (λ (v : RegionView). v.blocks) (region_at c.program r) bs h in
      sym w.2 ∙ sym (ap (λ y. unwrap_or (option_map (λ z. z.blocks) y) []) w.1)

  pub block_read : (b : Ptr BasicBlock) (v : SeenBlock) → (seen c).block b ≡ Some v →
      (v.arguments ≡ arguments_at c.program b) × (v.operations ≡ operations_in c.program b)
  block_read b v h =
      let w = found seen_block (block_at c.program b) v h in (
        ap (λ z. z.arguments) (sym w.2) ∙ sym (ap (λ y. unwrap_or (option_map (λ z. z.arguments) y) []) w.1),
        ap (λ z. z.operations) (sym w.2) ∙ sym (ap (λ y. unwrap_or (option_map (λ z. z.operations) y) []) w.1),
      )

  pub label_read : (b : Ptr BasicBlock) (v : SeenBlock) → (seen c).block b ≡ Some v → label_at c.program b ≡ Some v.label
  label_read b v h =
      let w = found seen_block (block_at c.program b) v h in
      ap (λ y. option_map (λ n. n.label) (option_map (λ z. z.payload) y)) w.1 ∙ ap (λ z. Some z.label) w.2
