-- What is done to a list is done to what each of its members shows.
use Rattle.std.proofs.Common.{◌≡◌, ℕ, suc, List, [], ◌∷◌, ◌++◌, Some, map, take, drop, insert, remove, subst}
use Rattle.std.proofs.lemmas.List.{map-append, take-map, drop-map}
use Rattle.ir_program.specs.Edits.{EditsBlock, EditsOperation}
use Rattle.ir_program.specs.Lent.{block_payload_at, payload_at}
use Rattle.ir_program.specs.Program.{Program}
use Rattle.ir_program.specs.declared.handles.Ptr.{Ptr}
use Rattle.ir_program.specs.declared.handles.BasicBlock.{BasicBlock}
use Rattle.ir_program.specs.declared.handles.Operation.{Operation}
use Rattle.ir_context.specs.declared.notes.BlockNotes.{BlockNotes}
use Rattle.ir_context.specs.declared.notes.OperationData.{OperationData}
use Rattle.builtin_ops.specs.Names.{ChangesAttributes, ChangesBlockAttributes}

pub map-insert : {X Y : Type 0} (f : X → Y) (xs : List X) (i : ℕ) (x : X) → map f (insert xs i x) ≡ insert (map f xs) i (f x)
map-insert f xs i x =
    let all = map-append f (take i xs) (x ∷ drop i xs) in
    let front = take-map f i xs in
    let back = drop-map f i xs in
    cc

pub map-remove : {X Y : Type 0} (f : X → Y) (xs : List X) (i : ℕ) → map f (remove xs i) ≡ remove (map f xs) i
map-remove f xs i =
    let all = map-append f (take i xs) (drop (suc i) xs) in
    let front = take-map f i xs in
    let back = drop-map f (suc i) xs in
    cc

module _ {D TypeKind AttrKind TypeBody Saved Location OpKind Attr TypeKey : Type 0} where
  -- the payload of an operation changes in its attributes alone
  pub changed : {B : Type 0} (old new : Program (OperationData D TypeKind AttrKind TypeBody Saved Location OpKind Attr TypeKey) B) (op : Ptr Operation) (before now : OperationData D TypeKind AttrKind TypeBody Saved Location OpKind Attr TypeKey) (Change : List (List ℕ × Attr) → List (List ℕ × Attr) → Type 0)
      → payload_at old op ≡ Some before → Change before.notes.attributes now.notes.attributes → now ≡ record before { notes = record before.notes { attributes = now.notes.attributes } }
      → EditsOperation old new op (λ o. record o { payload = now }) → ChangesAttributes old new op Change
  changed old new op before now Change carried change rest edited = record {
    before = before;
    after = now.notes.attributes;
    carried = carried;
    change = change;
    edited = subst (λ (w : OperationData D TypeKind AttrKind TypeBody Saved Location OpKind Attr TypeKey). EditsOperation old new op (λ o. record o { payload = w })) rest edited;
  }

  -- so of a block
  pub block_changed : {O : Type 0} (old new : Program O (BlockNotes D TypeKind AttrKind TypeBody Saved Location OpKind Attr TypeKey)) (block : Ptr BasicBlock) (before now : BlockNotes D TypeKind AttrKind TypeBody Saved Location OpKind Attr TypeKey) (Change : List (List ℕ × Attr) → List (List ℕ × Attr) → Type 0)
      → block_payload_at old block ≡ Some before → Change before.attributes now.attributes → now ≡ record before { attributes = now.attributes }
      → EditsBlock old new block (λ b. record b { payload = now }) → ChangesBlockAttributes old new block Change
  block_changed old new block before now Change carried change rest edited = record {
    before = before;
    after = now.attributes;
    carried = carried;
    change = change;
    edited = subst (λ (w : BlockNotes D TypeKind AttrKind TypeBody Saved Location OpKind Attr TypeKey). EditsBlock old new block (λ b. record b { payload = w })) rest edited;
  }
