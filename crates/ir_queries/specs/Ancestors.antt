-- What contracts say of the nearest of the operations, or of the blocks, around an entity, and of the order in a block.
use Rattle.std.specs.Prelude.{◌≡◌, ◌≢◌, ℕ, ◌<◌, Bool, Option, Some, IsSomeAnd, IsTrue, MatchOption, slice_get}
use Rattle.ir_context.specs.Kept.{kind_at}
use Rattle.ir_context.specs.declared.notes.OperationData.{OperationData}
use Rattle.ir_program.specs.Lists.{operations_in, StandsInside}
use Rattle.ir_program.specs.Program.{Program}
use Rattle.ir_program.specs.declared.handles.BasicBlock.{BasicBlock}
use Rattle.ir_program.specs.declared.handles.IRNode.{IRNode}
use Rattle.ir_program.specs.declared.handles.Operation.{Operation}
use Rattle.ir_program.specs.declared.handles.Ptr.{Ptr}

-- `node` says whether operations or blocks are meant. One is around e where e is it or stands in it, however far down.
module _ {O B E : Type 0} (node : Ptr E → IRNode) (c : Program O B) (e : IRNode) (Holds : Ptr E → Type 0) where
  -- it is around e, the fact holds of it, and each one around e of which the fact holds is it, or is around it: further out
  pub record IsNearest (found : Ptr E) : Type 0 where
    pub around : StandsInside c (node found) e
    pub holds : Holds found
    pub nearest : (other : Ptr E) → StandsInside c (node other) e → Holds other → StandsInside c (node other) (node found)

  -- the fact holds of none around e
  abbrev pub HoldsOfNone : Type 0
  HoldsOfNone = (other : Ptr E) → StandsInside c (node other) e → Holds other → ⊥

  -- the nearest one of which the fact holds is answered, `None` exactly where it holds of none
  abbrev pub AnswersNearest : Option (Ptr E) → Type 0
  AnswersNearest answer = MatchOption answer HoldsOfNone IsNearest

-- both operations stand in one block, the first before the second
pub record Precedes {O B : Type 0} (c : Program O B) (a b : Ptr Operation) : Type 0 where
  pub block : Ptr BasicBlock
  pub first : ℕ
  pub second : ℕ
  pub here : slice_get (operations_in c block) first ≡ Some a
  pub there : slice_get (operations_in c block) second ≡ Some b
  pub before : first < second

-- a dialect and its types; `passes` is a test of kinds of operations
module _ {D TypeKind AttrKind TypeBody Saved Location OpKind Attr TypeKey B : Type 0} (passes : OpKind → Bool) where
  -- it is another operation than this one, of a kind that passes
  abbrev pub IsOtherOfKind : Program (OperationData D TypeKind AttrKind TypeBody Saved Location OpKind Attr TypeKey) B
      → Ptr Operation → Ptr Operation → Type 0
  IsOtherOfKind c op x = (x ≢ op) × IsSomeAnd (kind_at c x) (λ kind. IsTrue (passes kind))
