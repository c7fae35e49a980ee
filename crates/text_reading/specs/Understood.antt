-- What a context has of a text that is read.
use Rattle.std.specs.Prelude.{◌≡◌, ℕ, ◌+◌, ◌<◌, [], ◌∷◌, List, Some, length, slice_get}
use Rattle.ir_program.specs.declared.handles.Ptr.{Ptr}
use Rattle.ir_program.specs.declared.handles.Operation.{Operation}
use Rattle.ir_program.specs.declared.handles.Value.{Value}
use Rattle.ir_program.specs.declared.handles.IRNode.TheVariants.{Operation as OperationNode}
use Rattle.ir_print.specs.Pieces.{Entity}
use Rattle.ir_print.specs.Shown.{Saying}
use Rattle.ir_forest.specs.Closed.{definitions_of}
use Rattle.ir_forest.specs.Language.{Language}
use Rattle.ir_rereading.specs.Texts.{Says}
use Rattle.text_dialect.specs.Seen.{Seen}
use Rattle.text_dialect.specs.Standing.{StandsForTexts}
use Rattle.text_frames.specs.Raised.{HoldsAllNew}
use Rattle.text_rereading.specs.Rereading.{Numbering, Named}

-- The operation has a tree that the text says, and its blocks have the labels of the tree and no attributes. Its definitions
-- are values with numbers of their own, all below the counter, which stood at the first number and has moved on, to the second,
-- by the number of the definitions.
pub record IsSaid {K A T : Type 0} (says : Saying K A T) (l : Language) (cs : List ℕ) (s : Seen K A T) (first next : ℕ)
    (root : Ptr Operation) : Type 0 where
  pub tree : Entity ℕ
  pub numbering : Numbering
  pub said : Says l cs tree
  pub stands : StandsForTexts says (Named numbering) s root tree
  pub distinct : (i j : ℕ) (v w : Value) → slice_get numbering.values i ≡ Some v → slice_get numbering.values j ≡ Some w
      → v.number ≡ w.number → i ≡ j
  pub below : (i : ℕ) (v : Value) → slice_get numbering.values i ≡ Some v → v.number < next
  pub counted : next ≡ first + length (definitions_of tree)

-- The operation was read: it is what the text says, is in no block, and all that has come is inside it; what was there before
-- is as it was.
pub record IsRead {K A T : Type 0} (says : Saying K A T) (l : Language) (cs : List ℕ) (start s : Seen K A T)
    (first next : ℕ) (root : Ptr Operation) : Type 0 where
  pub tells : IsSaid says l cs s first next root
  pub new : HoldsAllNew start s (OperationNode root ∷ [])
