-- The statement of the law.
use Rattle.std.specs.Prelude.{◌≡◌, ℕ, List, Some, slice_get}
use Rattle.ir_forest.specs.Closed.{IsSameModule}
use Rattle.ir_print.specs.Pieces.{Entity}
use Rattle.ir_program.specs.declared.handles.Operation.{Operation}
use Rattle.ir_program.specs.declared.handles.Ptr.{Ptr}
use Rattle.ir_program.specs.declared.handles.BasicBlock.{BasicBlock}
use Rattle.ir_program.specs.declared.handles.Value.{Value}
use Rattle.ir_program.specs.Replacing.{same_value}
use Rattle.ir_trees.specs.Stands.{by_handle, StandsFor}
use Rattle.ir_types.specs.Interned.{key_at}
use Rattle.kit.specs.Context.{KitContext, KitTree}
use Rattle.text_dialect.specs.Seen.{seen}
use Rattle.text_dialect.specs.Standing.{StandsForTexts}
use Rattle.text_rereading.specs.Rereading.{Numbering, Named}
use Rattle.kit_behaviour.specs.Machine.{FunctionsByPath}
use Rattle.kit_behaviour.specs.Places.{Place}
use Rattle.kit.specs.Says.{says}
use Rattle.kit_ruled_views.specs.Programs.{IsProgramOf}

-- no two of the values have one number, and no block comes twice
pub record HaveOwnNumbers (numbering : Numbering) : Type 0 where
  pub values : (i j : ℕ) (v w : Value) → slice_get numbering.values i ≡ Some v → slice_get numbering.values j ≡ Some w →
      v.number ≡ w.number → i ≡ j
  pub blocks : (i j : ℕ) (b : Ptr BasicBlock) → slice_get numbering.blocks i ≡ Some b → slice_get numbering.blocks j ≡ Some b →
      i ≡ j

-- modules that stand in two contexts for trees of texts that are the same but for their labels have the same program
abbrev pub TextsHaveOneProgram : Type 0
TextsHaveOneProgram = (text other_text : Entity ℕ) (numbered : List ℕ → ℕ) (s z : KitContext)
    (root other : Ptr Operation) (numbering others : Numbering) (t u : KitTree) (p q : FunctionsByPath Place) →
    IsSameModule text other_text → HaveOwnNumbers numbering → HaveOwnNumbers others →
    StandsForTexts says (Named numbering) (seen s) root text →
    StandsForTexts says (Named others) (seen z) other other_text →
    StandsFor s.program root t → StandsFor z.program other u →
    IsProgramOf {N = by_handle} same_value (key_at s.types) numbered t p →
    IsProgramOf {N = by_handle} same_value (key_at z.types) numbered u q → p ≡ q
