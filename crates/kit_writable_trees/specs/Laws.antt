-- The statements of the laws.
use Rattle.std.specs.Prelude.{ℕ}
use Rattle.ir_forest.specs.Closed.{IsClosedTree}
use Rattle.ir_print.specs.Pieces.{Entity}
use Rattle.ir_program.specs.declared.handles.Operation.{Operation}
use Rattle.ir_program.specs.declared.handles.Ptr.{Ptr}
use Rattle.ir_trees.specs.Stands.{StandsFor}
use Rattle.kit.specs.Context.{KitContext, KitTree}
use Rattle.text_dialect.specs.Seen.{seen}
use Rattle.text_dialect.specs.Standing.{StandsForTexts}
use Rattle.text_rereading.specs.Rereading.{Numbering, Named}
use Rattle.kit_language.specs.Language.{kit_language}
use Rattle.kit.specs.Says.{says}
use Rattle.kit_writable_trees.specs.Writable.{IsWritableRoot}

-- an operation that stands for a closed tree of texts can be written
abbrev pub TextsAreWritable : Type 0
TextsAreWritable = (s : KitContext) (root : Ptr Operation) (numbering : Numbering) (text : Entity ℕ) (t : KitTree) →
    StandsForTexts says (Named numbering) (seen s) root text → IsClosedTree kit_language text → StandsFor s.program root t →
    IsWritableRoot s.types.keys t
