-- The statements of the laws.
use Rattle.std.specs.Prelude.{◌≡◌, ℕ, List, [], Some, slice_get}
use Rattle.ir_forest.specs.Closed.{IsClosedTree, IsNumbered}
use Rattle.ir_print.specs.Pieces.{Entity}
use Rattle.ir_program.specs.declared.handles.Operation.{Operation}
use Rattle.ir_program.specs.declared.handles.Ptr.{Ptr}
use Rattle.ir_program.specs.declared.handles.Value.{Value}
use Rattle.ir_trees.specs.Searched.{AreDistinct, block_names}
use Rattle.ir_trees.specs.Stands.{StandsFor}
use Rattle.kit.specs.Context.{KitContext, KitTree}
use Rattle.opt_trees.specs.Occurrences.{Has, defined_in}
use Rattle.text_dialect.specs.Seen.{seen}
use Rattle.text_dialect.specs.Standing.{StandsForTexts}
use Rattle.text_rereading.specs.Rereading.{Numbering, Named}
use Rattle.kit_language.specs.Language.{kit_language}
use Rattle.kit_ruled_passes.specs.Edges.{HasScopedEdges}
use Rattle.kit_ruled_passes.specs.Scopes.{IsNone, Scoped}
use Rattle.kit.specs.Says.{says}
use Rattle.kit_writable_trees.specs.Writable.{IsWritableRoot}

-- an operation of a context has a tree of texts: one that is closed, whose definitions and blocks have the numbers from 0 on, in
-- the order of the text, and are these values and blocks; no two of the values have one number
pub record HasText (s : KitContext) (root : Ptr Operation) : Type 0 where
  pub numbering : Numbering
  pub text : Entity ℕ
  pub distinct : (i j : ℕ) (v w : Value) → slice_get numbering.values i ≡ Some v → slice_get numbering.values j ≡ Some w
      → v.number ≡ w.number → i ≡ j
  pub stands : StandsForTexts says (Named numbering) (seen s) root text
  pub closed : IsClosedTree kit_language text
  pub numbered : IsNumbered text

-- values of one number are one
abbrev pub AreToldByNumbers : List Value → Type 0
AreToldByNumbers vs = (v w : Value) → Has v vs → Has w vs → v.number ≡ w.number → v ≡ w

-- an operation that can be written has one, where it has no results, takes no operands and goes on to no block, each operation in
-- it takes values of its own block and of its region's entry block alone and goes on to blocks of its own region alone, no value
-- is defined twice, nor two with one number, and no two blocks have one name
abbrev pub WritableHaveTexts : Type 0
WritableHaveTexts = (s : KitContext) (root : Ptr Operation) (t : KitTree) → StandsFor s.program root t →
    IsWritableRoot s.types.keys t → t.head.results ≡ [] → t.head.operands ≡ [] → t.head.successors ≡ [] →
    Scoped t.regions IsNone → HasScopedEdges t → AreDistinct (defined_in t.regions) →
    AreToldByNumbers (defined_in t.regions) → AreDistinct (block_names t) → HasText s root
