-- Which trees of operations of `kit` can be written as texts. What is asked is said of each operation, block and region by
-- itself, in the places where it stands; that operands are in scope, and that edges stay in their region, the rules of the
-- dialect say.
use Rattle.std.specs.Prelude.{◌≡◌, ℕ, suc, List, [], map, Some, length, slice_get}
use Rattle.ir_base.specs.declared.types.TypeHandle.{TypeHandle}
use Rattle.ir_names.specs.Tree.{Trees}
use Rattle.ir_print.specs.Layout.{Deeper, IsFlat, AreFlat}
use Rattle.ir_print.specs.Pieces.{ValueTree, Pieces}
use Rattle.ir_print.specs.Shown.{Said, Pairs, ShowsAll, ShowsType, successors_said}
use Rattle.ir_forest.specs.Bare.{IsBare, AreBare}
use Rattle.ir_forest.specs.Closed.{regions_said}
use Rattle.ir_trees.specs.Names.{Names}
use Rattle.ir_trees.specs.Trees.{Defined, Head, Label, Sort, Regions, Tree, end, operation, block, region, Root}
use Rattle.kit_ops.specs.declared.attributes.KitAttr.{KitAttr}
use Rattle.kit_ops.specs.declared.types.KitType.{KitType}
use Rattle.kit.specs.Says.{says, values}
use Rattle.kit_views.specs.Reading.{kit_contents}

-- what is said of these definitions: their types
abbrev pub types_in : {V : Type 0} → List (Defined V TypeHandle) → List TypeHandle
types_in ds = map (λ d. d.holds) ds

-- how many regions there are
abbrev pub count_of : {N : Names} → Tree N kit_contents Regions → ℕ
count_of end = 0
count_of (region bs rest) = suc (count_of rest)

-- these types, which a context has under the numbers of their handles, are written so; at most d types and attributes stand
-- in one another
pub record AreWritten (types : List KitType) (d : ℕ) (handles : List TypeHandle) : Type 0 where
  pub shapes : List ValueTree
  pub shown : Pairs (ShowsType says types) handles shapes
  pub flat : (i : ℕ) (shape : ValueTree) → slice_get shapes i ≡ Some shape → IsFlat d shape
  pub bare : (i : ℕ) (shape : ValueTree) → slice_get shapes i ≡ Some shape → IsBare shape

module _ {N : Names} (types : List KitType) where
  -- the operation says pieces of a kind that has a text, its results have the types that are read of these pieces, and it goes on
  -- to as many blocks as they say; it has so many regions, and at most d types and attributes stand in one another
  pub record IsWritableHead (d : ℕ) (regions : ℕ) (h : Head N kit_contents) : Type 0 where
    pub kind : ℕ
    pub said : Trees (Said KitAttr)
    pub pieces : Pieces
    pub shapes : List ValueTree
    pub says_it : says.of_operation h.content.kind h.content.notes.attributes (length h.operands) (types_in h.results)
        ≡ Some (kind, said)
    pub shown : ShowsAll says types said pieces
    pub typed : Pairs (ShowsType says types) (types_in h.results) shapes
    pub read : shapes ≡ values.result_types kind pieces
    pub holds : regions_said pieces ≡ regions
    pub flat : AreFlat d pieces
    pub bare : AreBare pieces
    pub counted : successors_said pieces ≡ length h.successors

  -- the block has no attributes, and the types of its arguments have texts
  pub record IsWritableLabel (d : ℕ) (l : Label N kit_contents) : Type 0 where
    pub no_attributes : l.content.attributes ≡ []
    pub arguments : AreWritten types d (types_in l.arguments)

  -- each operation and each block is so, and at most d regions, types and attributes stand in one another
  abbrev pub IsWritable : {s : Sort} → ℕ → Tree N kit_contents s → Type 0
  IsWritable d end = Unit {0}
  IsWritable d (operation h rs rest) = IsWritableHead d (count_of rs) h × IsWritable d rs × IsWritable d rest
  IsWritable d (block l os rest) = IsWritableLabel d l × IsWritable d os × IsWritable d rest
  IsWritable d (region bs rest) = Deeper d (λ e. IsWritable e bs) × IsWritable d rest

  -- so it is of an operation with all that is in it, where at most 64 stand in one another
  pub record IsWritableRoot (t : Root N kit_contents) : Type 0 where
    pub head : IsWritableHead 64 (count_of t.regions) t.head
    pub regions : IsWritable 64 t.regions
