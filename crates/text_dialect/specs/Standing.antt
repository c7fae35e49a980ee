-- Which operations, regions and blocks of a context have which trees of texts.
use Rattle.std.specs.Prelude.{◌≡◌, ℕ, List, [], ◌∷◌, Some, length}
use Rattle.ir_names.specs.Tree.{Trees}
use Rattle.ir_program.specs.Program.{TypedValue}
use Rattle.ir_program.specs.declared.handles.Ptr.{Ptr}
use Rattle.ir_program.specs.declared.handles.Operation.{Operation}
use Rattle.ir_program.specs.declared.handles.Region.{Region}
use Rattle.ir_program.specs.declared.handles.BasicBlock.{BasicBlock}
use Rattle.ir_program.specs.declared.handles.Value.{Value}
use Rattle.ir_print.specs.Pieces.{ValueTree, Pieces, operation, a_region, block, Entity, entity, Entities, no_entity, an_entity}
use Rattle.ir_print.specs.Shown.{Said, Saying, Pairs, ShowsAll, ShowsType}
use Rattle.ir_print.specs.Printed.{IsLabel}
use Rattle.text_dialect.specs.Seen.{SeenOperation, SeenBlock, Seen, types_of}

-- how values and blocks are named
pub record Naming (N : Type 0) : Type 1 where
  pub value : Value → N → Type 0
  pub block : Ptr BasicBlock → N → Type 0

module _ {K A T N : Type 0} (says : Saying K A T) (Named : Naming N) (types : List T) where
  -- a result or an argument has this name and this type
  abbrev pub HasDefinition : TypedValue → N × ValueTree → Type 0
  HasDefinition v r = Named.value v.value r.0 × ShowsType says types v.ty r.1

  -- an operation is of the kind with this number, has these results and operands, may go on to these blocks, and says this
  pub record HasHead (o : SeenOperation K A) (kind : ℕ) (results : List (N × ValueTree)) (operands successors : List N)
      (pieces : Pieces) : Type 0 where
    pub said : Trees (Said A)
    pub says_it : says.of_operation o.kind o.attributes (length o.operands) (types_of o.results) ≡ Some (kind, said)
    pub shown : ShowsAll says types said pieces
    pub defines : Pairs HasDefinition o.results results
    pub mentions : Pairs Named.value o.operands operands
    pub goes_on : Pairs Named.block o.successors successors

  -- a block has this label and these arguments
  pub record HasLabel (b : SeenBlock) (label : List ℕ) (arguments : List (N × ValueTree)) : Type 0 where
    pub labelled : IsLabel b.label label
    pub defines : Pairs HasDefinition b.arguments arguments

-- An operation has this tree, and regions, blocks and operations have these trees, one each. `Labels` says how a block is
-- labelled, given its handle and what it is.
abbrev mutual
  pub HasTree : {K A T N : Type 0} → Saying K A T → Naming N → (Ptr BasicBlock → SeenBlock → List ℕ → Type 0) →
      Seen K A T → Ptr Operation → Entity N → Type 0
  HasTree {K = K} {A = A} says Named Labels s p (entity (operation kind results operands successors pieces) ts) =
      (o : SeenOperation K A) × (s.operation p ≡ Some o)
      × HasHead says Named s.types o kind results operands successors pieces × HaveRegionTrees says Named Labels s o.regions ts
  HasTree says Named Labels s p (entity _ ts) = ⊥

  pub HasRegionTree : {K A T N : Type 0} → Saying K A T → Naming N →
      (Ptr BasicBlock → SeenBlock → List ℕ → Type 0) → Seen K A T → Ptr Region → Entity N → Type 0
  HasRegionTree says Named Labels s r (entity a_region ts) =
      (bs : List (Ptr BasicBlock)) × (s.region r ≡ Some bs) × HaveBlockTrees says Named Labels s bs ts
  HasRegionTree says Named Labels s r (entity _ ts) = ⊥

  pub HasBlockTree : {K A T N : Type 0} → Saying K A T → Naming N →
      (Ptr BasicBlock → SeenBlock → List ℕ → Type 0) → Seen K A T → Ptr BasicBlock → Entity N → Type 0
  HasBlockTree says Named Labels s b (entity (block named label arguments) ts) =
      (v : SeenBlock) × (s.block b ≡ Some v) × Labels b v label × Named.block b named × Pairs (HasDefinition says Named s.types) v.arguments arguments
      × HaveTrees says Named Labels s v.operations ts
  HasBlockTree says Named Labels s b (entity _ ts) = ⊥

  pub HaveRegionTrees : {K A T N : Type 0} → Saying K A T → Naming N →
      (Ptr BasicBlock → SeenBlock → List ℕ → Type 0) → Seen K A T → List (Ptr Region) → Entities N → Type 0
  HaveRegionTrees says Named Labels s [] no_entity = Unit {0}
  HaveRegionTrees says Named Labels s (r ∷ rs) (an_entity t ts) =
      HasRegionTree says Named Labels s r t × HaveRegionTrees says Named Labels s rs ts
  HaveRegionTrees says Named Labels s _ _ = ⊥

  pub HaveBlockTrees : {K A T N : Type 0} → Saying K A T → Naming N →
      (Ptr BasicBlock → SeenBlock → List ℕ → Type 0) → Seen K A T → List (Ptr BasicBlock) → Entities N → Type 0
  HaveBlockTrees says Named Labels s [] no_entity = Unit {0}
  HaveBlockTrees says Named Labels s (b ∷ bs) (an_entity t ts) =
      HasBlockTree says Named Labels s b t × HaveBlockTrees says Named Labels s bs ts
  HaveBlockTrees says Named Labels s _ _ = ⊥

  pub HaveTrees : {K A T N : Type 0} → Saying K A T → Naming N → (Ptr BasicBlock → SeenBlock → List ℕ → Type 0) →
      Seen K A T → List (Ptr Operation) → Entities N → Type 0
  HaveTrees says Named Labels s [] no_entity = Unit {0}
  HaveTrees says Named Labels s (p ∷ ps) (an_entity t ts) =
      HasTree says Named Labels s p t × HaveTrees says Named Labels s ps ts
  HaveTrees says Named Labels s _ _ = ⊥

-- a block has its own label, and no attributes, since a text of a block shows none
pub record HasOwnLabel (b : Ptr BasicBlock) (v : SeenBlock) (label : List ℕ) : Type 0 where
  pub labelled : IsLabel v.label label
  pub no_attributes : v.attributes ≡ 0

-- an operation stands for a tree of texts, in which blocks have their own labels and no attributes
abbrev pub StandsForTexts : {K A T N : Type 0} → Saying K A T → Naming N → Seen K A T → Ptr Operation → Entity N → Type 0
StandsForTexts says Named s p t = HasTree says Named HasOwnLabel s p t
