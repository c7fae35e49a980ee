-- What was written of types, attributes, operations, regions and blocks: their layout, whatever tree of texts they have.
use Rattle.std.specs.Prelude.{◌≡◌, ℕ, List, ◌∷◌, Some, Vec}
use Rattle.std.specs.Global.{Global}
use Rattle.std.specs.Str.{trim}
use Rattle.ir_base.specs.declared.types.TypeHandle.{TypeHandle}
use Rattle.ir_program.specs.Program.{TypedValue}
use Rattle.ir_program.specs.declared.handles.Ptr.{Ptr}
use Rattle.ir_program.specs.declared.handles.Operation.{Operation}
use Rattle.ir_program.specs.declared.handles.Region.{Region}
use Rattle.ir_program.specs.declared.handles.BasicBlock.{BasicBlock}
use Rattle.ir_program.specs.declared.handles.Value.{Value}
use Rattle.ir_print.specs.declared.format.Part.{Part}
use Rattle.ir_print.specs.Formats.{Formats, Step, Steps, Choices, alternative, list_of}
use Rattle.ir_print.specs.Layout.{Chunk, token, Before, type_on, piece_on, parts_on, format_on, some_format_on, members_on, names_on, edge_on, results_on, arguments_on, block_head_on, operation_on, region_on, block_on, IsFlat, AreFlat, AreFlatArguments, IsShallow, AreShallow}
use Rattle.ir_print.specs.Pieces.{ValueTree, Pieces, EntityHead, block, Entity, entity, Entities}
use Rattle.ir_print.specs.Shown.{Saying, Pairs, ShowsType, ShowsAttribute, ShowsPart, ShowsParts, ShowsMembers}
use Rattle.text_dialect.specs.Seen.{SeenBlock, Seen}
use Rattle.text_dialect.specs.Standing.{HasRegionTree, HasBlockTree, HaveRegionTrees, HaveBlockTrees, HaveTrees}
use Rattle.text_dialect.specs.Printed.{IsValueName, IsBlockName, PrintsAs, block_name, label_front, printed_names}
use Rattle.text_printing.specs.Printing.{AddsText, IsReadable, AreReadable}

-- the names of operands were written
abbrev pub AddsOperandNames : List Value → (old new : List ℕ) → Type 0
AddsOperandNames vs old new =
    (xs : List (List ℕ)) (rest : List Chunk) → Pairs IsValueName vs xs → AddsText old new rest (names_on xs rest)

-- a result or an argument has the name that is printed, and this type
abbrev pub HasName : {K A T : Type 0} → Saying K A T → List T → TypedValue → List ℕ × ValueTree → Type 0
HasName says types v r = IsValueName v.value r.0 × ShowsType says types v.ty r.1

-- In each of these at most `left` types and attributes stand in one another, and at most `lists` lists and choices.
module _ {K A T : Type 0} (says : Saying K A T) (f : Formats) (types : List T) where
  -- the type under a handle was written
  abbrev pub AddsType : (left : ℕ) → TypeHandle → (old new : List ℕ) → Type 0
  AddsType left ty old new =
      (t : ValueTree) (rest : List Chunk) → ShowsType says types ty t → IsFlat left t → AddsText old new rest (type_on f t rest)

  -- an attribute was written
  abbrev pub AddsAttribute : (left : ℕ) → A → (old new : List ℕ) → Type 0
  AddsAttribute left attr old new =
      (t : ValueTree) (rest : List Chunk) → ShowsAttribute says types attr t → IsFlat left t →
      AddsText old new rest (type_on f t rest)

  module _ {D : Type 0} (left lists : ℕ) where
    -- parts were written, one for each step of a format that is no word
    abbrev pub AddsParts : Before → Steps → List (Part D K A T) → (old new : List ℕ) → Type 0
    AddsParts before format parts old new =
        (ts : Pieces) (rest : List Chunk) → ShowsParts says types parts ts → AreFlat left ts → AreReadable lists ts →
        AddsText old new rest (format_on before format (parts_on f ts) rest)

    -- a part was written, at this step of a format
    abbrev pub AddsPart : Step → Part D K A T → (old new : List ℕ) → Type 0
    AddsPart s part old new =
        (t : ValueTree) (rest : List Chunk) → ShowsPart says types part t → IsFlat left t → IsReadable lists t →
        AddsText old new rest (piece_on f t s rest)

    -- what the format with a number says, of several, was written; nothing where there is none
    abbrev pub AddsChoice : Choices → ℕ → List (Part D K A T) → (old new : List ℕ) → Type 0
    AddsChoice cs n parts old new =
        (ts : Pieces) (rest : List Chunk) → ShowsParts says types parts ts → AreFlat left ts → AreReadable lists ts →
        AddsText old new rest (some_format_on (alternative cs n) (parts_on f ts) rest)

    -- the members of a list were written, with a word between two
    abbrev pub AddsMembers : (member : Steps) (separator : List ℕ) → List (Vec (Part D K A T) Global) → (old new : List ℕ) →
        Type 0
    AddsMembers member separator members old new =
        (ts : Pieces) (rest : List Chunk) → ShowsMembers says types members ts → AreFlat left ts → AreReadable lists ts →
        AddsText old new rest (members_on (list_of member separator (trim separator)) (parts_on f ts) rest)

  -- the results of an operation were written, and `=` behind them
  abbrev pub AddsResultList : List TypedValue → (old new : List ℕ) → Type 0
  AddsResultList vs old new =
      (rs : List (List ℕ × ValueTree)) (rest : List Chunk) → Pairs (HasName says types) vs rs →
      AddsText old new rest (results_on rs rest)

  -- the same, and this id behind them
  abbrev pub AddsOperationHead : List TypedValue → (id : List ℕ) → (old new : List ℕ) → Type 0
  AddsOperationHead vs id old new =
      (rs : List (List ℕ × ValueTree)) (rest : List Chunk) → Pairs (HasName says types) vs rs →
      AddsText old new rest (results_on rs (token id ∷ rest))

  -- the arguments of a block were written
  abbrev pub AddsArgumentList : (left : ℕ) → List TypedValue → (old new : List ℕ) → Type 0
  AddsArgumentList left vs old new =
      (xs : List (List ℕ × ValueTree)) (rest : List Chunk) → Pairs (HasName says types) vs xs →
      AreFlatArguments left xs → AddsText old new rest (arguments_on f xs rest)

-- a block with this name, which is its label too
abbrev pub printed_block : List ℕ → List (List ℕ × ValueTree) → EntityHead (List ℕ)
printed_block named arguments = block named named arguments

module _ {K A T : Type 0} (says : Saying K A T) (s : Seen K A T) where
  -- a region is printed as a tree with these names, and so is a block
  abbrev pub PrintsRegion : Ptr Region → Entity (List ℕ) → Type 0
  PrintsRegion r t = HasRegionTree says (printed_names s) IsBlockName s r t

  abbrev pub PrintsBlock : Ptr BasicBlock → Entity (List ℕ) → Type 0
  PrintsBlock b t = HasBlockTree says (printed_names s) IsBlockName s b t

  -- regions, blocks and operations are printed as trees, one each
  abbrev pub PrintsRegions : List (Ptr Region) → Entities (List ℕ) → Type 0
  PrintsRegions rs ts = HaveRegionTrees says (printed_names s) IsBlockName s rs ts

  abbrev pub PrintsBlocks : List (Ptr BasicBlock) → Entities (List ℕ) → Type 0
  PrintsBlocks bs ts = HaveBlockTrees says (printed_names s) IsBlockName s bs ts

  abbrev pub PrintsOperations : List (Ptr Operation) → Entities (List ℕ) → Type 0
  PrintsOperations ps ts = HaveTrees says (printed_names s) IsBlockName s ps ts

  -- An edge was written, at any step of a format: the label of the first of some blocks, and the names of operands. Without a block
  -- nothing was.
  abbrev pub AddsEdge : List (Ptr BasicBlock) → List Value → (old new : List ℕ) → Type 0
  AddsEdge bs vs old new =
      (at : Step) (ls xs : List (List ℕ)) (rest : List Chunk) → Pairs (printed_names s).block bs ls → Pairs IsValueName vs xs →
      AddsText old new rest (edge_on ls xs at rest)

  -- the head of a block was written: its label, which is its name, and its arguments
  abbrev pub AddsBlockHead : Formats → (left : ℕ) → Ptr BasicBlock → List TypedValue → (old new : List ℕ) → Type 0
  AddsBlockHead f left b vs old new =
      (v : SeenBlock) (xs : List (List ℕ × ValueTree)) (rest : List Chunk) → s.block b ≡ Some v →
      Pairs (HasName says s.types) vs xs → AreFlatArguments left xs →
      AddsText old new rest (block_head_on f (printed_block (block_name (label_front v.label) b.key.slot b.key.version) xs) rest)

  -- Written from a line with this indentation on, where at most so many regions, types and attributes stand in one another.
  module _ (f : Formats) (indent left : ℕ) where
    -- an operation was written
    abbrev pub AddsOperation : Ptr Operation → (old new : List ℕ) → Type 0
    AddsOperation op old new =
        (t : Entity (List ℕ)) (rest : List Chunk) → PrintsAs says s op t → IsShallow left t →
        AddsText old new rest (operation_on f indent t rest)

    -- a region was written; as deep may be what stands in it
    abbrev pub AddsRegion : Ptr Region → (old new : List ℕ) → Type 0
    AddsRegion r old new =
        (h : EntityHead (List ℕ)) (ts : Entities (List ℕ)) (rest : List Chunk) → PrintsRegion r (entity h ts) → AreShallow left ts →
        AddsText old new rest (region_on f indent (entity h ts) rest)

    -- a block was written
    abbrev pub AddsBlock : Ptr BasicBlock → (old new : List ℕ) → Type 0
    AddsBlock b old new =
        (t : Entity (List ℕ)) (rest : List Chunk) → PrintsBlock b t → IsShallow left t →
        AddsText old new rest (block_on f indent t rest)
