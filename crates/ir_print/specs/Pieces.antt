-- What types, attributes and operations say, whatever their dialect.
use Rattle.std.specs.Prelude.{ℕ, Bool, List, Option}
use Rattle.ir_names.specs.declared.kinds.Signedness.{Signedness}
use Rattle.ir_print.specs.declared.format.ValueSort.{ValueSort}
use Rattle.ir_print.specs.declared.format.ValueSort.TheVariants as sorts
use Rattle.ir_names.specs.Tree.{LabelledTree, Trees}

-- What one token says.
pub data Leaf : Type 0 where
  -- a name, by its characters
  name : List ℕ → Leaf
  -- a number: whether it is negative, and its magnitude
  number : Bool → ℕ → Leaf
  -- a number that is written without a sign
  unsigned : ℕ → Leaf
  -- the width of an integer: its sign, and its number of bits
  width : Signedness → ℕ → Leaf
  -- a text in quotes, by the characters that it says
  quoted : List ℕ → Leaf
  -- a mark, by its number
  mark : ℕ → Leaf

-- A piece of what a type, an attribute or an operation says, one for each directive of its format that is no literal. Kinds are
-- given by their numbers in the dialect.
pub data Piece : Type 0 where
  -- a type or an attribute of a kind, with its pieces below it
  value_of_kind : ValueSort → ℕ → Piece
  -- a list, with a member for each tree below it
  list : Piece
  -- a member of a list, with its pieces below it
  item : Piece
  -- what the format with this number says of those that might stand there, with its pieces below it
  chosen : ℕ → Piece
  -- so many operands
  operands : ℕ → Piece
  -- an edge to another block, which hands on so many operands
  successor : ℕ → Piece
  -- a region
  region : Piece
  -- what one token says
  leaf : Leaf → Piece

-- a type or an attribute
abbrev pub ValueTree : Type 0
ValueTree = LabelledTree Piece

-- pieces, one after the other
abbrev pub Pieces : Type 0
Pieces = Trees Piece

-- What a dialect says of pieces that were read. Kinds are given by their numbers.
pub record Values : Type 0 where
  -- the number of the first piece that a type of a kind is refused for
  pub refused_type : ℕ → Pieces → Option ℕ
  -- the number of the first piece that an attribute of a kind is refused for
  pub refused_attribute : ℕ → Pieces → Option ℕ
  -- the number of the first piece that an operation of a kind is refused for
  pub refused_operation : ℕ → Pieces → Option ℕ
  -- the pieces of the attribute that is read from pieces: those that it is printed with
  pub canonical : ℕ → Pieces → Pieces
  -- the types of the results of an operation
  pub result_types : ℕ → Pieces → List ValueTree

-- the number of the first piece that a value of a kind is refused for
abbrev pub refused_value : Values → ValueSort → ℕ → Pieces → Option ℕ
refused_value v sorts.«Type» n ps = v.refused_type n ps
refused_value v sorts.Attribute n ps = v.refused_attribute n ps

-- the pieces of the value that is read from pieces: a type says those that it is read from
abbrev pub canonical_value : Values → ValueSort → ℕ → Pieces → Pieces
canonical_value v sorts.«Type» n ps = ps
canonical_value v sorts.Attribute n ps = v.canonical n ps

-- What an operation, a region or a block says of itself, where an N names a value, or a block.
pub data EntityHead (N : Type 0) : Type 0 where
  -- An operation: its kind, its results with their types, its operands, the blocks that it may go on to, and what it says beside
  -- them. Its regions are below it.
  operation : (kind : ℕ) (results : List (N × ValueTree)) (operands : List N) (successors : List N) (pieces : Pieces) → EntityHead N
  -- a region, with its blocks below it
  a_region : EntityHead N
  -- A block: what names it, its label, and its arguments with their types. Its operations are below it.
  block : (named : N) (label : List ℕ) (arguments : List (N × ValueTree)) → EntityHead N

mutual
  -- an operation, a region or a block, with all that stands in it
  pub data Entity (N : Type 0) : Type 0 where
    entity : EntityHead N → Entities N → Entity N

  pub data Entities (N : Type 0) : Type 0 where
    no_entity : Entities N
    an_entity : Entity N → Entities N → Entities N
