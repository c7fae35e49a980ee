-- What a tree of texts means, by numbers of types: the tree without names that it says, and the numbers of its values and
-- of the blocks that it names.
use Rattle.std.proofs.Common.{ℕ, cond, List, [], ◌∷◌, ◌++◌, map, Option, Some, None, slice_get, bytes_eq}
use Rattle.std.specs.Prelude.{unwrap_or}
use Rattle.ir_names.specs.Tree.{no_tree}
use Rattle.ir_print.specs.Pieces.{ValueTree, Pieces, operation, a_region, block, Entity, entity, Entities, no_entity}
use Rattle.ir_print.specs.Pieces.{an_entity, EntityHead as TextHead}
use Rattle.ir_trees.specs.Renames.{no_names}
use Rattle.ir_trees.specs.Trees.{Defined, Head, Label, Operations, Blocks, Regions, Tree, end, Root}
use Rattle.ir_trees.specs.Trees as trees
use Rattle.ir_trees.proofs.Alike.{nothing}
use Rattle.kit_ops.specs.declared.kinds.KitOp.{KitOp}
use Rattle.kit_ops.specs.declared.kinds.KitOp.TheVariants as ops
use Rattle.kit_ops.specs.declared.types.IntegerType.{IntegerType}
use Rattle.kit_ops.specs.Keys.{symbol_name, function_type, constant_value, callee, callee_type, segment_sizes}
use Rattle.kit.specs.Forms.{read_ops}
use Rattle.kit_text_programs.proofs.SaidPrograms.{name_said, bits_said, numbers_in, sizes_read}
use Rattle.kit_text_programs.proofs.ReadHeads.{type_read, callee_read, integer_read}
use Rattle.kit_text_programs.specs.Meanings.{Attribute, Integer, Name, OfType, Sizes, OperationMeaning, sayings, alone_at}

-- results or arguments of texts
abbrev pub Written : Type 0
Written = List (ℕ × ValueTree)

-- the kind with a number, where there is one
abbrev pub kind_said : ℕ → KitOp
kind_said n = unwrap_or (slice_get read_ops n) ops.Module

-- the numbers of the values that a head names
abbrev pub head_values : TextHead ℕ → List ℕ
head_values (operation kind results used successors pieces) = numbers_in results ++ used
head_values a_region = []
head_values (block named label arguments) = numbers_in arguments

-- the numbers of the values in trees of texts
abbrev pub all_values : Entities ℕ → List ℕ
all_values no_entity = []
all_values (an_entity (entity h us) ts) = head_values h ++ (all_values us ++ all_values ts)

abbrev pub root_values : Entity ℕ → List ℕ
root_values (entity h us) = head_values h ++ all_values us

-- the numbers of the blocks that a head names: its own, or those that it may go on to
abbrev pub head_blocks : TextHead ℕ → List ℕ
head_blocks (operation kind results used successors pieces) = successors
head_blocks a_region = []
head_blocks (block named label arguments) = named ∷ []

-- the numbers of the blocks that are named in trees of texts
abbrev pub all_blocks : Entities ℕ → List ℕ
all_blocks no_entity = []
all_blocks (an_entity (entity h us) ts) = head_blocks h ++ (all_blocks us ++ all_blocks ts)

abbrev pub root_blocks : Entity ℕ → List ℕ
root_blocks (entity h us) = head_blocks h ++ all_blocks us

module _ (number : ValueTree → ℕ) where
  -- the type of a function, where one is read: its own, or the one that a call says
  abbrev pub type_meant : Option ValueTree → Option Attribute
  type_meant None = None
  type_meant (Some t) = Some (OfType (number t))

  -- the sizes of segments, where they are read
  abbrev pub sizes_meant : Option (List ℕ) → Option Attribute
  sizes_meant None = None
  sizes_meant (Some sizes) = Some (Sizes sizes)

  -- the number of the first type
  abbrev pub first_number : Written → ℕ
  first_number [] = 0
  first_number (r ∷ rs) = number r.1

  -- an integer, where its type is read
  abbrev pub integer_meant : ℕ → Option IntegerType → ℕ → Option Attribute
  integer_meant n None bits = None
  integer_meant n (Some i) bits = Some (Integer (record { ty = n; integer = i; bits = bits }))

  -- the attributes of an operation of a kind
  abbrev pub attributes_said : KitOp → Written → Pieces → List ℕ → Option Attribute
  attributes_said ops.Module rs ps key = alone_at symbol_name (Name (name_said ps)) key
  attributes_said ops.Func rs ps key = cond (bytes_eq key symbol_name) (Some (Name (name_said ps)))
      (cond (bytes_eq key function_type) (type_meant (type_read ps)) None)
  attributes_said ops.Constant rs ps key =
      cond (bytes_eq key constant_value) (integer_meant (first_number rs) (integer_read ps) (bits_said ps)) None
  attributes_said ops.Call rs ps key = cond (bytes_eq key callee) (Some (Name (name_said ps)))
      (cond (bytes_eq key callee_type) (type_meant (callee_read ps)) None)
  attributes_said ops.CondBr rs ps key = cond (bytes_eq key segment_sizes) (sizes_meant (sizes_read ps)) None
  attributes_said _ rs ps key = None

  abbrev pub operation_said : ℕ → Written → Pieces → OperationMeaning
  operation_said kind rs ps =
      record { kind = kind_said kind; attributes = λ key. attributes_said (kind_said kind) rs ps key }

  abbrev pub defined_said : ℕ × ValueTree → Defined (Unit {0}) ℕ
  defined_said r = record { name = tt; holds = number r.1 }

  abbrev pub head_said : ℕ → Written → List ℕ → List ℕ → Pieces → Head no_names sayings
  head_said kind results used successors pieces = record {
    name = tt;
    content = operation_said kind results pieces;
    results = map defined_said results;
    operands = map (nothing {X = ℕ}) used;
    successors = map (nothing {X = ℕ}) successors;
  }

  abbrev pub label_said : Written → Label no_names sayings
  label_said arguments = record { name = tt; content = λ key. None; arguments = map defined_said arguments }

  abbrev mutual
    pub operations_said : Entities ℕ → Tree no_names sayings Operations
    operations_said no_entity = end
    operations_said (an_entity (entity (operation kind results used successors pieces) us) ts) =
        trees.operation (head_said kind results used successors pieces) (regions_said us) (operations_said ts)
    operations_said (an_entity (entity a_region us) ts) = end
    operations_said (an_entity (entity (block named label arguments) us) ts) = end

    pub blocks_said : Entities ℕ → Tree no_names sayings Blocks
    blocks_said no_entity = end
    blocks_said (an_entity (entity (block named label arguments) us) ts) =
        trees.block (label_said arguments) (operations_said us) (blocks_said ts)
    blocks_said (an_entity (entity a_region us) ts) = end
    blocks_said (an_entity (entity (operation kind results used successors pieces) us) ts) = end

    pub regions_said : Entities ℕ → Tree no_names sayings Regions
    regions_said no_entity = end
    regions_said (an_entity (entity a_region us) ts) = trees.region (blocks_said us) (regions_said ts)
    regions_said (an_entity (entity (block named label arguments) us) ts) = end
    regions_said (an_entity (entity (operation kind results used successors pieces) us) ts) = end

  abbrev pub root_head : TextHead ℕ → Head no_names sayings
  root_head (operation kind results used successors pieces) = head_said kind results used successors pieces
  root_head a_region = head_said 0 [] [] [] no_tree
  root_head (block named label arguments) = head_said 0 [] [] [] no_tree

  -- the tree that a text of an operation says
  abbrev pub root_said : Entity ℕ → Root no_names sayings
  root_said (entity h us) = record { head = root_head h; regions = regions_said us }
