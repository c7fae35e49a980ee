-- The program that a tree of texts says, by the numbers of its definitions.
use Rattle.std.proofs.Common.{ℕ, Bool, false, ◌&&◌, List, [], ◌∷◌, map, Option, Some, None, slice_get}
use Rattle.std.specs.Prelude.{nat_eq, reverse, option_and_then, unwrap_or, if◌then◌else◌}
use Rattle.ir_forest.specs.Closed.{blocks_among}
use Rattle.ir_names.specs.Tree.{node, a_tree}
use Rattle.ir_print.specs.Pieces.{value_of_kind, operands, successor, leaf, name, number, width, ValueTree, Pieces}
use Rattle.ir_print.specs.Pieces.{operation, a_region, block, Entity, entity, Entities, no_entity, an_entity}
use Rattle.kit_ops.specs.declared.kinds.KitOp.{KitOp}
use Rattle.kit_ops.specs.declared.kinds.KitOp.TheVariants as ops
use Rattle.kit.specs.Meaning.{is_function, is_module}
use Rattle.kit.specs.Forms.{read_ops}
use Rattle.kit.specs.Numbers.{number_modulo}
use Rattle.kit_checks.specs.Words.{segment, sizes_or_none}
use Rattle.kit_behaviour.specs.Machine.{Calculated, Compared}
use Rattle.kit_behaviour.specs.Machine.{Edge, Plain, Nonzero, Op, Const, Calc, Emit, Call, Branch, Return, Fun, FunctionsByPath}
use Rattle.kit_behaviour.specs.Numbering.{index_of, place_fun}
use Rattle.ir_print.specs.declared.format.ValueSort.TheVariants as sorts
use Rattle.kit_behaviour.specs.Places.{Place}

-- the width of an integer type; 0 of any other
abbrev pub width_said : ValueTree → ℕ
width_said (node (value_of_kind sorts.«Type» n) (a_tree (node (leaf (width sign bits)) us) ts)) = bits
width_said _ = 0

-- the bits of the integer that a constant says
abbrev pub bits_said : Pieces → ℕ
bits_said (a_tree (node (value_of_kind sorts.Attribute n) (a_tree (node (leaf (number b m)) us) (a_tree (node (leaf (width s w)) vs) ws))) ts) =
    number_modulo w (record { is_negative = b; magnitude = m })
bits_said _ = 0

-- the name that comes first
abbrev pub name_said : Pieces → List ℕ
name_said (a_tree (node (leaf (name cs)) us) ts) = cs
name_said _ = []

-- the first and the second of a list; 0 where there is none
abbrev pub first_in : List ℕ → ℕ
first_in [] = 0
first_in (n ∷ ns) = n

abbrev pub second_in : List ℕ → ℕ
second_in [] = 0
second_in (n ∷ ns) = first_in ns

-- the sizes of segments: of the condition, and of what each edge hands on
abbrev pub sizes_read : Pieces → Option (List ℕ)
sizes_read (a_tree (node (operands n) ns) (a_tree (node (successor a) ks) (a_tree (node (successor b) js) ps))) =
    Some (n ∷ a ∷ b ∷ [])
sizes_read _ = None

abbrev pub sizes_said : Pieces → List ℕ
sizes_said ps = sizes_or_none (sizes_read ps)

-- an edge to the block at a place, which hands on the values with these numbers
abbrev pub edge_said : ℕ → List ℕ → Edge ℕ
edge_said place us = record { target = place; forwards = us }

-- the operation of a kind that defines and uses the values with these numbers and goes on to the blocks at these places, where
-- names have numbers
abbrev pub op_said : (List ℕ → ℕ) → Option KitOp → (defines widths uses places : List ℕ) → Pieces → Op ℕ
op_said numbered (Some ops.Constant) ds ws us bs ps = Const (first_in ds) (bits_said ps)
op_said numbered (Some (ops.Arithmetic a)) ds ws us bs ps =
    Calc (Calculated a) (first_in ws) (first_in ds) (first_in us) (second_in us)
op_said numbered (Some (ops.Comparison c)) ds ws us bs ps =
    Calc (Compared c) (first_in ws) (first_in ds) (first_in us) (second_in us)
op_said numbered (Some ops.Emit) ds ws us bs ps = Emit (first_in us)
op_said numbered (Some ops.Call) ds ws us bs ps = Call ds (numbered (name_said ps)) us
op_said numbered (Some ops.Br) ds ws us bs ps = Branch Plain [] (edge_said (first_in bs) us) []
op_said numbered (Some ops.CondBr) ds ws us bs ps = Branch Nonzero (segment us (sizes_said ps) 0)
    (edge_said (first_in bs) (segment us (sizes_said ps) 1)) (edge_said (second_in bs) (segment us (sizes_said ps) 2) ∷ [])
op_said numbered _ ds ws us bs ps = Return us

-- the numbers of definitions, and the widths of their types
abbrev pub numbers_in : List (ℕ × ValueTree) → List ℕ
numbers_in xs = map (λ x. x.0) xs

abbrev pub widths_in : List (ℕ × ValueTree) → List ℕ
widths_in xs = map (λ x. width_said x.1) xs

-- the place of the block with a number among those of a function; 0 where it isn't among them
abbrev pub place_among : List ℕ → ℕ → ℕ
place_among names n = unwrap_or (index_of nat_eq n names) 0

-- the operations of a block of a function whose blocks have these numbers
abbrev pub ops_said : (List ℕ → ℕ) → List ℕ → Entities ℕ → List (Op ℕ)
ops_said numbered names no_entity = []
ops_said numbered names (an_entity (entity (operation kind results used successors pieces) us) ts) =
    op_said numbered (slice_get read_ops kind) (numbers_in results) (widths_in results) used (map (place_among names) successors)
    pieces ∷ ops_said numbered names ts
ops_said numbered names (an_entity (entity a_region us) ts) = ops_said numbered names ts
ops_said numbered names (an_entity (entity (block named label arguments) us) ts) = ops_said numbered names ts

-- blocks of such a function
abbrev pub blocks_said : (List ℕ → ℕ) → List ℕ → Entities ℕ → Fun ℕ
blocks_said numbered names no_entity = []
blocks_said numbered names (an_entity (entity (block named label arguments) us) ts) =
    record { arguments = numbers_in arguments; ops = ops_said numbered names us } ∷ blocks_said numbered names ts
blocks_said numbered names (an_entity (entity a_region us) ts) = blocks_said numbered names ts
blocks_said numbered names (an_entity (entity (operation kind results used successors pieces) us) ts) =
    blocks_said numbered names ts

-- a function of these blocks
abbrev pub fun_said : (List ℕ → ℕ) → Entities ℕ → Fun ℕ
fun_said numbered ts = blocks_said numbered (blocks_among ts) ts

-- what is in the first of these
abbrev pub first_inside : Entities ℕ → Entities ℕ
first_inside no_entity = no_entity
first_inside (an_entity (entity h us) ts) = us

-- the operations of the first block of the first region
abbrev pub members_said : Entities ℕ → Entities ℕ
members_said us = first_inside (first_inside us)

-- the regions of an operation
abbrev pub regions_below : Entity ℕ → Entities ℕ
regions_below (entity h us) = us

-- the regions of the first of these operations that passes a test
abbrev pub first_said : (ℕ → Pieces → Bool) → Entities ℕ → Option (Entities ℕ)
first_said test no_entity = None
first_said test (an_entity (entity (operation kind results used successors pieces) us) ts) =
    if test kind pieces then Some us else first_said test ts
first_said test (an_entity (entity a_region us) ts) = None
first_said test (an_entity (entity (block named label arguments) us) ts) = None

-- there is a kind, and it passes a test
abbrev pub passes : (KitOp → Bool) → Option KitOp → Bool
passes test None = false
passes test (Some kind) = test kind

module _ (numbered : List ℕ → ℕ) where
  -- an operation of a kind that passes the test, whose name has this number
  abbrev pub is_called : (KitOp → Bool) → ℕ → ℕ → Pieces → Bool
  is_called test n kind ps = passes test (slice_get read_ops kind) && nat_eq n (numbered (name_said ps))

  -- where a path leads from a module with these regions: the regions of the function
  abbrev pub locate_said : List ℕ → Entities ℕ → Option (Entities ℕ)
  locate_said [] us = None
  locate_said (x ∷ []) us = first_said (is_called is_function x) (members_said us)
  locate_said (x ∷ y ∷ path) us =
      option_and_then (locate_said (y ∷ path)) (first_said (is_called is_module x) (members_said us))

  -- the function with these regions, its values named by their places
  abbrev pub placed_said : Option (Entities ℕ) → Option (Fun Place)
  placed_said None = None
  placed_said (Some us) = place_fun nat_eq (Some (fun_said numbered (first_inside us)))

  -- the program that the regions of a module say
  abbrev pub program_said : Entities ℕ → FunctionsByPath Place
  program_said us path = placed_said (locate_said (reverse path) us)
