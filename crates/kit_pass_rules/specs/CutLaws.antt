-- The statements: what decides branches and what cuts blocks leave a good tree good, where values have the types that
-- they had. So does what gives operations other handles.
use Rattle.std.specs.Prelude.{◌≡◌, Option}
use Rattle.ir_base.specs.declared.types.TypeHandle.{TypeHandle}
use Rattle.ir_program.specs.declared.handles.Operation.{Operation}
use Rattle.ir_program.specs.declared.handles.Ptr.{Ptr}
use Rattle.ir_program.specs.declared.handles.Value.{Value}
use Rattle.ir_trees.specs.Renames.{KeepsApart, rename_root}
use Rattle.ir_trees.specs.Searched.{operation_names}
use Rattle.ir_trees.specs.Stands.{by_handle}
use Rattle.kit.specs.Context.{KitTree}
use Rattle.kit.specs.Meaning.{kit}
use Rattle.kit_ops.specs.declared.attributes.IntegerAttr.{IntegerAttr}
use Rattle.kit_ops.specs.declared.types.KitType.{KitType}
use Rattle.kit_pass_rules.specs.Laws.{IsGood, MakesUpToNames, StaysGood}
use Rattle.kit_pass_rules.specs.Names.{maps_of}
use Rattle.opt_trees.specs.Dce.{TreeSurroundings}
use Rattle.opt_trees.specs.Simplify.{IsCut, all_of, decided}

-- what has come of a good tree is good, where values have the types that they had
abbrev pub LeavesGood : (KitTree → KitTree → Type 0) → Type 0
LeavesGood Makes =
    (leads : TypeHandle → Option KitType) (typed : Value → Option TypeHandle) (t after : KitTree) →
    IsGood leads typed t → Makes t after → IsGood leads typed after

-- it is the tree after that, where different operations of the tree before have got different handles
abbrev pub IsNamedApart : (KitTree → KitTree → Type 0) → KitTree → KitTree → Type 0
IsNamedApart Makes t after = (made : KitTree) × Makes t made × (names : Ptr Operation → Ptr Operation)
    × KeepsApart names (operation_names t) × (after ≡ rename_root (maps_of names) made)

-- with branches decided it is
abbrev pub DecidedStaysGood : Type 0
DecidedStaysGood = (w : TreeSurroundings by_handle IntegerAttr) → LeavesGood (IsNamedApart (λ t made. made ≡ decided kit w t))

-- and so it is where each handle is as it was
abbrev pub DecidedInPlaceStaysGood : Type 0
DecidedInPlaceStaysGood = (w : TreeSurroundings by_handle IntegerAttr) → LeavesGood (λ t after. after ≡ decided kit w t)

-- without the blocks that aren't reached it is
abbrev pub CutStaysGood : Type 0
CutStaysGood = LeavesGood (λ t after. IsCut kit (all_of t) t after)

-- under other handles alone it keeps the rules, and where they are different it is good
abbrev pub RenamedKeepsRules : Type 0
RenamedKeepsRules = StaysGood (MakesUpToNames (λ t made. made ≡ t))

abbrev pub RenamedStaysGood : Type 0
RenamedStaysGood = LeavesGood (IsNamedApart (λ t made. made ≡ t))
