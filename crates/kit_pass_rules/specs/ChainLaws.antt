-- The statements: what comes of a good tree when chains of its blocks are joined is good by the same types, and so is
-- what the whole simplification of control flow makes of it.
use Rattle.std.specs.Prelude.{Option}
use Rattle.ir_base.specs.declared.types.TypeHandle.{TypeHandle}
use Rattle.ir_program.specs.declared.handles.Value.{Value}
use Rattle.ir_trees.specs.Renames.{names_of}
use Rattle.ir_trees.specs.Stands.{by_handle, in_program}
use Rattle.kit.specs.Context.{KitTree}
use Rattle.kit.specs.Meaning.{KitOperation, KitBlock, kit}
use Rattle.kit_checks.specs.KitWorld.{HasDeclaredTypes, kit_world}
use Rattle.kit_pass_rules.specs.CutLaws.{IsNamedApart}
use Rattle.kit_ops.specs.declared.attributes.IntegerAttr.{IntegerAttr}
use Rattle.kit_ops.specs.declared.types.KitType.{KitType}
use Rattle.kit_pass_rules.specs.Laws.{IsGood, MakesUpToNames}
use Rattle.kit_pass_rules.specs.Worlds.{ObeysIn}
use Rattle.opt_trees.specs.Dce.{TreeSurroundings}
use Rattle.opt_trees.specs.Occurrences.{Has, Occurrence, BlockOccurrence, occurrences_of, block_occurrences_of}
use Rattle.opt_trees.specs.Simplify.{IsJoined, IsSimplify, all_of}

-- no value is both an argument of a block and a result of an operation, as in each tree of a program
abbrev pub DefinersApart : KitTree → Type 0
DefinersApart t = (x : BlockOccurrence by_handle (in_program KitOperation KitBlock))
    (o : Occurrence by_handle (in_program KitOperation KitBlock)) (v : Value) → Has x (block_occurrences_of t) →
    Has o (occurrences_of t) → Has v (names_of x.label.arguments) → Has v (names_of o.head.results) → ⊥

-- what has come of a good tree whose arguments are no results is good by the same types
abbrev pub StaysWhole : (KitTree → KitTree → Type 0) → Type 0
StaysWhole Makes =
    (leads : TypeHandle → Option KitType) (typed : Value → Option TypeHandle) (t after : KitTree) →
    IsGood leads typed t → DefinersApart t → Makes t after → IsGood leads typed after

-- it keeps the rules, where values have the types that it says
abbrev pub StaysRuled : (KitTree → KitTree → Type 0) → Type 0
StaysRuled Makes =
    (leads : TypeHandle → Option KitType) (old new : Value → Option TypeHandle) (t after : KitTree) →
    IsGood leads old t → DefinersApart t → Makes t after → HasDeclaredTypes new after → ObeysIn (kit_world leads new) after

-- with its chains joined it stays good
abbrev pub JoinedStaysGood : Type 0
JoinedStaysGood = StaysWhole (λ t after. IsJoined kit (all_of t) t after)

-- with its chains joined it keeps the rules
abbrev pub JoinedChainsKeepRules : Type 0
JoinedChainsKeepRules = StaysRuled (λ t after. IsJoined kit (all_of t) t after)

-- with its control flow simplified it stays good, where different operations get different handles
abbrev pub SimplifiedStaysGood : Type 0
SimplifiedStaysGood = (w : TreeSurroundings by_handle IntegerAttr) → StaysWhole (IsNamedApart (IsSimplify kit w))

-- with its control flow simplified, up to handles of operations, it keeps the rules
abbrev pub SimplifiedKeepsRules : Type 0
SimplifiedKeepsRules = (w : TreeSurroundings by_handle IntegerAttr) → StaysRuled (MakesUpToNames (IsSimplify kit w))
