-- The statements: what a pass makes of a tree that keeps the rules keeps them too, in the world after the pass. There
-- types are as they were, and each value that is defined in the tree has the type that the tree says.
use Rattle.std.specs.Prelude.{◌≡◌, Option}
use Rattle.ir_base.specs.declared.types.TypeHandle.{TypeHandle}
use Rattle.ir_program.specs.declared.handles.Operation.{Operation}
use Rattle.ir_program.specs.declared.handles.Ptr.{Ptr}
use Rattle.ir_program.specs.declared.handles.Value.{Value}
use Rattle.ir_trees.specs.Renames.{Maps, rename_root}
use Rattle.ir_trees.specs.Stands.{by_handle, in_program}
use Rattle.ir_trees.specs.Trees.{Root}
use Rattle.kit.specs.Context.{KitTree}
use Rattle.kit.specs.Meaning.{KitOperation, KitBlock, kit}
use Rattle.kit_checks.specs.KitWorld.{HasDeclaredTypes, kit_world}
use Rattle.kit_ops.specs.declared.attributes.IntegerAttr.{IntegerAttr}
use Rattle.kit_ops.specs.declared.types.KitType.{KitType}
use Rattle.kit_pass_rules.specs.Worlds.{HandlesAreApart, ObeysIn}
use Rattle.opt_trees.specs.Dce.{TreeSurroundings, IsDce}
use Rattle.opt_trees.specs.Sccp.{IsSccp, fresh}
use Rattle.kit_pass_rules.specs.Names.{maps_of}
use Rattle.opt_trees.specs.Simplify.{IsCut, all_of, decided}

-- the tree keeps the rules in a world of these types, where its values are as it says, under handles that are apart
pub record IsGood (leads : TypeHandle → Option KitType) (typed : Value → Option TypeHandle)
    (t : KitTree) : Type 0 where
  pub obeys : ObeysIn (kit_world leads typed) t
  pub typed_in : HasDeclaredTypes typed t
  pub apart : HandlesAreApart t

-- what has come of a good tree keeps the rules, where values have the types that it says
abbrev pub StaysGood : (KitTree → KitTree → Type 0) → Type 0
StaysGood Makes =
    (leads : TypeHandle → Option KitType) (old new : Value → Option TypeHandle) (t after : KitTree) →
    IsGood leads old t → Makes t after → HasDeclaredTypes new after → ObeysIn (kit_world leads new) after

-- without what is dead it does
abbrev pub DceKeepsRules : Type 0
DceKeepsRules = (w : TreeSurroundings by_handle IntegerAttr) → StaysGood (IsDce kit w)

-- the tree with constants put in for known values that have a use, under whatever handles
pub record IsSccpUpToNames (t after : KitTree) : Type 0 where
  pub around : TreeSurroundings by_handle IntegerAttr
  pub put_in : Root (fresh by_handle) (in_program KitOperation KitBlock)
  pub is_sccp : IsSccp kit around t put_in
  pub names : Maps (fresh by_handle) by_handle
  pub is : after ≡ rename_root names put_in

-- with them it does
abbrev pub SccpKeepsRules : Type 0
SccpKeepsRules = StaysGood IsSccpUpToNames

-- the first two phases of simplifying control flow, up to handles of operations: branches decided, and blocks cut
abbrev pub MakesUpToNames : (KitTree → KitTree → Type 0) → KitTree → KitTree → Type 0
MakesUpToNames Makes t after = (made : KitTree) × Makes t made × (names : Ptr Operation → Ptr Operation)
    × (after ≡ rename_root (maps_of names) made)

abbrev pub DecidedKeepsRules : Type 0
DecidedKeepsRules = (w : TreeSurroundings by_handle IntegerAttr) → StaysGood (MakesUpToNames (λ t made. made ≡ decided kit w t))

abbrev pub CutKeepsRules : Type 0
CutKeepsRules = StaysGood (λ t after. IsCut kit (all_of t) t after)
