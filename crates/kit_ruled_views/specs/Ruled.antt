-- Functions of a module that keeps the rules, as trees with handles as names.
use Rattle.std.specs.Prelude.{◌≡◌, ℕ, List, Option, Some, unwrap_or}
use Rattle.ir_base.specs.declared.types.TypeHandle.{TypeHandle}
use Rattle.ir_program.specs.declared.handles.Value.{Value}
use Rattle.ir_trees.specs.Names.{Names, Contents}
use Rattle.ir_trees.specs.Searched.{AreDistinct, operation_names, block_names}
use Rattle.ir_trees.specs.Trees.{Root}
use Rattle.kit.specs.Context.{KitTree}
use Rattle.kit_checks.specs.KitWorld.{kit_world}
use Rattle.opt_trees.specs.Occurrences.{defined_in}
use Rattle.kit_ops.specs.declared.kinds.KitOp.TheVariants as ops
use Rattle.kit_ops.specs.declared.types.KitType.{KitType}
use Rattle.kit.specs.Meaning.{KitOperation, KitBlock}
use Rattle.kit_checks.specs.declared.rule.Rule.{Rule}
use Rattle.kit_checks.specs.Faults.{KeptEverywhere}
use Rattle.kit_checks.specs.Sites.{Around, site_at}

-- the tree of a function at a place of the tree of a module that keeps all rules
pub record IsRuledFunction (leads : TypeHandle → Option KitType) (typed : Value → Option TypeHandle) (u : KitTree)
    : Type 0 where
  pub root : KitTree
  pub keeps : (r : Rule) → KeptEverywhere (kit_world leads typed) root r
  pub place : List ℕ
  pub around : Option (Around KitOperation KitBlock)
  pub there : site_at root place ≡ Some (record { op = u; around = around })
  pub function : u.head.content.kind ≡ ops.Func

-- no two operations of the tree have one name, nor two blocks, nor two definitions of values
pub record HasOwnNames {N : Names} {S : Contents} (t : Root N S) : Type 0 where
  pub operations : AreDistinct (operation_names t)
  pub blocks : AreDistinct (block_names t)
  pub values : AreDistinct (defined_in t.regions)

-- the type of a value, if it has one, else the type with the number 0
abbrev pub type_or_first : (Value → Option TypeHandle) → Value → TypeHandle
type_or_first typed v = unwrap_or (typed v) (record { number = 0 })
