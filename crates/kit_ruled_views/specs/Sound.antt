-- What is asked of the tree of a module: what the rules of the dialect say of it, as far as the passes need it.
use Rattle.std.specs.Prelude.{◌≡◌, ◌⊎◌, ℕ, List, [], Option, Some}
use Rattle.ir_base.specs.declared.types.TypeHandle.{TypeHandle}
use Rattle.ir_trees.specs.Names.{Names}
use Rattle.ir_trees.specs.Trees.{Root}
use Rattle.opt_trees.specs.Occurrences.{Has, Occurrence, occurrences_in, occurrences_of, inner}
use Rattle.kit_ops.specs.declared.kinds.KitOp.TheVariants as ops
use Rattle.kit_ops.specs.declared.types.KitType.{KitType}
use Rattle.kit_behaviour.specs.Machine.{Fun}
use Rattle.kit_behaviour.specs.Rules.{operands}
use Rattle.kit_behaviour.specs.Scopes.{AllIn, BlocksWith}
use Rattle.kit_views.specs.FlatView.{FlattensTo}
use Rattle.kit_views.specs.Laws.{EndWell}
use Rattle.kit_views.specs.Reading.{kit_contents, kit_reading}
use Rattle.kit_views.specs.Typed.{IsTyped}
use Rattle.kit_ruled_views.specs.Ruled.{HasOwnNames}

-- the tree that an operation is with what is in it
abbrev pub tree_of : {N : Names} → Occurrence N kit_contents → Root N kit_contents
tree_of o = record { head = o.head; regions = o.regions }

-- the operation is a module or a function, and uses no value
pub record IsHolder {N : Names} (o : Occurrence N kit_contents) : Type 0 where
  pub kind : (o.head.content.kind ≡ ops.Func) ⊎ (o.head.content.kind ≡ ops.Module)
  pub no_operands : o.head.operands ≡ []
  pub no_successors : o.head.successors ≡ []

-- the operation stands in a function
pub record IsInFunction {N : Names} (t : Root N kit_contents) (p : Occurrence N kit_contents) : Type 0 where
  pub function : Occurrence N kit_contents
  pub stands : Has function (occurrences_of t)
  pub is : function.head.content.kind ≡ ops.Func
  pub inside : Has p (occurrences_in function.regions (inner function.head function.site))

module _ {N : Names} (leads : TypeHandle → Option KitType) (numbered : List ℕ → ℕ) (type_at : N.value → TypeHandle)
  where
    -- the operation is a function, it has a flat view, whose blocks end well and name values in scope, and is typed
    pub record IsSoundFunction (o : Occurrence N kit_contents) : Type 0 where
      pub kind : o.head.content.kind ≡ ops.Func
      pub flat : Fun N.value
      pub is_flat : FlattensTo (kit_reading leads numbered) (tree_of o) flat
      pub ends : EndWell flat
      pub sees : BlocksWith (Some flat) (λ a op. AllIn (operands op) a)
      pub is_typed : IsTyped leads {N = N} type_at (tree_of o)

    -- names are distinct; each function is sound; every other operation is a module, or stands in a function
    pub record IsSound (t : Root N kit_contents) : Type 0 where
      pub names : HasOwnNames t
      pub no_operands : t.head.operands ≡ []
      pub functions : (o : Occurrence N kit_contents) → Has o (occurrences_of t) → o.head.content.kind ≡ ops.Func →
          IsSoundFunction o
      pub others : (o : Occurrence N kit_contents) → Has o (occurrences_of t) → IsHolder o ⊎ IsInFunction t o
