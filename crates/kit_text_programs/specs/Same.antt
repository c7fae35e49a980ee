-- Types and values of two contexts that are the same.
use Rattle.std.specs.Prelude.{◌≡◌, ℕ, List, [], ◌∷◌, Option, Some}
use Rattle.ir_base.specs.declared.types.TypeHandle.{TypeHandle}
use Rattle.ir_program.specs.declared.handles.BasicBlock.{BasicBlock}
use Rattle.ir_program.specs.declared.handles.Ptr.{Ptr}
use Rattle.ir_program.specs.declared.handles.Value.{Value}
use Rattle.kit_ops.specs.declared.types.FunctionType.{FunctionType}
use Rattle.kit_ops.specs.declared.types.IntegerType.{IntegerType}
use Rattle.kit_ops.specs.declared.types.KitType.{KitType}
use Rattle.kit_ops.specs.declared.types.KitType.TheVariants as types
use Rattle.text_rereading.specs.Rereading.{Numbering, Named}

-- the same integer type, function types of the same handles, the unit type
abbrev pub AreSameKeys : KitType → KitType → Type 0
AreSameKeys (types.Integer i) (types.Integer j) = i ≡ j
AreSameKeys (types.Function f) (types.Function g) =
    (f.inputs.items ≡ g.inputs.items) × (f.results.items ≡ g.results.items)
AreSameKeys types.Unit types.Unit = Unit {0}
AreSameKeys (types.Integer i) (types.Function g) = ⊥
AreSameKeys (types.Integer i) types.Unit = ⊥
AreSameKeys (types.Function f) (types.Integer j) = ⊥
AreSameKeys (types.Function f) types.Unit = ⊥
AreSameKeys types.Unit (types.Integer j) = ⊥
AreSameKeys types.Unit (types.Function g) = ⊥

-- a type has one handle
abbrev pub HaveOwnHandles : (TypeHandle → Option KitType) → Type 0
HaveOwnHandles leads = (a b : TypeHandle) (j k : KitType) → leads a ≡ Some j → leads b ≡ Some k → AreSameKeys j k
    → a ≡ b

module _ (leads others : TypeHandle → Option KitType) where
  -- the handles of the first list lead to the types that those of the second lead to, one by one
  pub data AreSameTypes : List TypeHandle → List TypeHandle → Type 0 where
    none : AreSameTypes [] []
    integers : (a c : TypeHandle) (bs ds : List TypeHandle) (i : IntegerType) → leads a ≡ Some (types.Integer i) →
        others c ≡ Some (types.Integer i) → AreSameTypes bs ds → AreSameTypes (a ∷ bs) (c ∷ ds)
    functions : (a c : TypeHandle) (bs ds : List TypeHandle) (f g : FunctionType) → leads a ≡ Some (types.Function f) →
        others c ≡ Some (types.Function g) → AreSameTypes f.inputs.items g.inputs.items →
        AreSameTypes f.results.items g.results.items → AreSameTypes bs ds → AreSameTypes (a ∷ bs) (c ∷ ds)
    units : (a c : TypeHandle) (bs ds : List TypeHandle) → leads a ≡ Some types.Unit → others c ≡ Some types.Unit →
        AreSameTypes bs ds → AreSameTypes (a ∷ bs) (c ∷ ds)

  -- the handles lead to the same type
  abbrev pub IsSameType : TypeHandle → TypeHandle → Type 0
  IsSameType a c = AreSameTypes (a ∷ []) (c ∷ [])

-- the values have one number in a text
abbrev pub IsSameValue : Numbering → Numbering → Value → Value → Type 0
IsSameValue numbering others v u = (n : ℕ) × (Named numbering).value v n × (Named others).value u n

-- so have the blocks
abbrev pub IsSameBlock : Numbering → Numbering → Ptr BasicBlock → Ptr BasicBlock → Type 0
IsSameBlock numbering others b c = (n : ℕ) × (Named numbering).block b n × (Named others).block c n
