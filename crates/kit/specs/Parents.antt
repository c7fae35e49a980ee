-- What implements an interface implements those that it stands on.
use Rattle.std.proofs.Common.{◌≡◌, Bool, true, false, List, [], ◌∷◌, refl}
use Rattle.std.specs.Prelude.{◌||◌}
use Rattle.std.specs.List.{list_all, list_any}
use Rattle.std.proofs.lemmas.Bool.{false≢true, and_parts}
use Rattle.ir_names.specs.declared.interfaces.OpInterface.{OpInterface}
use Rattle.ir_names.specs.declared.interfaces.OpInterface.TheVariants as op
use Rattle.ir_names.specs.declared.interfaces.AttrInterface.TheVariants as attr
use Rattle.ir_names.specs.contracts.interfaces.OpInterfacePartialEq.TheImpl as of_interfaces
use Rattle.ir_names.specs.Interfaces.{parents_of, ImplementsParents, ImplementsParentsOfAttr}
use Rattle.kit_ops.specs.declared.kinds.KitOp.{KitOp}
use Rattle.kit_ops.specs.declared.kinds.KitOp.TheVariants as ops
use Rattle.kit_ops.specs.declared.attributes.KitAttr.{KitAttr}
use Rattle.kit_ops.specs.declared.attributes.KitAttrKind.{KitAttrKind}
use Rattle.kit_ops.specs.declared.attributes.KitAttrKind.TheVariants as attrs
use Rattle.kit_ops.specs.Table.{row_of, has_interface}
use Rattle.kit_ops.specs.Kinds.{attr_kind, attr_implements}

-- whether the interface is one of these
abbrev is_in : List OpInterface → OpInterface → Bool
is_in held interface = list_any (λ h. of_interfaces.eq-value.it h interface) held

-- what holds of the parents of an interface holds of those of one that equals it
alike : (has : OpInterface → Bool) (i h : OpInterface) → of_interfaces.eq-value.it h i ≡ true
    → list_all has (parents_of h) ≡ true → list_all has (parents_of i) ≡ true
alike has op.Branch op.Branch e p = p
alike has op.Branch h e p = absurd (false≢true e)
alike has (op.NSuccs n) (op.NSuccs m) e p = p
alike has (op.NSuccs n) h e p = absurd (false≢true e)
alike has op.OneSucc op.OneSucc e p = p
alike has op.OneSucc h e p = absurd (false≢true e)
alike has op.BranchOpFold op.BranchOpFold e p = p
alike has op.BranchOpFold h e p = absurd (false≢true e)
alike has op.AtMostOneRegion op.AtMostOneRegion e p = p
alike has op.AtMostOneRegion h e p = absurd (false≢true e)
alike has op.NoTerminator op.NoTerminator e p = p
alike has op.NoTerminator h e p = absurd (false≢true e)
alike has op.SymbolTable op.SymbolTable e p = p
alike has op.SymbolTable h e p = absurd (false≢true e)
alike has (op.SegmentN n test) (op.SegmentN m other) e p = p
alike has (op.SegmentN n test) h e p = absurd (false≢true e)
alike has op.SameOperandsAndResultType op.SameOperandsAndResultType e p = p
alike has op.SameOperandsAndResultType h e p = absurd (false≢true e)
alike has i h e p = refl

-- what holds of the parents of each of the list holds of those of whatever equals one of them
reaching : (has : OpInterface → Bool) (held : List OpInterface) (i : OpInterface)
    → list_all (λ h. list_all has (parents_of h)) held ≡ true → is_in held i ≡ true → list_all has (parents_of i) ≡ true
reaching has [] i all e = absurd (false≢true e)
reaching has (h ∷ held) i all e =
    let parts = and_parts (list_all has (parents_of h)) (list_all (λ h. list_all has (parents_of h)) held) all in
    first (of_interfaces.eq-value.it h i) refl e (λ same. alike has i h same parts.0) (reaching has held i parts.1)
  where
    first : (b : Bool) → of_interfaces.eq-value.it h i ≡ b → (b || is_in held i) ≡ true
        → (of_interfaces.eq-value.it h i ≡ true → list_all has (parents_of i) ≡ true)
        → (is_in held i ≡ true → list_all has (parents_of i) ≡ true) → list_all has (parents_of i) ≡ true
    first true same e now later = now same
    first false same e now later = later e

-- the row of each kind has the parents of all its interfaces
closed : (k : KitOp) → list_all (λ h. list_all (has_interface k) (parents_of h)) (row_of k).interfaces ≡ true
closed ops.Module = refl
closed ops.Func = refl
closed ops.Constant = refl
closed ops.ForwardRef = refl
closed (ops.Arithmetic a) = refl
closed (ops.Comparison c) = refl
closed ops.Br = refl
closed ops.CondBr = refl
closed ops.Call = refl
closed ops.Emit = refl
closed ops.Return = refl

pub op_parents : (k : KitOp) → ImplementsParents (has_interface k)
op_parents k i e = reaching (has_interface k) (row_of k).interfaces i (closed k) e

kind_parents : (k : KitAttrKind) → ImplementsParentsOfAttr (attr_implements k)
kind_parents attrs.Integer attr.MaterializableAttr e = refl
kind_parents attrs.Origin attr.PrintOnceAttr e = refl
kind_parents k attr.PrintOnceAttr e = absurd (false≢true e)
kind_parents k attr.MaterializableAttr e = absurd (false≢true e)
kind_parents k i e = refl

pub attr_parents : (a : KitAttr) → ImplementsParentsOfAttr (attr_implements (attr_kind a))
attr_parents a = kind_parents (attr_kind a)
