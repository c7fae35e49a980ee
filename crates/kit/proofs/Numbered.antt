-- The kinds with the numbers that are read, and what is made of the parts of each.
use Rattle.std.proofs.Common.{◌≡◌, ℕ, zero, suc, ◌-◌, ◌≤◌, List, Option, Some, None, Result, Ok, Err, option_map, option_and_then, sym, ap, ◌∙◌, subst, arith}
use Rattle.std.specs.List.{slice_get}
use Rattle.std.specs.Result.{IfOk}
use Rattle.ir_base.specs.declared.types.TypeHandle.{TypeHandle}
use Rattle.text_dialect.specs.declared.dialect.MakeFault.{MakeFault}
use Rattle.text_dialect.specs.Making as made
use Rattle.ir_print.specs.declared.format.Part.{Part}
use Rattle.ir_names.specs.Tree.{Trees, node}
use Rattle.ir_print.specs.Pieces.{Pieces, ValueTree, value_of_kind}
use Rattle.ir_print.specs.Shown.{Said, Pairs, ShowsType, ShowsParts, ShowsKey, ShowsAttribute, operands_said}
use Rattle.kit_ops.specs.declared.kinds.KitOp.{KitOp}
use Rattle.kit_ops.specs.declared.kinds.KitOp.TheVariants as ops
use Rattle.kit_ops.specs.declared.types.KitType.{KitType}
use Rattle.kit_ops.specs.declared.types.KitTypeKind.{KitTypeKind}
use Rattle.kit_ops.specs.declared.types.KitTypeKind.TheVariants as type_kinds
use Rattle.kit_ops.specs.declared.attributes.KitAttr.{KitAttr}
use Rattle.kit_ops.specs.declared.attributes.KitAttrKind.{KitAttrKind}
use Rattle.kit_ops.specs.declared.attributes.KitAttrKind.TheVariants as attr_kinds
use Rattle.kit_ops.specs.Arithmetic.{arithmetic_number, comparison_number}
use Rattle.kit_ops.specs.Arithmetic as kinds
use Rattle.kit_ops.proofs.Operators as operators
use Rattle.kit.specs.Forms.{OpForm, form_of, number_of, read_ops, read_types, read_attrs}
use Rattle.kit.specs.Making.{MakesTypeOfKind, RefusesTypeOfKind, MakesAttributeOfKind, RefusesAttributeOfKind, MakesForm, RefusesForm}
use Rattle.ir_print.specs.declared.format.ValueSort.TheVariants as sorts
use Rattle.kit.specs.Says.{says, values, said_in, numbered, refused_type, refused_attribute, refused_operation, refused_in, refused_by, result_types, result_types_in, result_types_by, canonical}

-- the number of a kind of types
abbrev pub number_of_type : KitTypeKind → ℕ
number_of_type type_kinds.Integer = 0
number_of_type type_kinds.Function = 1
number_of_type type_kinds.Unit = 2

type_number : (n : ℕ) (kind : KitTypeKind) → slice_get read_types n ≡ Some kind → number_of_type kind ≡ n
type_number zero kind e = let same : kind ≡ type_kinds.Integer = cc in ap number_of_type same
type_number (suc zero) kind e = let same : kind ≡ type_kinds.Function = cc in ap number_of_type same
type_number (suc (suc zero)) kind e = let same : kind ≡ type_kinds.Unit = cc in ap number_of_type same
type_number (suc (suc (suc n))) kind e = cc

-- the number of a kind of attributes
abbrev pub number_of_attr : KitAttrKind → ℕ
number_of_attr attr_kinds.Integer = 0
number_of_attr attr_kinds.Identifier = 1
number_of_attr attr_kinds.«Type» = 2
number_of_attr attr_kinds.SegmentSizes = 3
number_of_attr attr_kinds.GivenNames = 4
number_of_attr attr_kinds.Note = 5
number_of_attr attr_kinds.Origin = 6

attr_number : (n : ℕ) (kind : KitAttrKind) → slice_get read_attrs n ≡ Some kind → number_of_attr kind ≡ n
attr_number zero kind e = let same : kind ≡ attr_kinds.Integer = cc in ap number_of_attr same
attr_number (suc zero) kind e = let same : kind ≡ attr_kinds.Identifier = cc in ap number_of_attr same
attr_number (suc (suc zero)) kind e = let same : kind ≡ attr_kinds.«Type» = cc in ap number_of_attr same
attr_number (suc (suc (suc zero))) kind e = let same : kind ≡ attr_kinds.SegmentSizes = cc in ap number_of_attr same
attr_number (suc (suc (suc (suc zero)))) kind e = let same : kind ≡ attr_kinds.GivenNames = cc in ap number_of_attr same
attr_number (suc (suc (suc (suc (suc zero))))) kind e = let same : kind ≡ attr_kinds.Note = cc in ap number_of_attr same
attr_number (suc (suc (suc (suc (suc (suc zero)))))) kind e = let same : kind ≡ attr_kinds.Origin = cc in ap number_of_attr same
attr_number (suc (suc (suc (suc (suc (suc (suc n))))))) kind e = cc

-- what is said, with a number
abbrev numbered_at : ℕ → Option (Trees (Said KitAttr)) → Option (ℕ × Trees (Said KitAttr))
numbered_at n said = option_map {U = ℕ × Trees (Said KitAttr)} (λ us. (n, us)) said

-- the number of a kind of operations
is_kind : (x kind : KitOp) → Some x ≡ Some kind → number_of kind ≡ number_of x
is_kind x kind e = let same : kind ≡ x = cc in ap number_of same

of_operator : (kind : KitOp) (n : ℕ) → operators.operator_number kind ≡ Some n → number_of kind ≡ Some (suc (suc (suc (suc (suc (suc (suc (suc (suc n)))))))))
of_operator (ops.Arithmetic a) n e = let same : arithmetic_number a ≡ n = cc in ap (λ m. Some (suc (suc (suc (suc (suc (suc (suc (suc (suc m)))))))))) same
of_operator (ops.Comparison c) n e = let same : comparison_number c ≡ n = cc in ap (λ m. Some (suc (suc (suc (suc (suc (suc (suc (suc (suc m)))))))))) same
of_operator _ n e = cc

op_number : (n : ℕ) (kind : KitOp) → slice_get read_ops n ≡ Some kind → number_of kind ≡ Some n
op_number zero kind e = is_kind ops.Module kind e
op_number (suc zero) kind e = is_kind ops.Func kind e
op_number (suc (suc zero)) kind e = is_kind ops.Constant kind e
op_number (suc (suc (suc zero))) kind e = is_kind ops.Return kind e
op_number (suc (suc (suc (suc zero)))) kind e = is_kind ops.Emit kind e
op_number (suc (suc (suc (suc (suc zero))))) kind e = is_kind ops.ForwardRef kind e
op_number (suc (suc (suc (suc (suc (suc zero)))))) kind e = is_kind ops.Call kind e
op_number (suc (suc (suc (suc (suc (suc (suc zero))))))) kind e = is_kind ops.Br kind e
op_number (suc (suc (suc (suc (suc (suc (suc (suc zero)))))))) kind e = is_kind ops.CondBr kind e
op_number (suc (suc (suc (suc (suc (suc (suc (suc (suc n))))))))) kind e = of_operator kind n (operators.numbered n kind e)

-- the kinds behind the first nine are the operators
pub operators_behind : (n : ℕ) → 9 ≤ n → slice_get read_ops n ≡ slice_get kinds.operators (n - 9)
operators_behind zero h = absurd (omega (arith, h))
operators_behind (suc zero) h = absurd (omega (arith, h))
operators_behind (suc (suc zero)) h = absurd (omega (arith, h))
operators_behind (suc (suc (suc zero))) h = absurd (omega (arith, h))
operators_behind (suc (suc (suc (suc zero)))) h = absurd (omega (arith, h))
operators_behind (suc (suc (suc (suc (suc zero))))) h = absurd (omega (arith, h))
operators_behind (suc (suc (suc (suc (suc (suc zero)))))) h = absurd (omega (arith, h))
operators_behind (suc (suc (suc (suc (suc (suc (suc zero))))))) h = absurd (omega (arith, h))
operators_behind (suc (suc (suc (suc (suc (suc (suc (suc zero)))))))) h = absurd (omega (arith, h))
operators_behind (suc (suc (suc (suc (suc (suc (suc (suc (suc n))))))))) h =
    let same : n ≡ suc (suc (suc (suc (suc (suc (suc (suc (suc n)))))))) - 9 = omega arith in ap (slice_get kinds.operators) same

-- what is said of a kind with a number is said of its form
refused_so : (n : ℕ) (ps : Pieces) (kind : KitOp) (form : OpForm) → slice_get read_ops n ≡ Some kind → form_of kind ≡ Some form → refused_operation n ps ≡ refused_in form ps
refused_so n ps kind form at f = ap (λ k. refused_by (option_and_then form_of k) ps) at ∙ ap (λ g. refused_by g ps) f

pub typed_so : (n : ℕ) (ps : Pieces) (kind : KitOp) (form : OpForm) → slice_get read_ops n ≡ Some kind → form_of kind ≡ Some form → result_types n ps ≡ result_types_in form ps
typed_so n ps kind form at f = ap (λ k. result_types_by (option_and_then form_of k) ps) at ∙ ap (λ g. result_types_by g ps) f

module _ {D : Type 0} where
  pub type_made : (m : ℕ) (kind : KitTypeKind) (parts : List (Part D KitOp KitAttr KitType)) (r : Result KitType MakeFault) → number_of_type kind ≡ m → IfOk r (λ key. MakesTypeOfKind m parts key) →
      IfOk r (made.MakesType says values read_types kind parts)
  type_made m kind parts (Ok key) e h = λ n ps types at s. subst (λ k. (refused_type k ps ≡ None) × ShowsKey says types key k ps) (sym e ∙ type_number n kind at) (h types ps s)
  type_made m kind parts (Err fault) e h = tt

  pub type_refused : (m : ℕ) (kind : KitTypeKind) (parts : List (Part D KitOp KitAttr KitType)) (i : ℕ) → number_of_type kind ≡ m → RefusesTypeOfKind m parts i → made.RefusesType says values read_types kind parts i
  type_refused m kind parts i e h = λ n ps types at s. subst (λ k. refused_type k ps ≡ Some i) (sym e ∙ type_number n kind at) (h types ps s)

  form_made : (kind : KitOp) (form : OpForm) (parts : List (Part D KitOp KitAttr KitType)) (old new : List KitType) (attributes : List (List ℕ × KitAttr)) (tys : List TypeHandle) → form_of kind ≡ Some form →
      MakesForm form parts old new attributes tys → made.MakesOperation says values (slice_get read_ops) kind old new parts attributes tys
  form_made kind form parts old new attributes tys f h = λ n ps at s.
      let d = h ps s in (
        refused_so n ps kind form at f ∙ d.0,
        record {
          pieces = d.1.pieces;
          said = ap (λ g. numbered g (number_of kind) (λ x. said_in x attributes (operands_said ps) tys)) f ∙ (ap (λ k. numbered (Some form) k (λ x. said_in x attributes (operands_said ps) tys)) (op_number n kind at) ∙ ap (numbered_at n) d.1.said);
          shown = d.1.shown;
          typed = subst (λ (ts : List ValueTree). Pairs (ShowsType says new) tys ts) (sym (typed_so n ps kind form at f)) d.1.typed;
        },
      )

  pub operation_made : {X : Type 0} (r : Result X MakeFault) (attributes : X → List (List ℕ × KitAttr)) (tys : X → List TypeHandle) (kind : KitOp) (form : OpForm) (parts : List (Part D KitOp KitAttr KitType)) (old new : List KitType) → form_of kind ≡ Some form →
      IfOk r (λ x. MakesForm form parts old new (attributes x) (tys x)) → IfOk r (λ x. made.MakesOperation says values (slice_get read_ops) kind old new parts (attributes x) (tys x))
  operation_made (Ok x) attributes tys kind form parts old new f h = form_made kind form parts old new (attributes x) (tys x) f h
  operation_made (Err fault) attributes tys kind form parts old new f h = tt

  -- the same where the types stay
  pub operation_made_of : {X : Type 0} (r : Result X MakeFault) (attributes : X → List (List ℕ × KitAttr)) (tys : X → List TypeHandle) (kind : KitOp) (form : OpForm) (parts : List (Part D KitOp KitAttr KitType)) (types : List KitType) → form_of kind ≡ Some form →
      IfOk r (λ x. (any : List KitType) → MakesForm form parts any any (attributes x) (tys x)) → IfOk r (λ x. made.MakesOperation says values (slice_get read_ops) kind types types parts (attributes x) (tys x))
  operation_made_of (Ok x) attributes tys kind form parts types f h = form_made kind form parts types types (attributes x) (tys x) f (h types)
  operation_made_of (Err fault) attributes tys kind form parts types f h = tt

  pub operation_refused : (kind : KitOp) (form : OpForm) (parts : List (Part D KitOp KitAttr KitType)) (old : List KitType) (i : ℕ) → form_of kind ≡ Some form → RefusesForm form parts old i →
      made.RefusesOperation says values (slice_get read_ops) kind old parts i
  operation_refused kind form parts old i f h = λ n ps at s. refused_so n ps kind form at f ∙ h ps s

-- what is made of the parts of an attribute, of the kind with a number
module _ {D : Type 0} where
  pub attribute_made : (m : ℕ) (kind : KitAttrKind) (parts : List (Part D KitOp KitAttr KitType)) (old new : List KitType) (r : Result KitAttr MakeFault) → number_of_attr kind ≡ m →
      ((ps : Pieces) → ShowsParts says old parts ps → IfOk r (λ attr. (refused_attribute m ps ≡ None) × ShowsAttribute says new attr (node (value_of_kind sorts.Attribute m) (canonical m ps)))) →
      IfOk r (made.MakesAttribute says values read_attrs kind old new parts)
  attribute_made m kind parts old new (Ok attr) e h = λ n ps at s.
      subst (λ (k : ℕ). (refused_attribute k ps ≡ None) × ShowsAttribute says new attr (node (value_of_kind sorts.Attribute k) (canonical k ps))) (sym e ∙ attr_number n kind at) (h ps s)
  attribute_made m kind parts old new (Err fault) e h = tt

  pub attribute_refused : (m : ℕ) (kind : KitAttrKind) (parts : List (Part D KitOp KitAttr KitType)) (old : List KitType) (i : ℕ) → number_of_attr kind ≡ m →
      ((ps : Pieces) → ShowsParts says old parts ps → refused_attribute m ps ≡ Some i) → made.RefusesAttribute says values read_attrs kind old parts i
  attribute_refused m kind parts old i e h = λ n ps at s. subst (λ (k : ℕ). refused_attribute k ps ≡ Some i) (sym e ∙ attr_number n kind at) (h ps s)

  -- the same where the types stay
  pub attribute_made_of : (m : ℕ) (kind : KitAttrKind) (parts : List (Part D KitOp KitAttr KitType)) (types : List KitType) (r : Result KitAttr MakeFault) → number_of_attr kind ≡ m → IfOk r (λ attr. MakesAttributeOfKind m parts attr) →
      IfOk r (made.MakesAttribute says values read_attrs kind types types parts)
  attribute_made_of m kind parts types (Ok attr) e h = attribute_made m kind parts types types (Ok attr) e (λ ps s. h types ps s)
  attribute_made_of m kind parts types (Err fault) e h = tt

  pub attribute_refused_of : (m : ℕ) (kind : KitAttrKind) (parts : List (Part D KitOp KitAttr KitType)) (types : List KitType) (i : ℕ) → number_of_attr kind ≡ m → RefusesAttributeOfKind m parts i →
      made.RefusesAttribute says values read_attrs kind types parts i
  attribute_refused_of m kind parts types i e h = attribute_refused m kind parts types i e (λ ps s. h types ps s)
