-- The laws of what the dialect is to contexts.
use Rattle.std.proofs.Common.{◌≡◌, true, false, refl, ap}
use Rattle.std.specs.Prelude.{◌↔◌, nat_eq, sum}
use Rattle.std.proofs.lemmas.Bool.{false≢true, true≢false}
use Rattle.ir_names.specs.Interfaces.{ImplementsParents}
use Rattle.ir_names.specs.declared.interfaces.OpInterface.TheVariants as interface
use Rattle.tiny_texts.specs.contracts.dialect.SinglePartialEq.TheImpl as of_singles
use Rattle.tiny_texts.specs.contracts.dialect.TinyOpPartialEq.TheImpl as of_ops
use Rattle.tiny_texts.specs.contracts.dialect.TinyAttrPartialEq.TheImpl as of_attr_kinds
use Rattle.tiny_texts.specs.contracts.dialect.ConstantPartialEq.TheImpl as of_constants
use Rattle.tiny_texts.specs.declared.dialect.Constant.{Constant}
use Rattle.tiny_texts.specs.declared.dialect.Constant.TheVariants as constants
use Rattle.tiny_texts.specs.declared.dialect.Single.{Single}
use Rattle.tiny_texts.specs.declared.dialect.TinyAttr.{TinyAttr}
use Rattle.tiny_texts.specs.declared.dialect.TinyAttr.TheVariants as attrs
use Rattle.tiny_texts.specs.declared.dialect.TinyOp.{TinyOp}
use Rattle.tiny_texts.specs.declared.dialect.TinyOp.TheVariants as ops
use Rattle.tiny_texts.specs.Kinds.{op_name, op_names, type_names, attr_name, attr_names, kind_of, op_has}

-- kinds have one id exactly where they are equal
pub op_ids : (x y : TinyOp) → (op_names x ≡ op_names y) ↔ (of_ops.eq-value.it x y ≡ true)
op_ids ops.Box ops.Box = (λ _. refl, λ _. refl)
op_ids ops.Loop ops.Loop = (λ _. refl, λ _. refl)
op_ids ops.Pure ops.Pure = (λ _. refl, λ _. refl)
op_ids ops.Def ops.Def = (λ _. refl, λ _. refl)
op_ids ops.Id ops.Id = (λ _. refl, λ _. refl)
op_ids ops.Use ops.Use = (λ _. refl, λ _. refl)
op_ids ops.Br ops.Br = (λ _. refl, λ _. refl)
op_ids ops.Ret ops.Ret = (λ _. refl, λ _. refl)
op_ids x y = (λ e. absurd (true≢false (ap (λ names. nat_eq (sum (op_name x)) (sum names.1)) e)), λ e. absurd (false≢true e))

pub type_ids : (x y : Single) → (type_names x ≡ type_names y) ↔ (of_singles.eq-value.it x y ≡ true)
type_ids x y = (λ _. refl, λ _. refl)

pub attr_ids : (x y : TinyAttr) → (attr_names x ≡ attr_names y) ↔ (of_attr_kinds.eq-value.it x y ≡ true)
attr_ids attrs.Num attrs.Num = (λ _. refl, λ _. refl)
attr_ids attrs.Ref attrs.Ref = (λ _. refl, λ _. refl)
attr_ids x y = (λ e. absurd (true≢false (ap (λ names. nat_eq (sum (attr_name x)) (sum names.1)) e)), λ e. absurd (false≢true e))

-- equal attributes are of one kind
pub same_attr_kind : (x y : Constant) → of_constants.eq-value.it x y ≡ true → kind_of x ≡ kind_of y
same_attr_kind (constants.Num m) (constants.Num n) e = refl
same_attr_kind (constants.Ref m) (constants.Ref n) e = refl
same_attr_kind x y e = absurd (false≢true e)

-- what implements an interface implements those that it stands on
pub op_parents : (kind : TinyOp) → ImplementsParents (op_has kind)
op_parents ops.Br interface.Branch e = refl
op_parents kind interface.Branch e = absurd (false≢true e)
op_parents kind (interface.NSuccs n) e = absurd (false≢true e)
op_parents kind interface.OneSucc e = absurd (false≢true e)
op_parents kind interface.BranchOpFold e = absurd (false≢true e)
op_parents kind interface.AtMostOneRegion e = absurd (false≢true e)
op_parents kind interface.NoTerminator e = absurd (false≢true e)
op_parents kind interface.SymbolTable e = absurd (false≢true e)
op_parents kind (interface.SegmentN n test) e = absurd (false≢true e)
op_parents kind interface.SameOperandsAndResultType e = absurd (false≢true e)
op_parents kind i e = refl

-- no attribute implements an interface
pub nothing_implements : {X : Type 0} → false ≡ true → X
nothing_implements e = absurd (false≢true e)
