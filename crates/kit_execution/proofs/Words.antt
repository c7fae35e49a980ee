-- What an operation of a program says of itself, and the tree that it stands for.
use Rattle.std.proofs.Common.{◌≡◌, ℕ, true, ◌&&◌, List, Option, Some, option_map, option_and_then, refl, sym, ap, ◌∙◌, subst}
use Rattle.std.proofs.lemmas.Bool.{false≢true, and_parts}
use Rattle.std.proofs.lemmas.Cmp.{nat_list_eq_equiv}
use Rattle.std.specs.Str.{bytes_eq}
use Rattle.ir_names.specs.Dictionary.{attribute_at}
use Rattle.ir_names.specs.Identifier.{text_of}
use Rattle.ir_program.specs.Program.{OperationView}
use Rattle.ir_program.specs.Lent.{payload_at}
use Rattle.ir_program.specs.declared.handles.Ptr.{Ptr}
use Rattle.ir_program.specs.declared.handles.Operation.{Operation}
use Rattle.ir_context.specs.Kept.{kind_at}
use Rattle.ir_context.specs.declared.notes.OperationNotes.{OperationNotes}
use Rattle.ir_trees.specs.Stands.{ProgramHead, StandsFor}
use Rattle.kit.specs.Context.{KitProgram, KitTree}
use Rattle.kit.specs.Meaning.{KitBlock, KitOperation}
use Rattle.kit_ops.specs.Keys as keys
use Rattle.kit_ops.specs.declared.attributes.KitAttr.{KitAttr}
use Rattle.kit_ops.specs.declared.attributes.KitAttr.TheVariants as attrs
use Rattle.kit_ops.specs.declared.attributes.KitAttrKind.{KitAttrKind}
use Rattle.kit_ops.specs.declared.attributes.KitLocation.{KitLocation}
use Rattle.kit.specs.declared.dialect.Kit.{Kit}
use Rattle.kit.specs.declared.dialect.Unused.{Unused}
use Rattle.kit_ops.specs.declared.kinds.KitOp.{KitOp}
use Rattle.kit_ops.specs.declared.kinds.KitOp.TheVariants as ops
use Rattle.kit_ops.specs.declared.types.KitType.{KitType}
use Rattle.kit_ops.specs.declared.types.KitTypeKind.{KitTypeKind}
use Rattle.kit_checks.specs.Words.{identifier_in}
use Rattle.kit_places.specs.Store.{is_name, is_function, is_module, attribute_of, is_function_named}

-- the notes of operations of `kit`
abbrev pub KitOperationNotes : Type 0
KitOperationNotes = OperationNotes Kit KitTypeKind KitAttrKind Unused Unused KitLocation KitOp KitAttr KitType

-- the attribute of an operation of a tree under a key
abbrev pub tree_attribute : KitTree → List ℕ → Option KitAttr
tree_attribute u key = attribute_at u.head.content.notes.attributes key

is_func : (k : KitOp) → is_function (Some k) ≡ true → k ≡ ops.Func
is_func ops.Func h = refl
is_func _ h = absurd (false≢true h)

is_mod : (k : KitOp) → is_module (Some k) ≡ true → k ≡ ops.Module
is_mod ops.Module h = refl
is_mod _ h = absurd (false≢true h)

has_name : (o : Option KitAttr) (name : List ℕ) → option_and_then identifier_in o ≡ Some name → is_name name o ≡ true
has_name (Some (attrs.Identifier id)) name h =
    let same : text_of id ≡ name = cc in
    subst (λ t. bytes_eq name t ≡ true) (sym same) (nat_list_eq_equiv.refl name)
has_name _ name h = cc

module _ (c : KitProgram) (p : Ptr Operation) (u : KitTree) (s : StandsFor c p u) where
  pub payload_is : payload_at c p ≡ Some u.head.content
  payload_is = ap (option_map (λ (v : OperationView KitOperation). v.payload)) s.there
      ∙ ap (λ (h : ProgramHead KitOperation KitBlock). Some h.content) (sym s.head)

  pub kind_is : kind_at c p ≡ Some u.head.content.kind
  kind_is = ap (option_map (λ (d : KitOperation). d.kind)) payload_is

  pub attribute_is : (key : List ℕ) → attribute_of c p key ≡ tree_attribute u key
  attribute_is key = ap (λ (o : Option KitOperation). option_and_then (λ (n : KitOperationNotes). attribute_at n.attributes key)
      (option_map (λ (d : KitOperation). d.notes) o)) payload_is

  -- a test that passes tells the kind
  pub function_kind : (name : List ℕ) → is_function_named c name p ≡ true → u.head.content.kind ≡ ops.Func
  function_kind name h = is_func u.head.content.kind (sym (ap is_function kind_is)
      ∙ (and_parts (is_function (kind_at c p)) (is_name name (attribute_of c p keys.symbol_name)) h).0)

  pub module_kind : (name : List ℕ) → (is_module (kind_at c p) && is_name name (attribute_of c p keys.symbol_name)) ≡ true
      → u.head.content.kind ≡ ops.Module
  module_kind name h = is_mod u.head.content.kind (sym (ap is_module kind_is)
      ∙ (and_parts (is_module (kind_at c p)) (is_name name (attribute_of c p keys.symbol_name)) h).0)

  -- a function of a name passes
  pub function_passes : (name : List ℕ) → u.head.content.kind ≡ ops.Func
      → option_and_then identifier_in (tree_attribute u keys.symbol_name) ≡ Some name → is_function_named c name p ≡ true
  function_passes name kind named =
      let k : is_function (kind_at c p) ≡ true = ap is_function kind_is ∙ ap (λ x. is_function (Some x)) kind in
      let n : is_name name (attribute_of c p keys.symbol_name) ≡ true = ap (is_name name) (attribute_is keys.symbol_name)
      ∙ has_name (tree_attribute u keys.symbol_name) name named in
      ap (λ b. b && is_name name (attribute_of c p keys.symbol_name)) k ∙ n
