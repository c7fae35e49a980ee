-- The machine executes what keeps the rules.
use Rattle.std.proofs.Common.{◌≡◌, ℕ, ◌+◌, ◌≤◌, Bool, true, false, nat_le, List, [], ◌∷◌, length, Option, Some, None, option_map, option_and_then, slice_get, refl, sym, ap, ◌∙◌, subst, arith, if◌then◌else◌}
use Rattle.std.proofs.lemmas.Bool.{false≢true, le-leb}
use Rattle.std.proofs.lemmas.Option.{slice_get-map}
use Rattle.ir_base.specs.declared.types.TypeHandle.{TypeHandle}
use Rattle.ir_names.specs.Identifier.{text_of}
use Rattle.ir_types.specs.Interned.{key_at}
use Rattle.ir_program.specs.Program.{TypedValue, results_at, type_in}
use Rattle.ir_program.specs.declared.handles.Ptr.{Ptr}
use Rattle.ir_program.specs.declared.handles.Operation.{Operation}
use Rattle.ir_program.specs.declared.handles.BasicBlock.{BasicBlock}
use Rattle.ir_program.specs.declared.handles.Value.{Value}
use Rattle.ir_trees.specs.Searched.{Lists}
use Rattle.ir_trees.specs.Stands.{StandsFor}
use Rattle.kit.specs.Context.{KitContext, KitTree}
use Rattle.kit_ops.specs.Keys as keys
use Rattle.kit_ops.specs.declared.attributes.IntegerAttr.{IntegerAttr}
use Rattle.kit_ops.specs.declared.attributes.KitAttr.{KitAttr}
use Rattle.kit_ops.specs.declared.attributes.KitAttr.TheVariants as attrs
use Rattle.kit_ops.specs.declared.kinds.KitOp.{KitOp}
use Rattle.kit_ops.specs.declared.kinds.KitOp.TheVariants as ops
use Rattle.kit_ops.specs.declared.types.IntegerType.{IntegerType}
use Rattle.kit_ops.specs.declared.types.KitType.{KitType}
use Rattle.kit_ops.specs.declared.types.KitType.TheVariants as types
use Rattle.kit_flat.specs.Forms.{Form, Constant, Calculate, Call, CondBr}
use Rattle.kit_checks.specs.Rules.{HasConstantValue, FitsKind}
use Rattle.kit_checks.specs.Words.{Every, IsValueType, integer_of, integer_in, identifier_in, sizes_in, types_of, is_instruction, is_terminator, callee_name}
use Rattle.kit_checks.specs.World.{world_of}
use Rattle.kit_checks.proofs.Everys.{at_index}
use Rattle.kit_checks.proofs.Trees.{result_types}
use Rattle.kit_places.specs.Store.{width_of, width_at, constant_form, by_sizes, conditional_form, call_form, form_of}
use Rattle.kit_execution.proofs.Shapes.{FormGoesOn, constant_runs, calculation_runs, comparison_runs, emission_runs, call_runs, branch_runs, conditional_runs, return_runs}
use Rattle.kit_execution.proofs.Words.{tree_attribute}

-- ---- forms

constant_is : (o : Option KitAttr) (v : IntegerAttr) → option_and_then integer_in o ≡ Some v → constant_form {F = Ptr Operation} o ≡ Some (Constant v.bits)
constant_is (Some (attrs.Integer x)) v h = let same : x ≡ v = cc in ap (λ (y : IntegerAttr). Some (Constant y.bits)) same
constant_is _ v h = cc

conditional_is : (o : Option KitAttr) (sizes : List ℕ) (first second : ℕ) → option_and_then sizes_in o ≡ Some sizes → sizes ≡ 1 ∷ first ∷ second ∷ []
    → conditional_form {F = Ptr Operation} o ≡ Some (CondBr first)
conditional_is (Some (attrs.SegmentSizes x)) sizes first second h e = let same : x.items ≡ sizes = cc in ap by_sizes (same ∙ e)
conditional_is _ sizes first second h e = cc

call_is : (named : List ℕ → Option (Ptr Operation)) (o : Option KitAttr) (name : List ℕ) (g : Ptr Operation) → option_and_then identifier_in o ≡ Some name
    → named name ≡ Some g → call_form named o ≡ Some (Call (Some g))
call_is named (Some (attrs.Identifier id)) name g h e =
    let same : text_of id ≡ name = cc in
    ap (option_map (λ f. Call (Some f))) (ap named same ∙ e)
call_is named _ name g h e = cc

-- ---- widths

width_is : (o : Option KitType) (t : IntegerType) → option_and_then integer_of o ≡ Some t → t.width ≤ 64 → width_of o ≡ Some t.width
width_is (Some (types.Integer x)) t h few =
    let same : t ≡ x = cc in
    let fits : nat_le x.width 64 ≡ true = le-leb x.width 64 (subst (λ (y : IntegerType). y.width ≤ 64) same few) in
    ap (λ (b : Bool). if b then Some x.width else None) fits ∙ ap (λ (y : IntegerType). Some y.width) (sym same)
width_is _ t h few = cc

-- the first of values that are integers has a width
pub has_width : (s : KitContext) (q : Ptr Operation) (u : KitTree) → StandsFor s.program q u → Every (IsValueType (world_of s)) (types_of u.head.results)
    → length u.head.results ≡ 1 → (n : ℕ) × (option_and_then (width_at s) (type_in (results_at s.program q) 0) ≡ Some n)
has_width s q u stands integers one =
    let d = at_index u.head.results 0 (omega (arith, one)) in
    let first : slice_get (types_of u.head.results) 0 ≡ Some d.0.holds = slice_get-map (λ x. x.holds) u.head.results 0 ∙ ap (option_map (λ x. x.holds)) d.1 in
    let typed : type_in (results_at s.program q) 0 ≡ Some d.0.holds =
    sym (slice_get-map (λ (t : TypedValue). t.ty) (results_at s.program q) 0) ∙ sym (ap (λ (l : List TypeHandle). slice_get l 0) (result_types s.program q u stands)) ∙ first in
    let t = integers 0 d.0.holds first in
    (t.0.width, ap (option_and_then (width_at s)) typed ∙ width_is (key_at s.types d.0.holds) t.0 t.1 t.3)

-- ---- operations

module _ (s : KitContext) (u : KitTree) (named : List ℕ → Option (Ptr Operation)) (width : Option ℕ)
    (Behind : Type 0) (Target : Ptr BasicBlock → Type 0) (Callee : Ptr Operation → Type 0) where
  -- what the rules say of an operation of a kind
  pub record IsRuled (k : KitOp) : Type 0 where
    pub instruction : is_instruction k ≡ true
    pub format : FitsKind (world_of s) u k
    pub constant : k ≡ ops.Constant → HasConstantValue (world_of s) u
    pub wide : length u.head.results ≡ 1 → (n : ℕ) × (width ≡ Some n)
    pub callee : k ≡ ops.Call → (name : List ℕ) × (g : Ptr Operation) × (callee_name (world_of s) u ≡ Some name) × (named name ≡ Some g) × Callee g
    pub behind : is_terminator k ≡ false → Behind
    pub targets : (d : Ptr BasicBlock) → Lists u.head.successors d → Target d

  -- its form
  abbrev pub form_in : KitOp → Option (Form (Ptr Operation))
  form_in k = form_of k (tree_attribute u) width named

  module _ (rs : List Value) (many : length rs ≡ length u.head.results) where
    pub executed : (k : KitOp) → IsRuled k → FormGoesOn Behind Target Callee rs u.head.operands u.head.successors (form_in k)
    executed ops.Module r = absurd (false≢true r.instruction)
    executed ops.Func r = absurd (false≢true r.instruction)
    executed ops.ForwardRef r = absurd (false≢true r.instruction)
    executed ops.Constant r =
        let v = r.constant refl in
        constant_runs Behind Target Callee rs u.head.operands u.head.successors (form_in ops.Constant) v.value.bits
        (constant_is (tree_attribute u keys.constant_value) v.value v.has_value) (many ∙ r.format.0.results) r.format.1 r.format.0.successors (r.behind refl)
    executed (ops.Arithmetic f) r =
        let w = r.wide r.format.0.results in
        calculation_runs Behind Target Callee rs u.head.operands u.head.successors (form_in (ops.Arithmetic f)) f w.0
        (ap (option_map (Calculate f)) w.1) (many ∙ r.format.0.results) r.format.1 r.format.0.successors (r.behind refl)
    executed (ops.Comparison f) r =
        comparison_runs Behind Target Callee rs u.head.operands u.head.successors (form_in (ops.Comparison f)) f refl
        (many ∙ r.format.0.results) r.format.1 r.format.0.successors (r.behind refl)
    executed ops.Br r =
        branch_runs Behind Target Callee rs u.head.operands u.head.successors (form_in ops.Br) refl (many ∙ r.format.results) r.format.successors r.targets
    executed ops.CondBr r =
        let z = r.format.1 in
        conditional_runs Behind Target Callee rs u.head.operands u.head.successors (form_in ops.CondBr) z.2.0 (z.2.0 + z.2.1)
        (conditional_is (tree_attribute u keys.segment_sizes) z.0 z.2.0 z.2.1 z.1 z.2.2)
        (many ∙ r.format.0.results) (omega (arith, z.2.3)) r.format.0.successors r.targets
    executed ops.Call r =
        let z = r.callee refl in
        call_runs Behind Target Callee rs u.head.operands u.head.successors (form_in ops.Call) z.1
        (call_is named (tree_attribute u keys.callee) z.0 z.1 z.2 z.3) r.format.numbers.0.successors z.4 (r.behind refl)
    executed ops.Emit r =
        emission_runs Behind Target Callee rs u.head.operands u.head.successors (form_in ops.Emit) refl
        (many ∙ r.format.0.results) r.format.1 r.format.0.successors (r.behind refl)
    executed ops.Return r =
        return_runs Behind Target Callee rs u.head.operands u.head.successors (form_in ops.Return) refl (many ∙ r.format.results) r.format.successors
