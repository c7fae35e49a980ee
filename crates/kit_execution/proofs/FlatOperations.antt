-- What the machine of contexts sees of an operation is what it sees of its flat view.
use Rattle.std.proofs.Common.{◌≡◌, ◌≢◌, ℕ, zero, suc, Bool, true, false, List, [], ◌∷◌, ◌++◌, map, take, drop, length}
use Rattle.std.proofs.Common.{Option, Some, None, option_map, option_and_then, slice_get, nat_le, refl, sym, ap, ◌∙◌}
use Rattle.std.proofs.Common.{subst, arith, if◌then◌else◌}
use Rattle.std.specs.Prelude.{slice_index}
use Rattle.std.proofs.lemmas.List.{append-nil}
use Rattle.std.proofs.lemmas.Option.{slice_get-map, get_or_from_slice_get}
use Rattle.ir_base.specs.declared.types.TypeHandle.{TypeHandle}
use Rattle.ir_names.specs.Dictionary.{attribute_at}
use Rattle.ir_names.specs.Identifier.{text_of}
use Rattle.ir_types.specs.Interned.{key_at}
use Rattle.ir_program.specs.Program.{TypedValue, results_at, type_in, no_handle}
use Rattle.ir_program.specs.declared.handles.Ptr.{Ptr}
use Rattle.ir_program.specs.declared.handles.Operation.{Operation}
use Rattle.ir_program.specs.declared.handles.BasicBlock.{BasicBlock}
use Rattle.ir_program.specs.declared.handles.Value.{Value}
use Rattle.ir_trees.specs.Renames.{names_of}
use Rattle.ir_trees.specs.Stands.{StandsFor}
use Rattle.kit.specs.Context.{KitContext, KitTree}
use Rattle.kit_ops.specs.Keys as keys
use Rattle.kit_ops.specs.declared.attributes.KitAttr.{KitAttr}
use Rattle.kit_ops.specs.declared.attributes.KitAttr.TheVariants as attrs
use Rattle.kit_ops.specs.declared.arithmetic.Arithmetic.{Arithmetic}
use Rattle.kit_ops.specs.declared.arithmetic.Comparison.{Comparison}
use Rattle.kit_ops.specs.declared.kinds.KitOp.{KitOp}
use Rattle.kit_ops.specs.declared.kinds.KitOp.TheVariants as ops
use Rattle.kit_ops.specs.declared.types.KitType.{KitType}
use Rattle.kit_ops.specs.declared.types.KitType.TheVariants as types
use Rattle.kit.specs.Meaning.{sizes_in, KitOperation}
use Rattle.kit_behaviour.specs.Machine as flat
use Rattle.kit_checks.specs.Words as words
use Rattle.kit_checks.proofs.Trees.{result_types, operands_are, successors_are}
use Rattle.kit_execution.proofs.Values.{result_values}
use Rattle.kit_execution.proofs.Words.{KitOperationNotes, tree_attribute, payload_is}
use Rattle.kit_flat.specs.Forms.{Calculate, Call}
use Rattle.kit_flat.specs.Machine as machine
use Rattle.kit_places.specs.Numbers.{block_with}
use Rattle.kit_places.specs.Store.{width_of, width_at, constant_form, by_sizes}
use Rattle.kit_places.specs.Store.{conditional_form, call_form, form_of, form_at, op_if, op_at, function_named}
use Rattle.kit_views.specs.FlatView.{IsOf, IsOp}
use Rattle.kit_views.specs.Reading.{kit_reading, number_in, named_in, integer_of}
use Rattle.kit_execution.proofs.Lockstep.{FlatOp, SeenOp, Names, seen_edge, seen}

-- ---- lists

taken_first : {X : Type 0} (xs ys : List X) (n : ℕ) → n ≡ length xs → take n (xs ++ ys) ≡ xs
taken_first [] ys zero h = refl
taken_first [] ys (suc n) h = absurd (omega (arith, h))
taken_first (x ∷ xs) ys zero h = absurd (omega (arith, h))
taken_first (x ∷ xs) ys (suc n) h = ap (λ l. x ∷ l) (taken_first xs ys n (omega (arith, h)))

dropped_first : {X : Type 0} (xs ys : List X) (n : ℕ) → n ≡ length xs → drop n (xs ++ ys) ≡ ys
dropped_first [] ys zero h = refl
dropped_first [] ys (suc n) h = absurd (omega (arith, h))
dropped_first (x ∷ xs) ys zero h = absurd (omega (arith, h))
dropped_first (x ∷ xs) ys (suc n) h = dropped_first xs ys n (omega (arith, h))

-- a list whose members a map makes into one
one_made : {X Y : Type 0} (f : X → Y) (xs : List X) (y : Y) → map f xs ≡ y ∷ [] →
    (x : X) × (slice_get xs 0 ≡ Some x) × (f x ≡ y)
one_made f [] y e = absurd (cc e)
one_made f (x ∷ xs) y e = (x, refl, cc e)

-- ---- blocks

-- the successors are the targets of the edges
targets_are : (blocks ds : List (Ptr BasicBlock)) (es : List (flat.Edge Value)) →
    map Some ds ≡ map (λ (e : flat.Edge Value). slice_get blocks e.target) es →
    ds ≡ map (λ (e : flat.Edge Value). block_with blocks e.target) es
targets_are blocks [] [] h = refl
targets_are blocks [] (e ∷ es) h = absurd (cc h)
targets_are blocks (d ∷ ds) [] h = absurd (cc h)
targets_are blocks (d ∷ ds) (e ∷ es) h =
    let first : Some d ≡ slice_get blocks e.target = cc h in
    let more : map Some ds ≡ map (λ (e : flat.Edge Value). slice_get blocks e.target) es = cc h in
    let own : d ≡ block_with blocks e.target =
    sym (get_or_from_slice_get blocks e.target d no_handle (sym first)) in
    let rest = targets_are blocks ds es more in
    λ i. own i ∷ rest i

-- ---- forms

const_seen : (o : Option KitAttr) (v : Value) (n : ℕ) → number_in o ≡ n →
    op_if {B = Ptr BasicBlock} (constant_form {F = Ptr Operation} o) (v ∷ []) [] [] ≢ machine.Other →
    op_if {B = Ptr BasicBlock} (constant_form {F = Ptr Operation} o) (v ∷ []) [] [] ≡ machine.Constant v n
const_seen (Some (attrs.Integer a)) v n e executes = ap (machine.Constant v) e
const_seen _ v n e executes = absurd (executes refl)

module _ (a : Arithmetic) (v x y : Value) (w : ℕ) where
  abbrev calculated : Option KitType → SeenOp
  calculated o = op_if {B = Ptr BasicBlock} {F = Ptr Operation} (option_map (Calculate a) (width_of o)) (v ∷ [])
      (x ∷ y ∷ []) []

  calc_seen : (o : Option KitType) → (integer_of o).width ≡ w → calculated o ≢ machine.Other →
      calculated o ≡ machine.Calculate a w v x y
  calc_seen (Some (types.Integer t)) e executes = by_test (nat_le t.width 64) executes
    where
      with_test : Bool → SeenOp
      with_test b = op_if {B = Ptr BasicBlock} {F = Ptr Operation}
          (option_map (Calculate a) (if b then Some t.width else None)) (v ∷ []) (x ∷ y ∷ []) []

      by_test : (b : Bool) → with_test b ≢ machine.Other → with_test b ≡ machine.Calculate a w v x y
      by_test true executes = ap (λ k. machine.Calculate a k v x y) e
      by_test false executes = absurd (executes refl)
  calc_seen _ e executes = absurd (executes refl)

module _ (named : Names) (of_text : List ℕ → Option (Ptr Operation)) (numbered : List ℕ → ℕ)
    (agree : (text : List ℕ) → named (numbered text) ≡ of_text text) (rs xs : List Value) where
  abbrev called : Option KitAttr → SeenOp
  called o = op_if {B = Ptr BasicBlock} (call_form of_text o) rs xs []

  call_seen : (o : Option KitAttr) (c : ℕ) → named_in numbered o ≡ c → called o ≢ machine.Other →
      called o ≡ machine.Call rs (named c) xs
  call_seen (Some (attrs.Identifier name)) c e executes =
      by_found (of_text (text_of name)) executes
      ∙ ap (λ k. machine.Call rs k xs) (sym (agree (text_of name)) ∙ ap named e)
    where
      with_found : Option (Ptr Operation) → SeenOp
      with_found o = op_if {B = Ptr BasicBlock} (option_map (λ g. Call (Some g)) o) rs xs []

      by_found : (o : Option (Ptr Operation)) → with_found o ≢ machine.Other → with_found o ≡ machine.Call rs o xs
      by_found None executes = absurd (executes refl)
      by_found (Some g) executes = refl
  call_seen _ c e executes = absurd (executes refl)

module _ (x : Value) (one two : List Value) (b d : Ptr BasicBlock) where
  abbrev forked : Option KitAttr → SeenOp
  forked o = op_if (conditional_form {F = Ptr Operation} o) [] (x ∷ (one ++ (two ++ []))) (b ∷ d ∷ [])

  abbrev sized : List ℕ → SeenOp
  sized sizes = op_if (by_sizes {F = Ptr Operation} sizes) [] (x ∷ (one ++ (two ++ []))) (b ∷ d ∷ [])

  abbrev fork : SeenOp
  fork = machine.CondBr x (record { target = b; operands = one }) (record { target = d; operands = two })

  sizes_seen : (sizes : List ℕ) → slice_index sizes 1 ≡ length one → sized sizes ≢ machine.Other →
      sized sizes ≡ fork
  sizes_seen (condition ∷ first ∷ second ∷ []) e executes =
      let front = taken_first one (two ++ []) first e in
      let back = dropped_first one (two ++ []) first e ∙ append-nil two in
      λ i. machine.CondBr x (record { target = b; operands = front i }) (record { target = d; operands = back i })
  sizes_seen _ e executes = absurd (executes refl)

  fork_seen : (o : Option KitAttr) → slice_index (sizes_in o) 1 ≡ length one → forked o ≢ machine.Other →
      forked o ≡ fork
  fork_seen (Some (attrs.SegmentSizes sizes)) e executes = sizes_seen sizes.items e executes
  fork_seen _ e executes = absurd (executes refl)

-- ---- operations

module _ (s : KitContext) (m q : Ptr Operation) (u : KitTree) (stands : StandsFor s.program q u) where
  abbrev first_width : Option ℕ
  first_width = option_and_then (width_at s) (type_in (results_at s.program q) 0)

  -- the operation of a kind with these results, operands and successors, and the attributes that it has
  abbrev of_kind : KitOp → List Value → List Value → List (Ptr BasicBlock) → SeenOp
  of_kind k rs xs ds = op_if (form_of k (tree_attribute u) first_width (function_named s.program m)) rs xs ds

  op_is : op_at s m q ≡ of_kind u.head.content.kind (names_of u.head.results) u.head.operands u.head.successors
  op_is =
      let form : form_at s m q ≡ form_of u.head.content.kind (tree_attribute u) first_width
      (function_named s.program m) =
      ap (λ (o : Option KitOperation). option_and_then
      (λ kind. form_of kind (λ key. option_and_then (λ (n : KitOperationNotes). attribute_at n.attributes key)
      (option_map (λ (d : KitOperation). d.notes) o)) first_width (function_named s.program m))
      (option_map (λ (d : KitOperation). d.kind) o)) (payload_is s.program q u stands) in
      λ i. op_if (form i) (sym (result_values s.program q u stands) i) (sym (operands_are s.program q u stands) i)
      (sym (successors_are s.program q u stands) i)

  first_type : (h : TypeHandle) → slice_get (words.types_of u.head.results) 0 ≡ Some h →
      type_in (results_at s.program q) 0 ≡ Some h
  first_type h is =
      sym (slice_get-map (λ (t : TypedValue). t.ty) (results_at s.program q) 0)
      ∙ sym (ap (λ (l : List TypeHandle). slice_get l 0) (result_types s.program q u stands)) ∙ is

  module _ (blocks : List (Ptr BasicBlock)) (named : Names) (numbered : List ℕ → ℕ)
      (agree : (text : List ℕ) → named (numbered text) ≡ function_named s.program m text)
      (executes : op_at s m q ≢ machine.Other) where
    abbrev IsKind : KitOp → List Value → List Value → List (flat.Edge Value) → Type 0
    IsKind k rs xs es = IsOf (kit_reading (key_at s.types) numbered) blocks u.head k rs xs es

    abbrev targets : List (flat.Edge Value) → List (Ptr BasicBlock)
    targets es = map (λ (e : flat.Edge Value). block_with blocks e.target) es

    kind_is : (k : KitOp) (rs xs : List Value) (es : List (flat.Edge Value)) → IsKind k rs xs es →
        op_at s m q ≡ of_kind k rs xs (targets es)
    kind_is k rs xs es is =
        let successors = targets_are blocks u.head.successors es is.successors in
        op_is ∙ λ i. of_kind (is.kind i) (is.results i) (is.operands i) (successors i)

    -- the operation, by what it is seen as
    by_kind : (k : KitOp) (rs xs : List Value) (es : List (flat.Edge Value)) (o : SeenOp) → IsKind k rs xs es →
        (of_kind k rs xs (targets es) ≢ machine.Other → of_kind k rs xs (targets es) ≡ o) → op_at s m q ≡ o
    by_kind k rs xs es o is seen_so =
        let same = kind_is k rs xs es is in same ∙ seen_so (λ other. executes (same ∙ other))

    calculation : (a : Arithmetic) (w : ℕ) (v x y : Value) → IsKind (ops.Arithmetic a) (v ∷ []) (x ∷ y ∷ []) [] →
        map (λ ty. (integer_of (key_at s.types ty)).width) (words.types_of u.head.results) ≡ w ∷ [] →
        op_at s m q ≡ machine.Calculate a w v x y
    calculation a w v x y is widths =
        let h = one_made (λ ty. (integer_of (key_at s.types ty)).width) (words.types_of u.head.results) w widths in
        let wide : first_width ≡ width_of (key_at s.types h.0) =
        ap (option_and_then (width_at s)) (first_type h.0 h.1) in
        by_kind (ops.Arithmetic a) (v ∷ []) (x ∷ y ∷ []) [] (machine.Calculate a w v x y) is
        (subst (λ o. op_if {B = Ptr BasicBlock} {F = Ptr Operation} (option_map (Calculate a) o) (v ∷ [])
        (x ∷ y ∷ []) []
        ≢ machine.Other →
        op_if {B = Ptr BasicBlock} {F = Ptr Operation} (option_map (Calculate a) o) (v ∷ []) (x ∷ y ∷ []) []
        ≡ machine.Calculate a w v x y) (sym wide) (calc_seen a v x y w (key_at s.types h.0) h.2))

    comparison_seen : (a : Comparison) (v x y : Value) → IsKind (ops.Comparison a) (v ∷ []) (x ∷ y ∷ []) [] →
        op_at s m q ≡ machine.Compare a v x y
    comparison_seen a v x y is = kind_is (ops.Comparison a) (v ∷ []) (x ∷ y ∷ []) [] is

    -- it is what its flat view is seen as
    pub op_seen : (op : FlatOp) → IsOp (kit_reading (key_at s.types) numbered) blocks u.head op →
        op_at s m q ≡ seen blocks named op
    op_seen (flat.Const v n) is =
        by_kind ops.Constant (v ∷ []) [] [] (machine.Constant v n) is.0
        (const_seen (tree_attribute u keys.constant_value) v n is.1)
    op_seen (flat.Calc (flat.Calculated a) w v x y) is = calculation a w v x y is.0 is.1
    op_seen (flat.Calc (flat.Compared c) w v x y) is = comparison_seen c v x y is.0
    op_seen (flat.Emit x) is = kind_is ops.Emit [] (x ∷ []) [] is
    op_seen (flat.Call rs c xs) is =
        by_kind ops.Call rs xs [] (machine.Call rs (named c) xs) is.0
        (call_seen named (function_named s.program m) numbered agree rs xs (tree_attribute u keys.callee) c is.1)
    op_seen (flat.Branch flat.Plain [] e []) is =
        kind_is ops.Br [] (e.forwards ++ []) (e ∷ []) is.0
        ∙ ap (λ vs. machine.Br (record { target = block_with blocks e.target; operands = vs })) (append-nil e.forwards)
    op_seen (flat.Branch flat.Plain [] e (d ∷ ds)) is = absurd (let h = is.2 in omega (arith, h))
    op_seen (flat.Branch flat.Plain (x ∷ xs) e es) is = absurd (let h = is.1 in omega (arith, h))
    op_seen (flat.Branch flat.Nonzero (x ∷ []) e (d ∷ [])) is =
        by_kind ops.CondBr [] (x ∷ (e.forwards ++ (d.forwards ++ []))) (e ∷ d ∷ [])
        (machine.CondBr x (seen_edge blocks named e) (seen_edge blocks named d)) is.0
        (fork_seen x e.forwards d.forwards (block_with blocks e.target) (block_with blocks d.target)
        (tree_attribute u keys.segment_sizes) is.3)
    op_seen (flat.Branch flat.Nonzero [] e es) is = absurd (let h = is.1 in omega (arith, h))
    op_seen (flat.Branch flat.Nonzero (x ∷ y ∷ xs) e es) is = absurd (let h = is.1 in omega (arith, h))
    op_seen (flat.Branch flat.Nonzero (x ∷ []) e []) is = absurd (let h = is.2 in omega (arith, h))
    op_seen (flat.Branch flat.Nonzero (x ∷ []) e (d ∷ c ∷ ds)) is = absurd (let h = is.2 in omega (arith, h))
    op_seen (flat.Branch (flat.Cases ns) xs e es) is = absurd is
    op_seen (flat.Return xs) is = kind_is ops.Return [] xs [] is
