-- A tree that keeps the rules keeps them where values that it doesn't define have other types.
use Rattle.std.proofs.Common.{◌≡◌, ⊎_elim, inl, inr, ℕ, zero, suc, cond, List, []}
use Rattle.std.proofs.Common.{◌∷◌, ◌++◌, map, take, drop, Option, Some, None, slice_get, refl, sym, ap, ◌∙◌}
use Rattle.std.proofs.Common.{subst}
use Rattle.std.specs.Prelude.{◌==◌}
use Rattle.ir_base.specs.declared.types.TypeHandle.{TypeHandle}
use Rattle.ir_program.specs.declared.handles.Ptr.{Ptr}
use Rattle.ir_program.specs.declared.handles.BasicBlock.{BasicBlock}
use Rattle.ir_program.specs.declared.handles.Value.{Value}
use Rattle.ir_trees.specs.Trees.{Defined}
use Rattle.kit.specs.Context.{KitTree}
use Rattle.kit_checks.specs.Faults.{Keeps}
use Rattle.kit_checks.specs.KitWorld.{HasDeclaredTypes, kit_world}
use Rattle.kit_checks.specs.Rules as rules
use Rattle.kit_checks.specs.Sites.{operation_list, site_from, site_at}
use Rattle.kit_checks.specs.Words.{Every, AreAllEqual, types_of, values_of, results_of, values_before}
use Rattle.kit_checks.specs.Words.{values_if, first_body, visible, is_module, along_edge}
use Rattle.kit_checks.specs.Words.{segment, segment_sizes, sizes_or_none, first_module}
use Rattle.kit_checks.specs.declared.rule.Rule.{Rule}
use Rattle.kit_checks.specs.declared.rule.Rule.TheVariants as rule
use Rattle.kit_checks.proofs.Down.{step_to, stepped}
use Rattle.kit_ops.specs.declared.kinds.KitOp.{KitOp}
use Rattle.kit_ops.specs.declared.kinds.KitOp.TheVariants as ops
use Rattle.kit_ops.specs.declared.types.KitType.{KitType}
use Rattle.kit_pass_rules.specs.Worlds.{ObeysIn}
use Rattle.kit_pass_rules.proofs.Lists.{map_at, has_at_index, index_of_has, map_same}
use Rattle.kit_pass_rules.proofs.Walk.{block_of, within, occurrence_of, Standing, stands_root, child_of}
use Rattle.kit_pass_rules.proofs.Chains.ChainLemmas.{in_cond}
use Rattle.kit_pass_rules.proofs.Chains.InversionLemmas.{KitBody}
use Rattle.kit_pass_rules.proofs.Chains.ListLemmas.{heads, defined_by, results_are, results_taken, definer}
use Rattle.kit_pass_rules.proofs.Chains.ListLemmas.{defined_take}
use Rattle.kit_pass_rules.proofs.Chains.PlaceLemmas.{KitSite, KitAround, BlockStep, Step, block_stands, around_of, site_of}
use Rattle.kit_pass_rules.proofs.Chains.PlaceLemmas.{beside}
use Rattle.opt_trees.specs.Occurrences.{Has}
use Rattle.opt_trees.proofs.Lists.{some_same, none_some}
use Rattle.opt_trees.proofs.NoneDead.{has-append}

module _ (t : KitTree) where
  -- the root, or an operation of a block
  pub data IsPlace : KitSite → Type 0 where
    the_root : IsPlace (record { op = t; around = None })
    a_step : (x : Step t) → IsPlace (site_of t x)

  walk : (s : KitSite) (outer : List KitTree) → Standing t s outer → IsPlace s → (p : List ℕ) (site : KitSite) →
      site_from s outer p ≡ Some site → IsPlace site
  walk s outer up here [] site e = subst IsPlace (some_same s site e) here
  walk s outer up here (r ∷ []) site e = absurd (none_some site e)
  walk s outer up here (r ∷ b ∷ []) site e = absurd (none_some site e)
  walk s outer up here (r ∷ b ∷ k ∷ p) site e =
      let st = stepped s outer r b k p site e in
      let c = child_of t s outer up r b k st.blocks st.body st.op st.region_here st.block_here st.op_here in
      let x : Step t = record {
        in_block = record {
          s = s;
          outer = outer;
          up = up;
          r = r;
          b = b;
          blocks = st.blocks;
          body = st.body;
          region_here = st.region_here;
          block_here = st.block_here;
        };
        k = k;
        u = st.op;
        here = st.op_here;
      } in
      walk (step_to s outer st.blocks b st.body k st.op) (s.op ∷ outer) c.standing (a_step x) p site st.goes_on

  pub place_of : (p : List ℕ) (site : KitSite) → site_at t p ≡ Some site → IsPlace site
  place_of p site e = walk (record { op = t; around = None }) [] (stands_root t) the_root p site e

module _ (leads : TypeHandle → Option KitType) (old new : Value → Option TypeHandle) (t : KitTree)
    (typed_old : HasDeclaredTypes old t)
    (typed_new : HasDeclaredTypes new t) where
  -- what is defined has one type
  argument_same : (x : BlockStep t) (v : Value) → Has v (values_of x.body.label.arguments) → new v ≡ old v
  argument_same x v h =
      let st = block_stands t x in
      let i = index_of_has (values_of x.body.label.arguments) v h in
      let d = map_at (λ (d : Defined Value TypeHandle). d.name) x.body.label.arguments i.0 v i.1 in
      let has = has_at_index x.body.label.arguments i.0 d.0 d.1 in
      subst (λ z. new z ≡ old z) d.2
      (typed_new.arguments (block_of st.spot x.body) st.here d.0 has
      ∙ sym (typed_old.arguments (block_of st.spot x.body) st.here d.0 has))

  result_same : (x : BlockStep t) (v : Value) → Has v (defined_by (heads (operation_list x.body.operations))) →
      new v ≡ old v
  result_same x v h =
      let st = block_stands t x in
      let u = definer v (operation_list x.body.operations) h in
      let here = st.operations u.0 u.1 u.2 in
      let i = index_of_has (values_of u.1.head.results) v u.3 in
      let d = map_at (λ (d : Defined Value TypeHandle). d.name) u.1.head.results i.0 v i.1 in
      let has = has_at_index u.1.head.results i.0 d.0 d.1 in
      subst (λ z. new z ≡ old z) d.2
      (typed_new.results (occurrence_of (within st.spot x.body) u.1) here d.0 has
      ∙ sym (typed_old.results (occurrence_of (within st.spot x.body) u.1) here d.0 has))

  seen_same : (x : BlockStep t) (k : ℕ) (v : Value) → Has v (visible (around_of t x k)) → new v ≡ old v
  seen_same x k v h = ⊎_elim
      (λ a. ⊎_elim
      (λ b. argument_same x v b)
      (λ b. result_same x v (defined_take v (heads (operation_list x.body.operations)) k
      (subst (Has v) (results_taken (operation_list x.body.operations) k) b)))
      (has-append v (values_of x.body.label.arguments) (results_of (take k (operation_list x.body.operations))) a))
      (λ a. of_entry (first_body x.blocks) refl (in_cond (x.b == 0) v (values_if (first_body x.blocks)) a))
      (has-append v (values_before x.body k) (cond (x.b == 0) [] (values_if (first_body x.blocks))) h)
    where
      of_entry : (o : Option KitBody) → first_body x.blocks ≡ o → Has v (values_if o) → new v ≡ old v
      of_entry None e a = absurd a
      of_entry (Some e) q a =
          let y = beside t x 0 e q in
          ⊎_elim
          (λ b. argument_same y v b)
          (λ b. result_same y v (subst (Has v) (results_are (operation_list e.operations)) b))
          (has-append v (values_of e.label.arguments) (results_of (operation_list e.operations)) a)

  module _ (obeys : ObeysIn (kit_world leads old) t) where
    keeps_old : (r : Rule) (p : List ℕ) (s : KitSite) → site_at t p ≡ Some s → Keeps (kit_world leads old) r s
    keeps_old r p s e = obeys r p s e

    -- operands are defined
    operands_same : (s : KitSite) → IsPlace t s → rules.OperandsAreVisible (kit_world leads old) s →
        Every (λ v. new v ≡ old v) s.op.head.operands
    operands_same _ the_root r k v e = absurd (none_some v (ap (λ l. slice_get l k) (sym (r.root refl)) ∙ e))
    operands_same _ (a_step x) r k v e =
        let seen = r.inside (around_of t x.in_block x.k) refl k v e in
        seen_same x.in_block x.k v (has_at_index (visible (around_of t x.in_block x.k)) seen.0 v seen.1)

    same_in : (xs ys : List Value) → ((v : Value) → Has v xs → Has v ys) → Every (λ v. new v ≡ old v) ys →
        map new xs ≡ map old xs
    same_in xs ys sub h = map_same new old xs (λ k v e. let i = index_of_has ys v (sub v (has_at_index xs k v e)) in
        h i.0 v i.1)

    has_take : {X : Type 0} (x : X) (xs : List X) (n : ℕ) → Has x (take n xs) → Has x xs
    has_take x xs zero h = absurd h
    has_take x [] (suc n) h = absurd h
    has_take x (y ∷ xs) (suc n) h = ⊎_elim (λ e. inl e) (λ r. inr (has_take x xs n r)) h

    has_drop : {X : Type 0} (x : X) (xs : List X) (n : ℕ) → Has x (drop n xs) → Has x xs
    has_drop x xs zero h = h
    has_drop x [] (suc n) h = absurd h
    has_drop x (y ∷ xs) (suc n) h = inr (has_drop x xs n h)

    has_segment : {X : Type 0} (x : X) (xs : List X) (sizes : List ℕ) (i : ℕ) → Has x (segment xs sizes i) → Has x xs
    has_segment x xs [] i h = absurd h
    has_segment x xs (n ∷ sizes) zero h = has_take x xs n h
    has_segment x xs (n ∷ sizes) (suc i) h = has_drop x xs n (has_segment x (drop n xs) sizes i h)

    has_along : (v : Value) (k : KitOp) (sizes : List ℕ) (xs : List Value) (i : ℕ) → Has v (along_edge k sizes xs i) →
        Has v xs
    has_along v ops.Br sizes xs i h = h
    has_along v ops.CondBr sizes xs i h = has_segment v xs sizes (suc i) h
    has_along v k sizes xs i h = absurd h

    module _ (s : KitSite) (same : Every (λ v. new v ≡ old v) s.op.head.operands) where
      all_same : map new s.op.head.operands ≡ map old s.op.head.operands
      all_same = same_in s.op.head.operands s.op.head.operands (λ v h. h) same

      kind_types : (k : KitOp) → rules.HasKindTypes (kit_world leads old) s.op k →
          rules.HasKindTypes (kit_world leads new) s.op k
      kind_types (ops.Arithmetic x) h = subst AreAllEqual (sym
          (ap (λ l. l ++ map Some (types_of s.op.head.results)) all_same)) h
      kind_types (ops.Comparison x) h = (subst AreAllEqual (sym all_same) h.0, h.1)
      kind_types ops.CondBr h = λ v here. let x = h v here in (x.0, same 0 v here ∙ x.1, x.2)
      kind_types k h = tt

      leads_on : (a : KitAround) (edge : ℕ) (target : Ptr BasicBlock) →
          rules.EdgeLeadsTo (kit_world leads old) s.op a edge target →
          rules.EdgeLeadsTo (kit_world leads new) s.op a edge target
      leads_on a edge target h = record {
        body = h.body;
        here = h.here;
        named = h.named;
        operands = λ is.
            let sizes : List ℕ = sizes_or_none (segment_sizes (kit_world leads old) s.op) in
            same_in (along_edge s.op.head.content.kind sizes s.op.head.operands edge) s.op.head.operands
            (λ v i. has_along v s.op.head.content.kind sizes s.op.head.operands edge i) same ∙ h.operands is;
      }

      nearest_same : (us : List KitTree) → first_module (kit_world leads new) us ≡ first_module (kit_world leads old) us
      nearest_same [] = refl
      nearest_same (u ∷ us) = ap (λ o. cond (is_module u.head.content.kind) (Some u) o) (nearest_same us)

      calls : (a : KitAround) → rules.CallsFunction (kit_world leads old) s.op a →
          rules.CallsFunction (kit_world leads new) s.op a
      calls a h = record {
        scope = h.scope;
        nearest = nearest_same (a.owner ∷ a.outer) ∙ h.nearest;
        name = h.name;
        has_name = h.has_name;
        function = h.function;
        member = h.member;
        is_function = h.is_function;
        named = h.named;
        type = h.type;
        has_type = h.has_type;
        same_type = h.same_type;
        signature = h.signature;
        is_signature = h.is_signature;
        operands = all_same ∙ h.operands;
        results = h.results;
      }

      function_body : rules.HasFunctionBody (kit_world leads old) s.op →
          rules.HasFunctionBody (kit_world leads new) s.op
      function_body h = record {
        type = h.type;
        has_type = h.has_type;
        inputs = h.inputs;
        results = h.results;
        entry = h.entry;
        has_entry = h.has_entry;
        arguments = h.arguments;
      }

      constant : rules.HasConstantValue (kit_world leads old) s.op → rules.HasConstantValue (kit_world leads new) s.op
      constant h = record {
        value = h.value;
        has_value = h.has_value;
        is_type = h.is_type;
        in_range = h.in_range;
        results = h.results;
      }

      fits : (k : KitOp) → rules.FitsKind (kit_world leads old) s.op k → rules.FitsKind (kit_world leads new) s.op k
      fits ops.Module h = h
      fits ops.Func h = h
      fits ops.Constant h = h
      fits ops.ForwardRef h = h
      fits (ops.Arithmetic x) h = h
      fits (ops.Comparison x) h = h
      fits ops.Br h = h
      fits ops.CondBr h = h
      fits ops.Call h = record {
        callee = h.callee;
        signature = h.signature;
        is_signature = h.is_signature;
        numbers = h.numbers;
      }
      fits ops.Emit h = h
      fits ops.Return h = h

      rule_module : rules.ModuleHolds (kit_world leads old) s → rules.ModuleHolds (kit_world leads new) s
      rule_module h = record { body = h.body; kinds = h.kinds; names = h.names }

      rule_values : rules.ValuesAreIntegers (kit_world leads old) s → rules.ValuesAreIntegers (kit_world leads new) s
      rule_values h = record { results = h.results; arguments = h.arguments }

      rule_ends : rules.BlocksEnd (kit_world leads old) s → rules.BlocksEnd (kit_world leads new) s
      rule_ends h = record { last = h.last; none_empty = h.none_empty }

      rule_visible : rules.OperandsAreVisible (kit_world leads old) s → rules.OperandsAreVisible (kit_world leads new) s
      rule_visible h = record { inside = h.inside; root = h.root }

      rule_attributes : rules.AttributesAreKnown (kit_world leads old) s →
          rules.AttributesAreKnown (kit_world leads new) s
      rule_attributes h = record { no_forward_ref = h.no_forward_ref; own = h.own; blocks = h.blocks }

      moved : (r : Rule) → Keeps (kit_world leads old) r s → Keeps (kit_world leads new) r s
      moved rule.RootIsModule h = h
      moved rule.ModuleHolds h = rule_module h
      moved rule.FunctionHasType h = λ e. function_body (h e)
      moved rule.FunctionHolds h = h
      moved rule.ValuesAreIntegers h = rule_values h
      moved rule.BlocksEnd h = rule_ends h
      moved rule.OperandsAreVisible h = rule_visible h
      moved rule.TypesAgree h = kind_types s.op.head.content.kind h
      moved rule.EdgesFit h = λ edge target e. let x = h edge target e in (x.0, x.1, leads_on x.0 edge target x.2)
      moved rule.CallsFit h = λ e. let x = h e in (x.0, x.1, calls x.0 x.2)
      moved rule.ReturnsFit h = λ e a f i q. all_same ∙ h e a f i q
      moved rule.ConstantsFit h = λ e. constant (h e)
      moved rule.AttributesAreKnown h = rule_attributes h
      moved rule.FitsFormat h = fits s.op.head.content.kind h

    pub with_types : ObeysIn (kit_world leads new) t
    with_types r p s e = moved s (operands_same s (place_of t p s e) (keeps_old rule.OperandsAreVisible p s e)) r
        (keeps_old r p s e)
