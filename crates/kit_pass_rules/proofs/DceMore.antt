-- What is left without what is dead keeps the rules of functions, types, calls, constants, attributes and formats.
use Rattle.std.proofs.Common.{◌≡◌, inl, inr, ℕ, suc, ◌+◌, ◌<◌, Bool, true, false, cond, List, [], ◌∷◌, ◌++◌, map, length, Option, Some, None, option_and_then, slice_get, refl, sym, ap, ◌∙◌, subst, arith}
use Rattle.std.specs.Prelude.{◌&&◌, not, if◌then◌else◌}
use Rattle.ir_base.specs.declared.types.TypeHandle.{TypeHandle}
use Rattle.ir_names.specs.declared.interfaces.OpInterface.TheVariants as op
use Rattle.ir_program.specs.declared.handles.Value.{Value}
use Rattle.ir_trees.specs.Searched.{Lists}
use Rattle.ir_trees.specs.Stands.{by_handle}
use Rattle.ir_trees.specs.Trees.{Defined, Blocks}
use Rattle.kit.specs.Context.{KitTree}
use Rattle.kit.specs.Dropped.{kept}
use Rattle.ir_names.specs.Dictionary.{attribute_at}
use Rattle.kit.specs.Meaning.{KitOperation, KitBlock, kit, is_function, first_size, forwards_of, dropped_of, without_names}
use Rattle.kit_checks.specs.KitWorld.{HasDeclaredTypes, kit_world}
use Rattle.kit_checks.specs.Rules as rules
use Rattle.kit_checks.specs.Sites.{Listed, operation_list, block_list, region_list}
use Rattle.kit_checks.specs.Words.{Every, AreAllEqual, HaveTypes, types_of, bodies_of, first_body, members_of, kind_of, is_module, signature, first_module, sizes_in}
use Rattle.kit_checks.specs.declared.rule.Rule.TheVariants as rule
use Rattle.kit_checks.proofs.Down.{both}
use Rattle.kit_checks.proofs.Passed.{from_joined, in_joined}
use Rattle.kit_ops.specs.declared.attributes.IntegerAttr.{IntegerAttr}
use Rattle.kit_ops.specs.declared.attributes.KitAttr.{KitAttr}
use Rattle.kit_ops.specs.declared.attributes.keys.TheConstants.{CONSTANT_VALUE}
use Rattle.kit_ops.specs.declared.kinds.KitOp.{KitOp}
use Rattle.kit_ops.specs.declared.kinds.KitOp.TheVariants as ops
use Rattle.kit_ops.specs.declared.types.KitType.{KitType}
use Rattle.kit_ops.specs.Keys as keys
use Rattle.kit_ops.specs.Table.{has_interface}
use Rattle.kit_pass_rules.specs.Laws.{IsGood}
use Rattle.kit_pass_rules.proofs.DceCame.{KitAround, KitSite, thin_around, Old, Came, at_root, below}
use Rattle.kit_pass_rules.proofs.DceRules.{root_keeps, keeps, lost_at, function_stays, operands_stay, operands_same, types_same}
use Rattle.kit_pass_rules.proofs.DceVisible.{if_not, may_of}
use Rattle.kit_pass_rules.proofs.Heads.{attribute_same, symbol_same, own_type_same, signature_same, constant_same, callee_same, callee_type_same, callee_signature_same, attributes_kept, changed_every, common_named, not_condition}
use Rattle.kit_pass_rules.proofs.Left.{has_left_over}
use Rattle.kit_pass_rules.proofs.Lists.{map_get, map_at, has_at_index, index_of_has}
use Rattle.kit_pass_rules.proofs.Segments.{from, drop_count, condition_of, condition_left, sizes_left}
use Rattle.kit_pass_rules.proofs.Thin.{KitBody, thin_tree, thin_body, goes, regions_thin, blocks_thin, operations_thin, bodies_thin}
use Rattle.kit_pass_rules.proofs.Walk.{block_of, within, occurrence_of, Standing, stands_root, child_of, block_here}
use Rattle.kit_views.proofs.Dropped.{drop_none}
use Rattle.opt_trees.specs.Dialect.{drop}
use Rattle.opt_trees.specs.Dce.{TreeSurroundings as DceAround, Slot, Gone, IsGoneExactly, gone_at, thin}
use Rattle.opt_trees.specs.Occurrences.{Has}
use Rattle.opt_trees.proofs.Lists.{some_same, none_some, length-map}

and_no : (b : Bool) → (b && false) ≡ true → ⊥
and_no true e = cc e
and_no false e = cc e

-- the first stays where its index does
first_stays : {X : Type 0} (p : ℕ → Bool) (xs : List X) (x : X) → p 0 ≡ false → slice_get (drop p xs) 0 ≡ Some x → slice_get xs 0 ≡ Some x
first_stays p [] x q e = e
first_stays p (y ∷ xs) x q e = sym (ap (λ (b : Bool). slice_get (if b then drop (λ i. p (suc i)) xs else y ∷ drop (λ i. p (suc i)) xs) 0) q) ∙ e

module _ (leads : TypeHandle → Option KitType) (old new : Value → Option TypeHandle) (w : DceAround by_handle IntegerAttr) (t : KitTree)
    (good : IsGood leads old t) (g : Gone by_handle) (is_gone : IsGoneExactly kit w t g) where
  -- ---- functions

  argument_stays : (s : KitSite) (outer : List KitTree) → Standing t s outer → (blocks : Listed KitOperation KitBlock Blocks) (entry : KitBody) →
      slice_get (region_list s.op.regions) 0 ≡ Some blocks → slice_get (block_list blocks) 0 ≡ Some entry → (i : ℕ) (o : Option (Defined Value TypeHandle)) →
      slice_get entry.label.arguments i ≡ o → gone_at g o ≡ false
  argument_stays s outer up blocks entry hr hb i None e = refl
  argument_stays s outer up blocks entry hr hb i (Some d) e = if_not (g.item (Slot d.name)) (λ q.
      let m = may_of w t (Slot d.name) (is_gone.dead (Slot d.name) q) in
      let x = index_of_has (map (λ (d : Defined Value TypeHandle). d.name) m.it.label.arguments) d.name m.argument in
      let b = block_here t s outer up 0 0 blocks entry hr hb in
      let own : slice_get (map (λ (d : Defined Value TypeHandle). d.name) entry.label.arguments) i ≡ Some d.name = map_get (λ (d : Defined Value TypeHandle). d.name) entry.label.arguments i d e in
      let same : m.it ≡ block_of b.spot entry = (good.apart.arguments m.it (block_of b.spot entry) d.name x.0 i m.stands b.block x.1 own).0 in
      let removed : (is_function b.spot.owner.content.kind && not b.spot.first) ≡ true = sym (λ i. is_function (same i).spot.owner.content.kind && not (same i).spot.first) ∙ m.removable in
      and_no (is_function b.spot.owner.content.kind) (sym (ap (λ z. is_function b.spot.owner.content.kind && not z) (b.first refl)) ∙ removed))

  function_body : (s : KitSite) (outer : List KitTree) → Standing t s outer → rules.HasFunctionBody (kit_world leads old) s.op → rules.HasFunctionBody (kit_world leads new) (thin_tree g s.op)
  function_body s outer up h =
      let x = both first_body (slice_get (region_list s.op.regions) 0) h.entry h.has_entry in
      let region : slice_get (region_list (thin kit g s.op.regions)) 0 ≡ Some (thin kit g x.0) =
      ap (λ l. slice_get l 0) (regions_thin g s.op.regions) ∙ map_get (λ (bs : Listed KitOperation KitBlock Blocks). thin kit g bs) (region_list s.op.regions) 0 x.0 x.1 in
      let block : slice_get (block_list (thin kit g x.0)) 0 ≡ Some (thin_body g h.entry) = ap (λ l. slice_get l 0) (blocks_thin g x.0) ∙ map_get (thin_body g) (block_list x.0) 0 h.entry x.2 in
      let all : drop (λ i. gone_at g (slice_get h.entry.label.arguments i)) h.entry.label.arguments ≡ h.entry.label.arguments =
      drop_none (λ i. gone_at g (slice_get h.entry.label.arguments i)) h.entry.label.arguments
      (λ i. argument_stays s outer up x.0 h.entry x.1 x.2 i (slice_get h.entry.label.arguments i) refl) in
      record {
        type = h.type;
        has_type = signature_same leads old new g s.op ∙ h.has_type;
        inputs = h.inputs;
        results = h.results;
        entry = thin_body g h.entry;
        has_entry = ap (option_and_then first_body) region ∙ block;
        arguments = ap types_of all ∙ h.arguments;
      }

  pub rule_function : (s : KitSite) → Came g t s → rules.FunctionHasType (kit_world leads new) s
  rule_function _ at_root = λ e.
      let r : rules.FunctionHasType (kit_world leads old) (record { op = t; around = None }) = root_keeps leads old new w t good g is_gone rule.FunctionHasType in
      function_body (record { op = t; around = None }) [] (stands_root t) (r e)
  rule_function _ (below u a j o) = λ e.
      let r : rules.FunctionHasType (kit_world leads old) (record { op = u; around = Some a }) = keeps leads old new w t good g is_gone u a j o rule.FunctionHasType in
      let c = child_of t (record { op = a.owner; around = o.up_around }) a.outer o.up o.region a.number a.index a.blocks a.body u o.region_here o.block_here o.here in
      function_body (record { op = u; around = Some a }) (a.owner ∷ a.outer) c.standing (r e)

  -- ---- constants and attributes

  constant_value_kept : (u : KitTree) → rules.HasConstantValue (kit_world leads old) u → rules.HasConstantValue (kit_world leads new) (thin_tree g u)
  constant_value_kept u h = record { value = h.value; has_value = constant_same leads old new g u ∙ h.has_value; is_type = h.is_type; in_range = h.in_range; results = h.results }

  pub rule_constants : (s : KitSite) → Came g t s → rules.ConstantsFit (kit_world leads new) s
  rule_constants _ at_root = λ e.
      let r : rules.ConstantsFit (kit_world leads old) (record { op = t; around = None }) = root_keeps leads old new w t good g is_gone rule.ConstantsFit in
      constant_value_kept t (r e)
  rule_constants _ (below u a j o) = λ e.
      let r : rules.ConstantsFit (kit_world leads old) (record { op = u; around = Some a }) = keeps leads old new w t good g is_gone u a j o rule.ConstantsFit in
      constant_value_kept u (r e)

  common_blocks : (u : KitTree) → Every (λ (b : KitBody). Every rules.IsCommon b.label.content.attributes) (bodies_of u) →
      Every (λ (b : KitBody). Every rules.IsCommon b.label.content.attributes) (bodies_of (thin_tree g u))
  common_blocks u h k b e =
      let x = map_at (thin_body g) (bodies_of u) k b (sym (ap (λ l. slice_get l k) (bodies_thin g u)) ∙ e) in
      let body : KitBody = x.0 in
      subst (λ (z : KitBody). Every rules.IsCommon z.label.content.attributes) x.2
      (changed_every rules.IsCommon (less body) keys.given_names body.label.content.attributes (h k body x.1) (named body))
    where
      less : KitBody → KitAttr → KitAttr
      less body = without_names (λ i. gone_at g (slice_get body.label.arguments i))

      named : (body : KitBody) (e : List ℕ × KitAttr) → rules.IsCommon e → rules.IsCommon (e.0, less body e.1)
      named body e = common_named (λ i. gone_at g (slice_get body.label.arguments i)) e

  pub rule_attributes : (s : KitSite) → Came g t s → rules.AttributesAreKnown (kit_world leads new) s
  rule_attributes _ at_root =
      let r : rules.AttributesAreKnown (kit_world leads old) (record { op = t; around = None }) = root_keeps leads old new w t good g is_gone rule.AttributesAreKnown in
      record { no_forward_ref = r.no_forward_ref; own = attributes_kept t.head.content.kind (g.operand t.head.name) t.head.content.notes.attributes r.own; blocks = common_blocks t r.blocks }
  rule_attributes _ (below u a j o) =
      let r : rules.AttributesAreKnown (kit_world leads old) (record { op = u; around = Some a }) = keeps leads old new w t good g is_gone u a j o rule.AttributesAreKnown in
      record { no_forward_ref = r.no_forward_ref; own = attributes_kept u.head.content.kind (g.operand u.head.name) u.head.content.notes.attributes r.own; blocks = common_blocks u r.blocks }

  -- ---- types

  pub condition_stays : (u : KitTree) (a : KitAround) (j : ℕ) → Old g t u a j → u.head.content.kind ≡ ops.CondBr → g.operand u.head.name 0 ≡ false
  condition_stays u a j o e = if_not (g.operand u.head.name 0) (λ q.
      let c = child_of t (record { op = a.owner; around = o.up_around }) a.outer o.up o.region a.number a.index a.blocks a.body u o.region_here o.block_here o.here in
      let f = lost_at leads old new w t good g is_gone (occurrence_of (within c.spot a.body) u) c.here 0 q in
      let z : 0 < 0 = not_condition (first_size u.head.content.notes.attributes) (length u.head.operands) f.1.edge f.1.place 0
      (sym (ap (λ k. slice_get (forwards_of k (first_size u.head.content.notes.attributes) (length u.head.operands) f.1.edge) f.1.place) e) ∙ f.1.gives) in
      omega (arith, z))

  module _ (typed : HasDeclaredTypes new (thin_tree g t)) where
    kind_types : (u : KitTree) (a : KitAround) (j : ℕ) → Old g t u a j → (k : KitOp) → u.head.content.kind ≡ k →
        rules.HasKindTypes (kit_world leads old) u k → rules.HasKindTypes (kit_world leads new) (thin_tree g u) k
    kind_types u a j o (ops.Arithmetic x) e h =
        subst AreAllEqual (sym (ap (λ l. l ++ map Some (types_of u.head.results)) (types_same leads old new w t good g is_gone u a j o typed (ap (λ k. has_interface k op.Branch) e ∙ refl)))) h
    kind_types u a j o (ops.Comparison x) e h =
        (subst AreAllEqual (sym (types_same leads old new w t good g is_gone u a j o typed (ap (λ k. has_interface k op.Branch) e ∙ refl))) h.0, h.1)
    kind_types u a j o ops.CondBr e h = λ v here.
        let first = first_stays (g.operand u.head.name) u.head.operands v (condition_stays u a j o e) here in
        let x = h v first in
        (x.0, operands_same leads old new w t good g is_gone u a j o typed 0 v here ∙ x.1, x.2)
    kind_types u a j o k e h = tt

    pub rule_types : (s : KitSite) → Came g t s → rules.TypesAgree (kit_world leads new) s
    rule_types _ at_root =
        let m : t.head.content.kind ≡ ops.Module = root_keeps leads old new w t good g is_gone rule.RootIsModule refl in
        subst (rules.HasKindTypes (kit_world leads new) (thin_tree g t)) (sym m) tt
    rule_types _ (below u a j o) =
        kind_types u a j o u.head.content.kind refl (keeps leads old new w t good g is_gone u a j o rule.TypesAgree)

    -- ---- calls and returns

    have_types : (u : KitTree) (a : KitAround) (j : ℕ) → Old g t u a j → has_interface u.head.content.kind op.Branch ≡ false → (hs : List TypeHandle) →
        HaveTypes (kit_world leads old) u.head.operands hs → HaveTypes (kit_world leads new) (drop (g.operand u.head.name) u.head.operands) hs
    have_types u a j o none hs h = types_same leads old new w t good g is_gone u a j o typed none ∙ h

    pub rule_returns : (s : KitSite) → Came g t s → rules.ReturnsFit (kit_world leads new) s
    rule_returns _ at_root = λ e a f h. absurd (none_some a h.0)
    rule_returns _ (below u a j o) = λ e b f h s.
        let same : thin_around g a j ≡ b = some_same (thin_around g a j) b h.0 in
        let r : rules.ReturnsFit (kit_world leads old) (record { op = u; around = Some a }) = keeps leads old new w t good g is_gone u a j o rule.ReturnsFit in
        let signed : signature (kit_world leads old) a.owner ≡ Some f = sym (signature_same leads old new g a.owner) ∙ (ap (λ (z : KitAround). signature (kit_world leads new) z.owner) same ∙ s) in
        have_types u a j o (ap (λ k. has_interface k op.Branch) e) f.results.items
        (r e a f (refl, ap (λ (z : KitAround). kind_of (kit_world leads new) z.owner) same ∙ h.1) signed)

    first_module_left : (us : List KitTree) (s : KitTree) → first_module (kit_world leads old) us ≡ Some s →
        Has s us × (first_module (kit_world leads new) (map (thin_tree g) us) ≡ Some (thin_tree g s))
    first_module_left [] s e = absurd (none_some s e)
    first_module_left (u ∷ us) s e = step (is_module u.head.content.kind) e (first_module_left us s)
      where
        step : (b : Bool) → cond b (Some u) (first_module (kit_world leads old) us) ≡ Some s →
            (first_module (kit_world leads old) us ≡ Some s → Has s us × (first_module (kit_world leads new) (map (thin_tree g) us) ≡ Some (thin_tree g s))) →
            Has s (u ∷ us) × (cond b (Some (thin_tree g u)) (first_module (kit_world leads new) (map (thin_tree g) us)) ≡ Some (thin_tree g s))
        step true q ih = let z : u ≡ s = some_same u s q in (inl (sym z), ap (λ x. Some (thin_tree g x)) z)
        step false q ih = let r = ih q in (inr r.0, r.1)

    member_left : (x y : KitTree) → Lists (members_of x) y → goes g y ≡ false → Lists (members_of (thin_tree g x)) (thin_tree g y)
    member_left x y l q =
        let b = from_joined (λ (b : KitBody). operation_list b.operations) (bodies_of x) y (has_at_index (members_of x) l.0 y l.1) in
        let body : KitBody = b.0 in
        let i = index_of_has (bodies_of x) body b.1 in
        let bodies : Has (thin_body g body) (bodies_of (thin_tree g x)) =
        subst (Has (thin_body g body)) (sym (bodies_thin g x)) (has_at_index (map (thin_body g) (bodies_of x)) i.0 (thin_body g body) (map_get (thin_body g) (bodies_of x) i.0 body i.1)) in
        let ops : Has (thin_tree g y) (operation_list (thin kit g body.operations)) =
        subst (Has (thin_tree g y)) (sym (operations_thin g body.operations)) (has_left_over (goes g) (thin_tree g) (operation_list body.operations) y b.2 q) in
        index_of_has (members_of (thin_tree g x)) (thin_tree g y)
        (in_joined (λ (b : KitBody). operation_list b.operations) (bodies_of (thin_tree g x)) (thin_body g body) (thin_tree g y) bodies ops)

    calls : (u : KitTree) (a : KitAround) (j : ℕ) → Old g t u a j → u.head.content.kind ≡ ops.Call →
        rules.CallsFunction (kit_world leads old) u a → rules.CallsFunction (kit_world leads new) (thin_tree g u) (thin_around g a j)
    calls u a j o e h =
        let m = first_module_left (a.owner ∷ a.outer) h.scope h.nearest in
        let x = o.members h.scope m.0 h.function h.member in
        record {
          scope = thin_tree g h.scope;
          nearest = m.1;
          name = h.name;
          has_name = callee_same leads old new g u ∙ h.has_name;
          function = thin_tree g h.function;
          member = member_left h.scope h.function h.member (function_stays leads old new w t good g is_gone (occurrence_of x.0 h.function) x.1 h.is_function);
          is_function = h.is_function;
          named = symbol_same leads old new g h.function ∙ h.named;
          type = h.type;
          has_type = callee_type_same leads old new g u ∙ h.has_type;
          same_type = own_type_same leads old new g h.function ∙ h.same_type;
          signature = h.signature;
          is_signature = callee_signature_same leads old new g u ∙ h.is_signature;
          operands = have_types u a j o (ap (λ k. has_interface k op.Branch) e) h.signature.inputs.items h.operands;
          results = h.results;
        }

    pub rule_calls : (s : KitSite) → Came g t s → rules.CallsFit (kit_world leads new) s
    rule_calls _ at_root = λ e.
        let r : rules.CallsFit (kit_world leads old) (record { op = t; around = None }) = root_keeps leads old new w t good g is_gone rule.CallsFit in
        let x = r e in absurd (none_some x.0 x.1)
    rule_calls _ (below u a j o) = λ e.
        let r : rules.CallsFit (kit_world leads old) (record { op = u; around = Some a }) = keeps leads old new w t good g is_gone u a j o rule.CallsFit in
        let x = r e in
        (thin_around g a j, refl, calls u a j o e (subst (rules.CallsFunction (kit_world leads old) u) (sym (some_same a x.0 x.1)) x.2))

  -- ---- formats

  counts : (u : KitTree) (r s n : ℕ) → rules.Counts u r s n → rules.Counts (thin_tree g u) r s n
  counts u r s n h = record {
    results = h.results;
    successors = h.successors;
    regions = ap length (regions_thin g u.regions) ∙ (length-map (λ (bs : Listed KitOperation KitBlock Blocks). thin kit g bs) (region_list u.regions) ∙ h.regions);
  }

  segments : (u : KitTree) → u.head.content.kind ≡ ops.CondBr → g.operand u.head.name 0 ≡ false → rules.HasSegments (kit_world leads old) u → rules.HasSegments (kit_world leads new) (thin_tree g u)
  segments u e stays h =
      let p : ℕ → Bool = g.operand u.head.name in
      let first : ℕ = h.2.0 in
      let second : ℕ = h.2.1 in
      let c = condition_of u.head.operands first second h.2.3 in
      let left_over : drop p u.head.operands ≡ c.condition ∷ (drop (from p 1) c.first ++ drop (from p (1 + first)) c.second) =
      ap (drop p) c.is ∙ condition_left c.condition c.first c.second first second c.first_count c.second_count p stays in
      let count : length (drop p u.head.operands) ≡ 1 + kept p 1 first + kept p (1 + first) second =
      ap length left_over
      ∙ many (drop (from p 1) c.first) (drop (from p (1 + first)) c.second) (kept p 1 first) (kept p (1 + first) second)
      (drop_count p 1 c.first ∙ ap (kept p 1) c.first_count)
      (drop_count p (1 + first) c.second ∙ ap (kept p (1 + first)) c.second_count) in (
        1 ∷ kept p 1 first ∷ kept p (1 + first) second ∷ [],
        ap (λ k. option_and_then sizes_in (attribute_at (dropped_of k p u.head.content.notes.attributes) keys.segment_sizes)) e
            ∙ sizes_left u.head.content.notes.attributes p first second h.0 h.1 h.2.2,
        (kept p 1 first, kept p (1 + first) second, refl, count),
      )
    where
      append_count : (xs ys : List Value) → length (xs ++ ys) ≡ length xs + length ys
      append_count [] ys = omega arith
      append_count (x ∷ xs) ys = let e : length (xs ++ ys) ≡ length xs + length ys = append_count xs ys in omega arith

      many : (xs ys : List Value) (a b : ℕ) → length xs ≡ a → length ys ≡ b → suc (length (xs ++ ys)) ≡ 1 + a + b
      many xs ys a b ea eb = let e : length (xs ++ ys) ≡ length xs + length ys = append_count xs ys in omega (arith, ea, eb)

  fits : (u : KitTree) → (has_interface u.head.content.kind op.Branch ≡ false → drop (g.operand u.head.name) u.head.operands ≡ u.head.operands) →
      (u.head.content.kind ≡ ops.CondBr → g.operand u.head.name 0 ≡ false) → (k : KitOp) → u.head.content.kind ≡ k →
      rules.FitsKind (kit_world leads old) u k → rules.FitsKind (kit_world leads new) (thin_tree g u) k
  fits u same stays ops.Module e h = (counts u 0 0 1 h.0, ap length (same (ap (λ k. has_interface k op.Branch) e)) ∙ h.1, (h.2.0, symbol_same leads old new g u ∙ h.2.1))
  fits u same stays ops.Func e h = (counts u 0 0 1 h.0, ap length (same (ap (λ k. has_interface k op.Branch) e)) ∙ h.1, (h.2.0, symbol_same leads old new g u ∙ h.2.1), (h.3.0, own_type_same leads old new g u ∙ h.3.1))
  fits u same stays ops.Constant e h = (counts u 1 0 0 h.0, ap length (same (ap (λ k. has_interface k op.Branch) e)) ∙ h.1, (h.2.0, attribute_same leads old new g u CONSTANT_VALUE.now refl ∙ h.2.1, h.2.2))
  fits u same stays ops.ForwardRef e h = (counts u 1 0 0 h.0, ap length (same (ap (λ k. has_interface k op.Branch) e)) ∙ h.1)
  fits u same stays (ops.Arithmetic x) e h = (counts u 1 0 0 h.0, ap length (same (ap (λ k. has_interface k op.Branch) e)) ∙ h.1)
  fits u same stays (ops.Comparison x) e h = (counts u 1 0 0 h.0, ap length (same (ap (λ k. has_interface k op.Branch) e)) ∙ h.1)
  fits u same stays ops.Br e h = counts u 0 1 0 h
  fits u same stays ops.CondBr e h = (counts u 0 2 0 h.0, segments u e (stays e) h.1)
  fits u same stays ops.Call e h = record {
    callee = (h.callee.0, callee_same leads old new g u ∙ h.callee.1);
    signature = h.signature;
    is_signature = callee_signature_same leads old new g u ∙ h.is_signature;
    numbers = (counts u (length h.signature.results.items) 0 0 h.numbers.0, ap length (same (ap (λ k. has_interface k op.Branch) e)) ∙ h.numbers.1);
  }
  fits u same stays ops.Emit e h = (counts u 0 0 0 h.0, ap length (same (ap (λ k. has_interface k op.Branch) e)) ∙ h.1)
  fits u same stays ops.Return e h = counts u 0 0 0 h

  pub rule_format : (s : KitSite) → Came g t s → rules.FitsFormat (kit_world leads new) s
  rule_format _ at_root =
      let m : t.head.content.kind ≡ ops.Module = root_keeps leads old new w t good g is_gone rule.RootIsModule refl in
      let r : rules.OperandsAreVisible (kit_world leads old) (record { op = t; around = None }) = root_keeps leads old new w t good g is_gone rule.OperandsAreVisible in
      let none : t.head.operands ≡ [] = r.root refl in
      fits t (λ e. ap (drop (g.operand t.head.name)) none ∙ sym none) (λ e. let x : ops.Module ≡ ops.CondBr = sym m ∙ e in absurd (cc x)) t.head.content.kind refl
      (root_keeps leads old new w t good g is_gone rule.FitsFormat)
  rule_format _ (below u a j o) =
      fits u (operands_stay leads old new w t good g is_gone u a j o) (condition_stays u a j o) u.head.content.kind refl (keeps leads old new w t good g is_gone u a j o rule.FitsFormat)
