-- A pruned tree keeps the rules of types, calls, returns, constants, attributes and formats.
use Rattle.std.proofs.Common.{◌≡◌, inl, inr, ℕ, zero, suc, ◌<◌, Bool, true, false, cond, List, [], ◌∷◌, ◌++◌, map}
use Rattle.std.proofs.Common.{length, Option, Some, None, slice_get, refl, sym, ap, ◌∙◌, subst, arith}
use Rattle.ir_base.specs.declared.types.TypeHandle.{TypeHandle}
use Rattle.ir_program.specs.declared.handles.BasicBlock.{BasicBlock}
use Rattle.ir_program.specs.declared.handles.Ptr.{Ptr}
use Rattle.ir_program.specs.declared.handles.Value.{Value}
use Rattle.ir_trees.specs.Searched.{Lists}
use Rattle.ir_trees.specs.Trees.{Blocks}
use Rattle.kit.specs.Context.{KitTree}
use Rattle.kit_checks.specs.KitWorld.{HasDeclaredTypes, kit_world}
use Rattle.kit_checks.specs.Rules as rules
use Rattle.kit_checks.specs.Sites.{operation_list, region_list}
use Rattle.kit_checks.specs.Words.{Every, AreAllEqual, HaveTypes, types_of, bodies_of, members_of, is_module, signature}
use Rattle.kit_checks.specs.Words.{own_type, symbol_name, constant_value, callee_name, callee_type, callee_signature}
use Rattle.kit_checks.specs.Words.{first_module}
use Rattle.kit_checks.specs.declared.rule.Rule.TheVariants as rule
use Rattle.kit_checks.proofs.Passed.{from_joined, in_joined}
use Rattle.kit_ops.specs.declared.kinds.KitOp.{KitOp}
use Rattle.kit_ops.specs.declared.kinds.KitOp.TheVariants as ops
use Rattle.kit_ops.specs.declared.types.KitType.{KitType}
use Rattle.kit_pass_rules.specs.Laws.{IsGood}
use Rattle.kit_pass_rules.proofs.DceCame.{KitAround, KitSite}
use Rattle.kit_pass_rules.proofs.Left.{has_left_over}
use Rattle.kit_pass_rules.proofs.Lists.{has_at_index, index_of_has}
use Rattle.kit_pass_rules.proofs.Thin.{KitBody}
use Rattle.kit_pass_rules.proofs.pruning.PrunedTrees.{KitListed, Pruning, content_by, prune, prune_tree, prune_body}
use Rattle.kit_pass_rules.proofs.pruning.PrunedTrees.{goes}
use Rattle.kit_pass_rules.proofs.pruning.PrunedTrees.{regions_pruned, operations_pruned, bodies_pruned}
use Rattle.kit_pass_rules.proofs.pruning.PrunedSites.{MayPrune, prune_around, Was, Came, at_root, below}
use Rattle.kit_pass_rules.proofs.pruning.PrunedKinds.{pruned_by, every_body, by_taken, none_now, kind_before, none_then}
use Rattle.kit_pass_rules.proofs.pruning.PrunedKinds.{module_same, is_module_kind, map_on}
use Rattle.kit_pass_rules.proofs.pruning.PlacementRules.{root_site, root_keeps, root_none, site_in, keeps, owner_kind}
use Rattle.kit_pass_rules.proofs.pruning.PlacementRules.{operand_same}
use Rattle.opt_trees.specs.Occurrences.{Has, cons_if}
use Rattle.opt_trees.proofs.Lists.{some_same, none_some, length-map, has-map}

module _ (leads : TypeHandle → Option KitType) (old new : Value → Option TypeHandle) (g : Pruning) (t : KitTree)
    (good : IsGood leads old t) (may : MayPrune g t) where
  -- ---- constants and attributes

  constant_kept : (u : KitTree) → g.taken u.head u.regions ≡ None → rules.HasConstantValue (kit_world leads old) u →
      rules.HasConstantValue (kit_world leads new) (prune_tree g u)
  constant_kept u none h = record {
    value = h.value;
    has_value = ap (λ q. constant_value (kit_world leads new) (pruned_by g u q)) none ∙ h.has_value;
    is_type = h.is_type;
    in_range = h.in_range;
    results = h.results;
  }

  pub rule_constants : (s : KitSite) → Came g t may s → rules.ConstantsFit (kit_world leads new) s
  rule_constants _ at_root = λ e.
      let r : rules.ConstantsFit (kit_world leads old) (root_site leads old new g t good may) =
      root_keeps leads old new g t good may rule.ConstantsFit in
      constant_kept t (root_none leads old new g t good may) (r (kind_before g t ops.Constant e (λ x. cc x)))
  rule_constants _ (below u a n o) = λ e.
      let r : rules.ConstantsFit (kit_world leads old) (site_in leads old new g t good may u a) =
      keeps leads old new g t good may u a n o rule.ConstantsFit in
      constant_kept u (none_now g u ops.Constant e (λ x. cc x)) (r (kind_before g u ops.Constant e (λ x. cc x)))

  attributes_kept : (u : KitTree) → Every (rules.MayHave u.head.content.kind) u.head.content.notes.attributes →
      Every (rules.MayHave (prune_tree g u).head.content.kind) (prune_tree g u).head.content.notes.attributes
  attributes_kept u h = by_taken g u (λ q. Every (rules.MayHave (content_by q u.head).kind)
      (content_by q u.head).notes.attributes) h
      (λ i e k x q. absurd (none_some x q))

  pub rule_attributes : (s : KitSite) → Came g t may s → rules.AttributesAreKnown (kit_world leads new) s
  rule_attributes _ at_root =
      let r : rules.AttributesAreKnown (kit_world leads old) (root_site leads old new g t good may) =
      root_keeps leads old new g t good may rule.AttributesAreKnown in
      record {
        no_forward_ref = λ e. r.no_forward_ref (kind_before g t ops.ForwardRef e (λ x. cc x));
        own = attributes_kept t r.own;
        blocks = every_body g (λ (b : KitBody). Every rules.IsCommon b.label.content.attributes) (λ b h. h) t r.blocks;
      }
  rule_attributes _ (below u a n o) =
      let r : rules.AttributesAreKnown (kit_world leads old) (site_in leads old new g t good may u a) =
      keeps leads old new g t good may u a n o rule.AttributesAreKnown in
      record {
        no_forward_ref = λ e. r.no_forward_ref (kind_before g u ops.ForwardRef e (λ x. cc x));
        own = attributes_kept u r.own;
        blocks = every_body g (λ (b : KitBody). Every rules.IsCommon b.label.content.attributes) (λ b h. h) u r.blocks;
      }

  -- ---- types

  module _ (typed : HasDeclaredTypes new (prune_tree g t)) where
    same_types : (u : KitTree) (a : KitAround) (n : ℕ) → Was g t may u a n →
        map new u.head.operands ≡ map old u.head.operands
    same_types u a n o = map_on new old u.head.operands (operand_same leads old new g t good may typed u a n o)

    kind_types : (u : KitTree) (a : KitAround) (n : ℕ) → Was g t may u a n → (k : KitOp) →
        rules.HasKindTypes (kit_world leads old) u k → rules.HasKindTypes (kit_world leads new) (pruned_by g u None) k
    kind_types u a n o (ops.Arithmetic x) h =
        subst AreAllEqual (sym (ap (λ l. l ++ map Some (types_of u.head.results)) (same_types u a n o))) h
    kind_types u a n o (ops.Comparison x) h = (subst AreAllEqual (sym (same_types u a n o)) h.0, h.1)
    kind_types u a n o ops.CondBr h = λ v here.
        let x = h v here in (
          x.0,
          operand_same leads old new g t good may typed u a n o v (has_at_index u.head.operands 0 v here)
              ∙ x.1,
          x.2,
        )
    kind_types u a n o k h = tt

    pub rule_types : (s : KitSite) → Came g t may s → rules.TypesAgree (kit_world leads new) s
    rule_types _ at_root =
        let r : rules.RootIsModule (kit_world leads old) (root_site leads old new g t good may) =
        root_keeps leads old new g t good may rule.RootIsModule in
        let m : t.head.content.kind ≡ ops.Module = r refl in
        let k : (prune_tree g t).head.content.kind ≡ ops.Module = ap (λ q. (content_by q t.head).kind)
        (root_none leads old new g t good may) ∙ m in
        subst (rules.HasKindTypes (kit_world leads new) (prune_tree g t)) (sym k) tt
    rule_types _ (below u a n o) = by_taken g u (λ q. rules.HasKindTypes (kit_world leads new) (pruned_by g u q)
        (content_by q u.head).kind)
        (kind_types u a n o u.head.content.kind (keeps leads old new g t good may u a n o rule.TypesAgree))
        (λ i q. tt)

    -- ---- calls and returns

    have_types : (u : KitTree) (a : KitAround) (n : ℕ) → Was g t may u a n → g.taken u.head u.regions ≡ None →
        (hs : List TypeHandle) →
        HaveTypes (kit_world leads old) u.head.operands hs → HaveTypes (kit_world leads new)
        (prune_tree g u).head.operands hs
    have_types u a n o none hs h = ap (λ q. map new (pruned_by g u q).head.operands) none ∙ (same_types u a n o ∙ h)

    pub rule_returns : (s : KitSite) → Came g t may s → rules.ReturnsFit (kit_world leads new) s
    rule_returns _ at_root = λ e a f h. absurd (none_some a h.0)
    rule_returns _ (below u a n o) = λ e b f h s.
        let same : prune_around g a n ≡ b = some_same (prune_around g a n) b h.0 in
        let r : rules.ReturnsFit (kit_world leads old) (site_in leads old new g t good may u a) =
        keeps leads old new g t good may u a n o rule.ReturnsFit in
        let owner = owner_kind leads old new g t good may a b n ops.Func (λ x. cc x) h.0 h.1 in
        let none : g.taken a.owner.head a.owner.regions ≡ None = none_then g t may a.owner ops.Func owner (λ x. cc x) in
        let signed : signature (kit_world leads old) a.owner ≡ Some f =
        sym (ap (λ q. signature (kit_world leads new) (pruned_by g a.owner q)) none)
        ∙ (ap (λ (z : KitAround). signature (kit_world leads new) z.owner) same ∙ s) in
        have_types u a n o (none_now g u ops.Return e (λ x. cc x)) f.results.items
        (r (kind_before g u ops.Return e (λ x. cc x)) a f (refl, owner) signed)

    first_module_pruned : (us : List KitTree) (s : KitTree) → first_module (kit_world leads old) us ≡ Some s →
        Has s us × (s.head.content.kind ≡ ops.Module)
        × (first_module (kit_world leads new) (map (prune_tree g) us) ≡ Some (prune_tree g s))
    first_module_pruned [] s e = absurd (none_some s e)
    first_module_pruned (u ∷ us) s e =
        let r = step (is_module u.head.content.kind) refl e (first_module_pruned us s) in (
          r.0,
          r.1,
          ap
              (λ b. cond b (Some (prune_tree g u)) (first_module (kit_world leads new) (map (prune_tree g) us)))
              (module_same g t may u) ∙ r.2,
        )
      where
        step : (b : Bool) → is_module u.head.content.kind ≡ b →
            cond b (Some u) (first_module (kit_world leads old) us) ≡ Some s →
            (first_module (kit_world leads old) us ≡ Some s → Has s us × (s.head.content.kind ≡ ops.Module)
            × (first_module (kit_world leads new) (map (prune_tree g) us) ≡ Some (prune_tree g s))) →
            Has s (u ∷ us) × (s.head.content.kind ≡ ops.Module)
            × (cond b (Some (prune_tree g u)) (first_module (kit_world leads new) (map (prune_tree g) us)) ≡ Some
            (prune_tree g s))
        step true m q ih = let z : u ≡ s = some_same u s q in (
          inl (sym z),
          subst (λ (x : KitTree). x.head.content.kind ≡ ops.Module) z
              (is_module_kind u.head.content.kind m),
          ap (λ x. Some (prune_tree g x)) z,
        )
        step false m q ih = let r = ih q in (inr r.0, r.1, r.2)

    member_pruned : (x y : KitTree) → ((body : KitBody) → Has body (bodies_of x) → goes g body ≡ false) →
        Lists (members_of x) y → Lists (members_of (prune_tree g x)) (prune_tree g y)
    member_pruned x y stays l =
        let b = from_joined (λ (b : KitBody). operation_list b.operations) (bodies_of x) y
        (has_at_index (members_of x) l.0 y l.1) in
        let body : KitBody = b.0 in
        let bodies : Has (prune_body g body) (bodies_of (prune_tree g x)) =
        subst (Has (prune_body g body)) (sym (bodies_pruned g x)) (has_left_over (goes g) (prune_body g) (bodies_of x)
        body b.1 (stays body b.1)) in
        let ops : Has (prune_tree g y) (operation_list (prune g body.operations)) =
        subst (Has (prune_tree g y)) (sym (operations_pruned g body.operations))
        (has-map (prune_tree g) y (operation_list body.operations) b.2) in
        index_of_has (members_of (prune_tree g x)) (prune_tree g y)
        (in_joined (λ (b : KitBody). operation_list b.operations) (bodies_of (prune_tree g x)) (prune_body g body)
        (prune_tree g y) bodies ops)

    calls : (u : KitTree) (a : KitAround) (n : ℕ) → Was g t may u a n → g.taken u.head u.regions ≡ None →
        rules.CallsFunction (kit_world leads old) u a → rules.CallsFunction (kit_world leads new) (prune_tree g u)
        (prune_around g a n)
    calls u a n o none h =
        let m = first_module_pruned (a.owner ∷ a.outer) h.scope h.nearest in
        let function : g.taken h.function.head h.function.regions ≡ None = none_then g t may h.function ops.Func
        h.is_function (λ x. cc x) in
        record {
          scope = prune_tree g h.scope;
          nearest = m.2;
          name = h.name;
          has_name = ap (λ q. callee_name (kit_world leads new) (pruned_by g u q)) none ∙ h.has_name;
          function = prune_tree g h.function;
          member = member_pruned h.scope h.function (o.modules h.scope m.0 m.1) h.member;
          is_function = ap (λ q. (content_by q h.function.head).kind) function ∙ h.is_function;
          named = ap (λ q. symbol_name (kit_world leads new) (pruned_by g h.function q)) function ∙ h.named;
          type = h.type;
          has_type = ap (λ q. callee_type (kit_world leads new) (pruned_by g u q)) none ∙ h.has_type;
          same_type = ap (λ q. own_type (kit_world leads new) (pruned_by g h.function q)) function ∙ h.same_type;
          signature = h.signature;
          is_signature = ap (λ q. callee_signature (kit_world leads new) (pruned_by g u q)) none ∙ h.is_signature;
          operands = have_types u a n o none h.signature.inputs.items h.operands;
          results = h.results;
        }

    pub rule_calls : (s : KitSite) → Came g t may s → rules.CallsFit (kit_world leads new) s
    rule_calls _ at_root = λ e.
        let r : rules.CallsFit (kit_world leads old) (root_site leads old new g t good may) =
        root_keeps leads old new g t good may rule.CallsFit in
        let x = r (kind_before g t ops.Call e (λ x. cc x)) in absurd (none_some x.0 x.1)
    rule_calls _ (below u a n o) = λ e.
        let r : rules.CallsFit (kit_world leads old) (site_in leads old new g t good may u a) =
        keeps leads old new g t good may u a n o rule.CallsFit in
        let x = r (kind_before g u ops.Call e (λ x. cc x)) in (
          prune_around g a n,
          refl,
          calls u a n o (none_now g u ops.Call e (λ x. cc x))
              (subst (rules.CallsFunction (kit_world leads old) u) (sym (some_same a x.0 x.1)) x.2),
        )

  -- ---- formats

  regions_count : (u : KitTree) → length (region_list (prune g u.regions)) ≡ length (region_list u.regions)
  regions_count u = ap length (regions_pruned g u.regions) ∙ length-map (λ (bs : KitListed Blocks). prune g bs)
      (region_list u.regions)

  counts : (u : KitTree) (r s n : ℕ) → rules.Counts u r s n → rules.Counts (pruned_by g u None) r s n
  counts u r s n h = record { results = h.results; successors = h.successors; regions = regions_count u ∙ h.regions }

  fits : (u : KitTree) (k : KitOp) → rules.FitsKind (kit_world leads old) u k → rules.FitsKind (kit_world leads new)
      (pruned_by g u None) k
  fits u ops.Module h = (counts u 0 0 1 h.0, h.1, h.2)
  fits u ops.Func h = (counts u 0 0 1 h.0, h.1, h.2, h.3)
  fits u ops.Constant h = (counts u 1 0 0 h.0, h.1, h.2)
  fits u ops.ForwardRef h = (counts u 1 0 0 h.0, h.1)
  fits u (ops.Arithmetic x) h = (counts u 1 0 0 h.0, h.1)
  fits u (ops.Comparison x) h = (counts u 1 0 0 h.0, h.1)
  fits u ops.Br h = counts u 0 1 0 h
  fits u ops.CondBr h = (counts u 0 2 0 h.0, h.1)
  fits u ops.Call h = record {
    callee = h.callee;
    signature = h.signature;
    is_signature = h.is_signature;
    numbers = (counts u (length h.signature.results.items) 0 0 h.numbers.0, h.numbers.1);
  }
  fits u ops.Emit h = (counts u 0 0 0 h.0, h.1)
  fits u ops.Return h = counts u 0 0 0 h

  one_successor : (xs : List (Ptr BasicBlock)) (i : ℕ) → i < length xs → length (cons_if (slice_get xs i) []) ≡ 1
  one_successor xs i less = step xs i less
    where
      step : (xs : List (Ptr BasicBlock)) (i : ℕ) → i < length xs → length (cons_if (slice_get xs i) []) ≡ 1
      step [] i less = absurd (omega (arith, less))
      step (x ∷ xs) zero less = refl
      step (x ∷ xs) (suc i) less = step xs i (omega (arith, less))

  format : (u : KitTree) → rules.FitsKind (kit_world leads old) u u.head.content.kind →
      rules.FitsKind (kit_world leads new) (prune_tree g u) (prune_tree g u).head.content.kind
  format u h = by_taken g u (λ q. rules.FitsKind (kit_world leads new) (pruned_by g u q) (content_by q u.head).kind)
      (fits u u.head.content.kind h)
      (λ i q.
      let f : rules.FitsKind (kit_world leads old) u ops.CondBr = subst (rules.FitsKind (kit_world leads old) u)
      (may.conditional u.head u.regions i q) h in
      let two : length u.head.successors ≡ 2 = f.0.successors in
      let less : i < 2 = may.one_of_two u.head u.regions i q in
      record {
        results = f.0.results;
        successors = one_successor u.head.successors i (omega (arith, two, less));
        regions = regions_count u ∙ f.0.regions;
      })

  pub rule_format : (s : KitSite) → Came g t may s → rules.FitsFormat (kit_world leads new) s
  rule_format _ at_root = format t (root_keeps leads old new g t good may rule.FitsFormat)
  rule_format _ (below u a n o) = format u (keeps leads old new g t good may u a n o rule.FitsFormat)
