-- A tree with constants put in keeps the rules of modules, ends of blocks, types, edges, calls, constants and formats.
use Rattle.std.proofs.Common.{◌≡◌, ◌≢◌, ◌↔◌, ◌⊎◌, ⊎_elim, inl, ℕ, zero, suc, ◌+◌, Bool, true, false, cond, List, [], ◌∷◌, ◌++◌, map, take, length, Option, Some, None, slice_get, refl, sym, ap, ◌∙◌, subst, arith}
use Rattle.ir_base.specs.declared.types.TypeHandle.{TypeHandle}
use Rattle.ir_program.specs.declared.handles.Ptr.{Ptr}
use Rattle.ir_program.specs.declared.handles.BasicBlock.{BasicBlock}
use Rattle.ir_program.specs.declared.handles.Value.{Value}
use Rattle.ir_trees.specs.Renames.{Maps, rename_defined}
use Rattle.ir_trees.specs.Searched.{Lists}
use Rattle.ir_trees.specs.Stands.{by_handle}
use Rattle.ir_trees.specs.Trees.{Defined, Blocks}
use Rattle.kit.specs.Context.{KitTree}
use Rattle.kit.specs.Meaning.{KitOperation, KitBlock}
use Rattle.kit_checks.specs.Faults.{Keeps}
use Rattle.kit_checks.specs.KitWorld.{HasDeclaredTypes, kit_world}
use Rattle.kit_checks.specs.Rules as rules
use Rattle.kit_checks.specs.Sites.{Listed, operation_list, block_list, region_list}
use Rattle.kit_checks.specs.Words.{Every, AreAllEqual, IsBit, types_of, bodies_of, members_of, kind_of, is_module, is_terminator, symbol_name, signature, first_module, along_edge, segment_sizes, sizes_or_none}
use Rattle.kit_checks.specs.declared.rule.Rule.{Rule}
use Rattle.kit_checks.specs.declared.rule.Rule.TheVariants as rule
use Rattle.kit_checks.proofs.Passed.{from_joined, in_joined}
use Rattle.kit_ops.specs.declared.attributes.IntegerAttr.{IntegerAttr}
use Rattle.kit_ops.specs.declared.attributes.KitAttr.TheVariants as attrs
use Rattle.kit_ops.specs.declared.kinds.KitOp.{KitOp}
use Rattle.kit_ops.specs.declared.kinds.KitOp.TheVariants as ops
use Rattle.kit_ops.specs.declared.types.KitType.{KitType}
use Rattle.kit_ops.specs.Keys as keys
use Rattle.kit_pass_rules.specs.Laws.{IsGood}
use Rattle.kit_pass_rules.proofs.DceCame.{KitAround, KitSite}
use Rattle.kit_pass_rules.proofs.Lists.{map_get, map_at, get_take, from_take, has_at_index, index_of_has}
use Rattle.kit_pass_rules.proofs.PutIn.{append_count, q_blocks, q_tree, q_body, constant_tree, constants, fronts, woven, list_put, blocks_put, regions_put, bodies_put, Made, fronts_made, constants_made, woven_none, woven_has, Member, OfResult, source}
use Rattle.kit_pass_rules.proofs.SccpCame.{q_around, Was, Comes, at_root, below, constant}
use Rattle.kit_pass_rules.proofs.SccpRules.{uses, root_keeps, keeps, operands_of, holds_of, seen_operand, same_types, operand_types, constant_kind, is_kind, map_along, from_along}
use Rattle.kit_pass_rules.proofs.SccpSee.{Fits}
use Rattle.kit_pass_rules.proofs.Thin.{KitBody}
use Rattle.opt_trees.specs.Occurrences.{Has}
use Rattle.opt_trees.specs.Sccp.{Old, fresh, used_as}
use Rattle.opt_trees.proofs.Lists.{some_same, none_some, length-map}
use Rattle.opt_trees.proofs.NoneDead.{has-right}

module _ (leads : TypeHandle → Option KitType) (old new : Value → Option TypeHandle) (t : KitTree) (good : IsGood leads old t)
    (made : Value → Option IntegerAttr) (names : Maps (fresh by_handle) by_handle) (fits : (v : Value) (a : IntegerAttr) → made v ≡ Some a → Fits leads old v a)
    (typed : HasDeclaredTypes new (q_tree made names t)) where
  abbrev Site : KitSite → Type 0
  Site s = Comes leads old t good made names s

  abbrev Placed : KitTree → KitAround → ℕ → Type 0
  Placed u a j = Was leads old t good made names u a j

  abbrev later : KitAround → ℕ → KitAround
  later a j = q_around leads old t good made names a j

  abbrev with_constants : KitTree → KitTree
  with_constants u = q_tree made names u

  kept_at : (u : KitTree) (a : KitAround) (j : ℕ) → Placed u a j → (r : Rule) → Keeps (kit_world leads old) r (record { op = u; around = Some a })
  kept_at u a j o = keeps leads old new t good made names fits typed u a j o

  -- ---- modules

  module_body : (u : KitTree) → rules.HasModuleBody u → rules.HasModuleBody (with_constants u)
  module_body u h = record {
    body = q_body made names h.body;
    one = ap (map block_list) (regions_put made names u.regions) ∙ (lists (region_list u.regions) ∙ ap (map (map (q_body made names))) h.one);
    no_arguments = ap (λ ds. map (rename_defined names.value) (map (rename_defined Old) ds)) h.no_arguments;
  }
    where
      lists : (rs : List (Listed KitOperation KitBlock Blocks)) → map block_list (map (q_blocks made names) rs) ≡ map (map (q_body made names)) (map block_list rs)
      lists [] = refl
      lists (bs ∷ rs) = λ i. blocks_put made names bs i ∷ lists rs i

  no_name : (ds : List (Defined Value TypeHandle)) (y : KitTree) (name : List ℕ) → Made made names ds y → symbol_name (kit_world leads new) y ≡ Some name → ⊥
  no_name ds y name m e = none_some name (ap (symbol_name (kit_world leads new)) m.is ∙ e)

  fresh_name : (u : KitTree) (a : KitAround) (j : ℕ) → Placed u a j → rules.HasFreshName (kit_world leads old) a u → rules.HasFreshName (kit_world leads new) (later a j) (with_constants u)
  fresh_name u a j o fresh k other name less here named own =
      let list = operation_list (q_body made names a.body).operations in
      let taken : List KitTree = take a.index (operation_list a.body.operations) in
      ⊎_elim
      (λ f. no_name a.body.label.arguments other name (fronts_made made names a.body.label.arguments other f) named)
      (λ m. ⊎_elim
      (λ w. among (index_of_has (woven made names taken) other w).0 (index_of_has (woven made names taken) other w).1)
      (λ c. no_name u.head.results other name (constants_made made names u.head.results other c) named) m)
      (o.back other (has_at_index (take j list) k other (get_take list j k other less here)))
    where
      by_source : (m : ℕ) → Member made names (take a.index (operation_list a.body.operations)) m other ⊎ OfResult made names (take a.index (operation_list a.body.operations)) m other → ⊥
      by_source m s = ⊎_elim
          (λ x. let at = from_take (operation_list a.body.operations) a.index x.index x.it x.here in
          fresh x.index x.it name at.0 at.1 (ap (symbol_name (kit_world leads new)) x.is ∙ named) own)
          (λ x. no_name x.it.head.results other name x.made_for named) s

      among : (m : ℕ) → slice_get (woven made names (take a.index (operation_list a.body.operations))) m ≡ Some other → ⊥
      among m e = by_source m (source made names (take a.index (operation_list a.body.operations)) m other e)

  pub rule_module : (s : KitSite) → Site s → rules.ModuleHolds (kit_world leads new) s
  rule_module _ at_root =
      let r : rules.ModuleHolds (kit_world leads old) (record { op = t; around = None }) = root_keeps leads old new t good made names fits typed rule.ModuleHolds in
      record { body = λ e. module_body t (r.body e); kinds = λ a h. absurd (none_some a h.0); names = λ a h. absurd (none_some a h.0) }
  rule_module _ (below u a j o) =
      let r : rules.ModuleHolds (kit_world leads old) (record { op = u; around = Some a }) = kept_at u a j o rule.ModuleHolds in
      record {
        body = λ e. module_body u (r.body e);
        kinds = λ b h. r.kinds a (refl, ap (λ (z : KitAround). kind_of (kit_world leads new) z.owner) (some_same (later a j) b h.0) ∙ h.1);
        names = λ b h. subst (λ (z : KitAround). rules.HasFreshName (kit_world leads new) z (with_constants u)) (some_same (later a j) b h.0)
            (fresh_name u a j o (r.names a (refl, ap (λ (z : KitAround). kind_of (kit_world leads new) z.owner) (some_same (later a j) b h.0) ∙ h.1)));
      }
  rule_module _ (constant s c) =
      let in_module : (a : KitAround) → rules.InKind (kit_world leads new) s ops.Module a → ⊥ = λ a h.
      let z : ops.Module ≡ ops.Func = sym h.1 ∙ (ap (λ (z : KitAround). z.owner.head.content.kind) (some_same a c.around (sym h.0 ∙ c.is_in)) ∙ c.in_function) in cc z in
      record {
        body = λ e. absurd (is_kind leads old new t good made names fits typed s c ops.Module (λ z. cc z) e);
        kinds = λ a h. absurd (in_module a h);
        names = λ a h. absurd (in_module a h);
      }

  -- ---- ends of blocks

  filled : (u : KitTree) → (u.head.content.kind ≡ ops.Func → Every (λ (b : KitBody). operation_list b.operations ≢ []) (bodies_of u)) →
      u.head.content.kind ≡ ops.Func → Every (λ (b : KitBody). operation_list b.operations ≢ []) (bodies_of (with_constants u))
  filled u h f k b e none =
      let x = map_at (q_body made names) (bodies_of u) k b (sym (ap (λ l. slice_get l k) (bodies_put made names u)) ∙ e) in
      let body : KitBody = x.0 in
      let all : fronts made names body.label.arguments ++ woven made names (operation_list body.operations) ≡ [] =
      sym (list_put made names body) ∙ (ap (λ (z : KitBody). operation_list z.operations) x.2 ∙ none) in
      let count : length (fronts made names body.label.arguments ++ woven made names (operation_list body.operations)) ≡ 0 = ap length all in
      let both : length (fronts made names body.label.arguments ++ woven made names (operation_list body.operations)) ≡ length (fronts made names body.label.arguments) + length (woven made names (operation_list body.operations)) =
      append_count (fronts made names body.label.arguments) (woven made names (operation_list body.operations)) in
      h f k body x.1 (nothing (operation_list body.operations) (woven_none made names (operation_list body.operations) (omega (arith, count, both))))
    where
      nothing : (us : List KitTree) → length us ≡ 0 → us ≡ []
      nothing [] z = refl
      nothing (y ∷ us) z = absurd (omega (arith, z))

  pub rule_ends : (s : KitSite) → Site s → rules.BlocksEnd (kit_world leads new) s
  rule_ends _ at_root =
      let r : rules.BlocksEnd (kit_world leads old) (record { op = t; around = None }) = root_keeps leads old new t good made names fits typed rule.BlocksEnd in
      record { last = λ a h. absurd (none_some a h.0); none_empty = filled t r.none_empty }
  rule_ends _ (below u a j o) =
      let r : rules.BlocksEnd (kit_world leads old) (record { op = u; around = Some a }) = kept_at u a j o rule.BlocksEnd in
      record {
        last = λ b h.
            let x = r.last a (refl, ap (λ (z : KitAround). kind_of (kit_world leads new) z.owner) (some_same (later a j) b h.0) ∙ h.1) in
            subst (λ (z : KitAround). (is_terminator u.head.content.kind ≡ true) ↔ (z.index + 1 ≡ length (operation_list z.body.operations))) (some_same (later a j) b h.0)
            (λ e. o.last (x.0 e), λ e. x.1 (o.end e));
        none_empty = filled u r.none_empty;
      }
  rule_ends _ (constant s c) = record {
    last = λ b h. (
      λ e. let z : false ≡ true = sym (ap is_terminator (constant_kind leads old new t good made names fits typed s c)) ∙ e in absurd (cc z),
      λ e. absurd (c.more (subst (λ (z : KitAround). z.index + 1 ≡ length (operation_list z.body.operations)) (some_same b c.around (sym h.0 ∙ c.is_in)) e)),
    );
    none_empty = λ e. absurd (is_kind leads old new t good made names fits typed s c ops.Func (λ z. cc z) e);
  }

  -- ---- types

  types_kept : (u : KitTree) (a : KitAround) (j : ℕ) → Placed u a j → map new (with_constants u).head.operands ≡ map old u.head.operands
  types_kept u a j o = operand_types leads old new t good made names fits typed u a j o

  holds_kept : (ds : List (Defined Value TypeHandle)) → types_of (map (rename_defined names.value) (map (rename_defined Old) ds)) ≡ types_of ds
  holds_kept ds = holds_of leads old new t good made names fits typed ds

  kind_types : (u : KitTree) (a : KitAround) (j : ℕ) → Placed u a j → (k : KitOp) → rules.HasKindTypes (kit_world leads old) u k → rules.HasKindTypes (kit_world leads new) (with_constants u) k
  kind_types u a j o (ops.Arithmetic x) h = subst AreAllEqual (sym (λ i. types_kept u a j o i ++ map Some (holds_kept u.head.results i))) h
  kind_types u a j o (ops.Comparison x) h = (subst AreAllEqual (sym (types_kept u a j o)) h.0, subst (Every (IsBit (kit_world leads new))) (sym (holds_kept u.head.results)) h.1)
  kind_types u a j o ops.CondBr h = λ v here.
      let x = map_at (uses leads old new t good made names fits typed) u.head.operands 0 v (sym (ap (λ l. slice_get l 0) (operands_of leads old new t good made names fits typed u.head.operands)) ∙ here) in
      let y = h x.0 x.1 in
      (y.0, ap new (sym x.2) ∙ ((seen_operand leads old new t good made names fits typed u a j o x.0 (has_at_index u.head.operands 0 x.0 x.1)).1 ∙ y.1), y.2)
  kind_types u a j o k h = tt

  pub rule_types : (s : KitSite) → Site s → rules.TypesAgree (kit_world leads new) s
  rule_types _ at_root =
      let m : t.head.content.kind ≡ ops.Module = root_keeps leads old new t good made names fits typed rule.RootIsModule refl in
      subst (rules.HasKindTypes (kit_world leads new) (with_constants t)) (sym m) tt
  rule_types _ (below u a j o) = kind_types u a j o u.head.content.kind (kept_at u a j o rule.TypesAgree)
  rule_types _ (constant s c) = subst (λ (z : KitTree). rules.HasKindTypes (kit_world leads new) z z.head.content.kind) c.is tt

  -- ---- edges

  leads_there : (u : KitTree) (a : KitAround) (j : ℕ) → Placed u a j → (edge : ℕ) (target : Ptr BasicBlock) →
      rules.EdgeLeadsTo (kit_world leads old) u a edge target → rules.EdgeLeadsTo (kit_world leads new) (with_constants u) (later a j) edge (names.block target)
  leads_there u a j o edge target h =
      let k = u.head.content.kind in
      let sizes : List ℕ = sizes_or_none (segment_sizes (kit_world leads old) u) in
      record {
        body = q_body made names h.body;
        here = (h.here.0, ap (λ l. slice_get l h.here.0) (blocks_put made names a.blocks) ∙ map_get (q_body made names) (block_list a.blocks) h.here.0 h.body h.here.1);
        named = ap names.block h.named;
        operands = λ is.
            same_types leads old new t good made names fits typed (along_edge k sizes (with_constants u).head.operands edge) (along_edge k sizes u.head.operands edge)
            (λ v i. (seen_operand leads old new t good made names fits typed u a j o v (from_along k sizes u.head.operands edge v i)).1)
            (ap (λ l. along_edge k sizes l edge) (operands_of leads old new t good made names fits typed u.head.operands) ∙ map_along (uses leads old new t good made names fits typed) k sizes u.head.operands edge)
            ∙ (h.operands is ∙ ap (map Some) (sym (holds_kept h.body.label.arguments)));
      }

  pub rule_edges : (s : KitSite) → Site s → rules.EdgesFit (kit_world leads new) s
  rule_edges _ at_root = λ edge target e.
      let r : rules.EdgesFit (kit_world leads old) (record { op = t; around = None }) = root_keeps leads old new t good made names fits typed rule.EdgesFit in
      let x = map_at names.block t.head.successors edge target e in
      let y = r edge x.0 x.1 in absurd (none_some y.0 y.1)
  rule_edges _ (below u a j o) = λ edge target e.
      let r : rules.EdgesFit (kit_world leads old) (record { op = u; around = Some a }) = kept_at u a j o rule.EdgesFit in
      let x = map_at names.block u.head.successors edge target e in
      let y = r edge x.0 x.1 in (
        later a j,
        refl,
        subst (rules.EdgeLeadsTo (kit_world leads new) (with_constants u) (later a j) edge) x.2
            (leads_there u a j o edge x.0 (subst (λ (z : KitAround). rules.EdgeLeadsTo (kit_world leads old) u z edge x.0) (sym (some_same a y.0 y.1)) y.2)),
      )
  rule_edges _ (constant s c) = λ edge target e. absurd (none_some target (ap (λ (z : KitTree). slice_get z.head.successors edge) c.is ∙ e))

  -- ---- calls and returns

  first_module_kept : (us : List KitTree) (s : KitTree) → first_module (kit_world leads old) us ≡ Some s → first_module (kit_world leads new) (map (q_tree made names) us) ≡ Some (with_constants s)
  first_module_kept [] s e = absurd (none_some s e)
  first_module_kept (u ∷ us) s e = step (is_module u.head.content.kind) e (first_module_kept us s)
    where
      step : (b : Bool) → cond b (Some u) (first_module (kit_world leads old) us) ≡ Some s →
          (first_module (kit_world leads old) us ≡ Some s → first_module (kit_world leads new) (map (q_tree made names) us) ≡ Some (with_constants s)) →
          cond b (Some (with_constants u)) (first_module (kit_world leads new) (map (q_tree made names) us)) ≡ Some (with_constants s)
      step true z ih = ap (λ x. Some (with_constants x)) (some_same u s z)
      step false z ih = ih z

  member_kept : (x y : KitTree) → Lists (members_of x) y → Lists (members_of (with_constants x)) (with_constants y)
  member_kept x y l =
      let b = from_joined (λ (b : KitBody). operation_list b.operations) (bodies_of x) y (has_at_index (members_of x) l.0 y l.1) in
      let body : KitBody = b.0 in
      let i = index_of_has (bodies_of x) body b.1 in
      let bodies : Has (q_body made names body) (bodies_of (with_constants x)) =
      subst (Has (q_body made names body)) (sym (bodies_put made names x)) (has_at_index (map (q_body made names) (bodies_of x)) i.0 (q_body made names body) (map_get (q_body made names) (bodies_of x) i.0 body i.1)) in
      let listed : Has (with_constants y) (operation_list (q_body made names body).operations) =
      subst (Has (with_constants y)) (sym (list_put made names body)) (has-right (with_constants y) (fronts made names body.label.arguments) (woven made names (operation_list body.operations))
      (woven_has made names (operation_list body.operations) y (with_constants y) b.2 (has-right (with_constants y) (constants made names y.head.results) (with_constants y ∷ []) (inl refl)))) in
      index_of_has (members_of (with_constants x)) (with_constants y)
      (in_joined (λ (b : KitBody). operation_list b.operations) (bodies_of (with_constants x)) (q_body made names body) (with_constants y) bodies listed)

  calls : (u : KitTree) (a : KitAround) (j : ℕ) → Placed u a j → rules.CallsFunction (kit_world leads old) u a → rules.CallsFunction (kit_world leads new) (with_constants u) (later a j)
  calls u a j o h = record {
    scope = with_constants h.scope;
    nearest = first_module_kept (a.owner ∷ a.outer) h.scope h.nearest;
    name = h.name;
    has_name = h.has_name;
    function = with_constants h.function;
    member = member_kept h.scope h.function h.member;
    is_function = h.is_function;
    named = h.named;
    type = h.type;
    has_type = h.has_type;
    same_type = h.same_type;
    signature = h.signature;
    is_signature = h.is_signature;
    operands = types_kept u a j o ∙ h.operands;
    results = holds_kept u.head.results ∙ h.results;
  }

  pub rule_calls : (s : KitSite) → Site s → rules.CallsFit (kit_world leads new) s
  rule_calls _ at_root = λ e.
      let r : rules.CallsFit (kit_world leads old) (record { op = t; around = None }) = root_keeps leads old new t good made names fits typed rule.CallsFit in
      let x = r e in absurd (none_some x.0 x.1)
  rule_calls _ (below u a j o) = λ e.
      let r : rules.CallsFit (kit_world leads old) (record { op = u; around = Some a }) = kept_at u a j o rule.CallsFit in
      let x = r e in
      (later a j, refl, calls u a j o (subst (rules.CallsFunction (kit_world leads old) u) (sym (some_same a x.0 x.1)) x.2))
  rule_calls _ (constant s c) = λ e. absurd (is_kind leads old new t good made names fits typed s c ops.Call (λ z. cc z) e)

  pub rule_returns : (s : KitSite) → Site s → rules.ReturnsFit (kit_world leads new) s
  rule_returns _ at_root = λ e a f h. absurd (none_some a h.0)
  rule_returns _ (below u a j o) = λ e b f h signed.
      let r : rules.ReturnsFit (kit_world leads old) (record { op = u; around = Some a }) = kept_at u a j o rule.ReturnsFit in
      let same = some_same (later a j) b h.0 in
      types_kept u a j o
      ∙ r e a f (refl, ap (λ (z : KitAround). kind_of (kit_world leads new) z.owner) same ∙ h.1) (ap (λ (z : KitAround). signature (kit_world leads new) z.owner) same ∙ signed)
  rule_returns _ (constant s c) = λ e. absurd (is_kind leads old new t good made names fits typed s c ops.Return (λ z. cc z) e)

  -- ---- constants, attributes, formats

  one_type : (P : TypeHandle → Type 0) (ty : TypeHandle) → P ty → Every P (ty ∷ [])
  one_type P ty h zero x e = subst P (some_same ty x e) h
  one_type P ty h (suc k) x e = absurd (none_some x e)

  constant_kept : (u : KitTree) → rules.HasConstantValue (kit_world leads old) u → rules.HasConstantValue (kit_world leads new) (with_constants u)
  constant_kept u h = record {
    value = h.value;
    has_value = h.has_value;
    is_type = h.is_type;
    in_range = h.in_range;
    results = subst (Every (λ z. z ≡ h.value.ty)) (sym (holds_kept u.head.results)) h.results;
  }

  pub rule_constants : (s : KitSite) → Site s → rules.ConstantsFit (kit_world leads new) s
  rule_constants _ at_root = λ e.
      let r : rules.ConstantsFit (kit_world leads old) (record { op = t; around = None }) = root_keeps leads old new t good made names fits typed rule.ConstantsFit in constant_kept t (r e)
  rule_constants _ (below u a j o) = λ e.
      let r : rules.ConstantsFit (kit_world leads old) (record { op = u; around = Some a }) = kept_at u a j o rule.ConstantsFit in constant_kept u (r e)
  rule_constants _ (constant s c) = λ e.
      let f = fits c.value c.attribute c.is_made in
      subst (rules.HasConstantValue (kit_world leads new)) c.is
      (record { value = c.attribute; has_value = refl; is_type = f.is_type; in_range = f.in_range; results = one_type (λ z. z ≡ c.attribute.ty) c.attribute.ty refl })

  common_blocks : (u : KitTree) → Every (λ (b : KitBody). Every rules.IsCommon b.label.content.attributes) (bodies_of u) →
      Every (λ (b : KitBody). Every rules.IsCommon b.label.content.attributes) (bodies_of (with_constants u))
  common_blocks u h k b e =
      let x = map_at (q_body made names) (bodies_of u) k b (sym (ap (λ l. slice_get l k) (bodies_put made names u)) ∙ e) in
      subst (λ (z : KitBody). Every rules.IsCommon z.label.content.attributes) x.2 (h k x.0 x.1)

  own_only : (v : Value) (a : IntegerAttr) → Every (rules.MayHave ops.Constant) (constant_tree made names v a).head.content.notes.attributes
  own_only v a zero x e = subst (rules.MayHave ops.Constant) (some_same (keys.constant_value, attrs.Integer a) x e) (inl refl)
  own_only v a (suc k) x e = absurd (none_some x e)

  pub rule_attributes : (s : KitSite) → Site s → rules.AttributesAreKnown (kit_world leads new) s
  rule_attributes _ at_root =
      let r : rules.AttributesAreKnown (kit_world leads old) (record { op = t; around = None }) = root_keeps leads old new t good made names fits typed rule.AttributesAreKnown in
      record { no_forward_ref = r.no_forward_ref; own = r.own; blocks = common_blocks t r.blocks }
  rule_attributes _ (below u a j o) =
      let r : rules.AttributesAreKnown (kit_world leads old) (record { op = u; around = Some a }) = kept_at u a j o rule.AttributesAreKnown in
      record { no_forward_ref = r.no_forward_ref; own = r.own; blocks = common_blocks u r.blocks }
  rule_attributes _ (constant s c) = record {
    no_forward_ref = λ e. is_kind leads old new t good made names fits typed s c ops.ForwardRef (λ z. cc z) e;
    own = subst (λ (z : KitTree). Every (rules.MayHave z.head.content.kind) z.head.content.notes.attributes) c.is (own_only c.value c.attribute);
    blocks = λ k b e. absurd (none_some b (ap (λ (z : KitTree). slice_get (bodies_of z) k) c.is ∙ e));
  }

  counts : (u : KitTree) (r s n : ℕ) → rules.Counts u r s n → rules.Counts (with_constants u) r s n
  counts u r s n h = record {
    results = length-map (rename_defined names.value) (map (rename_defined Old) u.head.results) ∙ (length-map (rename_defined Old) u.head.results ∙ h.results);
    successors = length-map names.block u.head.successors ∙ h.successors;
    regions = ap length (regions_put made names u.regions) ∙ (length-map (q_blocks made names) (region_list u.regions) ∙ h.regions);
  }

  operand_count : (u : KitTree) → length (with_constants u).head.operands ≡ length u.head.operands
  operand_count u = length-map names.value (map (λ v. used_as v (made v)) u.head.operands) ∙ length-map (λ v. used_as v (made v)) u.head.operands

  fits_kind : (u : KitTree) (k : KitOp) → rules.FitsKind (kit_world leads old) u k → rules.FitsKind (kit_world leads new) (with_constants u) k
  fits_kind u ops.Module h = (counts u 0 0 1 h.0, operand_count u ∙ h.1, h.2)
  fits_kind u ops.Func h = (counts u 0 0 1 h.0, operand_count u ∙ h.1, h.2, h.3)
  fits_kind u ops.Constant h = (counts u 1 0 0 h.0, operand_count u ∙ h.1, h.2)
  fits_kind u ops.ForwardRef h = (counts u 1 0 0 h.0, operand_count u ∙ h.1)
  fits_kind u (ops.Arithmetic x) h = (counts u 1 0 0 h.0, operand_count u ∙ h.1)
  fits_kind u (ops.Comparison x) h = (counts u 1 0 0 h.0, operand_count u ∙ h.1)
  fits_kind u ops.Br h = counts u 0 1 0 h
  fits_kind u ops.CondBr h = (counts u 0 2 0 h.0, (h.1.0, h.1.1, (h.1.2.0, h.1.2.1, h.1.2.2, operand_count u ∙ h.1.2.3)))
  fits_kind u ops.Call h = record {
    callee = h.callee;
    signature = h.signature;
    is_signature = h.is_signature;
    numbers = (counts u (length h.signature.results.items) 0 0 h.numbers.0, operand_count u ∙ h.numbers.1);
  }
  fits_kind u ops.Emit h = (counts u 0 0 0 h.0, operand_count u ∙ h.1)
  fits_kind u ops.Return h = counts u 0 0 0 h

  pub rule_format : (s : KitSite) → Site s → rules.FitsFormat (kit_world leads new) s
  rule_format _ at_root = fits_kind t t.head.content.kind (root_keeps leads old new t good made names fits typed rule.FitsFormat)
  rule_format _ (below u a j o) = fits_kind u u.head.content.kind (kept_at u a j o rule.FitsFormat)
  rule_format _ (constant s c) = subst (λ (z : KitTree). rules.FitsKind (kit_world leads new) z z.head.content.kind) c.is
      (record { results = refl; successors = refl; regions = refl }, refl, (attrs.Integer c.attribute, refl, tt))
