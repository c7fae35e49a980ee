-- Each rule of the operations of a tree whose chains are joined, by the types that values had.
use Rattle.std.proofs.Common.{◌≡◌, ◌≢◌, ◌↔◌, ℕ, zero, suc, ◌+◌, true}
use Rattle.std.proofs.Common.{List, [], ◌∷◌, ◌++◌, map, take, drop, length, Option, Some, None, slice_get}
use Rattle.std.proofs.Common.{option_and_then, refl, sym, ap, ◌∙◌, subst, arith}
use Rattle.ir_base.specs.declared.types.TypeHandle.{TypeHandle}
use Rattle.ir_names.specs.Dictionary.{attribute_at}
use Rattle.ir_program.specs.declared.handles.Ptr.{Ptr}
use Rattle.ir_program.specs.declared.handles.BasicBlock.{BasicBlock}
use Rattle.ir_program.specs.declared.handles.Value.{Value}
use Rattle.ir_trees.specs.Searched.{Lists}
use Rattle.ir_trees.specs.Trees.{Blocks, Regions}
use Rattle.kit.specs.Context.{KitTree}
use Rattle.kit.specs.Meaning.{kit}
use Rattle.kit_checks.specs.Faults.{Keeps}
use Rattle.kit_checks.specs.KitWorld.{kit_world}
use Rattle.kit_checks.specs.Rules as rules
use Rattle.kit_checks.specs.Sites.{operation_list, block_list, region_list}
use Rattle.kit_checks.specs.Words.{Every, AreAllEqual, HaveTypes, IsValueType, types_of, members_of}
use Rattle.kit_checks.specs.Words.{identifier_in, type_in, symbol_name, signature, bodies_of, visible}
use Rattle.kit_checks.specs.Words.{is_terminator, along_edge, segment, segment_sizes, sizes_or_none}
use Rattle.kit_checks.specs.declared.rule.Rule.{Rule}
use Rattle.kit_checks.specs.declared.rule.Rule.TheVariants as rule
use Rattle.kit_ops.specs.declared.attributes.keys.TheConstants.{SYMBOL_NAME, FUNCTION_TYPE}
use Rattle.kit_ops.specs.declared.kinds.KitOp.{KitOp}
use Rattle.kit_ops.specs.declared.kinds.KitOp.TheVariants as ops
use Rattle.kit_ops.specs.declared.types.KitType.{KitType}
use Rattle.kit_pass_rules.specs.Laws.{IsGood}
use Rattle.kit_pass_rules.specs.Worlds.{ObeysIn}
use Rattle.kit_pass_rules.proofs.Lists.{map_get, map_at, has_at_index, index_of_has, map_same}
use Rattle.kit_pass_rules.specs.ChainLaws.{DefinersApart}
use Rattle.kit_pass_rules.proofs.Chains.InversionLemmas.{KitList, KitBody, Becomes, are}
use Rattle.kit_pass_rules.proofs.Chains.ListLemmas.{KitHead, heads}
use Rattle.kit_pass_rules.proofs.Chains.PlaceLemmas.{KitSite, KitAround, Step, around_of, site_of, keeps, root_keeps}
use Rattle.kit_pass_rules.proofs.Chains.ForwardedLemmas.{follows_type}
use Rattle.kit_pass_rules.proofs.Chains.UseLemmas.{used_body, blocks_used}
use Rattle.kit_pass_rules.proofs.Chains.OriginLemmas.{Placed, Old, after_of, Came, at_root, below}
use Rattle.kit_pass_rules.proofs.Chains.OriginLemmas.{came_from}
use Rattle.kit_pass_rules.proofs.Rules.PartLemmas.{lit, placed_root, placed, regions_count, label_was, block_filled}
use Rattle.kit_pass_rules.proofs.Rules.PartLemmas.{entry_becomes, module_body, member_becomes, module_became}
use Rattle.opt_trees.specs.Occurrences.{Has}
use Rattle.opt_trees.specs.Simplify.{all_of, use_head, use_instead, Follows}
use Rattle.opt_trees.proofs.Lists.{some_same, none_some, map-map, length-map}

none_left : {X : Type 0} (xs : List X) → length xs ≡ 0 → xs ≡ []
none_left [] e = refl
none_left (x ∷ xs) e = absurd (omega (arith, e))

take_map : {X Y : Type 0} (f : X → Y) (xs : List X) (n : ℕ) → take n (map f xs) ≡ map f (take n xs)
take_map f xs zero = refl
take_map f [] (suc n) = refl
take_map f (x ∷ xs) (suc n) = ap (λ l. f x ∷ l) (take_map f xs n)

drop_map : {X Y : Type 0} (f : X → Y) (xs : List X) (n : ℕ) → drop n (map f xs) ≡ map f (drop n xs)
drop_map f xs zero = refl
drop_map f [] (suc n) = refl
drop_map f (x ∷ xs) (suc n) = drop_map f xs n

segment_map : {X Y : Type 0} (f : X → Y) (xs : List X) (sizes : List ℕ) (i : ℕ) →
    segment (map f xs) sizes i ≡ map f (segment xs sizes i)
segment_map f xs [] i = refl
segment_map f xs (n ∷ sizes) zero = take_map f xs n
segment_map f xs (n ∷ sizes) (suc i) = ap (λ l. segment l sizes i) (drop_map f xs n) ∙ segment_map f (drop n xs) sizes i

along_map : (f : Value → Value) (k : KitOp) (sizes : List ℕ) (xs : List Value) (i : ℕ) →
    along_edge k sizes (map f xs) i ≡ map f (along_edge k sizes xs i)
along_map f ops.Br sizes xs i = refl
along_map f ops.CondBr sizes xs i = segment_map f xs sizes (suc i)
along_map f k sizes xs i = refl

module _ (leads : TypeHandle → Option KitType) (old : Value → Option TypeHandle) (t : KitTree)
    (good : IsGood leads old t)
    (definers : DefinersApart t) (names : Value → Value) (follows : (v : Value) → Follows kit (all_of t) t v (names v))
    (made : KitList Regions) (joins : Becomes t None Regions t.regions made) where
  abbrev CameHere : KitSite → Type 0
  CameHere s = Came leads old t good definers names follows made joins s

  abbrev OldHere : Step t → KitTree → KitAround → Type 0
  OldHere x v a = Old leads old t good definers names follows x v a

  abbrev as_made : KitTree → KitList Regions → KitTree
  as_made u qs = lit leads old t good definers names follows u qs

  -- values that are used have the types of those that were
  types_same : (xs : List Value) → map old (map names xs) ≡ map old xs
  types_same xs = map-map old names xs ∙ map_same (λ v. old (names v)) old xs
      (λ k v e. follows_type leads old t good v (names v) (follows v))

  have_types : (xs : List Value) (hs : List TypeHandle) → HaveTypes (kit_world leads old) xs hs →
      HaveTypes (kit_world leads old) (map names xs) hs
  have_types xs hs h = types_same xs ∙ h

  owner_kind : (x : Step t) (v : KitTree) (a : KitAround) → OldHere x v a → (k : KitOp) →
      a.owner.head.content.kind ≡ k → x.in_block.s.op.head.content.kind ≡ k
  owner_kind x v a o k e = ap (λ (z : KitTree). z.head.content.kind) (sym o.around.1.is) ∙ e

  in_kind : (x : Step t) (v : KitTree) (a b : KitAround) → OldHere x v a → Some a ≡ Some b → (k : KitOp) →
      b.owner.head.content.kind ≡ k → x.in_block.s.op.head.content.kind ≡ k
  in_kind x v a b o e k q = owner_kind x v a o k (ap (λ (z : KitAround). z.owner.head.content.kind) (some_same a b e)
      ∙ q)

  -- ---- roots, modules, functions

  rule_root : (s : KitSite) → CameHere s → rules.RootIsModule (kit_world leads old) s
  rule_root _ at_root = root_keeps leads old t good rule.RootIsModule
  rule_root _ (below x v a o) = λ e. absurd (none_some a (sym e))

  fresh_name : (x : Step t) (v : KitTree) (a : KitAround) (o : OldHere x v a) →
      x.in_block.s.op.head.content.kind ≡ ops.Module →
      rules.HasFreshName (kit_world leads old) a (as_made x.u o.became.made)
  fresh_name x v a o m k other name less here named own =
      let r : rules.ModuleHolds (kit_world leads old) (site_of t x) = keeps leads old t good x rule.ModuleHolds in
      let alone = o.alone m in
      let old_ops = operation_list x.in_block.body.operations in
      let at : slice_get (map (use_head names) (heads old_ops)) k ≡ Some other.head =
      ap (λ l. slice_get l k) (sym alone.1) ∙ map_get (λ (z : KitTree). z.head) (operation_list a.body.operations) k
      other here in
      let h = map_at (use_head names) (heads old_ops) k other.head at in
      let z = map_at (λ (z : KitTree). z.head) old_ops k h.0 h.1 in
      let same : z.0.head.content ≡ other.head.content = ap (λ (h : KitHead). h.content) z.2
      ∙ ap (λ (h : KitHead). h.content) h.2 in
      let name_was : symbol_name (kit_world leads old) z.0 ≡ Some name =
      ap (λ c. option_and_then identifier_in (attribute_at c.notes.attributes SYMBOL_NAME.now)) same ∙ named in
      let i = alone.0 in
      r.names (around_of t x.in_block x.k) (refl, m) k z.0 name (omega (arith, less, i)) z.1 name_was own

  rule_module : (s : KitSite) → CameHere s → rules.ModuleHolds (kit_world leads old) s
  rule_module _ at_root =
      let r : rules.ModuleHolds (kit_world leads old) (record { op = t; around = None }) =
      root_keeps leads old t good rule.ModuleHolds in
      record {
        body = λ e. module_body leads old t good definers names follows t made joins
            (placed_root leads old t good definers names follows) (r.body e);
        kinds = λ a h. absurd (none_some a h.0);
        names = λ a h. absurd (none_some a h.0);
      }
  rule_module _ (below x v a o) =
      let r : rules.ModuleHolds (kit_world leads old) (site_of t x) = keeps leads old t good x rule.ModuleHolds in
      subst (λ z. rules.ModuleHolds (kit_world leads old) (record { op = z; around = Some a })) (sym o.became.is)
      (record {
        body = λ e. module_body leads old t good definers names follows x.u o.became.made o.became.becomes
            (placed leads old t good definers names follows x) (r.body e);
        kinds = λ b h. r.kinds (around_of t x.in_block x.k) (refl, in_kind x v a b o h.0 ops.Module h.1);
        names = λ b h. subst (λ z. rules.HasFreshName (kit_world leads old) z (as_made x.u o.became.made))
            (some_same a b h.0)
            (fresh_name x v a o (in_kind x v a b o h.0 ops.Module h.1));
      })

  function_body : (u : KitTree) (qs : KitList Regions) → Becomes t None Regions u.regions qs →
      Placed leads old t good definers names follows u →
      rules.HasFunctionBody (kit_world leads old) u → rules.HasFunctionBody (kit_world leads old) (as_made u qs)
  function_body u qs b p h =
      let e = entry_becomes leads old t good definers names follows u qs b p h.entry h.has_entry in
      record {
        type = h.type;
        has_type = h.has_type;
        inputs = h.inputs;
        results = h.results;
        entry = e.0;
        has_entry = e.1;
        arguments = ap (λ l. types_of l.arguments) e.2 ∙ h.arguments;
      }

  rule_function : (s : KitSite) → CameHere s → rules.FunctionHasType (kit_world leads old) s
  rule_function _ at_root = λ e.
      let r : rules.FunctionHasType (kit_world leads old) (record { op = t; around = None }) =
      root_keeps leads old t good rule.FunctionHasType in
      function_body t made joins (placed_root leads old t good definers names follows) (r e)
  rule_function _ (below x v a o) =
      let r : rules.FunctionHasType (kit_world leads old) (site_of t x) =
      keeps leads old t good x rule.FunctionHasType in
      subst (λ z. rules.FunctionHasType (kit_world leads old) (record { op = z; around = Some a })) (sym o.became.is)
      (λ e. function_body x.u o.became.made o.became.becomes (placed leads old t good definers names follows x) (r e))

  rule_holds : (s : KitSite) → CameHere s → rules.FunctionHolds (kit_world leads old) s
  rule_holds _ at_root = λ a h. absurd (none_some a h.0)
  rule_holds _ (below x v a o) =
      let r : rules.FunctionHolds (kit_world leads old) (site_of t x) = keeps leads old t good x rule.FunctionHolds in
      subst (λ z. rules.FunctionHolds (kit_world leads old) (record { op = z; around = Some a })) (sym o.became.is)
      (λ b h.
      let q = r (around_of t x.in_block x.k) (refl, in_kind x v a b o h.0 ops.Func h.1) in (
        q.0,
        none_left (region_list (use_instead names o.became.made))
            (regions_count leads old t good definers names follows x.u o.became.made o.became.becomes ∙ ap length q.1),
      ))

  -- ---- values, ends of blocks, what is visible

  argument_values : (u : KitTree) (qs : KitList Regions) → Becomes t None Regions u.regions qs →
      (P : KitBody → Type 0) →
      ((b c : KitBody) → b.label ≡ c.label → P b → P c) → Every P (bodies_of u) → Every P (bodies_of (as_made u qs))
  argument_values u qs b P moves h k c e =
      let w = label_was leads old t good definers names follows u qs b c
      (has_at_index (bodies_of (as_made u qs)) k c e) in
      let i = index_of_has (bodies_of u) w.0 w.1 in
      moves w.0 c w.2 (h i.0 w.0 i.1)

  values_kept : (u : KitTree) (qs : KitList Regions) → Becomes t None Regions u.regions qs →
      (s : Option KitAround) (r : Option KitAround) →
      rules.ValuesAreIntegers (kit_world leads old) (record { op = u; around = s }) →
      rules.ValuesAreIntegers (kit_world leads old) (record { op = as_made u qs; around = r })
  values_kept u qs b s r h = record {
    results = h.results;
    arguments = argument_values u qs b (λ (c : KitBody). Every (IsValueType (kit_world leads old))
        (types_of c.label.arguments))
        (λ x y e p. subst (λ l. Every (IsValueType (kit_world leads old)) (types_of l.arguments)) e p) h.arguments;
  }

  rule_values : (s : KitSite) → CameHere s → rules.ValuesAreIntegers (kit_world leads old) s
  rule_values _ at_root = values_kept t made joins None None (root_keeps leads old t good rule.ValuesAreIntegers)
  rule_values _ (below x v a o) =
      subst (λ z. rules.ValuesAreIntegers (kit_world leads old) (record { op = z; around = Some a })) (sym o.became.is)
      (values_kept x.u o.became.made o.became.becomes (Some (around_of t x.in_block x.k)) (Some a)
      (keeps leads old t good x rule.ValuesAreIntegers))

  filled : (u : KitTree) (qs : KitList Regions) → Becomes t None Regions u.regions qs →
      Placed leads old t good definers names follows u →
      u.head.content.kind ≡ ops.Func → Every (λ (c : KitBody). operation_list c.operations ≢ [])
      (bodies_of (as_made u qs))
  filled u qs b p f k c e =
      let more = block_filled leads old t good definers names follows u qs b p f c
      (has_at_index (bodies_of (as_made u qs)) k c e) in
      λ none. let n : length (operation_list c.operations) ≡ 0 = ap length none in absurd (omega (arith, more, n))

  rule_ends : (s : KitSite) → CameHere s → rules.BlocksEnd (kit_world leads old) s
  rule_ends _ at_root = record {
    last = λ a h. absurd (none_some a h.0);
    none_empty = λ e. filled t made joins (placed_root leads old t good definers names follows) e;
  }
  rule_ends _ (below x v a o) =
      let r : rules.BlocksEnd (kit_world leads old) (site_of t x) = keeps leads old t good x rule.BlocksEnd in
      subst (λ z. rules.BlocksEnd (kit_world leads old) (record { op = z; around = Some a })) (sym o.became.is)
      (record {
        last = λ b h.
            let q = r.last (around_of t x.in_block x.k) (refl, in_kind x v a b o h.0 ops.Func h.1) in
            subst (λ (z : KitAround). (is_terminator x.u.head.content.kind ≡ true) ↔
            (z.index + 1 ≡ length (operation_list z.body.operations)))
            (some_same a b h.0) (λ e. o.end_is (q.0 e), λ e. q.1 (o.last e));
        none_empty = λ e. filled x.u o.became.made o.became.becomes (placed leads old t good definers names follows x)
            e;
      })

  rule_visible : (s : KitSite) → CameHere s → rules.OperandsAreVisible (kit_world leads old) s
  rule_visible _ at_root =
      let r : rules.OperandsAreVisible (kit_world leads old) (record { op = t; around = None }) =
      root_keeps leads old t good rule.OperandsAreVisible in
      record { inside = λ a h. absurd (none_some a h); root = λ e. ap (map names) (r.root refl) }
  rule_visible _ (below x v a o) =
      let r : rules.OperandsAreVisible (kit_world leads old) (site_of t x) =
      keeps leads old t good x rule.OperandsAreVisible in
      subst (λ z. rules.OperandsAreVisible (kit_world leads old) (record { op = z; around = Some a })) (sym o.became.is)
      (record {
        inside = λ b h k y e.
            let was = map_at names x.u.head.operands k y e in
            let seen = r.inside (around_of t x.in_block x.k) refl k was.0 was.1 in
            let has = o.sees was.0 (has_at_index (visible (around_of t x.in_block x.k)) seen.0 was.0 seen.1) in
            subst (λ (z : KitAround). Lists (visible z) y) (some_same a b h)
            (index_of_has (visible a) y (subst (λ w. Has w (visible a)) was.2 has));
        root = λ e. absurd (none_some a (sym e));
      })

  -- ---- types

  kind_types : (u : KitTree) (qs : KitList Regions) (k : KitOp) → rules.HasKindTypes (kit_world leads old) u k →
      rules.HasKindTypes (kit_world leads old) (as_made u qs) k
  kind_types u qs (ops.Arithmetic x) h = subst AreAllEqual (sym
      (ap (λ l. l ++ map Some (types_of u.head.results)) (types_same u.head.operands))) h
  kind_types u qs (ops.Comparison x) h = (subst AreAllEqual (sym (types_same u.head.operands)) h.0, h.1)
  kind_types u qs ops.CondBr h = λ y here.
      let was = map_at names u.head.operands 0 y here in
      let x = h was.0 was.1 in
      (x.0, ap old (sym was.2) ∙ (follows_type leads old t good was.0 (names was.0) (follows was.0) ∙ x.1), x.2)
  kind_types u qs k h = tt

  rule_types : (s : KitSite) → CameHere s → rules.TypesAgree (kit_world leads old) s
  rule_types _ at_root = kind_types t made t.head.content.kind (root_keeps leads old t good rule.TypesAgree)
  rule_types _ (below x v a o) =
      subst (λ z. rules.TypesAgree (kit_world leads old) (record { op = z; around = Some a })) (sym o.became.is)
      (kind_types x.u o.became.made x.u.head.content.kind (keeps leads old t good x rule.TypesAgree))

  -- ---- edges, calls, returns

  leads_there : (x : Step t) (v : KitTree) (a : KitAround) (o : OldHere x v a) (edge : ℕ) (target : Ptr BasicBlock) →
      slice_get x.u.head.successors edge ≡ Some target →
      rules.EdgeLeadsTo (kit_world leads old) x.u (around_of t x.in_block x.k) edge target →
      rules.EdgeLeadsTo (kit_world leads old) (as_made x.u o.became.made) a edge target
  leads_there x v a o edge target e h =
      let stays = o.stays h.body.label.name (subst (λ z. Has z x.u.head.successors) (sym h.named)
      (has_at_index x.u.head.successors edge target e)) in
      let c = are t None Blocks x.in_block.blocks o.blocks_made o.blocks_become h.here.0 h.body h.here.1 stays in
      let label : c.1.label ≡ h.body.label = c.3 in
      let here : slice_get (block_list a.blocks) c.0 ≡ Some (used_body names c.1) =
      ap (λ (z : KitList Blocks). slice_get (block_list z) c.0) o.blocks_are
      ∙ (ap (λ l. slice_get l c.0) (blocks_used names o.blocks_made)
      ∙ map_get (used_body names) (block_list o.blocks_made) c.0 c.1 c.2) in
      let sizes : List ℕ = sizes_or_none (segment_sizes (kit_world leads old) x.u) in
      record {
        body = used_body names c.1;
        here = (c.0, here);
        named = ap (λ l. l.name) label ∙ h.named;
        operands = λ is.
            subst (λ l. HaveTypes (kit_world leads old) l (types_of c.1.label.arguments))
            (sym (along_map names x.u.head.content.kind sizes x.u.head.operands edge))
            (subst (λ l. HaveTypes (kit_world leads old) (map names
            (along_edge x.u.head.content.kind sizes x.u.head.operands edge)) (types_of l.arguments)) (sym label)
            (have_types (along_edge x.u.head.content.kind sizes x.u.head.operands edge)
            (types_of h.body.label.arguments) (h.operands is)));
      }

  rule_edges : (s : KitSite) → CameHere s → rules.EdgesFit (kit_world leads old) s
  rule_edges _ at_root = λ edge target e.
      let r : rules.EdgesFit (kit_world leads old) (record { op = t; around = None }) =
      root_keeps leads old t good rule.EdgesFit in
      let x = r edge target e in absurd (none_some x.0 x.1)
  rule_edges _ (below x v a o) =
      let r : rules.EdgesFit (kit_world leads old) (site_of t x) = keeps leads old t good x rule.EdgesFit in
      subst (λ z. rules.EdgesFit (kit_world leads old) (record { op = z; around = Some a })) (sym o.became.is)
      (λ edge target e.
      let f = r edge target e in (
        a,
        refl,
        leads_there x v a o edge target e (subst (λ z. rules.EdgeLeadsTo (kit_world leads old) x.u z edge target)
            (sym (some_same (around_of t x.in_block x.k) f.0 f.1)) f.2),
      ))

  calls : (x : Step t) (v : KitTree) (a : KitAround) (o : OldHere x v a) →
      rules.CallsFunction (kit_world leads old) x.u (around_of t x.in_block x.k) →
      rules.CallsFunction (kit_world leads old) (as_made x.u o.became.made) a
  calls x v a o h =
      let m = module_became leads old t good definers names follows (x.in_block.s.op ∷ x.in_block.outer)
      (a.owner ∷ a.outer) o.around h.scope h.nearest in
      let holds : rules.ModuleHolds (kit_world leads old) m.placed_at.s =
      good.obeys rule.ModuleHolds (m.placed_at.up.prefix ++ []) m.placed_at.s (m.placed_at.up.reaches []) in
      let body : rules.HasModuleBody h.scope = subst rules.HasModuleBody m.placed_at.is
      (holds.body (ap (λ (z : KitTree). z.head.content.kind) m.placed_at.is ∙ m.kind)) in
      let f = member_becomes leads old t good definers names follows h.scope m.became.made m.became.becomes m.placed_at
      m.kind body h.function h.member in
      let content : f.0.head.content ≡ h.function.head.content = ap (λ (z : KitHead). z.content) f.2 in
      record {
        scope = m.it;
        nearest = m.nearest;
        name = h.name;
        has_name = h.has_name;
        function = f.0;
        member = subst (λ z. Lists (members_of z) f.0) (sym m.became.is) f.1;
        is_function = ap (λ c. c.kind) content ∙ h.is_function;
        named = ap (λ c. option_and_then identifier_in (attribute_at c.notes.attributes SYMBOL_NAME.now)) content
            ∙ h.named;
        type = h.type;
        has_type = h.has_type;
        same_type = ap (λ c. option_and_then type_in (attribute_at c.notes.attributes FUNCTION_TYPE.now)) content
            ∙ h.same_type;
        signature = h.signature;
        is_signature = h.is_signature;
        operands = have_types x.u.head.operands h.signature.inputs.items h.operands;
        results = h.results;
      }

  rule_calls : (s : KitSite) → CameHere s → rules.CallsFit (kit_world leads old) s
  rule_calls _ at_root = λ e.
      let r : rules.CallsFit (kit_world leads old) (record { op = t; around = None }) =
      root_keeps leads old t good rule.CallsFit in
      let x = r e in absurd (none_some x.0 x.1)
  rule_calls _ (below x v a o) =
      let r : rules.CallsFit (kit_world leads old) (site_of t x) = keeps leads old t good x rule.CallsFit in
      subst (λ z. rules.CallsFit (kit_world leads old) (record { op = z; around = Some a })) (sym o.became.is)
      (λ e.
      let f = r e in (
        a,
        refl,
        calls x v a o (subst (rules.CallsFunction (kit_world leads old) x.u)
            (sym (some_same (around_of t x.in_block x.k) f.0 f.1)) f.2),
      ))

  rule_returns : (s : KitSite) → CameHere s → rules.ReturnsFit (kit_world leads old) s
  rule_returns _ at_root = λ e a f h. absurd (none_some a h.0)
  rule_returns _ (below x v a o) =
      let r : rules.ReturnsFit (kit_world leads old) (site_of t x) = keeps leads old t good x rule.ReturnsFit in
      subst (λ z. rules.ReturnsFit (kit_world leads old) (record { op = z; around = Some a })) (sym o.became.is)
      (λ e b f h s.
      let signed : signature (kit_world leads old) x.in_block.s.op ≡ Some f =
      ap (signature (kit_world leads old)) (sym o.around.1.is)
      ∙ (ap (λ (z : KitAround). signature (kit_world leads old) z.owner) (some_same a b h.0) ∙ s) in
      have_types x.u.head.operands f.results.items (r e (around_of t x.in_block x.k) f
      (refl, in_kind x v a b o h.0 ops.Func h.1) signed))

  -- ---- attributes and formats

  constant_kept : (u : KitTree) (qs : KitList Regions) → rules.HasConstantValue (kit_world leads old) u →
      rules.HasConstantValue (kit_world leads old) (as_made u qs)
  constant_kept u qs h = record {
    value = h.value;
    has_value = h.has_value;
    is_type = h.is_type;
    in_range = h.in_range;
    results = h.results;
  }

  rule_constants : (s : KitSite) → CameHere s → rules.ConstantsFit (kit_world leads old) s
  rule_constants _ at_root = λ e.
      let r : rules.ConstantsFit (kit_world leads old) (record { op = t; around = None }) =
      root_keeps leads old t good rule.ConstantsFit in
      constant_kept t made (r e)
  rule_constants _ (below x v a o) =
      let r : rules.ConstantsFit (kit_world leads old) (site_of t x) = keeps leads old t good x rule.ConstantsFit in
      subst (λ z. rules.ConstantsFit (kit_world leads old) (record { op = z; around = Some a })) (sym o.became.is)
      (λ e. constant_kept x.u o.became.made (r e))

  attributes_kept : (u : KitTree) (qs : KitList Regions) → Becomes t None Regions u.regions qs →
      (s : Option KitAround) (r : Option KitAround) →
      rules.AttributesAreKnown (kit_world leads old) (record { op = u; around = s }) →
      rules.AttributesAreKnown (kit_world leads old) (record { op = as_made u qs; around = r })
  attributes_kept u qs b s r h = record {
    no_forward_ref = h.no_forward_ref;
    own = h.own;
    blocks = argument_values u qs b (λ (c : KitBody). Every rules.IsCommon c.label.content.attributes)
        (λ x y e p. subst (λ l. Every rules.IsCommon l.content.attributes) e p) h.blocks;
  }

  rule_attributes : (s : KitSite) → CameHere s → rules.AttributesAreKnown (kit_world leads old) s
  rule_attributes _ at_root = attributes_kept t made joins None None
      (root_keeps leads old t good rule.AttributesAreKnown)
  rule_attributes _ (below x v a o) =
      subst (λ z. rules.AttributesAreKnown (kit_world leads old) (record { op = z; around = Some a })) (sym o.became.is)
      (attributes_kept x.u o.became.made o.became.becomes (Some (around_of t x.in_block x.k)) (Some a)
      (keeps leads old t good x rule.AttributesAreKnown))

  module _ (u : KitTree) (qs : KitList Regions) (b : Becomes t None Regions u.regions qs) where
    counts : (r s n : ℕ) → rules.Counts u r s n → rules.Counts (as_made u qs) r s n
    counts r s n h = record {
      results = h.results;
      successors = h.successors;
      regions =
          regions_count leads old t good definers names follows u qs b ∙ h.regions;
    }

    operand_count : length (map names u.head.operands) ≡ length u.head.operands
    operand_count = length-map names u.head.operands

    fits : (k : KitOp) → rules.FitsKind (kit_world leads old) u k →
        rules.FitsKind (kit_world leads old) (as_made u qs) k
    fits ops.Module h = (counts 0 0 1 h.0, operand_count ∙ h.1, h.2)
    fits ops.Func h = (counts 0 0 1 h.0, operand_count ∙ h.1, h.2, h.3)
    fits ops.Constant h = (counts 1 0 0 h.0, operand_count ∙ h.1, h.2)
    fits ops.ForwardRef h = (counts 1 0 0 h.0, operand_count ∙ h.1)
    fits (ops.Arithmetic x) h = (counts 1 0 0 h.0, operand_count ∙ h.1)
    fits (ops.Comparison x) h = (counts 1 0 0 h.0, operand_count ∙ h.1)
    fits ops.Br h = counts 0 1 0 h
    fits ops.CondBr h = (counts 0 2 0 h.0, (h.1.0, h.1.1, (h.1.2.0, h.1.2.1, h.1.2.2, operand_count ∙ h.1.2.3)))
    fits ops.Call h = record {
      callee = h.callee;
      signature = h.signature;
      is_signature = h.is_signature;
      numbers = (counts (length h.signature.results.items) 0 0 h.numbers.0, operand_count ∙ h.numbers.1);
    }
    fits ops.Emit h = (counts 0 0 0 h.0, operand_count ∙ h.1)
    fits ops.Return h = counts 0 0 0 h

  rule_format : (s : KitSite) → CameHere s → rules.FitsFormat (kit_world leads old) s
  rule_format _ at_root = fits t made joins t.head.content.kind (root_keeps leads old t good rule.FitsFormat)
  rule_format _ (below x v a o) =
      subst (λ z. rules.FitsFormat (kit_world leads old) (record { op = z; around = Some a })) (sym o.became.is)
      (fits x.u o.became.made o.became.becomes x.u.head.content.kind (keeps leads old t good x rule.FitsFormat))

  -- ---- all

  all_kept : (r : Rule) (s : KitSite) → CameHere s → Keeps (kit_world leads old) r s
  all_kept rule.RootIsModule s c = rule_root s c
  all_kept rule.ModuleHolds s c = rule_module s c
  all_kept rule.FunctionHasType s c = rule_function s c
  all_kept rule.FunctionHolds s c = rule_holds s c
  all_kept rule.ValuesAreIntegers s c = rule_values s c
  all_kept rule.BlocksEnd s c = rule_ends s c
  all_kept rule.OperandsAreVisible s c = rule_visible s c
  all_kept rule.TypesAgree s c = rule_types s c
  all_kept rule.EdgesFit s c = rule_edges s c
  all_kept rule.CallsFit s c = rule_calls s c
  all_kept rule.ReturnsFit s c = rule_returns s c
  all_kept rule.ConstantsFit s c = rule_constants s c
  all_kept rule.AttributesAreKnown s c = rule_attributes s c
  all_kept rule.FitsFormat s c = rule_format s c

  pub joined_obeys : ObeysIn (kit_world leads old) (after_of leads old t good definers names follows made)
  joined_obeys r p s e = all_kept r s (came_from leads old t good definers names follows made joins p s e)
