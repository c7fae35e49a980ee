-- A pruned tree keeps the rules of what an operation is in, and of what it names.
use Rattle.std.proofs.Common.{◌≡◌, ◌≢◌, ◌↔◌, inl, ℕ, ◌+◌, Bool, true, false, List, [], ◌∷◌, map, length, Option, Some}
use Rattle.std.proofs.Common.{None, option_map, option_and_then, slice_get, refl, sym, ap, ◌∙◌, subst}
use Rattle.std.specs.Prelude.{if◌then◌else◌}
use Rattle.ir_base.specs.declared.types.TypeHandle.{TypeHandle}
use Rattle.ir_program.specs.declared.handles.Value.{Value}
use Rattle.ir_trees.specs.Searched.{Lists}
use Rattle.ir_trees.specs.Trees.{Blocks}
use Rattle.kit.specs.Context.{KitTree}
use Rattle.kit.specs.Meaning.{KitOperation, KitBlock}
use Rattle.kit_checks.specs.Faults.{Keeps}
use Rattle.kit_checks.specs.KitWorld.{HasDeclaredTypes, kit_world}
use Rattle.kit_checks.specs.Rules as rules
use Rattle.kit_checks.specs.Sites.{operation_list, block_list, region_list}
use Rattle.kit_checks.specs.Words.{Every, IsValueType, types_of, joined, first_body, bodies_of, kind_of, is_terminator}
use Rattle.kit_checks.specs.Words.{is_symbol, is_instruction, symbol_name, signature, visible}
use Rattle.kit_checks.specs.World.{World}
use Rattle.kit_checks.specs.declared.rule.Rule.{Rule}
use Rattle.kit_checks.specs.declared.rule.Rule.TheVariants as rule
use Rattle.kit_checks.proofs.Down.{both}
use Rattle.kit_ops.specs.declared.kinds.KitOp.{KitOp}
use Rattle.kit_ops.specs.declared.kinds.KitOp.TheVariants as ops
use Rattle.kit_ops.specs.declared.types.KitType.{KitType}
use Rattle.kit_pass_rules.specs.Laws.{IsGood}
use Rattle.kit_pass_rules.proofs.DceCame.{KitAround, KitSite}
use Rattle.kit_pass_rules.proofs.Left.{left}
use Rattle.kit_pass_rules.proofs.Lists.{map_get, map_at, has_at_index, index_of_has}
use Rattle.kit_pass_rules.proofs.Thin.{KitBody}
use Rattle.kit_pass_rules.proofs.Walk.{Child, Standing, stands_root, child_of}
use Rattle.kit_pass_rules.proofs.pruning.PrunedTrees.{KitListed, Pruning, content_by, operands_by, prune, prune_tree}
use Rattle.kit_pass_rules.proofs.pruning.PrunedTrees.{prune_body, goes}
use Rattle.kit_pass_rules.proofs.pruning.PrunedTrees.{regions_pruned, operations_pruned, blocks_pruned}
use Rattle.kit_pass_rules.proofs.pruning.PrunedSites.{MayPrune, ModuleStays, prune_around, entry_stays, root_modules}
use Rattle.kit_pass_rules.proofs.pruning.PrunedSites.{Was, Came}
use Rattle.kit_pass_rules.proofs.pruning.PrunedSites.{at_root, below}
use Rattle.kit_pass_rules.proofs.pruning.PrunedKinds.{pruned_by, operands_has, every_body, by_taken, none_now}
use Rattle.kit_pass_rules.proofs.pruning.PrunedKinds.{kind_before}
use Rattle.kit_pass_rules.proofs.pruning.PrunedKinds.{none_then, terminator_same, symbol_before}
use Rattle.kit_pass_rules.proofs.pruning.PrunedScopes.{visible_pruned, first_pruned, visible_same}
use Rattle.opt_trees.specs.Occurrences.{Has}
use Rattle.opt_trees.proofs.Lists.{some_same, none_some, length-map}

map_none : {X Y : Type 0} (f : X → Y) (xs : List X) → map f xs ≡ [] → xs ≡ []
map_none f [] e = refl
map_none f (x ∷ xs) e = absurd (cc e)

module _ (leads : TypeHandle → Option KitType) (old new : Value → Option TypeHandle) (g : Pruning) (t : KitTree)
    (good : IsGood leads old t) (may : MayPrune g t) where
  abbrev pub before : World KitOperation KitBlock
  before = kit_world leads old

  abbrev pub after : World KitOperation KitBlock
  after = kit_world leads new

  -- ---- what is known of the tree

  abbrev pub root_site : KitSite
  root_site = record { op = t; around = None }

  pub root_keeps : (r : Rule) → Keeps before r root_site
  root_keeps r = good.obeys r [] root_site refl

  -- the operation with what is around it
  abbrev pub site_in : KitTree → KitAround → KitSite
  site_in u a = record { op = u; around = Some a }

  pub child : (u : KitTree) (a : KitAround) (n : ℕ) (o : Was g t may u a n) →
      Child t (record { op = a.owner; around = o.up_around }) a.outer o.up a.number a.body u (site_in u a)
  child u a n o = child_of t (record { op = a.owner; around = o.up_around }) a.outer o.up o.region a.number a.index
      a.blocks a.body u o.region_here o.block_here o.here

  pub keeps : (u : KitTree) (a : KitAround) (n : ℕ) → Was g t may u a n → (q : Rule) → Keeps before q (site_in u a)
  keeps u a n o q = let c = child u a n o in good.obeys q c.place (site_in u a) c.at_place

  root_kind : t.head.content.kind ≡ ops.Module
  root_kind = let r : rules.RootIsModule before root_site = root_keeps rule.RootIsModule in r refl

  pub root_none : g.taken t.head t.regions ≡ None
  root_none = none_then g t may t ops.Module root_kind (λ x. cc x)

  -- the owner of the block is of a kind
  pub owner_kind : (a b : KitAround) (n : ℕ) (k : KitOp) → (ops.Br ≡ k → ⊥) → Some (prune_around g a n) ≡ Some b →
      kind_of after b.owner ≡ k → a.owner.head.content.kind ≡ k
  owner_kind a b n k other is e = kind_before g a.owner k (ap (λ (z : KitAround). kind_of after z.owner)
      (some_same (prune_around g a n) b is) ∙ e) other

  -- ---- operands

  -- rule 7
  listed : (u : KitTree) (a : KitAround) (n : ℕ) → Was g t may u a n → (v : Value) → Has v u.head.operands →
      Lists (visible a) v
  listed u a n o v h =
      let r : rules.OperandsAreVisible before (site_in u a) = keeps u a n o rule.OperandsAreVisible in
      let i = index_of_has u.head.operands v h in
      r.inside a refl i.0 v i.1

  pub operand_same : HasDeclaredTypes new (prune_tree g t) → (u : KitTree) (a : KitAround) (n : ℕ) → Was g t may u a n →
      (v : Value) → Has v u.head.operands → new v ≡ old v
  operand_same typed u a n o v h =
      let l = listed u a n o v h in
      visible_same leads old new g t good may typed u a n o v (has_at_index (visible a) l.0 v l.1)

  pub rule_visible : (s : KitSite) → Came g t may s → rules.OperandsAreVisible after s
  rule_visible _ at_root =
      let r : rules.OperandsAreVisible before root_site = root_keeps rule.OperandsAreVisible in
      record {
        inside = λ a e. absurd (none_some a e);
        root = λ e. ap (λ q. operands_by q t.head) root_none ∙ r.root refl;
      }
  rule_visible _ (below u a n o) = record {
    inside = λ b e. subst (λ (z : KitAround). Every (Lists (visible z)) (prune_tree g u).head.operands)
        (some_same (prune_around g a n) b e)
        (λ k v h. subst (λ l. Lists l v) (sym (visible_pruned g t may u a n o))
        (listed u a n o v (operands_has (g.taken u.head u.regions) u.head v
        (has_at_index (prune_tree g u).head.operands k v h))));
    root = λ e. absurd (none_some (prune_around g a n) (sym e));
  }

  -- ---- what an operation is in

  pub rule_root : (s : KitSite) → Came g t may s → rules.RootIsModule after s
  rule_root _ at_root = λ e. ap (λ q. (content_by q t.head).kind) root_none ∙ root_kind
  rule_root _ (below u a n o) = λ e. absurd (none_some (prune_around g a n) (sym e))

  module_body : (u : KitTree) → ModuleStays g u → u.head.content.kind ≡ ops.Module → rules.HasModuleBody u →
      rules.HasModuleBody (prune_tree g u)
  module_body u stays e h = record {
    body = prune_body g h.body;
    one = ap (map block_list) (regions_pruned g u.regions) ∙ (lists (region_list u.regions)
        ∙ (ap (map (λ (bs : List KitBody). map (prune_body g) (left (goes g) bs))) h.one
        ∙ ap (λ (b : Bool). map (prune_body g) (if b then [] else h.body ∷ []) ∷ []) (stays e h.body inside)));
    no_arguments = h.no_arguments;
  }
    where
      inside : Has h.body (bodies_of u)
      inside = subst (λ l. Has h.body (joined l)) (sym h.one) (inl refl)

      lists : (rs : List (KitListed Blocks)) → map block_list (map (λ (bs : KitListed Blocks). prune g bs) rs)
          ≡ map (λ (bs : List KitBody). map (prune_body g) (left (goes g) bs)) (map block_list rs)
      lists [] = refl
      lists (bs ∷ rs) = λ i. blocks_pruned g bs i ∷ lists rs i

  fresh_name : (u : KitTree) (a : KitAround) (n : ℕ) → rules.HasFreshName before a u →
      rules.HasFreshName after (prune_around g a n) (prune_tree g u)
  fresh_name u a n fresh k other name less here named own =
      let x = map_at (prune_tree g) (operation_list a.body.operations) k other
      (sym (ap (λ l. slice_get l k) (operations_pruned g a.body.operations)) ∙ here) in
      fresh k x.0 name less x.1 (symbol_before g leads old new x.0 name (ap (symbol_name after) x.2 ∙ named))
      (symbol_before g leads old new u name own)

  symbol_stays : (u : KitTree) → is_symbol u.head.content.kind ≡ true →
      is_symbol (prune_tree g u).head.content.kind ≡ true
  symbol_stays u h = by_taken g u (λ q. is_symbol (content_by q u.head).kind ≡ true) h
      (λ i q. let x : false ≡ true = sym (ap is_symbol (may.conditional u.head u.regions i q)) ∙ h in absurd (cc x))

  pub rule_module : (s : KitSite) → Came g t may s → rules.ModuleHolds after s
  rule_module _ at_root =
      let r : rules.ModuleHolds before root_site = root_keeps rule.ModuleHolds in
      record {
        body = λ e. module_body t (root_modules g t may) root_kind (r.body root_kind);
        kinds = λ a h. absurd (none_some a h.0);
        names = λ a h. absurd (none_some a h.0);
      }
  rule_module _ (below u a n o) =
      let r : rules.ModuleHolds before (site_in u a) = keeps u a n o rule.ModuleHolds in
      record {
        body = λ e. let k = kind_before g u ops.Module e (λ x. cc x) in module_body u o.own_modules k (r.body k);
        kinds = λ b h. symbol_stays u (r.kinds a (refl, owner_kind a b n ops.Module (λ x. cc x) h.0 h.1));
        names = λ b h. subst (λ (z : KitAround). rules.HasFreshName after z (prune_tree g u))
            (some_same (prune_around g a n) b h.0)
            (fresh_name u a n (r.names a (refl, owner_kind a b n ops.Module (λ x. cc x) h.0 h.1)));
      }

  pub rule_holds : (s : KitSite) → Came g t may s → rules.FunctionHolds after s
  rule_holds _ at_root = λ a h. absurd (none_some a h.0)
  rule_holds _ (below u a n o) = λ b h.
      let r : rules.FunctionHolds before (site_in u a) = keeps u a n o rule.FunctionHolds in
      let q = r a (refl, owner_kind a b n ops.Func (λ x. cc x) h.0 h.1) in (
        by_taken g u (λ q. is_instruction (content_by q u.head).kind ≡ true) q.0 (λ i e. refl),
        regions_pruned g u.regions ∙ ap (map (λ (bs : KitListed Blocks). prune g bs)) q.1,
      )

  -- ---- functions

  function_body : (s : KitSite) (outer : List KitTree) → Standing t s outer → g.taken s.op.head s.op.regions ≡ None →
      rules.HasFunctionBody before s.op → rules.HasFunctionBody after (prune_tree g s.op)
  function_body s outer up none h =
      let x = both first_body (slice_get (region_list s.op.regions) 0) h.entry h.has_entry in
      let region : slice_get (region_list (prune g s.op.regions)) 0 ≡ Some (prune g x.0) =
      ap (λ l. slice_get l 0) (regions_pruned g s.op.regions) ∙ map_get (λ (bs : KitListed Blocks). prune g bs)
      (region_list s.op.regions) 0 x.0 x.1 in
      let block : first_body (prune g x.0) ≡ Some (prune_body g h.entry) =
      first_pruned g x.0 (entry_stays g t may s outer up 0 x.0 x.1) ∙ ap (option_map (prune_body g)) x.2 in
      record {
        type = h.type;
        has_type = ap (λ q. signature after (pruned_by g s.op q)) none ∙ h.has_type;
        inputs = h.inputs;
        results = h.results;
        entry = prune_body g h.entry;
        has_entry = ap (option_and_then first_body) region ∙ block;
        arguments = h.arguments;
      }

  pub rule_function : (s : KitSite) → Came g t may s → rules.FunctionHasType after s
  rule_function _ at_root = λ e.
      let r : rules.FunctionHasType before root_site = root_keeps rule.FunctionHasType in
      function_body root_site [] (stands_root t) root_none (r (kind_before g t ops.Func e (λ x. cc x)))
  rule_function _ (below u a n o) = λ e.
      let r : rules.FunctionHasType before (site_in u a) = keeps u a n o rule.FunctionHasType in
      let c = child u a n o in
      function_body (site_in u a) (a.owner ∷ a.outer) c.standing (none_now g u ops.Func e (λ x. cc x))
      (r (kind_before g u ops.Func e (λ x. cc x)))

  -- ---- values

  pub rule_values : (s : KitSite) → Came g t may s → rules.ValuesAreIntegers after s
  rule_values _ at_root =
      let r : rules.ValuesAreIntegers before root_site = root_keeps rule.ValuesAreIntegers in
      record {
        results = r.results;
        arguments =
            every_body g (λ (b : KitBody). Every (IsValueType after) (types_of b.label.arguments)) (λ b h. h)
            t r.arguments;
      }
  rule_values _ (below u a n o) =
      let r : rules.ValuesAreIntegers before (site_in u a) = keeps u a n o rule.ValuesAreIntegers in
      record {
        results = r.results;
        arguments =
            every_body g (λ (b : KitBody). Every (IsValueType after) (types_of b.label.arguments)) (λ b h. h)
            u r.arguments;
      }

  -- ---- ends of blocks

  filled : (u : KitTree) → Every (λ (b : KitBody). operation_list b.operations ≢ []) (bodies_of u) →
      Every (λ (b : KitBody). operation_list b.operations ≢ []) (bodies_of (prune_tree g u))
  filled u = every_body g (λ (b : KitBody). operation_list b.operations ≢ [])
      (λ b h e. h (map_none (prune_tree g) (operation_list b.operations) (sym (operations_pruned g b.operations)
      ∙ e))) u

  pub rule_ends : (s : KitSite) → Came g t may s → rules.BlocksEnd after s
  rule_ends _ at_root =
      let r : rules.BlocksEnd before root_site = root_keeps rule.BlocksEnd in
      record {
        last = λ a h. absurd (none_some a h.0);
        none_empty =
            λ e. filled t (r.none_empty (kind_before g t ops.Func e (λ x. cc x)));
      }
  rule_ends _ (below u a n o) =
      let r : rules.BlocksEnd before (site_in u a) = keeps u a n o rule.BlocksEnd in
      let many : length (operation_list (prune g a.body.operations)) ≡ length (operation_list a.body.operations) =
      ap length (operations_pruned g a.body.operations) ∙ length-map (prune_tree g)
      (operation_list a.body.operations) in
      record {
        last = λ b h.
            let q = r.last a (refl, owner_kind a b n ops.Func (λ x. cc x) h.0 h.1) in
            subst (λ (z : KitAround). (is_terminator (kind_of after (prune_tree g u)) ≡ true)
            ↔ (z.index + 1 ≡ length (operation_list z.body.operations))) (some_same (prune_around g a n) b h.0) (
              λ e. q.0 (sym (terminator_same g t may u) ∙ e) ∙ sym many,
              λ e. terminator_same g t may u
                  ∙ q.1 (e ∙ many),
            );
        none_empty = λ e. filled u (r.none_empty (kind_before g u ops.Func e (λ x. cc x)));
      }
