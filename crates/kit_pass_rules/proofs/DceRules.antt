-- What is left without what is dead keeps the rules of what an operation is in, and of what it says itself.
use Rattle.std.proofs.Common.{◌≡◌, ◌≢◌, ◌↔◌, ℕ, ◌+◌, Bool, true, false, List, [], ◌∷◌, map, take, length, Option, Some, None, slice_get, refl, sym, ap, ◌∙◌, subst, arith}
use Rattle.ir_base.specs.declared.types.TypeHandle.{TypeHandle}
use Rattle.ir_names.specs.declared.interfaces.OpInterface.TheVariants as op
use Rattle.ir_program.specs.declared.handles.Value.{Value}
use Rattle.ir_trees.specs.Searched.{Lists}
use Rattle.ir_trees.specs.Stands.{by_handle}
use Rattle.ir_trees.specs.Trees.{Defined, Blocks}
use Rattle.kit.specs.Context.{KitTree}
use Rattle.kit.specs.Meaning.{KitOperation, KitBlock, kit}
use Rattle.kit_checks.specs.Faults.{Keeps}
use Rattle.kit_checks.specs.KitWorld.{HasDeclaredTypes, kit_world}
use Rattle.kit_checks.specs.Rules as rules
use Rattle.kit_checks.specs.Sites.{Listed, operation_list, block_list, region_list}
use Rattle.kit_checks.specs.Words.{Every, IsValueType, types_of, bodies_of, kind_of, is_terminator, symbol_name, visible}
use Rattle.kit_checks.specs.World.{World}
use Rattle.kit_checks.specs.declared.rule.Rule.{Rule}
use Rattle.kit_checks.specs.declared.rule.Rule.TheVariants as rule
use Rattle.kit_checks.proofs.Down.{step_to}
use Rattle.kit_ops.specs.declared.attributes.IntegerAttr.{IntegerAttr}
use Rattle.kit_ops.specs.declared.kinds.KitOp.TheVariants as ops
use Rattle.kit_ops.specs.declared.types.KitType.{KitType}
use Rattle.kit_ops.specs.Table.{row_of, has_interface}
use Rattle.kit_pass_rules.specs.Laws.{IsGood}
use Rattle.kit_pass_rules.proofs.DceCame.{KitAround, KitSite, body_at, thin_around, Old, Came, at_root, below}
use Rattle.kit_pass_rules.proofs.DceVisible.{if_not, may_of, visible_left, names, visible_same}
use Rattle.kit_pass_rules.proofs.Heads.{symbol_same, ends}
use Rattle.kit_pass_rules.proofs.Left.{left, LastStays, left_none, origin}
use Rattle.kit_pass_rules.proofs.Lists.{map_get, map_at, get_take, from_take, has_at_index, index_of_has, map_same}
use Rattle.kit_pass_rules.proofs.Thin.{KitBody, thin_tree, thin_body, goes, regions_thin, blocks_thin, operations_thin, bodies_thin, dropped_at}
use Rattle.kit_pass_rules.proofs.Walk.{OccurrenceOf, within, occurrence_of, Standing, stands_root, child_of}
use Rattle.kit_views.proofs.Dropped.{drop_none}
use Rattle.opt_trees.specs.Dialect.{drop}
use Rattle.opt_trees.specs.Dce.{TreeSurroundings as DceAround, Whole, Slot, ForwardsTo, IsDead, Gone, IsGoneExactly, gone_at, thin}
use Rattle.opt_trees.specs.Occurrences.{Has, occurrences_of}
use Rattle.opt_trees.proofs.Lists.{some_same, none_some}
use Rattle.opt_trees.proofs.NoneDead.{true_false}

module _ (leads : TypeHandle → Option KitType) (old new : Value → Option TypeHandle) (w : DceAround by_handle IntegerAttr) (t : KitTree)
    (good : IsGood leads old t) (g : Gone by_handle) (is_gone : IsGoneExactly kit w t g) where
  abbrev pub before : World KitOperation KitBlock
  before = kit_world leads old

  abbrev pub after : World KitOperation KitBlock
  after = kit_world leads new

  -- ---- what is known of the tree

  pub root_keeps : (r : Rule) → Keeps before r (record { op = t; around = None })
  root_keeps r = good.obeys r [] (record { op = t; around = None }) refl

  pub child_keeps : (s : KitSite) (outer : List KitTree) (up : Standing t s outer) (r b k : ℕ) (blocks : Listed KitOperation KitBlock Blocks) (body : KitBody) (u : KitTree) →
      slice_get (region_list s.op.regions) r ≡ Some blocks → slice_get (block_list blocks) b ≡ Some body → slice_get (operation_list body.operations) k ≡ Some u →
      (q : Rule) → Keeps before q (step_to s outer blocks b body k u)
  child_keeps s outer up r b k blocks body u hr hb hk q =
      let c = child_of t s outer up r b k blocks body u hr hb hk in
      good.obeys q c.place (step_to s outer blocks b body k u) c.at_place

  pub keeps : (u : KitTree) (a : KitAround) (j : ℕ) → Old g t u a j → (q : Rule) → Keeps before q (record { op = u; around = Some a })
  keeps u a j o q = child_keeps (record { op = a.owner; around = o.up_around }) a.outer o.up o.region a.number a.index a.blocks a.body u o.region_here o.block_here o.here q

  -- a terminator stays
  terminator_stays : (x : OccurrenceOf KitOperation KitBlock) → Has x (occurrences_of t) → is_terminator x.head.content.kind ≡ true → g.item (Whole x.head.name) ≡ false
  terminator_stays x h e = if_not (g.item (Whole x.head.name)) (λ q.
      let m = may_of w t (Whole x.head.name) (is_gone.dead (Whole x.head.name) q) in
      let same : m.it ≡ x = good.apart.operations m.it x m.stands h m.name in
      true_false (has_interface x.head.content.kind op.IsTerminator) (ends x.head.content.kind e)
      (subst (λ (z : OccurrenceOf KitOperation KitBlock). has_interface z.head.content.kind op.IsTerminator ≡ false) same m.no_terminator))

  -- so does a function
  pub function_stays : (x : OccurrenceOf KitOperation KitBlock) → Has x (occurrences_of t) → x.head.content.kind ≡ ops.Func → g.item (Whole x.head.name) ≡ false
  function_stays x h e = if_not (g.item (Whole x.head.name)) (λ q.
      let m = may_of w t (Whole x.head.name) (is_gone.dead (Whole x.head.name) q) in
      let same : m.it ≡ x = good.apart.operations m.it x m.stands h m.name in
      true_false (row_of x.head.content.kind).has_effects (ap (λ k. (row_of k).has_effects) e)
      (subst (λ (z : OccurrenceOf KitOperation KitBlock). (row_of z.head.content.kind).has_effects ≡ false) same m.pure))

  -- the last operation of a block of a function stays
  last_stays : (s : KitSite) (outer : List KitTree) → Standing t s outer → kind_of before s.op ≡ ops.Func → (r b : ℕ) (blocks : Listed KitOperation KitBlock Blocks) (body : KitBody) →
      slice_get (region_list s.op.regions) r ≡ Some blocks → slice_get (block_list blocks) b ≡ Some body → LastStays (goes g) (operation_list body.operations)
  last_stays s outer up is_func r b blocks body hr hb i z hk last =
      let k : rules.BlocksEnd before (step_to s outer blocks b body i z) = child_keeps s outer up r b i blocks body z hr hb hk rule.BlocksEnd in
      let a : KitAround = record { owner = s.op; outer = outer; blocks = blocks; number = b; body = body; index = i } in
      let c = child_of t s outer up r b i blocks body z hr hb hk in
      terminator_stays (occurrence_of (within c.spot body) z) c.here ((k.last a (refl, is_func)).1 last)

  -- an operand that is lost is forwarded to an argument that is dead
  pub lost_at : (x : OccurrenceOf KitOperation KitBlock) → Has x (occurrences_of t) → (i : ℕ) → g.operand x.head.name i ≡ true → (v : Value) × ForwardsTo kit t x i v × IsDead kit w t (Slot v)
  lost_at x h i q =
      let l = is_gone.lost x.head.name i q in
      (l.argument, subst (λ (z : OccurrenceOf KitOperation KitBlock). ForwardsTo kit t z i l.argument) (good.apart.operations l.user x l.stands h l.name) l.forwards, l.dead)

  -- operands are lost by branches alone
  lost_by_branch : (x : OccurrenceOf KitOperation KitBlock) → Has x (occurrences_of t) → (i : ℕ) → g.operand x.head.name i ≡ true → has_interface x.head.content.kind op.Branch ≡ true
  lost_by_branch x h i q =
      let l = is_gone.lost x.head.name i q in
      subst (λ (z : OccurrenceOf KitOperation KitBlock). has_interface z.head.content.kind op.Branch ≡ true) (good.apart.operations l.user x l.stands h l.name) l.forwards.branch

  module _ (u : KitTree) (a : KitAround) (j : ℕ) (o : Old g t u a j) where
    pub operands_stay : has_interface u.head.content.kind op.Branch ≡ false → drop (g.operand u.head.name) u.head.operands ≡ u.head.operands
    operands_stay none =
        let c = child_of t (record { op = a.owner; around = o.up_around }) a.outer o.up o.region a.number a.index a.blocks a.body u o.region_here o.block_here o.here in
        drop_none (g.operand u.head.name) u.head.operands
        (λ i. if_not (g.operand u.head.name i) (λ q. true_false (has_interface u.head.content.kind op.Branch) (lost_by_branch (occurrence_of (within c.spot a.body) u) c.here i q) none))

    -- rule 7
    pub operands_visible : Every (λ v. Has v (visible (thin_around g a j))) (drop (g.operand u.head.name) u.head.operands)
    operands_visible k v e =
        let d = dropped_at (g.operand u.head.name) u.head.operands k v e in
        let r : rules.OperandsAreVisible before (record { op = u; around = Some a }) = keeps u a j o rule.OperandsAreVisible in
        let l = r.inside a refl d.index v d.here in
        visible_left w t g is_gone u a j o v (names w t g is_gone u a j o d.index v d.here d.stays) (has_at_index (visible a) l.0 v l.1)

    module _ (typed : HasDeclaredTypes new (thin_tree g t)) where
      pub operands_same : Every (λ v. new v ≡ old v) (drop (g.operand u.head.name) u.head.operands)
      operands_same k v e = visible_same leads old new t good g typed u a j o v (operands_visible k v e)

      pub types_same : has_interface u.head.content.kind op.Branch ≡ false → map new (drop (g.operand u.head.name) u.head.operands) ≡ map old u.head.operands
      types_same none = map_same new old (drop (g.operand u.head.name) u.head.operands) operands_same ∙ ap (map old) (operands_stay none)

  pub rule_visible : (s : KitSite) → Came g t s → rules.OperandsAreVisible after s
  rule_visible _ at_root =
      let r : rules.OperandsAreVisible before (record { op = t; around = None }) = root_keeps rule.OperandsAreVisible in
      record { inside = λ a e. absurd (none_some a e); root = λ e. ap (drop (g.operand t.head.name)) (r.root refl) }
  rule_visible _ (below u a j o) = record {
    inside = λ b e. subst (λ (z : KitAround). Every (Lists (visible z)) (drop (g.operand u.head.name) u.head.operands)) (some_same (thin_around g a j) b e)
        (λ k v h. index_of_has (visible (thin_around g a j)) v (operands_visible u a j o k v h));
    root = λ e. absurd (none_some (thin_around g a j) (sym e));
  }

  -- ---- rules of what an operation is in

  pub rule_root : (s : KitSite) → Came g t s → rules.RootIsModule after s
  rule_root _ at_root = λ e. let r : rules.RootIsModule before (record { op = t; around = None }) = root_keeps rule.RootIsModule in r refl
  rule_root _ (below u a j o) = λ e. absurd (none_some (thin_around g a j) (sym e))

  module_body : (u : KitTree) → rules.HasModuleBody u → rules.HasModuleBody (thin_tree g u)
  module_body u h = record {
    body = thin_body g h.body;
    one = ap (map block_list) (regions_thin g u.regions) ∙ (lists (region_list u.regions) ∙ ap (map (map (thin_body g))) h.one);
    no_arguments = ap (λ ds. drop (λ i. gone_at g (slice_get ds i)) ds) h.no_arguments;
  }
    where
      lists : (rs : List (Listed KitOperation KitBlock Blocks)) → map block_list (map (λ (bs : Listed KitOperation KitBlock Blocks). thin kit g bs) rs) ≡ map (map (thin_body g)) (map block_list rs)
      lists [] = refl
      lists (bs ∷ rs) = λ i. blocks_thin g bs i ∷ lists rs i

  fresh_name : (u : KitTree) (a : KitAround) (j : ℕ) → Old g t u a j → rules.HasFreshName before a u → rules.HasFreshName after (thin_around g a j) (thin_tree g u)
  fresh_name u a j o fresh k other name less here named own =
      let xs = operation_list a.body.operations in
      let listed : slice_get (map (thin_tree g) (left (goes g) xs)) k ≡ Some other = sym (ap (λ l. slice_get l k) (operations_thin g a.body.operations)) ∙ here in
      let taken : slice_get (map (thin_tree g) (left (goes g) (take a.index xs))) k ≡ Some other =
      sym (ap (λ l. slice_get l k) o.before) ∙ get_take (map (thin_tree g) (left (goes g) xs)) j k other less listed in
      let x = origin (goes g) (thin_tree g) (take a.index xs) k other taken in
      let at = from_take xs a.index x.index x.it x.here in
      fresh x.index x.it name at.0 at.1
      (sym (symbol_same leads old new g x.it) ∙ (ap (symbol_name after) x.is ∙ named))
      (sym (symbol_same leads old new g u) ∙ own)

  pub rule_module : (s : KitSite) → Came g t s → rules.ModuleHolds after s
  rule_module _ at_root =
      let r : rules.ModuleHolds before (record { op = t; around = None }) = root_keeps rule.ModuleHolds in
      record { body = λ e. module_body t (r.body e); kinds = λ a h. absurd (none_some a h.0); names = λ a h. absurd (none_some a h.0) }
  rule_module _ (below u a j o) =
      let r : rules.ModuleHolds before (record { op = u; around = Some a }) = keeps u a j o rule.ModuleHolds in
      record {
        body = λ e. module_body u (r.body e);
        kinds = λ b h. r.kinds a (refl, subst (λ (z : KitAround). kind_of after z.owner ≡ ops.Module) (sym (some_same (thin_around g a j) b h.0)) h.1);
        names = λ b h. subst (λ (z : KitAround). rules.HasFreshName after z (thin_tree g u)) (some_same (thin_around g a j) b h.0)
            (fresh_name u a j o (r.names a (refl, subst (λ (z : KitAround). kind_of after z.owner ≡ ops.Module) (sym (some_same (thin_around g a j) b h.0)) h.1)));
      }

  pub rule_holds : (s : KitSite) → Came g t s → rules.FunctionHolds after s
  rule_holds _ at_root = λ a h. absurd (none_some a h.0)
  rule_holds _ (below u a j o) = λ b h.
      let r : rules.FunctionHolds before (record { op = u; around = Some a }) = keeps u a j o rule.FunctionHolds in
      let q = r a (refl, subst (λ (z : KitAround). kind_of after z.owner ≡ ops.Func) (sym (some_same (thin_around g a j) b h.0)) h.1) in
      (q.0, regions_thin g u.regions ∙ ap (map (λ (bs : Listed KitOperation KitBlock Blocks). thin kit g bs)) q.1)

  -- ---- values

  arguments_types : (P : TypeHandle → Type 0) (body : KitBody) → Every P (types_of body.label.arguments) → Every P (types_of (thin_body g body).label.arguments)
  arguments_types P body h k ty e =
      let p : ℕ → Bool = λ i. gone_at g (slice_get body.label.arguments i) in
      let d = map_at (λ (d : Defined Value TypeHandle). d.holds) (drop p body.label.arguments) k ty e in
      let x = dropped_at p body.label.arguments k d.0 d.1 in
      h x.index ty (map_get (λ (d : Defined Value TypeHandle). d.holds) body.label.arguments x.index d.0 x.here ∙ ap Some d.2)

  value_types : (u : KitTree) → Every (λ (b : KitBody). Every (IsValueType before) (types_of b.label.arguments)) (bodies_of u) →
      Every (λ (b : KitBody). Every (IsValueType after) (types_of b.label.arguments)) (bodies_of (thin_tree g u))
  value_types u h k b e =
      let x = map_at (thin_body g) (bodies_of u) k b (sym (ap (λ l. slice_get l k) (bodies_thin g u)) ∙ e) in
      subst (λ (z : KitBody). Every (IsValueType after) (types_of z.label.arguments)) x.2 (arguments_types (IsValueType after) x.0 (h k x.0 x.1))

  pub rule_values : (s : KitSite) → Came g t s → rules.ValuesAreIntegers after s
  rule_values _ at_root =
      let r : rules.ValuesAreIntegers before (record { op = t; around = None }) = root_keeps rule.ValuesAreIntegers in
      record { results = r.results; arguments = value_types t r.arguments }
  rule_values _ (below u a j o) =
      let r : rules.ValuesAreIntegers before (record { op = u; around = Some a }) = keeps u a j o rule.ValuesAreIntegers in
      record { results = r.results; arguments = value_types u r.arguments }

  -- ---- ends of blocks

  filled : (s : KitSite) (outer : List KitTree) → Standing t s outer → (kind_of before s.op ≡ ops.Func → Every (λ (b : KitBody). operation_list b.operations ≢ []) (bodies_of s.op)) →
      kind_of after (thin_tree g s.op) ≡ ops.Func → Every (λ (b : KitBody). operation_list b.operations ≢ []) (bodies_of (thin_tree g s.op))
  filled s outer up h is_func k b e none =
      let x = map_at (thin_body g) (bodies_of s.op) k b (sym (ap (λ l. slice_get l k) (bodies_thin g s.op)) ∙ e) in
      let body : KitBody = x.0 in
      let at = body_at s.op body (has_at_index (bodies_of s.op) k body x.1) in
      let last = last_stays s outer up is_func at.region at.number at.blocks body at.region_here at.block_here in
      let empty : map (thin_tree g) (left (goes g) (operation_list body.operations)) ≡ [] =
      sym (operations_thin g body.operations) ∙ (ap (λ (z : KitBody). operation_list z.operations) x.2 ∙ none) in
      let count : length (map (thin_tree g) (left (goes g) (operation_list body.operations))) ≡ 0 = ap length empty in
      let was : 1 ≡ length (operation_list body.operations) + 1 = left_none (goes g) (thin_tree g) (operation_list body.operations) last (omega (arith, count)) in
      h is_func k body x.1 (is_empty (operation_list body.operations) (omega (arith, was)))
    where
      is_empty : {X : Type 0} (xs : List X) → length xs ≡ 0 → xs ≡ []
      is_empty [] q = refl
      is_empty (x ∷ xs) q = absurd (omega (arith, q))

  pub rule_ends : (s : KitSite) → Came g t s → rules.BlocksEnd after s
  rule_ends _ at_root =
      let r : rules.BlocksEnd before (record { op = t; around = None }) = root_keeps rule.BlocksEnd in
      record { last = λ a h. absurd (none_some a h.0); none_empty = filled (record { op = t; around = None }) [] (stands_root t) r.none_empty }
  rule_ends _ (below u a j o) =
      let r : rules.BlocksEnd before (record { op = u; around = Some a }) = keeps u a j o rule.BlocksEnd in
      let up : KitSite = record { op = a.owner; around = o.up_around } in
      let c = child_of t up a.outer o.up o.region a.number a.index a.blocks a.body u o.region_here o.block_here o.here in
      let many : length (operation_list (thin kit g a.body.operations)) ≡ length (map (thin_tree g) (left (goes g) (operation_list a.body.operations))) = ap length (operations_thin g a.body.operations) in
      record {
        last = λ b h.
            let is_func : kind_of before a.owner ≡ ops.Func = subst (λ (z : KitAround). kind_of after z.owner ≡ ops.Func) (sym (some_same (thin_around g a j) b h.0)) h.1 in
            let q = r.last a (refl, is_func) in
            subst (λ (z : KitAround). (is_terminator (kind_of after (thin_tree g u)) ≡ true) ↔ (z.index + 1 ≡ length (operation_list z.body.operations))) (some_same (thin_around g a j) b h.0)
            (λ e. o.last (q.0 e) ∙ sym many, λ e. q.1 (o.end (last_stays up a.outer o.up is_func o.region a.number a.blocks a.body o.region_here o.block_here) (e ∙ many)));
        none_empty = filled (record { op = u; around = Some a }) (a.owner ∷ a.outer) c.standing r.none_empty;
      }
