-- A pruned tree hands on along its edges what the blocks there take.
use Rattle.std.proofs.Common.{◌≡◌, ℕ, zero, suc, ◌+◌, ◌-◌, ◌<◌, false, List, [], ◌∷◌, ◌++◌, map, length, Option, Some}
use Rattle.std.proofs.Common.{None, slice_get, refl, sym, ap, ◌∙◌, subst, arith}
use Rattle.std.specs.Prelude.{min}
use Rattle.ir_base.specs.declared.types.TypeHandle.{TypeHandle}
use Rattle.ir_program.specs.declared.handles.BasicBlock.{BasicBlock}
use Rattle.ir_program.specs.declared.handles.Ptr.{Ptr}
use Rattle.ir_program.specs.declared.handles.Value.{Value}
use Rattle.ir_trees.specs.Searched.{Lists}
use Rattle.kit.specs.Context.{KitTree}
use Rattle.kit.specs.Meaning.{kit, first_size, forwards_of, range}
use Rattle.kit_checks.specs.KitWorld.{HasDeclaredTypes, kit_world}
use Rattle.kit_checks.specs.Rules as rules
use Rattle.kit_checks.specs.Sites.{block_list}
use Rattle.kit_checks.specs.Words.{is_branch, along_edge, segment, segment_sizes, sizes_or_none}
use Rattle.kit_checks.specs.declared.rule.Rule.TheVariants as rule
use Rattle.kit_ops.specs.declared.attributes.KitAttr.{KitAttr}
use Rattle.kit_ops.specs.declared.kinds.KitOp.TheVariants as ops
use Rattle.kit_ops.specs.declared.types.KitType.{KitType}
use Rattle.kit_pass_rules.specs.Laws.{IsGood}
use Rattle.kit_pass_rules.proofs.DceCame.{KitAround, KitSite}
use Rattle.kit_pass_rules.proofs.Left.{left, has_left_over}
use Rattle.kit_pass_rules.proofs.Lists.{has_at_index, index_of_has}
use Rattle.kit_pass_rules.proofs.Segments.{condition_of, first_segment, second_segment, first_is}
use Rattle.kit_pass_rules.proofs.Thin.{KitBody}
use Rattle.kit_pass_rules.proofs.Walk.{block_here}
use Rattle.kit_pass_rules.proofs.pruning.PrunedTrees.{Pruning, prune, prune_tree, prune_body, goes, blocks_pruned}
use Rattle.kit_pass_rules.proofs.pruning.PrunedSites.{MayPrune, prune_around, Was, Came, at_root, below}
use Rattle.kit_pass_rules.proofs.pruning.PrunedKinds.{pruned_by, by_taken, picked_has, along_has, map_on}
use Rattle.kit_pass_rules.proofs.pruning.PlacementRules.{root_site, root_keeps, site_in, child, keeps, operand_same}
use Rattle.opt_trees.specs.Facts.{forwarded}
use Rattle.opt_trees.specs.Occurrences.{Has, cons_if, picks}
use Rattle.opt_trees.proofs.Lists.{some_same, none_some}

get_front : {X : Type 0} (xs ys : List X) (i : ℕ) (x : X) → slice_get xs i ≡ Some x → slice_get (xs ++ ys) i ≡ Some x
get_front [] ys i x e = absurd (none_some x e)
get_front (y ∷ xs) ys zero x e = e
get_front (y ∷ xs) ys (suc i) x e = get_front xs ys i x e

get_back : {X : Type 0} (xs ys : List X) (i j : ℕ) (x : X) → j ≡ length xs + i → slice_get ys i ≡ Some x →
    slice_get (xs ++ ys) j ≡ Some x
get_back [] ys i j x q e = let z : j ≡ i = omega (arith, q) in ap (slice_get ys) z ∙ e
get_back (y ∷ xs) ys i zero x q e = absurd (omega (arith, q))
get_back (y ∷ xs) ys i (suc j) x q e = get_back xs ys i j x (omega (arith, q)) e

-- what is picked from an index on
picked_run : {X : Type 0} (xs ys : List X) (s : ℕ) →
    ((p i : ℕ) (v : X) → slice_get ys p ≡ Some v → i ≡ s + p → slice_get xs i ≡ Some v) →
    picks xs (range s (length ys)) ≡ ys
picked_run xs [] s h = refl
picked_run xs (y ∷ ys) s h =
    ap (λ o. cons_if o (picks xs (range (suc s) (length ys)))) (h 0 s y refl (omega arith))
    ∙ ap (λ l. y ∷ l) (picked_run xs ys (suc s) (λ p i v e q. h (suc p) i v e (omega (arith, q))))

-- the one successor that is left
one_left : {X : Type 0} (o : Option X) (k : ℕ) (x : X) → slice_get (cons_if o []) k ≡ Some x → o ≡ Some x
one_left None k x e = absurd (none_some x e)
one_left (Some y) zero x e = e
one_left (Some y) (suc k) x e = absurd (none_some x e)

-- what a conditional branch forwards along an edge are the operands of the edge
module _ (leads : TypeHandle → Option KitType) (old : Value → Option TypeHandle) (u : KitTree)
    (is : u.head.content.kind ≡ ops.CondBr) (h : rules.HasSegments (kit_world leads old) u) where
  abbrev attributes_of : List (List ℕ × KitAttr)
  attributes_of = u.head.content.notes.attributes

  by_kind : (i : ℕ) → forwarded kit u.head i ≡ picks u.head.operands
      (forwards_of ops.CondBr (first_size attributes_of) (length u.head.operands) i)
  by_kind i = ap (λ k. picks u.head.operands (forwards_of k (first_size attributes_of) (length u.head.operands) i)) is

  pub forwarded_is : (i : ℕ) → i < 2 → forwarded kit u.head i ≡ segment u.head.operands
      (sizes_or_none (segment_sizes (kit_world leads old) u)) (suc i)
  forwarded_is i below_two =
      let first : ℕ = h.2.0 in
      let second : ℕ = h.2.1 in
      let count : length u.head.operands ≡ 1 + first + second = h.2.3 in
      let c = condition_of u.head.operands first second count in
      let was : sizes_or_none (segment_sizes (kit_world leads old) u) ≡ 1 ∷ first ∷ second ∷ [] =
      ap sizes_or_none h.1 ∙ h.2.2 in
      let size : first_size attributes_of ≡ first = first_is attributes_of first second h.0 h.1 h.2.2 in
      let fc : length c.first ≡ first = c.first_count in
      let sc : length c.second ≡ second = c.second_count in
      step first second count c.condition c.first c.second c.is fc sc was size i below_two
    where
      step : (first second : ℕ) → length u.head.operands ≡ 1 + first + second → (x : Value) (fs ss : List Value) →
          u.head.operands ≡ x ∷ (fs ++ ss) → length fs ≡ first → length ss ≡ second →
          sizes_or_none (segment_sizes (kit_world leads old) u) ≡ 1 ∷ first ∷ second ∷ [] →
          first_size attributes_of ≡ first → (i : ℕ) → i < 2 →
          forwarded kit u.head i ≡ segment u.head.operands (sizes_or_none (segment_sizes (kit_world leads old) u))
          (suc i)
      step first second count x fs ss parts fc sc was size zero less =
          let m : min first (length u.head.operands - 1) ≡ length fs = omega (arith, count, fc) in
          by_kind 0
          ∙ (ap (λ f. picks u.head.operands (range 1 (min f (length u.head.operands - 1)))) size
          ∙ (ap (λ n. picks u.head.operands (range 1 n)) m
          ∙ (picked_run u.head.operands fs 1 (λ p i v e q.
          ap (λ l. slice_get l i) parts ∙ get_back (x ∷ []) (fs ++ ss) p i v (omega (arith, q)) (get_front fs ss p v e))
          ∙ sym ((λ j. segment (parts j) (was j) 1) ∙ first_segment x fs ss first second fc sc))))
      step first second count x fs ss parts fc sc was size (suc zero) less =
          let m : length u.head.operands - (1 + first) ≡ length ss = omega (arith, count, sc) in
          by_kind 1
          ∙ (ap (λ f. picks u.head.operands (range (1 + f) (length u.head.operands - (1 + f)))) size
          ∙ (ap (λ n. picks u.head.operands (range (1 + first) n)) m
          ∙ (picked_run u.head.operands ss (1 + first) (λ p i v e q.
          ap (λ l. slice_get l i) parts ∙ get_back (x ∷ fs) ss p i v (omega (arith, q, fc)) e)
          ∙ sym ((λ j. segment (parts j) (was j) 2) ∙ second_segment x fs ss first second fc sc))))
      step first second count x fs ss parts fc sc was size (suc (suc i)) less = absurd (omega (arith, less))

module _ (leads : TypeHandle → Option KitType) (old new : Value → Option TypeHandle) (g : Pruning) (t : KitTree)
    (good : IsGood leads old t) (may : MayPrune g t)
    (typed : HasDeclaredTypes new (prune_tree g t)) (u : KitTree) (a : KitAround) (n : ℕ) (o : Was g t may u a n) where
  same_types : (xs : List Value) → ((v : Value) → Has v xs → Has v u.head.operands) → map new xs ≡ map old xs
  same_types xs h = map_on new old xs (λ v i. operand_same leads old new g t good may typed u a n o v (h v i))

  -- what a block that stays leads to stays
  target_here : (target : KitBody) → Lists (block_list a.blocks) target → Has target.label.name u.head.successors →
      Lists (block_list (prune g a.blocks)) (prune_body g target)
  target_here target l h =
      let c = child leads old new g t good may u a n o in
      let x = block_here t (record { op = a.owner; around = o.up_around }) a.outer o.up o.region l.0 a.blocks target
      o.region_here l.1 in
      let stays : goes g target ≡ false = may.targets c.spot x.spot a.body target u c.block c.here x.block
      (x.owner ∙ sym c.owner) o.stays h in
      let has : Has (prune_body g target) (map (prune_body g) (left (goes g) (block_list a.blocks))) =
      has_left_over (goes g) (prune_body g) (block_list a.blocks) target
      (has_at_index (block_list a.blocks) l.0 target l.1) stays in
      index_of_has (block_list (prune g a.blocks)) (prune_body g target)
      (subst (Has (prune_body g target)) (sym (blocks_pruned g a.blocks)) has)

  edge_before : (edge : ℕ) (target : Ptr BasicBlock) → slice_get u.head.successors edge ≡ Some target →
      rules.EdgeLeadsTo (kit_world leads old) u a edge target
  edge_before edge target e =
      let r : rules.EdgesFit (kit_world leads old) (site_in leads old new g t good may u a) =
      keeps leads old new g t good may u a n o rule.EdgesFit in
      let x = r edge target e in
      subst (λ (z : KitAround). rules.EdgeLeadsTo (kit_world leads old) u z edge target) (sym (some_same a x.0 x.1)) x.2

  named_has : (edge : ℕ) (target name : Ptr BasicBlock) → name ≡ target →
      slice_get u.head.successors edge ≡ Some target → Has name u.head.successors
  named_has edge target name q e = has_at_index u.head.successors edge name (e ∙ ap Some (sym q))

  -- rule 9
  edges : rules.EdgesFit (kit_world leads new) (record { op = prune_tree g u; around = Some (prune_around g a n) })
  edges = by_taken g u (λ q. rules.EdgesFit (kit_world leads new)
      (record { op = pruned_by g u q; around = Some (prune_around g a n) }))
      (λ edge target e.
      let h = edge_before edge target e in (
        prune_around g a n,
        refl,
        record {
          body = prune_body g h.body;
          here = target_here h.body h.here (named_has edge target h.body.label.name h.named e);
          named = h.named;
          operands = λ is.
              let sizes : List ℕ = sizes_or_none (segment_sizes (kit_world leads old) u) in
              same_types (along_edge u.head.content.kind sizes u.head.operands edge)
              (along_has u.head.content.kind sizes u.head.operands edge) ∙ h.operands is;
        },
      ))
      (λ i q edge target e.
      let was : u.head.content.kind ≡ ops.CondBr = may.conditional u.head u.regions i q in
      let from : slice_get u.head.successors i ≡ Some target = one_left (slice_get u.head.successors i) edge target e in
      let h = edge_before i target from in
      let fits : rules.FitsKind (kit_world leads old) u ops.CondBr = subst (rules.FitsKind (kit_world leads old) u)
      was (keeps leads old new g t good may u a n o rule.FitsFormat) in
      let sizes : List ℕ = sizes_or_none (segment_sizes (kit_world leads old) u) in (
        prune_around g a n,
        refl,
        record {
          body = prune_body g h.body;
          here = target_here h.body h.here (named_has i target h.body.label.name h.named from);
          named = h.named;
          operands = λ is.
              same_types (forwarded kit u.head i)
              (picked_has u.head.operands (kit.forwards u.head.content (length u.head.operands) i))
              ∙ (ap (map old) (forwarded_is leads old u was fits.1 i (may.one_of_two u.head u.regions i q))
              ∙ (ap (λ k. map old (along_edge k sizes u.head.operands i)) (sym was) ∙ h.operands (ap is_branch was)));
        },
      ))

module _ (leads : TypeHandle → Option KitType) (old new : Value → Option TypeHandle) (g : Pruning) (t : KitTree)
    (good : IsGood leads old t) (may : MayPrune g t) where
  pub rule_edges : HasDeclaredTypes new (prune_tree g t) → (s : KitSite) → Came g t may s →
      rules.EdgesFit (kit_world leads new) s
  rule_edges typed _ at_root =
      by_taken g t (λ q. rules.EdgesFit (kit_world leads new) (record { op = pruned_by g t q; around = None }))
      (λ edge target e. nothing edge target e)
      (λ i q edge target e. nothing i target (one_left (slice_get t.head.successors i) edge target e))
    where
      nothing : {P : Type 0} (edge : ℕ) (target : Ptr BasicBlock) → slice_get t.head.successors edge ≡ Some target → P
      nothing edge target e =
          let r : rules.EdgesFit (kit_world leads old) (root_site leads old new g t good may) =
          root_keeps leads old new g t good may rule.EdgesFit in
          let x = r edge target e in absurd (none_some x.0 x.1)
  rule_edges typed _ (below u a n o) = edges leads old new g t good may typed u a n o
