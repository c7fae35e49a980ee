-- Trees in which branches are decided.
use Rattle.std.proofs.Common.{◌≡◌, ℕ, ◌<◌, Bool, true, false, List, [], map, Option, Some, None, refl, sym, ap, ◌∙◌}
use Rattle.std.proofs.Common.{subst, arith}
use Rattle.std.specs.Prelude.{◌&&◌, not, if◌then◌else◌, nat_eq}
use Rattle.ir_base.specs.declared.types.TypeHandle.{TypeHandle}
use Rattle.ir_program.specs.declared.handles.Operation.{Operation}
use Rattle.ir_program.specs.declared.handles.Ptr.{Ptr}
use Rattle.ir_program.specs.declared.handles.Value.{Value}
use Rattle.ir_trees.specs.Renames.{KeepsApart, rename_head, rename, rename_root}
use Rattle.ir_trees.specs.Searched.{operation_names}
use Rattle.ir_trees.specs.Stands.{by_handle}
use Rattle.ir_trees.specs.Trees.{Sort, Regions, end, operation, block, region}
use Rattle.kit.specs.Context.{KitTree}
use Rattle.kit.specs.Meaning.{KitOperation, KitBlock, kit, operation_of, edge_of, picked_by, condition, is_br}
use Rattle.kit_ops.specs.declared.attributes.IntegerAttr.{IntegerAttr}
use Rattle.kit_ops.specs.declared.kinds.KitOp.{KitOp}
use Rattle.kit_ops.specs.declared.kinds.KitOp.TheVariants as ops
use Rattle.kit_ops.specs.declared.types.KitType.{KitType}
use Rattle.kit_pass_rules.specs.Laws.{IsGood, DecidedKeepsRules}
use Rattle.kit_pass_rules.specs.Names.{maps_of}
use Rattle.kit_pass_rules.proofs.Walk.{OccurrenceOf, BlockOf}
use Rattle.kit_pass_rules.specs.CutLaws.{DecidedInPlaceStaysGood, DecidedStaysGood}
use Rattle.kit_pass_rules.proofs.phases.CarriedTrees.{Carries, keeps_from, good_from}
use Rattle.kit_pass_rules.proofs.pruning.PrunedTrees.{KitHead, KitListed, Pruning, head_by, prune, prune_tree}
use Rattle.kit_pass_rules.proofs.pruning.PrunedSites.{MayPrune}
use Rattle.kit_pass_rules.proofs.pruning.PlacementRules.{root_none}
use Rattle.kit_pass_rules.proofs.phases.RenamedTrees.{name_listed, head_renamed, label_renamed, same_root}
use Rattle.opt_trees.specs.Dce.{TreeSurroundings}
use Rattle.opt_trees.specs.Occurrences.{Has, occurrences_of, block_occurrences_of, at_root, rename_occurrence}
use Rattle.opt_trees.specs.Occurrences.{rename_block_occurrence}
use Rattle.opt_trees.specs.Simplify.{is_bare, along_edge, decide_head, decide, decided}
use Rattle.opt_trees.proofs.Lists.{none_some, some_same, has-from_map}
use Rattle.opt_trees.proofs.Orderly.{decide_occurrence, decide_block, decided_operations, decided_blocks}
use Rattle.opt_trees.proofs.Trees.{operations_renamed, blocks_renamed}

-- the edge, if any, of an operation of a kind that a decision picks, where it is bare or not
abbrev decision_of : KitOp → Bool → List (Option IntegerAttr) → Option ℕ
decision_of k bare xs = if bare && not (is_br k) then edge_of k xs else None

decided_kind : (k : KitOp) (bare : Bool) (xs : List (Option IntegerAttr)) (i : ℕ) → decision_of k bare xs ≡ Some i →
    k ≡ ops.CondBr
decided_kind ops.CondBr bare xs i e = refl
decided_kind ops.Br true xs i e = absurd (none_some i e)
decided_kind ops.Br false xs i e = absurd (none_some i e)
decided_kind k true xs i e = absurd (none_some i e)
decided_kind k false xs i e = absurd (none_some i e)

picked_below : (a : Option IntegerAttr) (i : ℕ) → picked_by a ≡ Some i → i < 2
picked_below None i e = absurd (none_some i e)
picked_below (Some a) i e = step (nat_eq a.bits 1) e
  where
    step : (b : Bool) → Some (if b then 0 else 1) ≡ Some i → i < 2
    step true e = let z : 0 ≡ i = some_same 0 i e in omega (arith, z)
    step false e = let z : 1 ≡ i = some_same 1 i e in omega (arith, z)

decided_below : (k : KitOp) (bare : Bool) (xs : List (Option IntegerAttr)) (i : ℕ) → decision_of k bare xs ≡ Some i →
    i < 2
decided_below ops.CondBr true xs i e = picked_below (condition xs) i e
decided_below ops.CondBr false xs i e = absurd (none_some i e)
decided_below ops.Br true xs i e = absurd (none_some i e)
decided_below ops.Br false xs i e = absurd (none_some i e)
decided_below k true xs i e = absurd (none_some i e)
decided_below k false xs i e = absurd (none_some i e)

module _ (alone : Value → Option IntegerAttr) (names : Ptr Operation → Ptr Operation) where
  abbrev decision : KitHead → KitListed Regions → Option ℕ
  decision h rs = decision_of h.content.kind (is_bare kit h rs) (map alone h.operands)

  abbrev decisions : Pruning
  decisions = record { names = names; taken = decision; gone = λ b. false }

  may_decide : (t : KitTree) → MayPrune decisions t
  may_decide t = record {
    conditional = λ h rs i e. decided_kind h.content.kind (is_bare kit h rs) (map alone h.operands) i e;
    one_of_two = λ h rs i e. decided_below h.content.kind (is_bare kit h rs) (map alone h.operands) i e;
    entries = λ x h f. refl;
    modules = λ x h m. refl;
    targets = λ c e body target u hc hu he same stays has. refl;
  }

  head_is : (h : KitHead) (rs : KitListed Regions) → rename_head (maps_of names) (decide_head kit alone h rs)
      ≡ head_by (names h.name) (decision h rs) h
  head_is h rs = step (is_bare kit h rs && not (is_br h.content.kind))
    where
      along : (q : Option ℕ) → rename_head (maps_of names) (along_edge kit h q (Some (operation_of ops.Br [])))
          ≡ head_by (names h.name) q h
      along None = head_renamed names h
      along (Some i) = head_renamed names (head_by h.name (Some i) h)

      step : (b : Bool) → rename_head (maps_of names)
          (if b then along_edge kit h (edge_of h.content.kind (map alone h.operands)) (Some (operation_of ops.Br []))
          else h)
          ≡ head_by (names h.name) (if b then edge_of h.content.kind (map alone h.operands) else None) h
      step true = along (edge_of h.content.kind (map alone h.operands))
      step false = head_renamed names h

  tree_is : {s : Sort} (x : KitListed s) → rename (maps_of names) (decide kit alone x) ≡ prune decisions x
  tree_is end = refl
  tree_is (operation h rs rest) = λ i. operation (head_is h rs i) (tree_is rs i) (tree_is rest i)
  tree_is (block l os rest) = λ i. block (label_renamed names l i) (tree_is os i) (tree_is rest i)
  tree_is (region bs rest) = λ i. region (tree_is bs i) (tree_is rest i)

  root_is : (t : KitTree) → decision t.head t.regions ≡ None →
      rename_root (maps_of names) (record { head = t.head; regions = decide kit alone t.regions })
      ≡ prune_tree decisions t
  root_is t none = λ i. record { head = root_head i; regions = tree_is t.regions i }
    where
      root_head : rename_head (maps_of names) t.head ≡ head_by (names t.head.name) (decision t.head t.regions) t.head
      root_head = head_renamed names t.head ∙ ap (λ q. head_by (names t.head.name) q t.head) (sym none)

module _ (w : TreeSurroundings by_handle IntegerAttr) (names : Ptr Operation → Ptr Operation) (t : KitTree) where
  abbrev made : OccurrenceOf KitOperation KitBlock → OccurrenceOf KitOperation KitBlock
  made o = rename_occurrence (maps_of names) (decide_occurrence kit w.alone o)

  abbrev block_made : BlockOf KitOperation KitBlock → BlockOf KitOperation KitBlock
  block_made x = rename_block_occurrence (maps_of names) (decide_block kit w.alone x)

  carries : KeepsApart names (operation_names t) → Carries t (rename_root (maps_of names) (decided kit w t))
  carries apart = record {
    made = made;
    block_made = block_made;
    operations = λ p h.
        let a = has-from_map (rename_occurrence (maps_of names)) p (occurrences_of (decided kit w t))
        (subst (Has p) (operations_renamed (maps_of names) (decided kit w t)) h) in
        let b = has-from_map (decide_occurrence kit w.alone) a.it (occurrences_of t)
        (subst (Has a.it) (decided_operations kit w.alone t.regions (at_root t)) a.stands) in
        record { it = b.it; stands = b.stands; is = ap (rename_occurrence (maps_of names)) b.is ∙ a.is };
    blocks = λ y h.
        let a = has-from_map (rename_block_occurrence (maps_of names)) y (block_occurrences_of (decided kit w t))
        (subst (Has y) (blocks_renamed (maps_of names) (decided kit w t)) h) in
        let b = has-from_map (decide_block kit w.alone) a.it (block_occurrences_of t)
        (subst (Has a.it) (decided_blocks kit w.alone t.regions (at_root t)) a.stands) in
        record { it = b.it; stands = b.stands; is = ap (rename_block_occurrence (maps_of names)) b.is ∙ a.is };
    names = λ o p ho hp e. apart o.head.name p.head.name (name_listed t o ho) (name_listed t p hp)
        (sym (ap (λ (h : KitHead). h.name) (head_is w.alone names o.head o.regions))
        ∙ (e ∙ ap (λ (h : KitHead). h.name) (head_is w.alone names p.head p.regions)));
    results = λ o. ap (λ (h : KitHead). h.results) (head_is w.alone names o.head o.regions);
    labels = λ x. label_renamed names x.label;
  }

module _ (w : TreeSurroundings by_handle IntegerAttr) (leads : TypeHandle → Option KitType)
    (names : Ptr Operation → Ptr Operation) (typed : Value → Option TypeHandle) (t : KitTree)
    (good : IsGood leads typed t) where
  is_pruned : rename_root (maps_of names) (decided kit w t) ≡ prune_tree (decisions w.alone names) t
  is_pruned = root_is w.alone names t
      (root_none leads typed typed (decisions w.alone names) t good (may_decide w.alone names t))

pub decided_keeps : DecidedKeepsRules
decided_keeps = λ w leads old new t after good named typed.
    let names = named.2 in
    keeps_from leads (decisions w.alone names) t (may_decide w.alone names t) after
    (named.3 ∙ (ap (rename_root (maps_of names)) named.1 ∙ is_pruned w leads names old t good)) old new good typed

pub decided_good : DecidedStaysGood
decided_good = λ w leads typed t after good named.
    let names = named.2 in
    let is : after ≡ rename_root (maps_of names) (decided kit w t) =
    named.4 ∙ ap (rename_root (maps_of names)) named.1 in
    good_from leads (decisions w.alone names) t (may_decide w.alone names t) after
    (is ∙ is_pruned w leads names typed t good) typed good
    (subst (Carries t) (sym is) (carries w names t named.3))

pub decided_in_place_good : DecidedInPlaceStaysGood
decided_in_place_good = λ w leads typed t after good is. decided_good w leads typed t after good
    (decided kit w t, refl, (λ o. o), (λ o p ho hp e. e), is ∙ sym (same_root (decided kit w t)))
