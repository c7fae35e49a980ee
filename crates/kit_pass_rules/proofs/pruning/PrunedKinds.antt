-- What a pruned operation is: what it was, or, of a conditional branch that takes one edge, an unconditional branch.
use Rattle.std.proofs.Common.{◌≡◌, ◌⊎◌, ⊎_elim, inl, inr, ℕ, zero, suc, true, List, [], ◌∷◌, map, take, drop, Option}
use Rattle.std.proofs.Common.{Some, None, slice_get, refl, sym, ap, ◌∙◌, subst}
use Rattle.ir_base.specs.declared.types.TypeHandle.{TypeHandle}
use Rattle.ir_program.specs.declared.handles.Value.{Value}
use Rattle.kit.specs.Context.{KitTree}
use Rattle.kit_checks.specs.KitWorld.{kit_world}
use Rattle.kit_checks.specs.Words.{Every, bodies_of, is_terminator, is_module, symbol_name, segment, along_edge}
use Rattle.kit_ops.specs.declared.kinds.KitOp.{KitOp}
use Rattle.kit_ops.specs.declared.kinds.KitOp.TheVariants as ops
use Rattle.kit_ops.specs.declared.types.KitType.{KitType}
use Rattle.kit_pass_rules.proofs.Left.{origin}
use Rattle.kit_pass_rules.proofs.Lists.{has_at_index, map_same}
use Rattle.kit_pass_rules.proofs.Thin.{KitBody}
use Rattle.kit_pass_rules.proofs.pruning.PrunedTrees.{KitHead, Pruning, content_by, operands_by, head_by, prune}
use Rattle.kit_pass_rules.proofs.pruning.PrunedTrees.{prune_tree}
use Rattle.kit_pass_rules.proofs.pruning.PrunedTrees.{prune_body, goes, bodies_pruned}
use Rattle.kit_pass_rules.proofs.pruning.PrunedSites.{MayPrune}
use Rattle.opt_trees.specs.Occurrences.{Has, cons_if, picks}
use Rattle.opt_trees.proofs.Lists.{none_some}

-- what is picked of a list is of the list
get_has : {X : Type 0} (xs : List X) (i : ℕ) (o : Option X) (v : X) → slice_get xs i ≡ o → Has v (cons_if o []) →
    Has v xs
get_has xs i None v e h = absurd h
get_has xs i (Some y) v e h = ⊎_elim (λ q. subst (λ z. Has z xs) (sym q) (has_at_index xs i y e)) (λ n. absurd n) h

cons_has : {X : Type 0} (o : Option X) (ys : List X) (v : X) → Has v (cons_if o ys) → Has v (cons_if o []) ⊎ Has v ys
cons_has None ys v h = inr h
cons_has (Some y) ys v h = ⊎_elim (λ q. inl (inl q)) (λ r. inr r) h

pub picked_has : {X : Type 0} (xs : List X) (is : List ℕ) (v : X) → Has v (picks xs is) → Has v xs
picked_has xs [] v h = absurd h
picked_has xs (i ∷ is) v h = ⊎_elim (get_has xs i (slice_get xs i) v refl) (picked_has xs is v)
    (cons_has (slice_get xs i) (picks xs is) v h)

take_has : {X : Type 0} (n : ℕ) (xs : List X) (v : X) → Has v (take n xs) → Has v xs
take_has zero xs v h = absurd h
take_has (suc n) [] v h = absurd h
take_has (suc n) (x ∷ xs) v h = ⊎_elim (λ q. inl q) (λ r. inr (take_has n xs v r)) h

drop_has : {X : Type 0} (n : ℕ) (xs : List X) (v : X) → Has v (drop n xs) → Has v xs
drop_has zero xs v h = h
drop_has (suc n) [] v h = h
drop_has (suc n) (x ∷ xs) v h = inr (drop_has n xs v h)

segment_has : {X : Type 0} (xs : List X) (sizes : List ℕ) (i : ℕ) (v : X) → Has v (segment xs sizes i) → Has v xs
segment_has xs [] i v h = absurd h
segment_has xs (n ∷ sizes) zero v h = take_has n xs v h
segment_has xs (n ∷ sizes) (suc i) v h = drop_has n xs v (segment_has (drop n xs) sizes i v h)

pub along_has : (k : KitOp) (sizes : List ℕ) (xs : List Value) (i : ℕ) (v : Value) → Has v (along_edge k sizes xs i) →
    Has v xs
along_has ops.Br sizes xs i v h = h
along_has ops.CondBr sizes xs i v h = segment_has xs sizes (suc i) v h
along_has k sizes xs i v h = absurd h

pub operands_has : (q : Option ℕ) (h : KitHead) (v : Value) → Has v (operands_by q h) → Has v h.operands
operands_has None h v i = i
operands_has (Some e) h v i = picked_has h.operands _ v i

-- what has one type before and after
pub map_on : {X Y : Type 0} (f k : X → Y) (xs : List X) → ((x : X) → Has x xs → f x ≡ k x) → map f xs ≡ map k xs
map_on f k xs h = map_same f k xs (λ i x e. h x (has_at_index xs i x e))

pub is_module_kind : (k : KitOp) → is_module k ≡ true → k ≡ ops.Module
is_module_kind ops.Module e = refl
is_module_kind k e = absurd (cc e)

module _ (g : Pruning) where
  -- the operation where it takes the edge, or none
  abbrev pub pruned_by : KitTree → Option ℕ → KitTree
  pruned_by u q = record { head = head_by (g.names u.head.name) q u.head; regions = prune g u.regions }

  -- what holds of the blocks in it holds of those that stay
  pub every_body : (P : KitBody → Type 0) → ((b : KitBody) → P b → P (prune_body g b)) → (u : KitTree) →
      Every P (bodies_of u) → Every P (bodies_of (prune_tree g u))
  every_body P f u h k b e =
      let o = origin (goes g) (prune_body g) (bodies_of u) k b (sym (ap (λ l. slice_get l k) (bodies_pruned g u))
      ∙ e) in
      subst P o.is (f o.it (h o.index o.it o.here))

  pub by_taken : (u : KitTree) (P : Option ℕ → Type 0) → P None → ((i : ℕ) → g.taken u.head u.regions ≡ Some i →
      P (Some i)) → P (g.taken u.head u.regions)
  by_taken u P none some = step (g.taken u.head u.regions) refl
    where
      step : (q : Option ℕ) → g.taken u.head u.regions ≡ q → P q
      step None e = none
      step (Some i) e = some i e

  -- an operation of a kind other than `br` is what it was
  pub none_now : (u : KitTree) (k : KitOp) → (prune_tree g u).head.content.kind ≡ k → (ops.Br ≡ k → ⊥) →
      g.taken u.head u.regions ≡ None
  none_now u k e other = step (g.taken u.head u.regions) e
    where
      step : (q : Option ℕ) → (content_by q u.head).kind ≡ k → q ≡ None
      step None e = refl
      step (Some i) e = absurd (other e)

  pub kind_before : (u : KitTree) (k : KitOp) → (prune_tree g u).head.content.kind ≡ k → (ops.Br ≡ k → ⊥) →
      u.head.content.kind ≡ k
  kind_before u k e other = ap (λ q. (content_by q u.head).kind) (sym (none_now u k e other)) ∙ e

  module _ (t : KitTree) (may : MayPrune g t) where
    -- and one that was of a kind other than `cond_br`
    pub none_then : (u : KitTree) (k : KitOp) → u.head.content.kind ≡ k → (k ≡ ops.CondBr → ⊥) →
        g.taken u.head u.regions ≡ None
    none_then u k e other = by_taken u (λ q. q ≡ None) refl
        (λ i q. absurd (other (sym e ∙ may.conditional u.head u.regions i q)))

    pub terminator_same : (u : KitTree) → is_terminator (prune_tree g u).head.content.kind ≡ is_terminator
        u.head.content.kind
    terminator_same u = by_taken u (λ q. is_terminator (content_by q u.head).kind ≡ is_terminator u.head.content.kind)
        refl
        (λ i q. sym (ap is_terminator (may.conditional u.head u.regions i q)))

    pub module_same : (u : KitTree) → is_module (prune_tree g u).head.content.kind ≡ is_module u.head.content.kind
    module_same u = by_taken u (λ q. is_module (content_by q u.head).kind ≡ is_module u.head.content.kind) refl
        (λ i q. sym (ap is_module (may.conditional u.head u.regions i q)))

  pub symbol_before : (leads : TypeHandle → Option KitType) (old new : Value → Option TypeHandle) (u : KitTree)
      (name : List ℕ) →
      symbol_name (kit_world leads new) (prune_tree g u) ≡ Some name → symbol_name (kit_world leads old) u ≡ Some name
  symbol_before leads old new u name e = step (g.taken u.head u.regions) e
    where
      step : (q : Option ℕ) → symbol_name (kit_world leads new) (pruned_by u q) ≡ Some name →
          symbol_name (kit_world leads old) u ≡ Some name
      step None e = e
      step (Some i) e = absurd (none_some name e)
