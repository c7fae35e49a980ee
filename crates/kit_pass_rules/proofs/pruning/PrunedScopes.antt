-- What an operation of a pruned tree may name is what it might name before, and has the type that it had.
use Rattle.std.proofs.Common.{◌≡◌, ⊎_elim, ℕ, zero, suc, Bool, true, false, cond, List, [], ◌++◌, map, take, Option}
use Rattle.std.proofs.Common.{Some, None, option_map, slice_get, refl, sym, ap, ◌∙◌, subst, arith}
use Rattle.std.specs.Prelude.{◌==◌}
use Rattle.std.proofs.Math.Dec.{eqb-suc-zero}
use Rattle.std.proofs.lemmas.List.{take-map}
use Rattle.ir_base.specs.declared.types.TypeHandle.{TypeHandle}
use Rattle.ir_program.specs.declared.handles.Value.{Value}
use Rattle.ir_trees.specs.Trees.{Defined, Blocks}
use Rattle.kit.specs.Context.{KitTree}
use Rattle.kit_checks.specs.KitWorld.{HasDeclaredTypes}
use Rattle.kit_checks.specs.Sites.{operation_list, block_list}
use Rattle.kit_checks.specs.Words.{joined, values_of, results_of, values_before, values_in, values_if, first_body}
use Rattle.kit_checks.specs.Words.{visible}
use Rattle.kit_checks.proofs.Passed.{from_joined, in_joined}
use Rattle.kit_ops.specs.declared.types.KitType.{KitType}
use Rattle.kit_pass_rules.specs.Laws.{IsGood}
use Rattle.kit_pass_rules.proofs.DceCame.{KitAround}
use Rattle.kit_pass_rules.proofs.Lists.{map_get, map_at, from_take, has_at_index, index_of_has}
use Rattle.kit_pass_rules.proofs.Thin.{KitBody}
use Rattle.kit_pass_rules.proofs.Walk.{block_of, within, occurrence_of, child_of, block_here}
use Rattle.kit_pass_rules.proofs.pruning.PrunedTrees.{KitListed, Pruning, prune, prune_tree, prune_body, goes}
use Rattle.kit_pass_rules.proofs.pruning.PrunedTrees.{operations_pruned}
use Rattle.kit_pass_rules.proofs.pruning.PrunedTrees.{blocks_pruned, first_left}
use Rattle.kit_pass_rules.proofs.pruning.PrunedSites.{MayPrune, prune_around, entry_stays, Was}
use Rattle.opt_trees.specs.Occurrences.{Has}
use Rattle.opt_trees.proofs.Lists.{map-map}
use Rattle.opt_trees.proofs.NoneDead.{has-append}

same_test : (m n : ℕ) → (m ≡ 0 → n ≡ 0) → (n ≡ 0 → m ≡ 0) → (m == 0) ≡ (n == 0)
same_test zero n f g = ap (λ k. k == 0) (sym (f refl))
same_test (suc m) zero f g = absurd (let e : suc m ≡ 0 = g refl in omega (arith, e))
same_test (suc m) (suc n) f g = eqb-suc-zero m ∙ sym (eqb-suc-zero n)

module _ (g : Pruning) where
  results_pruned : (us : List KitTree) → results_of (map (prune_tree g) us) ≡ results_of us
  results_pruned us = ap joined (map-map (λ (u : KitTree). values_of u.head.results) (prune_tree g) us)

  pub taken_pruned : (body : KitBody) (k : ℕ) →
      results_of (take k (operation_list (prune g body.operations))) ≡ results_of
      (take k (operation_list body.operations))
  taken_pruned body k =
      ap (λ l. results_of (take k l)) (operations_pruned g body.operations)
      ∙ (ap results_of (take-map (prune_tree g) k (operation_list body.operations)) ∙ results_pruned
      (take k (operation_list body.operations)))

  listed_pruned : (body : KitBody) → results_of (operation_list (prune g body.operations)) ≡ results_of
      (operation_list body.operations)
  listed_pruned body = ap results_of (operations_pruned g body.operations) ∙ results_pruned
      (operation_list body.operations)

  values_pruned : (o : Option KitBody) → values_if (option_map (prune_body g) o) ≡ values_if o
  values_pruned None = refl
  values_pruned (Some body) = ap (λ l. values_of body.label.arguments ++ l) (listed_pruned body)

  pub first_pruned : (blocks : KitListed Blocks) → ((body : KitBody) → slice_get (block_list blocks) 0 ≡ Some body →
      goes g body ≡ false) →
      first_body (prune g blocks) ≡ option_map (prune_body g) (first_body blocks)
  first_pruned blocks h = ap (λ l. slice_get l 0) (blocks_pruned g blocks) ∙ first_left (goes g) (prune_body g)
      (block_list blocks) h

  module _ (t : KitTree) (may : MayPrune g t) (u : KitTree) (a : KitAround) (n : ℕ) (o : Was g t may u a n) where
    pub first_here : (body : KitBody) → slice_get (block_list a.blocks) 0 ≡ Some body → goes g body ≡ false
    first_here = entry_stays g t may (record { op = a.owner; around = o.up_around }) a.outer o.up o.region a.blocks
        o.region_here

    pub visible_pruned : visible (prune_around g a n) ≡ visible a
    visible_pruned = λ i.
        (values_of a.body.label.arguments ++ taken_pruned a.body a.index i)
        ++ cond (same_test n a.number o.was_entry o.is_entry i) []
        ((ap values_if (first_pruned a.blocks first_here) ∙ values_pruned (first_body a.blocks)) i)

-- ---- types

module _ (leads : TypeHandle → Option KitType) (old new : Value → Option TypeHandle) (g : Pruning) (t : KitTree)
    (good : IsGood leads old t)
    (may : MayPrune g t) (typed : HasDeclaredTypes new (prune_tree g t)) (u : KitTree) (a : KitAround) (n : ℕ)
    (o : Was g t may u a n) where
  module _ (b m : ℕ) (body : KitBody) (hb : slice_get (block_list a.blocks) b ≡ Some body)
      (new_hb : slice_get (block_list (prune g a.blocks)) m ≡ Some (prune_body g body)) where
    arguments_same : (v : Value) → Has v (values_of body.label.arguments) → new v ≡ old v
    arguments_same v h =
        let i = index_of_has (values_of body.label.arguments) v h in
        let d = map_at (λ (d : Defined Value TypeHandle). d.name) body.label.arguments i.0 v i.1 in
        let has : Has d.0 body.label.arguments = has_at_index body.label.arguments i.0 d.0 d.1 in
        let x = block_here t (record { op = a.owner; around = o.up_around }) a.outer o.up o.region b a.blocks body
        o.region_here hb in
        let y = block_here (prune_tree g t) (record { op = prune_tree g a.owner; around = o.new_around })
        (map (prune_tree g) a.outer) o.new_up o.region m (prune g a.blocks) (prune_body g body) o.new_region_here
        new_hb in
        let before : old d.0.name ≡ Some d.0.holds = good.typed_in.arguments (block_of x.spot body) x.block d.0 has in
        let after : new d.0.name ≡ Some d.0.holds = typed.arguments (block_of y.spot (prune_body g body))
        y.block d.0 has in
        subst (λ z. new z ≡ old z) d.2 (after ∙ sym before)

    results_same : (v : Value) → Has v (results_of (operation_list body.operations)) → new v ≡ old v
    results_same v h =
        let x = from_joined (λ (z : KitTree). values_of z.head.results) (operation_list body.operations) v h in
        let it : KitTree = x.0 in
        let k = index_of_has (operation_list body.operations) it x.1 in
        let new_hk : slice_get (operation_list (prune g body.operations)) k.0 ≡ Some (prune_tree g it) =
        ap (λ l. slice_get l k.0) (operations_pruned g body.operations) ∙ map_get (prune_tree g)
        (operation_list body.operations) k.0 it k.1 in
        let c = child_of t (record { op = a.owner; around = o.up_around }) a.outer o.up o.region b k.0 a.blocks body
        it o.region_here hb k.1 in
        let e = child_of (prune_tree g t) (record { op = prune_tree g a.owner; around = o.new_around })
        (map (prune_tree g) a.outer) o.new_up o.region m k.0 (prune g a.blocks) (prune_body g body)
        (prune_tree g it) o.new_region_here new_hb new_hk in
        let i = index_of_has (values_of it.head.results) v x.2 in
        let d = map_at (λ (d : Defined Value TypeHandle). d.name) it.head.results i.0 v i.1 in
        let has : Has d.0 it.head.results = has_at_index it.head.results i.0 d.0 d.1 in
        let before : old d.0.name ≡ Some d.0.holds = good.typed_in.results (occurrence_of (within c.spot body) it)
        c.here d.0 has in
        let after : new d.0.name ≡ Some d.0.holds = typed.results (occurrence_of (within e.spot (prune_body g body))
        (prune_tree g it)) e.here d.0 has in
        subst (λ z. new z ≡ old z) d.2 (after ∙ sym before)

    values_same : (v : Value) → Has v (values_in body) → new v ≡ old v
    values_same v h = ⊎_elim (arguments_same v) (results_same v) (has-append v (values_of body.label.arguments)
        (results_of (operation_list body.operations)) h)

    before_same : (k : ℕ) (v : Value) → Has v (values_before body k) → new v ≡ old v
    before_same k v h = ⊎_elim (arguments_same v)
        (λ r.
        let ops = operation_list body.operations in
        let x = from_joined (λ (z : KitTree). values_of z.head.results) (take k ops) v r in
        let i = index_of_has (take k ops) x.0 x.1 in
        let at = from_take ops k i.0 x.0 i.1 in
        results_same v (in_joined (λ (z : KitTree). values_of z.head.results) ops x.0 v
        (has_at_index ops i.0 x.0 at.1) x.2))
        (has-append v (values_of body.label.arguments) (results_of (take k (operation_list body.operations))) h)

  entry_same : (v : Value) (e : Option KitBody) → first_body a.blocks ≡ e → Has v (values_if e) → new v ≡ old v
  entry_same v None he h = absurd h
  entry_same v (Some e) he h =
      values_same 0 0 e he (first_pruned g a.blocks (first_here g t may u a n o) ∙ ap (option_map (prune_body g)) he)
      v h

  if_entry_same : (b : Bool) (v : Value) (xs : List Value) → (Has v xs → new v ≡ old v) → Has v (cond b [] xs) →
      new v ≡ old v
  if_entry_same true v xs f h = absurd h
  if_entry_same false v xs f h = f h

  pub visible_same : (v : Value) → Has v (visible a) → new v ≡ old v
  visible_same v h = ⊎_elim
      (before_same a.number n a.body o.block_here o.new_block_here a.index v)
      (if_entry_same (a.number == 0) v (values_if (first_body a.blocks)) (entry_same v (first_body a.blocks) refl))
      (has-append v (values_before a.body a.index) (cond (a.number == 0) [] (values_if (first_body a.blocks))) h)
