-- What an operation that stays names stays, is visible where it was, and has its type.
use Rattle.std.proofs.Common.{◌≡◌, ⊎_elim, inl, ℕ, Bool, true, false, cond, List, [], map, take, Option, Some, None, slice_get, refl, sym, ap, ◌∙◌, subst}
use Rattle.std.specs.Prelude.{◌==◌}
use Rattle.ir_base.specs.declared.types.TypeHandle.{TypeHandle}
use Rattle.ir_program.specs.declared.handles.Ptr.{Ptr}
use Rattle.ir_program.specs.declared.handles.Operation.{Operation}
use Rattle.ir_program.specs.declared.handles.Value.{Value}
use Rattle.ir_trees.specs.Stands.{by_handle}
use Rattle.ir_trees.specs.Trees.{Defined}
use Rattle.kit.specs.Context.{KitTree}
use Rattle.kit.specs.Meaning.{KitOperation, KitBlock, kit}
use Rattle.kit_checks.specs.KitWorld.{HasDeclaredTypes}
use Rattle.kit_checks.specs.Sites.{operation_list, block_list}
use Rattle.kit_checks.specs.Words.{values_of, results_of, values_before, values_in, values_if, first_body, visible}
use Rattle.kit_checks.proofs.Passed.{from_joined, in_joined}
use Rattle.kit_ops.specs.declared.attributes.IntegerAttr.{IntegerAttr}
use Rattle.kit_ops.specs.declared.types.KitType.{KitType}
use Rattle.kit_pass_rules.specs.Laws.{IsGood}
use Rattle.kit_pass_rules.proofs.DceCame.{KitAround, thin_around, Old}
use Rattle.kit_pass_rules.proofs.Left.{left, origin, has_left_over}
use Rattle.kit_pass_rules.proofs.Lists.{map_get, map_at, from_take, has_at_index, index_of_has}
use Rattle.kit_pass_rules.proofs.Thin.{KitBody, thin_tree, thin_body, goes, blocks_thin, operations_thin, dropped_at, has_dropped}
use Rattle.kit_pass_rules.proofs.Walk.{OccurrenceOf, block_of, within, occurrence_of, child_of, block_here}
use Rattle.opt_trees.specs.Dialect.{drop}
use Rattle.opt_trees.specs.Dce.{TreeSurroundings, Item, Whole, Slot, May, IsUseOfItem, IsDead, dies, IsExcused, by_operation, by_argument, Gone, IsGoneExactly, gone_at, thin}
use Rattle.opt_trees.specs.Occurrences.{Has, Use, occurrences_of}
use Rattle.opt_trees.proofs.Lists.{some_same, none_some, has-map}
use Rattle.opt_trees.proofs.NoneDead.{true_false, has-append, has-left, has-right}

pub if_not : (b : Bool) → (b ≡ true → ⊥) → b ≡ false
if_not true h = absurd (h refl)
if_not false h = refl

module _ (w : TreeSurroundings by_handle IntegerAttr) (t : KitTree) where
  excuse : (x : Item by_handle) → IsDead kit w t x → (v : Value) (o : OccurrenceOf KitOperation KitBlock) (i : ℕ) →
      IsUseOfItem t x v o → Use t v o i → IsExcused kit w t o i
  excuse _ (dies x may kept uses) = uses

  pub may_of : (x : Item by_handle) → IsDead kit w t x → May kit t x
  may_of _ (dies x may kept uses) = may

  module _ (g : Gone by_handle) (is_gone : IsGoneExactly kit w t g) where
    no_excuse : (o : OccurrenceOf KitOperation KitBlock) (i : ℕ) → Has o (occurrences_of t) → g.item (Whole o.head.name) ≡ false →
        ((z : Ptr Operation) → Has z o.site.spot.around → g.item (Whole z) ≡ false) → g.operand o.head.name i ≡ false → IsExcused kit w t o i → ⊥
    no_excuse _ _ h stays kept lost (by_operation o i a has dead) =
        true_false (g.item (Whole a)) (is_gone.all (Whole a) dead) (⊎_elim (λ q. subst (λ n. g.item (Whole n) ≡ false) (sym q) stays) (kept a) has)
    no_excuse _ _ h stays kept lost (by_argument o i v forwards dead) =
        true_false (g.operand o.head.name i) (is_gone.all_lost o.head.name i (record { user = o; stands = h; name = refl; argument = v; forwards = forwards; dead = dead })) lost

    -- what an operation that stays names by an operand that stays
    pub record Named (v : Value) : Type 0 where
      pub user : OccurrenceOf KitOperation KitBlock
      pub index : ℕ
      pub use_of : Use t v user index
      pub stays : g.item (Whole user.head.name) ≡ false
      pub kept : (z : Ptr Operation) → Has z user.site.spot.around → g.item (Whole z) ≡ false
      pub operand : g.operand user.head.name index ≡ false

    pub result_stays : (v : Value) → Named v → (x : OccurrenceOf KitOperation KitBlock) → Has x (occurrences_of t) →
        Has v (values_of x.head.results) → g.item (Whole x.head.name) ≡ false
    result_stays v n x h has = if_not (g.item (Whole x.head.name))
        (λ q. no_excuse n.user n.index n.use_of.stands n.stays n.kept n.operand
        (excuse (Whole x.head.name) (is_gone.dead (Whole x.head.name) q) v n.user n.index (record { it = x; stands = h; name = refl; value = inl has }) n.use_of))

    pub argument_stays : (v : Value) → Named v → g.item (Slot v) ≡ false
    argument_stays v n = if_not (g.item (Slot v))
        (λ q. no_excuse n.user n.index n.use_of.stands n.stays n.kept n.operand
        (excuse (Slot v) (is_gone.dead (Slot v) q) v n.user n.index refl n.use_of))

    -- the values of a block that are named are left
    pub arguments_left : (v : Value) → Named v → (body : KitBody) → Has v (values_of body.label.arguments) → Has v (values_of (thin_body g body).label.arguments)
    arguments_left v n body h =
        let i = index_of_has (values_of body.label.arguments) v h in
        let d = map_at (λ (d : Defined Value TypeHandle). d.name) body.label.arguments i.0 v i.1 in
        let stays : gone_at g (slice_get body.label.arguments i.0) ≡ false = ap (gone_at g) d.1 ∙ (ap (λ z. g.item (Slot z)) d.2 ∙ argument_stays v n) in
        subst (λ z. Has z (values_of (thin_body g body).label.arguments)) d.2
        (has-map (λ (d : Defined Value TypeHandle). d.name) d.0 (drop (λ i. gone_at g (slice_get body.label.arguments i)) body.label.arguments)
        (has_dropped (λ i. gone_at g (slice_get body.label.arguments i)) body.label.arguments d.0 i.0 d.1 stays))

    module _ (u : KitTree) (a : KitAround) (j : ℕ) (o : Old g t u a j) where
      -- an operation of a block around stays, where its result is named
      member_stays : (v : Value) → Named v → (b : ℕ) (body : KitBody) → slice_get (block_list a.blocks) b ≡ Some body →
          (k : ℕ) (x : KitTree) → slice_get (operation_list body.operations) k ≡ Some x → Has v (values_of x.head.results) → goes g x ≡ false
      member_stays v n b body hb k x hk has =
          let c = child_of t (record { op = a.owner; around = o.up_around }) a.outer o.up o.region b k a.blocks body x o.region_here hb hk in
          result_stays v n (occurrence_of (within c.spot body) x) c.here has

      own_results : (v : Value) → Named v → Has v (results_of (take a.index (operation_list a.body.operations))) →
          Has v (results_of (take j (operation_list (thin kit g a.body.operations))))
      own_results v n h =
          let ops = operation_list a.body.operations in
          let x = from_joined (λ (z : KitTree). values_of z.head.results) (take a.index ops) v h in
          let i = index_of_has (take a.index ops) x.0 x.1 in
          let at = from_take ops a.index i.0 x.0 i.1 in
          let stays = member_stays v n a.number a.body o.block_here i.0 x.0 at.1 x.2 in
          let is_left : Has (thin_tree g x.0) (map (thin_tree g) (left (goes g) (take a.index ops))) = has_left_over (goes g) (thin_tree g) (take a.index ops) x.0 x.1 stays in
          let there : Has (thin_tree g x.0) (take j (operation_list (thin kit g a.body.operations))) =
          subst (λ l. Has (thin_tree g x.0) (take j l)) (sym (operations_thin g a.body.operations)) (subst (Has (thin_tree g x.0)) (sym o.before) is_left) in
          in_joined (λ (z : KitTree). values_of z.head.results) (take j (operation_list (thin kit g a.body.operations))) (thin_tree g x.0) v there x.2

      all_results : (v : Value) → Named v → (b : ℕ) (body : KitBody) → slice_get (block_list a.blocks) b ≡ Some body →
          Has v (results_of (operation_list body.operations)) → Has v (results_of (operation_list (thin kit g body.operations)))
      all_results v n b body hb h =
          let ops = operation_list body.operations in
          let x = from_joined (λ (z : KitTree). values_of z.head.results) ops v h in
          let i = index_of_has ops x.0 x.1 in
          let stays = member_stays v n b body hb i.0 x.0 i.1 x.2 in
          let there : Has (thin_tree g x.0) (operation_list (thin kit g body.operations)) =
          subst (Has (thin_tree g x.0)) (sym (operations_thin g body.operations)) (has_left_over (goes g) (thin_tree g) ops x.0 x.1 stays) in
          in_joined (λ (z : KitTree). values_of z.head.results) (operation_list (thin kit g body.operations)) (thin_tree g x.0) v there x.2

      entry_left : (v : Value) → Named v → (e : Option KitBody) (f : Option KitBody) → slice_get (block_list a.blocks) 0 ≡ e → slice_get (block_list (thin kit g a.blocks)) 0 ≡ f →
          Has v (values_if e) → Has v (values_if f)
      entry_left v n None f he hf h = absurd h
      entry_left v n (Some e) f he hf h =
          let there : slice_get (block_list (thin kit g a.blocks)) 0 ≡ Some (thin_body g e) = ap (λ l. slice_get l 0) (blocks_thin g a.blocks) ∙ map_get (thin_body g) (block_list a.blocks) 0 e he in
          subst (λ z. Has v (values_if z)) (sym there ∙ hf)
          (⊎_elim
          (λ x. has-left v (values_of (thin_body g e).label.arguments) (results_of (operation_list (thin kit g e.operations))) (arguments_left v n e x))
          (λ x. has-right v (values_of (thin_body g e).label.arguments) (results_of (operation_list (thin kit g e.operations))) (all_results v n 0 e he x))
          (has-append v (values_of e.label.arguments) (results_of (operation_list e.operations)) h))

      if_entry : (b : Bool) (v : Value) (xs ys : List Value) → (Has v xs → Has v ys) → Has v (cond b [] xs) → Has v (cond b [] ys)
      if_entry true v xs ys f h = absurd h
      if_entry false v xs ys f h = f h

      pub visible_left : (v : Value) → Named v → Has v (visible a) → Has v (visible (thin_around g a j))
      visible_left v n h = ⊎_elim
          (λ x. has-left v (values_before (thin_body g a.body) j) (cond (a.number == 0) [] (values_if (first_body (thin kit g a.blocks))))
          (⊎_elim
          (λ y. has-left v (values_of (thin_body g a.body).label.arguments) (results_of (take j (operation_list (thin kit g a.body.operations)))) (arguments_left v n a.body y))
          (λ y. has-right v (values_of (thin_body g a.body).label.arguments) (results_of (take j (operation_list (thin kit g a.body.operations)))) (own_results v n y))
          (has-append v (values_of a.body.label.arguments) (results_of (take a.index (operation_list a.body.operations))) x)))
          (λ x. has-right v (values_before (thin_body g a.body) j) (cond (a.number == 0) [] (values_if (first_body (thin kit g a.blocks))))
          (if_entry (a.number == 0) v (values_if (first_body a.blocks)) (values_if (first_body (thin kit g a.blocks)))
          (entry_left v n (first_body a.blocks) (first_body (thin kit g a.blocks)) refl refl) x))
          (has-append v (values_before a.body a.index) (cond (a.number == 0) [] (values_if (first_body a.blocks))) h)

      -- the operands of the operation itself
      pub names : (i : ℕ) (v : Value) → slice_get u.head.operands i ≡ Some v → g.operand u.head.name i ≡ false → Named v
      names i v e q =
          let c = child_of t (record { op = a.owner; around = o.up_around }) a.outer o.up o.region a.number a.index a.blocks a.body u o.region_here o.block_here o.here in
          record {
            user = occurrence_of (within c.spot a.body) u;
            index = i;
            use_of = record { stands = c.here; operand = e };
            stays = o.stays;
            kept = λ z h. o.kept z (subst (Has z) c.around h);
            operand = q;
          }

-- ---- types

module _ (leads : TypeHandle → Option KitType) (old new : Value → Option TypeHandle) (t : KitTree) (good : IsGood leads old t)
    (g : Gone by_handle) (typed : HasDeclaredTypes new (thin_tree g t)) (u : KitTree) (a : KitAround) (j : ℕ) (o : Old g t u a j) where
  arguments_same : (b : ℕ) (body : KitBody) → slice_get (block_list a.blocks) b ≡ Some body → (v : Value) →
      Has v (values_of (thin_body g body).label.arguments) → new v ≡ old v
  arguments_same b body hb v h =
      let picks : ℕ → Bool = λ i. gone_at g (slice_get body.label.arguments i) in
      let i = index_of_has (values_of (thin_body g body).label.arguments) v h in
      let d = map_at (λ (d : Defined Value TypeHandle). d.name) (drop picks body.label.arguments) i.0 v i.1 in
      let was = dropped_at picks body.label.arguments i.0 d.0 d.1 in
      let there : slice_get (block_list (thin kit g a.blocks)) b ≡ Some (thin_body g body) = ap (λ l. slice_get l b) (blocks_thin g a.blocks) ∙ map_get (thin_body g) (block_list a.blocks) b body hb in
      let x = block_here t (record { op = a.owner; around = o.up_around }) a.outer o.up o.region b a.blocks body o.region_here hb in
      let y = block_here (thin_tree g t) (record { op = thin_tree g a.owner; around = o.new_around }) (map (thin_tree g) a.outer) o.new_up o.region b (thin kit g a.blocks) (thin_body g body) o.new_region_here there in
      let before : old d.0.name ≡ Some d.0.holds = good.typed_in.arguments (block_of x.spot body) x.block d.0 (has_at_index body.label.arguments was.index d.0 was.here) in
      let after : new d.0.name ≡ Some d.0.holds = typed.arguments (block_of y.spot (thin_body g body)) y.block d.0 (has_at_index (drop picks body.label.arguments) i.0 d.0 d.1) in
      subst (λ z. new z ≡ old z) d.2 (after ∙ sym before)

  results_same : (b : ℕ) (body : KitBody) → slice_get (block_list a.blocks) b ≡ Some body → (k : ℕ) (x : KitTree) →
      slice_get (operation_list (thin kit g body.operations)) k ≡ Some x → (v : Value) → Has v (values_of x.head.results) → new v ≡ old v
  results_same b body hb k x hk v h =
      let there : slice_get (block_list (thin kit g a.blocks)) b ≡ Some (thin_body g body) = ap (λ l. slice_get l b) (blocks_thin g a.blocks) ∙ map_get (thin_body g) (block_list a.blocks) b body hb in
      let was = origin (goes g) (thin_tree g) (operation_list body.operations) k x (sym (ap (λ l. slice_get l k) (operations_thin g body.operations)) ∙ hk) in
      let c = child_of t (record { op = a.owner; around = o.up_around }) a.outer o.up o.region b was.index a.blocks body was.it o.region_here hb was.here in
      let e = child_of (thin_tree g t) (record { op = thin_tree g a.owner; around = o.new_around }) (map (thin_tree g) a.outer) o.new_up o.region b k (thin kit g a.blocks) (thin_body g body) x o.new_region_here there hk in
      let results : was.it.head.results ≡ x.head.results = ap (λ (z : KitTree). z.head.results) was.is in
      let i = index_of_has (values_of x.head.results) v h in
      let d = map_at (λ (d : Defined Value TypeHandle). d.name) x.head.results i.0 v i.1 in
      let has : Has d.0 x.head.results = has_at_index x.head.results i.0 d.0 d.1 in
      let before : old d.0.name ≡ Some d.0.holds = good.typed_in.results (occurrence_of (within c.spot body) was.it) c.here d.0 (subst (Has d.0) (sym results) has) in
      let after : new d.0.name ≡ Some d.0.holds = typed.results (occurrence_of (within e.spot (thin_body g body)) x) e.here d.0 has in
      subst (λ z. new z ≡ old z) d.2 (after ∙ sym before)

  listed_same : (b : ℕ) (body : KitBody) → slice_get (block_list a.blocks) b ≡ Some body → (v : Value) →
      Has v (results_of (operation_list (thin kit g body.operations))) → new v ≡ old v
  listed_same b body hb v h =
      let x = from_joined (λ (z : KitTree). values_of z.head.results) (operation_list (thin kit g body.operations)) v h in
      let i = index_of_has (operation_list (thin kit g body.operations)) x.0 x.1 in
      results_same b body hb i.0 x.0 i.1 v x.2

  taken_same : (v : Value) → Has v (results_of (take j (operation_list (thin kit g a.body.operations)))) → new v ≡ old v
  taken_same v h =
      let ops = operation_list (thin kit g a.body.operations) in
      let x = from_joined (λ (z : KitTree). values_of z.head.results) (take j ops) v h in
      let i = index_of_has (take j ops) x.0 x.1 in
      let at = from_take ops j i.0 x.0 i.1 in
      results_same a.number a.body o.block_here i.0 x.0 at.1 v x.2

  entry_same : (v : Value) (e f : Option KitBody) → slice_get (block_list a.blocks) 0 ≡ e → slice_get (block_list (thin kit g a.blocks)) 0 ≡ f →
      Has v (values_if f) → new v ≡ old v
  entry_same v e None he hf h = absurd h
  entry_same v None (Some f) he hf h =
      let none = map_at (thin_body g) (block_list a.blocks) 0 f (sym (ap (λ l. slice_get l 0) (blocks_thin g a.blocks)) ∙ hf) in
      absurd (none_some none.0 (sym he ∙ none.1))
  entry_same v (Some e) (Some f) he hf h =
      let there : slice_get (block_list (thin kit g a.blocks)) 0 ≡ Some (thin_body g e) = ap (λ l. slice_get l 0) (blocks_thin g a.blocks) ∙ map_get (thin_body g) (block_list a.blocks) 0 e he in
      let same : f ≡ thin_body g e = some_same f (thin_body g e) (sym hf ∙ there) in
      ⊎_elim (arguments_same 0 e he v) (listed_same 0 e he v)
      (has-append v (values_of (thin_body g e).label.arguments) (results_of (operation_list (thin kit g e.operations))) (subst (λ z. Has v (values_in z)) same h))

  if_entry_same : (b : Bool) (v : Value) (xs : List Value) → (Has v xs → new v ≡ old v) → Has v (cond b [] xs) → new v ≡ old v
  if_entry_same true v xs f h = absurd h
  if_entry_same false v xs f h = f h

  pub visible_same : (v : Value) → Has v (visible (thin_around g a j)) → new v ≡ old v
  visible_same v h = ⊎_elim
      (λ x. ⊎_elim (arguments_same a.number a.body o.block_here v) (taken_same v)
      (has-append v (values_of (thin_body g a.body).label.arguments) (results_of (take j (operation_list (thin kit g a.body.operations)))) x))
      (λ x. if_entry_same (a.number == 0) v (values_if (first_body (thin kit g a.blocks))) (entry_same v (first_body a.blocks) (first_body (thin kit g a.blocks)) refl refl) x)
      (has-append v (values_before (thin_body g a.body) j) (cond (a.number == 0) [] (values_if (first_body (thin kit g a.blocks)))) h)
