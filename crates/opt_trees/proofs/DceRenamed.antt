-- dce of a tree under other names.
use Rattle.std.proofs.Common.{◌≡◌, ⊎_elim, inl, inr, ℕ, suc, Bool, true, false, List, [], ◌∷◌, Option, Some, None, refl, sym, ap, ◌∙◌, subst}
use Rattle.std.specs.Prelude.{map, option_map, if◌then◌else◌}
use Rattle.std.specs.Prelude.{slice_get}
use Rattle.ir_trees.specs.Names.{Names, Contents}
use Rattle.ir_trees.specs.Renames.{Maps, rename_defined, rename_head, rename_label, rename, rename_root, names_of}
use Rattle.ir_trees.specs.Trees.{Defined, Head, Label, Sort, Tree, end, operation, block, region, Root}
use Rattle.opt_trees.specs.Occurrences.{Has, Occurrence, BlockOccurrence, occurrences_of, block_occurrences_of, defined_in, rename_occurrence, rename_block_occurrence, Renaming, maps}
use Rattle.opt_trees.specs.Dialect.{Dialect, drop}
use Rattle.opt_trees.specs.Dce.{TreeSurroundings, Item, Whole, Slot, May, Touches, IsKept, IsUseOfItem, ForwardsTo, IsDead, dies, IsExcused, by_operation, by_argument, IsLost, Gone, gone_at, thin_head, thin_label, thin, IsGoneExactly, IsDce, Agree}
use Rattle.opt_trees.proofs.Lists.{names-map, at-map, length-map, has-map, has-from_map, has-apart, apart, at-apart, at-to, from_some, Preimage}
use Rattle.opt_trees.proofs.Trees.{operations_renamed, blocks_renamed, values_renamed}

module _ {N M : Names} {S : Contents} (r : Renaming N M) (t : Root N S) where
  abbrev pub m : Maps N M
  m = maps r

  abbrev pub rt : Root M S
  rt = rename_root m t

  pub operation_to : (o : Occurrence N S) → Has o (occurrences_of t) → Has (rename_occurrence m o) (occurrences_of rt)
  operation_to o h = subst (Has (rename_occurrence m o)) (sym (operations_renamed m t)) (has-map (rename_occurrence m) o (occurrences_of t) h)

  pub operation_from : (p : Occurrence M S) → Has p (occurrences_of rt) → Preimage (rename_occurrence m) p (occurrences_of t)
  operation_from p h = has-from_map (rename_occurrence m) p (occurrences_of t) (subst (Has p) (operations_renamed m t) h)

  pub block_to : (x : BlockOccurrence N S) → Has x (block_occurrences_of t) → Has (rename_block_occurrence m x) (block_occurrences_of rt)
  block_to x h = subst (Has (rename_block_occurrence m x)) (sym (blocks_renamed m t)) (has-map (rename_block_occurrence m) x (block_occurrences_of t) h)

  pub block_from : (y : BlockOccurrence M S) → Has y (block_occurrences_of rt) → Preimage (rename_block_occurrence m) y (block_occurrences_of t)
  block_from y h = has-from_map (rename_block_occurrence m) y (block_occurrences_of t) (subst (Has y) (blocks_renamed m t) h)

  -- names of definitions
  pub name_to : (v : N.value) (vs : List (Defined N.value S.of_value)) → Has v (names_of vs) → Has (r.value.to v) (names_of (map (rename_defined r.value.to) vs))
  name_to v vs h = subst (Has (r.value.to v)) (sym (names-map r.value.to vs)) (has-map r.value.to v (names_of vs) h)

  pub name_from : (w : M.value) (vs : List (Defined N.value S.of_value)) → Has w (names_of (map (rename_defined r.value.to) vs)) → Preimage r.value.to w (names_of vs)
  name_from w vs h = has-from_map r.value.to w (names_of vs) (subst (Has w) (names-map r.value.to vs) h)

  pub value_to : {s : Sort} (v : N.value) (x : Tree N S s) → Has v (defined_in x) → Has (r.value.to v) (defined_in (rename m x))
  value_to v x h = subst (Has (r.value.to v)) (sym (values_renamed m x)) (has-map r.value.to v (defined_in x) h)

  pub value_from : {s : Sort} (w : M.value) (x : Tree N S s) → Has w (defined_in (rename m x)) → Preimage r.value.to w (defined_in x)
  value_from w x h = has-from_map r.value.to w (defined_in x) (subst (Has w) (values_renamed m x) h)

  -- the same value, once it is known to be one of the tree's
  pub same_name : (v : N.value) (vs : List (Defined N.value S.of_value)) → Has (r.value.to v) (names_of (map (rename_defined r.value.to) vs)) → Has v (names_of vs)
  same_name v vs h = let p = name_from (r.value.to v) vs h in subst (λ z. Has z (names_of vs)) (apart r.value p.it v p.is) p.stands

  pub same_value : {s : Sort} (v : N.value) (x : Tree N S s) → Has (r.value.to v) (defined_in (rename m x)) → Has v (defined_in x)
  same_value v x h = let p = value_from (r.value.to v) x h in subst (λ z. Has z (defined_in x)) (apart r.value p.it v p.is) p.stands

module _ {N M : Names} {S : Contents} {A : Type 0} (d : Dialect S A) (r : Renaming N M) (t : Root N S) (w : TreeSurroundings N A) (w' : TreeSurroundings M A) (agree : Agree r w w') where
  abbrev pub rename_item : Item N → Item M
  rename_item (Whole o) = Whole (r.operation.to o)
  rename_item (Slot v) = Slot (r.value.to v)

  -- an occurrence of the renamed tree by its origin
  abbrev At : (Occurrence N S → Type 0) → Occurrence M S → Type 0
  At P p = (o : Occurrence N S) × Has o (occurrences_of t) × (rename_occurrence (maps r) o ≡ p) × P o

  may_to : (x : Item N) → May d t x → May d (rt r t) (rename_item x)
  may_to (Whole a) p = record { it = rename_occurrence (m r t) p.it; stands = operation_to r t p.it p.stands; name = ap r.operation.to p.name; pure = p.pure; no_terminator = p.no_terminator }
  may_to (Slot v) p = record {
    it = rename_block_occurrence (m r t) p.it;
    stands = block_to r t p.it p.stands;
    argument = name_to r t v p.it.label.arguments p.argument;
    removable = p.removable;
    predecessors = λ o h k. let q = operation_from r t o h in
        ap (λ z. d.is_branch z.head.content) (sym q.is) ∙ p.predecessors q.it q.stands (has-apart r.block p.it.label.name q.it.head.successors (subst (λ z. Has (r.block.to p.it.label.name) z.head.successors) (sym q.is) k));
  }

  may_from : (x : Item N) → May d (rt r t) (rename_item x) → May d t x
  may_from (Whole a) p =
      let q = operation_from r t p.it p.stands in
      record { it = q.it; stands = q.stands; name = apart r.operation q.it.head.name a (ap (λ z. z.head.name) q.is ∙ p.name); pure = ap (λ z. d.has_effects z.head.content) q.is ∙ p.pure; no_terminator = ap (λ z. d.is_terminator z.head.content) q.is ∙ p.no_terminator }
  may_from (Slot v) p =
      let q = block_from r t p.it p.stands in
      record {
        it = q.it;
        stands = q.stands;
        argument = same_name r t v q.it.label.arguments (subst (λ z. Has (r.value.to v) (names_of z.label.arguments)) (sym q.is) p.argument);
        removable = ap (λ z. d.can_remove z.spot.owner.content z.spot.region z.spot.first) q.is ∙ p.removable;
        predecessors = λ o h k. p.predecessors (rename_occurrence (m r t) o) (operation_to r t o h) (subst (λ z. Has z.label.name (map r.block.to o.head.successors)) q.is (has-map r.block.to q.it.label.name o.head.successors k));
      }

  -- an item of the renamed tree is one of the tree
  item_from : (y : Item M) → May d (rt r t) y → (x : Item N) × (rename_item x ≡ y)
  item_from (Whole a) p = let q = operation_from r t p.it p.stands in (Whole q.it.head.name, ap Whole (ap (λ z. z.head.name) q.is ∙ p.name))
  item_from (Slot v) p = let q = block_from r t p.it p.stands in let u = name_from r t v q.it.label.arguments (subst (λ z. Has v (names_of z.label.arguments)) (sym q.is) p.argument) in (Slot u.it, ap Slot u.is)

  touches_to : (x : Item N) (v : N.value) → Touches t x v → Touches (rt r t) (rename_item x) (r.value.to v)
  touches_to (Whole a) v p = record { it = rename_occurrence (m r t) p.it; stands = operation_to r t p.it p.stands; name = ap r.operation.to p.name; value = ⊎_elim (λ z. inl (name_to r t v p.it.head.results z)) (λ z. inr (value_to r t v p.it.regions z)) p.value }
  touches_to (Slot x) v p = ap r.value.to p

  touches_from : (x : Item N) (u : M.value) → Touches (rt r t) (rename_item x) u → (v : N.value) × (r.value.to v ≡ u) × Touches t x v
  touches_from (Whole a) u p =
      let q = operation_from r t p.it p.stands in
      let named = apart r.operation q.it.head.name a (ap (λ z. z.head.name) q.is ∙ p.name) in
      ⊎_elim
      (λ z. let v = name_from r t u q.it.head.results (subst (λ y. Has u (names_of y.head.results)) (sym q.is) z) in (v.it, v.is, record { it = q.it; stands = q.stands; name = named; value = inl v.stands }))
      (λ z. let v = value_from r t u q.it.regions (subst (λ y. Has u (defined_in y.regions)) (sym q.is) z) in (v.it, v.is, record { it = q.it; stands = q.stands; name = named; value = inr v.stands })) p.value
  touches_from (Slot x) u p = (x, p, refl)

  kept_to : (x : Item N) → IsKept w t x → IsKept w' (rt r t) (rename_item x)
  kept_to x k = (r.value.to k.0, touches_to x k.0 k.1, ⊎_elim (λ z. inl (agree.pins k.0 ∙ z)) (λ z. inr (has-map r.value.to k.0 t.head.operands z)) k.2)

  kept_from : (x : Item N) → IsKept w' (rt r t) (rename_item x) → IsKept w t x
  kept_from x k =
      let p = touches_from x k.0 k.1 in
      (p.0, p.2, ⊎_elim (λ z. inl (sym (agree.pins p.0) ∙ ap w'.is_pinned p.1 ∙ z)) (λ z. inr (has-apart r.value p.0 t.head.operands (subst (λ y. Has y (map r.value.to t.head.operands)) (sym p.1) z))) k.2)

  is_use_to : (x : Item N) (v : N.value) (o : Occurrence N S) → IsUseOfItem t x v o → IsUseOfItem (rt r t) (rename_item x) (r.value.to v) (rename_occurrence (m r t) o)
  is_use_to (Whole a) v o p = record {
    it = rename_occurrence (m r t) p.it;
    stands = operation_to r t p.it p.stands;
    name = ap r.operation.to p.name;
    value = ⊎_elim (λ z. inl (name_to r t v p.it.head.results z)) (λ z. inr (value_to r t v p.it.regions z.0, λ h. z.1 (has-apart r.operation a o.site.spot.around h))) p.value;
  }
  is_use_to (Slot x) v o p = ap r.value.to p

  is_use_from : (x : Item N) (v : N.value) (o : Occurrence N S) → IsUseOfItem (rt r t) (rename_item x) (r.value.to v) (rename_occurrence (m r t) o) → IsUseOfItem t x v o
  is_use_from (Whole a) v o p =
      let q = operation_from r t p.it p.stands in
      record {
        it = q.it;
        stands = q.stands;
        name = apart r.operation q.it.head.name a (ap (λ z. z.head.name) q.is ∙ p.name);
        value = ⊎_elim
            (λ z. inl (same_name r t v q.it.head.results (subst (λ y. Has (r.value.to v) (names_of y.head.results)) (sym q.is) z)))
            (λ z. inr (same_value r t v q.it.regions (subst (λ y. Has (r.value.to v) (defined_in y.regions)) (sym q.is) z.0), λ h. z.1 (has-map r.operation.to a o.site.spot.around h))) p.value;
      }
  is_use_from (Slot x) v o p = apart r.value x v p

  forwards_to : (o : Occurrence N S) (i : ℕ) (v : N.value) → ForwardsTo d t o i v → ForwardsTo d (rt r t) (rename_occurrence (m r t) o) i (r.value.to v)
  forwards_to o i v f = record {
    branch = f.branch;
    edge = f.edge;
    target = rename_block_occurrence (m r t) f.target;
    stands = block_to r t f.target f.stands;
    leads = at-to r.block o.head.successors f.edge f.target.label.name f.leads;
    place = f.place;
    gives = ap (λ n. slice_get (d.forwards o.head.content n f.edge) f.place) (length-map r.value.to o.head.operands) ∙ f.gives;
    takes = ap (λ l. slice_get l f.place) (names-map r.value.to f.target.label.arguments) ∙ at-to r.value (names_of f.target.label.arguments) f.place v f.takes;
  }

  forwards_from : (o : Occurrence N S) (i : ℕ) (u : M.value) → ForwardsTo d (rt r t) (rename_occurrence (m r t) o) i u → (v : N.value) × (r.value.to v ≡ u) × ForwardsTo d t o i v
  forwards_from o i u f =
      let q = block_from r t f.target f.stands in
      let a = from_some r.value.to (slice_get (names_of q.it.label.arguments) f.place) u
      (sym (at-map r.value.to (names_of q.it.label.arguments) f.place) ∙ ap (λ l. slice_get l f.place) (sym (names-map r.value.to q.it.label.arguments)) ∙ ap (λ z. slice_get (names_of z.label.arguments) f.place) q.is ∙ f.takes) in (
        a.it,
        a.is,
        record {
          branch = f.branch;
          edge = f.edge;
          target = q.it;
          stands = q.stands;
          leads = at-apart r.block o.head.successors f.edge q.it.label.name (f.leads ∙ ap (λ z. Some z.label.name) (sym q.is));
          place = f.place;
          gives = ap (λ n. slice_get (d.forwards o.head.content n f.edge) f.place) (sym (length-map r.value.to o.head.operands)) ∙ f.gives;
          takes = a.some;
        },
      )

  mutual
    dead_to : (x : Item N) → IsDead d w t x → IsDead d w' (rt r t) (rename_item x)
    dead_to _ (dies x may kept uses) = dies (rename_item x) (may_to x may) (λ k. kept (kept_from x k)) (λ u p i c e.
        let q = operation_from r t p e.stands in
        let v = from_some r.value.to (slice_get q.it.head.operands i) u (sym (at-map r.value.to q.it.head.operands i) ∙ ap (λ z. slice_get z.head.operands i) q.is ∙ e.operand) in
        let c' = is_use_from x v.it q.it (subst (λ z. IsUseOfItem (rt r t) (rename_item x) z (rename_occurrence (m r t) q.it)) (sym v.is) (subst (IsUseOfItem (rt r t) (rename_item x) u) (sym q.is) c)) in
        subst (λ z. IsExcused d w' (rt r t) z i) q.is (excused_to q.it i (uses v.it q.it i c' (record { stands = q.stands; operand = v.some }))))

    excused_to : (o : Occurrence N S) (i : ℕ) → IsExcused d w t o i → IsExcused d w' (rt r t) (rename_occurrence (m r t) o) i
    excused_to _ _ (by_operation o i a h dead) = by_operation (rename_occurrence (m r t) o) i (r.operation.to a) (has-map r.operation.to a (o.head.name ∷ o.site.spot.around) h) (dead_to (Whole a) dead)
    excused_to _ _ (by_argument o i v f dead) = by_argument (rename_occurrence (m r t) o) i (r.value.to v) (forwards_to o i v f) (dead_to (Slot v) dead)

  mutual
    dead_from : (y : Item M) → IsDead d w' (rt r t) y → (x : Item N) → rename_item x ≡ y → IsDead d w t x
    dead_from _ (dies y may kept uses) x e = dies x (may_from x (subst (May d (rt r t)) (sym e) may)) (λ k. kept (subst (IsKept w' (rt r t)) e (kept_to x k))) (λ v o i c q.
        excused_from (rename_occurrence (m r t) o) i (uses (r.value.to v) (rename_occurrence (m r t) o) i (subst (λ z. IsUseOfItem (rt r t) z (r.value.to v) (rename_occurrence (m r t) o)) e (is_use_to x v o c)) (record { stands = operation_to r t o q.stands; operand = at-to r.value o.head.operands i v q.operand })) o refl)

    excused_from : (p : Occurrence M S) (i : ℕ) → IsExcused d w' (rt r t) p i → (o : Occurrence N S) → rename_occurrence (m r t) o ≡ p → IsExcused d w t o i
    excused_from _ _ (by_operation p i a h dead) o e =
        let q = has-from_map r.operation.to a (o.head.name ∷ o.site.spot.around) (subst (λ z. Has a (z.head.name ∷ z.site.spot.around)) (sym e) h) in
        by_operation o i q.it q.stands (dead_from (Whole a) dead (Whole q.it) (ap Whole q.is))
    excused_from _ _ (by_argument p i u f dead) o e =
        let q = forwards_from o i u (subst (λ z. ForwardsTo d (rt r t) z i u) (sym e) f) in
        by_argument o i q.0 q.2 (dead_from (Slot u) dead (Slot q.0) (ap Slot q.1))

  lost_to : (a : N.operation) (i : ℕ) → IsLost d w t a i → IsLost d w' (rt r t) (r.operation.to a) i
  lost_to a i l = record { user = rename_occurrence (m r t) l.user; stands = operation_to r t l.user l.stands; name = ap r.operation.to l.name; argument = r.value.to l.argument; forwards = forwards_to l.user i l.argument l.forwards; dead = dead_to (Slot l.argument) l.dead }

  lost_from : (b : M.operation) (i : ℕ) → IsLost d w' (rt r t) b i → (a : N.operation) × (r.operation.to a ≡ b) × IsLost d w t a i
  lost_from b i l =
      let q = operation_from r t l.user l.stands in
      let f = forwards_from q.it i l.argument (subst (λ z. ForwardsTo d (rt r t) z i l.argument) (sym q.is) l.forwards) in
      (q.it.head.name, ap (λ z. z.head.name) q.is ∙ l.name, record { user = q.it; stands = q.stands; name = refl; argument = f.0; forwards = f.2; dead = dead_from (Slot l.argument) l.dead (Slot f.0) (ap Slot f.1) })

  abbrev whole_gone : Gone N → Option N.operation → Bool
  whole_gone g None = false
  whole_gone g (Some o) = g.item (Whole o)

  abbrev slot_gone : Gone N → Option N.value → Bool
  slot_gone g None = false
  slot_gone g (Some v) = g.item (Slot v)

  abbrev item_gone : Gone N → Item M → Bool
  item_gone g (Whole o) = whole_gone g (r.operation.back o)
  item_gone g (Slot v) = slot_gone g (r.value.back v)

  abbrev operand_gone : Gone N → Option N.operation → ℕ → Bool
  operand_gone g None i = false
  operand_gone g (Some o) i = g.operand o i

  abbrev gone_pushed : Gone N → Gone M
  gone_pushed g = record { item = item_gone g; operand = λ o i. operand_gone g (r.operation.back o) i }

  no_true : false ≡ true → ⊥
  no_true e = cc e

  item_agrees : (g : Gone N) (x : Item N) → item_gone g (rename_item x) ≡ g.item x
  item_agrees g (Whole o) = ap (whole_gone g) (r.operation.there o)
  item_agrees g (Slot v) = ap (slot_gone g) (r.value.there v)

  operand_agrees : (g : Gone N) (a : N.operation) (i : ℕ) → (gone_pushed g).operand (r.operation.to a) i ≡ g.operand a i
  operand_agrees g a i = ap (λ q. operand_gone g q i) (r.operation.there a)

  module _ (g : Gone N) (is : IsGoneExactly d w t g) where
    pushed_dead : (y : Item M) → item_gone g y ≡ true → IsDead d w' (rt r t) y
    pushed_dead (Whole o) e = by_case (r.operation.back o) refl
      where
        by_case : (q : Option N.operation) → r.operation.back o ≡ q → IsDead d w' (rt r t) (Whole o)
        by_case None b = absurd (no_true (ap (whole_gone g) (sym b) ∙ e))
        by_case (Some a) b = subst (λ z. IsDead d w' (rt r t) (Whole z)) (r.operation.from o a b) (dead_to (Whole a) (is.dead (Whole a) (ap (whole_gone g) (sym b) ∙ e)))
    pushed_dead (Slot v) e = by_case (r.value.back v) refl
      where
        by_case : (q : Option N.value) → r.value.back v ≡ q → IsDead d w' (rt r t) (Slot v)
        by_case None b = absurd (no_true (ap (slot_gone g) (sym b) ∙ e))
        by_case (Some a) b = subst (λ z. IsDead d w' (rt r t) (Slot z)) (r.value.from v a b) (dead_to (Slot a) (is.dead (Slot a) (ap (slot_gone g) (sym b) ∙ e)))

    may_of : (y : Item M) → IsDead d w' (rt r t) y → May d (rt r t) y
    may_of _ (dies y may kept uses) = may

    pushed_all : (y : Item M) → IsDead d w' (rt r t) y → item_gone g y ≡ true
    pushed_all y h = let p = item_from y (may_of y h) in ap (item_gone g) (sym p.1) ∙ item_agrees g p.0 ∙ is.all p.0 (dead_from y h p.0 p.1)

    pushed_lost : (b : M.operation) (i : ℕ) → (gone_pushed g).operand b i ≡ true → IsLost d w' (rt r t) b i
    pushed_lost b i e = by_case (r.operation.back b) refl
      where
        by_case : (q : Option N.operation) → r.operation.back b ≡ q → IsLost d w' (rt r t) b i
        by_case None k = absurd (no_true (ap (λ z. operand_gone g z i) (sym k) ∙ e))
        by_case (Some a) k = subst (λ z. IsLost d w' (rt r t) z i) (r.operation.from b a k) (lost_to a i (is.lost a i (ap (λ z. operand_gone g z i) (sym k) ∙ e)))

    pushed_all_lost : (b : M.operation) (i : ℕ) → IsLost d w' (rt r t) b i → (gone_pushed g).operand b i ≡ true
    pushed_all_lost b i l = let p = lost_from b i l in ap (λ z. (gone_pushed g).operand z i) (sym p.1) ∙ operand_agrees g p.0 i ∙ is.all_lost p.0 i p.2

    pub gone_renamed : IsGoneExactly d w' (rt r t) (gone_pushed g)
    gone_renamed = record { dead = pushed_dead; all = pushed_all; lost = pushed_lost; all_lost = pushed_all_lost }

  drop_map : {X Y : Type 0} (f : X → Y) (p : ℕ → Bool) (xs : List X) → drop p (map f xs) ≡ map f (drop p xs)
  drop_map f p [] = refl
  drop_map f p (x ∷ xs) = by_test (p 0) (drop_map f (λ i. p (suc i)) xs)
    where
      by_test : (b : Bool) → drop (λ i. p (suc i)) (map f xs) ≡ map f (drop (λ i. p (suc i)) xs) → (if b then drop (λ i. p (suc i)) (map f xs) else f x ∷ drop (λ i. p (suc i)) (map f xs)) ≡ map f (if b then drop (λ i. p (suc i)) xs else x ∷ drop (λ i. p (suc i)) xs)
      by_test true e = e
      by_test false e = ap (λ l. f x ∷ l) e

  module _ (g : Gone N) where
    at_under : (vs : List (Defined N.value S.of_value)) → ◌≡◌ {A = ℕ → Bool} (λ i. gone_at {N = M} (gone_pushed g) (slice_get (map (rename_defined r.value.to) vs) i)) (λ i. gone_at g (slice_get vs i))
    at_under vs = λ j i. (ap (gone_at {N = M} (gone_pushed g)) (at-map (rename_defined r.value.to) vs i) ∙ one (slice_get vs i)) j
      where
        one : (q : Option (Defined N.value S.of_value)) → gone_at {N = M} (gone_pushed g) (option_map (rename_defined r.value.to) q) ≡ gone_at g q
        one None = refl
        one (Some v) = item_agrees g (Slot v.name)

    head_under : (h : Head N S) → thin_head {N = M} d (gone_pushed g) (rename_head (m r t) h) ≡ rename_head (m r t) (thin_head d g h)
    head_under h =
        let same : (gone_pushed g).operand (r.operation.to h.name) ≡ g.operand h.name = λ j i. operand_agrees g h.name i j in
        λ i. record { name = r.operation.to h.name; content = d.drop_operands h.content (same i); results = map (rename_defined r.value.to) h.results; operands = (ap (λ p. drop p (map r.value.to h.operands)) same ∙ drop_map r.value.to (g.operand h.name) h.operands) i; successors = map r.block.to h.successors }

    label_under : (l : Label N S) → thin_label {N = M} d (gone_pushed g) (rename_label (m r t) l) ≡ rename_label (m r t) (thin_label d g l)
    label_under l = λ i. record { name = r.block.to l.name; content = d.drop_names l.content (at_under l.arguments i); arguments = (ap (λ p. drop p (map (rename_defined r.value.to) l.arguments)) (at_under l.arguments) ∙ drop_map (rename_defined r.value.to) (λ i. gone_at g (slice_get l.arguments i)) l.arguments) i }

    thin_under : {s : Sort} (x : Tree N S s) → thin {N = M} d (gone_pushed g) (rename (m r t) x) ≡ rename (m r t) (thin d g x)
    thin_under end = refl
    thin_under (operation h rs rest) =
        ap (λ b. if b then thin {N = M} d (gone_pushed g) (rename (m r t) rest) else operation (thin_head {N = M} d (gone_pushed g) (rename_head (m r t) h)) (thin {N = M} d (gone_pushed g) (rename (m r t) rs)) (thin {N = M} d (gone_pushed g) (rename (m r t) rest))) (item_agrees g (Whole h.name))
        ∙ by_test (g.item (Whole h.name)) (thin_under rs) (thin_under rest)
      where
        by_test : (b : Bool) → thin {N = M} d (gone_pushed g) (rename (m r t) rs) ≡ rename (m r t) (thin d g rs) → thin {N = M} d (gone_pushed g) (rename (m r t) rest) ≡ rename (m r t) (thin d g rest) → (if b then thin {N = M} d (gone_pushed g) (rename (m r t) rest) else operation (thin_head {N = M} d (gone_pushed g) (rename_head (m r t) h)) (thin {N = M} d (gone_pushed g) (rename (m r t) rs)) (thin {N = M} d (gone_pushed g) (rename (m r t) rest))) ≡ rename (m r t) (if b then thin d g rest else operation (thin_head d g h) (thin d g rs) (thin d g rest))
        by_test true x y = y
        by_test false x y = λ i. operation (head_under h i) (x i) (y i)
    thin_under (block l ops rest) = λ i. block (label_under l i) (thin_under ops i) (thin_under rest i)
    thin_under (region bs rest) = λ i. region (thin_under bs i) (thin_under rest i)

  -- what dce makes of the tree under other names is what it makes of the tree, under those names
  pub dce_renamed : (after : Root N S) → IsDce d w t after → IsDce d w' (rename_root (maps r) t) (rename_root (maps r) after)
  dce_renamed after p = record {
    gone = gone_pushed p.gone;
    is_gone = gone_renamed p.gone p.is_gone;
    is = ap (rename_root (maps r)) p.is ∙ λ i. record { head = rename_head (maps r) t.head; regions = sym (thin_under p.gone t.regions) i };
  }
