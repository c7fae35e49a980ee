-- What dce makes of what a tree means is the meaning of what it makes of the tree.
use Rattle.std.proofs.Common.{◌≡◌, ⊎_elim, inl, inr, ℕ, suc, Bool, true, false, List, [], ◌∷◌, Option, Some, None, refl, sym, ap}
use Rattle.std.proofs.Common.{◌∙◌, subst}
use Rattle.std.specs.Prelude.{map, option_map, if◌then◌else◌, slice_get}
use Rattle.ir_trees.specs.Names.{Names, Contents}
use Rattle.ir_trees.specs.Renames.{names_of}
use Rattle.ir_trees.specs.Trees.{Defined, Head, Label, Sort, Tree, end, operation, block, region, Root}
use Rattle.opt_trees.specs.Occurrences.{Has, Occurrence, defined_in}
use Rattle.opt_trees.specs.Dialect.{Dialect, drop}
use Rattle.opt_trees.specs.Dce.{TreeSurroundings, Item, Whole, Slot, May, Touches, IsKept, IsUseOfItem, ForwardsTo, IsDead, dies, IsExcused}
use Rattle.opt_trees.specs.Dce.{by_operation, by_argument, IsLost, Gone, gone_at, thin_head, thin_label, thin, IsGoneExactly, IsDce}
use Rattle.opt_trees.proofs.Lists.{at-map}
use Rattle.opt_meanings.specs.Meanings.{Meanings, IsMeant, mean_defined, mean_head, mean_label, mean, mean_root}
use Rattle.opt_meanings.proofs.Said.{names-mean, defined_meant, mean_occurrence, mean_block_occurrence}
use Rattle.opt_meanings.proofs.Said.{operation_there, operation_from, block_there, block_from}

module _ {S R : Contents} {A : Type 0} (m : Meanings S R) (d : Dialect S A) (e : Dialect R A) where
  -- the dialect that says, where dce looks, what e says of what is meant
  abbrev pub seen : Dialect S A
  seen = record d {
    is_branch = λ c. e.is_branch (m.operation c);
    forwards = λ c n s. e.forwards (m.operation c) n s;
    is_terminator = λ c. e.is_terminator (m.operation c);
    has_effects = λ c. e.has_effects (m.operation c);
    can_remove = λ c region first. e.can_remove (m.operation c) region first;
  }

  -- which is what d says
  seen_same : IsMeant m d e → seen ≡ d
  seen_same meant = λ i. record d {
    is_branch = λ c. meant.is_branch c i;
    forwards = λ c n s. meant.forwards c n s i;
    is_terminator = λ c. meant.is_terminator c i;
    has_effects = λ c. meant.has_effects c i;
    can_remove = λ c region first. meant.can_remove c region first i;
  }

module _ {N : Names} {S R : Contents} {A : Type 0} (m : Meanings S R) (d : Dialect S A) (e : Dialect R A) (w : TreeSurroundings N A) (t : Root N S) where
  abbrev s : Dialect S A
  s = seen m d e

  abbrev mt : Root N R
  mt = mean_root m t

  -- names of definitions, and values inside a tree, in both directions
  name_to : (v : N.value) (vs : List (Defined N.value S.of_value)) → Has v (names_of vs) → Has v (names_of (map (mean_defined m.value) vs))
  name_to v vs h = subst (Has v) (sym (names-mean m.value vs)) h

  name_from : (v : N.value) (vs : List (Defined N.value S.of_value)) → Has v (names_of (map (mean_defined m.value) vs)) → Has v (names_of vs)
  name_from v vs h = subst (Has v) (names-mean m.value vs) h

  value_to : {k : Sort} (v : N.value) (x : Tree N S k) → Has v (defined_in x) → Has v (defined_in (mean m x))
  value_to v x h = subst (Has v) (sym (defined_meant m x)) h

  value_from : {k : Sort} (v : N.value) (x : Tree N S k) → Has v (defined_in (mean m x)) → Has v (defined_in x)
  value_from v x h = subst (Has v) (defined_meant m x) h

  -- what may go may go by its meaning, and the other way round
  may_to : (x : Item N) → May s t x → May e mt x
  may_to (Whole a) p = record {
    it = mean_occurrence m p.it;
    stands = operation_there m t p.it p.stands;
    name = p.name;
    pure = p.pure;
    no_terminator = p.no_terminator;
  }
  may_to (Slot v) p = record {
    it = mean_block_occurrence m p.it;
    stands = block_there m t p.it p.stands;
    argument = name_to v p.it.label.arguments p.argument;
    removable = p.removable;
    predecessors = λ o h k. let q = operation_from m t o h in
        ap (λ z. e.is_branch z.head.content) (sym q.is)
        ∙ p.predecessors q.it q.stands (subst (λ z. Has p.it.label.name z.head.successors) (sym q.is) k);
  }

  may_from : (x : Item N) → May e mt x → May s t x
  may_from (Whole a) p =
      let q = operation_from m t p.it p.stands in
      record {
        it = q.it;
        stands = q.stands;
        name = ap (λ z. z.head.name) q.is ∙ p.name;
        pure = ap (λ z. e.has_effects z.head.content) q.is ∙ p.pure;
        no_terminator = ap (λ z. e.is_terminator z.head.content) q.is ∙ p.no_terminator;
      }
  may_from (Slot v) p =
      let q = block_from m t p.it p.stands in
      record {
        it = q.it;
        stands = q.stands;
        argument = name_from v q.it.label.arguments (subst (λ z. Has v (names_of z.label.arguments)) (sym q.is) p.argument);
        removable = ap (λ z. e.can_remove z.spot.owner.content z.spot.region z.spot.first) q.is ∙ p.removable;
        predecessors = λ o h k. p.predecessors (mean_occurrence m o) (operation_there m t o h)
            (subst (λ z. Has z.label.name o.head.successors) q.is k);
      }

  -- a value is touched by an item in the tree as in its meaning
  touches_to : (x : Item N) (v : N.value) → Touches t x v → Touches mt x v
  touches_to (Whole a) v p = record {
    it = mean_occurrence m p.it;
    stands = operation_there m t p.it p.stands;
    name = p.name;
    value = ⊎_elim (λ z. inl (name_to v p.it.head.results z)) (λ z. inr (value_to v p.it.regions z)) p.value;
  }
  touches_to (Slot x) v p = p

  touches_from : (x : Item N) (v : N.value) → Touches mt x v → Touches t x v
  touches_from (Whole a) v p =
      let q = operation_from m t p.it p.stands in
      record {
        it = q.it;
        stands = q.stands;
        name = ap (λ z. z.head.name) q.is ∙ p.name;
        value = ⊎_elim
            (λ z. inl (name_from v q.it.head.results (subst (λ y. Has v (names_of y.head.results)) (sym q.is) z)))
            (λ z. inr (value_from v q.it.regions (subst (λ y. Has v (defined_in y.regions)) (sym q.is) z))) p.value;
      }
  touches_from (Slot x) v p = p

  kept_to : (x : Item N) → IsKept w t x → IsKept w mt x
  kept_to x k = (k.0, touches_to x k.0 k.1, k.2)

  kept_from : (x : Item N) → IsKept w mt x → IsKept w t x
  kept_from x k = (k.0, touches_from x k.0 k.1, k.2)

  -- a use of an item by an operation is one by its meaning
  is_use_to : (x : Item N) (v : N.value) (o : Occurrence N S) → IsUseOfItem t x v o → IsUseOfItem mt x v (mean_occurrence m o)
  is_use_to (Whole a) v o p = record {
    it = mean_occurrence m p.it;
    stands = operation_there m t p.it p.stands;
    name = p.name;
    value = ⊎_elim (λ z. inl (name_to v p.it.head.results z)) (λ z. inr (value_to v p.it.regions z.0, z.1)) p.value;
  }
  is_use_to (Slot x) v o p = p

  is_use_from : (x : Item N) (v : N.value) (o : Occurrence N S) → IsUseOfItem mt x v (mean_occurrence m o) → IsUseOfItem t x v o
  is_use_from (Whole a) v o p =
      let q = operation_from m t p.it p.stands in
      record {
        it = q.it;
        stands = q.stands;
        name = ap (λ z. z.head.name) q.is ∙ p.name;
        value = ⊎_elim
            (λ z. inl (name_from v q.it.head.results (subst (λ y. Has v (names_of y.head.results)) (sym q.is) z)))
            (λ z. inr (value_from v q.it.regions (subst (λ y. Has v (defined_in y.regions)) (sym q.is) z.0), z.1)) p.value;
      }
  is_use_from (Slot x) v o p = p

  -- an operand is forwarded to an argument as it is in the meaning
  forwards_to : (o : Occurrence N S) (i : ℕ) (v : N.value) → ForwardsTo s t o i v → ForwardsTo e mt (mean_occurrence m o) i v
  forwards_to o i v f = record {
    branch = f.branch;
    edge = f.edge;
    target = mean_block_occurrence m f.target;
    stands = block_there m t f.target f.stands;
    leads = f.leads;
    place = f.place;
    gives = f.gives;
    takes = ap (λ l. slice_get l f.place) (names-mean m.value f.target.label.arguments) ∙ f.takes;
  }

  forwards_from : (o : Occurrence N S) (i : ℕ) (v : N.value) → ForwardsTo e mt (mean_occurrence m o) i v → ForwardsTo s t o i v
  forwards_from o i v f =
      let q = block_from m t f.target f.stands in
      record {
        branch = f.branch;
        edge = f.edge;
        target = q.it;
        stands = q.stands;
        leads = f.leads ∙ ap (λ z. Some z.label.name) (sym q.is);
        place = f.place;
        gives = f.gives;
        takes = ap (λ l. slice_get l f.place) (sym (names-mean m.value q.it.label.arguments))
            ∙ ap (λ z. slice_get (names_of z.label.arguments) f.place) q.is ∙ f.takes;
      }

  mutual
    dead_to : (x : Item N) → IsDead s w t x → IsDead e w mt x
    dead_to _ (dies x may kept uses) = dies x (may_to x may) (λ k. kept (kept_from x k)) (λ v p i c u.
        let q = operation_from m t p u.stands in
        let c' = is_use_from x v q.it (subst (IsUseOfItem mt x v) (sym q.is) c) in
        let named = ap (λ z. slice_get z.head.operands i) q.is ∙ u.operand in
        subst (λ z. IsExcused e w mt z i) q.is (excused_to q.it i (uses v q.it i c' (record { stands = q.stands; operand = named }))))

    excused_to : (o : Occurrence N S) (i : ℕ) → IsExcused s w t o i → IsExcused e w mt (mean_occurrence m o) i
    excused_to _ _ (by_operation o i a h dead) = by_operation (mean_occurrence m o) i a h (dead_to (Whole a) dead)
    excused_to _ _ (by_argument o i v f dead) = by_argument (mean_occurrence m o) i v (forwards_to o i v f) (dead_to (Slot v) dead)

  mutual
    dead_from : (x : Item N) → IsDead e w mt x → IsDead s w t x
    dead_from _ (dies x may kept uses) = dies x (may_from x may) (λ k. kept (kept_to x k)) (λ v o i c u.
        excused_from (mean_occurrence m o) i
        (uses v (mean_occurrence m o) i (is_use_to x v o c) (record { stands = operation_there m t o u.stands; operand = u.operand })) o refl)

    excused_from : (p : Occurrence N R) (i : ℕ) → IsExcused e w mt p i → (o : Occurrence N S) → mean_occurrence m o ≡ p → IsExcused s w t o i
    excused_from _ _ (by_operation p i a h dead) o same =
        by_operation o i a (subst (λ z. Has a (z.head.name ∷ z.site.spot.around)) (sym same) h) (dead_from (Whole a) dead)
    excused_from _ _ (by_argument p i v f dead) o same =
        by_argument o i v (forwards_from o i v (subst (λ z. ForwardsTo e mt z i v) (sym same) f)) (dead_from (Slot v) dead)

  lost_to : (a : N.operation) (i : ℕ) → IsLost s w t a i → IsLost e w mt a i
  lost_to a i l = record {
    user = mean_occurrence m l.user;
    stands = operation_there m t l.user l.stands;
    name = l.name;
    argument = l.argument;
    forwards = forwards_to l.user i l.argument l.forwards;
    dead = dead_to (Slot l.argument) l.dead;
  }

  lost_from : (a : N.operation) (i : ℕ) → IsLost e w mt a i → IsLost s w t a i
  lost_from a i l =
      let q = operation_from m t l.user l.stands in
      record {
        user = q.it;
        stands = q.stands;
        name = ap (λ z. z.head.name) q.is ∙ l.name;
        argument = l.argument;
        forwards = forwards_from q.it i l.argument (subst (λ z. ForwardsTo e mt z i l.argument) (sym q.is) l.forwards);
        dead = dead_from (Slot l.argument) l.dead;
      }

  -- the same goes from the meaning
  pub gone_meant : (g : Gone N) → IsGoneExactly s w t g → IsGoneExactly e w mt g
  gone_meant g is = record {
    dead = λ x h. dead_to x (is.dead x h);
    all = λ x h. is.all x (dead_from x h);
    lost = λ a i h. lost_to a i (is.lost a i h);
    all_lost = λ a i h. is.all_lost a i (lost_from a i h);
  }

-- what is left of a list in other words
drop_map : {X Y : Type 0} (f : X → Y) (p : ℕ → Bool) (xs : List X) → drop p (map f xs) ≡ map f (drop p xs)
drop_map f p [] = refl
drop_map f p (x ∷ xs) = by_test (p 0) (drop_map f (λ i. p (suc i)) xs)
  where
    by_test : (b : Bool) → drop (λ i. p (suc i)) (map f xs) ≡ map f (drop (λ i. p (suc i)) xs) →
        (if b then drop (λ i. p (suc i)) (map f xs) else f x ∷ drop (λ i. p (suc i)) (map f xs))
        ≡ map f (if b then drop (λ i. p (suc i)) xs else x ∷ drop (λ i. p (suc i)) xs)
    by_test true e = e
    by_test false e = ap (λ l. f x ∷ l) e

module _ {N : Names} {S R : Contents} {A : Type 0} (m : Meanings S R) (d : Dialect S A) (e : Dialect R A) (meant : IsMeant m d e) (g : Gone N) where
  -- the same arguments of a block go
  slots_said : (vs : List (Defined N.value S.of_value)) →
      ◌≡◌ {A = ℕ → Bool} (λ i. gone_at g (slice_get (map (mean_defined m.value) vs) i)) (λ i. gone_at g (slice_get vs i))
  slots_said vs = λ j i. (ap (gone_at {N = N} g) (at-map (mean_defined m.value) vs i) ∙ one (slice_get vs i)) j
    where
      one : (q : Option (Defined N.value S.of_value)) → gone_at {N = N} g (option_map (mean_defined m.value) q) ≡ gone_at g q
      one None = refl
      one (Some v) = refl

  head_thinned : (h : Head N S) → thin_head e g (mean_head m h) ≡ mean_head m (thin_head d g h)
  head_thinned h = λ i. record {
    name = h.name;
    content = meant.drop_operands h.content (g.operand h.name) i;
    results = map (mean_defined m.value) h.results;
    operands = drop (g.operand h.name) h.operands;
    successors = h.successors;
  }

  label_thinned : (l : Label N S) → thin_label e g (mean_label m l) ≡ mean_label m (thin_label d g l)
  label_thinned l = λ i. record {
    name = l.name;
    content = (ap (e.drop_names (m.block l.content)) (slots_said l.arguments)
        ∙ meant.drop_names l.content (λ j. gone_at g (slice_get l.arguments j))) i;
    arguments = (ap (λ p. drop p (map (mean_defined m.value) l.arguments)) (slots_said l.arguments)
        ∙ drop_map (mean_defined m.value) (λ j. gone_at g (slice_get l.arguments j)) l.arguments) i;
  }

  -- the meaning without what goes is the meaning of the tree without it
  thinned : {k : Sort} (x : Tree N S k) → thin e g (mean m x) ≡ mean m (thin d g x)
  thinned end = refl
  thinned (operation h rs rest) = by_test (g.item (Whole h.name)) (thinned rs) (thinned rest)
    where
      by_test : (b : Bool) → thin e g (mean m rs) ≡ mean m (thin d g rs) → thin e g (mean m rest) ≡ mean m (thin d g rest) →
          (if b then thin e g (mean m rest) else operation (thin_head e g (mean_head m h)) (thin e g (mean m rs)) (thin e g (mean m rest)))
          ≡ mean m (if b then thin d g rest else operation (thin_head d g h) (thin d g rs) (thin d g rest))
      by_test true x y = y
      by_test false x y = λ i. operation (head_thinned h i) (x i) (y i)
  thinned (block l ops rest) = λ i. block (label_thinned l i) (thinned ops i) (thinned rest i)
  thinned (region bs rest) = λ i. region (thinned bs i) (thinned rest i)

-- what dce makes of what a tree means is the meaning of what it makes of the tree
pub dce_meant : {N : Names} {S R : Contents} {A : Type 0} (m : Meanings S R) (d : Dialect S A) (e : Dialect R A) →
    IsMeant m d e → (w : TreeSurroundings N A) (t after : Root N S) → IsDce d w t after → IsDce e w (mean_root m t) (mean_root m after)
dce_meant m d e meant w t after p = record {
  gone = p.gone;
  is_gone = gone_meant m d e w t p.gone (subst (λ z. IsGoneExactly z w t p.gone) (sym (seen_same m d e meant)) p.is_gone);
  is = ap (mean_root m) p.is ∙ λ i. record { head = mean_head m t.head; regions = sym (thinned m d e meant p.gone t.regions) i };
}
