-- Of trees that are the same up to names dce makes what is the same up to names.
use Rattle.std.proofs.Common.{◌≡◌, ⊎_elim, inr, ℕ, true, false, ◌++◌, None, refl, subst}
use Rattle.ir_trees.specs.Names.{Names, Contents}
use Rattle.ir_trees.specs.Renames.{names_of, rename_root, IsSameUpToNames, HaveTests}
use Rattle.ir_trees.specs.Trees.{Sort, Tree, end, operation, block, region, Root}
use Rattle.opt_trees.specs.Occurrences.{Has, Inside, Occurrence, inner, next_block, next_region, occurrences_in, defined_in, at_root}
use Rattle.opt_trees.specs.Occurrences.{maps}
use Rattle.opt_trees.specs.Dialect.{Dialect}
use Rattle.opt_trees.specs.Dce.{TreeSurroundings, Agree, Item, Whole, Slot, May, Touches, IsKept, IsDead, dies, IsExcused}
use Rattle.opt_trees.specs.Dce.{by_operation, by_argument, IsLost, IsDce}
use Rattle.opt_trees.proofs.NoneDead.{has-append, has-left, has-right}
use Rattle.opt_trees.proofs.Defined.{result_defined, argument_defined}
use Rattle.opt_trees.proofs.DceRenamed.{dce_renamed}
use Rattle.opt_trees.proofs.One.{dce_unique}
use Rattle.opt_meanings.specs.Laws.{NonePinned}
use Rattle.opt_meanings.proofs.Permuted.{permuted}
use Rattle.opt_meanings.proofs.RenamedSame.{renamed_same}

module _ {N : Names} {S : Contents} where
  -- what is defined inside an operation of a tree is defined in the tree
  pub inside_defined : {s : Sort} (t : Tree N S s) (c : Inside N S s) (o : Occurrence N S) (v : N.value) →
      Has o (occurrences_in t c) → Has v (defined_in o.regions) → Has v (defined_in t)
  inside_defined end c o v h r = absurd h
  inside_defined (operation k rs rest) c o v h r =
      has-right v (names_of k.results) (defined_in rs ++ defined_in rest) (⊎_elim
      (λ z. has-left v (defined_in rs) (defined_in rest) (subst (λ y. Has v (defined_in y.regions)) z r))
      (λ z. ⊎_elim
      (λ y. has-left v (defined_in rs) (defined_in rest) (inside_defined rs (inner k c) o v y r))
      (λ y. has-right v (defined_in rs) (defined_in rest) (inside_defined rest c o v y r))
      (has-append o (occurrences_in rs (inner k c)) (occurrences_in rest c) z)) h)
  inside_defined (block l ops rest) c o v h r =
      has-right v (names_of l.arguments) (defined_in ops ++ defined_in rest) (⊎_elim
      (λ y. has-left v (defined_in ops) (defined_in rest) (inside_defined ops (record { spot = c; label = l }) o v y r))
      (λ y. has-right v (defined_in ops) (defined_in rest) (inside_defined rest (next_block c) o v y r))
      (has-append o (occurrences_in ops (record { spot = c; label = l })) (occurrences_in rest (next_block c)) h))
  inside_defined (region bs rest) c o v h r = ⊎_elim
      (λ y. has-left v (defined_in bs) (defined_in rest) (inside_defined bs c o v y r))
      (λ y. has-right v (defined_in bs) (defined_in rest) (inside_defined rest (next_region c) o v y r))
      (has-append o (occurrences_in bs c) (occurrences_in rest (next_region c)) h)

-- a context that knows and names nothing
abbrev pub nothing_around : {N : Names} {A : Type 0} → TreeSurroundings N A
nothing_around = record { alone = λ v. None; is_pinned = λ v. false }

no_true : false ≡ true → ⊥
no_true e = cc e

module _ {N : Names} {S : Contents} {A : Type 0} (d : Dialect S A) (w : TreeSurroundings N A) (t : Root N S) (none : NonePinned w t) where
  abbrev w0 : TreeSurroundings N A
  w0 = nothing_around

  -- what an item that may go touches is defined below the root
  touched_defined : (x : Item N) (v : N.value) → May d t x → Touches t x v → Has v (defined_in t.regions)
  touched_defined (Whole a) v may p = ⊎_elim
      (λ z. result_defined t.regions (at_root t) p.it v p.stands z)
      (λ z. inside_defined t.regions (at_root t) p.it v p.stands z) p.value
  touched_defined (Slot x) v may p =
      argument_defined t.regions (at_root t) may.it v may.stands (subst (λ z. Has z (names_of may.it.label.arguments)) p may.argument)

  -- it is kept by the root alone
  kept_to : (x : Item N) → May d t x → IsKept w t x → IsKept w0 t x
  kept_to x may k = (k.0, k.1, ⊎_elim (λ z. absurd (none k.0 (touched_defined x k.0 may k.1) z)) (λ z. inr z) k.2)

  kept_from : (x : Item N) → IsKept w0 t x → IsKept w t x
  kept_from x k = (k.0, k.1, ⊎_elim (λ z. absurd (no_true z)) (λ z. inr z) k.2)

  mutual
    dead_to : (x : Item N) → IsDead d w t x → IsDead d w0 t x
    dead_to _ (dies x may kept uses) = dies x may (λ k. kept (kept_from x k)) (λ v o i c u. excused_to o i (uses v o i c u))

    excused_to : (o : Occurrence N S) (i : ℕ) → IsExcused d w t o i → IsExcused d w0 t o i
    excused_to _ _ (by_operation o i a h dead) = by_operation o i a h (dead_to (Whole a) dead)
    excused_to _ _ (by_argument o i v f dead) = by_argument o i v f (dead_to (Slot v) dead)

  mutual
    dead_from : (x : Item N) → IsDead d w0 t x → IsDead d w t x
    dead_from _ (dies x may kept uses) = dies x may (λ k. kept (kept_to x may k)) (λ v o i c u. excused_from o i (uses v o i c u))

    excused_from : (o : Occurrence N S) (i : ℕ) → IsExcused d w0 t o i → IsExcused d w t o i
    excused_from _ _ (by_operation o i a h dead) = by_operation o i a h (dead_from (Whole a) dead)
    excused_from _ _ (by_argument o i v f dead) = by_argument o i v f (dead_from (Slot v) dead)

  lost_to : (a : N.operation) (i : ℕ) → IsLost d w t a i → IsLost d w0 t a i
  lost_to a i l = record {
    user = l.user;
    stands = l.stands;
    name = l.name;
    argument = l.argument;
    forwards = l.forwards;
    dead = dead_to (Slot l.argument) l.dead;
  }

  lost_from : (a : N.operation) (i : ℕ) → IsLost d w0 t a i → IsLost d w t a i
  lost_from a i l = record {
    user = l.user;
    stands = l.stands;
    name = l.name;
    argument = l.argument;
    forwards = l.forwards;
    dead = dead_from (Slot l.argument) l.dead;
  }

  -- the same goes where the context says nothing
  pub dce_alone : (after : Root N S) → IsDce d w t after → IsDce d w0 t after
  dce_alone after p =
      let is = p.is_gone in
      record {
        gone = p.gone;
        is_gone = record {
          dead = λ x h. dead_to x (is.dead x h);
          all = λ x h. is.all x (dead_from x h);
          lost = λ a i h. lost_to a i (is.lost a i h);
          all_lost = λ a i h. is.all_lost a i (lost_from a i h);
        };
        is = p.is;
      }

-- trees that are the same up to names
module _ {N : Names} {S : Contents} {A : Type 0}
    (d : Dialect S A) (tests : HaveTests N) (t u : Root N S) (same : IsSameUpToNames t u) where
  -- what dce makes of them is the same up to names
  pub same_dces : (w z : TreeSurroundings N A) → NonePinned w t → NonePinned z u → (a b : Root N S) → IsDce d w t a → IsDce d z u b → IsSameUpToNames a b
  same_dces w z pw pz a b x y =
      let p = permuted t u tests same in
      let w0 : TreeSurroundings N A = nothing_around in
      let agree : Agree p.0 w0 w0 = record { knows = λ v. refl; pins = λ v. refl } in
      let renamed : IsDce d w0 (rename_root (maps p.0) t) (rename_root (maps p.0) a) =
      dce_renamed d p.0 t w0 w0 agree a (dce_alone d w t pw a x) in
      let one : rename_root (maps p.0) a ≡ b =
      dce_unique d w0 u (rename_root (maps p.0) a) b (subst (λ q. IsDce d w0 q (rename_root (maps p.0) a)) p.1 renamed) (dce_alone d z u pz b y) in
      subst (λ q. IsSameUpToNames a q) one (renamed_same p.0 a)
