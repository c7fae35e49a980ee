-- What is dead in the tree of a module and stands in a function is dead in the tree of the function, and back.
use Rattle.std.proofs.Common.{◌≡◌, ◌⊎◌, ⊎_elim, inl, ℕ, true, false, List, [], ◌∷◌, ◌++◌, Option, Some}
use Rattle.std.proofs.Common.{refl, sym, ap, ◌∙◌, subst}
use Rattle.std.specs.Prelude.{slice_get}
use Rattle.ir_base.specs.declared.types.TypeHandle.{TypeHandle}
use Rattle.ir_trees.specs.Names.{Names}
use Rattle.ir_trees.specs.Renames.{names_of}
use Rattle.ir_trees.specs.Trees.{end, Root}
use Rattle.opt_trees.specs.Dce.{TreeSurroundings, Item, Whole, Slot, MayGo, May, Touches, CountsForOperation, IsUseOfItem, IsKept}
use Rattle.opt_trees.specs.Dce.{ForwardsTo, IsDead, dies, IsExcused, by_operation, by_argument}
use Rattle.opt_trees.specs.Occurrences.{Has, Occurrence, BlockOccurrence, inner, occurrences_in, occurrences_of}
use Rattle.opt_trees.specs.Occurrences.{at_root, defined_in}
use Rattle.opt_trees.proofs.Defined.{result_defined, argument_defined}
use Rattle.opt_trees.proofs.Lists.{has-from_map}
use Rattle.opt_trees.proofs.NoneDead.{true_false}
use Rattle.kit_ops.specs.declared.attributes.IntegerAttr.{IntegerAttr}
use Rattle.kit_ops.specs.declared.kinds.KitOp.{KitOp}
use Rattle.kit_ops.specs.declared.kinds.KitOp.TheVariants as ops
use Rattle.kit_ops.specs.declared.types.KitType.{KitType}
use Rattle.kit_ops.specs.Table.{row_of}
use Rattle.kit.specs.Meaning.{kit}
use Rattle.kit_views.specs.Reading.{kit_contents}
use Rattle.kit_views.proofs.Lists.{has_get}
use Rattle.kit_ruled_views.specs.Sound.{tree_of, IsHolder, IsInFunction, IsSound}
use Rattle.kit_ruled_views.proofs.programs.Lifted.{holder, one_operation}
use Rattle.kit_ruled_views.proofs.programs.Inside.{Function, function_at, up, up_block, inside_up, there, block_there}
use Rattle.kit_ruled_views.proofs.programs.Inside.{pair, same_up, same_up_block, taker_up, user_up}
use Rattle.kit_ruled_views.proofs.programs.SuccessorsInside.{successor_inside, target_inside}

-- a module or a function is never dead
pub holder_effects : (k : KitOp) → (k ≡ ops.Func) ⊎ (k ≡ ops.Module) → (row_of k).has_effects ≡ true
holder_effects k e = ⊎_elim (λ z. ap (λ x. (row_of x).has_effects) z) (λ z. ap (λ x. (row_of x).has_effects) z) e

module _ {N : Names} (leads : TypeHandle → Option KitType) (numbered : List ℕ → ℕ) (type_at : N.value → TypeHandle)
    (t : Root N kit_contents) (sound : IsSound {N = N} leads numbered type_at t) (w : TreeSurroundings N IntegerAttr) where
  may_of : (x : Item N) → IsDead kit w t x → May kit t x
  may_of _ (dies x may kept uses) = may

  module _ (o : Occurrence N kit_contents) (function : Function {N = N} leads numbered type_at t sound o) where
    abbrev u : Root N kit_contents
    u = tree_of o

    abbrev lifted_op : Occurrence N kit_contents → Occurrence N kit_contents
    lifted_op = up {N = N} leads numbered type_at t sound o

    -- it is an operation or an argument of the function
    abbrev pub Inside : Item N → Type 0
    Inside (Whole a) = (p : Occurrence N kit_contents) × Has p (occurrences_of u) × (p.head.name ≡ a)
    Inside (Slot v) = Has v (defined_in o.regions)

    alone : (p : Occurrence N kit_contents) → Has p (occurrences_of u) → p.site.spot.around ≡ []
    alone p h = (pair {N = N} leads numbered type_at t sound o function p h).around

    bare : (p : Occurrence N kit_contents) → Has p (occurrences_of u) → p.regions ≡ end
    bare p h = (pair {N = N} leads numbered type_at t sound o function p h).regions

    -- what a holds is never dead where it is around the function
    outer_stays : (a : N.operation) → Has a (o.head.name ∷ o.site.spot.around) → IsDead kit w t (Whole a) → ⊥
    outer_stays a h dead =
        let may : MayGo kit t a = may_of (Whole a) dead in
        ⊎_elim
        (λ e.
        let same : may.it ≡ o =
        one_operation t sound.names.operations may.it o may.stands function.stands (may.name ∙ e) in
        true_false (row_of o.head.content.kind).has_effects
        (holder_effects o.head.content.kind (inl function.sound_function.kind))
        (subst (λ (z : Occurrence N kit_contents). kit.has_effects z.head.content ≡ false) same may.pure))
        (λ e. ⊎_elim
        (λ z. absurd z)
        (λ z.
        let same : may.it ≡ z.it =
        one_operation t sound.names.operations may.it z.it may.stands z.stands (may.name ∙ sym z.name) in
        let pure = subst (λ (y : Occurrence N kit_contents). kit.has_effects y.head.content ≡ false) same may.pure in
        ⊎_elim
        (λ (y : IsHolder {N = N} z.it).
        true_false (row_of z.it.head.content.kind).has_effects (holder_effects z.it.head.content.kind y.kind) pure)
        (λ (y : IsInFunction {N = N} t z.it).
        let fp = function_at {N = N} leads numbered type_at t sound y.function y.stands y.is in
        let s = has-from_map (up {N = N} leads numbered type_at t sound y.function) z.it
        (occurrences_of (tree_of y.function))
        (subst (Has z.it) (inside_up {N = N} leads numbered type_at t sound y.function fp) y.inside) in
        let none : z.it.regions ≡ end =
        sym (ap (λ (x : Occurrence N kit_contents). x.regions) s.is)
        ∙ (pair {N = N} leads numbered type_at t sound y.function fp s.it s.stands).regions in
        absurd (subst (λ g. Has o (occurrences_in g (inner z.it.head z.it.site))) none z.inside))
        (sound.others z.it z.stands))
        (holder t.regions (at_root t) o a function.stands e))
        h

    -- what may go, here and there
    may_down : (x : Item N) → Inside x → May kit t x → May kit u x
    may_down (Whole a) i may =
        let same : lifted_op i.0 ≡ may.it =
        same_up {N = N} leads numbered type_at t sound o function i.0 may.it i.1 may.stands (may.name ∙ sym i.2) in
        record {
          it = i.0;
          stands = i.1;
          name = i.2;
          pure = subst (λ (z : Occurrence N kit_contents). kit.has_effects z.head.content ≡ false) (sym same) may.pure;
          no_terminator = subst (λ (z : Occurrence N kit_contents). kit.is_terminator z.head.content ≡ false) (sym same)
              may.no_terminator;
        }
    may_down (Slot v) i may =
        let q = taker_up {N = N} leads numbered type_at t sound o function may.it v may.stands may.argument i in
        record {
          it = q.0;
          stands = q.1;
          argument = subst (λ (z : BlockOccurrence N kit_contents). Has v (names_of z.label.arguments)) (sym q.2)
              may.argument;
          removable = subst (λ (z : BlockOccurrence N kit_contents). kit.can_remove z.spot.owner.content z.spot.region
              z.spot.first ≡ true) (sym q.2) may.removable;
          predecessors = λ p h s. may.predecessors (lifted_op p)
              (there {N = N} leads numbered type_at t sound o function p h)
              (subst (λ (z : BlockOccurrence N kit_contents). Has z.label.name p.head.successors) q.2 s);
        }

    may_up : (x : Item N) → Inside x → May kit u x → May kit t x
    may_up (Whole a) i may = record {
      it = lifted_op may.it;
      stands = there {N = N} leads numbered type_at t sound o function may.it may.stands;
      name = may.name;
      pure = may.pure;
      no_terminator = may.no_terminator;
    }
    may_up (Slot v) i may = record {
      it = up_block {N = N} leads numbered type_at t sound o may.it;
      stands = block_there {N = N} leads numbered type_at t sound o function may.it may.stands;
      argument = may.argument;
      removable = may.removable;
      predecessors = λ q h s.
          let p = target_inside {N = N} leads numbered type_at t sound o function q h may.it may.stands s in
          subst (λ (z : Occurrence N kit_contents). kit.is_branch z.head.content ≡ true) p.2
          (may.predecessors p.0 p.1
          (subst (λ (z : Occurrence N kit_contents). Has may.it.label.name z.head.successors) (sym p.2) s));
    }

    -- what is named from outside
    touches_up : (x : Item N) (v : N.value) → Touches u x v → Touches t x v
    touches_up (Whole a) v m = record {
      it = lifted_op m.it;
      stands = there {N = N} leads numbered type_at t sound o function m.it m.stands;
      name = m.name;
      value = m.value;
    }
    touches_up (Slot y) v m = m

    touches_down : (x : Item N) (v : N.value) → Inside x → Touches t x v → Touches u x v
    touches_down (Whole a) v i m =
        let same : lifted_op i.0 ≡ m.it =
        same_up {N = N} leads numbered type_at t sound o function i.0 m.it i.1 m.stands (m.name ∙ sym i.2) in
        record {
          it = i.0;
          stands = i.1;
          name = i.2;
          value = subst (λ (z : Occurrence N kit_contents). Has v (names_of z.head.results) ⊎ Has v
              (defined_in z.regions)) (sym same) m.value;
        }
    touches_down (Slot y) v i m = m

    kept_up : (x : Item N) → IsKept w u x → IsKept w t x
    kept_up x (v, m, k) = (
      v,
      touches_up x v m,
      ⊎_elim (λ p. inl p) (λ h. absurd
          (subst (Has v) function.sound_function.is_flat.view.no_operands h)) k,
    )

    kept_down : (x : Item N) → Inside x → IsKept w t x → IsKept w u x
    kept_down x i (v, m, k) = (
      v,
      touches_down x v i m,
      ⊎_elim (λ p. inl p) (λ h. absurd
          (subst (Has v) sound.no_operands h)) k,
    )

    -- uses
    counts_up : (a : N.operation) (v : N.value) (p : Occurrence N kit_contents) → CountsForOperation u a v p → CountsForOperation t a v
        (lifted_op p)
    counts_up a v p c = record {
      it = lifted_op c.it;
      stands = there {N = N} leads numbered type_at t sound o function c.it c.stands;
      name = c.name;
      value = ⊎_elim (λ h. inl h) (λ h. absurd (subst (λ z. Has v (defined_in z)) (bare c.it c.stands) h.0)) c.value;
    }

    counts_down : (a : N.operation) (v : N.value) (p : Occurrence N kit_contents) → Inside (Whole a) →
        CountsForOperation t a v (lifted_op p) → CountsForOperation u a v p
    counts_down a v p i c =
        let same : lifted_op i.0 ≡ c.it =
        same_up {N = N} leads numbered type_at t sound o function i.0 c.it i.1 c.stands (c.name ∙ sym i.2) in
        let none : c.it.regions ≡ end =
        sym (ap (λ (x : Occurrence N kit_contents). x.regions) same) ∙ bare i.0 i.1 in
        record {
          it = i.0;
          stands = i.1;
          name = i.2;
          value = ⊎_elim
              (λ h. inl (subst (λ (z : Occurrence N kit_contents). Has v (names_of z.head.results)) (sym same) h))
              (λ h. absurd (subst (λ z. Has v (defined_in z)) none h.0)) c.value;
        }

    use_up : (x : Item N) (v : N.value) (p : Occurrence N kit_contents) → IsUseOfItem u x v p → IsUseOfItem t x v (lifted_op p)
    use_up (Whole a) v p c = counts_up a v p c
    use_up (Slot y) v p c = c

    use_down : (x : Item N) (v : N.value) (p : Occurrence N kit_contents) → Inside x → IsUseOfItem t x v (lifted_op p) →
        IsUseOfItem u x v p
    use_down (Whole a) v p i c = counts_down a v p i c
    use_down (Slot y) v p i c = c

    -- the value of an item's use is one of the function
    used_inside : (x : Item N) (v : N.value) (q : Occurrence N kit_contents) → Inside x → IsUseOfItem t x v q →
        Has v (defined_in o.regions)
    used_inside (Slot y) v q i c = subst (λ z. Has z (defined_in o.regions)) c i
    used_inside (Whole a) v q i c =
        let same : lifted_op i.0 ≡ c.it =
        same_up {N = N} leads numbered type_at t sound o function i.0 c.it i.1 c.stands (c.name ∙ sym i.2) in
        let none : c.it.regions ≡ end =
        sym (ap (λ (x : Occurrence N kit_contents). x.regions) same) ∙ bare i.0 i.1 in
        ⊎_elim
        (λ h. result_defined o.regions (at_root u) i.0 v i.1
        (subst (λ (z : Occurrence N kit_contents). Has v (names_of z.head.results)) (sym same) h))
        (λ h. absurd (subst (λ z. Has v (defined_in z)) none h.0)) c.value

    -- what is forwarded
    pub forwards_up : (p : Occurrence N kit_contents) (i : ℕ) (v : N.value) → ForwardsTo kit u p i v → ForwardsTo kit t
        (lifted_op p) i v
    forwards_up p i v f = record {
      branch = f.branch;
      edge = f.edge;
      target = up_block {N = N} leads numbered type_at t sound o f.target;
      stands = block_there {N = N} leads numbered type_at t sound o function f.target f.stands;
      leads = f.leads;
      place = f.place;
      gives = f.gives;
      takes = f.takes;
    }

    pub forwards_down : (p : Occurrence N kit_contents) → Has p (occurrences_of u) → (i : ℕ) (v : N.value) →
        ForwardsTo kit t (lifted_op p) i v → ForwardsTo kit u p i v
    forwards_down p h i v f =
        let x = successor_inside {N = N} leads numbered type_at t
        sound o function p h f.target.label.name (has_get p.head.successors f.edge f.target.label.name f.leads) in
        let same = same_up_block {N = N} leads numbered type_at t sound o function x.0 f.target x.1 f.stands (sym
        x.2) in
        record {
          branch = f.branch;
          edge = f.edge;
          target = x.0;
          stands = x.1;
          leads = f.leads ∙ ap (λ z. Some z) (sym x.2);
          place = f.place;
          gives = f.gives;
          takes = ap (λ (z : BlockOccurrence N kit_contents). slice_get (names_of z.label.arguments) f.place) same
              ∙ f.takes;
        }

    pub forwarded_inside : (p : Occurrence N kit_contents) (i : ℕ) (v : N.value) → ForwardsTo kit u p i v →
        Has v (defined_in o.regions)
    forwarded_inside p i v f = argument_defined o.regions (at_root u) f.target v f.stands
        (has_get (names_of f.target.label.arguments) f.place v f.takes)

    mutual
      pub dead_down : (x : Item N) → IsDead kit w t x → Inside x → IsDead kit w u x
      dead_down _ (dies x may kept uses) i = dies x (may_down x i may) (λ k. kept (kept_up x k)) (λ v p j c e.
          excused_down (lifted_op p) j (uses v (lifted_op p) j (use_up x v p c)
          (record { stands = there {N = N} leads numbered type_at t sound o function p e.stands; operand = e.operand }))
          p e.stands refl)

      excused_down : (q : Occurrence N kit_contents) (j : ℕ) → IsExcused kit w t q j → (p : Occurrence N kit_contents) →
          Has p (occurrences_of u) → lifted_op p ≡ q → IsExcused kit w u p j
      excused_down _ _ (by_operation q j a h dead) p hp same =
          ⊎_elim
          (λ e.
          let own : p.head.name ≡ a = ap (λ (z : Occurrence N kit_contents). z.head.name) same ∙ sym e in
          by_operation p j a (inl (sym own)) (dead_down (Whole a) dead (p, hp, own)))
          (λ m. absurd (outer_stays a
          (subst (Has a) (sym (ap (λ (z : Occurrence N kit_contents). z.site.spot.around) same)
          ∙ ap (λ l. l ++ (o.head.name ∷ o.site.spot.around)) (alone p hp)) m) dead))
          h
      excused_down _ _ (by_argument q j v f dead) p hp same =
          let g = forwards_down p hp j v (subst (λ z. ForwardsTo kit t z j v) (sym same) f) in
          by_argument p j v g (dead_down (Slot v) dead (forwarded_inside p j v g))

    mutual
      pub dead_up : (x : Item N) → IsDead kit w u x → Inside x → IsDead kit w t x
      dead_up _ (dies x may kept uses) i = dies x (may_up x i may) (λ k. kept (kept_down x i k)) (λ v q j c e.
          let p = user_up {N = N} leads numbered type_at t sound o function q v j e.stands e.operand (used_inside x v
          q i c) in
          subst (λ z. IsExcused kit w t z j) p.2
          (excused_up p.0 j
          (uses v p.0 j (use_down x v p.0 i (subst (IsUseOfItem t x v) (sym p.2) c))
          (record {
            stands = p.1;
            operand = ap (λ (z : Occurrence N kit_contents). slice_get z.head.operands j) p.2 ∙ e.operand;
          })) p.1))

      excused_up : (p : Occurrence N kit_contents) (j : ℕ) → IsExcused kit w u p j → Has p (occurrences_of u) →
          IsExcused kit w t (lifted_op p) j
      excused_up _ _ (by_operation p j a h dead) hp =
          ⊎_elim
          (λ e. by_operation (lifted_op p) j a (inl e) (dead_up (Whole a) dead (p, hp, sym e)))
          (λ m. absurd (subst (Has a) (alone p hp) m))
          h
      excused_up _ _ (by_argument p j v f dead) hp =
          by_argument (lifted_op p) j v (forwards_up p j v f) (dead_up (Slot v) dead (forwarded_inside p j v f))
