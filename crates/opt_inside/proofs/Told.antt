-- What can be told by looking: equal handles and values, members of lists, and which values operations outside a root take.
use Rattle.std.proofs.Common.{◌≡◌, ◌⊎◌, inl, inr, ⊎_elim, ℕ, zero, suc, ◌<◌, Bool, true, false, cond, eqb, List, [], ◌∷◌, Option, Some, None, length, slice_get, option_map, unwrap_or, refl, sym, ap, subst, ◌∙◌, arith}
use Rattle.std.proofs.lemmas.Bool.{eqb-true}
use Rattle.std.proofs.lemmas.Option.{same_Some, slice_get_cases, unwrap_or-slice_get}
use Rattle.ir_arena.specs.Arena.{get, slot_at, no_slot}
use Rattle.ir_arena.specs.declared.arena.Slot.{Slot}
use Rattle.ir_entities.specs.Forest.{pointer_to}
use Rattle.ir_program.specs.Handles.{handle}
use Rattle.ir_program.specs.Lists.{StandsInside}
use Rattle.ir_program.specs.Preorder.{AreInside}
use Rattle.ir_program.specs.Program.{Program, OperationView, operation_at, operation_of}
use Rattle.ir_program.specs.Rows.{operands_at}
use Rattle.ir_program.specs.declared.handles.DefiningEntity.{DefiningEntity}
use Rattle.ir_program.specs.declared.handles.DefiningEntity.TheVariants.{Op as ByOp, Block as ByBlock}
use Rattle.ir_program.specs.declared.handles.IRNode.{IRNode}
use Rattle.ir_program.specs.declared.handles.IRNode.TheVariants.{Operation as OperationNode, Region as RegionNode, BasicBlock as BlockNode}
use Rattle.ir_program.specs.declared.handles.Operation.{Operation}
use Rattle.ir_program.specs.declared.handles.Ptr.{Ptr}
use Rattle.ir_program.specs.declared.handles.Value.{Value}
use Rattle.ir_program.specs.declared.records.OperationRecord.{OperationRecord}
use Rattle.ir_trees.specs.Searched.{Lists}
use Rattle.opt_inside.specs.Around.{IsTakenOutside, CanTellTaken}

-- a fact that can be told
abbrev pub Told : Type 0 → Type 0
Told P = P ⊎ (P → ⊥)

abbrev pub truth : {P : Type 0} → Told P → Bool
truth (inl p) = true
truth (inr n) = false

pub truth_yes : {P : Type 0} (q : Told P) → truth q ≡ true → P
truth_yes (inl p) e = p
truth_yes (inr n) e = cc

pub truth_of : {P : Type 0} (q : Told P) → P → truth q ≡ true
truth_of (inl p) h = refl
truth_of (inr n) h = absurd (n h)

pub told_both : {P Q : Type 0} → Told P → Told Q → Told (P × Q)
told_both (inl p) (inl q) = inl (p, q)
told_both (inl p) (inr n) = inr (λ h. n h.1)
told_both (inr n) q = inr (λ h. n h.0)

pub told_not : {P : Type 0} → Told P → Told (P → ⊥)
told_not (inl p) = inr (λ h. h p)
told_not (inr n) = inl n

same_or : (a b : ℕ) → Told (a ≡ b)
same_or zero zero = inl refl
same_or zero (suc b) = inr (λ e. cc)
same_or (suc a) zero = inr (λ e. cc)
same_or (suc a) (suc b) = ⊎_elim (λ e. inl (ap suc e)) (λ ne. inr (λ e. let q : a ≡ b = omega arith in ne q)) (same_or a b)

none_or : {X : Type 0} (o : Option X) → (o ≡ None) ⊎ ((x : X) × (o ≡ Some x))
none_or None = inl refl
none_or (Some x) = inr (x, refl)

pub same_handle : {E : Type 0} (p q : Ptr E) → Told (p ≡ q)
same_handle {E} p q = ⊎_elim
    (λ e. ⊎_elim
    (λ f. inl (λ i. record { key = record { slot = e i; version = f i }; of = record {} }))
    (λ n. inr (λ h. n (ap (λ (z : Ptr E). z.key.version) h)))
    (same_or p.key.version q.key.version))
    (λ n. inr (λ h. n (ap (λ (z : Ptr E). z.key.slot) h)))
    (same_or p.key.slot q.key.slot)

pub same_definer : (x y : DefiningEntity) → Told (x ≡ y)
same_definer (ByOp p) (ByOp q) = ⊎_elim (λ e. inl (ap ByOp e)) (λ n. inr (λ h. let e : p ≡ q = cc in n e)) (same_handle p q)
same_definer (ByBlock p) (ByBlock q) = ⊎_elim (λ e. inl (ap ByBlock e)) (λ n. inr (λ h. let e : p ≡ q = cc in n e)) (same_handle p q)
same_definer (ByOp p) (ByBlock q) = inr (λ h. cc)
same_definer (ByBlock p) (ByOp q) = inr (λ h. cc)

pub same_value : (v w : Value) → Told (v ≡ w)
same_value v w = ⊎_elim
    (λ e. ⊎_elim
    (λ f. inl (λ i. record { definer = e i; number = f i }))
    (λ n. inr (λ h. n (ap (λ (z : Value). z.number) h)))
    (same_or v.number w.number))
    (λ n. inr (λ h. n (ap (λ (z : Value). z.definer) h)))
    (same_definer v.definer w.definer)

pub look : {X : Type 0} → ((x y : X) → Told (x ≡ y)) → (xs : List X) (x : X) → Told (Lists xs x)
look same [] x = inr (λ l. absurd (cc l.1))
look {X} same (y ∷ ys) x = ⊎_elim
    (λ e. inl (zero, ap Some (sym e)))
    (λ n. ⊎_elim (λ l. inl (suc l.0, l.1)) (λ no. inr (λ l. neither l.0 l.1 n no)) (look same ys x))
    (same x y)
  where
    neither : (k : ℕ) → slice_get (y ∷ ys) k ≡ Some x → (x ≡ y → ⊥) → (Lists ys x → ⊥) → ⊥
    neither zero h n rest = n (sym (same_Some y x h))
    neither (suc k) h n rest = rest (k, h)

pub same_node : (e f : IRNode) → Told (e ≡ f)
same_node (OperationNode p) (OperationNode q) = ⊎_elim (λ e. inl (ap OperationNode e)) (λ n. inr (λ h. let e : p ≡ q = cc in n e)) (same_handle p q)
same_node (BlockNode p) (BlockNode q) = ⊎_elim (λ e. inl (ap BlockNode e)) (λ n. inr (λ h. let e : p ≡ q = cc in n e)) (same_handle p q)
same_node (RegionNode p) (RegionNode q) = ⊎_elim (λ e. inl (ap RegionNode e)) (λ n. inr (λ h. let e : p ≡ q = cc in n e)) (same_handle p q)
same_node (OperationNode p) (BlockNode q) = inr (λ h. cc)
same_node (OperationNode p) (RegionNode q) = inr (λ h. cc)
same_node (BlockNode p) (OperationNode q) = inr (λ h. cc)
same_node (BlockNode p) (RegionNode q) = inr (λ h. cc)
same_node (RegionNode p) (OperationNode q) = inr (λ h. cc)
same_node (RegionNode p) (BlockNode q) = inr (λ h. cc)

pub some_below : (P : ℕ → Type 0) → ((i : ℕ) → Told (P i)) → (m : ℕ) → Told ((i : ℕ) × (i < m) × P i)
some_below P told zero = inr (λ w. absurd (omega (arith, w.1)))
some_below P told (suc m) = ⊎_elim
    (λ p. inl (m, omega arith, p))
    (λ n. ⊎_elim
    (λ w. inl (w.0, (let lt = w.1 in omega arith), w.2))
    (λ no. inr (λ w. ⊎_elim (λ e. n (subst P e w.2)) (λ ne. no (w.0, (let lt = w.1 in let other = ne in omega arith), w.2)) (same_or w.0 m)))
    (some_below P told m))
    (told m)

cond_some : {X : Type 0} (b : Bool) (o : Option X) (x : X) → cond b o None ≡ Some x → (b ≡ true) × (o ≡ Some x)
cond_some true o x h = (refl, h)
cond_some false o x h = absurd (cc h)

module _ {O B : Type 0} (c : Program O B) where
  -- an operation that is there is what its slot has
  at_slot : (p : Ptr Operation) (w : OperationView O) → operation_at c p ≡ Some w → (p.key.slot < length c.forest.ops) × (handle (pointer_to c.forest.ops p.key.slot) ≡ p)
  at_slot p w h = ⊎_elim
      (λ e. let none : operation_at c p ≡ None = ap (option_map (operation_of c p)) e in absurd (cc (none, h)))
      (λ r. let s = cond_some (eqb (slot_at c.forest.ops p.key.slot).version p.key.version) (slot_at c.forest.ops p.key.slot).value r.0 r.1 in
      let version : (slot_at c.forest.ops p.key.slot).version ≡ p.key.version = eqb-true (slot_at c.forest.ops p.key.slot).version p.key.version s.0 in (
        ⊎_elim
            (λ q. q.1)
            (λ q.
            let past : slot_at c.forest.ops p.key.slot ≡ no_slot = sym (unwrap_or-slice_get c.forest.ops p.key.slot no_slot) ∙ ap (λ o. unwrap_or o no_slot) q.1 in
            let none : (slot_at c.forest.ops p.key.slot).value ≡ None = ap (λ (z : Slot (OperationRecord O)). z.value) past in absurd (cc (none, s.1)))
            (slice_get_cases c.forest.ops p.key.slot).1,
        λ i. record { key = record { slot = p.key.slot; version = version i }; of = record {} },
      ))
      (none_or (get c.forest.ops p.key))

  view_of_operand : (p : Ptr Operation) (k : ℕ) (v : Value) → slice_get (operands_at c p) k ≡ Some v → (w : OperationView O) × (operation_at c p ≡ Some w)
  view_of_operand p k v h = ⊎_elim
      (λ e. let none : slice_get (operands_at c p) k ≡ None = ap (λ o. slice_get (unwrap_or (option_map (λ (z : OperationView O). z.operands) o) []) k) e in absurd (cc (none, h)))
      (λ w. w)
      (none_or (operation_at c p))

  -- where it can be told what is inside the root: whether an operation that isn't takes the value
  module _ (op : Ptr Operation) (within : (p : Ptr Operation) → Told (StandsInside c (OperationNode op) (OperationNode p))) where
    abbrev TakesAt : Value → Ptr Operation → Type 0
    TakesAt v p = (StandsInside c (OperationNode op) (OperationNode p) → ⊥) × Lists (operands_at c p) v

    abbrev slot_handle : ℕ → Ptr Operation
    slot_handle i = handle (pointer_to c.forest.ops i)

    pub told_taken : (v : Value) → Told (IsTakenOutside c op v)
    told_taken v = ⊎_elim
        (λ w. inl (slot_handle w.0, w.2.0, w.2.1))
        (λ no. inr (λ w.
        let view = view_of_operand w.0 w.2.0 v w.2.1 in
        let at = at_slot w.0 view.0 view.1 in
        no (w.0.key.slot, at.0, subst (TakesAt v) (sym at.1) (w.1, w.2))))
        (some_below (λ i. TakesAt v (slot_handle i)) (λ i. told_both (told_not (within (slot_handle i))) (look same_value (operands_at c (slot_handle i)) v)) (length c.forest.ops))

    pub can_tell_taken : CanTellTaken c op
    can_tell_taken = (λ v. truth (told_taken v), λ v. (truth_yes (told_taken v), truth_of (told_taken v)))

  -- it can be told by all entities inside it
  pub told_within : (op : Ptr Operation) (es : List IRNode) → AreInside c (OperationNode op) es → (p : Ptr Operation) → Told (StandsInside c (OperationNode op) (OperationNode p))
  told_within op es members p = ⊎_elim
      (λ l. inl (members.inside l.0 (OperationNode p) l.1))
      (λ none. inr (λ i. none (members.all (OperationNode p) i)))
      (look same_node es (OperationNode p))
