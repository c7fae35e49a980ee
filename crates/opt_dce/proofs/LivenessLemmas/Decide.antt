-- What can be told by looking: equal handles and values, members of lists, and which values operations outside take.
use Rattle.std.proofs.Common.{◌≡◌, ◌⊎◌, inl, inr, ⊎_elim, ℕ, zero, suc, ◌<◌, Bool, true, false, cond, eqb, List, [], ◌∷◌, Option, Some, None, length, slice_get, option_map, unwrap_or, refl, sym, ap, subst, ◌∙◌, arith}
use Rattle.std.proofs.lemmas.Option.{same_Some, slice_get_cases, unwrap_or-slice_get}
use Rattle.std.proofs.lemmas.Bool.{eqb-true}
use Rattle.ir_arena.specs.declared.arena.Slot.{Slot}
use Rattle.ir_arena.specs.Arena.{get, slot_at, no_slot}
use Rattle.ir_entities.specs.Forest.{pointer_to}
use Rattle.ir_program.specs.Handles.{handle}
use Rattle.ir_program.specs.Lists.{StandsInside, itself}
use Rattle.ir_program.specs.Program.{Program, OperationView, operation_at, operation_of}
use Rattle.ir_program.specs.Rows.{operands_at}
use Rattle.ir_program.specs.declared.handles.IRNode.TheVariants.{Operation as OperationNode}
use Rattle.ir_program.specs.declared.handles.DefiningEntity.{DefiningEntity}
use Rattle.ir_program.specs.declared.handles.DefiningEntity.TheVariants.{Op as ByOp, Block as ByBlock}
use Rattle.ir_program.specs.declared.handles.Ptr.{Ptr}
use Rattle.ir_program.specs.declared.handles.Operation.{Operation}
use Rattle.ir_program.specs.declared.handles.Value.{Value}
use Rattle.ir_program.specs.declared.records.OperationRecord.{OperationRecord}
use Rattle.ir_trees.specs.Searched.{Lists}
use Rattle.opt_inside.specs.Numbered.{Numbers, NumbersInside}
use Rattle.opt_dce.specs.liveness.Problems.{IsPinned}
use Rattle.opt_dce.proofs.LivenessLemmas.Ground.{none_or, same_or, view_of_operand}

-- a fact that can be told
abbrev pub Told : Type 0 → Type 0
Told P = P ⊎ (P → ⊥)

abbrev pub truth : {P : Type 0} → Told P → Bool
truth (inl p) = true
truth (inr n) = false

pub truth_yes : {P : Type 0} (q : Told P) → truth q ≡ true → P
truth_yes (inl p) e = p
truth_yes (inr n) e = cc

pub truth_of : {P : Type 0} (q : Told P) → P → truth q ≡ true
truth_of (inl p) h = refl
truth_of (inr n) h = absurd (n h)

pub told_both : {P Q : Type 0} → Told P → Told Q → Told (P × Q)
told_both (inl p) (inl q) = inl (p, q)
told_both (inl p) (inr n) = inr (λ h. n h.1)
told_both (inr n) q = inr (λ h. n h.0)

pub told_not : {P : Type 0} → Told P → Told (P → ⊥)
told_not (inl p) = inr (λ h. h p)
told_not (inr n) = inl n

pub same_handle : {E : Type 0} (p q : Ptr E) → Told (p ≡ q)
same_handle {E} p q = ⊎_elim
    (λ e. ⊎_elim
    (λ f. inl (λ i. record { key = record { slot = e i; version = f i }; of = record {} }))
    (λ n. inr (λ h. n (ap (λ (z : Ptr E). z.key.version) h)))
    (same_or p.key.version q.key.version))
    (λ n. inr (λ h. n (ap (λ (z : Ptr E). z.key.slot) h)))
    (same_or p.key.slot q.key.slot)

pub same_definer : (x y : DefiningEntity) → Told (x ≡ y)
same_definer (ByOp p) (ByOp q) = ⊎_elim (λ e. inl (ap ByOp e)) (λ n. inr (λ h. let e : p ≡ q = cc in n e)) (same_handle p q)
same_definer (ByBlock p) (ByBlock q) = ⊎_elim (λ e. inl (ap ByBlock e)) (λ n. inr (λ h. let e : p ≡ q = cc in n e)) (same_handle p q)
same_definer (ByOp p) (ByBlock q) = inr (λ h. cc)
same_definer (ByBlock p) (ByOp q) = inr (λ h. cc)

pub same_value : (v w : Value) → Told (v ≡ w)
same_value v w = ⊎_elim
    (λ e. ⊎_elim
    (λ f. inl (λ i. record { definer = e i; number = f i }))
    (λ n. inr (λ h. n (ap (λ (z : Value). z.number) h)))
    (same_or v.number w.number))
    (λ n. inr (λ h. n (ap (λ (z : Value). z.definer) h)))
    (same_definer v.definer w.definer)

pub look : {X : Type 0} → ((x y : X) → Told (x ≡ y)) → (xs : List X) (x : X) → Told (Lists xs x)
look same [] x = inr (λ l. absurd (cc l.1))
look {X} same (y ∷ ys) x = ⊎_elim
    (λ e. inl (zero, ap Some (sym e)))
    (λ n. ⊎_elim (λ l. inl (suc l.0, l.1)) (λ no. inr (λ l. neither l.0 l.1 n no)) (look same ys x))
    (same x y)
  where
    neither : (k : ℕ) → slice_get (y ∷ ys) k ≡ Some x → (x ≡ y → ⊥) → (Lists ys x → ⊥) → ⊥
    neither zero h n rest = n (sym (same_Some y x h))
    neither (suc k) h n rest = rest (k, h)

-- whether there is a mark
pub told_marked : (marks : List Bool) (k : ℕ) → Told (slice_get marks k ≡ Some true)
told_marked [] k = inr (λ h. cc)
told_marked (true ∷ ms) zero = inl refl
told_marked (false ∷ ms) zero = inr (λ h. cc)
told_marked (m ∷ ms) (suc k) = told_marked ms k

pub some_below : (P : ℕ → Type 0) → ((i : ℕ) → Told (P i)) → (m : ℕ) → Told ((i : ℕ) × (i < m) × P i)
some_below P told zero = inr (λ w. absurd (omega (arith, w.1)))
some_below P told (suc m) = ⊎_elim
    (λ p. inl (m, omega arith, p))
    (λ n. ⊎_elim
    (λ w. inl (w.0, (let lt = w.1 in omega arith), w.2))
    (λ no. inr (λ w. ⊎_elim (λ e. n (subst P e w.2)) (λ ne. no (w.0, (let lt = w.1 in let other = ne in omega arith), w.2)) (same_or w.0 m)))
    (some_below P told m))
    (told m)

cond_some : {X : Type 0} (b : Bool) (o : Option X) (x : X) → cond b o None ≡ Some x → (b ≡ true) × (o ≡ Some x)
cond_some true o x h = (refl, h)
cond_some false o x h = absurd (cc h)

same_number : (a b : ℕ) → eqb a b ≡ true → a ≡ b
same_number a b h = eqb-true a b h

module _ {O B : Type 0} (c : Program O B) where
  -- an operation that is there is what its slot has
  at_slot : (p : Ptr Operation) (w : OperationView O) → operation_at c p ≡ Some w → (p.key.slot < length c.forest.ops) × (handle (pointer_to c.forest.ops p.key.slot) ≡ p)
  at_slot p w h = ⊎_elim
      (λ e. let none : operation_at c p ≡ None = ap (option_map (operation_of c p)) e in absurd (cc (none, h)))
      (λ r. let s = cond_some (eqb (slot_at c.forest.ops p.key.slot).version p.key.version) (slot_at c.forest.ops p.key.slot).value r.0 r.1 in
      let version : (slot_at c.forest.ops p.key.slot).version ≡ p.key.version = same_number (slot_at c.forest.ops p.key.slot).version p.key.version s.0 in (
        ⊎_elim
            (λ q. q.1)
            (λ q.
            let past : slot_at c.forest.ops p.key.slot ≡ no_slot = sym (unwrap_or-slice_get c.forest.ops p.key.slot no_slot) ∙ ap (λ o. unwrap_or o no_slot) q.1 in
            let none : (slot_at c.forest.ops p.key.slot).value ≡ None = ap (λ (z : Slot (OperationRecord O)). z.value) past in absurd (cc (none, s.1)))
            (slice_get_cases c.forest.ops p.key.slot).1,
        λ i. record { key = record { slot = p.key.slot; version = version i }; of = record {} },
      ))
      (none_or (get c.forest.ops p.key))

  -- whether an operation that isn't inside the root takes the value
  module _ (op : Ptr Operation) (n : Numbers) (numbers : NumbersInside c op n) where
    pub told_inside : (p : Ptr Operation) → Told (StandsInside c (OperationNode op) (OperationNode p))
    told_inside p = ⊎_elim
        (λ e. inl (subst (λ z. StandsInside c (OperationNode op) (OperationNode z)) e itself))
        (λ ne. ⊎_elim
        (λ l. inl (((numbers.operations p).0 l).inside))
        (λ no. inr (λ w. no ((numbers.operations p).1 (record { inside = w; other = λ e. ne (sym e) }))))
        (look same_handle n.operations p))
        (same_handle op p)

    pub told_pinned : (v : Value) → Told (IsPinned c op v)
    told_pinned v = ⊎_elim
        (λ w. inl (handle (pointer_to c.forest.ops w.0), w.2.0, w.2.1))
        (λ no. inr (λ w.
        let view = view_of_operand c w.0 w.2.0 v w.2.1 in
        let at = at_slot w.0 view.0 view.1 in
        no (w.0.key.slot, at.0, (subst (λ z. (StandsInside c (OperationNode op) (OperationNode z) → ⊥) × Lists (operands_at c z) v) (sym at.1) (w.1, w.2)))))
        (some_below (λ i. (StandsInside c (OperationNode op) (OperationNode (handle (pointer_to c.forest.ops i))) → ⊥) × Lists (operands_at c (handle (pointer_to c.forest.ops i))) v)
        (λ i. told_both (told_not (told_inside (handle (pointer_to c.forest.ops i)))) (look same_value (operands_at c (handle (pointer_to c.forest.ops i))) v))
        (length c.forest.ops))
