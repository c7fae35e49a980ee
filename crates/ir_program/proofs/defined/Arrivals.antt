-- A value joins those of its definer, or leaves them: what is found of it, and of each other value.
use Rattle.std.proofs.Common.{◌≡◌, ◌≢◌, ◌⊎◌, ⊎_elim, inl, inr, ℕ, ◌≤◌, List, length, Option, Some, None, refl, sym, ap, ◌∙◌, subst, slice_get, insert, remove}
use Rattle.std.proofs.lemmas.Bool.{cases_eq}
use Rattle.ir_entities.specs.Links.{AreDistinctNumbers}
use Rattle.ir_program.specs.Program.{numbered}
use Rattle.ir_program.specs.Sound.{AreNumbered}
use Rattle.ir_program.specs.declared.handles.Value.{Value}
use Rattle.ir_program.specs.declared.handles.DefiningEntity.{DefiningEntity}
use Rattle.ir_program.specs.declared.handles.DefiningEntity.TheVariants.{Op as ByOp, Block as ByBlock}
use Rattle.ir_program.specs.declared.records.Definition.{Definition}
use Rattle.ir_program.proofs.made.Lent.{same_key}
use Rattle.ir_program.proofs.made.Frames.{same_handle}
use Rattle.ir_program.proofs.defined.Numbers.{numbers_of, insert-here, insert-other, counter-free, numbered-none, remove-here, remove-other, stands-found}

-- entities are the same or not
pub same_definer : (e f : DefiningEntity) → (e ≡ f) ⊎ (e ≢ f)
same_definer (ByOp p) (ByBlock q) = inr (λ h. cc)
same_definer (ByBlock p) (ByOp q) = inr (λ h. cc)
same_definer (ByOp p) (ByOp q) = ⊎_elim
    (λ s. ⊎_elim (λ v. inl (ap ByOp (same_handle p q (same_key p.key q.key s v)))) (λ nv. inr (λ h. nv (ap version h))) (cases_eq p.key.version q.key.version))
    (λ ns. inr (λ h. ns (ap slot h)))
    (cases_eq p.key.slot q.key.slot)
  where
    slot : DefiningEntity → ℕ
    slot (ByOp x) = x.key.slot
    slot (ByBlock x) = x.key.slot

    version : DefiningEntity → ℕ
    version (ByOp x) = x.key.version
    version (ByBlock x) = x.key.version
same_definer (ByBlock p) (ByBlock q) = ⊎_elim
    (λ s. ⊎_elim (λ v. inl (ap ByBlock (same_handle p q (same_key p.key q.key s v)))) (λ nv. inr (λ h. nv (ap version h))) (cases_eq p.key.version q.key.version))
    (λ ns. inr (λ h. ns (ap slot h)))
    (cases_eq p.key.slot q.key.slot)
  where
    slot : DefiningEntity → ℕ
    slot (ByOp x) = x.key.slot
    slot (ByBlock x) = x.key.slot

    version : DefiningEntity → ℕ
    version (ByOp x) = x.key.version
    version (ByBlock x) = x.key.version

-- values are the same or not
pub same_value : (v w : Value) → (v ≡ w) ⊎ (v ≢ w)
same_value v w = ⊎_elim
    (λ (q : v.definer ≡ w.definer). ⊎_elim (λ (m : v.number ≡ w.number). inl (rw (q, m) refl)) (λ nm. inr (λ h. nm (ap (λ (y : Value). y.number) h))) (cases_eq v.number w.number))
    (λ nq. inr (λ h. nq (ap (λ (y : Value). y.definer) h)))
    (same_definer v.definer w.definer)

-- the definition of a value, by the definitions of each entity
abbrev pub at : (DefiningEntity → List Definition) → Value → Option Definition
at ds v = numbered v.number (ds v.definer)

-- a value of e differs from another in its number
other_number : (e : DefiningEntity) (n : ℕ) (v : Value) → v.definer ≡ e → v ≢ record { definer = e; number = n } → v.number ≢ n
other_number e n v q ne m = ne (rw (q, m) refl)

module _ (old new : DefiningEntity → List Definition) (e : DefiningEntity) (rest : (f : DefiningEntity) → f ≢ e → new f ≡ old f) where
  others-kept : (n : ℕ) → ((m : ℕ) → m ≢ n → numbered m (new e) ≡ numbered m (old e)) → (v : Value) → v ≢ record { definer = e; number = n } → at new v ≡ at old v
  others-kept n same v ne = ⊎_elim
      (λ (q : v.definer ≡ e). subst (λ f. numbered v.number (new f) ≡ numbered v.number (old f)) (sym q) (same v.number (other_number e n v q ne)))
      (λ nq. ap (numbered v.number) (rest v.definer nq))
      (same_definer v.definer e)

  pub joined-others : (k : ℕ) (d : Definition) → k ≤ length (old e) → new e ≡ insert (old e) k d → (v : Value) → v ≢ record { definer = e; number = d.number } → at new v ≡ at old v
  joined-others k d within is = others-kept d.number (λ m ne. ap (numbered m) is ∙ insert-other m (old e) k d within ne)

  pub left-others : (k : ℕ) (d : Definition) → slice_get (old e) k ≡ Some d → new e ≡ remove (old e) k → (v : Value) → v ≢ record { definer = e; number = d.number } → at new v ≡ at old v
  left-others k d stood is = others-kept d.number (λ m ne. ap (numbered m) is ∙ remove-other m (old e) k d stood ne)

  -- the value that came is found now, and was not
  pub joined-here : (n k : ℕ) (d : Definition) → k ≤ length (old e) → new e ≡ insert (old e) k d → d.number ≡ n → AreNumbered n (old e) → at new (record { definer = e; number = n }) ≡ Some d
  joined-here n k d within is number are =
      ap (numbered n) is ∙ ap (λ m. numbered m (insert (old e) k d)) (sym number) ∙ insert-here (old e) k d within (rw number (counter-free n (old e) are))

  pub joined-fresh : (n : ℕ) → AreNumbered n (old e) → at old (record { definer = e; number = n }) ≡ None
  joined-fresh n are = numbered-none n (old e) (counter-free n (old e) are)

  -- the value that left was found, and is not
  pub left-was : (k : ℕ) (d : Definition) → slice_get (old e) k ≡ Some d → AreDistinctNumbers (numbers_of (old e)) → at old (record { definer = e; number = d.number }) ≡ Some d
  left-was k d stood distinct = stands-found (old e) k d distinct stood

  pub left-nowhere : (k : ℕ) (d : Definition) → slice_get (old e) k ≡ Some d → new e ≡ remove (old e) k → AreDistinctNumbers (numbers_of (old e)) → at new (record { definer = e; number = d.number }) ≡ None
  left-nowhere k d stood is distinct = ap (numbered d.number) is ∙ numbered-none d.number (remove (old e) k) (remove-here (old e) k d stood distinct)
