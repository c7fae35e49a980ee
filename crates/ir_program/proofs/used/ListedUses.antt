-- The uses of a thread, in its order.
use Rattle.std.proofs.Common.{◌≡◌, ℕ, List, [], map, length, Some, option_map, unwrap_or, refl, sym, ap, ◌∙◌, subst}
use Rattle.std.proofs.lemmas.List.{length-map}
use Rattle.ir_entities.specs.Uses.{key_of, listed_of}
use Rattle.ir_program.specs.Program.{Program}
use Rattle.ir_program.specs.Sound.{IsProgram}
use Rattle.ir_program.specs.Spots.{operand_use, successor_use}
use Rattle.ir_program.specs.Order.{edges_listed, uses_listed}
use Rattle.ir_program.specs.declared.handles.Ptr.{Ptr}
use Rattle.ir_program.specs.declared.handles.BasicBlock.{BasicBlock}
use Rattle.ir_program.specs.declared.handles.Value.{Value}

module _ {O B : Type 0} (c d : Program O B) (view : c ≡ d) (inv : IsProgram c) where
  pub listed-edges : (t : ℕ) (b : Ptr BasicBlock) → key_of d.targets t ≡ Some b → (ps : List ℕ) → ps ≡ listed_of c.targets t → map (successor_use d) ps ≡ edges_listed d b
  listed-edges t b key ps is = subst (λ y. key_of y.targets t ≡ Some b → map (successor_use y) ps ≡ edges_listed y b) view
      (λ here. ap (map (successor_use c)) is ∙ sym (ap (λ o. unwrap_or (option_map (λ s. map (successor_use c) (listed_of c.targets s)) o) []) ((inv.blocks b t).1 here)))
      key

  pub listed-uses : (t : ℕ) (v : Value) → key_of d.values t ≡ Some v → (ps : List ℕ) → ps ≡ listed_of c.values t → map (operand_use d) ps ≡ uses_listed d v
  listed-uses t v key ps is = subst (λ y. key_of y.values t ≡ Some v → map (operand_use y) ps ≡ uses_listed y v) view
      (λ here. ap (map (operand_use c)) is ∙ sym (ap (λ o. unwrap_or (option_map (λ s. map (operand_use c) (listed_of c.values s)) o) []) ((inv.values v t).1 here)))
      key

  -- there are as many as places in the thread
  pub counted-edges : (t : ℕ) (b : Ptr BasicBlock) → key_of d.targets t ≡ Some b → (n : ℕ) → n ≡ length (listed_of c.targets t) → n ≡ length (edges_listed d b)
  counted-edges t b key n is = is ∙ sym (length-map (listed_of c.targets t) (successor_use d)) ∙ ap length (listed-edges t b key (listed_of c.targets t) refl)

  pub counted-uses : (t : ℕ) (v : Value) → key_of d.values t ≡ Some v → (n : ℕ) → n ≡ length (listed_of c.values t) → n ≡ length (uses_listed d v)
  counted-uses t v key n is = is ∙ sym (length-map (listed_of c.values t) (operand_use d)) ∙ ap length (listed-uses t v key (listed_of c.values t) refl)
