-- The operations of a block of a module, as they are gone over, and the module that a block is one of.
use Rattle.std.proofs.Common.{◌≡◌, ◌⊎◌, inl, inr, ⊎_elim, ◌↔◌, ℕ, Bool, true, false, List, [], ◌∷◌, ◌++◌, Option, Some, None}
use Rattle.std.proofs.Common.{IfOk, IsTrue, Result, Ok, Err, refl, sym, ap, ◌∙◌, subst}
use Rattle.std.proofs.lemmas.Bool.{false≢true}
use Rattle.ir_context.specs.Holders.{HasOperation}
use Rattle.ir_program.specs.Lists.{operations_in}
use Rattle.ir_program.specs.Program.{Program}
use Rattle.ir_program.specs.declared.handles.Ptr.{Ptr}
use Rattle.ir_program.specs.declared.handles.BasicBlock.{BasicBlock}
use Rattle.ir_program.specs.declared.handles.Operation.{Operation}
use Rattle.ir_trees.proofs.Members.{Has, has_back, has_either, has_front}
use Rattle.kit_ops.specs.declared.kinds.KitOp.{KitOp}
use Rattle.kit_ops.specs.declared.kinds.KitOp.TheVariants.{Module}
use Rattle.kit_checks.specs.World.{World}
use Rattle.kit_verifier.specs.Names.{AreSymbols, IsOfModule, IsSymbolAt}
use Rattle.kit_verifier.specs.Reading.{kind_at}
use Rattle.kit_verifier.specs.Repeats.{HasNameAmong, IsRepeat}
use Rattle.kit_verifier.proofs.Repeated.{IsNewRepeat, Named, join_repeat, repeat_front, repeats_none, split_repeat}
use Rattle.kit_verifier.proofs.Sets.{Collected}

module _ {O B : Type 0} (w : World O B) (c : Program O B) where
  pub no_symbols : AreSymbols w c []
  no_symbols = record { kinds = λ op has. absurd has; fresh = λ op r. repeats_none w c op r }

  -- what is asked of the next operation
  abbrev pub IsNewSymbol : List (List ℕ) → Ptr Operation → Type 0
  IsNewSymbol names op = IsSymbolAt w c op × (HasNameAmong w c names op → ⊥)

  module _ (done : List (Ptr Operation)) (names : List (List ℕ)) (op : Ptr Operation) (seen : Collected (Named w c) done names) where
    pub symbols_more : IsNewSymbol names op → AreSymbols w c done → AreSymbols w c (done ++ op ∷ [])
    symbols_more new are = record {
      kinds = λ p has. ⊎_elim
          (λ before. are.kinds p before)
          (λ last. ⊎_elim (λ (same : p ≡ op). subst (IsSymbolAt w c) (sym same) new.0) (λ none. absurd none) last)
          (has_either done (op ∷ []) p has);
      fresh = λ p r. ⊎_elim
          (λ before. are.fresh p before)
          (λ (again : IsNewRepeat w c names op p). new.1 again.1)
          (split_repeat w c done names op seen p r);
    }

    -- where all are what a module may hold, so is the next one
    pub next_symbol : (all left : List (Ptr Operation)) → (done ++ op ∷ []) ++ left ≡ all → AreSymbols w c all → IsNewSymbol names op
    next_symbol all left parts are = (
      are.kinds op (subst (Has op) parts (has_front (done ++ op ∷ []) left op (has_back done (op ∷ []) op (inl refl)))),
      λ named. are.fresh op (subst (λ l. IsRepeat w c l op) parts
          (repeat_front w c (done ++ op ∷ []) left op (join_repeat w c done names op seen op (inr (refl, named))))),
    )

  module _ (b : Ptr BasicBlock) (parent : Option (Ptr Operation)) (only : (p : Ptr Operation) → HasOperation c b p → parent ≡ Some p) where
    -- what the kind of its owner says of a block
    pub of_module : (owner : Ptr Operation) (k : KitOp) (is : Bool) → parent ≡ Some owner → HasOperation c b owner → kind_at w c owner ≡ Some k → IsTrue is ↔ (k ≡ Module) → IsTrue is ↔ IsOfModule w c b
    of_module owner k is at owns here tells = (
      λ h. (owner, owns, here ∙ ap Some (tells.0 h)),
      λ m.
          let e : Some owner ≡ Some m.0 = sym at ∙ only m.0 m.1 in
          let same : owner ≡ m.0 = cc in
          let f : Some k ≡ Some Module = sym here ∙ subst (λ p. kind_at w c p ≡ Some Module) (sym same) m.2 in
          let g : k ≡ Module = cc in
          tells.1 g,
    )

    pub of_none : parent ≡ None → IsTrue false ↔ IsOfModule w c b
    of_none none = (
      λ h. absurd (false≢true h),
      λ m. let e : None ≡ Some m.0 = sym none ∙ only m.0 m.1 in cc,
    )

  -- what is asked of the operations of a block only if it is one of a module
  pub symbols_if : {E : Type 0} (b : Ptr BasicBlock) (of : Bool) → of ≡ true → IsTrue of ↔ IsOfModule w c b → (r : Result Bool E) → IfOk r (λ are. IsTrue are ↔ AreSymbols w c (operations_in c b)) →
      IfOk r (λ holds. IsTrue holds ↔ (IsOfModule w c b → AreSymbols w c (operations_in c b)))
  symbols_if b of holds test (Ok are) tells = (λ h m. tells.0 h, λ each. tells.1 (each (test.0 holds)))
  symbols_if b of holds test (Err e) tells = tells
