-- What tests of an operation and of what is around it tell of the rules.
use Rattle.std.proofs.Common.{not, ◌≡◌, ◌≢◌, ◌↔◌, ℕ, zero, suc, ◌+◌, Bool, true, false, List, [], ◌∷◌, length, Option, Some, None, IsTrue, slice_get, refl, sym, ap, ◌∙◌, subst, true≢false, arith, add-one}
use Rattle.std.proofs.lemmas.Bool.{false≢true}
use Rattle.ir_program.specs.Lists.{operations_in}
use Rattle.ir_program.specs.Program.{Program}
use Rattle.ir_program.specs.declared.handles.Ptr.{Ptr}
use Rattle.ir_program.specs.declared.handles.Operation.{Operation}
use Rattle.ir_program.specs.declared.handles.BasicBlock.{BasicBlock}
use Rattle.kit_ops.specs.declared.kinds.KitOp.TheVariants as ops
use Rattle.kit_checks.specs.Located.{IsAround, IsAroundIf, IsSiteOf}
use Rattle.kit_checks.specs.Reading.{IsInKind, KeepsBlockEnds}
use Rattle.kit_checks.specs.Rules.{RootIsModule, FunctionHolds}
use Rattle.kit_checks.specs.Sites.{Around, Site, operation_list, region_list}
use Rattle.kit_checks.specs.Words.{is_instruction, is_terminator, kind_of}
use Rattle.kit_checks.specs.World.{World}
use Rattle.kit_checks.proofs.Trees.{operation_count}

nothing_in : {X : Type 0} (xs : List X) → length xs ≡ 0 → xs ≡ []
nothing_in [] h = refl
nothing_in (x ∷ xs) h = absurd (omega arith)

-- the member behind one is there exactly where that one isn't the last
ends : {X : Type 0} (xs : List X) (k : ℕ) (x : X) → slice_get xs k ≡ Some x → slice_get xs (suc k) ≡ None → suc k ≡ length xs
ends [] k x here none = cc
ends (y ∷ []) zero x here none = refl
ends (y ∷ z ∷ xs) zero x here none = cc
ends (y ∷ xs) (suc k) x here none = ap suc (ends xs k x here none)

goes_on : {X : Type 0} (xs : List X) (k : ℕ) (x y : X) → slice_get xs k ≡ Some x → slice_get xs (suc k) ≡ Some y → suc k ≡ length xs → ⊥
goes_on [] k x y here more e = cc
goes_on (z ∷ []) zero x y here more e = cc
goes_on (z ∷ v ∷ xs) zero x y here more e = let d : suc zero ≡ suc (suc (length xs)) = e in omega arith
goes_on (z ∷ xs) (suc k) x y here more e = goes_on xs k x y here more (let d : suc (suc k) ≡ suc (length xs) = e in omega arith)

pub last_if_none : {X : Type 0} (xs : List X) (k : ℕ) (x : X) → slice_get xs k ≡ Some x → slice_get xs (k + 1) ≡ None → IsTrue true ↔ (k + 1 ≡ length xs)
last_if_none xs k x here none = (λ h. add-one k ∙ ends xs k x here (sym (ap (slice_get xs) (add-one k)) ∙ none), λ h. refl)

pub not_last : {X : Type 0} (xs : List X) (k : ℕ) (x y : X) → slice_get xs k ≡ Some x → slice_get xs (k + 1) ≡ Some y → IsTrue false ↔ (k + 1 ≡ length xs)
not_last xs k x y here more = (λ h. absurd (false≢true h), λ e. absurd (goes_on xs k x y here (sym (ap (slice_get xs) (add-one k)) ∙ more) (sym (add-one k) ∙ e)))

module _ {O B : Type 0} (w : World O B) (c : Program O B) (root op : Ptr Operation) where
  around_none : (o : Option (Around O B)) → IsAroundIf c root op o → o ≡ None → op ≡ root
  around_none o at none = subst (IsAroundIf c root op) none at

  around_some : (o : Option (Around O B)) (a : Around O B) → IsAroundIf c root op o → o ≡ Some a → IsAround c root op a
  around_some o a at some = subst (IsAroundIf c root op) some at

  pub not_root : op ≢ root → (s : Site O B) → IsSiteOf c root op s → IsTrue true ↔ RootIsModule w s
  not_root other s at = (λ h none. absurd (other (around_none s.around at.around none)), λ h. refl)

  pub holds_outside : (g : Bool) → g ≡ false → (s : Site O B) → IsTrue g ↔ IsInKind w s ops.Func → IsTrue true ↔ FunctionHolds w s
  holds_outside g fails s test = (λ h a is. absurd (true≢false (sym (test.1 (a, is)) ∙ fails)), λ h. refl)

  pub holds_inside : (g r : Bool) → g ≡ true → (s : Site O B) → IsTrue g ↔ IsInKind w s ops.Func →
      IsTrue r ↔ (is_instruction (kind_of w s.op) ≡ true) × (length (region_list s.op.regions) ≡ 0) → IsTrue r ↔ FunctionHolds w s
  holds_inside g r holds s test tells = (
    λ h a is. let t = tells.0 h in (t.0, nothing_in (region_list s.op.regions) t.1),
    λ h. let i = test.0 holds in let t = h i.0 i.1 in tells.1 (t.0, ap length t.1),
  )

  pub ends_outside : (g : Bool) → g ≡ false → (s : Site O B) → IsTrue g ↔ IsInKind w s ops.Func → IsTrue true ↔ KeepsBlockEnds w s
  ends_outside g fails s test = (λ h a is. absurd (true≢false (sym (test.1 (a, is)) ∙ fails)), λ h. refl)

  module _ (g last : Bool) (inside : g ≡ true) (s : Site O B) (at : IsSiteOf c root op s) (test : IsTrue g ↔ IsInKind w s ops.Func)
      (tells : (block : Ptr BasicBlock) (k : ℕ) → slice_get (operations_in c block) k ≡ Some op → IsTrue last ↔ (k + 1 ≡ length (operations_in c block))) where
    last_of : (a : Around O B) → s.around ≡ Some a → IsTrue last ↔ (a.index + 1 ≡ length (operation_list a.body.operations))
    last_of a here =
        let it = around_some s.around a at.around here in
        subst (λ n. IsTrue last ↔ (a.index + 1 ≡ n)) (sym (operation_count c it.block a.body it.body)) (tells it.block a.index it.index)

    pub ends_terminator : (t : Bool) → t ≡ true → is_terminator (kind_of w s.op) ≡ t → IsTrue last ↔ KeepsBlockEnds w s
    ends_terminator t holds is = (
      λ h a in_f. (λ x. (last_of a in_f.0).0 h, λ x. is ∙ holds),
      λ h. let i = test.0 inside in (last_of i.0 i.1.0).1 ((h i.0 i.1).0 (is ∙ holds)),
    )

    pub ends_other : (t r : Bool) → t ≡ false → is_terminator (kind_of w s.op) ≡ t → IsTrue r ↔ (IsTrue last → ⊥) → IsTrue r ↔ KeepsBlockEnds w s
    ends_other t r fails is neg = (
      λ h a in_f. (λ x. absurd (true≢false (sym x ∙ is ∙ fails)), λ x. absurd (neg.0 h ((last_of a in_f.0).1 x))),
      λ h. neg.1 (λ l. let i = test.0 inside in absurd (true≢false (sym ((h i.0 i.1).1 ((last_of i.0 i.1.0).0 l)) ∙ is ∙ fails))),
    )

-- the other truth value
pub negated : (b : Bool) → IsTrue (not b) ↔ (IsTrue b → ⊥)
negated true = (λ h e. false≢true h, λ h. absurd (h refl))
negated false = (λ h e. false≢true e, λ h. refl)
