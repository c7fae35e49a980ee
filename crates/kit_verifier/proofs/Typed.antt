-- Lists of types that are compared one by one.
use Rattle.std.proofs.Common.{◌≡◌, ◌≢◌, ◌↔◌, ℕ, suc, ◌+◌, ◌<◌, Bool, true, false, List, [], ◌∷◌, length, Some, None, IsTrue, slice_get, refl, sym, ap, ◌∙◌, subst, arith, below_more}
use Rattle.std.proofs.lemmas.Bool.{false≢true}
use Rattle.ir_base.specs.declared.types.TypeHandle.{TypeHandle}
use Rattle.ir_trees.specs.Stands.{ProgramTree}
use Rattle.kit_ops.specs.declared.types.FunctionType.{FunctionType}
use Rattle.kit_checks.specs.Words.{HaveTypes, function_type, types_of}
use Rattle.kit_checks.specs.World.{World}
use Rattle.kit_verifier.specs.Callees.{HasSignature}

module _ {X : Type 0} (xs ys : List X) where
  -- the first n members are the same
  abbrev pub AgreeBelow : ℕ → Type 0
  AgreeBelow n = (k : ℕ) → k < n → slice_get xs k ≡ slice_get ys k

  pub agree_none : AgreeBelow 0
  agree_none k below = absurd (omega arith)

  pub agree_more : (n : ℕ) → slice_get xs n ≡ slice_get ys n → AgreeBelow n → AgreeBelow (n + 1)
  agree_more n same agree = below_more (λ k. slice_get xs k ≡ slice_get ys k) n agree same

same_members : {X : Type 0} (xs ys : List X) → length xs ≡ length ys → ((k : ℕ) → k < length ys → slice_get xs k ≡ slice_get ys k) → xs ≡ ys
same_members [] [] n h = refl
same_members [] (y ∷ ys) n h = absurd (omega arith)
same_members (x ∷ xs) [] n h = absurd (omega arith)
same_members (x ∷ xs) (y ∷ ys) n h =
    let e : Some x ≡ Some y = h 0 (omega arith) in
    let first : x ≡ y = cc in
    let rest : xs ≡ ys = same_members xs ys (omega arith) (λ k below. h (suc k) (omega arith)) in
    λ i. first i ∷ rest i

module _ {X : Type 0} (all xs ys : List X) (is : all ≡ xs) where
  -- they differ at an index
  pub other_member : (k : ℕ) → slice_get xs k ≢ slice_get ys k → IsTrue false ↔ (all ≡ ys)
  other_member k other = (λ h. absurd (false≢true h), λ same. absurd (other (ap (λ l. slice_get l k) (sym is ∙ same))))

  -- they are the same
  pub all_agree : length xs ≡ length ys → (n : ℕ) → n ≡ length ys → AgreeBelow xs ys n → IsTrue true ↔ (all ≡ ys)
  all_agree many n last agree = (λ h. is ∙ same_members xs ys many (subst (AgreeBelow xs ys) last agree), λ same. refl)

-- a type that is a function type, and the types of operands and results
module _ {O B : Type 0} (w : World O B) (u : ProgramTree O B) (ty : TypeHandle) where
  pub no_signature : function_type w ty ≡ None → IsTrue false ↔ HasSignature w u ty
  no_signature none = (λ h. absurd (false≢true h), λ g. let e : None ≡ Some g.signature = sym none ∙ g.is_signature in cc)

  module _ (f : FunctionType) (is : function_type w ty ≡ Some f) where
    same_type : (g : HasSignature w u ty) → g.signature ≡ f
    same_type g = let e : Some g.signature ≡ Some f = sym g.is_signature ∙ is in cc

    pub other_operands : (b : Bool) → b ≡ false → {inputs : List TypeHandle} → IsTrue b ↔ HaveTypes w u.head.operands inputs → inputs ≡ f.inputs.items → IsTrue false ↔ HasSignature w u ty
    other_operands b fails tells are = (
      λ h. absurd (false≢true h),
      λ g. absurd (false≢true (sym fails ∙ tells.1 (subst (HaveTypes w u.head.operands) (sym are) (subst (λ (x : FunctionType). HaveTypes w u.head.operands x.inputs.items) (same_type g) g.operands)))),
    )

    pub same_operands : (b : Bool) → b ≡ true → {inputs : List TypeHandle} → IsTrue b ↔ HaveTypes w u.head.operands inputs → inputs ≡ f.inputs.items →
        (r : Bool) → {results : List TypeHandle} → IsTrue r ↔ (types_of u.head.results ≡ results) → results ≡ f.results.items → IsTrue r ↔ HasSignature w u ty
    same_operands b holds tells are r says too = (
      λ h. record { signature = f; is_signature = is; operands = subst (HaveTypes w u.head.operands) are (tells.0 holds); results = says.0 h ∙ too },
      λ g. says.1 (g.results ∙ ap (λ (x : FunctionType). x.results.items) (same_type g) ∙ sym too),
    )
