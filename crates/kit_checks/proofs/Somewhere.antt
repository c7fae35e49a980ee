-- An operation that isn't the root is somewhere.
use Rattle.std.proofs.Common.{◌≡◌, ◌≢◌, ℕ, List, [], ◌∷◌, Option, Some, None, slice_get, refl, sym, ◌∙◌, subst}
use Rattle.ir_program.specs.Program.{Program}
use Rattle.ir_program.specs.declared.handles.Ptr.{Ptr}
use Rattle.ir_program.specs.declared.handles.Operation.{Operation}
use Rattle.kit_checks.specs.Located.{IsAround, IsAroundIf, IsSiteOf}
use Rattle.kit_checks.specs.Sites.{Around, Site}

module _ {O B : Type 0} (c : Program O B) (root op : Ptr Operation) (s : Site O B) (at : IsSiteOf c root op s) where
  pub around_is : (o : Option (Around O B)) → s.around ≡ o → IsAroundIf c root op o → (a : Around O B) → s.around ≡ Some a → IsAround c root op a
  around_is None here it a is = let e : None ≡ Some a = sym here ∙ is in cc
  around_is (Some d) here it a is = let e : Some d ≡ Some a = sym here ∙ is in let same : d ≡ a = cc in subst (IsAround c root op) same it

  pub around_some : (o : Option (Around O B)) → s.around ≡ o → IsAroundIf c root op o → op ≢ root → (a : Around O B) × (s.around ≡ Some a)
  around_some None here it other = absurd (other it)
  around_some (Some a) here it other = (a, here)

  -- an operation that isn't the root is somewhere
  pub nowhere : op ≢ root → ((a : Around O B) → IsAround c root op a → ⊥) → ⊥
  nowhere other none = let a = around_some s.around refl at.around other in none a.0 (around_is s.around refl at.around a.0 a.1)

-- a list with a member has a first one
pub has_first : {X : Type 0} (xs : List X) (k : ℕ) (x : X) → slice_get xs k ≡ Some x → slice_get xs 0 ≡ None → ⊥
has_first [] k x here none = cc
has_first (y ∷ xs) k x here none = cc
