-- What tests of functions and of returns tell of the rules on them.
use Rattle.std.proofs.Common.{◌≡◌, ◌↔◌, Bool, true, false, Option, Some, None, IsTrue, refl, sym, ◌∙◌, subst, true≢false}
use Rattle.ir_program.specs.Program.{Program}
use Rattle.ir_program.specs.declared.handles.Ptr.{Ptr}
use Rattle.ir_program.specs.declared.handles.Operation.{Operation}
use Rattle.ir_trees.specs.Stands.{ProgramTree, StandsFor}
use Rattle.kit_ops.specs.declared.kinds.KitOp.TheVariants as ops
use Rattle.kit_ops.specs.declared.types.FunctionType.{FunctionType}
use Rattle.kit_checks.specs.Reading.{IsInRegionOfFunction, IsInKind, IsOwner, OfTree, ReturnsTo, TakesInputs}
use Rattle.kit_checks.specs.Rules.{InKind, ReturnsFit, HasFunctionBody}
use Rattle.kit_checks.specs.Sites.{Around, Site}
use Rattle.kit_checks.specs.Words.{Every, IsInteger, kind_of, signature}
use Rattle.kit_checks.specs.World.{World}

module _ {O B : Type 0} (w : World O B) (c : Program O B) (s : Site O B) where
  -- the owner, where that is a function
  owner_is : (around : Option (Around O B)) (o : Option (Ptr Operation)) → s.around ≡ around → IsOwner c around o → IsInKind w s ops.Func → IsInRegionOfFunction w c s o
  owner_is None o here it h = let e : None ≡ Some h.0 = sym here ∙ h.1.0 in cc
  owner_is (Some a) None here it h = absurd it
  owner_is (Some a) (Some f) here it h =
      let e : Some h.0 ≡ Some a = sym h.1.0 ∙ here in
      let same : h.0 ≡ a = cc in
      (h.0, h.1, subst (λ (x : Around O B). StandsFor c f x.owner) (sym same) it)

  pub function_is : (o : Option (Ptr Operation)) (is : Bool) → is ≡ true → IsTrue is ↔ IsInKind w s ops.Func → IsOwner c s.around o → IsInRegionOfFunction w c s o
  function_is o is holds tells owner = owner_is s.around o refl owner (tells.0 holds)

  pub no_function : (is : Bool) → is ≡ false → IsTrue is ↔ IsInKind w s ops.Func → IsInRegionOfFunction w c s None
  no_function is fails tells h = true≢false (sym (tells.1 h) ∙ fails)

  -- what is returned
  pub returns_from : (o : Option (Ptr Operation)) (f : Ptr Operation) (r : Bool) → o ≡ Some f → IsInRegionOfFunction w c s o → kind_of w s.op ≡ ops.Return →
      OfTree c f (λ x. IsTrue r ↔ ReturnsTo w s.op x) → IsTrue r ↔ ReturnsFit w s
  returns_from o f r is around kind tells =
      let m : (a : Around O B) × InKind w s ops.Func a × StandsFor c f a.owner = subst (IsInRegionOfFunction w c s) is around in
      let t = tells m.0.owner m.2 in (
        λ h k a ty inside sig.
            let e : Some a ≡ Some m.0 = sym inside.0 ∙ m.1.0 in
            let same : a ≡ m.0 = cc in
            t.0 h ty (subst (λ (x : Around O B). signature w x.owner ≡ Some ty) same sig),
        λ keeps. t.1 (λ ty sig. keeps kind m.0 ty m.1 sig),
      )

  pub returns_nowhere : (o : Option (Ptr Operation)) → o ≡ None → IsInRegionOfFunction w c s o → IsTrue true ↔ ReturnsFit w s
  returns_nowhere o is around =
      let none : IsInKind w s ops.Func → ⊥ = subst (IsInRegionOfFunction w c s) is around in
      (λ h k a ty inside sig. absurd (none (a, inside)), λ h. refl)

-- the parts of a function's type
module _ {O B : Type 0} (w : World O B) (u : ProgramTree O B) (ty : FunctionType) (is : signature w u ≡ Some ty) where
  type_of : (h : HasFunctionBody w u) → h.type ≡ ty
  type_of h = let e : Some h.type ≡ Some ty = sym h.has_type ∙ is in cc

  pub takes_of : HasFunctionBody w u → TakesInputs u ty.inputs.items
  takes_of h = subst (λ (f : FunctionType). TakesInputs u f.inputs.items) (type_of h) (h.entry, h.has_entry, h.arguments)

  pub body_of : Every (IsInteger w) ty.inputs.items → Every (IsInteger w) ty.results.items → TakesInputs u ty.inputs.items → HasFunctionBody w u
  body_of inputs results takes = record { type = ty; has_type = is; inputs = inputs; results = results; entry = takes.0; has_entry = takes.1; arguments = takes.2 }
