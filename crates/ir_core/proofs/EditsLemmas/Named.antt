-- What is named, and what is refused where a name stands for nothing.
use Rattle.std.proofs.Common.{◌≡◌, true≢false, refl, List, Option, Some, None, is_some, Result, Err, sym, ap, ◌∙◌, subst, length}
use Rattle.ir_context.specs.Views.{ContextView}
use Rattle.ir_types.specs.Views.{TypesView}
use Rattle.ir_context.specs.declared.errors.CoreError.{CoreError}
use Rattle.ir_context.specs.declared.errors.CoreError.TheVariants.{EditNotAllowed}
use Rattle.ir_context.specs.declared.notes.OperationData.{OperationData}
use Rattle.ir_context.specs.declared.notes.BlockNotes.{BlockNotes}
use Rattle.ir_core.specs.declared.edits.edit.Entity.{Entity}
use Rattle.ir_core.specs.declared.edits.edit.Edit.{Edit}
use Rattle.ir_core.specs.declared.edits.edit.Edit.TheVariants as edit
use Rattle.ir_core.specs.edits.Resolving.{resolved}
use Rattle.ir_core.specs.edits.Same.{IsSame}
use Rattle.ir_core.specs.edits.Steps.{IfNamed, does, step}

-- something is not nothing
pub none_no_some : {X : Type 0} (x : X) → None ≡ Some x → ⊥
none_no_some x h = true≢false (sym (ap is_some h))

module _ {X O B T R : Type 0} (c n : ContextView O B T) (r : Result R CoreError) (P : X → Type 0) where
  -- where the name stands for something
  pub named_some : (o found : Option X) (x : X) → found ≡ o → found ≡ Some x → P x → IfNamed o c n r P
  named_some None found x same here h = absurd (none_no_some x (sym same ∙ here))
  named_some (Some y) found x same here h = let e : Some x ≡ Some y = sym here ∙ same in let q : x ≡ y = cc in subst P q h

  -- where it does not
  pub named_none : (o found : Option X) → found ≡ o → found ≡ None → r ≡ Err EditNotAllowed → IsSame c n → IfNamed o c n r P
  named_none None found same none refused still = (refused, still)
  named_none (Some y) found same none refused still = absurd (none_no_some y (sym none ∙ same))

-- a dialect and its types
module _ {D TypeKind AttrKind TypeBody Saved Location OpKind Attr TypeKey K T S : Type 0} (nowhere : Location) where
  -- an edit without lists is made of what its names stand for
  pub of_names : (c : ContextView (OperationData D TypeKind AttrKind TypeBody Saved Location OpKind Attr TypeKey) (BlockNotes D TypeKind AttrKind TypeBody Saved Location OpKind Attr TypeKey) (TypesView K T S)) (made : List (Option Entity)) (e : Edit OpKind)
      (n : ContextView (OperationData D TypeKind AttrKind TypeBody Saved Location OpKind Attr TypeKey) (BlockNotes D TypeKind AttrKind TypeBody Saved Location OpKind Attr TypeKey) (TypesView K T S)) (r : Result (Option Entity) CoreError)
      → ((kind : _) (tys : _) (operands : _) (successors : _) (count : _) → e ≡ edit.NewOperation kind tys operands successors count → ⊥)
      → ((label : _) (tys : _) → e ≡ edit.NewBlock label tys → ⊥)
      → ((block : _) (places : _) (other : _) → e ≡ edit.RetargetSomePredsTo block places other → ⊥)
      → ((value : _) (places : _) (other : _) → e ≡ edit.ReplaceSomeUsesWith value places other → ⊥)
      → IfNamed (resolved c.program made e) c n r (λ d. does (λ types. length types.keys) c d n r) → step nowhere c made e n r
  of_names c made (edit.NewOperation kind tys operands successors count) n r never _ _ _ h = absurd (never kind tys operands successors count refl)
  of_names c made (edit.NewBlock label tys) n r _ never _ _ h = absurd (never label tys refl)
  of_names c made (edit.RetargetSomePredsTo block places other) n r _ _ never _ h = absurd (never block places other refl)
  of_names c made (edit.ReplaceSomeUsesWith value places other) n r _ _ _ never h = absurd (never value places other refl)
  of_names c made e n r _ _ _ _ h = h
