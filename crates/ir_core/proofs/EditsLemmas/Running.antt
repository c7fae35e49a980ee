-- A list of edits is run from the first on.
use Rattle.std.proofs.Common.{◌≡◌, ℕ, suc, ◌+◌, ◌<◌, List, [], ◌∷◌, length, take, drop, Option, Some, Result, Ok, Err, refl, sym, ap, ◌∙◌, subst, arith, slice_get, slice_set}
use Rattle.std.proofs.lemmas.List.{take_more_set, length-take-le}
use Rattle.std.proofs.lemmas.Option.{slice_get_within, get_or_from_slice_get}
use Rattle.std.proofs.Math.Seq.{drop-cons, take-length}
use Rattle.ir_context.specs.Views.{ContextView}
use Rattle.ir_types.specs.Views.{TypesView}
use Rattle.ir_context.specs.declared.errors.CoreError.{CoreError}
use Rattle.ir_context.specs.declared.notes.OperationData.{OperationData}
use Rattle.ir_context.specs.declared.notes.BlockNotes.{BlockNotes}
use Rattle.ir_core.specs.declared.edits.edit.Entity.{Entity}
use Rattle.ir_core.specs.declared.edits.edit.Edit.{Edit}
use Rattle.ir_core.specs.edits.Steps.{step, RunsEdits, ends, goes_on, stops}

-- the rest of a list begins with the element at its index
pub rest : {X : Type 0} (xs : List X) (i : ℕ) (x : X) → slice_get xs i ≡ Some x → drop i xs ≡ x ∷ drop (i + 1) xs
rest xs i x e = drop-cons xs i x (slice_get_within xs i x e) ∙ ap (λ y. y ∷ drop (suc i) xs) (get_or_from_slice_get xs i x x e) ∙ ap (λ n. x ∷ drop n xs) {x = suc i} {y = i + 1} (omega arith)

-- after all elements there are none
drop_all : {X : Type 0} (xs : List X) → drop (length xs) xs ≡ []
drop_all [] = refl
drop_all (x ∷ xs) = drop_all xs

-- a dialect and its types
module _ {D TypeKind AttrKind TypeBody Saved Location OpKind Attr TypeKey K T S : Type 0} (nowhere : Location) where
  -- the list comes to what its rest comes to from here
  abbrev pub ComesTo : (ContextView (OperationData D TypeKind AttrKind TypeBody Saved Location OpKind Attr TypeKey) (BlockNotes D TypeKind AttrKind TypeBody Saved Location OpKind Attr TypeKey) (TypesView K T S)) → List (Edit OpKind) → (ContextView (OperationData D TypeKind AttrKind TypeBody Saved Location OpKind Attr TypeKey) (BlockNotes D TypeKind AttrKind TypeBody Saved Location OpKind Attr TypeKey) (TypesView K T S)) → List (Option Entity) → List (Edit OpKind) → Type 0
  ComesTo old edits now made left = (n : (ContextView (OperationData D TypeKind AttrKind TypeBody Saved Location OpKind Attr TypeKey) (BlockNotes D TypeKind AttrKind TypeBody Saved Location OpKind Attr TypeKey) (TypesView K T S))) (answer : Result (List (Option Entity)) (ℕ × CoreError)) → RunsEdits nowhere now made left n answer → RunsEdits nowhere old [] edits n answer

  -- one edit more was made
  pub came : (old c mid : (ContextView (OperationData D TypeKind AttrKind TypeBody Saved Location OpKind Attr TypeKey) (BlockNotes D TypeKind AttrKind TypeBody Saved Location OpKind Attr TypeKey) (TypesView K T S))) (edits : List (Edit OpKind)) (made : List (Option Entity)) (i : ℕ) (e : Edit OpKind) (m : Option Entity)
      → slice_get edits i ≡ Some e → i < length made → step nowhere c (take i made) e mid (Ok m)
      → ComesTo old edits c (take i made) (drop i edits) → ComesTo old edits mid (take (i + 1) (slice_set made i m)) (drop (i + 1) edits)
  came old c mid edits made i e m at lt s so n answer r = so n answer
      (subst (λ es. RunsEdits nowhere c (take i made) es n answer) (sym (rest edits i e at))
      (goes_on c mid n (take i made) e (drop (i + 1) edits) m answer s (subst (λ ms. RunsEdits nowhere mid ms (drop (i + 1) edits) n answer) (take_more_set made i m lt) r)))

  -- an edit was refused
  pub stopped : (old c new : (ContextView (OperationData D TypeKind AttrKind TypeBody Saved Location OpKind Attr TypeKey) (BlockNotes D TypeKind AttrKind TypeBody Saved Location OpKind Attr TypeKey) (TypesView K T S))) (edits : List (Edit OpKind)) (made : List (Option Entity)) (i : ℕ) (e : Edit OpKind) (refusal : CoreError)
      → slice_get edits i ≡ Some e → i < length made → step nowhere c (take i made) e new (Err refusal)
      → ComesTo old edits c (take i made) (drop i edits) → RunsEdits nowhere old [] edits new (Err (i, refusal))
  stopped old c new edits made i e refusal at lt s so = so new (Err (i, refusal))
      (subst (λ es. RunsEdits nowhere c (take i made) es new (Err (i, refusal))) (sym (rest edits i e at))
      (subst (λ k. RunsEdits nowhere c (take i made) (e ∷ drop (i + 1) edits) new (Err (k, refusal))) (length-take-le i made (omega (arith, lt))) (stops c new (take i made) e (drop (i + 1) edits) refusal s)))

  -- all were made
  pub ended : (old c : (ContextView (OperationData D TypeKind AttrKind TypeBody Saved Location OpKind Attr TypeKey) (BlockNotes D TypeKind AttrKind TypeBody Saved Location OpKind Attr TypeKey) (TypesView K T S))) (edits : List (Edit OpKind)) (made : List (Option Entity)) → length made ≡ length edits
      → ComesTo old edits c (take (length edits) made) (drop (length edits) edits) → RunsEdits nowhere old [] edits c (Ok made)
  ended old c edits made len so = so c (Ok made)
      (subst (λ es. RunsEdits nowhere c (take (length edits) made) es c (Ok made)) (sym (drop_all edits))
      (subst (λ ms. RunsEdits nowhere c ms [] c (Ok made)) (sym (ap (λ k. take k made) (sym len) ∙ take-length made)) (ends c made)))
