-- Paths of names, step by step.
use Rattle.std.proofs.Common.{◌≡◌, ℕ, zero, suc, ◌+◌, ◌<◌, ◌-◌, Bool, true, false, List, [], ◌∷◌, length, get_or, drop, map, Option, Some, None, IsSome, option_map, option_and_then, slice_get, refl, sym, ap, ◌∙◌, subst, if◌then◌else◌, arith}
use Rattle.std.specs.Prelude.{IfSome, unwrap_or}
use Rattle.std.proofs.lemmas.Option.{same_Some, none-some, slice_get_read}
use Rattle.std.proofs.lemmas.List.{drop_more, drop_all}
use Rattle.ir_program.specs.Program.{operation_at}
use Rattle.ir_program.specs.Lists.{operations_in, StandsInBlock}
use Rattle.ir_program.specs.declared.handles.BasicBlock.{BasicBlock}
use Rattle.ir_names.specs.declared.identifier.Identifier.{Identifier}
use Rattle.ir_names.specs.Identifier.{text_of}
use Rattle.ir_program.specs.declared.handles.Ptr.{Ptr}
use Rattle.ir_program.specs.declared.handles.Operation.{Operation}
use Rattle.ir_trees.specs.Searched.{Lists}
use Rattle.kit.specs.Context.{KitProgram}
use Rattle.kit_places.specs.declared.places.Place.{Place}
use Rattle.kit_places.specs.Store.{body_of, members, function_named, module_named, first_with, locate}
use Rattle.kit_places.specs.Placed.{IsPlaceOfFunction, IsLocated}

abbrev texts : List Identifier → List (List ℕ)
texts = map text_of

-- what is found is listed
pub first_listed : {X : Type 0} (test : X → Bool) (xs : List X) (x : X) → first_with test xs ≡ Some x → Lists xs x
first_listed test [] x e = cc
first_listed {X} test (y ∷ ys) x e = go (test y) (first_listed test ys x) e
  where
    go : (b : Bool) → (first_with test ys ≡ Some x → Lists ys x)
        → (if b then Some y else first_with test ys) ≡ Some x → Lists (y ∷ ys) x
    go true h e = (0, e)
    go false h e = let l = h e in (suc l.0, l.1)

nonempty_left : {X : Type 0} (xs : List X) (n : ℕ) → n < length xs → 0 < length (drop n xs)
nonempty_left [] n h = absurd (omega arith)
nonempty_left (x ∷ xs) zero h = omega arith
nonempty_left (x ∷ xs) (suc n) h = nonempty_left xs n (omega (arith, h))

module _ (c : KitProgram) where
  at_more : (m : Ptr Operation) (x : Identifier) (rest : List Identifier) → 0 < length rest
      → locate c m (texts (x ∷ rest)) ≡ option_and_then (λ k. locate c k (texts rest)) (module_named c m (text_of x))
  at_more m x [] h = absurd (omega arith)
  at_more m x (y ∷ ys) h = refl

  -- one step of a path that goes on
  pub one_step : (m : Ptr Operation) (path : List Identifier) (i : ℕ) (x : Identifier) → i + 1 < length path
      → x ≡ get_or path i x → (text : List ℕ) → text ≡ text_of x
      → locate c m (texts (drop i path)) ≡ option_and_then (λ k. locate c k (texts (drop (i + 1) path)))
      (module_named c m text)
  one_step m path i x l e text t =
      let d = drop_more path i x (omega (arith, l)) in
      let h : drop i path ≡ x ∷ drop (i + 1) path = d ∙ ap (λ (y : Identifier). y ∷ drop (i + 1) path) (sym e) in
      ap (λ (p : List Identifier). locate c m (texts p)) h
      ∙ at_more m x (drop (i + 1) path) (nonempty_left path (i + 1) l)
      ∙ ap (λ (n : List ℕ). option_and_then (λ k. locate c k (texts (drop (i + 1) path))) (module_named c m n)) (sym t)

  -- the last step
  pub last_step : (m : Ptr Operation) (path : List Identifier) (i : ℕ) (x : Identifier) → i + 1 ≡ length path
      → x ≡ get_or path i x → locate c m (texts (drop i path)) ≡ option_map
      (λ f. record { within = m; function = f }) (function_named c m (text_of x))
  last_step m path i x l e =
      let d = drop_more path i x (omega (arith, l)) in
      let n = drop_all (i + 1) path (omega (arith, l)) in
      let h : drop i path ≡ x ∷ [] = d ∙ (λ j. sym e j ∷ n j) in
      ap (λ (p : List Identifier). locate c m (texts p)) h

  -- the function at the last name
  pub located : (path : List Identifier) (i : ℕ) (x : Identifier) → i + 1 ≡ length path → x ≡ get_or path i x
      → (r : Option Place) → IfSome r (IsPlaceOfFunction c (text_of x)) → IfSome r (IsLocated c path)
  located path i x l e None h = tt
  located path i x l e (Some p) h =
      let n : length path - 1 ≡ i = omega (arith, l) in
      let at : slice_get path i ≡ Some x = slice_get_read path (length path) i x refl (omega (arith, l)) e in
      record {
        nonempty = omega (arith, l);
        within_live = h.within_live;
        function_live = h.function_live;
        place = λ y f. let s : x ≡ y = same_Some x y (sym at ∙ ap (slice_get path) (sym n) ∙ f) in subst
            (λ (z : Identifier). IsPlaceOfFunction c (text_of z) p) s h;
      }

-- what is found in a module is there
pub member_live : (p c : KitProgram) → p ≡ c →
    ((b : Ptr BasicBlock) (k : ℕ) (q : Ptr Operation) → slice_get (operations_in p b) k ≡ Some q
    → StandsInBlock p q b) → (m f : Ptr Operation) → Lists (members c m) f → IsSome (operation_at c f)
member_live p c e know m f l = go (slice_get (body_of c m) 0) l
  where
    go : (o : Option (Ptr BasicBlock)) → Lists (unwrap_or (option_map (operations_in c) o) []) f
        → IsSome (operation_at c f)
    go None l = absurd (none-some f l.1)
    go (Some b) l = (subst (λ (r : KitProgram). (b : Ptr BasicBlock) (k : ℕ) (q : Ptr Operation)
        → slice_get (operations_in r b) k ≡ Some q → StandsInBlock r q b) e know b l.0 f l.1).operation
