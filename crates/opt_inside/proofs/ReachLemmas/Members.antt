-- Members of lists, and of what is made of lists one by one.
use Rattle.std.proofs.Common.{◌≡◌, inl, inr, ℕ, zero, suc, List, [], ◌∷◌, Some, slice_get, option_map, refl, sym, ap, ◌∙◌}
use Rattle.std.specs.Prelude.{map, Contains}
use Rattle.std.proofs.lemmas.Option.{none-some, same_Some, slice_get-map, slice_get-get_or, slice_get_within, get_or_from_slice_get}
use Rattle.ir_trees.specs.Searched.{Lists}
use Rattle.opt_trees.specs.Occurrences.{Has}

module _ {X : Type 0} where
  pub has_lists : (xs : List X) (x : X) → Has x xs → Lists xs x
  has_lists [] x h = absurd h
  has_lists (y ∷ ys) x (inl e) = (0, ap Some (sym e))
  has_lists (y ∷ ys) x (inr h) = let l = has_lists ys x h in (suc l.0, l.1)

  pub lists_has : (xs : List X) (x : X) (k : ℕ) → slice_get xs k ≡ Some x → Has x xs
  lists_has [] x k e = absurd (none-some x e)
  lists_has (y ∷ ys) x zero e = inl (sym (same_Some y x e))
  lists_has (y ∷ ys) x (suc k) e = inr (lists_has ys x k e)

  pub contains_lists : (xs : List X) (x : X) → Contains xs x → Lists xs x
  contains_lists xs x h = (h.0, slice_get-get_or xs h.0 x h.1 ∙ ap Some h.2)

  pub lists_contains : (xs : List X) (x : X) → Lists xs x → Contains xs x
  lists_contains xs x l = (l.0, slice_get_within xs l.0 x l.1, get_or_from_slice_get xs l.0 x x l.1)

module _ {X Y : Type 0} (f : X → Y) where
  -- what is in the list that was made was made of one in the other
  pub made_of : (xs : List X) (ys : List Y) (y : Y) → ys ≡ map f xs → Contains ys y → (x : X) × Has x xs × (f x ≡ y)
  made_of xs ys y e h = let l = contains_lists ys y h in back xs l.0 (sym (slice_get-map f xs l.0) ∙ ap (λ zs. slice_get zs l.0) (sym e) ∙ l.1)
    where
      back : (zs : List X) (k : ℕ) → option_map f (slice_get zs k) ≡ Some y → (x : X) × Has x zs × (f x ≡ y)
      back [] k a = absurd (none-some y a)
      back (z ∷ zs) zero a = (z, inl refl, same_Some (f z) y a)
      back (z ∷ zs) (suc k) a = let r = back zs k a in (r.0, inr r.1, r.2)

  pub made_in : (xs : List X) (ys : List Y) (x : X) → ys ≡ map f xs → Has x xs → Contains ys (f x)
  made_in xs ys x e h = let l = has_lists xs x h in lists_contains ys (f x) (l.0, ap (λ zs. slice_get zs l.0) e ∙ slice_get-map f xs l.0 ∙ ap (option_map f) l.1)
