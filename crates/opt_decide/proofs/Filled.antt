-- Lists that are filled one by one.
use Rattle.std.proofs.Common.{◌≡◌, ℕ, zero, suc, ◌+◌, ◌≤◌, List, [], ◌∷◌, ◌++◌, length, take, Option, Some, None, option_map, slice_get, refl, sym, ap, ◌∙◌, arith}
use Rattle.std.specs.Prelude.{map}
use Rattle.ir_base.specs.declared.types.TypeHandle.{TypeHandle}
use Rattle.ir_program.specs.Program.{TypedValue, type_in, no_handle}
use Rattle.ir_program.specs.declared.handles.Value.{Value}
use Rattle.ir_program.specs.declared.handles.DefiningEntity.TheVariants.{Op as ByOp}
use Rattle.std.proofs.lemmas.List.{take_more, map-append}
use Rattle.std.proofs.lemmas.Option.{slice_get_within, get_or_from_slice_get}

-- the first i and the next are the first i + 1
pub take_next : {X : Type 0} (xs : List X) (i : ℕ) (x : X) → slice_get xs i ≡ Some x → take (i + 1) xs ≡ take i xs ++ x ∷ []
take_next xs i x h = take_more xs i x (slice_get_within xs i x h) ∙ ap (λ y. take i xs ++ y ∷ []) (get_or_from_slice_get xs i x x h)

pub take_all : {X : Type 0} (xs : List X) (i : ℕ) → length xs ≤ i → take i xs ≡ xs
take_all [] zero h = refl
take_all [] (suc i) h = refl
take_all (x ∷ xs) zero h = absurd (omega (arith, h))
take_all (x ∷ xs) (suc i) h = ap (λ ys. x ∷ ys) (take_all xs i (omega (arith, h)))

-- what is made of the next one is put behind what is made of the first i
pub mapped_next : {X Y : Type 0} (f : X → Y) (xs : List X) (row row' : List Y) (i : ℕ) (x : X) (y : Y) → slice_get xs i ≡ Some x → y ≡ f x → row' ≡ row ++ y ∷ [] → row ≡ map f (take i xs) → row' ≡ map f (take (i + 1) xs)
mapped_next f xs row row' i x y h is e s =
    e ∙ ap (λ z. row ++ z ∷ []) is ∙ ap (λ r. r ++ f x ∷ []) s ∙ sym (map-append f (take i xs) (x ∷ [])) ∙ ap (map f) (sym (take_next xs i x h))

pub mapped_all : {X Y : Type 0} (f : X → Y) (xs : List X) (row : List Y) (i : ℕ) → length xs ≤ i → row ≡ map f (take i xs) → row ≡ map f xs
mapped_all f xs row i h s = s ∙ ap (map f) (take_all xs i h)

pub mapped_at : {X Y : Type 0} (f : X → Y) (xs : List X) (row row' : List Y) (i : ℕ) (y : Y) → option_map f (slice_get xs i) ≡ Some y → row' ≡ row ++ y ∷ [] → row ≡ map f (take i xs) → row' ≡ map f (take (i + 1) xs)
mapped_at {X = X} {Y = Y} f xs row row' i y h e s = by_item (slice_get xs i) refl h
  where
    by_item : (o : Option X) → slice_get xs i ≡ o → option_map f o ≡ Some y → row' ≡ map f (take (i + 1) xs)
    by_item None at g = cc
    by_item (Some x) at g = let q : y ≡ f x = cc in mapped_next f xs row row' i x y at q e s

-- the type of one definition more
pub typed_next : (ts : List TypedValue) (row row' : List TypeHandle) (i : ℕ) (y : TypeHandle) → type_in ts i ≡ Some y → row' ≡ row ++ y ∷ [] → row ≡ map (λ (t : TypedValue). t.ty) (take i ts) → row' ≡ map (λ (t : TypedValue). t.ty) (take (i + 1) ts)
typed_next ts row row' i y h e s = mapped_at (λ (t : TypedValue). t.ty) ts row row' i y h e s

abbrev pub no_value : Value
no_value = record { definer = ByOp no_handle; number = 0 }
