-- One item more of a row.
use Rattle.std.proofs.Common.{◌≡◌, ℕ, zero, suc, ◌+◌, List, [], ◌∷◌, ◌++◌, map, Some, None, option_map, slice_get, take, refl, sym, ap, ◌∙◌, add-one}
use Rattle.std.proofs.lemmas.List.{take_more, map-append}
use Rattle.std.proofs.lemmas.Option.{slice_get-map, slice_get_within, get_or_from_slice_get}
use Rattle.ir_base.specs.declared.types.TypeHandle.{TypeHandle}
use Rattle.ir_program.specs.Program.{Program, type_at}
use Rattle.ir_program.specs.declared.handles.Ptr.{Ptr}
use Rattle.ir_program.specs.declared.handles.Operation.{Operation}
use Rattle.ir_program.specs.declared.handles.Value.{Value}
use Rattle.ir_program.specs.declared.handles.Use.{Use}
use Rattle.ir_queries.specs.Rows.{AreTypesOf, ArePlacesOf, place_at}

-- what a row has up to and with index i
pub one_more : {X : Type 0} (xs : List X) (i : ℕ) (x : X) → slice_get xs i ≡ Some x → take (i + 1) xs ≡ take i xs ++ x ∷ []
one_more xs i x e = take_more xs i x (slice_get_within xs i x e) ∙ ap (λ y. take i xs ++ y ∷ []) (get_or_from_slice_get xs i x x e)

-- the same, where the items so far are known
pub next_item : {X : Type 0} (xs items : List X) (i : ℕ) (x : X) → items ≡ take i xs → slice_get xs i ≡ Some x → items ++ x ∷ [] ≡ take (i + 1) xs
next_item xs items i x so_far e = ap (λ l. l ++ x ∷ []) so_far ∙ sym (one_more xs i x e)

-- the same of the images of items
pub next_image : {X Y : Type 0} (f : X → Y) (xs : List X) (items : List Y) (i : ℕ) (y : Y) → items ≡ take i (map f xs) → option_map f (slice_get xs i) ≡ Some y → items ++ y ∷ [] ≡ take (i + 1) (map f xs)
next_image f xs items i y so_far e = next_item (map f xs) items i y so_far (slice_get-map f xs i ∙ e)

-- one type more
pub next_type : {O B : Type 0} (c : Program O B) (vs : List Value) (tys : List TypeHandle) (i : ℕ) (v : Value) (ty : TypeHandle) → AreTypesOf c (take i vs) tys → slice_get vs i ≡ Some v → type_at c v ≡ Some ty → AreTypesOf c (take (i + 1) vs) (tys ++ ty ∷ [])
next_type c vs tys i v ty so_far e typed =
    ap (map (type_at c)) (one_more vs i v e)
    ∙ map-append (type_at c) (take i vs) (v ∷ [])
    ∙ ap (λ l. l ++ type_at c v ∷ []) so_far
    ∙ ap (λ t. map Some tys ++ t ∷ []) typed
    ∙ sym (map-append Some tys (ty ∷ []))

-- one more of the items made of the items of a row and their indices
next_indexed : {X Y : Type 0} (f : ℕ → X → Y) (xs : List X) (ys : List Y) (i : ℕ) (x : X) → ((k : ℕ) → slice_get ys k ≡ option_map (f k) (slice_get (take i xs) k)) → slice_get xs i ≡ Some x
    → (k : ℕ) → slice_get (ys ++ f i x ∷ []) k ≡ option_map (f k) (slice_get (take (suc i) xs) k)
next_indexed f [] ys i x h e k = cc
next_indexed f (w ∷ xs) [] zero x h e zero = ap (option_map (f 0)) (sym e)
next_indexed f (w ∷ xs) [] zero x h e (suc k) = refl
next_indexed f (w ∷ xs) (y ∷ ys) zero x h e k = let n : Some y ≡ None = h 0 in cc
next_indexed f (w ∷ xs) [] (suc i) x h e k = let n : None ≡ Some (f 0 w) = h 0 in cc
next_indexed f (w ∷ xs) (y ∷ ys) (suc i) x h e zero = h 0
next_indexed f (w ∷ xs) (y ∷ ys) (suc i) x h e (suc k) = next_indexed (λ n. f (suc n)) xs ys i x (λ n. h (suc n)) e k

-- one place more
pub next_place : {K : Type 0} (p : Ptr Operation) (row : List K) (us : List (Use K)) (i : ℕ) (x : K) → ArePlacesOf p (take i row) us → slice_get row i ≡ Some x → ArePlacesOf p (take (i + 1) row) (us ++ place_at p i x ∷ [])
next_place p row us i x so_far e = rw add-one (next_indexed (place_at p) row us i x so_far e)
