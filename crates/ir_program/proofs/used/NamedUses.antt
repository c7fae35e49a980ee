-- The uses that the places of a row of each operation stand for.
use Rattle.std.proofs.Common.{◌≡◌, ℕ, List, [], map, length, Option, Some, None, IsSome, option_map, unwrap_or, slice_get, refl, sym, ap, ◌∙◌, subst}
use Rattle.std.proofs.lemmas.List.{length-map}
use Rattle.std.proofs.lemmas.Option.{slice_get-map, same_Some}
use Rattle.ir_arena.specs.declared.arena.Slot.{Slot}
use Rattle.ir_arena.specs.Arena.{get, held}
use Rattle.ir_entities.specs.Forest.{pointer_to}
use Rattle.ir_entities.specs.Placed.{IsPlaced, place_at}
use Rattle.ir_entities.specs.Uses.{Uses, PlaceOfUse, key_of, place_of, named_of, IsDefined, IsPlace, NamesDefinition, AreNamingPlaces}
use Rattle.ir_program.specs.Handles.{handle}
use Rattle.ir_program.specs.Program.{named_or}
use Rattle.ir_program.specs.Spots.{user_at, index_at, use_at}
use Rattle.ir_program.specs.Uses.{IsUseIn, AreUsesIn, IsUseCountIn}
use Rattle.ir_program.specs.declared.handles.Ptr.{Ptr}
use Rattle.ir_program.specs.declared.handles.Operation.{Operation}
use Rattle.ir_program.specs.declared.handles.Use.{Use}
use Rattle.ir_program.proofs.made.Lent.{held-was, some_is}
use Rattle.ir_program.proofs.rows.RowNames.{named-is}
use Rattle.ir_program.proofs.lists.Slotted.{at_has, has_at, once_at, handle_is}
use Rattle.ir_program.proofs.defined.Stands.{get-held}

pub same_use : {K : Type 0} (a b : Use K) → a.user_op ≡ b.user_op → a.index ≡ b.index → a.def ≡ b.def → a ≡ b
same_use a b p k d = rw (p, k, d) refl

-- an item of a list of images is one of these
pub from_map : {X Y : Type 0} (f : X → Y) (xs : List X) (i : ℕ) (y : Y) → slice_get (map f xs) i ≡ Some y → (x : X) × (slice_get xs i ≡ Some x) × (f x ≡ y)
from_map {X} {Y} f xs i y e = by (slice_get xs i) refl
  where
    by : (o : Option X) → slice_get xs i ≡ o → (x : X) × (slice_get xs i ≡ Some x) × (f x ≡ y)
    by None h = let n : slice_get (map f xs) i ≡ None = slice_get-map f xs i ∙ ap (option_map f) h in cc
    by (Some x) h = (x, h, same_Some (f x) y (sym (slice_get-map f xs i ∙ ap (option_map f) h) ∙ e))

-- what names a definition is in use
pub named-place : {K : Type 0} (u : Uses K) (q d : ℕ) → NamesDefinition u q d → IsPlace u q
named-place u q d names = by (place_of u q) names
  where
    by : (o : Option PlaceOfUse) → named_of o ≡ Some d → IsSome o
    by None h = cc
    by (Some x) h = refl

module _ {R K : Type 0} (none : K) (u : Uses K) (ops : List (Slot R)) (cell : R → List ℕ) where
  -- the places of an operation, if there is one
  abbrev pub places_in : Option R → List ℕ
  places_in o = unwrap_or (option_map cell o) []

  -- what the places of each operation name
  abbrev pub seen_rows : Ptr Operation → List K
  seen_rows p = map (named_or none u) (places_in (get ops p.key))

  abbrev pub use_of : ℕ → Use K
  use_of q = use_at (named_or none u) ops u q

  some_row : (o : Option R) (k q : ℕ) → slice_get (places_in o) k ≡ Some q → IsSome o
  some_row None k q e = cc
  some_row (Some r) k q e = refl

  module _ (placed : IsPlaced (place_of u) (λ i. places_in (held ops i))) where
    -- a place stands in the row of its user
    stands : (q : ℕ) → IsPlace u q → slice_get (places_in (held ops (user_at (place_of u q)))) (index_at (place_of u q)) ≡ Some q
    stands q used = by (place_of u q) refl used
      where
        by : (o : Option PlaceOfUse) → place_of u q ≡ o → IsSome o → slice_get (places_in (held ops (user_at o))) (index_at o) ≡ Some q
        by None e h = cc
        by (Some x) e h = placed.all q x e

    pub user-held : (q : ℕ) → IsPlace u q → IsSome (held ops (user_at (place_of u q)))
    user-held q used = some_row (held ops (user_at (place_of u q))) (index_at (place_of u q)) q (stands q used)

    -- what stands at a place is a use of what it names
    pub place-use : (q : ℕ) → IsPlace u q → IsUseIn seen_rows (use_of q)
    place-use q used =
        ap (λ o. slice_get (map (named_or none u) (places_in o)) (index_at (place_of u q))) (get-held ops (user_at (place_of u q)))
        ∙ slice_get-map (named_or none u) (places_in (held ops (user_at (place_of u q)))) (index_at (place_of u q))
        ∙ ap (option_map (named_or none u)) (stands q used)

    -- two places where one use stands are the same
    one-place : (p q : ℕ) → IsPlace u p → IsPlace u q → use_of p ≡ use_of q → p ≡ q
    one-place p q used too e =
        let user : user_at (place_of u p) ≡ user_at (place_of u q) = ap (λ (x : Use K). x.user_op.key.slot) e in
        let index : index_at (place_of u p) ≡ index_at (place_of u q) = ap (λ (x : Use K). x.index) e in
        same_Some p q (sym (stands p used) ∙ ap (λ i. slice_get (places_in (held ops i)) (index_at (place_of u p))) user ∙ ap (slice_get (places_in (held ops (user_at (place_of u q))))) index ∙ stands q too)

    -- the operation of a use is there, and a place stands at its index
    pub use-stands : (y : Use K) → IsUseIn seen_rows y → (q : ℕ) × (slice_get (places_in (get ops y.user_op.key)) y.index ≡ Some q) × IsPlace u q × (use_of q ≡ y)
    use-stands y given = by (get ops y.user_op.key) refl
      where
        by : (o : Option R) → get ops y.user_op.key ≡ o → (q : ℕ) × (slice_get (places_in (get ops y.user_op.key)) y.index ≡ Some q) × IsPlace u q × (use_of q ≡ y)
        by None e = let n : slice_get (seen_rows y.user_op) y.index ≡ None = ap (λ o. slice_get (map (named_or none u) (places_in o)) y.index) e in cc
        by (Some r) e =
            let at = from_map (named_or none u) (places_in (get ops y.user_op.key)) y.index y.def given in
            let held-row : held ops y.user_op.key.slot ≡ Some r = held-was ops y.user_op.key r r e in
            let its = placed.held y.user_op.key.slot y.index at.0 (ap (λ o. slice_get (places_in o) y.index) (held-row ∙ sym e) ∙ at.1) in
            let live : IsSome (get ops y.user_op.key) = some_is (get ops y.user_op.key) r e in
            let user : (use_of at.0).user_op ≡ y.user_op = ap (λ o. handle (pointer_to ops (user_at o))) its.1 ∙ handle_is ops y.user_op live in
            (at.0, at.1, some_is (place_of u at.0) (place_at its.0 y.user_op.key.slot y.index) its.1, same_use (use_of at.0) y user (ap index_at its.1) at.2)

    module _ (t : ℕ) (x : K) (key : key_of u t ≡ Some x) (only : (d : ℕ) → key_of u d ≡ Some x → d ≡ t) (known : (q d : ℕ) → NamesDefinition u q d → IsDefined u d) where
      -- a place that names x names its thread
      pub named-thread : (q : ℕ) → IsPlace u q → named_or none u q ≡ x → NamesDefinition u q t
      named-thread q used is = by (place_of u q) refl used
        where
          by_key : (d : ℕ) → NamesDefinition u q d → (o : Option K) → key_of u d ≡ o → NamesDefinition u q t
          by_key d names None e = let k : IsDefined u d = known q d names in cc
          by_key d names (Some z) e = let v : named_or none u q ≡ z = named-is none u u refl q d z names e in names ∙ ap Some (only d (e ∙ ap Some (sym v ∙ is)))

          by : (o : Option PlaceOfUse) → place_of u q ≡ o → IsSome o → NamesDefinition u q t
          by None e h = cc
          by (Some y) e h = by_key y.definition (ap named_of e) (key_of u y.definition) refl

      -- a use of x stands at a place of its thread
      pub use-place : (y : Use K) → IsUseIn seen_rows y → y.def ≡ x → (q : ℕ) × NamesDefinition u q t × (use_of q ≡ y)
      use-place y given is =
          let at = use-stands y given in
          (at.0, named-thread at.0 at.2 (ap (λ (z : Use K). z.def) at.3 ∙ is), at.3)

      -- a place of its thread is a use of x
      pub thread-use : (q : ℕ) → NamesDefinition u q t → IsUseIn seen_rows (use_of q) × ((use_of q).def ≡ x)
      thread-use q names = (place-use q (named-place u q t names), named-is none u u refl q t x names key)

      pub uses-seen : (ps : List ℕ) → AreNamingPlaces u t ps → AreUsesIn seen_rows x (map use_of ps)
      uses-seen ps uses = record {
        once = λ i j y e f.
            let a = from_map use_of ps i y e in
            let b = from_map use_of ps j y f in
            let p : a.0 ≡ b.0 = one-place a.0 b.0 (used i a.0 a.1) (used j b.0 b.1) (a.2 ∙ sym b.2) in
            once_at ps i j a.0 uses.distinct a.1 (b.1 ∙ ap Some (sym p));
        sound = λ i y e.
            let a = from_map use_of ps i y e in
            subst (λ z. IsUseIn seen_rows z × (z.def ≡ x)) a.2 (thread-use a.0 ((uses.exact a.0).0 (at_has ps i a.0 a.1)));
        all = λ y given is.
            let a = use-place y given is in
            let k = has_at ps a.0 ((uses.exact a.0).1 a.1) in
            (k.0, slice_get-map use_of ps k.0 ∙ ap (option_map use_of) k.1 ∙ ap Some a.2);
      }
        where
          used : (i q : ℕ) → slice_get ps i ≡ Some q → IsPlace u q
          used i q e = named-place u q t ((uses.exact q).0 (at_has ps i q e))

      pub count-seen : (n : ℕ) → (ps : List ℕ) × AreNamingPlaces u t ps × (length ps ≡ n) → IsUseCountIn seen_rows x n
      count-seen n uses = (map use_of uses.0, uses-seen uses.0 uses.1, length-map uses.0 use_of ∙ uses.2)
