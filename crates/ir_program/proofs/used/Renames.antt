-- What the places of a row name, once the places of a definition name another.
use Rattle.std.proofs.Common.{◌≡◌, ◌≢◌, ℕ, suc, ◌+◌, Bool, true, false, cond, eqb, ◌||◌, List, [], ◌∷◌, ◌++◌, map, Option, Some, None, IsSome, slice_get, ◌⊎◌, ⊎_elim, refl, sym, ap, ◌∙◌, arith}
use Rattle.std.proofs.lemmas.Bool.{cases_eq, eq-eqb, ne_eqb}
use Rattle.ir_entities.specs.Links.{has}
use Rattle.ir_entities.specs.Placed.{StandsAlike}
use Rattle.ir_entities.specs.Uses.{Uses, PlaceOfUse, key_of, place_of, named_of, naming, renamed, SetsPlace, IsDefined, IsPlace, NamesDefinition}
use Rattle.ir_entities.proofs.Segments.{has-append}
use Rattle.ir_program.specs.Program.{named_or}
use Rattle.ir_program.specs.Replacing.{with_chosen}
use Rattle.ir_program.specs.declared.handles.Ptr.{Ptr}
use Rattle.ir_program.specs.declared.handles.Operation.{Operation}
use Rattle.ir_program.specs.declared.handles.Use.{Use}
use Rattle.ir_program.proofs.rows.RowNames.{named-is, named-same}

-- the image of a list in two steps
pub map-through : {X Y Z : Type 0} (f : X → Z) (g : X → Y) (r : Y → Z) (xs : List X) → ((k : ℕ) (x : X) → slice_get xs k ≡ Some x → f x ≡ r (g x)) → map f xs ≡ map r (map g xs)
map-through f g r [] h = refl
map-through f g r (x ∷ xs) h = let first : f x ≡ r (g x) = h 0 x refl in let rest : map f xs ≡ map r (map g xs) = map-through f g r xs (λ k y e. h (suc k) y e) in rw (first, rest) refl

-- a row in which chosen items are others
pub chosen-row : {K : Type 0} (chosen : Use K → Bool) (y : K) (p : Ptr Operation) (f g : ℕ → K) (row : List ℕ) (k : ℕ)
    → ((i j q : ℕ) → i ≡ k + j → slice_get row j ≡ Some q → f q ≡ cond (chosen (record { user_op = p; index = i; def = g q })) y (g q))
    → map f row ≡ with_chosen chosen y p k (map g row)
chosen-row chosen y p f g [] k h = refl
chosen-row chosen y p f g (q ∷ qs) k h =
    let first : f q ≡ cond (chosen (record { user_op = p; index = k; def = g q })) y (g q) = h k 0 q (omega arith) refl in
    let rest : map f qs ≡ with_chosen chosen y p (suc k) (map g qs) = chosen-row chosen y p f g qs (suc k) (λ i j x e s. h i (suc j) x (omega arith) s) in
    rw (first, rest) refl

-- a place that names another definition stands where it stood
pub renamed-alike : (from to : ℕ) (o : Option PlaceOfUse) → StandsAlike o (renamed from to o)
renamed-alike from to None = refl
renamed-alike from to (Some x) = (cond (eqb x.definition from) to x.definition, refl)

pub chosen-alike : (b : Bool) (d : ℕ) (o : Option PlaceOfUse) → StandsAlike o (cond b (naming d o) o)
chosen-alike true d None = refl
chosen-alike true d (Some x) = (d, refl)
chosen-alike false d None = refl
chosen-alike false d (Some x) = (x.definition, refl)

named_renamed : (from to : ℕ) (o : Option PlaceOfUse) → named_of o ≡ Some from → named_of (renamed from to o) ≡ Some to
named_renamed from to None e = cc
named_renamed from to (Some x) e = let same : x.definition ≡ from = cc in let t : eqb x.definition from ≡ true = eq-eqb x.definition from same in rw t refl

named_kept : (from to d : ℕ) (o : Option PlaceOfUse) → d ≢ from → named_of o ≡ Some d → named_of (renamed from to o) ≡ Some d
named_kept from to d None ne e = cc
named_kept from to d (Some x) ne e = let same : x.definition ≡ d = cc in let t : eqb x.definition from ≡ false = ne_eqb x.definition from (λ h. ne (sym same ∙ h)) in rw (t, same) refl

named_naming : (d : ℕ) (o : Option PlaceOfUse) → IsSome o → named_of (naming d o) ≡ Some d
named_naming d None h = cc
named_naming d (Some x) h = refl

-- a test that is true of the same only; what it tests is the same or not
pub record IsTestOf {K : Type 0} (same : K → K → Bool) : Type 0 where
  pub decide : (x y : K) → (x ≡ y) ⊎ (x ≢ y)
  pub yes : (x y : K) → x ≡ y → same x y ≡ true
  pub no : (x y : K) → x ≢ y → same x y ≡ false

module _ {K : Type 0} (none : K) (u w : Uses K) (definitions : w.definitions ≡ u.definitions) (known : (q d : ℕ) → NamesDefinition u q d → IsDefined u d) where
  -- what a place in use names has a key
  keyed : (q : ℕ) → IsPlace u q → (d : ℕ) × (x : K) × NamesDefinition u q d × (key_of u d ≡ Some x)
  keyed q used = by (place_of u q) refl used
    where
      by_key : (d : ℕ) → NamesDefinition u q d → (o : Option K) → key_of u d ≡ o → (d : ℕ) × (x : K) × NamesDefinition u q d × (key_of u d ≡ Some x)
      by_key d names None e = let k : IsDefined u d = known q d names in cc
      by_key d names (Some x) e = (d, x, names, e)

      by : (o : Option PlaceOfUse) → place_of u q ≡ o → IsSome o → (d : ℕ) × (x : K) × NamesDefinition u q d × (key_of u d ≡ Some x)
      by None e h = cc
      by (Some y) e h = by_key y.definition (ap named_of e) (key_of u y.definition) refl

  -- all places of one key now name another
  pub replaced-named : (same : K → K → Bool) → IsTestOf same → (from to : ℕ) (x y : K) → key_of u from ≡ Some x → key_of u to ≡ Some y → ((d : ℕ) → key_of u d ≡ Some x → d ≡ from)
      → (q : ℕ) → IsPlace u q → place_of w q ≡ renamed from to (place_of u q) → named_or none w q ≡ cond (same (named_or none u q) x) y (named_or none u q)
  replaced-named same test from to x y key key_to only q used is =
      let at = keyed q used in
      ⊎_elim
      (λ (e : at.0 ≡ from).
      let names : NamesDefinition u q from = at.2 ∙ ap Some e in
      let was : named_or none u q ≡ x = named-is none u u refl q from x names key in
      let now : named_or none w q ≡ y = named-is none u w definitions q to y (ap named_of is ∙ named_renamed from to (place_of u q) names) key_to in
      now ∙ sym (ap (λ b. cond b y (named_or none u q)) (test.yes (named_or none u q) x was)))
      (λ (ne : at.0 ≢ from).
      let was : named_or none u q ≡ at.1 = named-is none u u refl q at.0 at.1 at.2 at.3 in
      let now : named_or none w q ≡ at.1 = named-is none u w definitions q at.0 at.1 (ap named_of is ∙ named_kept from to at.0 (place_of u q) ne at.2) at.3 in
      now ∙ sym was ∙ sym (ap (λ b. cond b y (named_or none u q)) (test.no (named_or none u q) x (λ h. ne (only at.0 (at.3 ∙ ap Some (sym was ∙ h)))))))
      (cases_eq at.0 from)

  -- some places now name another
  pub chosen-named : (to : ℕ) (y : K) → key_of u to ≡ Some y → (b : Bool) (q : ℕ) → IsPlace u q → place_of w q ≡ cond b (naming to (place_of u q)) (place_of u q) → named_or none w q ≡ cond b y (named_or none u q)
  chosen-named to y key true q used is = named-is none u w definitions q to y (ap named_of is ∙ named_naming to (place_of u q) used) key
  chosen-named to y key false q used is = named-same none u w definitions q (ap named_of is)

-- places that are renamed one after the other
naming_twice : (d : ℕ) (b : Bool) (o : Option PlaceOfUse) → naming d (cond b (naming d o) o) ≡ naming d o
naming_twice d true None = refl
naming_twice d true (Some x) = refl
naming_twice d false o = refl

pub still_place : (d : ℕ) (b : Bool) (o : Option PlaceOfUse) → IsSome o → IsSome (cond b (naming d o) o)
still_place d true None h = cc
still_place d true (Some x) h = refl
still_place d false o h = h

-- a list with one item more
pub has-pushed : (q : ℕ) (xs : List ℕ) → has q (xs ++ q ∷ []) ≡ true
has-pushed q xs = has-append q xs (q ∷ []) ∙ ap (λ b. has q xs || (b || false)) (eq-eqb q q refl) ∙ or_true (has q xs)
  where
    or_true : (b : Bool) → (b || true) ≡ true
    or_true true = refl
    or_true false = refl

pub has-other : (q p : ℕ) (xs : List ℕ) → q ≢ p → has q (xs ++ p ∷ []) ≡ has q xs
has-other q p xs ne = has-append q xs (p ∷ []) ∙ ap (λ b. has q xs || (b || false)) (ne_eqb q p ne) ∙ or_false (has q xs)
  where
    or_false : (b : Bool) → (b || false) ≡ b
    or_false true = refl
    or_false false = refl

-- each place of the list now names d
abbrev pub RenamesEach : (ℕ → Option PlaceOfUse) → (ℕ → Option PlaceOfUse) → List ℕ → ℕ → Type 0
RenamesEach place new done d = (q : ℕ) → new q ≡ cond (has q done) (naming d (place q)) (place q)

pub rename-one : {K : Type 0} (place : ℕ → Option PlaceOfUse) (u w : Uses K) (done : List ℕ) (p d : ℕ) → RenamesEach place (place_of u) done d → SetsPlace u w p (naming d (place_of u p)) → RenamesEach place (place_of w) (done ++ p ∷ []) d
rename-one place u w done p d so_far sets q = ⊎_elim
    (λ (e : q ≡ p).
    let now : place_of w q ≡ naming d (place q) = ap (place_of w) e ∙ sets.changed ∙ ap (λ i. naming d (place_of u i)) (sym e) ∙ ap (naming d) (so_far q) ∙ naming_twice d (has q done) (place q) in
    now ∙ sym (ap (λ b. cond b (naming d (place q)) (place q)) (ap (λ i. has q (done ++ i ∷ [])) (sym e) ∙ has-pushed q done)))
    (λ (ne : q ≢ p). sets.others q ne ∙ so_far q ∙ sym (ap (λ b. cond b (naming d (place q)) (place q)) (has-other q p done ne)))
    (cases_eq q p)
