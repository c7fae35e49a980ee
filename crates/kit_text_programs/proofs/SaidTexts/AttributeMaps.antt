-- Lists of attributes as maps, where they are none, one or two.
use Rattle.std.proofs.Common.{◌≡◌, ◌⊎◌, inl, inr, ℕ, Bool, true, false, cond, List, [], ◌∷◌, length, Option, Some, None}
use Rattle.std.proofs.Common.{option_and_then, bytes_eq, refl, sym, ap, ◌∙◌, arith}
use Rattle.std.proofs.lemmas.Bool.{false≢true}
use Rattle.std.proofs.lemmas.Option.{none-some, same_Some}
use Rattle.std.proofs.lemmas.Slice.Eq.{bytes_eq-Decides}
use Rattle.ir_names.specs.Dictionary.{attribute_at}

same_name : (k m : List ℕ) → bytes_eq k m ≡ true → k ≡ m
same_name k m = (bytes_eq-Decides k m).0

-- a name that is neither of two is not under the first of two keys, where the two names are under the keys
clash : (p q other k m : List ℕ) → (p ≡ q → ⊥) → bytes_eq other p ≡ false → bytes_eq other q ≡ false → other ≡ k
    → (p ≡ k) ⊎ (p ≡ m) → (q ≡ k) ⊎ (q ≡ m) → ⊥
clash p q other k m apart x y o (inl e) d = false≢true (sym x ∙ (bytes_eq-Decides other p).1 (o ∙ sym e))
clash p q other k m apart x y o (inr e) (inl d) = false≢true (sym y ∙ (bytes_eq-Decides other q).1 (o ∙ sym d))
clash p q other k m apart x y o (inr e) (inr d) = apart (e ∙ sym d)

swapped : {X Y : Type 0} → X ⊎ Y → Y ⊎ X
swapped (inl x) = inr x
swapped (inr y) = inl y

module _ {X : Type 0} where
  pub no_entries : (es : List (List ℕ × X)) → length es ≡ 0 → es ≡ []
  no_entries [] l = refl
  no_entries (x ∷ es) l = absurd (omega arith)

  last_entry : (key k : List ℕ) (v a : X) → attribute_at ((k, v) ∷ []) key ≡ Some a → (key ≡ k) × (v ≡ a)
  last_entry key k v a e = by (bytes_eq key k) refl e
    where
      by : (b : Bool) → bytes_eq key k ≡ b → cond b (Some v) None ≡ Some a → (key ≡ k) × (v ≡ a)
      by true t q = (same_name key k t, same_Some v a q)
      by false t q = absurd (none-some a q)

  -- one attribute is alone under its name
  pub one_at : (es : List (List ℕ × X)) (key : List ℕ) (a : X) → length es ≡ 1 → attribute_at es key ≡ Some a
      → (other : List ℕ) → attribute_at es other ≡ cond (bytes_eq other key) (Some a) None
  one_at [] key a l e other = absurd (none-some a e)
  one_at ((k, v) ∷ []) key a l e other =
      let same = last_entry key k v a e in
      ap (λ (c : List ℕ). cond (bytes_eq other c) (Some v) None) (sym same.0)
      ∙ ap (λ (x : X). cond (bytes_eq other key) (Some x) None) same.1
  one_at (x ∷ y ∷ es) key a l e other = absurd (omega arith)

  -- what is under a name of two is under one of their keys
  pub either_key : (key k m : List ℕ) (v u a : X) → attribute_at ((k, v) ∷ (m, u) ∷ []) key ≡ Some a
      → (key ≡ k) ⊎ (key ≡ m)
  either_key key k m v u a e = by (bytes_eq key k) refl (bytes_eq key m) refl e
    where
      by : (s : Bool) → bytes_eq key k ≡ s → (t : Bool) → bytes_eq key m ≡ t
          → cond s (Some v) (cond t (Some u) None) ≡ Some a → (key ≡ k) ⊎ (key ≡ m)
      by true g t h q = inl (same_name key k g)
      by false g true h q = inr (same_name key m h)
      by false g false h q = absurd (none-some a q)

  -- of two attributes with two names none is under a third
  third_at : (es : List (List ℕ × X)) (p q : List ℕ) (a b : X) → length es ≡ 2 → (p ≡ q → ⊥) → attribute_at es p ≡ Some a
      → attribute_at es q ≡ Some b → (other : List ℕ) → bytes_eq other p ≡ false → bytes_eq other q ≡ false
      → attribute_at es other ≡ None
  third_at [] p q a b l apart at there other x y = refl
  third_at (c ∷ []) p q a b l apart at there other x y = absurd (omega arith)
  third_at (c ∷ d ∷ e ∷ es) p q a b l apart at there other x y = absurd (omega arith)
  third_at ((k, v) ∷ (m, u) ∷ []) p q a b l apart at there other x y =
      by (bytes_eq other k) refl (bytes_eq other m) refl
    where
      by : (s : Bool) → bytes_eq other k ≡ s → (t : Bool) → bytes_eq other m ≡ t
          → cond s (Some v) (cond t (Some u) None) ≡ None
      by true g t h = absurd (clash p q other k m apart x y (same_name other k g) (either_key p k m v u a at)
          (either_key q k m v u b there))
      by false g true h = absurd (clash p q other m k apart x y (same_name other m h)
          (swapped (either_key p k m v u a at)) (swapped (either_key q k m v u b there)))
      by false g false h = refl

  -- two attributes are under their names
  pub two_at : (es : List (List ℕ × X)) (p q : List ℕ) (a b : X) → length es ≡ 2 → (p ≡ q → ⊥) → attribute_at es p ≡ Some a
      → attribute_at es q ≡ Some b → (other : List ℕ)
      → attribute_at es other ≡ cond (bytes_eq other p) (Some a) (cond (bytes_eq other q) (Some b) None)
  two_at es p q a b l apart at there other = by (bytes_eq other p) refl (bytes_eq other q) refl
    where
      by : (s : Bool) → bytes_eq other p ≡ s → (t : Bool) → bytes_eq other q ≡ t
          → attribute_at es other ≡ cond s (Some a) (cond t (Some b) None)
      by true x t y = ap (attribute_at es) (same_name other p x) ∙ at
      by false x true y = ap (attribute_at es) (same_name other q y) ∙ there
      by false x false y = third_at es p q a b l apart at there other x y

-- what is made of one, and of one of two
pub map_one : {X Y : Type 0} (f : X → Option Y) (b : Bool) (a : X)
    → option_and_then f (cond b (Some a) None) ≡ cond b (f a) None
map_one f true a = refl
map_one f false a = refl

pub map_two : {X Y : Type 0} (f : X → Option Y) (b c : Bool) (a d : X)
    → option_and_then f (cond b (Some a) (cond c (Some d) None)) ≡ cond b (f a) (cond c (f d) None)
map_two f true c a d = refl
map_two f false true a d = refl
map_two f false false a d = refl
