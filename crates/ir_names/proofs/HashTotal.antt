-- The sum of the hashes of a dictionary's entries, as it is added up.
use Rattle.std.proofs.Common.{◌≡◌, ℕ, ◌+◌, ◌%◌, ◌^◌, Bool, true, false, cond, List, [], ◌∷◌, ◌++◌, Some, refl, sym, ap, subst, ◌∙◌, append_assoc, arith}
use Rattle.std.specs.Prelude.{sum_by}
use Rattle.std.proofs.lemmas.Bool.{true≢false}
use Rattle.std.proofs.lemmas.List.{append-nil}
use Rattle.std.proofs.lemmas.List.Sums.{sum_by-append}
use Rattle.std.specs.List.{list_any, IsDistinct}
use Rattle.std.specs.Option.{option_map_or}
use Rattle.std.specs.Set.{unique_keys}
use Rattle.std.specs.Str.{bytes_eq}
use Rattle.ir_names.specs.Dictionary.{attribute_at, names_of, AreNamesDistinct}
use Rattle.ir_names.specs.Hashed.{entry_hash, hash_under, hash_total}
use Rattle.ir_names.specs.Members.{absent_from_apart}
use Rattle.ir_names.proofs.Equalled.{own_attribute}

mod_step : (n k total : ℕ) → total ≡ n % 2 ^ 64 → (total + k) % 2 ^ 64 ≡ (n + k) % 2 ^ 64
mod_step n k total h = omega (arith, h)

one_more : (n k : ℕ) → n + (0 + k) ≡ n + k
one_more n k = omega arith

once_last : (m : Bool) (name : List ℕ) (once : List (List ℕ)) → m ≡ false → cond m once (name ∷ once) ≡ name ∷ once
once_last true name once h = absurd (true≢false h)
once_last false name once h = refl

-- distinct names stand once each
unique_keys-distinct : (names : List (List ℕ)) → IsDistinct bytes_eq names → unique_keys bytes_eq names ≡ names
unfolding IsDistinct
unique_keys-distinct [] d = refl
unique_keys-distinct (name ∷ names) d =
    once_last (list_any (bytes_eq name) names) name (unique_keys bytes_eq names) (absent_from_apart names name d.0) ∙ ap (λ (r : List (List ℕ)). name ∷ r) (unique_keys-distinct names d.1)

module _ {X : Type 0} (feed : X → List (List ℕ)) where
  abbrev pub hash_of : List ℕ × X → ℕ
  hash_of e = entry_hash e.0 (feed e.1)

  under_is : (front rest whole : List (List ℕ × X)) → whole ≡ front ++ rest → AreNamesDistinct whole → sum_by (hash_under feed whole) (names_of rest) ≡ sum_by hash_of rest
  under_is front [] whole is d = refl
  under_is front (e ∷ rest) whole is d =
      let own : attribute_at whole e.0 ≡ Some e.1 = ap (λ es. attribute_at es e.0) is ∙ own_attribute front rest e (subst (λ es. AreNamesDistinct es) is d) in
      let here : hash_under feed whole e.0 ≡ hash_of e = ap (λ o. option_map_or (λ attr. entry_hash e.0 (feed attr)) o 0) own in
      let next = under_is (front ++ e ∷ []) rest whole (is ∙ sym (append_assoc front (e ∷ []) rest)) d in
      sum_by-append (hash_under feed whole) (e.0 ∷ []) (names_of rest) ∙ ((λ j. (0 + here j) + next j) ∙ sym (sum_by-append hash_of (e ∷ []) rest))

  -- the entries before those that are left are added up
  pub record IsHashedTo (es left : List (List ℕ × X)) (total : ℕ) : Type 0 where
    pub front : List (List ℕ × X)
    pub whole : es ≡ front ++ left
    pub sum : total ≡ sum_by hash_of front % 2 ^ 64

  module _ (es : List (List ℕ × X)) where
    pub hash_begin : IsHashedTo es es 0
    hash_begin = record { front = []; whole = refl; sum = refl }

    pub hash_next : (left : List (List ℕ × X)) (e : List ℕ × X) (total more : ℕ) → IsHashedTo es (e ∷ left) total → more ≡ (total + hash_of e) % 2 ^ 64 → IsHashedTo es left more
    hash_next left e total more h m = record {
      front = h.front ++ e ∷ [];
      whole = h.whole ∙ sym (append_assoc h.front (e ∷ []) left);
      sum = m ∙ (mod_step (sum_by hash_of h.front) (hash_of e) total h.sum ∙ ap (λ (n : ℕ). n % 2 ^ 64) (sym (sum_by-append hash_of h.front (e ∷ []) ∙ one_more (sum_by hash_of h.front) (hash_of e))));
    }

    pub hash_end : (total : ℕ) → AreNamesDistinct es → IsHashedTo es [] total → total ≡ hash_total feed es % 2 ^ 64
    hash_end total d h =
        let all : sum_by (hash_under feed es) (unique_keys bytes_eq (names_of es)) ≡ sum_by hash_of h.front
        = ap (sum_by (hash_under feed es)) (unique_keys-distinct (names_of es) d) ∙ (under_is [] es es refl d ∙ ap (sum_by hash_of) (h.whole ∙ append-nil h.front)) in
        h.sum ∙ ap (λ (n : ℕ). n % 2 ^ 64) (sym all)
