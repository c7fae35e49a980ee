-- Equal attribute dictionaries feed a hasher the same.
use Rattle.std.specs.Prelude.{◌≡◌, ℕ, ◌+◌, ◌%◌, ◌^◌, Bool, true, false, cond, ◌||◌, List, [], ◌∷◌, Option, Some, None, IsTrue, sum_by, bytes_eq, refl}
use Rattle.std.proofs.Common.{sym, ap, subst, ◌∙◌}
use Rattle.std.proofs.lemmas.Bool.{false≢true}
use Rattle.std.proofs.lemmas.List.Sums.{sum_by-append}
use Rattle.std.proofs.lemmas.List.Sorted.{sum_by-IsPermutation}
use Rattle.std.proofs.lemmas.Slice.Eq.{bytes_eq-Decides}
use Rattle.std.proofs.lemmas.Map.Lookups.{map_keys, hash_map_IsPermutation_from_get}
use Rattle.std.specs.Cmp.Lexicographic.{nat_list_eq_equiv}
use Rattle.std.specs.Hash as fed
use Rattle.std.specs.HashMap.Eq.{get_from_hash_map_eq}
use Rattle.std.specs.List.{list_any, IsDistinct}
use Rattle.std.specs.Map.{keys_of, lookup}
use Rattle.std.specs.Option.{option_eq, option_map_or}
use Rattle.std.specs.Set.{unique_keys}
use Rattle.std.specs.HashMap.{HashMap}
use Rattle.indexmap.specs.Layout.{hash_map}
use Rattle.ir_names.specs.Dictionary.{attribute_at, names_of, contains_name, are_equal}
use Rattle.ir_names.specs.Equal.{as_map}
use Rattle.ir_names.specs.Members.{member_congr, apart_from_absent, same_members, is_some-attribute_at}
use Rattle.ir_names.specs.Hashed.{entry_hash, hash_under, hash_input_of}

-- ---- each name once

absorb : (b c : Bool) → (b ≡ true → c ≡ true) → c ≡ (b || c)
absorb true c h = h refl
absorb false c h = refl

member_step : (m : Bool) (q name : List ℕ) (names once : List (List ℕ)) → list_any (bytes_eq name) names ≡ m → list_any (bytes_eq q) once ≡ list_any (bytes_eq q) names
    → list_any (bytes_eq q) (cond m once (name ∷ once)) ≡ (bytes_eq q name || list_any (bytes_eq q) names)
member_step true q name names once e h = h ∙ absorb (bytes_eq q name) (list_any (bytes_eq q) names) (λ same. member_congr names name q same ∙ e)
member_step false q name names once e h = ap (λ (c : Bool). bytes_eq q name || c) h

pub is_member-unique_keys : (names : List (List ℕ)) (q : List ℕ) → list_any (bytes_eq q) (unique_keys bytes_eq names) ≡ list_any (bytes_eq q) names
is_member-unique_keys [] q = refl
is_member-unique_keys (name ∷ names) q = member_step (list_any (bytes_eq name) names) q name names (unique_keys bytes_eq names) refl (is_member-unique_keys names q)

once_step : (m : Bool) (name : List ℕ) (once : List (List ℕ)) → (m ≡ false → list_any (bytes_eq name) once ≡ false) → IsDistinct bytes_eq once → IsDistinct bytes_eq (cond m once (name ∷ once))
unfolding IsDistinct
once_step true name once new d = d
once_step false name once new d = (apart_from_absent once name (new refl), d)

IsDistinct-unique_keys : (names : List (List ℕ)) → IsDistinct bytes_eq (unique_keys bytes_eq names)
unfolding IsDistinct
IsDistinct-unique_keys [] = tt
IsDistinct-unique_keys (name ∷ names) =
    once_step (list_any (bytes_eq name) names) name (unique_keys bytes_eq names) (λ e. is_member-unique_keys names name ∙ e) (IsDistinct-unique_keys names)

-- ---- sums over the same names

-- the names as a set
abbrev as_set : List (List ℕ) → List (List ℕ × Unit {0})
as_set [] = []
as_set (name ∷ names) = (name, tt) ∷ as_set names

keys-as_set : (names : List (List ℕ)) → keys_of (as_set names) ≡ names
keys-as_set [] = refl
keys-as_set (name ∷ names) = ap (λ (r : List (List ℕ)). name ∷ r) (keys-as_set names)

lookup_step : (b c : Bool) (o : Option (Unit {0})) → o ≡ cond c (Some tt) None → cond b (Some tt) o ≡ cond (b || c) (Some tt) None
lookup_step true c o h = refl
lookup_step false c o h = h

lookup-as_set : (names : List (List ℕ)) (q : List ℕ) → lookup (bytes_eq q) (as_set names) ≡ cond (list_any (bytes_eq q) names) (Some tt) None
lookup-as_set [] q = refl
lookup-as_set (name ∷ names) q = lookup_step (bytes_eq q name) (list_any (bytes_eq q) names) (lookup (bytes_eq q) (as_set names)) (lookup-as_set names q)

abbrev set_of : List (List ℕ) → HashMap (List ℕ) (Unit {0}) (Unit {0})
set_of names = hash_map (as_set names) tt 0

sum-as_set : (f : List ℕ → ℕ) (names : List (List ℕ)) → sum_by (λ (p : List ℕ × Unit {0}). f p.0) (map_keys (λ k. k) (as_set names)) ≡ sum_by f names
sum-as_set f [] = refl
sum-as_set f (name ∷ names) =
    sum_by-append (λ (p : List ℕ × Unit {0}). f p.0) ((name, tt) ∷ []) (map_keys (λ k. k) (as_set names)) ∙ (ap (λ (n : ℕ). (0 + f name) + n) (sum-as_set f names) ∙ sym (sum_by-append f (name ∷ []) names))

same_sum : (f : List ℕ → ℕ) (ns ms : List (List ℕ)) → IsDistinct bytes_eq ns → IsDistinct bytes_eq ms → ((q : List ℕ) → list_any (bytes_eq q) ns ≡ list_any (bytes_eq q) ms) → sum_by f ns ≡ sum_by f ms
same_sum f ns ms n m same =
    let moved = hash_map_IsPermutation_from_get nat_list_eq_equiv (set_of ns) (set_of ms) (subst (λ ks. IsDistinct bytes_eq ks) (sym (keys-as_set ns)) n) (subst (λ ks. IsDistinct bytes_eq ks) (sym (keys-as_set ms)) m)
    (λ q. lookup-as_set ns q ∙ (ap (λ b. cond b (Some tt) None) (same q) ∙ sym (lookup-as_set ms q))) (λ k. k) (λ x y h. (bytes_eq-Decides x y).0 h) in
    sym (sum-as_set f ns) ∙ (sym (sum_by-IsPermutation (λ (p : List ℕ × Unit {0}). f p.0) _ _ moved) ∙ sum-as_set f ms)

-- ---- the law

module _ {X : Type 0} (eq : X → X → Bool) (feed : X → List (List ℕ)) (respects : (x y : X) → IsTrue (eq x y) → feed x ≡ feed y) where
  alike : (name : List ℕ) (o p : Option X) → option_eq eq o p ≡ true → option_map_or (λ attr. entry_hash name (feed attr)) o 0 ≡ option_map_or (λ attr. entry_hash name (feed attr)) p 0
  alike name None None h = refl
  alike name None (Some y) h = absurd (false≢true h)
  alike name (Some x) None h = absurd (false≢true h)
  alike name (Some x) (Some y) h = ap (entry_hash name) (respects x y h)

  pub hash_input_of-are_equal : (es fs : List (List ℕ × X)) → IsTrue (are_equal eq es fs) → hash_input_of feed es ≡ hash_input_of feed fs
  hash_input_of-are_equal es fs h =
      let agree : (q : List ℕ) → option_eq eq (attribute_at es q) (attribute_at fs q) ≡ true = get_from_hash_map_eq bytes_eq eq nat_list_eq_equiv (as_map es) (as_map fs) h in
      let members : (q : List ℕ) → contains_name es q ≡ contains_name fs q
      = λ q. sym (is_some-attribute_at es q) ∙ (same_members eq (attribute_at es q) (attribute_at fs q) (agree q) ∙ is_some-attribute_at fs q) in
      let ns = unique_keys bytes_eq (names_of es) in
      let ms = unique_keys bytes_eq (names_of fs) in
      let once : sum_by (hash_under feed es) ns ≡ sum_by (hash_under feed es) ms
      = same_sum (hash_under feed es) ns ms (IsDistinct-unique_keys (names_of es)) (IsDistinct-unique_keys (names_of fs))
      (λ q. is_member-unique_keys (names_of es) q ∙ (members q ∙ sym (is_member-unique_keys (names_of fs) q))) in
      let each : sum_by (hash_under feed es) ms ≡ sum_by (hash_under feed fs) ms = λ j. sum_by (λ q. alike q (attribute_at es q) (attribute_at fs q) (agree q) j) ms in
      ap (λ (n : ℕ). fed.u64 (n % 2 ^ 64)) (once ∙ each)
