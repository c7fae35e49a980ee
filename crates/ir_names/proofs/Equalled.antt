-- What tells that two attribute dictionaries are equal: they are as long, and one's attributes equal the other's.
use Rattle.std.proofs.Common.{◌≡◌, ℕ, ◌≤◌, suc, Bool, true, false, cond, eqb, ◌||◌, ◌&&◌, List, [], ◌∷◌, ◌++◌, length, Option, Some, None, is_some, refl, sym, ap, subst, ◌∙◌, append_assoc, arith}
use borrow.Author.Tests.{eqb-true}
use Rattle.std.proofs.lemmas.List.{length-map}
use Rattle.std.proofs.lemmas.Bool.{false≢true, true≢false}
use Rattle.std.proofs.lemmas.Map.Keys.{IsDistinct-cons}
use Rattle.std.proofs.lemmas.Map.Made.{length-le_from_is_member, length-from_same_keys}
use Rattle.std.specs.Cmp.Lexicographic.{nat_list_eq_equiv}
use Rattle.std.specs.HashMap.Eq.{get_from_hash_map_eq, hash_map_eq_from_get}
use Rattle.std.specs.List.{list_any, list_all, IsDistinct}
use Rattle.std.specs.Option.{option_eq}
use Rattle.std.specs.Str.{bytes_eq}
use Rattle.ir_names.specs.Dictionary.{attribute_at, names_of, contains_name, AreNamesDistinct, agrees, are_equal, AreCopies}
use Rattle.ir_names.specs.Equal.{as_map}
use Rattle.ir_names.specs.Members.{member_congr, apart_from_absent, same_members, is_some-attribute_at}
use Rattle.ir_names.proofs.Copied.{and_left, and_right, apart_from}

both : (b c : Bool) → (b ≡ true → c ≡ true) → (c ≡ true → b ≡ true) → b ≡ c
both true true there back = refl
both true false there back = sym (there refl)
both false true there back = back refl
both false false there back = refl

none_as_none : {X : Type 0} (eq : X → X → Bool) (o p : Option X) → is_some o ≡ false → is_some p ≡ false → option_eq eq o p ≡ true
none_as_none eq None None h k = refl
none_as_none eq None (Some y) h k = absurd (true≢false k)
none_as_none eq (Some x) p h k = absurd (true≢false h)

module _ {X : Type 0} where
  -- an entry's attribute stands under its name
  pub own_attribute : (front rest : List (List ℕ × X)) (e : List ℕ × X) → AreNamesDistinct (front ++ e ∷ rest) → attribute_at (front ++ e ∷ rest) e.0 ≡ Some e.1
  unfolding IsDistinct
  own_attribute [] rest e d = ap (λ b. cond b (Some e.1) (attribute_at rest e.0)) (nat_list_eq_equiv.refl e.0)
  own_attribute (f ∷ front) rest e d =
      let other : bytes_eq e.0 f.0 ≡ false = nat_list_eq_equiv.symm e.0 f.0 ∙ apart_from (λ y. bytes_eq f.0 y ≡ false) front rest e d.0 in
      ap (λ b. cond b (Some f.1) (attribute_at (front ++ e ∷ rest) e.0)) other ∙ own_attribute front rest e d.1

-- as many names, of which each of the first is among the second: then each of the second is among the first
module _ (ns ms : List (List ℕ)) (n : IsDistinct bytes_eq ns) (m : IsDistinct bytes_eq ms) (same : length ns ≡ length ms)
    (within : (q : List ℕ) → list_any (bytes_eq q) ns ≡ true → list_any (bytes_eq q) ms ≡ true) where
  within_more : (q : List ℕ) → list_any (bytes_eq q) ms ≡ true → (r : List ℕ) → (b : Bool) → bytes_eq r q ≡ b → (b || list_any (bytes_eq r) ns) ≡ true → list_any (bytes_eq r) ms ≡ true
  within_more q h r true e k = member_congr ms q r e ∙ h
  within_more q h r false e k = within r k

  back_step : (q : List ℕ) → list_any (bytes_eq q) ms ≡ true → (b : Bool) → list_any (bytes_eq q) ns ≡ b → list_any (bytes_eq q) ns ≡ true
  back_step q h true e = e
  back_step q h false e =
      let more : length (q ∷ ns) ≤ length ms = length-le_from_is_member nat_list_eq_equiv (q ∷ ns) ms (IsDistinct-cons bytes_eq q ns (apart_from_absent ns q e) n) (λ r k. within_more q h r (bytes_eq r q) refl k) in
      let more' : suc (length ns) ≤ length ms = more in
      absurd (omega (arith, more', same))

  within_back : (q : List ℕ) → list_any (bytes_eq q) ms ≡ true → list_any (bytes_eq q) ns ≡ true
  within_back q h = back_step q h (list_any (bytes_eq q) ns) refl

module _ {X : Type 0} (eq : X → X → Bool) where
  module _ (fs : List (List ℕ × X)) where
    lookup_congr : (gs : List (List ℕ × X)) (q r : List ℕ) → bytes_eq q r ≡ true → attribute_at gs q ≡ attribute_at gs r
    lookup_congr [] q r e = refl
    lookup_congr (g ∷ gs) q r e = (λ j. cond (nat_list_eq_equiv.congr q r g.0 e j) (Some g.1) (lookup_congr gs q r e j))

    agree_step : (b : Bool) (e : List ℕ × X) (o : Option X) (q : List ℕ) → bytes_eq q e.0 ≡ b → agrees eq fs e ≡ true → (is_some o ≡ true → option_eq eq o (attribute_at fs q) ≡ true)
        → is_some (cond b (Some e.1) o) ≡ true → option_eq eq (cond b (Some e.1) o) (attribute_at fs q) ≡ true
    agree_step true e o q same here next h = ap (option_eq eq (Some e.1)) (lookup_congr fs q e.0 same) ∙ here
    agree_step false e o q same here next h = next h

    agree_at : (es : List (List ℕ × X)) (q : List ℕ) → list_all (agrees eq fs) es ≡ true → is_some (attribute_at es q) ≡ true → option_eq eq (attribute_at es q) (attribute_at fs q) ≡ true
    agree_at [] q all h = absurd (false≢true h)
    agree_at (e ∷ es) q all h =
        agree_step (bytes_eq q e.0) e (attribute_at es q) q refl (and_left (agrees eq fs e) (list_all (agrees eq fs) es) all)
        (agree_at es q (and_right (agrees eq fs e) (list_all (agrees eq fs) es) all)) h

    all_agree : (front rest whole : List (List ℕ × X)) → whole ≡ front ++ rest → AreNamesDistinct whole → ((q : List ℕ) → option_eq eq (attribute_at whole q) (attribute_at fs q) ≡ true) → list_all (agrees eq fs) rest ≡ true
    all_agree front [] whole is d h = refl
    all_agree front (e ∷ rest) whole is d h =
        let own : attribute_at whole e.0 ≡ Some e.1 = ap (λ es. attribute_at es e.0) is ∙ own_attribute front rest e (subst (λ es. AreNamesDistinct es) is d) in
        let here : agrees eq fs e ≡ true = ap (λ o. option_eq eq o (attribute_at fs e.0)) (sym own) ∙ h e.0 in
        ap (λ b. b && list_all (agrees eq fs) rest) here ∙ all_agree (front ++ e ∷ []) rest whole (is ∙ sym (append_assoc front (e ∷ []) rest)) d h

  copied_step : (b : Bool) (e c : List ℕ × X) (o p : Option X) → eq c.1 e.1 ≡ true → option_eq eq o p ≡ true → option_eq eq (cond b (Some c.1) o) (cond b (Some e.1) p) ≡ true
  copied_step true e c o p here next = here
  copied_step false e c o p here next = next

  copied_at : (es copies : List (List ℕ × X)) (q : List ℕ) → AreCopies eq es copies → option_eq eq (attribute_at copies q) (attribute_at es q) ≡ true
  copied_at [] [] q h = refl
  copied_at [] (c ∷ cs) q h = absurd h
  copied_at (e ∷ es) [] q h = absurd h
  copied_at (e ∷ es) (c ∷ cs) q h =
      ap (λ name. option_eq eq (cond (bytes_eq q name) (Some c.1) (attribute_at cs q)) (cond (bytes_eq q e.0) (Some e.1) (attribute_at es q))) h.0.0
      ∙ copied_step (bytes_eq q e.0) e c (attribute_at cs q) (attribute_at es q) h.0.1 (copied_at es cs q h.1)

  -- copies are equal to what they are of
  pub copies_equal : (es copies : List (List ℕ × X)) → AreCopies eq es copies → are_equal eq copies es ≡ true
  copies_equal es copies h = hash_map_eq_from_get bytes_eq eq (as_map copies) (as_map es) (λ q. copied_at es copies q h)

  module _ (es fs : List (List ℕ × X)) (d : AreNamesDistinct es) (f : AreNamesDistinct fs) where
    same_names : are_equal eq es fs ≡ true → (q : List ℕ) → contains_name es q ≡ contains_name fs q
    same_names h q =
        sym (is_some-attribute_at es q) ∙ (same_members eq (attribute_at es q) (attribute_at fs q) (get_from_hash_map_eq bytes_eq eq nat_list_eq_equiv (as_map es) (as_map fs) h q) ∙ is_some-attribute_at fs q)

    same_length : are_equal eq es fs ≡ true → length es ≡ length fs
    same_length h = sym (length-map es (λ e. e.0)) ∙ (length-from_same_keys nat_list_eq_equiv (names_of es) (names_of fs) d f (same_names h) ∙ length-map fs (λ e. e.0))

    unequal_step : (b c : Bool) → are_equal eq es fs ≡ b → eqb (length es) (length fs) ≡ c → (length es ≡ length fs → ⊥) → c ≡ b
    unequal_step b true h e other = absurd (other (eqb-true (length es) (length fs) e))
    unequal_step true false h e other = absurd (other (same_length h))
    unequal_step false false h e other = refl

    -- dictionaries of another length differ
    pub unequal_length : (length es ≡ length fs → ⊥) → eqb (length es) (length fs) ≡ are_equal eq es fs
    unequal_length other = unequal_step (are_equal eq es fs) (eqb (length es) (length fs)) refl refl other

    module _ (same : length es ≡ length fs) where
      agree_within : list_all (agrees eq fs) es ≡ true → (q : List ℕ) → contains_name es q ≡ true → contains_name fs q ≡ true
      agree_within all q h =
          let some : is_some (attribute_at es q) ≡ true = is_some-attribute_at es q ∙ h in
          sym (is_some-attribute_at fs q) ∙ (sym (same_members eq (attribute_at es q) (attribute_at fs q) (agree_at fs es q all some)) ∙ some)

      agree_back : list_all (agrees eq fs) es ≡ true → (q : List ℕ) → contains_name fs q ≡ true → contains_name es q ≡ true
      agree_back all = within_back (names_of es) (names_of fs) d f (length-map es (λ e. e.0) ∙ (same ∙ sym (length-map fs (λ e. e.0)))) (agree_within all)

      absent_too : list_all (agrees eq fs) es ≡ true → (q : List ℕ) → is_some (attribute_at es q) ≡ false → (b : Bool) → is_some (attribute_at fs q) ≡ b → is_some (attribute_at fs q) ≡ false
      absent_too all q h true e = absurd (true≢false (sym (is_some-attribute_at es q ∙ agree_back all q (sym (is_some-attribute_at fs q) ∙ e)) ∙ h))
      absent_too all q h false e = e

      agree_everywhere : list_all (agrees eq fs) es ≡ true → (q : List ℕ) → (b : Bool) → is_some (attribute_at es q) ≡ b → option_eq eq (attribute_at es q) (attribute_at fs q) ≡ true
      agree_everywhere all q true e = agree_at fs es q all e
      agree_everywhere all q false e = none_as_none eq (attribute_at es q) (attribute_at fs q) e (absent_too all q e (is_some (attribute_at fs q)) refl)

      -- where there are as many, it is enough that one's attributes equal the other's
      pub equal_within : list_all (agrees eq fs) es ≡ are_equal eq es fs
      equal_within =
          both (list_all (agrees eq fs) es) (are_equal eq es fs)
          (λ all. hash_map_eq_from_get bytes_eq eq (as_map es) (as_map fs) (λ q. agree_everywhere all q (is_some (attribute_at es q)) refl))
          (λ h. all_agree fs [] es es refl d (λ q. get_from_hash_map_eq bytes_eq eq nat_list_eq_equiv (as_map es) (as_map fs) h q))
