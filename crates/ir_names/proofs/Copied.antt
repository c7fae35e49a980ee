-- What is known of entries while they are copied one by one.
use Rattle.std.proofs.Common.{◌≡◌, ℕ, Bool, true, false, cond, ◌||◌, ◌&&◌, List, [], ◌∷◌, ◌++◌, refl, sym, ap, subst, ◌∙◌, append_assoc}
use Rattle.std.proofs.lemmas.Bool.{false≢true, true≢false}
use Rattle.std.proofs.lemmas.List.{append-nil}
use Rattle.std.proofs.lemmas.List.Elements.{AllZip-push}
use Rattle.std.specs.Cmp.Lexicographic.{nat_list_eq_equiv}
use Rattle.std.specs.List.{list_any, list_all, AllByRecursion, IsDistinct}
use Rattle.std.specs.Str.{bytes_eq}
use Rattle.ir_names.specs.Text.{is_identifier}
use Rattle.ir_names.specs.Dictionary.{with_attribute, names_of, contains_name, AreNamesDistinct, AreNamesIdentifiers, IsCopy, AreCopies, AddsCopy}

or_step : (b c : Bool) → b ≡ false → c ≡ false → (b || c) ≡ false
or_step true c p q = p
or_step false c p q = q

pub and_right : (b c : Bool) → (b && c) ≡ true → c ≡ true
and_right true c h = h
and_right false c h = absurd (false≢true h)

pub and_left : (b c : Bool) → (b && c) ≡ true → b ≡ true
and_left true c h = refl
and_left false c h = h

module _ {X : Type 0} where
  put_last : (b there : Bool) (e : List ℕ × X) (attr : X) (es rest : List (List ℕ × X)) (last : List ℕ × X) → (b || there) ≡ false → (there ≡ false → rest ≡ es ++ last ∷ [])
      → cond b ((e.0, attr) ∷ es) (e ∷ rest) ≡ e ∷ (es ++ last ∷ [])
  put_last true there e attr es rest last h next = absurd (true≢false h)
  put_last false there e attr es rest last h next = ap (λ (r : List (List ℕ × X)). e ∷ r) (next h)

  -- a new name goes last
  pub with_attribute-new : (es : List (List ℕ × X)) (key : List ℕ) (attr : X) → contains_name es key ≡ false → with_attribute es key attr ≡ es ++ (key, attr) ∷ []
  with_attribute-new [] key attr h = refl
  with_attribute-new (e ∷ es) key attr h = put_last (bytes_eq key e.0) (contains_name es key) e attr es (with_attribute es key attr) (key, attr) h (with_attribute-new es key attr)

  pub apart_from : (P : List ℕ → Type 0) (front rest : List (List ℕ × X)) (e : List ℕ × X) → AllByRecursion P (names_of (front ++ e ∷ rest)) → P e.0
  apart_from P [] rest e h = h.0
  apart_from P (f ∷ front) rest e h = apart_from P front rest e h.1

  -- a name is none of those before it
  pub new_name : (front rest : List (List ℕ × X)) (e : List ℕ × X) → AreNamesDistinct (front ++ e ∷ rest) → contains_name front e.0 ≡ false
  unfolding IsDistinct
  new_name [] rest e d = refl
  new_name (f ∷ front) rest e d =
      or_step (bytes_eq e.0 f.0) (contains_name front e.0) (nat_list_eq_equiv.symm e.0 f.0 ∙ apart_from (λ y. bytes_eq f.0 y ≡ false) front rest e d.0) (new_name front rest e d.1)

  pub is_named_well : (front rest : List (List ℕ × X)) (e : List ℕ × X) → AreNamesIdentifiers (front ++ e ∷ rest) → is_identifier e.0 ≡ true
  is_named_well [] rest e h = and_left (is_identifier e.0) (list_all is_identifier (names_of rest)) h
  is_named_well (f ∷ front) rest e h = is_named_well front rest e (and_right (is_identifier f.0) (list_all is_identifier (names_of (front ++ e ∷ rest))) h)

  names-copied : (eq : X → X → Bool) (es copies : List (List ℕ × X)) → AreCopies eq es copies → names_of copies ≡ names_of es
  names-copied eq [] [] h = refl
  names-copied eq [] (c ∷ cs) h = absurd h
  names-copied eq (e ∷ es) [] h = absurd h
  names-copied eq (e ∷ es) (c ∷ cs) h = (λ j. h.0.0 j ∷ names-copied eq es cs h.1 j)

  -- the entries before those that are left are copied
  pub record IsCopiedTo (eq : X → X → Bool) (es left copies : List (List ℕ × X)) : Type 0 where
    pub front : List (List ℕ × X)
    pub whole : es ≡ front ++ left
    pub copied : AreCopies eq front copies

  module _ (eq : X → X → Bool) (es : List (List ℕ × X)) where
    pub copies_begin : IsCopiedTo eq es es []
    copies_begin = record { front = []; whole = refl; copied = tt }

    pub copies_end : (copies : List (List ℕ × X)) → IsCopiedTo eq es [] copies → AreCopies eq es copies
    copies_end copies h = subst (λ front. AreCopies eq front copies) (sym (h.whole ∙ append-nil h.front)) h.copied

    module _ (left copies : List (List ℕ × X)) (e : List ℕ × X) (h : IsCopiedTo eq es (e ∷ left) copies) where
      pub next_is_new : AreNamesDistinct es → contains_name copies e.0 ≡ false
      next_is_new d = ap (λ names. list_any (bytes_eq e.0) names) (names-copied eq h.front copies h.copied) ∙ new_name h.front left e (subst (λ es. AreNamesDistinct es) h.whole d)

      pub next_is_identifier : AreNamesIdentifiers es → is_identifier e.0 ≡ true
      next_is_identifier i = is_named_well h.front left e (subst (λ es. AreNamesIdentifiers es) h.whole i)

      pub copies_next : (more : List (List ℕ × X)) → AddsCopy eq copies more e → IsCopiedTo eq es left more
      copies_next more a = record {
        front = h.front ++ e ∷ [];
        whole = h.whole ∙ sym (append_assoc h.front (e ∷ []) left);
        copied = subst (λ more. AreCopies eq (h.front ++ e ∷ []) more) (sym a.added) (AllZip-push (IsCopy eq) h.front copies e a.copy h.copied a.same);
      }
