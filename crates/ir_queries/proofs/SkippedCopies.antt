-- What is known of entries while those that fail a test are copied one by one.
use Rattle.std.proofs.Common.{◌≡◌, ℕ, Bool, true, false, not, cond, ◌||◌, List, [], ◌∷◌, ◌++◌, refl, sym, ap, subst, ◌∙◌, append_assoc}
use Rattle.std.proofs.lemmas.Bool.{true≢false}
use Rattle.std.proofs.lemmas.List.{append-nil}
use Rattle.std.proofs.lemmas.List.Elements.{AllZip-push, filter-append}
use Rattle.std.specs.List.{filter, list_any}
use Rattle.std.specs.Str.{bytes_eq}
use Rattle.ir_names.specs.Dictionary.{names_of, contains_name, AreNamesDistinct, AreNamesIdentifiers, IsCopy, AreCopies, AddsCopy}
use Rattle.ir_names.specs.Text.{is_identifier}
use Rattle.ir_names.proofs.Copied.{new_name, is_named_well}
use Rattle.ir_queries.specs.Lookups.{entries_failing}

or_left : (b c : Bool) → (b || c) ≡ false → b ≡ false
or_left true c h = h
or_left false c h = refl

or_right : (b c : Bool) → (b || c) ≡ false → c ≡ false
or_right true c h = absurd (true≢false h)
or_right false c h = h

or_both : (b c : Bool) → b ≡ false → c ≡ false → (b || c) ≡ false
or_both true c p q = p
or_both false c p q = q

module _ {X : Type 0} where
  names-copied : (eq : X → X → Bool) (es copies : List (List ℕ × X)) → AreCopies eq es copies → names_of copies ≡ names_of es
  names-copied eq [] [] h = refl
  names-copied eq [] (c ∷ cs) h = absurd h
  names-copied eq (e ∷ es) [] h = absurd h
  names-copied eq (e ∷ es) (c ∷ cs) h = (λ j. h.0.0 j ∷ names-copied eq es cs h.1 j)

  absent_kept : (keep : Bool) (e : List ℕ × X) (name : List ℕ) (es : List (List ℕ × X)) → bytes_eq name e.0 ≡ false → contains_name es name ≡ false → contains_name (cond keep (e ∷ es) es) name ≡ false
  absent_kept true e name es other h = or_both (bytes_eq name e.0) (contains_name es name) other h
  absent_kept false e name es other h = h

  -- a name that is none of the entries' is none of those that are left of them
  absent_filtered : (keep : List ℕ × X → Bool) (name : List ℕ) (es : List (List ℕ × X)) → contains_name es name ≡ false → contains_name (filter keep es) name ≡ false
  absent_filtered keep name [] h = refl
  absent_filtered keep name (e ∷ es) h =
      absent_kept (keep e) e name (filter keep es) (or_left (bytes_eq name e.0) (contains_name es name) h) (absent_filtered keep name es (or_right (bytes_eq name e.0) (contains_name es name) h))

  -- those of the entries before the ones that are left that fail the test are copied
  pub record IsSkippedTo (eq : X → X → Bool) (test : X → Bool) (es left copies : List (List ℕ × X)) : Type 0 where
    pub front : List (List ℕ × X)
    pub whole : es ≡ front ++ left
    pub copied : AreCopies eq (entries_failing test front) copies

  module _ (eq : X → X → Bool) (test : X → Bool) (es : List (List ℕ × X)) where
    pub skips_begin : IsSkippedTo eq test es es []
    skips_begin = record { front = []; whole = refl; copied = tt }

    pub skips_end : (copies : List (List ℕ × X)) → IsSkippedTo eq test es [] copies → AreCopies eq (entries_failing test es) copies
    skips_end copies h = subst (λ front. AreCopies eq (entries_failing test front) copies) (sym (h.whole ∙ append-nil h.front)) h.copied

    module _ (left copies : List (List ℕ × X)) (e : List ℕ × X) (h : IsSkippedTo eq test es (e ∷ left) copies) where
      pub next_is_new : AreNamesDistinct es → contains_name copies e.0 ≡ false
      next_is_new d =
          ap (λ names. list_any (bytes_eq e.0) names) (names-copied eq (entries_failing test h.front) copies h.copied)
          ∙ absent_filtered (λ e. not (test e.1)) e.0 h.front (new_name h.front left e (subst (λ es. AreNamesDistinct es) h.whole d))

      pub next_is_identifier : AreNamesIdentifiers es → is_identifier e.0 ≡ true
      next_is_identifier i = is_named_well h.front left e (subst (λ es. AreNamesIdentifiers es) h.whole i)

      -- an entry that passes the test is left out
      pub skips_next : test e.1 ≡ true → IsSkippedTo eq test es left copies
      skips_next passes = record {
        front = h.front ++ e ∷ [];
        whole = h.whole ∙ sym (append_assoc h.front (e ∷ []) left);
        copied = subst (λ kept. AreCopies eq kept copies)
            (sym (filter-append (λ e. not (test e.1)) h.front (e ∷ []) ∙ ap (λ b. entries_failing test h.front ++ cond (not b) (e ∷ []) []) passes ∙ append-nil (entries_failing test h.front))) h.copied;
      }

      -- one that fails it is copied
      pub copies_next : (more : List (List ℕ × X)) → test e.1 ≡ false → AddsCopy eq copies more e → IsSkippedTo eq test es left more
      copies_next more fails a = record {
        front = h.front ++ e ∷ [];
        whole = h.whole ∙ sym (append_assoc h.front (e ∷ []) left);
        copied = subst (λ kept. AreCopies eq kept more)
            (sym (filter-append (λ e. not (test e.1)) h.front (e ∷ []) ∙ ap (λ b. entries_failing test h.front ++ cond (not b) (e ∷ []) []) fails))
            (subst (λ more. AreCopies eq (entries_failing test h.front ++ e ∷ []) more) (sym a.added) (AllZip-push (IsCopy eq) (entries_failing test h.front) copies e a.copy h.copied a.same));
      }
