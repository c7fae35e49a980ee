-- Tables that are filled one number after the other.
use Rattle.std.proofs.Common.{◌≡◌, ⊎_elim, ℕ, ◌<◌, ◌≤◌, ◌+◌, List, [], ◌∷◌, ◌++◌, length, true, false, Option, Some, None, is_some, slice_get, refl, sym, ap, ◌∙◌, subst, arith, below_more}
use Rattle.std.specs.Prelude.{◌↔◌}
use Rattle.std.proofs.lemmas.List.{length-append}
use Rattle.ir_program.specs.declared.handles.Value.{Value}
use Rattle.ir_trees.specs.Searched.{Lists}
use Rattle.opt_chains.specs.declared.merge_values.StandIn.{StandIn}
use Rattle.opt_chains.specs.stand_ins.Tables.{HasOneAt, IsNumberOf, AreNumbersOf, IsFollowed, AreFollowed}
use Rattle.opt_chains.proofs.StandInsLemmas.TableLemmas.{same_some, in_length, at_more, at_still, at_last}

-- where it is some or none
pub some_there : {X : Type 0} (o : Option X) → is_some o ≡ true → (x : X) × (o ≡ Some x)
some_there None e = cc
some_there (Some x) e = (x, refl)

pub none_there : {X : Type 0} (o : Option X) → is_some o ≡ false → o ≡ None
none_there None e = refl
none_there (Some x) e = cc

module _ (keys : List Value) where
  pub number_of_some : (entry : Option Value) (v : Value) (o : Option ℕ) → entry ≡ Some v → ((n : ℕ) → (o ≡ Some n) ↔ (slice_get keys n ≡ Some v)) → IsNumberOf keys entry o
  number_of_some entry v o is number n = (λ h. (v, is, (number n).0 h), λ h. (number n).1 (h.2 ∙ ap Some (same_some entry h.0 v h.1 is)))

  pub number_of_none : (entry : Option Value) → entry ≡ None → IsNumberOf keys entry None
  number_of_none entry is n = (λ h. cc, λ h. let e : None ≡ Some h.0 = sym is ∙ h.1 in cc)

  module _ (given : List (Option Value)) where
    -- the first of these numbers
    pub record AreNumbersUpTo (i : ℕ) (next : List (Option ℕ)) : Type 0 where
      pub len : length next ≡ i
      pub each : (k : ℕ) (entry : Option Value) (number : Option ℕ) → slice_get given k ≡ Some entry → slice_get next k ≡ Some number → IsNumberOf keys entry number

    pub no_numbers : (next : List (Option ℕ)) → next ≡ [] → AreNumbersUpTo 0 next
    no_numbers next is = record { len = ap length is; each = λ k entry number at h. let e : None ≡ Some number = sym (ap (λ l. slice_get l k) is) ∙ h in cc }

    pub numbers_more : (i : ℕ) (next more : List (Option ℕ)) (entry : Option Value) (number : Option ℕ) → AreNumbersUpTo i next → slice_get given i ≡ Some entry → IsNumberOf keys entry number → more ≡ next ++ number ∷ [] → AreNumbersUpTo (i + 1) more
    numbers_more i next more entry number done at is pushed = record {
      len = ap length pushed ∙ length-append next (number ∷ []) ∙ ap (λ n. n + 1) done.len;
      each = λ k e m here h. ⊎_elim
          (λ l. done.each k e m here l)
          (λ r.
          let index : k ≡ i = r.0 ∙ done.len in
          let same : entry ≡ e = same_some (slice_get given k) entry e (ap (slice_get given) index ∙ at) here in
          subst (IsNumberOf keys e) (sym r.1) (subst (λ z. IsNumberOf keys z number) same is))
          (at_more next number m k (ap (λ l. slice_get l k) (sym pushed) ∙ h));
    }

    pub numbers_all : (i : ℕ) (next : List (Option ℕ)) → i ≡ length given → AreNumbersUpTo i next → AreNumbersOf keys given next
    numbers_all i next all done = record { len = done.len ∙ all; each = done.each }

    module _ (finals : List ℕ) where
      -- what stands for the first of them
      pub record AreFollowedUpTo (i : ℕ) (ss : List StandIn) : Type 0 where
        pub sound : (s : StandIn) → Lists ss s → (n : ℕ) × HasOneAt given n × IsFollowed keys given finals n s
        pub all : (n : ℕ) → n < i → HasOneAt given n → (s : StandIn) × Lists ss s × IsFollowed keys given finals n s

      pub none_followed : (ss : List StandIn) → ss ≡ [] → AreFollowedUpTo 0 ss
      none_followed ss is = record {
        sound = λ s listed. let e : None ≡ Some s = sym (ap (λ l. slice_get l listed.0) is) ∙ listed.1 in cc;
        all = λ n less h. absurd (omega (arith, less));
      }

      pub followed_more : (i : ℕ) (ss more : List StandIn) (s : StandIn) → AreFollowedUpTo i ss → HasOneAt given i → IsFollowed keys given finals i s → more ≡ ss ++ s ∷ [] → AreFollowedUpTo (i + 1) more
      followed_more i ss more s done has is pushed = record {
        sound = λ u listed. ⊎_elim
            (λ l. done.sound u (listed.0, l))
            (λ r. (i, has, subst (IsFollowed keys given finals i) (sym r.1) is))
            (at_more ss s u listed.0 (ap (λ l. slice_get l listed.0) (sym pushed) ∙ listed.1));
        all = below_more _ _
            (λ n less h. let f = done.all n less h in (f.0, (f.1.0, ap (λ l. slice_get l f.1.0) pushed ∙ at_still ss s f.0 f.1.0 f.1.1), f.2))
            (λ h. (s, (length ss, ap (λ l. slice_get l (length ss)) pushed ∙ at_last ss s), is));
      }

      pub followed_past : (i : ℕ) (ss more : List StandIn) → AreFollowedUpTo i ss → slice_get given i ≡ Some None → more ≡ ss → AreFollowedUpTo (i + 1) more
      followed_past i ss more done none same = subst (AreFollowedUpTo (i + 1)) (sym same) (record {
        sound = done.sound;
        all = below_more _ _ done.all (λ h. let e : Some None ≡ Some (Some h.0) = sym none ∙ h.1 in cc);
      })

      pub followed_all : (i : ℕ) (ss : List StandIn) → length given ≤ i → AreFollowedUpTo i ss → AreFollowed keys given finals ss
      followed_all i ss past done = record {
        sound = done.sound;
        all = λ n h. let less = in_length given n (Some h.0) h.1 in done.all n (omega (arith, less, past)) h;
      }
