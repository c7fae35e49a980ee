-- Blocks that are joined, one after the other.
use Rattle.std.proofs.Common.{◌≡◌, ◌⊎◌, inl, inr, ⊎_elim, ℕ, zero, suc, ◌+◌, ◌<◌, List, [], ◌∷◌, ◌++◌, Option, Some, None, true, false, length, get_or, refl, sym, ap, ◌∙◌, subst, arith}
use Rattle.std.specs.Prelude.{slice_get, ◌↔◌}
use Rattle.std.proofs.lemmas.List.{length-append}
use Rattle.std.proofs.lemmas.Option.{none-some, same_Some, slice_get_within, slice_get-get_or}
use Rattle.opt_rows.specs.declared.chains.ChainBlock.{ChainBlock}
use Rattle.opt_rows.specs.Chains.{IsJoinedTo}
use Rattle.opt_steps.specs.ChainsJoined.{AreJoined}

-- what stands at a place of a list with one more element
pub get_pushed : {X : Type 0} (xs : List X) (x : X) (i : ℕ) → ((i ≡ length xs) × (slice_get (xs ++ x ∷ []) i ≡ Some x)) ⊎ ((i ≡ length xs → ⊥) × (slice_get (xs ++ x ∷ []) i ≡ slice_get xs i))
get_pushed [] x zero = inl (refl, refl)
get_pushed [] x (suc i) = inr ((λ e. omega (arith, e)), refl)
get_pushed (y ∷ xs) x zero = inr ((λ e. omega (arith, e)), refl)
get_pushed (y ∷ xs) x (suc i) = ⊎_elim
    (λ o. inl (ap suc o.0, o.1))
    (λ o. inr ((λ e. o.0 (omega (arith, e))), o.1))
    (get_pushed xs x i)

-- the block that a block is joined to, by the block that it goes on to alone
module _ (blocks : List ChainBlock) (from : ℕ) (d : ChainBlock) (h : from < length blocks) where
  goes_only : (b : ℕ) → IsJoinedTo blocks from b → (get_or blocks from d).only ≡ Some b
  goes_only b j = ap (λ (x : ChainBlock). x.only) (same_Some (get_or blocks from d) j.from (sym (slice_get-get_or blocks from d h) ∙ j.there)) ∙ j.only

  pub joined_by_none : (get_or blocks from d).only ≡ None → (b : ℕ) → None ≡ Some b ↔ IsJoinedTo blocks from b
  joined_by_none e b = ((λ q. absurd (none-some b q)), (λ j. absurd (none-some b (sym e ∙ goes_only b j))))

  module _ (to : ℕ) (only : (get_or blocks from d).only ≡ Some to) where
    goes_there : (b : ℕ) → IsJoinedTo blocks from b → to ≡ b
    goes_there b j = same_Some to b (sym only ∙ goes_only b j)

    not_joined : (IsJoinedTo blocks from to → ⊥) → (b : ℕ) → None ≡ Some b ↔ IsJoinedTo blocks from b
    not_joined n b = ((λ q. absurd (none-some b q)), (λ j. absurd (n (subst (IsJoinedTo blocks from) (sym (goes_there b j)) j))))

    pub joined_past : slice_get blocks to ≡ None → (b : ℕ) → None ≡ Some b ↔ IsJoinedTo blocks from b
    joined_past e = not_joined (λ j. none-some j.to (sym e ∙ j.target_there))

    pub joined_itself : to ≡ from → (b : ℕ) → None ≡ Some b ↔ IsJoinedTo blocks from b
    joined_itself e = not_joined (λ j. j.other (sym e))

    module _ (block : ChainBlock) (there : slice_get blocks to ≡ Some block) where
      target_is : (j : IsJoinedTo blocks from to) → block ≡ j.to
      target_is j = same_Some block j.to (sym there ∙ j.target_there)

      pub joined_entry : block.is_entry ≡ true → (b : ℕ) → None ≡ Some b ↔ IsJoinedTo blocks from b
      joined_entry e = not_joined (λ j. let q : true ≡ false = sym e ∙ (ap (λ (x : ChainBlock). x.is_entry) (target_is j) ∙ j.not_entry) in cc)

      pub joined_many : (block.edges ≡ 1 → ⊥) → (b : ℕ) → None ≡ Some b ↔ IsJoinedTo blocks from b
      joined_many n = not_joined (λ j. n (ap (λ (x : ChainBlock). x.edges) (target_is j) ∙ j.single))

      pub joined_there : (to ≡ from → ⊥) → block.is_entry ≡ false → block.edges ≡ 1 → (b : ℕ) → Some to ≡ Some b ↔ IsJoinedTo blocks from b
      joined_there n e m b = (
        (λ q. subst (IsJoinedTo blocks from) (same_Some to b q) (record {
          from = get_or blocks from d;
          there = slice_get-get_or blocks from d h;
          only = only;
          to = block;
          target_there = there;
          not_entry = e;
          single = m;
          other = λ s. n (sym s);
        })),
        (λ j. ap Some (goes_there b j)),
      )

-- the first k blocks have been looked at
pub record IsJoining (blocks : List ChainBlock) (k : ℕ) (next : List (Option ℕ)) : Type 0 where
  pub len : length next ≡ k
  pub sound : (a b : ℕ) → slice_get next a ≡ Some (Some b) → IsJoinedTo blocks a b
  pub all : (a b : ℕ) → a < k → IsJoinedTo blocks a b → slice_get next a ≡ Some (Some b)

pub joining_begins : (blocks : List ChainBlock) (next : List (Option ℕ)) → next ≡ [] → IsJoining blocks 0 next
joining_begins blocks next e = record {
  len = ap length e;
  sound = λ a b q. absurd (none-some (Some b) (sym (ap (λ xs. slice_get xs a) e) ∙ q));
  all = λ a b h. absurd (omega (arith, h));
}

pub joining_goes_on : (blocks : List ChainBlock) (k : ℕ) (next new : List (Option ℕ)) (o : Option ℕ) → new ≡ next ++ o ∷ [] → ((b : ℕ) → o ≡ Some b ↔ IsJoinedTo blocks k b) → IsJoining blocks k next → IsJoining blocks (k + 1) new
joining_goes_on blocks k next new o e f s = subst (IsJoining blocks (k + 1)) (sym e) (record {
  len = let l = s.len in grind (arith, l, length-append);
  sound = λ a b q. ⊎_elim
      (λ c. subst (λ n. IsJoinedTo blocks n b) (sym (c.0 ∙ s.len)) ((f b).0 (same_Some o (Some b) (sym c.1 ∙ q))))
      (λ c. s.sound a b (sym c.1 ∙ q))
      (get_pushed next o a);
  all = λ a b h j. ⊎_elim
      (λ c. c.1 ∙ ap Some ((f b).1 (subst (λ n. IsJoinedTo blocks n b) (c.0 ∙ s.len) j)))
      (λ c. c.1 ∙ s.all a b (below a h c.0) j)
      (get_pushed next o a);
})
  where
    below : (a : ℕ) → a < k + 1 → (a ≡ length next → ⊥) → a < k
    below a h n = let l = s.len in grind (arith, l)

pub joining_ends : (blocks : List ChainBlock) (k : ℕ) (next : List (Option ℕ)) → k ≡ length blocks → IsJoining blocks k next → AreJoined blocks next
joining_ends blocks k next e s = record {
  len = s.len ∙ e;
  exact = λ a b. (s.sound a b, (λ j. s.all a b (let h = slice_get_within blocks a j.from j.there in omega (arith, h, e)) j));
}
