-- Steps along chains of numbers as steps that join blocks.
use Rattle.std.proofs.Common.{◌≡◌, ◌≢◌, ◌⊎◌, inl, inr, ⊎_elim, ℕ, zero, suc, Bool, true, false, eqb, cond, List, [], ◌∷◌, ◌++◌, take, Option, Some, slice_get, refl, sym, ap, ◌∙◌, subst}
use Rattle.std.specs.Prelude.{if◌then◌else◌}
use Rattle.ir_program.specs.Replacing.{same_block}
use Rattle.ir_program.specs.declared.handles.Ptr.{Ptr}
use Rattle.ir_program.specs.declared.handles.BasicBlock.{BasicBlock}
use Rattle.ir_program.proofs.made.Frames.{same_or_not}
use Rattle.ir_trees.proofs.HandleTests.{block_yes, block_no}
use Rattle.ir_trees.proofs.Members.{Has}
use Rattle.ir_trees.specs.Searched.{AreDistinct}
use Rattle.opt_chains.specs.ChainSteps.{behind, end_of, IsFirst, AreSteps, no_steps, one_step}
use Rattle.opt_chains.specs.Merging.{held, is_taken, last_of}
use Rattle.opt_chains.specs.declared.chain_steps.ChainStep.{ChainStep}
use Rattle.opt_chains.specs.declared.merging.Join.{Join}
use Rattle.opt_chains.proofs.ChainRows.{same_number, number_yes, number_no}
use Rattle.opt_chains.proofs.MergeLists.{none_listed, same_some}

-- what an index below the length of the first of two lists finds
take_front : {X : Type 0} (xs : List X) (x : X) (k : ℕ) (y : X) → slice_get (xs ++ x ∷ []) k ≡ Some y → ((slice_get xs k ≡ Some y) × (take k (xs ++ x ∷ []) ≡ take k xs)) ⊎ ((y ≡ x) × (take k (xs ++ x ∷ []) ≡ xs))
take_front [] x zero y h = let s : Some x ≡ Some y = h in let e : y ≡ x = cc in inr (e, refl)
take_front [] x (suc k) y h = absurd (none_listed k y h)
take_front (z ∷ xs) x zero y h = inl (h, refl)
take_front (z ∷ xs) x (suc k) y h = ⊎_elim (λ l. inl (l.0, ap (λ w. z ∷ w) l.1)) (λ r. inr (r.0, ap (λ w. z ∷ w) r.1)) (take_front xs x k y h)

-- what a step is, by its index
pub record IsStepAt (next : List (Option ℕ)) (ss : List ChainStep) (k : ℕ) (s : ChainStep) : Type 0 where
  pub first : IsFirst next s.first
  pub leads : slice_get next s.before ≡ Some (Some s.to)
  pub from : s.before ≡ end_of s.first (behind (take k ss) s.first)

pub step_at : (next : List (Option ℕ)) (ss : List ChainStep) → AreSteps next ss → (k : ℕ) (s : ChainStep) → slice_get ss k ≡ Some s → IsStepAt next ss k s
step_at next _ no_steps k s h = absurd (none_listed k s h)
step_at next _ (one_step ss u all steps first leads from is) k s h = subst (λ l. IsStepAt next l k s) (sym is) (⊎_elim
    (λ l. let i = step_at next ss steps k s l.0 in record { first = i.first; leads = i.leads; from = i.from ∙ ap (λ w. end_of s.first (behind w s.first)) (sym l.1) })
    (λ r. record {
      first = subst (λ (x : ChainStep). IsFirst next x.first) (sym r.0) first;
      leads = subst (λ (x : ChainStep). slice_get next x.before ≡ Some (Some x.to)) (sym r.0) leads;
      from = subst (λ (x : ChainStep). x.before ≡ end_of x.first (behind ss x.first)) (sym r.0) from ∙ ap (λ w. end_of s.first (behind w s.first)) (sym r.1);
    })
    (take_front ss u k s (ap (λ l. slice_get l k) (sym is) ∙ h)))

-- the blocks with these numbers
module _ (keys : List (Ptr BasicBlock)) (once : AreDistinct keys) where
  pub data AreKeys : List ℕ → List (Ptr BasicBlock) → Type 0 where
    no_keys : AreKeys [] []
    one_key : (n : ℕ) (b : Ptr BasicBlock) (ns : List ℕ) (bs : List (Ptr BasicBlock)) → slice_get keys n ≡ Some b → AreKeys ns bs → AreKeys (n ∷ ns) (b ∷ bs)

  -- the steps on numbers and on blocks are the same
  pub data AreMatched : List ChainStep → List Join → Type 0 where
    none_matched : AreMatched [] []
    one_matched : (s : ChainStep) (j : Join) (ss : List ChainStep) (js : List Join) → slice_get keys s.first ≡ Some j.first → slice_get keys s.to ≡ Some j.block → AreMatched ss js → AreMatched (s ∷ ss) (j ∷ js)

  pub end_key : (a : ℕ) (b : Ptr BasicBlock) (ns : List ℕ) (bs : List (Ptr BasicBlock)) → slice_get keys a ≡ Some b → AreKeys ns bs → slice_get keys (end_of a ns) ≡ Some (last_of b bs)
  end_key a b _ _ e no_keys = e
  end_key a b _ _ e (one_key n c ns bs f rest) = end_key n c ns bs f rest

  pub held_keys : (ss : List ChainStep) (js : List Join) → AreMatched ss js → (f : ℕ) (b : Ptr BasicBlock) → slice_get keys f ≡ Some b → AreKeys (behind ss f) (held js b)
  held_keys _ _ none_matched f b e = no_keys
  held_keys _ _ (one_matched s j ss js first to rest) f b e = ⊎_elim
      (λ (same : s.first ≡ f).
      let block : j.first ≡ b = same_some (slice_get keys f) j.first b (ap (slice_get keys) (sym same) ∙ first) e in
      subst (λ t. AreKeys (if t then s.to ∷ behind ss f else behind ss f) (if same_block j.first b then j.block ∷ held js b else held js b)) (sym (number_yes s.first f same))
      (subst (λ t. AreKeys (s.to ∷ behind ss f) (if t then j.block ∷ held js b else held js b)) (sym (block_yes j.first b block)) (one_key s.to j.block (behind ss f) (held js b) to (held_keys ss js rest f b e))))
      (λ (ne : s.first ≢ f).
      let other : j.first ≢ b = λ q. ne (once s.first f b (first ∙ ap Some q) e) in
      subst (λ t. AreKeys (if t then s.to ∷ behind ss f else behind ss f) (if same_block j.first b then j.block ∷ held js b else held js b)) (sym (number_no s.first f ne))
      (subst (λ t. AreKeys (behind ss f) (if t then j.block ∷ held js b else held js b)) (sym (block_no j.first b other)) (held_keys ss js rest f b e)))
      (same_number s.first f)

  pub matched_taken : (ss : List ChainStep) (js : List Join) → AreMatched ss js → (k : ℕ) → AreMatched (take k ss) (take k js)
  matched_taken _ _ none_matched zero = none_matched
  matched_taken _ _ none_matched (suc k) = none_matched
  matched_taken _ _ (one_matched s j ss js first to rest) zero = none_matched
  matched_taken _ _ (one_matched s j ss js first to rest) (suc k) = one_matched s j (take k ss) (take k js) first to (matched_taken ss js rest k)

  -- the step on numbers of a step on blocks
  pub matched_at : (ss : List ChainStep) (js : List Join) → AreMatched ss js → (k : ℕ) (j : Join) → slice_get js k ≡ Some j → (s : ChainStep) × (slice_get ss k ≡ Some s) × (slice_get keys s.first ≡ Some j.first) × (slice_get keys s.to ≡ Some j.block)
  matched_at _ _ none_matched k j h = absurd (none_listed k j h)
  matched_at _ _ (one_matched s i ss js first to rest) zero j h = let e : Some i ≡ Some j = h in let q : i ≡ j = cc in (s, refl, subst (λ (x : Join). slice_get keys s.first ≡ Some x.first) q first, subst (λ (x : Join). slice_get keys s.to ≡ Some x.block) q to)
  matched_at _ _ (one_matched s i ss js first to rest) (suc k) j h = matched_at ss js rest k j h

  -- what is behind a number is taken
  pub taken_key : (ss : List ChainStep) (js : List Join) → AreMatched ss js → (f n : ℕ) (b : Ptr BasicBlock) → slice_get keys n ≡ Some b → Has n (behind ss f) → is_taken js b ≡ true
  taken_key _ _ none_matched f n b e h = absurd h
  taken_key _ _ (one_matched s j ss js first to rest) f n b e h = ⊎_elim
      (λ (same : b ≡ j.block). ap (λ t. cond t true (is_taken js b)) (block_yes b j.block same))
      (λ (ne : b ≢ j.block). ap (λ t. cond t true (is_taken js b)) (block_no b j.block ne) ∙ taken_key ss js rest f n b e (not_this (eqb s.first f) (λ q. ne (same_some (slice_get keys n) b j.block e (ap (slice_get keys) q ∙ to))) h))
      (same_or_not b j.block)
    where
      not_this : (t : Bool) → (n ≡ s.to → ⊥) → Has n (if t then s.to ∷ behind ss f else behind ss f) → Has n (behind ss f)
      not_this true ne g = ⊎_elim (λ e. absurd (ne e)) (λ r. r) g
      not_this false ne g = g

  -- what is taken is where a step leads
  pub key_taken : (ss : List ChainStep) (js : List Join) → AreMatched ss js → (n : ℕ) (b : Ptr BasicBlock) → slice_get keys n ≡ Some b → is_taken js b ≡ true → (k : ℕ) × (s : ChainStep) × (slice_get ss k ≡ Some s) × (s.to ≡ n)
  key_taken _ _ none_matched n b e h = let f : false ≡ true = h in cc
  key_taken _ _ (one_matched s j ss js first to rest) n b e h = ⊎_elim
      (λ (same : b ≡ j.block). (zero, s, refl, once s.to n b (to ∙ ap Some (sym same)) e))
      (λ (ne : b ≢ j.block). let l = key_taken ss js rest n b e (sym (ap (λ t. cond t true (is_taken js b)) (block_no b j.block ne)) ∙ h) in (suc l.0, l.1, l.2, l.3))
      (same_or_not b j.block)
