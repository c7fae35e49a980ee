-- Which of two comes first in a list, half way along it.
use Rattle.std.proofs.Common.{◌≡◌, ⊎_elim, ℕ, zero, suc, ◌<◌, ◌+◌, List, [], ◌∷◌, ◌++◌, length, Some, slice_get, sym, ap, subst, ◌∙◌, append_assoc, arith}
use Rattle.ir_queries.specs.Ancestors.{Precedes}
use Rattle.ir_program.specs.Lists.{operations_in, StandOnce, StandsInBlock}
use Rattle.ir_program.specs.Program.{Program}
use Rattle.ir_program.specs.declared.handles.BasicBlock.{BasicBlock}
use Rattle.ir_program.specs.declared.handles.Operation.{Operation}
use Rattle.ir_program.specs.declared.handles.Ptr.{Ptr}
use Rattle.ir_queries.proofs.Partway.{get-middle, get-split, get-last}

-- neither of the two is among the items that were met
pub record IsPast {X : Type 0} (all : List X) (a b : X) (done rest : List X) : Type 0 where
  pub parts : all ≡ done ++ rest
  pub no_first : (k : ℕ) → slice_get done k ≡ Some a → ⊥
  pub no_second : (k : ℕ) → slice_get done k ≡ Some b → ⊥

module _ {X : Type 0} {all : List X} {a b : X} {done rest : List X} (past : IsPast all a b done rest) where
  split : (k : ℕ) (x : X) → slice_get all k ≡ Some x → (slice_get done k ≡ Some x → ⊥) → (i : ℕ) × (length done + i ≡ k) × (slice_get rest i ≡ Some x)
  split k x at fails = ⊎_elim (λ h. absurd (fails h)) (λ t. t) (get-split done rest k x (subst (λ xs. slice_get xs k ≡ Some x) past.parts at))

  -- where all were met, the first of the two is nowhere
  pub none_left : rest ≡ [] → (k : ℕ) → slice_get all k ≡ Some a → ⊥
  none_left is k at =
      let t : (i : ℕ) × (length done + i ≡ k) × (slice_get rest i ≡ Some a) = split k a at (past.no_first k) in
      let s : slice_get [] t.0 ≡ Some a = subst (λ xs. slice_get xs t.0 ≡ Some a) is t.2 in
      cc

  module _ {next : List X} {y : X} (steps : rest ≡ y ∷ next) where
    -- the next one is the second: the first isn't before it
    pub second_met : y ≡ b → (j k : ℕ) → slice_get all j ≡ Some a → slice_get all k ≡ Some b → ((i : ℕ) → slice_get all i ≡ Some b → i ≡ k) → j < k → ⊥
    second_met is j k here there once lt =
        let at : slice_get all (length done) ≡ Some y = subst (λ xs. slice_get xs (length done) ≡ Some y) (sym (past.parts ∙ ap (λ r. done ++ r) steps)) (get-middle done next y) in
        let same : length done ≡ k = once (length done) (at ∙ ap Some is) in
        let t : (i : ℕ) × (length done + i ≡ j) × (slice_get rest i ≡ Some a) = split j a here (past.no_first j) in
        let sum : length done + t.0 ≡ j = t.1 in
        omega (arith, same, sum, lt)

    -- the next one is the first, and not the second: the second is behind it
    pub first_met : (y ≡ b → ⊥) → (k : ℕ) → slice_get all k ≡ Some b → length done < k
    first_met differ k there = behind (split k b there (past.no_second k)) where
      behind : (i : ℕ) × (length done + i ≡ k) × (slice_get rest i ≡ Some b) → length done < k
      behind (zero, sum, at) = let s : slice_get (y ∷ next) zero ≡ Some b = subst (λ xs. slice_get xs zero ≡ Some b) steps at in let t : Some y ≡ Some b = s in absurd (differ (cc))
      behind (suc i, sum, at) = omega (arith, sum)

    pub first_here : y ≡ a → slice_get all (length done) ≡ Some a
    first_here is = subst (λ xs. slice_get xs (length done) ≡ Some y) (sym (past.parts ∙ ap (λ r. done ++ r) steps)) (get-middle done next y) ∙ ap Some is

    -- the next one is neither
    pub neither : (y ≡ a → ⊥) → (y ≡ b → ⊥) → IsPast all a b (done ++ y ∷ []) next
    neither not_a not_b = record {
      parts = past.parts ∙ ap (λ r. done ++ r) steps ∙ sym (append_assoc done (y ∷ []) next);
      no_first = λ k at. ⊎_elim (λ h. past.no_first k h) (λ t. not_a (sym t.1)) (get-last done y k a at);
      no_second = λ k at. ⊎_elim (λ h. past.no_second k h) (λ t. not_b (sym t.1)) (get-last done y k b at);
    }

module _ {O B : Type 0} (c : Program O B) (once : StandOnce (operations_in c)) (a b : Ptr Operation) where
  -- what precedes does so in the block where it stands
  pub in_own_block : (block : Ptr BasicBlock) → StandsInBlock c a block → (h : Precedes c a b) → h.block ≡ block
  in_own_block block s h = (once a h.block block h.first s.index h.here s.here).0

  pub not_before : (block : Ptr BasicBlock) (done rest next : List (Ptr Operation)) (y : Ptr Operation) → StandsInBlock c b block → IsPast (operations_in c block) a b done rest → rest ≡ y ∷ next → y ≡ b → Precedes c a b → ⊥
  not_before block done rest next y s past steps is h =
      let same : h.block ≡ block = (once b h.block block h.second s.index h.there s.here).0 in
      let here : slice_get (operations_in c block) h.first ≡ Some a = subst (λ k. slice_get (operations_in c k) h.first ≡ Some a) same h.here in
      let there : slice_get (operations_in c block) h.second ≡ Some b = subst (λ k. slice_get (operations_in c k) h.second ≡ Some b) same h.there in
      second_met past steps is h.first h.second here there (λ i at. (once b block block i h.second at there).1) h.before

  pub before_it : (block : Ptr BasicBlock) (done rest next : List (Ptr Operation)) (y : Ptr Operation) → StandsInBlock c b block → IsPast (operations_in c block) a b done rest → rest ≡ y ∷ next → y ≡ a → (y ≡ b → ⊥) → Precedes c a b
  before_it block done rest next y s past steps is differ = record {
    block = block;
    first = length done;
    second = s.index;
    here = first_here past steps is;
    there = s.here;
    before = first_met past steps differ s.index s.here;
  }
