-- What a dialect says of an operation by its head alone, and what it must keep.
use Rattle.std.specs.Prelude.{◌≡◌, ◌<◌, ℕ, zero, suc, Bool, true, false, List, [], ◌∷◌, length, Option, Some, if◌then◌else◌, slice_get}
use Rattle.ir_trees.specs.Names.{Contents}
use Rattle.opt_rows.specs.Known.{KnowsMore}

-- what the three optimisations ask of operations and blocks, by what is said at them;
-- A are the attributes that a value can be known to be
pub record Dialect (S : Contents) (A : Type 0) : Type 0 where
  -- the kind folds to constants
  pub is_foldable : S.of_operation → Bool
  -- by the types of its results and by what is known of its operands, what each result folds to
  pub fold : S.of_operation → List S.of_value → List (Option A) → List (Option A)
  pub is_branch : S.of_operation → Bool
  -- whether the successor at this index is feasible, by what is known of the operands;
  -- each is, where the kind doesn't tell
  pub feasible : S.of_operation → List (Option A) → ℕ → Bool
  -- the edge that known operands pick
  pub edge : S.of_operation → List (Option A) → Option ℕ
  -- of so many operands, the indices of those that are forwarded to the successor at this index,
  -- in the order of its arguments
  pub forwards : S.of_operation → ℕ → ℕ → List ℕ
  pub is_terminator : S.of_operation → Bool
  -- it does more than give its results
  pub has_effects : S.of_operation → Bool
  -- the operation lets arguments go of a block of the region at this index, of its entry where that is asked
  pub can_remove : S.of_operation → ℕ → Bool → Bool
  -- the unconditional branch, if there is one, and whether an operation is of its kind
  pub plain : Option S.of_operation
  pub is_plain : S.of_operation → Bool
  -- the operation that makes an attribute, if there is one, its result's type,
  -- and whether an operation makes an attribute
  pub constant : A → Option S.of_operation
  pub constant_type : A → S.of_value
  pub is_constant : S.of_operation → Bool
  -- in the region at this index what comes first runs first
  pub is_ssa : S.of_operation → ℕ → Bool
  -- without the operands, or the arguments, at these indices
  pub drop_operands : S.of_operation → (ℕ → Bool) → S.of_operation
  pub drop_names : S.of_block → (ℕ → Bool) → S.of_block

-- the elements whose index isn't picked
abbrev pub drop : {X : Type 0} → (ℕ → Bool) → List X → List X
drop p [] = []
drop p (x ∷ xs) = if p 0 then drop (λ i. p (suc i)) xs else x ∷ drop (λ i. p (suc i)) xs

-- how many indices below this one stay
abbrev pub rank : (ℕ → Bool) → ℕ → ℕ
rank p zero = 0
rank p (suc i) = if p 0 then rank (λ j. p (suc j)) i else suc (rank (λ j. p (suc j)) i)

-- the indices that stay, as they are counted afterwards
abbrev pub renumber : (ℕ → Bool) → List ℕ → List ℕ
renumber p [] = []
renumber p (i ∷ is) = if p i then renumber p is else rank p i ∷ renumber p is

-- the indices from n on, as many as the list has elements
abbrev pub indices_from : {X : Type 0} → ℕ → List X → List ℕ
indices_from n [] = []
indices_from n (x ∷ xs) = n ∷ indices_from (suc n) xs

-- each of the operands that are picked, of so many, is forwarded to some successor
abbrev pub PicksForwarded : {S : Contents} {A : Type 0} → Dialect S A → S.of_operation → ℕ → (ℕ → Bool) → Type 0
PicksForwarded d c n p = (i : ℕ) → p i ≡ true → (s : ℕ) × (k : ℕ) × (slice_get (d.forwards c n s) k ≡ Some i)

-- what every dialect keeps
pub record Lawful {S : Contents} {A : Type 0} (d : Dialect S A) : Type 0 where
  -- more known operands give the same folds and maybe more, and no more feasible successors
  pub folds_more : (c : S.of_operation) (ts : List S.of_value) (xs ys : List (Option A)) →
      KnowsMore xs ys → KnowsMore (d.fold c ts xs) (d.fold c ts ys)
  pub feasible_less : (c : S.of_operation) (xs ys : List (Option A)) (i : ℕ) →
      KnowsMore xs ys → d.feasible c ys i ≡ true → d.feasible c xs i ≡ true
  pub edge_feasible : (c : S.of_operation) (xs : List (Option A)) (i : ℕ) →
      d.edge c xs ≡ Some i → d.feasible c xs i ≡ true
  -- folding and branching exclude each other, and a branch ends its block
  pub exclude : (c : S.of_operation) → d.is_foldable c ≡ true → d.is_branch c ≡ true → ⊥
  pub branch_ends : (c : S.of_operation) → d.is_branch c ≡ true → d.is_terminator c ≡ true
  -- one answer for each result, of its type
  pub fold_count : (c : S.of_operation) (ts : List S.of_value) (xs : List (Option A)) →
      length (d.fold c ts xs) ≡ length ts
  pub fold_types : (c : S.of_operation) (ts : List S.of_value) (xs : List (Option A)) (i : ℕ) (a : A) →
      slice_get (d.fold c ts xs) i ≡ Some (Some a) → slice_get ts i ≡ Some (d.constant_type a)
  -- what makes an attribute folds to it
  pub constant_folds : (c : S.of_operation) (a : A) → d.constant a ≡ Some c →
      (d.is_constant c ≡ true) × (d.is_foldable c ≡ true) × (d.fold c (d.constant_type a ∷ []) [] ≡ Some a ∷ [])
  -- the unconditional branch forwards all its operands along its one edge
  pub plain_is : (c : S.of_operation) → d.plain ≡ Some c → (d.is_plain c ≡ true) × (d.is_branch c ≡ true)
  pub plain_forwards : (c : S.of_operation) (xs : List ℕ) →
      d.plain ≡ Some c → d.forwards c (length xs) 0 ≡ indices_from 0 xs
  -- only operands are forwarded
  pub forwards_within : (c : S.of_operation) (n s k i : ℕ) → slice_get (d.forwards c n s) k ≡ Some i → i < n
  -- an operand is forwarded to one place at most
  pub forwards_once : (c : S.of_operation) (n s k u j i : ℕ) →
      slice_get (d.forwards c n s) k ≡ Some i → slice_get (d.forwards c n u) j ≡ Some i → (s ≡ u) × (k ≡ j)
  -- what has lost operands is what it was, and where these were forwarded it forwards what is left, in order
  pub drop_branch : (c : S.of_operation) (p : ℕ → Bool) → d.is_branch (d.drop_operands c p) ≡ d.is_branch c
  pub drop_terminator : (c : S.of_operation) (p : ℕ → Bool) →
      d.is_terminator (d.drop_operands c p) ≡ d.is_terminator c
  pub drop_effects : (c : S.of_operation) (p : ℕ → Bool) → d.has_effects (d.drop_operands c p) ≡ d.has_effects c
  pub drop_removes : (c : S.of_operation) (p : ℕ → Bool) (region : ℕ) (first : Bool) →
      d.can_remove (d.drop_operands c p) region first ≡ d.can_remove c region first
  pub drop_forwards : (c : S.of_operation) (p : ℕ → Bool) (xs : List ℕ) (s : ℕ) → PicksForwarded d c (length xs) p →
      d.forwards (d.drop_operands c p) (length (drop p xs)) s ≡ renumber p (d.forwards c (length xs) s)
  pub drop_no_operands : (c : S.of_operation) → d.drop_operands c (λ i. false) ≡ c
  pub drop_no_names : (c : S.of_block) → d.drop_names c (λ i. false) ≡ c
