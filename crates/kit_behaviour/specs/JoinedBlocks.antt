-- Blocks joined behind the one block that leads to them, in chains. Before this step such blocks have lost their
-- arguments.
use Rattle.std.specs.Prelude.{◌≡◌, ℕ, zero, suc, Bool, true, false, List, [], ◌∷◌, Option, if◌then◌else◌}
use Rattle.kit_behaviour.specs.Machine.{AllEdges, Op, Const, Calc, Emit, Call, Branch, Return, Fun, left_in}
use Rattle.kit_behaviour.specs.Machine.{arguments_in}

-- the operations; in the place of a branch with one edge to a block t of the set j, the operations n t
abbrev pub join_ops : {V : Type 0} → (ℕ → Bool) → (ℕ → List (Op V)) → List (Op V) → List (Op V)
join_ops j n [] = []
join_ops j n (Const v k ∷ ops) = Const v k ∷ join_ops j n ops
join_ops j n (Calc a w v x y ∷ ops) = Calc a w v x y ∷ join_ops j n ops
join_ops j n (Emit x ∷ ops) = Emit x ∷ join_ops j n ops
join_ops j n (Call vs c xs ∷ ops) = Call vs c xs ∷ join_ops j n ops
join_ops j n (Branch s xs e [] ∷ ops) = if j e.target then n e.target else Branch s xs e [] ∷ join_ops j n ops
join_ops j n (Branch s xs e (x ∷ es) ∷ ops) = Branch s xs e (x ∷ es) ∷ join_ops j n ops
join_ops j n (Return xs ∷ ops) = Return xs ∷ join_ops j n ops

-- the operations with the blocks of the set joined behind them, in chains of at most k further blocks
abbrev pub joined : {V : Type 0} → (ℕ → Bool) → Option (Fun V) → ℕ → List (Op V) → List (Op V)
joined j f zero ops = join_ops j (λ t. []) ops
joined j f (suc k) ops = join_ops j (λ t. joined j f k (left_in f t 0)) ops

-- only a branch with one edge leads to a block of the set, and N holds of that block
abbrev pub JoinsTo : {V : Type 0} → (ℕ → Bool) → (ℕ → Type 0) → List (Op V) → Type 0
JoinsTo j N [] = Unit {0}
JoinsTo j N (Branch s xs e [] ∷ ops) = (j e.target ≡ true → N e.target) × JoinsTo j N ops
JoinsTo j N (Branch s xs e (x ∷ es) ∷ ops) = AllEdges (λ y. j y.target ≡ false) (e ∷ x ∷ es) × JoinsTo j N ops
JoinsTo j N (Const v k ∷ ops) = JoinsTo j N ops
JoinsTo j N (Calc a w v x y ∷ ops) = JoinsTo j N ops
JoinsTo j N (Emit x ∷ ops) = JoinsTo j N ops
JoinsTo j N (Call vs c xs ∷ ops) = JoinsTo j N ops
JoinsTo j N (Return xs ∷ ops) = JoinsTo j N ops

-- the chain ends after at most k further blocks, and these have no arguments
abbrev pub Chains : {V : Type 0} → (ℕ → Bool) → Option (Fun V) → ℕ → List (Op V) → Type 0
Chains j f zero ops = JoinsTo j (λ t. ⊥) ops
Chains j f (suc k) ops = JoinsTo j (λ t. (arguments_in f t ≡ []) × Chains j f k (left_in f t 0)) ops

-- g is f with the blocks of the set joined behind those that lead to them
pub record JoinsBlocksOf {V : Type 0} (j : ℕ → Bool) (k : ℕ) (f g : Option (Fun V)) : Type 0 where
  pub entry : j 0 ≡ false
  pub arguments : (b : ℕ) → j b ≡ false → arguments_in g b ≡ arguments_in f b
  pub left : (b : ℕ) → j b ≡ false → left_in g b 0 ≡ joined j f k (left_in f b 0)
  pub chains : (b : ℕ) → j b ≡ false → Chains j f k (left_in f b 0)
