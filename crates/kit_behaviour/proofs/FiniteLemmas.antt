-- One number bounds finitely many functions.
use Rattle.std.proofs.Common.{◌≡◌, ⊎_elim, ℕ, zero, suc, ◌+◌, ◌<◌, ◌≤◌, List, [], ◌∷◌, length, Option, Some, None, sym, ap, subst, arith}
use Rattle.std.specs.Prelude.{slice_get}
use Rattle.kit_behaviour.specs.Machine.{Block, Fun, FunctionsByPath, ops_left, left_in, arguments_of, arguments_in, size}
use Rattle.kit_behaviour.specs.Scopes.{In}
use Rattle.kit_behaviour.specs.Rules.{Rules}
use Rattle.kit_behaviour.specs.PassLists.{Fit, IsFinite}
use Rattle.kit_behaviour.specs.Places.{Place}

-- more than the operations and arguments of each of these blocks together
blocks_weight : List (Block Place) → ℕ
blocks_weight [] = 1
blocks_weight (k ∷ ks) = length k.arguments + (length k.ops + blocks_weight ks)

funs_weight : List (Fun Place) → ℕ
funs_weight [] = 1
funs_weight (f ∷ fs) = length f + (blocks_weight f + funs_weight fs)

-- f is within n
record Within (n : ℕ) (f : Option (Fun Place)) : Type 0 where
  below : (b : ℕ) → length (left_in f b 0) < n
  args : (b : ℕ) → length (arguments_in f b) ≤ n
  few : size f ≤ n

blocks_some : (ks : List (Block Place)) → 0 < blocks_weight ks
unfolding blocks_weight
blocks_some [] = omega arith
blocks_some (k ∷ ks) = let h = blocks_some ks in omega (arith, h)

blocks_below : (ks : List (Block Place)) (b : ℕ) → length (ops_left (slice_get ks b) 0) < blocks_weight ks
unfolding blocks_weight
blocks_below [] b = omega arith
blocks_below (k ∷ ks) zero = let h = blocks_some ks in omega (arith, h)
blocks_below (k ∷ ks) (suc b) = let h = blocks_below ks b in omega (arith, h)

blocks_args : (ks : List (Block Place)) (b : ℕ) → length (arguments_of (slice_get ks b)) ≤ blocks_weight ks
unfolding blocks_weight
blocks_args [] b = omega arith
blocks_args (k ∷ ks) zero = omega arith
blocks_args (k ∷ ks) (suc b) = let h = blocks_args ks b in omega (arith, h)

funs_within : (f : Fun Place) (fs : List (Fun Place)) → In f fs → (length f ≤ funs_weight fs) × (blocks_weight f ≤ funs_weight fs)
unfolding funs_weight
funs_within f [] i = absurd i
funs_within f (g ∷ fs) i =
    ⊎_elim
    (λ e.
    let l : length f ≡ length g = ap length e in
    let w : blocks_weight f ≡ blocks_weight g = ap blocks_weight e in
    (omega (arith, l), omega (arith, w)))
    (λ j. let h = funs_within f fs j in (omega (arith, h.0), omega (arith, h.1)))
    i

one_within : (f : Fun Place) (fs : List (Fun Place)) → In f fs → Within (funs_weight fs) (Some f)
one_within f fs i =
    let h = funs_within f fs i in
    record {
      below = λ b. let l = blocks_below f b in omega (arith, l, h.1);
      args = λ b. let l = blocks_args f b in omega (arith, l, h.1);
      few = h.0;
    }

funs_some : (fs : List (Fun Place)) → 0 < funs_weight fs
unfolding funs_weight
funs_some [] = omega arith
funs_some (f ∷ fs) = let h = funs_some fs in omega (arith, h)

none_within : (n : ℕ) → 0 < n → Within n None
none_within n l = record { below = λ b. l; args = λ b. omega arith; few = omega arith }

pub finite_fit : (p : FunctionsByPath Place) → ((path : List ℕ) → Rules (p path)) → IsFinite p → Fit p
finite_fit p rules finite =
    record {
      rules = rules;
      most = funs_weight finite.functions;
      below = λ path b. (within path).below b;
      args = λ path b. (within path).args b;
      few = λ path. (within path).few;
    }
  where
    within : (path : List ℕ) → Within (funs_weight finite.functions) (p path)
    within path =
        ⊎_elim
        (λ e. subst (Within (funs_weight finite.functions)) (sym e) (none_within (funs_weight finite.functions) (funs_some finite.functions)))
        (λ h. subst (Within (funs_weight finite.functions)) (sym h.2) (one_within h.0 finite.functions h.1))
        (finite.all path)
