-- The pass on branches and blocks keeps the rules, and bounds.
use Rattle.std.proofs.Common.{◌≡◌, ◌⊎◌, ⊎_elim, ℕ, suc, ◌+◌, ◌*◌, ◌≤◌, Bool, true, [], length, Option, Some, None, sym, ap, ◌∙◌, subst, arith}
use Rattle.std.specs.Prelude.{not}
use Rattle.std.proofs.Math.Nat.{mul-le-mul_right}
use Rattle.kit_behaviour.specs.Machine.{Fun, FunctionsByPath, left_in, arguments_in, size}
use Rattle.kit_behaviour.specs.RemovedValues.{live}
use Rattle.kit_behaviour.specs.JoinedBlocks.{joined}
use Rattle.kit_behaviour.specs.Rules.{Rules}
use Rattle.kit_behaviour.specs.DecidedBranches.{decide_op}
use Rattle.kit_behaviour.specs.Numbering.{place_fun}
use Rattle.kit_behaviour.specs.Places.{Place, same_place}
use Rattle.kit_behaviour.specs.SimplifiedBlocks.{constants, Reached, retarget, keep, join_fun, branched}
use Rattle.kit_behaviour.proofs.ControlFlow.PlacesJoined.{taken_arg, replaced_args, IsMerged, Simplifies, IsSimplify}
use Rattle.kit_behaviour.specs.PassLists.{Fit}
use Rattle.kit_behaviour.proofs.Behaviour.SizeLemmas.{length_map, place_size}
use Rattle.kit_behaviour.proofs.Numbering.PlaceEquality.{place_law}
use Rattle.kit_behaviour.proofs.Numbering.NumberingBehaviour.{place_left, place_takes}
use Rattle.kit_behaviour.proofs.Lattice.DecisionBehaviour.{decide_left, decide_takes}
use Rattle.kit_behaviour.proofs.ControlFlow.KeptBlocks.{Was, was, at, keep_left, keep_takes}
use Rattle.kit_behaviour.proofs.ControlFlow.DecisionRules.{decide_rules}
use Rattle.kit_behaviour.proofs.ControlFlow.JoiningPremises.{left_two, takes_two, join_left, join_takes, chains_free, not_free}
use Rattle.kit_behaviour.proofs.DeadCode.RemovalRules.{live_length}
use Rattle.kit_behaviour.proofs.ControlFlow.AllReached.{three_size}
use Rattle.kit_behaviour.proofs.ControlFlow.SimplifyBehaviour.{joined_same, depth_few, keep_size, size_after, kept_lives, kept_rules}
use Rattle.kit_behaviour.proofs.ControlFlow.JoiningRules.{joined_length, merged_rules}

-- a block that is left has as many arguments and operations as it had

module _ {V : Type 0} (r : ℕ → Bool) (f : Option (Fun V)) (n : ℕ) where
  pub keep_length : ((b : ℕ) → r b ≡ true → length (left_in f b 0) ≤ n) → (b : ℕ) → length (left_in (keep r f) b 0) ≤ n
  keep_length h b =
      ⊎_elim
      (λ e. let z : length (left_in (keep r f) b 0) ≡ 0 = ap length e.0 in omega (arith, z))
      (λ (w : Was r b).
      let z : length (left_in (keep r f) b 0) ≡ length (left_in f w.old 0) = ap (λ c. length (left_in (keep r f) c 0)) w.is ∙ ap length (keep_left r f w.old w.kept) ∙ length_map (retarget (at r)) (left_in f w.old 0) in
      omega (arith, z, h w.old w.kept))
      (was r f b)

  pub keep_args : ((b : ℕ) → r b ≡ true → length (arguments_in f b) ≤ n) → (b : ℕ) → length (arguments_in (keep r f) b) ≤ n
  keep_args h b =
      ⊎_elim
      (λ e. let z : length (arguments_in (keep r f) b) ≡ 0 = ap length e.1 in omega (arith, z))
      (λ (w : Was r b).
      let z : length (arguments_in (keep r f) b) ≡ length (arguments_in f w.old) = ap (λ c. length (arguments_in (keep r f) c)) w.is ∙ ap length (keep_takes r f w.old w.kept) in
      omega (arith, z, h w.old w.kept))
      (was r f b)

placed_length : (f : Option (Fun Place)) (b : ℕ) → length (left_in (place_fun same_place f) b 0) ≡ length (left_in f b 0)
placed_length f b = ap length (place_left same_place place_law f b) ∙ length_map _ (left_in f b 0)

placed_args : (f : Option (Fun Place)) (b : ℕ) → length (arguments_in (place_fun same_place f) b) ≡ length (arguments_in f b)
placed_args f b = ap length (place_takes same_place place_law f b) ∙ length_map _ (arguments_in f b)

size_keep : {V : Type 0} (r : ℕ → Bool) (f : Option (Fun V)) → size (keep r f) ≤ size f
size_keep r None = omega arith
size_keep r (Some f) = keep_size r (at r) 0 f

-- chains joined

module _ (f g : Option (Fun Place)) (rules : Rules f) (lives : (b : ℕ) → (arguments_in f b ≡ []) ⊎ Reached f b) (is : IsMerged f g) where
  abbrev f2 : Option (Fun Place)
  f2 = replaced_args is.taken is.names f

  abbrev f3 : Option (Fun Place)
  f3 = join_fun is.taken is.most f2

  abbrev stays : ℕ → Bool
  stays b = not (is.taken b)

  pub join_rules : Rules g
  join_rules = subst Rules (sym is.is) (merged_rules f rules is.taken is.is_taken is.names is.follows lives is.most is.long)

  -- the count in the definition may be any that is enough: so the number of blocks
  three_length : (n : ℕ) → ((b : ℕ) → length (left_in f b 0) ≤ n) → (b : ℕ) → stays b ≡ true → length (left_in f3 b 0) ≤ n + size f * n
  three_length n h b e =
      let jb = not_free f rules is.taken is.is_taken is.names is.follows lives is.most is.long (is.taken b) e in
      let few = λ (x i : ℕ). depth_few f is.taken is.is_taken x i in
      let same = joined_same is.taken f2 is.most (size f) (left_in f2 b 0) (chains_free f rules is.taken is.is_taken is.names is.follows lives is.most is.long b jb) (chains_free f rules is.taken is.is_taken is.names is.follows lives (size f) few b jb) in
      let two = λ (x : ℕ). let q : length (left_in f2 x 0) ≡ length (left_in f x 0) = ap length (left_two f rules is.taken is.is_taken is.names is.follows lives is.most is.long x) ∙ length_map _ (left_in f x 0) in le_by q (h x) in
      let z : length (left_in f3 b 0) ≡ length (joined is.taken f2 (size f) (left_in f2 b 0)) = ap length (join_left is.taken is.most f2 b ∙ same) in
      omega (arith, z, joined_length is.taken f2 n two (size f) (left_in f2 b 0), two b)
    where
      le_by : {x y : ℕ} → x ≡ y → y ≤ n → x ≤ n
      le_by q l = subst (λ x. x ≤ n) (sym q) l

  pub join_length : (n : ℕ) → ((b : ℕ) → length (left_in f b 0) ≤ n) → (b : ℕ) → length (left_in g b 0) ≤ n + size f * n
  join_length n h b =
      let e : length (left_in g b 0) ≡ length (left_in (keep stays f3) b 0) = ap (λ x. length (left_in x b 0)) is.is ∙ placed_length (keep stays f3) b in
      let k = keep_length stays f3 (n + size f * n) (three_length n h) b in
      subst (λ x. x ≤ n + size f * n) (sym e) k

  pub join_args : (n : ℕ) → ((b : ℕ) → length (arguments_in f b) ≤ n) → (b : ℕ) → length (arguments_in g b) ≤ n
  join_args n h b =
      let e : length (arguments_in g b) ≡ length (arguments_in (keep stays f3) b) = ap (λ x. length (arguments_in x b)) is.is ∙ placed_args (keep stays f3) b in
      let k = keep_args stays f3 n (λ x w. let q : length (arguments_in f3 x) ≡ length (live (taken_arg is.taken) (arguments_in f x)) = ap length (join_takes is.taken is.most f2 x ∙ takes_two f rules is.taken is.is_taken is.names is.follows lives is.most is.long x) in omega (arith, q, live_length (taken_arg is.taken) (arguments_in f x), h x)) b in
      omega (arith, e, k)

  pub join_fewer : size g ≤ size f
  join_fewer =
      let e : size g ≡ size (keep stays f3) = ap size is.is ∙ place_size same_place (keep stays f3) in
      omega (arith, e, size_keep stays f3, three_size is.taken is.names is.most f)

-- the whole pass

module _ (f g : Option (Fun Place)) (rules : Rules f) (is : Simplifies f g) where
  abbrev kept : Option (Fun Place)
  kept = place_fun same_place (keep is.reach (branched f))

  kept_rule : Rules kept
  kept_rule = kept_rules (branched f) is.reach is.reached (decide_rules (constants f) f rules)

  lives : (b : ℕ) → (arguments_in kept b ≡ []) ⊎ Reached kept b
  lives = kept_lives (branched f) is.reach is.reached

  pub simplify_rules : Rules g
  simplify_rules = join_rules kept g kept_rule lives is.merges

  kept_length : (n : ℕ) → ((b : ℕ) → length (left_in f b 0) ≤ n) → (b : ℕ) → length (left_in kept b 0) ≤ n
  kept_length n h b =
      let k = keep_length is.reach (branched f) n (λ x w. let q : length (left_in (branched f) x 0) ≡ length (left_in f x 0) = ap length (decide_left (constants f) f x 0) ∙ length_map (decide_op (constants f)) (left_in f x 0) in omega (arith, q, h x)) b in
      omega (arith, k, placed_length (keep is.reach (branched f)) b)

  pub simplify_length : (n : ℕ) → ((b : ℕ) → length (left_in f b 0) ≤ n) → (b : ℕ) → length (left_in g b 0) ≤ n + size kept * n
  simplify_length n h b = join_length kept g kept_rule lives is.merges n (kept_length n h) b

  pub simplify_args : (n : ℕ) → ((b : ℕ) → length (arguments_in f b) ≤ n) → (b : ℕ) → length (arguments_in g b) ≤ n
  simplify_args n h b =
      join_args kept g kept_rule lives is.merges n
      (λ x.
      let k = keep_args is.reach (branched f) n (λ y w. let q : length (arguments_in (branched f) y) ≡ length (arguments_in f y) = ap length (decide_takes (constants f) f y) in omega (arith, q, h y)) x in
      omega (arith, k, placed_args (keep is.reach (branched f)) x))
      b

  pub kept_fewer : size kept ≤ size f
  kept_fewer = size_after f is.reach

  pub simplify_fewer : size g ≤ size f
  simplify_fewer = let a = join_fewer kept g kept_rule lives is.merges in omega (arith, a, kept_fewer)

-- so after the pass the program is fit
pub simplify_fit : (p q : FunctionsByPath Place) → Fit p → IsSimplify p q → Fit q
simplify_fit p q h is =
    record {
      rules = λ path. simplify_rules (p path) (q path) (h.rules path) (is.each path);
      most = suc (h.most + h.most * h.most);
      below = λ path b.
          let s = simplify_length (p path) (q path) (h.rules path) (is.each path) h.most (λ x. omega (arith, h.below path x)) b in
          let c = kept_fewer (p path) (q path) (h.rules path) (is.each path) in
          let l : size (kept (p path) (q path) (h.rules path) (is.each path)) ≤ h.most = omega (arith, c, h.few path) in
          let t : size (kept (p path) (q path) (h.rules path) (is.each path)) * h.most ≤ h.most * h.most = mul-le-mul_right h.most l in
          omega (arith, s, t);
      args = λ path b. let a = simplify_args (p path) (q path) (h.rules path) (is.each path) h.most (h.args path) b in let z : h.most ≤ suc (h.most + h.most * h.most) = omega arith in omega (arith, a, z);
      few = λ path. let a = simplify_fewer (p path) (q path) (h.rules path) (is.each path) in let z : h.most ≤ suc (h.most + h.most * h.most) = omega arith in omega (arith, a, h.few path, z);
    }
