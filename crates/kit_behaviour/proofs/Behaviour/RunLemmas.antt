-- Facts of the machine alone: runs add up, a run that is over stays so, emissions only grow.
use Rattle.std.proofs.Common.{◌≡◌, ℕ, zero, suc, ◌+◌, Bool, List, [], ◌∷◌, ◌++◌, refl, sym, ap, ◌∙◌, arith, append_assoc}
use Rattle.kit_behaviour.specs.Machine.{Frame, State, Going, Ended, Trapped, Effect, Next, Out, Enter, Exit, Fault, Lost, FunctionsByPath, act, done, return_to, step, run, out_of, IsPrefixOf}

pub run-add : {V : Type 0} (same : V → V → Bool) (p : FunctionsByPath V) (a b : ℕ) (s : State V) → run same p (a + b) s ≡ run same p b (run same p a s)
run-add same p zero b s = let e : 0 + b ≡ b = omega arith in ap (λ n. run same p n s) e
run-add same p (suc a) b s =
    let e : suc a + b ≡ suc (a + b) = omega arith in
    ap (λ n. run same p n s) e ∙ run-add same p a b (step same p s)

pub ended_stays : {V : Type 0} (same : V → V → Bool) (p : FunctionsByPath V) (k : ℕ) (ns out : List ℕ) → run same p k (Ended ns out) ≡ Ended ns out
ended_stays same p zero ns out = refl
ended_stays same p (suc k) ns out = ended_stays same p k ns out

pub trapped_stays : {V : Type 0} (same : V → V → Bool) (p : FunctionsByPath V) (k : ℕ) (out : List ℕ) → run same p k (Trapped out) ≡ Trapped out
trapped_stays same p zero out = refl
trapped_stays same p (suc k) out = trapped_stays same p k out

append_none : (xs : List ℕ) → xs ++ [] ≡ xs
append_none [] = refl
append_none (x ∷ xs) = ap (λ l. x ∷ l) (append_none xs)

pub prefix_refl : (xs : List ℕ) → IsPrefixOf xs xs
prefix_refl xs = ([], append_none xs)

pub prefix_trans : (xs ys zs : List ℕ) → IsPrefixOf xs ys → IsPrefixOf ys zs → IsPrefixOf xs zs
prefix_trans xs ys zs a b = (a.0 ++ b.0, sym (append_assoc xs a.0 b.0) ∙ ap (λ l. l ++ b.0) a.1 ∙ b.1)

return_out : {V : Type 0} (same : V → V → Bool) (p : FunctionsByPath V) (fs : List (Frame V)) (ns out : List ℕ) → IsPrefixOf out (out_of (return_to same p fs ns out))
return_out same p [] ns out = prefix_refl out
return_out same p (f ∷ fs) ns out = prefix_refl out

done_out : {V : Type 0} (same : V → V → Bool) (p : FunctionsByPath V) (f : Frame V) (fs : List (Frame V)) (out : List ℕ) (d : Effect V) → IsPrefixOf out (out_of (done same p f fs out d))
done_out same p f fs out (Next g) = prefix_refl out
done_out same p f fs out (Out n g) = (n ∷ [], refl)
done_out same p f fs out (Enter callee xs) = prefix_refl out
done_out same p f fs out (Exit xs) = return_out same p fs xs out
done_out same p f fs out Fault = prefix_refl out
done_out same p f fs out Lost = prefix_refl out

pub step_out : {V : Type 0} (same : V → V → Bool) (p : FunctionsByPath V) (s : State V) → IsPrefixOf (out_of s) (out_of (step same p s))
step_out same p (Going [] out) = prefix_refl out
step_out same p (Going (f ∷ fs) out) = done_out same p f fs out (act same p f)
step_out same p (Ended ns out) = prefix_refl out
step_out same p (Trapped out) = prefix_refl out

pub run_out : {V : Type 0} (same : V → V → Bool) (p : FunctionsByPath V) (k : ℕ) (s : State V) → IsPrefixOf (out_of s) (out_of (run same p k s))
run_out same p zero s = prefix_refl (out_of s)
run_out same p (suc k) s = prefix_trans _ _ _ (step_out same p s) (run_out same p k (step same p s))
