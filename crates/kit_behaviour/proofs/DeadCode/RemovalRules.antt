-- The removal keeps the rules.
use Rattle.std.proofs.Common.{◌≡◌, ℕ, zero, suc, ◌≤◌, Bool, true, false, List, [], ◌∷◌, length, Option, Some, None, refl, sym, ap, ◌∙◌, subst, arith}
use Rattle.std.specs.Prelude.{slice_get, option_map, if◌then◌else◌}
use Rattle.std.proofs.lemmas.Option.{slice_get-map}
use Rattle.kit_behaviour.proofs.Behaviour.SizeLemmas.{thin_size, length_map, place_size}
use Rattle.kit_behaviour.specs.Machine.{Op, Block, Fun, FunctionsByPath, ops_left, left_in, arguments_of, arguments_in, size}
use Rattle.kit_behaviour.specs.Scopes.{AllIn, at_start, OpsWith}
use Rattle.kit_behaviour.specs.RemovedValues.{goes, live, thin_op, thin_ops, thin_block, thin, SetMayGo}
use Rattle.kit_behaviour.specs.Rules.{operands, EndsWell, AllEdgesFit, Rules}
use Rattle.kit_behaviour.specs.DeadValues.{IsDceOfFunctions}
use Rattle.kit_behaviour.specs.Numbering.{place_fun}
use Rattle.kit_behaviour.specs.Places.{Place, Arg, Res, same_place}
use Rattle.kit_behaviour.specs.PassLists.{Fit}
use Rattle.kit_behaviour.proofs.Numbering.PlaceEquality.{place_law}
use Rattle.kit_behaviour.proofs.Numbering.NumberingBehaviour.{name_op, name_in, place_left, place_takes}
use Rattle.kit_behaviour.proofs.DeadCode.RemovalBehaviour.{thin_left, thin_takes}
use Rattle.kit_behaviour.proofs.DeadCode.RemovalScopes.{defs_thin, ops_end, ops_see, start_covers, ops_fit}
use Rattle.kit_behaviour.proofs.DeadCode.DeadMayGo.{dead_may_go}
use Rattle.kit_behaviour.proofs.Numbering.NumberingRules.{name_at, Distinct, placed_rules}
use Rattle.kit_behaviour.proofs.ControlFlow.KeptBlocks.{rules_distinct}

module _ {V : Type 0} (F : Option (Fun V)) (d : V → Bool) where
  -- how many stay before the ith
  stay_args : List V → ℕ → ℕ
  stay_args [] i = 0
  stay_args (x ∷ xs) zero = 0
  stay_args (x ∷ xs) (suc i) = if d x then stay_args xs i else suc (stay_args xs i)

  stay_ops : List (Op V) → ℕ → ℕ
  stay_ops [] o = 0
  stay_ops (op ∷ ops) zero = 0
  stay_ops (op ∷ ops) (suc o) = if goes d op then stay_ops ops o else suc (stay_ops ops o)

  live_from : (xs : List V) (i : ℕ) (v : V) → slice_get (live d xs) i ≡ Some v → (n : ℕ) × (slice_get xs n ≡ Some v) × (i ≡ stay_args xs n)
  unfolding stay_args
  live_from [] i v e = absurd (cc e)
  live_from (x ∷ xs) i v e = by_test (d x) refl i refl (λ c. live_from xs c v)
    where
      by_test : (b : Bool) → d x ≡ b → (c : ℕ) → i ≡ c → ((c : ℕ) → slice_get (live d xs) c ≡ Some v → (n : ℕ) × (slice_get xs n ≡ Some v) × (c ≡ stay_args xs n)) → (n : ℕ) × (slice_get (x ∷ xs) n ≡ Some v) × (i ≡ stay_args (x ∷ xs) n)
      by_test true q c z ih =
          let h = ih i (sym (ap (λ b. slice_get (if b then live d xs else x ∷ live d xs) i) q) ∙ e) in
          (suc h.0, h.1, h.2 ∙ sym (ap (λ b. if b then stay_args xs h.0 else suc (stay_args xs h.0)) q))
      by_test false q zero z ih = (0, sym (ap (λ b. slice_get (if b then live d xs else x ∷ live d xs) i) q ∙ ap (slice_get (x ∷ live d xs)) z) ∙ e, z)
      by_test false q (suc c) z ih =
          let h = ih c (sym (ap (λ b. slice_get (if b then live d xs else x ∷ live d xs) i) q ∙ ap (slice_get (x ∷ live d xs)) z) ∙ e) in
          (suc h.0, h.1, z ∙ ap suc h.2 ∙ sym (ap (λ b. if b then stay_args xs h.0 else suc (stay_args xs h.0)) q))

  name_thin : (o : Option (Op V)) (i : ℕ) (v : V) → name_op (option_map (thin_op F d) o) i ≡ Some v → name_op o i ≡ Some v
  name_thin None i v e = absurd (cc e)
  name_thin (Some op) i v e = sym (ap (λ l. slice_get l i) (defs_thin F d op)) ∙ e

  thin_from : (ops : List (Op V)) (o i : ℕ) (v : V) → name_op (slice_get (thin_ops F d ops) o) i ≡ Some v → (n : ℕ) × (name_op (slice_get ops n) i ≡ Some v) × (o ≡ stay_ops ops n)
  unfolding stay_ops
  thin_from [] o i v e = absurd (cc e)
  thin_from (op ∷ ops) o i v e = by_test (goes d op) refl o refl (λ c. thin_from ops c i v)
    where
      by_test : (b : Bool) → goes d op ≡ b → (c : ℕ) → o ≡ c → ((c : ℕ) → name_op (slice_get (thin_ops F d ops) c) i ≡ Some v → (n : ℕ) × (name_op (slice_get ops n) i ≡ Some v) × (c ≡ stay_ops ops n)) → (n : ℕ) × (name_op (slice_get (op ∷ ops) n) i ≡ Some v) × (o ≡ stay_ops (op ∷ ops) n)
      by_test true q c z ih =
          let h = ih o (sym (ap (λ b. name_op (slice_get (if b then thin_ops F d ops else thin_op F d op ∷ thin_ops F d ops) o) i) q) ∙ e) in
          (suc h.0, h.1, h.2 ∙ sym (ap (λ b. if b then stay_ops ops h.0 else suc (stay_ops ops h.0)) q))
      by_test false q zero z ih =
          (0, name_thin (Some op) i v (sym (ap (λ b. name_op (slice_get (if b then thin_ops F d ops else thin_op F d op ∷ thin_ops F d ops) o) i) q ∙ ap (λ x. name_op (slice_get (thin_op F d op ∷ thin_ops F d ops) x) i) z) ∙ e), z)
      by_test false q (suc c) z ih =
          let h = ih c (sym (ap (λ b. name_op (slice_get (if b then thin_ops F d ops else thin_op F d op ∷ thin_ops F d ops) o) i) q ∙ ap (λ x. name_op (slice_get (thin_op F d op ∷ thin_ops F d ops) x) i) z) ∙ e) in
          (suc h.0, h.1, z ∙ ap suc h.2 ∙ sym (ap (λ b. if b then stay_ops ops h.0 else suc (stay_ops ops h.0)) q))

  abbrev shift : Place → Place
  shift (Arg b i) = Arg b (stay_args (arguments_in F b) i)
  shift (Res b o i) = Res b (stay_ops (left_in F b 0) o) i

  thin_length : (ops : List (Op V)) → length (thin_ops F d ops) ≤ length ops
  thin_length [] = omega arith
  thin_length (op ∷ ops) = by_test (goes d op) (thin_length ops)
    where
      by_test : (b : Bool) → length (thin_ops F d ops) ≤ length ops → length (if b then thin_ops F d ops else thin_op F d op ∷ thin_ops F d ops) ≤ suc (length ops)
      by_test true h = omega (arith, h)
      by_test false h = omega (arith, h)

name_kept : {V : Type 0} (f : Fun V) (d : V → Bool) (a : Place) (v : V) → name_at (thin d (Some f)) a ≡ Some v → (c : Place) × (name_at (Some f) c ≡ Some v) × (a ≡ shift (Some f) d c)
name_kept {V} f d (Arg b i) v e =
    let h = by_block (slice_get f b) (sym (ap (λ o. name_in o (Arg b i)) (slice_get-map (thin_block (Some f) d) f b)) ∙ e) in (Arg b h.0, h.1, ap (Arg b) h.2)
  where
    by_block : (k : Option (Block V)) → name_in (option_map (thin_block (Some f) d) k) (Arg b i) ≡ Some v → (n : ℕ) × (name_in k (Arg b n) ≡ Some v) × (i ≡ stay_args (Some f) d (arguments_of k) n)
    by_block None g = absurd (cc g)
    by_block (Some k) g = live_from (Some f) d k.arguments i v g
name_kept {V} f d (Res b o i) v e =
    let h = by_block (slice_get f b) (sym (ap (λ x. name_in x (Res b o i)) (slice_get-map (thin_block (Some f) d) f b)) ∙ e) in (Res b h.0 i, h.1, ap (λ x. Res b x i) h.2)
  where
    by_block : (k : Option (Block V)) → name_in (option_map (thin_block (Some f) d) k) (Res b o i) ≡ Some v → (n : ℕ) × (name_in k (Res b n i) ≡ Some v) × (o ≡ stay_ops (Some f) d (ops_left k 0) n)
    by_block None g = absurd (cc g)
    by_block (Some k) g = thin_from (Some f) d k.ops o i v g

thin_distinct : {V : Type 0} (f : Option (Fun V)) (d : V → Bool) → Distinct f → Distinct (thin d f)
thin_distinct None d h v a b ea eb = absurd (cc ea)
thin_distinct (Some f) d h v a b ea eb =
    let x = name_kept f d a v ea in
    let y = name_kept f d b v eb in
    x.2 ∙ ap (shift (Some f) d) (h v x.0 y.0 x.1 y.1) ∙ sym y.2

pub thin_rules : (f : Option (Fun Place)) (d : Place → Bool) → SetMayGo d f → Rules f → Rules (place_fun same_place (thin d f))
thin_rules f d may h =
    placed_rules same_place place_law (thin d f) (thin_distinct f d (rules_distinct f h))
    (record {
      terminated = λ b l. subst EndsWell (sym (thin_left d f b)) (ops_end f d (left_in f b 0) (h.terminated b (omega (arith, l, thin_size d f))));
      sees = λ b. subst (OpsWith (λ a op. AllIn (operands op) a) (at_start (thin d f) b)) (sym (thin_left d f b)) (ops_see f d (at_start f b) (at_start (thin d f) b) (left_in f b 0) (start_covers f d b) (h.sees b) (may.uses b) (h.fits b));
      fits = λ b. subst (AllEdgesFit (thin d f)) (sym (thin_left d f b)) (ops_fit f d (left_in f b 0) (h.fits b));
    })

pub live_length : {V : Type 0} (d : V → Bool) (vs : List V) → length (live d vs) ≤ length vs
live_length d [] = omega arith
live_length d (v ∷ vs) = by_test (d v) (live_length d vs)
  where
    by_test : (b : Bool) → length (live d vs) ≤ length vs → length (if b then live d vs else v ∷ live d vs) ≤ suc (length vs)
    by_test true h = omega (arith, h)
    by_test false h = omega (arith, h)

-- so after the pass the program is fit
pub dce_fit : (p q : FunctionsByPath Place) → Fit p → IsDceOfFunctions p q → Fit q
dce_fit p q h is =
    record {
      rules = λ path. subst Rules (sym (is.is path)) (thin_rules (p path) (is.set path) (dead_may_go same_place place_law (p path) (is.set path) (is.dead path)) (h.rules path));
      most = h.most;
      below = λ path b.
          let t = thin (is.set path) (p path) in
          let e : length (left_in (q path) b 0) ≡ length (thin_ops (p path) (is.set path) (left_in (p path) b 0)) = ap (λ x. length (left_in x b 0)) (is.is path) ∙ ap length (place_left same_place place_law t b) ∙ length_map _ (left_in t b 0) ∙ ap length (thin_left (is.set path) (p path) b) in
          omega (arith, e, thin_length (p path) (is.set path) (left_in (p path) b 0), h.below path b);
      args = λ path b.
          let t = thin (is.set path) (p path) in
          let e : length (arguments_in (q path) b) ≡ length (live (is.set path) (arguments_in (p path) b)) = ap (λ x. length (arguments_in x b)) (is.is path) ∙ ap length (place_takes same_place place_law t b) ∙ length_map _ (arguments_in t b) ∙ ap length (thin_takes (is.set path) (p path) b) in
          omega (arith, e, live_length (is.set path) (arguments_in (p path) b), h.args path b);
      few = λ path.
          let e : size (q path) ≡ size (p path) = ap size (is.is path) ∙ place_size same_place (thin (is.set path) (p path)) ∙ thin_size (is.set path) (p path) in
          omega (arith, e, h.few path);
    }
