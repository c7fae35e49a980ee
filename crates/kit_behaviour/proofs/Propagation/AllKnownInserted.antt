-- The pass puts in a constant for each known argument and result.
use Rattle.std.proofs.Common.{◌≡◌, ℕ, suc, ◌+◌, true, List, [], ◌∷◌, length, Option, Some, None, refl, sym, ap, ◌∙◌, subst, arith}
use Rattle.std.specs.Prelude.{slice_get, if◌then◌else◌}
use Rattle.kit_behaviour.specs.Machine.{Op, Const, Calc, Emit, Call, Branch, Return, Fun, left_in, arguments_in}
use Rattle.kit_behaviour.specs.Facts.{Known, FunctionFacts, AreMostPreciseFacts}
use Rattle.kit_behaviour.specs.Scopes.{In, defs, at_start, OpsWith}
use Rattle.kit_behaviour.specs.InsertedConstants.{Old, use_of}
use Rattle.kit_behaviour.specs.Rules.{from, OpsPlaced, Rules}
use Rattle.kit_behaviour.specs.ConstantPropagation.{Wants, known_at, number_of, number_at, made_of, with_facts}
use Rattle.kit_behaviour.specs.KnownOperands.{NamesConstant}
use Rattle.kit_behaviour.specs.Places.{Place, Arg, Res}
use Rattle.kit_behaviour.proofs.Numbering.RuleLemmas.{made_may_put}
use Rattle.kit_behaviour.proofs.ControlFlow.ForwardingPremises.{in_from}
use Rattle.kit_behaviour.proofs.Propagation.NamedConstants.{Full, OpsFull, PutsAll, known_are_constants}

module _ (want : Wants) (f : Option (Fun Place)) (k : FunctionFacts Place) (rules : Rules f) where
  made_wanted : (v : Place) (n : ℕ) → want f v ≡ true → known_at f k v ≡ Some n → made_of want f k v ≡ Some n
  made_wanted v n w e = ap (λ t. if t then known_at f k v else None) w ∙ e

  made_arg : (b i n : ℕ) → k.runs b ≡ true → k.of (Arg b i) ≡ Known n → known_at f k (Arg b i) ≡ Some n
  made_arg b i n r e = ap (λ t. if t then number_of (k.of (Arg b i)) else None) r ∙ ap number_of e

  made_res : (b o i n : ℕ) (a : Op Place) → k.runs b ≡ true → slice_get (left_in f b 0) o ≡ Some a → number_at (Some a) (k.of (Res b o i)) ≡ number_of (k.of (Res b o i)) → k.of (Res b o i) ≡ Known n → known_at f k (Res b o i) ≡ Some n
  made_res b o i n a r at q e =
      ap (λ t. if t then number_at (slice_get (left_in f b 0) o) (k.of (Res b o i)) else None) r ∙ ap (λ z. number_at z (k.of (Res b o i))) at ∙ q ∙ ap number_of e

  takes_full : (b : ℕ) → k.runs b ≡ true → Full (want f) (made_of want f k) k (arguments_in f b)
  takes_full b r v i wv n e =
      let w = in_from (Arg b) 0 (length (arguments_in f b)) v (subst (In v) (rules.args b) i) in
      made_wanted v n wv (ap (known_at f k) w.1 ∙ made_arg b w.0 n r (ap k.of (sym w.1) ∙ e))

  ops_full : (b o : ℕ) (ops : List (Op Place)) → k.runs b ≡ true → ((n : ℕ) → slice_get (left_in f b 0) (o + n) ≡ slice_get ops n) → OpsPlaced b o ops → OpsFull (want f) (made_of want f k) k ops
  ops_full b o [] r at h = tt
  ops_full b o (op ∷ ops) r at h =
      by_kind op (let z : o ≡ o + 0 = omega arith in ap (slice_get (left_in f b 0)) z ∙ at 0) h.0
      (ops_full b (suc o) ops r (λ n. let s : suc o + n ≡ o + suc n = omega arith in ap (slice_get (left_in f b 0)) s ∙ at (suc n)) h.1)
    where
      by_kind : (q : Op Place) → slice_get (left_in f b 0) o ≡ Some q → defs q ≡ from (Res b o) 0 (length (defs q)) → OpsFull (want f) (made_of want f k) k ops → OpsFull (want f) (made_of want f k) k (q ∷ ops)
      by_kind (Calc a w v x y) e d rest =
          (λ u i wu n g. let z = in_from (Res b o) 0 1 u (subst (In u) d i) in made_wanted u n wu (ap (known_at f k) z.1 ∙ made_res b o z.0 n (Calc a w v x y) r e refl (ap k.of (sym z.1) ∙ g)), rest)
      by_kind (Const v n) e d rest = rest
      by_kind (Emit x) e d rest = rest
      by_kind (Call rs c xs) e d rest = rest
      by_kind (Branch s xs x es) e d rest = rest
      by_kind (Return xs) e d rest = rest

  puts_all : PutsAll (want f) (made_of want f k) k f
  puts_all =
      record {
        arguments = takes_full;
        ops = λ b r. ops_full b 0 (left_in f b 0) r (λ n. let z : 0 + n ≡ n = omega arith in ap (slice_get (left_in f b 0)) z) (rules.names b);
      }

  pub known_named : AreMostPreciseFacts f k → (b : ℕ) → k.runs b ≡ true → OpsWith (λ a op. (x : Place) → In x a → want f x ≡ true → (n : ℕ) → k.of x ≡ Known n → NamesConstant (with_facts want f k) (use_of (made_of want f k) (Old x))) (at_start f b) (left_in f b 0)
  known_named best b r = known_are_constants (want f) (made_of want f k) k f puts_all (made_may_put want f k rules).others best.closed rules.sees b r
