-- Constant propagation under any names is constant propagation by places, with constants for all known values.
use Rattle.std.proofs.Common.{◌≡◌, ⊎_elim, inl, inr, ℕ, zero, suc, Bool, true, false, List, [], ◌∷◌, Option, Some, None}
use Rattle.std.proofs.Common.{refl, sym, ap, ◌∙◌, subst}
use Rattle.std.specs.Prelude.{map, slice_get, option_map, if◌then◌else◌, ◌↔◌}
use Rattle.std.proofs.lemmas.Option.{slice_get-map}
use Rattle.kit_behaviour.specs.ConstantPropagation.{number_of, number_at, known_at, all_wanted, made_of, with_facts}
use Rattle.kit_behaviour.specs.ConstantPropagation.{PropagatesConstants}
use Rattle.kit_behaviour.specs.Facts.{Fact, Undetermined, Known, Unknown, FunctionFacts, FactAtOrBelow, FactsMorePrecise, AreMostPreciseFacts}
use Rattle.kit_behaviour.specs.InsertedConstants.{OldOrNewName, same_name, Made, put_block, use_of}
use Rattle.kit_behaviour.specs.Machine.{Arith, Op, Const, Calc, Emit, Call, Branch, Return, Block, Fun, left_in}
use Rattle.kit_behaviour.specs.Machine.{arguments_in}
use Rattle.kit_behaviour.specs.NamedPasses.{calc_defs, GetsConstant, PropagatesNamed}
use Rattle.kit_behaviour.specs.Numbering.{place_of, place_fun, HasPlace, NamesAreDefined}
use Rattle.kit_behaviour.specs.Places.{Place, Arg, Res, same_place}
use Rattle.kit_behaviour.specs.Renaming.{rename_fun}
use Rattle.kit_behaviour.specs.Replacement.{replace_block}
use Rattle.kit_behaviour.specs.Rules.{Rules}
use Rattle.kit_behaviour.specs.Scopes.{In}
use Rattle.kit_behaviour.proofs.Behaviour.FrameLemmas.{IsSameness}
use Rattle.kit_behaviour.proofs.Lattice.RenamedFacts.{fact_named, at_top, by_name, by_place, by_name_of}
use Rattle.kit_behaviour.proofs.Lattice.RenamedFacts.{place_closed, name_closed}
use Rattle.kit_behaviour.proofs.Numbering.DefinedNames.{has_place, scoped_defined}
use Rattle.kit_behaviour.proofs.Numbering.DefinedUnderNames.{defined_back}
use Rattle.kit_behaviour.proofs.Numbering.NumberingBehaviour.{block_of, name_op, apart, place_left}
use Rattle.kit_behaviour.proofs.Numbering.NumberingRules.{name_at, arg_name, res_name, name_arg, name_res, slice_in}
use Rattle.kit_behaviour.proofs.Numbering.NumberingRules.{block_at}
use Rattle.kit_behaviour.proofs.Numbering.PlaceEquality.{place_law}
use Rattle.kit_behaviour.proofs.ControlFlow.NamedCommuting.{ren}
use Rattle.kit_behaviour.proofs.ControlFlow.NamedMerging.{named_back, home, all_named}
use Rattle.kit_behaviour.proofs.ControlFlow.NamedPlacing.{AreNamed, placed_on}
use Rattle.kit_behaviour.proofs.Propagation.NamedInsertion.{both_renamed, OfValue, names_apart, used_named}
use Rattle.kit_behaviour.proofs.Propagation.NamedInsertion.{used_renamed}
use Rattle.kit_behaviour.proofs.Propagation.PropagationBehaviour.{same_name_law}
use Rattle.kit_behaviour.proofs.Propagation.PropagationRules.{facts_scoped}

same_option : {A : Type 0} (o p : Option A) → ((a : A) → o ≡ Some a → p ≡ Some a) →
    ((a : A) → p ≡ Some a → o ≡ Some a) → o ≡ p
same_option None None there back = refl
same_option None (Some b) there back = back b refl
same_option (Some a) p there back = sym (there a refl)

number_known : (t : Fact) (n : ℕ) → number_of t ≡ Some n → t ≡ Known n
number_known (Known k) n e = let q : k ≡ n = cc e in ap Known q
number_known Undetermined n e = absurd (cc e)
number_known Unknown n e = absurd (cc e)

one_of : {A : Type 0} (v x : A) (i : ℕ) → slice_get (v ∷ []) i ≡ Some x → v ≡ x
one_of v x zero e = cc e
one_of v x (suc i) e = absurd (cc e)

in_slice : {A : Type 0} (v : A) (xs : List A) → In v xs → (i : ℕ) × (slice_get xs i ≡ Some v)
in_slice v [] h = absurd h
in_slice v (x ∷ xs) h = ⊎_elim (λ e. (0, ap Some (sym e))) (λ k. let m = in_slice v xs k in (suc m.0, m.1)) h

-- results of arithmetic and of comparisons, by their operations

calc_in : {V : Type 0} (ops : List (Op V)) (o : ℕ) (a : Arith) (w : ℕ) (v x y : V) →
    slice_get ops o ≡ Some (Calc a w v x y) → In v (calc_defs ops)
calc_in [] o a w v x y e = absurd (cc e)
calc_in (op ∷ ops) zero a w v x y e =
    let q : op ≡ Calc a w v x y = cc e in subst (λ z. In v (calc_defs (z ∷ ops))) (sym q) (inl refl)
calc_in (Calc b u c s t ∷ ops) (suc o) a w v x y e = inr (calc_in ops o a w v x y e)
calc_in (Const r n ∷ ops) (suc o) a w v x y e = calc_in ops o a w v x y e
calc_in (Emit s ∷ ops) (suc o) a w v x y e = calc_in ops o a w v x y e
calc_in (Call rs c xs ∷ ops) (suc o) a w v x y e = calc_in ops o a w v x y e
calc_in (Branch s xs t es ∷ ops) (suc o) a w v x y e = calc_in ops o a w v x y e
calc_in (Return xs ∷ ops) (suc o) a w v x y e = calc_in ops o a w v x y e

-- an operation of arithmetic or a comparison that stands there, with this result
record CalcAt {V : Type 0} (v : V) (ops : List (Op V)) : Type 0 where
  o : ℕ
  a : Arith
  w : ℕ
  x : V
  y : V
  at : slice_get ops o ≡ Some (Calc a w v x y)

one_later : {V : Type 0} (v : V) (op : Op V) (ops : List (Op V)) → CalcAt v ops → CalcAt v (op ∷ ops)
one_later v op ops c = record { o = suc c.o; a = c.a; w = c.w; x = c.x; y = c.y; at = c.at }

calc_at : {V : Type 0} (v : V) (ops : List (Op V)) → In v (calc_defs ops) → CalcAt v ops
calc_at v [] i = absurd i
calc_at v (Calc a w r x y ∷ ops) i =
    ⊎_elim
    (λ e. record { o = 0; a = a; w = w; x = x; y = y; at = ap (λ z. Some (Calc a w z x y)) (sym e) })
    (λ k. one_later v (Calc a w r x y) ops (calc_at v ops k))
    i
calc_at v (Const r n ∷ ops) i = one_later v (Const r n) ops (calc_at v ops i)
calc_at v (Emit s ∷ ops) i = one_later v (Emit s) ops (calc_at v ops i)
calc_at v (Call rs c xs ∷ ops) i = one_later v (Call rs c xs) ops (calc_at v ops i)
calc_at v (Branch s xs t es ∷ ops) i = one_later v (Branch s xs t es) ops (calc_at v ops i)
calc_at v (Return xs ∷ ops) i = one_later v (Return xs) ops (calc_at v ops i)

-- a function that is not there
none_best : {V : Type 0} (k : FunctionFacts V) → AreMostPreciseFacts {V = V} None k →
    AreMostPreciseFacts {V = Place} None (record { runs = k.runs; of = λ a. Undetermined })
none_best k best = record {
  closed = record { entry_runs = best.closed.entry_runs; entry_unknown = tt; ops = λ b h. tt };
  best = λ l c.
      let m = best.best (record { runs = l.runs; of = λ v. Undetermined })
      (record { entry_runs = c.entry_runs; entry_unknown = tt; ops = λ b h. tt }) in
      record { fewer = m.fewer; above = λ a. at_top (l.of a) };
}

module _ {V : Type 0} (same : V → V → Bool) (law : IsSameness same) (f : Fun V) (defined : NamesAreDefined same (Some f))
    (rules : Rules (place_fun same (Some f))) (k : FunctionFacts V) where
  abbrev F : Option (Fun V)
  F = Some f

  abbrev P : Option (Fun Place)
  P = place_fun same F

  abbrev r : V → Place
  r = place_of same f

  abbrev H : V → Type 0
  H = HasPlace same F

  -- 1. the facts, said of places

  abbrev K : FunctionFacts Place
  K = by_place same law F k

  named_has : (a : Place) (x : V) → name_at F a ≡ Some x → H x
  named_has a x e = has_place same law F (block_of a) x (block_at x (slice_get f (block_of a)) a e)

  fact_above : (l : FunctionFacts Place) → FactsMorePrecise k (by_name same law F l) → (a : Place) → FactAtOrBelow (l.of a) (K.of a)
  fact_above l m a = by_named (name_at F a) refl
    where
      by_named : (o : Option V) → name_at F a ≡ o → FactAtOrBelow (l.of a) (fact_named k o)
      by_named None e = at_top (l.of a)
      by_named (Some x) e =
          subst (λ t. FactAtOrBelow t (k.of x))
          (sym (by_name_of same law F l x (named_has a x e)) ∙ ap l.of (home same law f defined rules a x e))
          (m.above x)

  facts_best : AreMostPreciseFacts F k → AreMostPreciseFacts P K
  facts_best best = record {
    closed = place_closed same law F defined k best.closed;
    best = λ l c.
        let m = best.best (by_name same law F l) (name_closed same law F defined l c) in
        record { fewer = m.fewer; above = fact_above l m };
  }

  -- 2. the same values get constants

  abbrev M : Made Place
  M = made_of all_wanted P K

  left_at : (b o : ℕ) → slice_get (left_in P b 0) o ≡ option_map (ren r) (slice_get (left_in F b 0) o)
  left_at b o = ap (λ l. slice_get l o) (place_left same law F b) ∙ slice_get-map (ren r) (left_in F b 0) o

  known_here : (a : Place) (x : V) (n : ℕ) → name_at F a ≡ Some x → number_of (K.of a) ≡ Some n → k.of x ≡ Known n
  known_here a x n e z = number_known (k.of x) n (sym (ap (λ o. number_of (fact_named k o)) e) ∙ z)

  gets_at : (a : Place) (x : V) (n : ℕ) → name_at F a ≡ Some x → known_at P K a ≡ Some n → GetsConstant F k x n
  gets_at (Arg b i) x n e z = by_runs (k.runs b) refl z
    where
      by_runs : (t : Bool) → k.runs b ≡ t → (if t then number_of (K.of (Arg b i)) else None) ≡ Some n → GetsConstant F k x n
      by_runs false q w = absurd (cc w)
      by_runs true q w = record {
        known = known_here (Arg b i) x n e w;
        block = b;
        runs = q;
        place = inl (slice_in x (arguments_in F b) i (arg_name F b i x e));
      }
  gets_at (Res b o i) x n e z = by_runs (k.runs b) refl z
    where
      by_op : k.runs b ≡ true → (u : Option (Op V)) → slice_get (left_in F b 0) o ≡ u → name_op u i ≡ Some x →
          number_at (option_map (ren r) u) (K.of (Res b o i)) ≡ Some n → GetsConstant F k x n
      by_op q None at w y = absurd (cc w)
      by_op q (Some (Calc a t v s u)) at w y = record {
        known = known_here (Res b o i) x n e y;
        block = b;
        runs = q;
        place = inr (subst (λ c. In c (calc_defs (left_in F b 0))) (one_of v x i w)
            (calc_in (left_in F b 0) o a t v s u at));
      }
      by_op q (Some (Const v c)) at w y = absurd (cc y)
      by_op q (Some (Emit s)) at w y = absurd (cc y)
      by_op q (Some (Call vs c xs)) at w y = absurd (cc y)
      by_op q (Some (Branch s xs c es)) at w y = absurd (cc y)
      by_op q (Some (Return xs)) at w y = absurd (cc y)

      by_runs : (t : Bool) → k.runs b ≡ t →
          (if t then number_at (slice_get (left_in P b 0) o) (K.of (Res b o i)) else None) ≡ Some n → GetsConstant F k x n
      by_runs false q w = absurd (cc w)
      by_runs true q w = by_op q (slice_get (left_in F b 0) o) refl (res_name F b o i x e)
          (sym (ap (λ u. number_at u (K.of (Res b o i))) (left_at b o)) ∙ w)

  known_of : (a : Place) (x : V) (n : ℕ) → name_at F a ≡ Some x → k.of x ≡ Known n → number_of (K.of a) ≡ Some n
  known_of a x n e q = ap (λ o. number_of (fact_named k o)) e ∙ ap number_of q

  known_back : (x : V) (n : ℕ) → GetsConstant F k x n → known_at P K (r x) ≡ Some n
  known_back x n g =
      ⊎_elim
      (λ i.
      let s = in_slice x (arguments_in F g.block) i in
      let e = name_arg same law F g.block s.0 x s.1 in
      ap (known_at P K) (home same law f defined rules (Arg g.block s.0) x e)
      ∙ ap (λ t. if t then number_of (K.of (Arg g.block s.0)) else None) g.runs
      ∙ known_of (Arg g.block s.0) x n e g.known)
      (λ i.
      let c = calc_at x (left_in F g.block 0) i in
      let e = name_res same law F g.block c.o 0 x (ap (λ z. name_op z 0) c.at) in
      ap (known_at P K) (home same law f defined rules (Res g.block c.o 0) x e)
      ∙ ap (λ t. if t then number_at (slice_get (left_in P g.block 0) c.o) (K.of (Res g.block c.o 0)) else None) g.runs
      ∙ ap (λ u. number_at u (K.of (Res g.block c.o 0))) (left_at g.block c.o ∙ ap (option_map (ren r)) c.at)
      ∙ known_of (Res g.block c.o 0) x n e g.known)
      g.place

  module _ (m : Made V) (gets : (v : V) (n : ℕ) → (m v ≡ Some n) ↔ GetsConstant F k v n) where
    made_same : (x : V) → H x → M (r x) ≡ m x
    made_same x h =
        same_option (M (r x)) (m x)
        (λ n e. (gets x n).1 (gets_at (r x) x n (named_back same law f defined rules x h) e))
        (λ n e. known_back x n ((gets x n).0 e))

    -- 3. constants put in

    abbrev G : List (Block (OldOrNewName V))
    G = map (replace_block (use_of m)) (map (put_block m) f)

    abbrev R : OldOrNewName V → OldOrNewName Place
    R = both_renamed r

    with_is : with_facts all_wanted P K ≡ rename_fun R (Some G)
    with_is = used_renamed r H m M made_same f (all_named same law f defined rules)

    left_named : AreNamed (OfValue H) (Some G)
    left_named = used_named H m F (all_named same law f defined rules)

    stay_apart : (x y : OldOrNewName V) → OfValue H x → OfValue H y → same_name same_place (R x) (R y) ≡ same_name same x y
    stay_apart = names_apart same same_place r H (λ x y a b. apart same law F x y a b)

    pub propagates : AreMostPreciseFacts F k → PropagatesConstants all_wanted P (place_fun (same_name same) (Some G))
    propagates best = record {
      facts = K;
      best = facts_best best;
      is = sym (ap (place_fun (same_name same_place)) with_is
          ∙ placed_on (same_name same) (same_name same_place) R (OfValue H) stay_apart (Some G) left_named);
    }

    pub defined_after : NamesAreDefined (same_name same) (Some G)
    defined_after =
        defined_back (same_name same) (same_name same_place) R (OfValue H) stay_apart G left_named
        (subst (NamesAreDefined (same_name same_place)) with_is
        (scoped_defined (same_name same_place) (same_name_law same_place place_law) (with_facts all_wanted P K)
        (facts_scoped all_wanted P K rules)))

module _ {V : Type 0} (same : V → V → Bool) (law : IsSameness same) where
  pub propagates_by_place : (f : Option (Fun V)) (g : Option (Fun (OldOrNewName V))) → NamesAreDefined same f →
      Rules (place_fun same f) → PropagatesNamed f g →
      PropagatesConstants all_wanted (place_fun same f) (place_fun (same_name same) g)
  propagates_by_place None g defined rules m = record {
    facts = record { runs = m.facts.runs; of = λ a. Undetermined };
    best = none_best m.facts m.best;
    is = ap (place_fun (same_name same)) m.is;
  }
  propagates_by_place (Some f) g defined rules m =
      subst (λ z. PropagatesConstants all_wanted (place_fun same (Some f)) (place_fun (same_name same) z)) (sym m.is)
      (propagates same law f defined rules m.facts m.made m.gets m.best)

  pub propagation_defines : (f : Option (Fun V)) (g : Option (Fun (OldOrNewName V))) → NamesAreDefined same f →
      Rules (place_fun same f) → PropagatesNamed f g → NamesAreDefined (same_name same) g
  propagation_defines None g defined rules m =
      subst (NamesAreDefined (same_name same)) (sym m.is) (record { ops = λ b. tt; arguments = λ b. tt })
  propagation_defines (Some f) g defined rules m =
      subst (NamesAreDefined (same_name same)) (sym m.is)
      (defined_after same law f defined rules m.facts m.made m.gets)
