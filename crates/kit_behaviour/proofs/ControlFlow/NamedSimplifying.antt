-- The pass on control flow under any names of values is the pass by places.
use Rattle.std.proofs.Common.{◌≡◌, ⊎_elim, inl, inr, ℕ, zero, suc, Bool, true, List, [], ◌∷◌, ◌++◌, Option, Some, None}
use Rattle.std.proofs.Common.{refl, sym, ap, ◌∙◌, subst}
use Rattle.std.specs.Prelude.{map, slice_get, option_map}
use Rattle.std.proofs.lemmas.Option.{slice_get-map}
use Rattle.kit_behaviour.specs.DecidedBranches.{single, branch_by, decide_op, decide_block, decide}
use Rattle.kit_behaviour.specs.Facts.{FunctionFacts, Knows, Lacks, Numbers, Open, knows, all_forwarded}
use Rattle.kit_behaviour.specs.Machine.{AllEdges, Edge, Select, Plain, chosen, Op, Const, Calc, Emit, Call, Branch}
use Rattle.kit_behaviour.specs.Machine.{Return, Block, Fun, left_in, arguments_in}
use Rattle.kit_behaviour.specs.SimplifiedNames.{IsConstantIn, AreConstants, SimplifiesNamed}
use Rattle.kit_behaviour.specs.Renaming.{rename_block, AllNamed, EdgeNamed, OpNamed, OpsNamed}
use Rattle.kit_behaviour.specs.Rules.{operands, Rules}
use Rattle.kit_behaviour.specs.Scopes.{In, AllIn, defs, all_defs, entry_values, at_start, OpsWith}
use Rattle.kit_behaviour.specs.Places.{Place, Arg, Res, same_place}
use Rattle.kit_behaviour.specs.Numbering.{place_of, place_fun, HasPlace, AnyBlock, NamesAreDefined}
use Rattle.kit_behaviour.specs.SimplifiedBlocks.{const_fact, const_value, constants, all_edges, LeadsTo, Reached, first}
use Rattle.kit_behaviour.specs.SimplifiedBlocks.{further, IsReachedSet, between, keep, branched, IsMerged, SimplifiesFunction}
use Rattle.kit_behaviour.proofs.Behaviour.EdgeLemmas.{taken_has, taken_map, map_append}
use Rattle.kit_behaviour.proofs.Behaviour.FrameLemmas.{IsSameness}
use Rattle.kit_behaviour.proofs.Lattice.DecisionBehaviour.{decide_left, decide_takes}
use Rattle.kit_behaviour.proofs.Numbering.NumberingBehaviour.{name_op, apart, place_left, place_takes}
use Rattle.kit_behaviour.proofs.Numbering.NumberingRules.{name_at, res_name, name_res, slice_in, operands_under}
use Rattle.kit_behaviour.proofs.ControlFlow.ChainLemmas.{in_leads}
use Rattle.kit_behaviour.proofs.ControlFlow.DecisionRules.{ops_see, start_decided, decide_rules}
use Rattle.kit_behaviour.proofs.ControlFlow.JoiningPremises.{edges_by}
use Rattle.kit_behaviour.proofs.ControlFlow.KeptBlocks.{keep_sees}
use Rattle.kit_behaviour.proofs.ControlFlow.NamedCommuting.{ren, ren_edge, all_edges_renamed, left_renamed}
use Rattle.kit_behaviour.proofs.ControlFlow.NamedCommuting.{keep_renamed}
use Rattle.kit_behaviour.proofs.ControlFlow.NamedMerging.{named_back, home, all_named, merges_by_place}
use Rattle.kit_behaviour.proofs.ControlFlow.NamedPlacing.{AreNamed, defs_named, kept_named, placed_on}
use Rattle.kit_behaviour.proofs.ControlFlow.ScopesAfterJoining.{sees_defined}
use Rattle.kit_behaviour.proofs.ControlFlow.SimplifyBehaviour.{kept_rules}

some_is : {A : Type 0} (x y : A) → Some x ≡ Some y → x ≡ y
some_is x y e = cc e

one_of : {A : Type 0} (v x : A) (i : ℕ) → slice_get (v ∷ []) i ≡ Some x → v ≡ x
one_of v x zero e = some_is v x e
one_of v x (suc i) e = absurd (cc e)

in_slice : {A : Type 0} (v : A) (xs : List A) → In v xs → (i : ℕ) × (slice_get xs i ≡ Some v)
in_slice v [] h = absurd h
in_slice v (x ∷ xs) h = ⊎_elim (λ e. (0, ap Some (sym e))) (λ k. let m = in_slice v xs k in (suc m.0, m.1)) h

res_block : (b c o q i k : ℕ) → Res b o i ≡ Res c q k → b ≡ c
res_block b c o q i k e = cc e

res_op : (b c o q i k : ℕ) → Res b o i ≡ Res c q k → o ≡ q
res_op b c o q i k e = cc e

-- 1. reached blocks do not ask for names

module _ {V W : Type 0} (r : V → W) where
  leads_there : (t : ℕ) (es : List (Edge V)) → LeadsTo t es → LeadsTo t (map (ren_edge r) es)
  leads_there t [] h = h
  leads_there t (e ∷ es) h = ⊎_elim (λ q. inl q) (λ l. inr (leads_there t es l)) h

  leads_back : (t : ℕ) (es : List (Edge V)) → LeadsTo t (map (ren_edge r) es) → LeadsTo t es
  leads_back t [] h = h
  leads_back t (e ∷ es) h = ⊎_elim (λ q. inl q) (λ l. inr (leads_back t es l)) h

  edges_there : (g : List (Block V)) (b : ℕ) → all_edges (left_in (Some (map (rename_block r) g)) b 0) ≡ map
      (ren_edge r) (all_edges (left_in (Some g) b 0))
  edges_there g b = ap all_edges (left_renamed r g b) ∙ all_edges_renamed r (left_in (Some g) b 0)

  reached_there : (g : List (Block V)) (b : ℕ) → Reached (Some g) b → Reached (Some (map (rename_block r) g)) b
  reached_there g b (first c e) = first b e
  reached_there g b (further c t m l) =
      further c t (reached_there g c m) (subst (LeadsTo t) (sym (edges_there g c))
      (leads_there t (all_edges (left_in (Some g) c 0)) l))

  reached_back : (g : List (Block V)) (b : ℕ) → Reached (Some (map (rename_block r) g)) b → Reached (Some g) b
  reached_back g b (first c e) = first b e
  reached_back g b (further c t m l) =
      further c t (reached_back g c m) (leads_back t (all_edges (left_in (Some g) c 0))
      (subst (LeadsTo t) (edges_there g c) l))

-- 2. names of operands

module _ {V : Type 0} (N : V → Type 0) where
  both_named : (xs ys : List V) → AllNamed N xs → AllNamed N ys → AllNamed N (xs ++ ys)
  both_named [] ys a b = b
  both_named (x ∷ xs) ys a b = (a.0, both_named xs ys a.1 b)

  forwards_named : (es : List (Edge V)) → AllEdges (EdgeNamed N AnyBlock) es → AllNamed N (all_forwarded es)
  forwards_named [] h = tt
  forwards_named (e ∷ es) h = both_named e.forwards (all_forwarded es) h.0.1 (forwards_named es h.1)

  operands_named : (op : Op V) → OpNamed N AnyBlock op → AllNamed N (operands op)
  operands_named (Const v n) h = tt
  operands_named (Calc a w v x y) h = (h.1, (h.2, tt))
  operands_named (Emit x) h = (h, tt)
  operands_named (Call vs c xs) h = h.1
  operands_named (Branch s xs e es) h = both_named xs (all_forwarded (e ∷ es)) h.0 (forwards_named (e ∷ es) h.1)
  operands_named (Return xs) h = h

  all_defs_named : (ops : List (Op V)) → OpsNamed N AnyBlock ops → AllNamed N (all_defs ops)
  all_defs_named [] h = tt
  all_defs_named (op ∷ ops) h = both_named (defs op) (all_defs ops) (defs_named N op h.0) (all_defs_named ops h.1)

  -- branches that are decided name no others
  module _ (k : FunctionFacts V) where
    single_named : (s : Select) (xs : List V) (e : Edge V) (es : List (Edge V)) → AllNamed N xs →
        AllEdges (EdgeNamed N AnyBlock) (e ∷ es) → OpNamed N AnyBlock (single s xs e es)
    single_named s xs e [] a h = (tt, h)
    single_named s xs e (x ∷ es) a h = (a, h)

    by_named : (q : Knows) (s : Select) (xs : List V) (e : Edge V) (es : List (Edge V)) → AllNamed N xs →
        AllEdges (EdgeNamed N AnyBlock) (e ∷ es) → OpNamed N AnyBlock (branch_by q s xs e es)
    by_named (Numbers ns) s xs e es a h = (tt, (taken_has (EdgeNamed N AnyBlock) e es (chosen s ns) h, tt))
    by_named Lacks s xs e es a h = single_named s xs e es a h
    by_named Open s xs e es a h = single_named s xs e es a h

    ops_decided_named : (ops : List (Op V)) → OpsNamed N AnyBlock ops → OpsNamed N AnyBlock (map (decide_op k) ops)
    ops_decided_named [] h = tt
    ops_decided_named (Const v n ∷ ops) h = (h.0, ops_decided_named ops h.1)
    ops_decided_named (Calc a w v x y ∷ ops) h = (h.0, ops_decided_named ops h.1)
    ops_decided_named (Emit x ∷ ops) h = (h.0, ops_decided_named ops h.1)
    ops_decided_named (Call vs c xs ∷ ops) h = (h.0, ops_decided_named ops h.1)
    ops_decided_named (Branch s xs e es ∷ ops) h = (
      by_named (knows (map k.of xs)) s xs e es h.0.0 h.0.1,
      ops_decided_named ops h.1,
    )
    ops_decided_named (Return xs ∷ ops) h = (h.0, ops_decided_named ops h.1)

    decided_named : (f : Option (Fun V)) → AreNamed N f → AreNamed N (decide k f)
    decided_named f h = record {
      ops = λ b. subst (OpsNamed N AnyBlock) (sym (decide_left k f b 0)) (ops_decided_named (left_in f b 0) (h.ops b));
      arguments = λ b. subst (AllNamed N) (sym (decide_takes k f b)) (h.arguments b);
    }

-- 3. branches decided

module _ {V : Type 0} (same : V → V → Bool) (law : IsSameness same) (f : Fun V) (defined : NamesAreDefined same (Some f))
    (rules : Rules (place_fun same (Some f))) where
  abbrev F : Option (Fun V)
  F = Some f

  abbrev P : Option (Fun Place)
  P = place_fun same F

  abbrev r : V → Place
  r = place_of same f

  abbrev H : V → Type 0
  H = HasPlace same F

  -- what has a name has one
  same_name : (x y : V) → H x → H y → r x ≡ r y → x ≡ y
  same_name x y a b e =
      some_is x y (sym (named_back same law f defined rules x a)
      ∙ (ap (name_at F) e ∙ named_back same law f defined rules y b))

  in_back : (x : V) (a : List V) → H x → AllNamed H a → In (r x) (map r a) → In x a
  in_back x [] h n i = i
  in_back x (y ∷ a) h n i = ⊎_elim (λ e. inl (same_name x y h n.0 e)) (λ k. inr (in_back x a h n.1 k)) i

  all_back : (xs a : List V) → AllNamed H xs → AllNamed H a → AllIn (map r xs) (map r a) → AllIn xs a
  all_back [] a h n i = tt
  all_back (x ∷ xs) a h n i = (in_back x a h.0 n i.0, all_back xs a h.1 n i.1)

  defs_ren : (op : Op V) → defs (ren r op) ≡ map r (defs op)
  defs_ren (Const v n) = refl
  defs_ren (Calc a w v x y) = refl
  defs_ren (Emit x) = refl
  defs_ren (Call vs c xs) = refl
  defs_ren (Branch s xs e es) = refl
  defs_ren (Return xs) = refl

  all_defs_ren : (ops : List (Op V)) → all_defs (map (ren r) ops) ≡ map r (all_defs ops)
  all_defs_ren [] = refl
  all_defs_ren (op ∷ ops) = (λ i. defs_ren op i ++ all_defs_ren ops i) ∙ sym (map_append r (defs op) (all_defs ops))

  sees_back : (a : List V) (ops : List (Op V)) → AllNamed H a → OpsNamed H AnyBlock ops →
      OpsWith (λ a op. AllIn (operands op) a) (map r a) (map (ren r) ops) →
      OpsWith (λ a op. AllIn (operands op) a) a ops
  sees_back a [] n h s = tt
  sees_back a (op ∷ ops) n h s = (
    all_back (operands op) a (operands_named H op h.0) n (subst (λ l. AllIn l (map r a)) (operands_under r op) s.0),
    sees_back (defs op ++ a) ops (both_named H (defs op) a (defs_named H op h.0) n) h.1
        (subst (λ l. OpsWith (λ a op. AllIn (operands op) a) l (map (ren r) ops))
        (ap (λ l. l ++ map r a) (defs_ren op) ∙ sym (map_append r (defs op) a)) s.1),
  )

  entry_ren : entry_values P ≡ map r (entry_values F)
  entry_ren =
      (λ i. place_takes same law F 0 i ++ (ap all_defs (place_left same law F 0) ∙ all_defs_ren (left_in F 0 0)) i)
      ∙ sym (map_append r (arguments_in F 0) (all_defs (left_in F 0 0)))

  start_ren : (b : ℕ) → at_start P b ≡ map r (at_start F b)
  start_ren zero = place_takes same law F 0
  start_ren (suc b) = (λ i. place_takes same law F (suc b) i ++ entry_ren i)
      ∙ sym (map_append r (arguments_in F (suc b)) (entry_values F))

  start_named : (b : ℕ) → AllNamed H (at_start F b)
  start_named zero = defined.arguments 0
  start_named (suc b) =
      both_named H (arguments_in F (suc b)) (entry_values F) (defined.arguments (suc b))
      (both_named H (arguments_in F 0) (all_defs (left_in F 0 0)) (defined.arguments 0)
      (all_defs_named H (left_in F 0 0) (defined.ops 0)))

  sees_names : (b : ℕ) → OpsWith (λ a op. AllIn (operands op) a) (at_start F b) (left_in F b 0)
  sees_names b =
      sees_back (at_start F b) (left_in F b 0) (start_named b) (defined.ops b)
      (subst (λ l. OpsWith (λ a op. AllIn (operands op) a) l (map (ren r) (left_in F b 0))) (start_ren b)
      (subst (OpsWith (λ a op. AllIn (operands op) a) (at_start P b)) (place_left same law F b) (rules.sees b)))

  module _ (k : FunctionFacts V) (are : AreConstants F k) where
    record ConstAt (x : V) (n : ℕ) : Type 0 where
      b : ℕ
      o : ℕ
      at : slice_get (left_in F b 0) o ≡ Some (Const x n)

    const_at : (x : V) (n : ℕ) → IsConstantIn F x n → ConstAt x n
    const_at x n c = let m = in_slice (Const x n) (left_in F c.0 0) c.1 in record { b = c.0; o = m.0; at = m.1 }

    const_home : (x : V) (n : ℕ) (c : ConstAt x n) → r x ≡ Res c.b c.o 0
    const_home x n c = home same law f defined rules (Res c.b c.o 0) x
        (name_res same law F c.b c.o 0 x (ap (λ z. name_op z 0) c.at))

    const_there : (x : V) (n b o i : ℕ) → IsConstantIn F x n → r x ≡ Res b o i →
        slice_get (left_in F b 0) o ≡ Some (Const x n)
    const_there x n b o i c q =
        let w = const_at x n c in
        let e : Res w.b w.o 0 ≡ Res b o i = sym (const_home x n w) ∙ q in
        (λ j. slice_get (left_in F (sym (res_block w.b b w.o o 0 i e) j) 0) (sym (res_op w.b b w.o o 0 i e) j)) ∙ w.at

    no_const : (x : V) (n b o i : ℕ) (op : Op V) → slice_get (left_in F b 0) o ≡ Some op → r x ≡ Res b o i →
        IsConstantIn F x n → op ≡ Const x n
    no_const x n b o i op z q c = some_is op (Const x n) (sym z ∙ const_there x n b o i c q)

    const_same : (x : V) → H x → const_value P (r x) ≡ k.of x
    const_same x h = by_place (r x) refl (named_back same law f defined rules x h)
      where
        by_op : (b o i : ℕ) → r x ≡ Res b o i → (u : Option (Op V)) → slice_get (left_in F b 0) o ≡ u →
            name_op u i ≡ Some x → const_fact (option_map (ren r) u) ≡ k.of x
        by_op b o i q None z w = absurd (cc w)
        by_op b o i q (Some (Const v n)) z w =
            sym ((are.known x n).1 (
              b,
              subst (λ y. In (Const y n) (left_in F b 0)) (one_of v x i w) (slice_in (Const v n) (left_in F b 0) o z),
            ))
        by_op b o i q (Some (Calc a c v y u)) z w = sym (are.unknown x
            (λ n m. let bad = no_const x n b o i (Calc a c v y u) z q m in absurd (cc bad)))
        by_op b o i q (Some (Emit y)) z w = absurd (cc w)
        by_op b o i q (Some (Call vs c xs)) z w = sym (are.unknown x
            (λ n m. let bad = no_const x n b o i (Call vs c xs) z q m in absurd (cc bad)))
        by_op b o i q (Some (Branch s xs e es)) z w = absurd (cc w)
        by_op b o i q (Some (Return xs)) z w = absurd (cc w)

        by_place : (a : Place) → r x ≡ a → name_at F a ≡ Some x → const_value P a ≡ k.of x
        by_place (Arg t i) q e =
            sym (are.unknown x (λ n c. let w = const_at x n c in let bad : Arg t i ≡ Res w.b w.o 0 =
            sym q ∙ const_home x n w in absurd (cc bad)))
        by_place (Res b o i) q e =
            ap const_fact (ap (λ l. slice_get l o) (place_left same law F b) ∙ slice_get-map (ren r) (left_in F b 0) o)
            ∙ by_op b o i q (slice_get (left_in F b 0) o) refl (res_name F b o i x e)

    facts_same : (xs : List V) → AllNamed H xs → map (const_value P) (map r xs) ≡ map k.of xs
    facts_same [] h = refl
    facts_same (x ∷ xs) h = λ i. const_same x h.0 i ∷ facts_same xs h.1 i

    single_ren : (s : Select) (xs : List V) (e : Edge V) (es : List (Edge V)) →
        single s (map r xs) (ren_edge r e) (map (ren_edge r) es) ≡ ren r (single s xs e es)
    single_ren s xs e [] = refl
    single_ren s xs e (x ∷ es) = refl

    by_ren : (q : Knows) (s : Select) (xs : List V) (e : Edge V) (es : List (Edge V)) →
        branch_by q s (map r xs) (ren_edge r e) (map (ren_edge r) es) ≡ ren r (branch_by q s xs e es)
    by_ren (Numbers ns) s xs e es = ap (λ z. Branch Plain [] z []) (taken_map (ren_edge r) e es (chosen s ns))
    by_ren Lacks s xs e es = single_ren s xs e es
    by_ren Open s xs e es = single_ren s xs e es

    op_decided : (op : Op V) → OpNamed H AnyBlock op → decide_op (constants P) (ren r op) ≡ ren r (decide_op k op)
    op_decided (Const v n) h = refl
    op_decided (Calc a w v x y) h = refl
    op_decided (Emit x) h = refl
    op_decided (Call vs c xs) h = refl
    op_decided (Branch s xs e es) h = ap (λ q. branch_by (knows q) s (map r xs) (ren_edge r e) (map (ren_edge r) es))
        (facts_same xs h.0) ∙ by_ren (knows (map k.of xs)) s xs e es
    op_decided (Return xs) h = refl

    ops_decided : (ops : List (Op V)) → OpsNamed H AnyBlock ops →
        map (decide_op (constants P)) (map (ren r) ops) ≡ map (ren r) (map (decide_op k) ops)
    ops_decided [] h = refl
    ops_decided (op ∷ ops) h = λ i. op_decided op h.0 i ∷ ops_decided ops h.1 i

    blocks_decided : (ks : List (Block V)) → ((b : ℕ) → OpsNamed H AnyBlock (left_in (Some ks) b 0)) →
        map (decide_block (constants P)) (map (rename_block r) ks) ≡ map (rename_block r) (map (decide_block k) ks)
    blocks_decided [] h = refl
    blocks_decided (b ∷ ks) h = λ i. record { arguments = map r b.arguments; ops = ops_decided b.ops (h 0) i } ∷
        blocks_decided ks (λ c. h (suc c)) i

    -- 4. the blocks that are reached

    abbrev G : List (Block V)
    G = map (decide_block k) f

    branched_is : branched P ≡ Some (map (rename_block r) G)
    branched_is = ap Some (blocks_decided f defined.ops)

    module _ (reach : ℕ → Bool) (is : IsReachedSet (Some G) reach) where
      pub reached_by_place : IsReachedSet (branched P) reach
      reached_by_place =
          subst (λ z. IsReachedSet z reach) (sym branched_is)
          (record { sound = λ b e. reached_there r G b (is.sound b e); full = λ b m. is.full b (reached_back r G b m) })

      abbrev pub Q : Option (Fun V)
      Q = keep reach (Some G)

      pub placed_is : place_fun same_place (keep reach (branched P)) ≡ place_fun same Q
      placed_is =
          ap (λ z. place_fun same_place (keep reach z)) branched_is
          ∙ (ap (λ ks. place_fun same_place (Some ks)) (keep_renamed r reach (between reach 0) 0 G)
          ∙ placed_on same same_place r H (λ x y a b. apart same law F x y a b) Q
          (kept_named H reach (Some G) (decided_named H k F (all_named same law f defined rules))))

      stays : (b : ℕ) → reach b ≡ true → AllEdges (λ x. reach x.target ≡ true) (all_edges (left_in (Some G) b 0))
      stays b e =
          edges_by (λ x. reach x.target ≡ true) (all_edges (left_in (Some G) b 0))
          (λ z i. is.full z.target (further b z.target (is.sound b e)
          (in_leads z.target z (all_edges (left_in (Some G) b 0)) i refl)))

      sees_left : (b : ℕ) → OpsWith (λ a op. AllIn (operands op) a) (at_start (Some G) b) (left_in (Some G) b 0)
      sees_left b =
          subst (λ a. OpsWith (λ a op. AllIn (operands op) a) a (left_in (Some G) b 0)) (sym (start_decided k F b))
          (subst (OpsWith (λ a op. AllIn (operands op) a) (at_start F b)) (sym (decide_left k F b 0))
          (ops_see k (at_start F b) (left_in F b 0) (sees_names b)))

      pub defined_left : NamesAreDefined same Q
      defined_left = sees_defined same law Q (keep_sees reach (Some G) (is.full 0 (first 0 refl)) stays
          (λ b e. sees_left b))

      pub rules_left : Rules (place_fun same Q)
      rules_left = subst Rules placed_is (kept_rules (branched P) reach reached_by_place
          (decide_rules (constants P) P rules))

pub simplifies_by_place : {V : Type 0} (same : V → V → Bool) → IsSameness same → (f g : Option (Fun V)) →
    NamesAreDefined same f → Rules (place_fun same f) → SimplifiesNamed f g → SimplifiesFunction (place_fun same f) (place_fun same g)
simplifies_by_place {V} same law None g defined rules m = record {
  reach = m.reach;
  reached = record { sound = λ b e. there b (m.reached.sound b e); full = λ b x. m.reached.full b (back b x) };
  merges = merges_by_place same law None g defined rules m.merges;
}
  where
    there : (b : ℕ) → Reached {V = V} None b → Reached {V = Place} None b
    there b (first c e) = first b e
    there b (further c t x l) = absurd l

    back : (b : ℕ) → Reached {V = Place} None b → Reached {V = V} None b
    back b (first c e) = first b e
    back b (further c t x l) = absurd l
simplifies_by_place same law (Some f) g defined rules m = record {
  reach = m.reach;
  reached = reached_by_place same law f defined rules m.constants m.are m.reach m.reached;
  merges = subst (λ z. IsMerged z (place_fun same g))
      (sym (placed_is same law f defined rules m.constants m.are m.reach m.reached))
      (merges_by_place same law (keep m.reach (decide m.constants (Some f))) g
      (defined_left same law f defined rules m.constants m.are m.reach m.reached)
      (rules_left same law f defined rules m.constants m.are m.reach m.reached) m.merges);
}
