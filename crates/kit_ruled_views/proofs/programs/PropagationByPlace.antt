-- Constants put into a function whose values have any names are, by places, constants put into the function whose
-- values are named by their places.
use Rattle.std.proofs.Common.{◌≡◌, ℕ, zero, suc, Bool, true, false, List, [], ◌∷◌, Option, Some}
use Rattle.std.proofs.Common.{None, refl, sym, ap, ◌∙◌, subst}
use Rattle.std.specs.Prelude.{map, slice_get, if◌then◌else◌, unwrap_or}
use Rattle.kit_behaviour.specs.Machine.{AllEdges, Edge, Op, Const, Calc, Emit, Call, Branch, Return, Block, Fun}
use Rattle.kit_behaviour.specs.Machine.{left_in}
use Rattle.kit_behaviour.specs.Machine.{arguments_in}
use Rattle.kit_behaviour.specs.Facts.{Fact, Undetermined, FunctionFacts, FactAtOrBelow, FactsMorePrecise}
use Rattle.kit_behaviour.specs.Facts.{AreMostPreciseFacts}
use Rattle.kit_behaviour.specs.InsertedConstants.{OldOrNewName, Old, New, same_name, Made, put_if, put_args, old, put_before}
use Rattle.kit_behaviour.specs.InsertedConstants.{put_ops, put_block, put_in, constant_of, use_of}
use Rattle.kit_behaviour.specs.Numbering.{place_block, place_fun, HasPlace, AnyBlock, NamesAreDefined}
use Rattle.kit_behaviour.specs.Places.{Place, Arg, same_place}
use Rattle.kit_behaviour.specs.Renaming.{rename_edge, rename_op, rename_block, same_block, AllNamed, EdgeNamed}
use Rattle.kit_behaviour.specs.Renaming.{OpNamed, OpsNamed}
use Rattle.kit_behaviour.specs.Replacement.{replace_block, replace}
use Rattle.kit_behaviour.proofs.Behaviour.FrameLemmas.{IsSameness}
use Rattle.kit_behaviour.proofs.Lattice.RenamedFacts.{by_name, by_name_of, name_closed, at_top, closed_there}
use Rattle.kit_behaviour.proofs.Numbering.NumberingBehaviour.{block_of, at_place, place_name}
use Rattle.kit_behaviour.proofs.Numbering.NumberingBehaviour.{place_left, place_takes, apart}
use Rattle.kit_behaviour.proofs.Numbering.NumberingRules.{name_at, block_at}
use Rattle.kit_behaviour.proofs.Numbering.DefinedNames.{has_place}
use Rattle.kit_behaviour.proofs.Numbering.PlaceEquality.{place_law}
use Rattle.kit_behaviour.proofs.ControlFlow.NamedCommuting.{blocks_replaced}
use Rattle.kit_behaviour.proofs.ControlFlow.NamedPlacing.{AreNamed, replaced_named, placed_on}

module _ {V : Type 0} (same : V → V → Bool) (law : IsSameness same) (f : Fun V) (defined : NamesAreDefined same (Some f))
  where
    abbrev r : V → Place
    r = place_name same law (Some f)

    abbrev N : V → Type 0
    N = HasPlace same (Some f)

    abbrev G : Option (Fun Place)
    G = place_fun same (Some f)

    -- facts of names, said of the first place of each
    module _ (k : FunctionFacts V) where
      abbrev said_of : Place → Option V → Fact
      said_of a None = Undetermined
      said_of a (Some v) = if same_place (r v) a then k.of v else Undetermined

      abbrev pub placed_facts : FunctionFacts Place
      placed_facts = record { runs = k.runs; of = λ a. said_of a (name_at (Some f) a) }

      pub placed_of : (v : V) → N v → placed_facts.of (r v) ≡ k.of v
      placed_of v n =
          let here : r v ≡ n.0 = ap (λ o. unwrap_or o (Arg 0 0)) n.1 in
          ap (said_of (r v)) (ap (name_at (Some f)) here ∙ at_place same law f v n.0 n.1)
          ∙ ap (λ b. if b then k.of v else Undetermined) (place_law.same_true (r v))

      pub placed_best : AreMostPreciseFacts (Some f) k → AreMostPreciseFacts G placed_facts
      placed_best best = record {
        closed = closed_there r N (Some f) G (place_takes same law (Some f)) (place_left same law (Some f))
            defined.arguments
            defined.ops k placed_facts (λ b. refl) placed_of best.closed;
        best = λ l c.
            let m = best.best (by_name same law (Some f) l) (name_closed same law (Some f) defined l c) in
            record { fewer = m.fewer; above = λ a. above l m a (name_at (Some f) a) refl };
      }
        where
          below_here : (l : FunctionFacts Place) → FactsMorePrecise k (by_name same law (Some f) l) → (a : Place) (v : V) →
              name_at (Some f) a ≡ Some v → (b : Bool) → same_place (r v) a ≡ b →
              FactAtOrBelow (l.of a) (if b then k.of v else Undetermined)
          below_here l m a v e false q = at_top (l.of a)
          below_here l m a v e true q =
              let at : r v ≡ a = place_law.true_same (r v) a q in
              let n : N v = named_has a v e in
              subst (λ z. FactAtOrBelow z (k.of v)) (sym (by_name_of same law (Some f) l v n) ∙ ap l.of at) (m.above v)
            where
              named_has : (a : Place) (v : V) → name_at (Some f) a ≡ Some v → N v
              named_has a v e =
                  has_place same law (Some f) (block_of a) v
                  (block_at v (slice_get f (block_of a)) a e)

          above : (l : FunctionFacts Place) → FactsMorePrecise k (by_name same law (Some f) l) → (a : Place) (o : Option V) →
              name_at (Some f) a ≡ o → FactAtOrBelow (l.of a) (said_of a (name_at (Some f) a))
          above l m a None e = subst (λ z. FactAtOrBelow (l.of a) (said_of a z)) (sym e) (at_top (l.of a))
          above l m a (Some v) e =
              subst (λ z. FactAtOrBelow (l.of a) (said_of a z)) (sym e) (below_here l m a v e (same_place (r v) a) refl)

    -- constants of names, and of places, that agree
    module _ (m : Made V) (n : Made Place) (agree : (v : V) → N v → n (r v) ≡ m v) where
      abbrev R : OldOrNewName V → OldOrNewName Place
      R (Old v) = Old (r v)
      R (New v) = New (r v)

      abbrev M : OldOrNewName V → Type 0
      M (Old v) = N v
      M (New v) = N v

      apart_names : (x y : OldOrNewName V) → M x → M y → same_name same_place (R x) (R y) ≡ same_name same x y
      apart_names (Old a) (Old b) x y = apart same law (Some f) a b x y
      apart_names (New a) (New b) x y = apart same law (Some f) a b x y
      apart_names (Old a) (New b) x y = refl
      apart_names (New a) (Old b) x y = refl

      uses_agree : (x : OldOrNewName V) → M x → use_of n (R x) ≡ R (use_of m x)
      uses_agree (New v) h = refl
      uses_agree (Old v) h = ap (λ o. constant_of o (r v)) (agree v h) ∙ by_made (m v)
        where
          by_made : (o : Option ℕ) → constant_of o (r v) ≡ R (constant_of o v)
          by_made None = refl
          by_made (Some c) = refl

      uses_named : (x : OldOrNewName V) → M x → M (use_of m x)
      uses_named (New v) h = h
      uses_named (Old v) h = by_made (m v)
        where
          by_made : (o : Option ℕ) → M (constant_of o v)
          by_made None = h
          by_made (Some c) = h

      abbrev rename_all : List (Op (OldOrNewName V)) → List (Op (OldOrNewName Place))
      rename_all = map (rename_op R same_block)

      if_placed : (v : V) → N v → (x : List (Op (OldOrNewName V))) (y : List (Op (OldOrNewName Place))) → rename_all x ≡ y →
          rename_all (put_if (m v) v x) ≡ put_if (n (r v)) (r v) y
      if_placed v h x y e = by_made (m v) ∙ ap (λ o. put_if o (r v) y) (sym (agree v h))
        where
          by_made : (o : Option ℕ) → rename_all (put_if o v x) ≡ put_if o (r v) y
          by_made None = e
          by_made (Some c) = ap (λ z. Const (New (r v)) c ∷ z) e

      args_placed : (vs : List V) → AllNamed N vs → (x : List (Op (OldOrNewName V))) (y : List (Op (OldOrNewName Place))) →
          rename_all x ≡ y → rename_all (put_args m vs x) ≡ put_args n (map r vs) y
      args_placed [] h x y e = e
      args_placed (v ∷ vs) h x y e =
          args_placed vs h.1 (put_if (m v) v x) (put_if (n (r v)) (r v) y) (if_placed v h.0 x y e)

      list_old : (vs : List V) → map R (map Old vs) ≡ map Old (map r vs)
      list_old [] = refl
      list_old (v ∷ vs) = ap (λ l. Old (r v) ∷ l) (list_old vs)

      edge_old : (e : Edge V) →
          rename_edge R same_block (rename_edge Old same_block e) ≡ rename_edge Old same_block (rename_edge r
          same_block e)
      edge_old e = ap (λ l. record { target = e.target; forwards = l }) (list_old e.forwards)

      edges_old : (es : List (Edge V)) →
          map (rename_edge R same_block) (map (rename_edge Old same_block) es) ≡ map (rename_edge Old same_block)
          (map (rename_edge r same_block) es)
      edges_old [] = refl
      edges_old (e ∷ es) = λ i. edge_old e i ∷ edges_old es i

      op_old : (op : Op V) → rename_op R same_block (old op) ≡ old (rename_op r same_block op)
      op_old (Const v c) = refl
      op_old (Calc a w v x y) = refl
      op_old (Emit x) = refl
      op_old (Call vs c xs) = λ i. Call (list_old vs i) c (list_old xs i)
      op_old (Branch s xs e es) = λ i. Branch s (list_old xs i) (edge_old e i) (edges_old es i)
      op_old (Return xs) = ap Return (list_old xs)

      before_placed : (op : Op V) → OpNamed N AnyBlock op → (x : List (Op (OldOrNewName V))) (y : List (Op (OldOrNewName Place))) →
          rename_all x ≡ y → rename_all (put_before m op x) ≡ put_before n (rename_op r same_block op) y
      before_placed (Calc a w v x y) h p q e = if_placed v h.0 p q e
      before_placed (Const v c) h p q e = e
      before_placed (Emit x) h p q e = e
      before_placed (Call vs c xs) h p q e = e
      before_placed (Branch s xs z es) h p q e = e
      before_placed (Return xs) h p q e = e

      ops_placed : (ops : List (Op V)) → OpsNamed N AnyBlock ops →
          rename_all (put_ops m ops) ≡ put_ops n (map (rename_op r same_block) ops)
      ops_placed [] h = refl
      ops_placed (op ∷ ops) h =
          before_placed op h.0 (old op ∷ put_ops m ops)
          (old (rename_op r same_block op) ∷ put_ops n (map (rename_op r same_block) ops))
          (λ i. op_old op i ∷ ops_placed ops h.1 i)

      blocks_placed : (ks : List (Block V)) → ((b : ℕ) → OpsNamed N AnyBlock (left_in (Some ks) b 0)) →
          ((b : ℕ) → AllNamed N (arguments_in (Some ks) b)) →
          map (rename_block R) (map (put_block m) ks) ≡ map (put_block n) (map (place_block r) ks)
      blocks_placed [] o a = refl
      blocks_placed (k ∷ ks) o a =
          λ i. record {
            arguments = list_old k.arguments i;
            ops = args_placed k.arguments (a 0) (put_ops m k.ops) (put_ops n (map (rename_op r same_block) k.ops))
                (ops_placed k.ops (o 0)) i;
          } ∷ blocks_placed ks (λ b. o (suc b)) (λ b. a (suc b)) i

      -- names of what constants were put into
      if_named : (v : V) → N v → (x : List (Op (OldOrNewName V))) → OpsNamed M AnyBlock x →
          OpsNamed M AnyBlock (put_if (m v) v x)
      if_named v h x o = by_made (m v)
        where
          by_made : (c : Option ℕ) → OpsNamed M AnyBlock (put_if c v x)
          by_made None = o
          by_made (Some c) = (h, o)

      args_named : (vs : List V) → AllNamed N vs → (x : List (Op (OldOrNewName V))) → OpsNamed M AnyBlock x →
          OpsNamed M AnyBlock (put_args m vs x)
      args_named [] h x o = o
      args_named (v ∷ vs) h x o = args_named vs h.1 (put_if (m v) v x) (if_named v h.0 x o)

      list_named : (vs : List V) → AllNamed N vs → AllNamed M (map Old vs)
      list_named [] h = tt
      list_named (v ∷ vs) h = (h.0, list_named vs h.1)

      edges_named : (es : List (Edge V)) →
          AllEdges (EdgeNamed N AnyBlock) es →
          AllEdges (EdgeNamed M AnyBlock) (map (rename_edge Old same_block) es)
      edges_named [] h = tt
      edges_named (e ∷ es) h = ((tt, list_named e.forwards h.0.1), edges_named es h.1)

      op_named : (op : Op V) → OpNamed N AnyBlock op → OpNamed M AnyBlock (old op)
      op_named (Const v c) h = h
      op_named (Calc a w v x y) h = h
      op_named (Emit x) h = h
      op_named (Call vs c xs) h = (list_named vs h.0, list_named xs h.1)
      op_named (Branch s xs e es) h = (list_named xs h.0, edges_named (e ∷ es) h.1)
      op_named (Return xs) h = list_named xs h

      before_named : (op : Op V) → OpNamed N AnyBlock op → (x : List (Op (OldOrNewName V))) → OpsNamed M AnyBlock x →
          OpsNamed M AnyBlock (put_before m op x)
      before_named (Calc a w v x y) h p o = if_named v h.0 p o
      before_named (Const v c) h p o = o
      before_named (Emit x) h p o = o
      before_named (Call vs c xs) h p o = o
      before_named (Branch s xs z es) h p o = o
      before_named (Return xs) h p o = o

      ops_named : (ops : List (Op V)) → OpsNamed N AnyBlock ops → OpsNamed M AnyBlock (put_ops m ops)
      ops_named [] h = tt
      ops_named (op ∷ ops) h = before_named op h.0 (old op ∷ put_ops m ops) (op_named op h.0, ops_named ops h.1)

      put_named_ops : (ks : List (Block V)) → ((b : ℕ) → OpsNamed N AnyBlock (left_in (Some ks) b 0)) →
          ((b : ℕ) → AllNamed N (arguments_in (Some ks) b)) → (b : ℕ) →
          OpsNamed M AnyBlock (left_in (Some (map (put_block m) ks)) b 0)
      put_named_ops [] o a b = tt
      put_named_ops (k ∷ ks) o a zero = args_named k.arguments (a 0) (put_ops m k.ops) (ops_named k.ops (o 0))
      put_named_ops (k ∷ ks) o a (suc b) = put_named_ops ks (λ c. o (suc c)) (λ c. a (suc c)) b

      put_named_args : (ks : List (Block V)) → ((b : ℕ) → AllNamed N (arguments_in (Some ks) b)) → (b : ℕ) →
          AllNamed M (arguments_in (Some (map (put_block m) ks)) b)
      put_named_args [] a b = tt
      put_named_args (k ∷ ks) a zero = list_named k.arguments (a 0)
      put_named_args (k ∷ ks) a (suc b) = put_named_args ks (λ c. a (suc c)) b

      put_named : AreNamed M (put_in m (Some f))
      put_named = record {
        ops = put_named_ops f defined.ops defined.arguments;
        arguments = put_named_args f defined.arguments;
      }

      -- what constants make of the function, by places
      pub constants_placed : place_fun (same_name same) (replace (use_of m) (put_in m (Some f))) ≡ place_fun
          (same_name same_place) (replace (use_of n) (put_in n G))
      constants_placed =
          let h : Option (Fun (OldOrNewName V)) = put_in m (Some f) in
          sym (placed_on (same_name same) (same_name same_place) R M apart_names (replace (use_of m) h)
          (replaced_named M (use_of m) uses_named h put_named))
          ∙ ap (place_fun (same_name same_place))
          (ap Some (sym (blocks_replaced R M (use_of m) (use_of n) uses_agree (map (put_block m) f) put_named.ops)
          ∙ ap (map (replace_block (use_of n)))
          (blocks_placed f defined.ops defined.arguments)))
