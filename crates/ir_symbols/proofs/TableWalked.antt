-- The calls of operations among the turns of a walk of all nodes.
use Rattle.std.proofs.Common.{◌≡◌, ◌⊎◌, inl, inr, ⊎_elim, ℕ, zero, suc, ◌<◌, List, [], ◌∷◌, ◌++◌, map, length, Option, Some, None, slice_get, refl, sym, ap, ◌∙◌, subst, arith, append_assoc}
use Rattle.std.specs.Prelude.{Bool, Contains, AllPairs, All, slice_index_or}
use Rattle.std.proofs.lemmas.List.{append-nil, map-append}
use Rattle.std.proofs.lemmas.List.Elements.{Contains-append_left, Contains-append_right, Contains-append_cases, Contains-push, Contains-push_cases}
use Rattle.std.proofs.lemmas.List.Kept.{AllPairs-cons}
use Rattle.std.specs.declared.ops.ControlFlow.{ControlFlow}
use Rattle.std.specs.declared.ops.ControlFlow.TheVariants.{Continue, Break}
use Rattle.ir_program.specs.Lists.{StandsInside, IsLiveNode}
use Rattle.ir_program.specs.Preorder.{nodes_inside}
use Rattle.ir_program.specs.Program.{Program}
use Rattle.ir_program.specs.declared.handles.IRNode.{IRNode}
use Rattle.ir_program.specs.declared.handles.IRNode.TheVariants.{Operation as OperationNode, Region as RegionNode, BasicBlock as BlockNode}
use Rattle.ir_program.specs.declared.handles.Operation.{Operation}
use Rattle.ir_program.specs.declared.handles.Ptr.{Ptr}
use Rattle.ir_walks.specs.declared.config.Order.TheVariants.{PreOrder, PostOrder}
use Rattle.ir_walks.specs.declared.results.WalkContinue.{WalkContinue}
use Rattle.ir_walks.specs.declared.results.WalkContinue.TheVariants.{Advance, Skip}
use Rattle.ir_walks.specs.declared.turns.Cursor.{Cursor}
use Rattle.ir_walks.specs.declared.turns.Cursor.TheVariants.{Arriving, Leaving}
use Rattle.ir_walks.specs.Calls.{Steps, none, one_more}
use Rattle.ir_walks.specs.Levels.{IsCalledFirst, IsCalledLast}
use Rattle.ir_walks.specs.Places.{Holds, IsBefore, holder_first, holder_last, by_position, StandsEarlierIn, IsCalled, IsSkipped, IsWalkOf}
use Rattle.ir_walks.specs.Turns.{called_at, IsKnown}
use Rattle.ir_walks.specs.Walks.{Call, called_nodes, IsWalk}
use Rattle.ir_walks.proofs.Ordered.{walk_of}
use Rattle.ir_walks.proofs.Progress.{Sized, sized_of, IsSoFar, could_go_on}
use Rattle.ir_walks.proofs.Trees.{Within, it, deeper, IsTree, tree_of, inside, through}
use Rattle.ir_walks.proofs.Walked.{Made, Walking}
use Rattle.ir_symbols.specs.TableWalks.{OnOperation, CalledAt, OperationCall, called_operations, IsCalledIn, GoesOn, forward, IsNestedTable, IsHidden, ComesBefore, IsShown, IsTableWalk, BeginsTableWalk, BreaksTableOff, EndsTableWalk, Tells, TellsOf, IsAskedOf, IsSilent, IsAskedAt}

-- ---- lists

-- the operations among the nodes that were called
abbrev operations_of : List Call → List (Ptr Operation)
operations_of [] = []
operations_of ((OperationNode op, a) ∷ cs) = op ∷ operations_of cs
operations_of ((RegionNode x, a) ∷ cs) = operations_of cs
operations_of ((BlockNode x, a) ∷ cs) = operations_of cs

operations_append : (cs ds : List Call) → operations_of (cs ++ ds) ≡ operations_of cs ++ operations_of ds
operations_append [] ds = refl
operations_append ((OperationNode op, a) ∷ cs) ds = ap (λ (ps : List (Ptr Operation)). op ∷ ps) (operations_append cs ds)
operations_append ((RegionNode x, a) ∷ cs) ds = operations_append cs ds
operations_append ((BlockNode x, a) ∷ cs) ds = operations_append cs ds

module _ {X : Type 0} where
  empty : (x : X) → Contains [] x → ⊥
  empty x m = let lt = m.1 in omega (arith, lt)

  here : (x : X) (xs : List X) → Contains (x ∷ xs) x
  here x xs = (0, omega arith, refl)

  -- one of the first, or it is behind it
  first_or_later : (y : X) (ys : List X) (x : X) → Contains (y ∷ ys) x → (y ≡ x) ⊎ Contains ys x
  first_or_later y ys x (zero, lt, e) = inl e
  first_or_later y ys x (suc k, lt, e) = inr (k, omega (arith, lt), e)

  module _ (R : X → X → Type 0) where
    pairs_tail : (x : X) (xs : List X) → AllPairs R (x ∷ xs) → AllPairs R xs
    pairs_tail x xs h i j d lt within = h (suc i) (suc j) d (omega (arith, lt)) (omega (arith, within))

    pairs_head : (x : X) (xs : List X) → AllPairs R (x ∷ xs) → (y : X) → Contains xs y → R x y
    pairs_head x xs h y m = let lt = m.1 in subst (R x) m.2 (h 0 (suc m.0) y (omega arith) (omega (arith, lt)))

    -- one that stands before others is related to each
    pairs_after : (xs : List X) (y : X) (ys : List X) (z : X) → AllPairs R (xs ++ y ∷ ys) → Contains ys z → R y z
    pairs_after [] y ys z h m = pairs_head y ys h z m
    pairs_after (x ∷ xs) y ys z h m = pairs_after xs y ys z (pairs_tail x (xs ++ y ∷ ys) h) m

    all_of : (P : X → Type 0) (xs : List X) → ((x : X) → Contains xs x → P x) → All P xs
    all_of P [] h k d lt = absurd (omega (arith, lt))
    all_of P (x ∷ xs) h zero d lt = h x (here x xs)
    all_of P (x ∷ xs) h (suc k) d lt = all_of P xs (λ y m. let lt = m.1 in h y (suc m.0, omega (arith, lt), m.2)) k d (omega (arith, lt))

    -- the front of a list whose members are in order
    pairs_front : (xs ys : List X) → AllPairs R (xs ++ ys) → AllPairs R xs
    pairs_front [] ys h = λ i j d lt within. absurd (omega (arith, within))
    pairs_front (x ∷ xs) ys h =
        AllPairs-cons R x xs (all_of (R x) xs (λ y m. pairs_head x (xs ++ ys) h y (Contains-append_left xs ys y m)))
        (pairs_front xs ys (pairs_tail x (xs ++ ys) h))

-- an operation that was called is one of the calls
operation_called : (cs : List Call) (op : Ptr Operation) → Contains (operations_of cs) op → (a : WalkContinue) × Contains cs (OperationNode op, a)
operation_called [] op m = absurd (empty op m)
operation_called ((OperationNode p, a) ∷ cs) op m = ⊎_elim
    (λ (e : p ≡ op). (a, subst (λ q. Contains ((OperationNode p, a) ∷ cs) (OperationNode q, a)) e (here (OperationNode p, a) cs)))
    (λ n. let r = operation_called cs op n in let lt = r.1.1 in (r.0, (suc r.1.0, omega (arith, lt), r.1.2))) (first_or_later p (operations_of cs) op m)
operation_called ((RegionNode x, a) ∷ cs) op m = let r = operation_called cs op m in let lt = r.1.1 in (r.0, (suc r.1.0, omega (arith, lt), r.1.2))
operation_called ((BlockNode x, a) ∷ cs) op m = let r = operation_called cs op m in let lt = r.1.1 in (r.0, (suc r.1.0, omega (arith, lt), r.1.2))

-- where calls are in order, the operations among them are
in_order : (Q : IRNode → IRNode → Type 0) (cs : List Call) → AllPairs (λ (c d : Call). Q c.0 d.0) cs → AllPairs (λ p q. Q (OperationNode p) (OperationNode q)) (operations_of cs)
in_order Q [] h = λ i j d lt within. absurd (omega (arith, within))
in_order Q ((OperationNode p, a) ∷ cs) h =
    AllPairs-cons (λ p q. Q (OperationNode p) (OperationNode q)) p (operations_of cs)
    (all_of (λ p q. Q (OperationNode p) (OperationNode q)) (λ q. Q (OperationNode p) (OperationNode q)) (operations_of cs)
    (λ q m. let r = operation_called cs q m in pairs_head (λ (c d : Call). Q c.0 d.0) (OperationNode p, a) cs h (OperationNode q, r.0) r.1))
    (in_order Q cs (pairs_tail (λ (c d : Call). Q c.0 d.0) (OperationNode p, a) cs h))
in_order Q ((RegionNode x, a) ∷ cs) h = in_order Q cs (pairs_tail (λ (c d : Call). Q c.0 d.0) (RegionNode x, a) cs h)
in_order Q ((BlockNode x, a) ∷ cs) h = in_order Q cs (pairs_tail (λ (c d : Call). Q c.0 d.0) (BlockNode x, a) cs h)

module _ {O B F C S K : Type 0} (holds_table : O → Bool) (p : Program O B) (root : Ptr Operation) (g : OnOperation F C S (ControlFlow K WalkContinue)) (ctx : C) where
  -- the callback and the state, and the calls that were made
  abbrev pub Moment : Type 0
  Moment = (F × S) × List OperationCall

  -- one call in a walk of all nodes
  abbrev pub Takes : Moment → Call → Moment → Type 0
  Takes v (OperationNode op, b) w = (a : WalkContinue) × GoesOn g ctx v.0 (op, a) w.0 × (w.1 ≡ v.1 ++ (op, a) ∷ []) × Tells holds_table p root g ctx op a b
  Takes v (RegionNode x, b) w = (b ≡ Advance) × (v ≡ w)
  Takes v (BlockNode x, b) w = (b ≡ Advance) × (v ≡ w)

  -- what was asked where the walk is
  quiet : (f : F) (s : S) (b : WalkContinue) (f' : F) (s' : S) (us : List OperationCall) → IsSilent holds_table p root g ctx f s (Continue b) f' s' → (b ≡ Advance) × (◌≡◌ {A = Moment} ((f, s), us) ((f', s'), us))
  quiet f s b f' s' us h = (cc (h.0), λ i. ((sym h.1 i, sym h.2 i), us))

  pub made_of : (at : Cursor) (b : WalkContinue) (f : F) (s : S) (f' : F) (s' : S) (us : List OperationCall) → IsAskedAt holds_table p root g ctx at f s (Continue b) f' s'
      → (vs : List OperationCall) × Made Takes (called_at forward at) b ((f, s), us) ((f', s'), vs)
  made_of (Arriving (OperationNode op)) b f s f' s' us h = by h.0 h.1 h.2 where
    by : (answer : ControlFlow K WalkContinue) → CalledAt g ctx f s op answer f' s' → TellsOf holds_table p root g ctx op answer (Continue b) → (vs : List OperationCall) × Takes ((f, s), us) (OperationNode op, b) ((f', s'), vs)
    by (Break k) called told = absurd (cc told)
    by (Continue a) called told = let same : told.0 ≡ b = (let e = told.1 in cc) in (us ++ (op, a) ∷ [], (a, called, refl, subst (Tells holds_table p root g ctx op a) same told.2))
  made_of (Arriving (RegionNode x)) b f s f' s' us h = (us, quiet f s b f' s' us h)
  made_of (Arriving (BlockNode x)) b f s f' s' us h = (us, quiet f s b f' s' us h)
  made_of (Leaving (OperationNode op)) b f s f' s' us h = (us, quiet f s b f' s' us h)
  made_of (Leaving (RegionNode x)) b f s f' s' us h = (us, quiet f s b f' s' us h)
  made_of (Leaving (BlockNode x)) b f s f' s' us h = (us, quiet f s b f' s' us h)

  -- the calls of operations among those of a walk of all nodes
  record Follow (v : F × S) (cs : List Call) (w : Moment) : Type 0 where
    ran : Steps (GoesOn g ctx) v w.1 w.0
    same : operations_of cs ≡ called_operations w.1
    told : (op : Ptr Operation) (a : WalkContinue) → Contains w.1 (op, a) → (b : WalkContinue) × Contains cs (OperationNode op, b) × Tells holds_table p root g ctx op a b
    heard : (op : Ptr Operation) (b : WalkContinue) → Contains cs (OperationNode op, b) → (a : WalkContinue) × Contains w.1 (op, a) × Tells holds_table p root g ctx op a b
    silent_region : (x : _) (b : WalkContinue) → Contains cs (RegionNode x, b) → b ≡ Advance
    silent_block : (x : _) (b : WalkContinue) → Contains cs (BlockNode x, b) → b ≡ Advance

  follows_silent : (v : F × S) (cs : List Call) (w : Moment) (e : IRNode) → Follow v cs w → operations_of ((e, Advance) ∷ []) ≡ []
      → ((op : Ptr Operation) → e ≡ OperationNode op → ⊥) → Follow v (cs ++ (e, Advance) ∷ []) w
  follows_silent v cs w e f no_operation other = record {
    ran = f.ran;
    same = operations_append cs ((e, Advance) ∷ []) ∙ (ap (λ ps. operations_of cs ++ ps) no_operation ∙ (append-nil (operations_of cs) ∙ f.same));
    told = λ op a m. let r = f.told op a m in (r.0, Contains-append_left cs ((e, Advance) ∷ []) (OperationNode op, r.0) r.1, r.2);
    heard = λ op b m. ⊎_elim (λ n. f.heard op b n) (λ (i : (e, Advance) ≡ (OperationNode op, b)). absurd (other op (ap (λ (c : Call). c.0) i))) (Contains-push_cases cs (e, Advance) (OperationNode op, b) m);
    silent_region = λ x b m. ⊎_elim (λ n. f.silent_region x b n) (λ (i : (e, Advance) ≡ (RegionNode x, b)). sym (ap (λ (c : Call). c.1) i)) (Contains-push_cases cs (e, Advance) (RegionNode x, b) m);
    silent_block = λ x b m. ⊎_elim (λ n. f.silent_block x b n) (λ (i : (e, Advance) ≡ (BlockNode x, b)). sym (ap (λ (c : Call). c.1) i)) (Contains-push_cases cs (e, Advance) (BlockNode x, b) m);
  }

  follows_one : (v : F × S) (cs : List Call) (u w : Moment) (op : Ptr Operation) (a b : WalkContinue) → Follow v cs u → GoesOn g ctx u.0 (op, a) w.0 → w.1 ≡ u.1 ++ (op, a) ∷ [] → Tells holds_table p root g ctx op a b
      → Follow v (cs ++ (OperationNode op, b) ∷ []) w
  follows_one v cs u w op a b f goes is tells =
      let more : List OperationCall = u.1 ++ (op, a) ∷ [] in record {
        ran = subst (λ us. Steps (GoesOn g ctx) v us w.0) (sym is) (one_more u.1 u.0 (op, a) w.0 f.ran goes);
        same = operations_append cs ((OperationNode op, b) ∷ []) ∙ (ap (λ ps. ps ++ op ∷ []) f.same ∙ (sym (map-append (λ (c : OperationCall). c.0) u.1 ((op, a) ∷ [])) ∙ ap called_operations (sym is)));
        told = λ q c m. ⊎_elim (λ n. let r = f.told q c n in (r.0, Contains-append_left cs ((OperationNode op, b) ∷ []) (OperationNode q, r.0) r.1, r.2))
            (λ (i : (op, a) ≡ (q, c)). (
              b,
              subst (λ z. Contains (cs ++ (OperationNode op, b) ∷ []) (OperationNode z, b)) (ap (λ (z : OperationCall). z.0) i) (Contains-push cs (OperationNode op, b)),
              subst (λ (z : OperationCall). Tells holds_table p root g ctx z.0 z.1 b) i tells,
            ))
            (Contains-push_cases u.1 (op, a) (q, c) (subst (λ us. Contains us (q, c)) is m));
        heard = λ q d m. ⊎_elim (λ n. let r = f.heard q d n in (r.0, subst (λ us. Contains us (q, r.0)) (sym is) (Contains-append_left u.1 ((op, a) ∷ []) (q, r.0) r.1), r.2))
            (λ (i : (OperationNode op, b) ≡ (OperationNode q, d)).
            let same_op : op ≡ q = (let j = ap (λ (c : Call). c.0) i in cc) in
            let same_answer : b ≡ d = ap (λ (c : Call). c.1) i in (
              a,
              subst (λ us. Contains us (q, a)) (sym is) (subst (λ z. Contains more (z, a)) same_op (Contains-push u.1 (op, a))),
              subst (λ z. Tells holds_table p root g ctx z a d) same_op (subst (Tells holds_table p root g ctx op a) same_answer tells),
            ))
            (Contains-push_cases cs (OperationNode op, b) (OperationNode q, d) m);
        silent_region = λ x d m. ⊎_elim (λ n. f.silent_region x d n) (λ (i : (OperationNode op, b) ≡ (RegionNode x, d)). let j = ap (λ (c : Call). c.0) i in cc) (Contains-push_cases cs (OperationNode op, b) (RegionNode x, d) m);
        silent_block = λ x d m. ⊎_elim (λ n. f.silent_block x d n) (λ (i : (OperationNode op, b) ≡ (BlockNode x, d)). let j = ap (λ (c : Call). c.0) i in cc) (Contains-push_cases cs (OperationNode op, b) (BlockNode x, d) m);
      }

  follow : (v : F × S) (cs : List Call) (w : Moment) → Steps Takes (v, []) cs w → Follow v cs w
  follow v _ _ none = record {
    ran = none;
    same = refl;
    told = λ op a m. absurd (empty (op, a) m);
    heard = λ op b m. absurd (empty (OperationNode op, b) m);
    silent_region = λ x b m. absurd (empty (RegionNode x, b) m);
    silent_block = λ x b m. absurd (empty (BlockNode x, b) m);
  }
  follow v _ w0 (one_more cs u (OperationNode op, b) w s r) = follows_one v cs u w op r.0 b (follow v cs u s) r.1 r.2 r.3
  follow v _ w0 (one_more cs u (RegionNode x, b) w s r) =
      subst (λ c. Follow v (cs ++ (RegionNode x, c) ∷ []) w) (sym r.0) (subst (λ z. Follow v (cs ++ (RegionNode x, Advance) ∷ []) z) r.1 (follows_silent v cs u (RegionNode x) (follow v cs u s) refl (λ op i. cc)))
  follow v _ w0 (one_more cs u (BlockNode x, b) w s r) =
      subst (λ c. Follow v (cs ++ (BlockNode x, c) ∷ []) w) (sym r.0) (subst (λ z. Follow v (cs ++ (BlockNode x, Advance) ∷ []) z) r.1 (follows_silent v cs u (BlockNode x) (follow v cs u s) refl (λ op i. cc)))

  -- ---- what hides an operation skips it, and the other way round

  hidden_skips : (op : Ptr Operation) (a b : WalkContinue) → Tells holds_table p root g ctx op a b → (a ≡ Skip) ⊎ IsNestedTable holds_table p root op → b ≡ Skip
  hidden_skips op a b (inl t) h = t.1
  hidden_skips op a b (inr t) (inl e) = t.1 ∙ e
  hidden_skips op a b (inr t) (inr nested) = absurd (t.0 nested)

  skips_hidden : (op : Ptr Operation) (a b : WalkContinue) → Tells holds_table p root g ctx op a b → b ≡ Skip → (a ≡ Skip) ⊎ IsNestedTable holds_table p root op
  skips_hidden op a b (inl t) e = inr t.0
  skips_hidden op a b (inr t) e = inl (sym t.1 ∙ e)

  module _ (v : F × S) (cs : List Call) (w : Moment) (f : Follow v cs w) where
    hidden_of : (e : IRNode) (op : Ptr Operation) → Contains cs (e, Skip) → Holds p forward e (OperationNode op) → IsHidden holds_table p root w.1 op
    hidden_of (OperationNode t) op m holds =
        let r = f.heard t Skip m in record { holder = t; answer = r.0; called = r.1; hides = skips_hidden t r.0 Skip r.2 refl; holds = holds }
    hidden_of (RegionNode x) op m holds = let no : Skip ≡ Advance = f.silent_region x Skip m in absurd cc
    hidden_of (BlockNode x) op m holds = let no : Skip ≡ Advance = f.silent_block x Skip m in absurd cc

    skipped_of : (op : Ptr Operation) → IsHidden holds_table p root w.1 op → IsSkipped p forward cs (OperationNode op)
    skipped_of op h =
        let r = f.told h.holder h.answer h.called in
        (OperationNode h.holder, refl, subst (λ c. Contains cs (OperationNode h.holder, c)) (hidden_skips h.holder h.answer r.0 r.2 h.hides) r.1, h.holds)

  module _ (known : IsKnown p (OperationNode root)) where
    tree : IsTree p
    tree = tree_of p (OperationNode root) known

    sized : Sized p forward (OperationNode root ∷ []) (length (nodes_inside p (OperationNode root)))
    sized = sized_of p forward (OperationNode root ∷ []) (nodes_inside p (OperationNode root)) known.order

    -- ---- a whole walk

    whole : (v : F × S) (cs : List Call) (w : Moment) → Follow v cs w → IsWalkOf p forward (OperationNode root) cs → IsTableWalk holds_table p root w.1
    whole v cs w f k = record {
      order = subst (AllPairs (ComesBefore holds_table p root)) f.same (in_order (IsBefore p forward) cs k.order);
      exactly = λ op. (
        (λ c. let r = f.told op c.0 c.1 in let e = (k.exactly (OperationNode op)).0 (r.0, r.1) in (e.0, λ h. e.1 (skipped_of v cs w f op h))),
        (λ h. let e = (k.exactly (OperationNode op)).1 (h.0, λ s. h.1 (hidden_of v cs w f s.0 op s.2 s.3)) in let r = f.heard op e.0 e.1 in (r.0, r.1)),
      );
      either = λ op h. ⊎_elim (λ c. let r = f.heard op c.0 c.1 in inl (r.0, r.1)) (λ s. inr (hidden_of v cs w f s.0 op s.2 s.3)) (k.either (OperationNode op) h);
    }

    pub ends_table : (o : Option Cursor) (us : List OperationCall) (f : F) (s : S) (f' : F) (s' : S) → o ≡ None → Walking p forward (OperationNode root) Takes ((f, s), []) o ((f', s'), us)
        → EndsTableWalk holds_table p root g ctx f s (Continue Advance) s'
    ends_table o us f s f' s' is k =
        let t = follow (f, s) k.so_far ((f', s'), us) k.ran in
        let all = walk_of p forward tree (OperationNode root) k.so_far (subst (λ z. IsSoFar p forward (OperationNode root) z k.so_far) is k.stands) in
        (refl, us, f', t.ran, whole (f, s) k.so_far ((f', s'), us) t all)

    -- ---- a walk that broke

    -- two nodes don't hold each other
    not_both : (a b : IRNode) → (a ≡ b → ⊥) → Within p a b → Within p b a → ⊥
    not_both a _ ne it v = ne refl
    not_both a _ ne (deeper d e k h w) v = tree.apart d e k h (through p e a d v w)

    -- what comes after a node comes before what that holds
    before_held : (last : Ptr Operation) (e : IRNode) (op : Ptr Operation) → IsCalledFirst forward e → IsBefore p forward (OperationNode last) e → Holds p forward e (OperationNode op) → ComesBefore holds_table p root last op
    before_held last e op first (holder_first f h) k =
        holder_first f (
          (λ (same : OperationNode last ≡ OperationNode op). not_both (OperationNode last) e h.0 (inside p (OperationNode last) e h.1) (subst (Within p e) (sym same) (inside p e (OperationNode op) k.1))),
          tree.outside (OperationNode last) (OperationNode op) (through p (OperationNode last) e (OperationNode op) (inside p (OperationNode last) e h.1) (inside p e (OperationNode op) k.1)),
        )
    before_held last e op first (holder_last f h) k = let no : PreOrder ≡ PostOrder = sym first ∙ f in absurd cc
    before_held last e op first (by_position d s) k = by_position d (record {
      with_a = s.with_a;
      with_b = s.with_b;
      place = s.place;
      later = s.later;
      first = s.first;
      second = s.second;
      has_a = s.has_a;
      has_b = tree.outside s.with_b (OperationNode op) (through p s.with_b e (OperationNode op) (inside p s.with_b e s.has_b) (inside p e (OperationNode op) k.1));
      earlier = s.earlier;
    })

    begins : (v : F × S) (cs : List Call) (w : Moment) → Follow v cs w → (last : Ptr Operation) (a : WalkContinue) (rest : List Call) → IsWalkOf p forward (OperationNode root) (cs ++ (OperationNode last, a) ∷ rest)
        → BeginsTableWalk holds_table p root w.1 last
    begins v cs w f last a rest k =
        let all : List Call = cs ++ (OperationNode last, a) ∷ rest in
        let front : operations_of all ≡ (called_operations w.1 ++ last ∷ []) ++ operations_of rest =
        operations_append cs ((OperationNode last, a) ∷ rest) ∙ (ap (λ ps. ps ++ last ∷ operations_of rest) f.same ∙ sym (append_assoc (called_operations w.1) (last ∷ []) (operations_of rest))) in
        let not_hidden : (op : Ptr Operation) (b : WalkContinue) → Contains all (OperationNode op, b) → IsShown holds_table p root w.1 op =
        λ op b m. let e = (k.exactly (OperationNode op)).0 (b, m) in (e.0, λ h. let s = skipped_of v cs w f op h in e.1 (s.0, s.1, Contains-append_left cs ((OperationNode last, a) ∷ rest) (s.0, Skip) s.2, s.3)) in
        record {
          order = pairs_front (ComesBefore holds_table p root) (called_operations w.1 ++ last ∷ []) (operations_of rest) (subst (AllPairs (ComesBefore holds_table p root)) front (in_order (IsBefore p forward) all k.order));
          shown = λ op c. let r = f.told op c.0 c.1 in not_hidden op r.0 (Contains-append_left cs ((OperationNode last, a) ∷ rest) (OperationNode op, r.0) r.1);
          last_shown = not_hidden last a (Contains-append_right cs ((OperationNode last, a) ∷ rest) (OperationNode last, a) (here (OperationNode last, a) rest));
          all = λ op h. ⊎_elim (λ c. called_there op c.0 c.1) (λ s. skipped_there op s.0 s.1 s.2 s.3) (k.either (OperationNode op) h);
        }
      where
        Where : Ptr Operation → Type 0
        Where op = IsCalledIn w.1 op ⊎ ((op ≡ last) ⊎ (IsHidden holds_table p root w.1 op ⊎ ComesBefore holds_table p root last op))

        later : (e : IRNode) (b : WalkContinue) → Contains rest (e, b) → IsBefore p forward (OperationNode last) e
        later e b m = pairs_after (λ (c d : Call). IsBefore p forward c.0 d.0) cs (OperationNode last, a) rest (e, b) k.order m

        called_there : (op : Ptr Operation) (b : WalkContinue) → Contains (cs ++ (OperationNode last, a) ∷ rest) (OperationNode op, b) → Where op
        called_there op b m = ⊎_elim (λ n. let r = f.heard op b n in inl (r.0, r.1))
            (λ n. ⊎_elim (λ (i : (OperationNode last, a) ≡ (OperationNode op, b)). inr (inl (let j = ap (λ (c : Call). c.0) i in cc))) (λ o. inr (inr (inr (later (OperationNode op) b o))))
            (first_or_later (OperationNode last, a) rest (OperationNode op, b) n))
            (Contains-append_cases cs ((OperationNode last, a) ∷ rest) (OperationNode op, b) m)

        skipped_there : (op : Ptr Operation) (e : IRNode) → IsCalledFirst forward e → Contains (cs ++ (OperationNode last, a) ∷ rest) (e, Skip) → Holds p forward e (OperationNode op) → Where op
        skipped_there op e first m holds = ⊎_elim (λ n. inr (inr (inl (hidden_of v cs w f e op n holds))))
            (λ n. ⊎_elim (λ (i : (OperationNode last, a) ≡ (e, Skip)). inr (inr (inr (holder_first refl (subst (λ z. Holds p forward z (OperationNode op)) (sym (ap (λ (c : Call). c.0) i)) holds)))))
            (λ o. inr (inr (inr (before_held last e op first (later e Skip o) holds)))) (first_or_later (OperationNode last, a) rest (e, Skip) n))
            (Contains-append_cases cs ((OperationNode last, a) ∷ rest) (e, Skip) m)

    pub breaks_table : (o : Option Cursor) (at : Cursor) → o ≡ Some at → (us : List OperationCall) (f : F) (s : S) (f' : F) (s' : S) → Walking p forward (OperationNode root) Takes ((f, s), []) o ((f', s'), us) → (k : K) (f'' : F) (s'' : S)
        → IsAskedAt holds_table p root g ctx at f' s' (Break k) f'' s'' → BreaksTableOff holds_table p root g ctx f s k s''
    breaks_table o (Arriving (OperationNode op)) is us f s f' s' walking k f'' s'' h = by h.0 h.1 h.2 where
      by : (answer : ControlFlow K WalkContinue) → CalledAt g ctx f' s' op answer f'' s'' → TellsOf holds_table p root g ctx op answer (Break k) → BreaksTableOff holds_table p root g ctx f s k s''
      by (Continue a) called told = let e = told.1 in absurd cc
      by (Break j) called told =
          let same : j ≡ k = cc in
          let t = follow (f, s) walking.so_far ((f', s'), us) walking.ran in
          let r = could_go_on p forward (OperationNode root) (length (nodes_inside p (OperationNode root))) sized (Arriving (OperationNode op)) walking.so_far (subst (λ z. IsSoFar p forward (OperationNode root) z walking.so_far) is walking.stands) (OperationNode op) refl in
          record {
            calls = us;
            between = (f', s');
            went_on = t.ran;
            last = op;
            after = f'';
            broke = subst (λ x. CalledAt g ctx f' s' op (Break x) f'' s'') same called;
            begins = begins (f, s) walking.so_far ((f', s'), us) t op r.0 r.1 (walk_of p forward tree (OperationNode root) (walking.so_far ++ (OperationNode op, r.0) ∷ r.1) r.2);
          }
    breaks_table o (Arriving (RegionNode x)) is us f s f' s' walking k f'' s'' h = let e = h.0 in absurd cc
    breaks_table o (Arriving (BlockNode x)) is us f s f' s' walking k f'' s'' h = let e = h.0 in absurd cc
    breaks_table o (Leaving e) is us f s f' s' walking k f'' s'' h = let i = h.0 in absurd cc
