-- The flat view of a tree whose chains of blocks are joined.
use Rattle.std.proofs.Common.{◌≡◌, ℕ, zero, suc, ◌+◌, ◌<◌, ◌≤◌, Bool, true, List, [], ◌∷◌, ◌++◌, map, length, Some}
use Rattle.std.proofs.Common.{refl, sym, ap, ◌∙◌, subst, arith}
use Rattle.std.specs.Prelude.{slice_get, if◌then◌else◌, not}
use Rattle.ir_trees.specs.Names.{Names, Contents}
use Rattle.ir_trees.specs.Trees.{Head, Operations, Blocks, Tree, end, operation, block}
use Rattle.opt_trees.specs.Dialect.{Dialect}
use Rattle.opt_trees.specs.Simplify.{use_head, use_instead, but_last, append}
use Rattle.opt_trees.proofs.Lists.{map-map, map-append, length-map}
use Rattle.kit_behaviour.specs.Facts.{all_forwarded}
use Rattle.kit_behaviour.specs.JoinedBlocks.{joined}
use Rattle.kit_behaviour.specs.Machine.{AllEdges, Edge, Plain, Nonzero, Cases, Op, Const, Calc, Emit, Call, Branch}
use Rattle.kit_behaviour.specs.Machine.{Return, Block, Fun, ops_left, left_in, arguments_of}
use Rattle.kit_behaviour.specs.SimplifiedNames.{DefinitionsAreApart}
use Rattle.kit_behaviour.specs.RemovedValues.{thin_ops, thin_block}
use Rattle.kit_behaviour.specs.Replacement.{replace_edge, replace_op, replace_block}
use Rattle.kit_behaviour.specs.Rules.{EndsWell}
use Rattle.kit_behaviour.specs.Scopes.{In}
use Rattle.kit_behaviour.specs.SimplifiedBlocks.{all_edges, Reached, BlocksAreJoinable, IsJoinedSet, Depth, top, below, between}
use Rattle.kit_behaviour.specs.SimplifiedBlocks.{retarget, retarget_block, keep_blocks, join_block, IsLaterArgument}
use Rattle.kit_behaviour.proofs.DeadCode.RemovalBehaviour.{thin_left}
use Rattle.kit_behaviour.proofs.Lattice.ReplacementBehaviour.{replace_left}
use Rattle.kit_behaviour.proofs.ControlFlow.NamedChains.{front, front_edges, each_replaced, live_all, f1, f2, Free}
use Rattle.kit_behaviour.proofs.ControlFlow.NamedChains.{argument_stays, stays_free, chain_ends, chain_goes_on}
use Rattle.kit_ops.specs.declared.kinds.KitOp.{KitOp}
use Rattle.kit_views.specs.Reading.{Reading}
use Rattle.kit_views.specs.FlatView.{IsOf, IsOp, AreOps, AreFlatBlocks, names_in}
use Rattle.kit_views.proofs.Read.{Reads}
use Rattle.kit_views.proofs.Forwarded.{get_below}
use Rattle.kit_views.proofs.Uses.{true_false}
use Rattle.kit_views.proofs.Standing.{Given}
use Rattle.kit_views.proofs.KeptTree.{ops_moved}
use Rattle.kit_views.proofs.JoinableBoth.{ends_at}
use Rattle.kit_views.proofs.ChainedTree.{Stand, Chained, alone, behind, JoinedFrom, no_more, later, head}

-- 1. other values in place of operands

module _ {V : Type 0} (s : V → V) where
  forwarded_replaced : (es : List (Edge V)) → map s (all_forwarded es) ≡ all_forwarded (map (replace_edge s) es)
  forwarded_replaced [] = refl
  forwarded_replaced (e ∷ es) = map-append s e.forwards (all_forwarded es)
      ∙ ap (λ l. map s e.forwards ++ l) (forwarded_replaced es)

  operands_replaced : (xs : List V) (es : List (Edge V)) →
      map s (xs ++ all_forwarded es) ≡ map s xs ++ all_forwarded (map (replace_edge s) es)
  operands_replaced xs es = map-append s xs (all_forwarded es) ∙ ap (λ l. map s xs ++ l) (forwarded_replaced es)

module _ {N : Names} {S : Contents} (r : Reading S) (names : List N.block) (s : N.value → N.value) where
  of_replaced : (o : Head N S) (c : KitOp) (rs xs ys : List N.value) (es : List (Edge N.value)) → map s xs ≡ ys →
      IsOf r names o c rs xs es → IsOf r names (use_head s o) c rs ys (map (replace_edge s) es)
  of_replaced o c rs xs ys es q is = record {
    kind = is.kind;
    results = is.results;
    operands = ap (map s) is.operands ∙ q;
    successors = is.successors ∙ sym (map-map (λ (e : Edge N.value). slice_get names e.target) (replace_edge s) es);
  }

  op_replaced : (o : Head N S) (p : Op N.value) → IsOp r names o p → IsOp r names (use_head s o) (replace_op s p)
  op_replaced o (Const v n) is = (of_replaced o _ _ _ _ [] refl is.0, is.1)
  op_replaced o (Calc a w v x y) is = (of_replaced o _ _ _ _ [] refl is.0, is.1)
  op_replaced o (Emit x) is = of_replaced o _ _ _ _ [] refl is
  op_replaced o (Call rs c xs) is = (of_replaced o _ _ _ _ [] refl is.0, is.1)
  op_replaced o (Branch Plain xs e es) is = (
    of_replaced o _ _ _ _ (e ∷ es) (operands_replaced s xs (e ∷ es)) is.0,
    length-map s xs ∙ is.1,
    length-map (replace_edge s) es ∙ is.2,
  )
  op_replaced o (Branch Nonzero xs e es) is = (
    of_replaced o _ _ _ _ (e ∷ es) (operands_replaced s xs (e ∷ es)) is.0,
    length-map s xs ∙ is.1,
    length-map (replace_edge s) es ∙ is.2,
    is.3 ∙ sym (length-map s e.forwards),
  )
  op_replaced o (Branch (Cases ns) xs e es) is = absurd is
  op_replaced o (Return xs) is = of_replaced o _ _ _ _ [] refl is

  ops_replaced : (os : Tree N S Operations) (ps : List (Op N.value)) → AreOps r names os ps →
      AreOps r names (use_instead s os) (map (replace_op s) ps)
  ops_replaced end [] a = tt
  ops_replaced end (p ∷ ps) a = absurd a
  ops_replaced (operation o rs more) [] a = absurd a
  ops_replaced (operation o rs more) (p ∷ ps) a = (
    ap (λ z. use_instead s z) a.0,
    op_replaced o p a.1,
    ops_replaced more ps a.2,
  )

-- 2. lists of operations

module _ {N : Names} {S : Contents} (r : Reading S) (names : List N.block) where
  front_are : (os : Tree N S Operations) (ps : List (Op N.value)) → AreOps r names os ps →
      AreOps r names (but_last os) (front ps)
  front_are end [] a = tt
  front_are end (p ∷ ps) a = absurd a
  front_are (operation o rs more) [] a = absurd a
  front_are (operation o rs end) (p ∷ []) a = tt
  front_are (operation o rs end) (p ∷ q ∷ ps) a = absurd a.2
  front_are (operation o rs (operation z qs more)) (p ∷ []) a = absurd a.2
  front_are (operation o rs (operation z qs more)) (p ∷ q ∷ ps) a =
      (a.0, a.1, front_are (operation z qs more) (q ∷ ps) a.2)

  append_are : (os us : Tree N S Operations) (ps qs : List (Op N.value)) → AreOps r names os ps → AreOps r names us qs →
      AreOps r names (append os us) (ps ++ qs)
  append_are end us [] qs a b = b
  append_are end us (p ∷ ps) qs a b = absurd a
  append_are (operation o rs more) us [] qs a b = absurd a
  append_are (operation o rs more) us (p ∷ ps) qs a b = (a.0, a.1, append_are more us ps qs a.2 b)

module _ {N : Names} {S : Contents} where
  append_replaced : (s : N.value → N.value) (os us : Tree N S Operations) →
      use_instead s (append os us) ≡ append (use_instead s os) (use_instead s us)
  append_replaced s end us = refl
  append_replaced s (operation o rs more) us = ap (λ z. operation (use_head s o) (use_instead s rs) z)
      (append_replaced s more us)

  pub names_replaced : (s : N.value → N.value) (ts : Tree N S Blocks) → names_in (use_instead s ts) ≡ names_in ts
  names_replaced s end = refl
  names_replaced s (block l os rest) = ap (λ z. l.name ∷ z) (names_replaced s rest)

-- 3. joined blocks

module _ {N : Names} {S : Contents} {A : Type 0} (d : Dialect S A) (r : Reading S) (law : Reads d r) (h : Head N S)
    (bs : Tree N S Blocks) (f : Fun N.value) (given : Given r h bs f) (ssa : d.is_ssa h.content 0 ≡ true)
    (good_ends : (b : ℕ) → b < length f → EndsWell (left_in (Some f) b 0))
    (all_reached : (b : ℕ) → b < length f → Reached (Some f) b) (apart : DefinitionsAreApart (Some f)) (j : ℕ → Bool)
    (is_taken : IsJoinedSet (Some f) j) (gone : N.value → Bool)
    (there : (v : N.value) → gone v ≡ true → IsLaterArgument j (Some f) v)
    (back : (v : N.value) → IsLaterArgument j (Some f) v → gone v ≡ true) (s : N.value → N.value) (most : ℕ)
    (long : (b n : ℕ) → Depth (Some f) j b n → n ≤ most) where
  abbrev pub stay : ℕ → Bool
  stay b = not (j b)

  abbrev pub number : ℕ → ℕ
  number = between stay 0

  abbrev Chain : ℕ → Tree N S Operations → Tree N S Operations → Type 0
  Chain = Chained d r law h bs f given ssa good_ends all_reached

  abbrev Blocks_from : ℕ → Tree N S Blocks → Tree N S Blocks → Type 0
  Blocks_from = JoinedFrom d r law h bs f given ssa good_ends all_reached j

  abbrev At : ℕ → Tree N S Blocks → Type 0
  At = Stand d r law h bs f given ssa good_ends all_reached

  -- names of blocks that stay stand where these have their new numbers
  stays_true : (i : ℕ) → j i ≡ true → stay i ≡ true → ⊥
  stays_true i e q = true_false (stay i) q (ap not e)

  pub kept_names : (i : ℕ) (ts more : Tree N S Blocks) → Blocks_from i ts more → (n : ℕ) → stay (i + n) ≡ true →
      slice_get (names_in more) (between stay i n) ≡ slice_get (names_in ts) n
  kept_names _ _ _ (no_more i) n e = refl
  kept_names _ _ _ (later i l os rest more q x) zero e = let z : i + 0 ≡ i =
      omega arith in absurd (stays_true i q (ap stay (sym z) ∙ e))
  kept_names _ _ _ (later i l os rest more q x) (suc n) e =
      let z : suc i + n ≡ i + suc n = omega arith in
      ap (λ b. slice_get (names_in more) (if b then suc (between stay (suc i) n) else between stay (suc i) n))
      (ap not q)
      ∙ kept_names (suc i) rest more x n (ap stay z ∙ e)
  kept_names _ _ _ (head i l os all rest more q c x) zero e = refl
  kept_names _ _ _ (head i l os all rest more q c x) (suc n) e =
      let z : suc i + n ≡ i + suc n = omega arith in
      ap (λ b. slice_get (l.name ∷ names_in more) (if b then suc (between stay (suc i) n) else between stay (suc i) n))
      (ap not q)
      ∙ kept_names (suc i) rest more x n (ap stay z ∙ e)

  module _ (others : List N.block) (stand : (t : ℕ) → stay t ≡ true →
      slice_get others (number t) ≡ slice_get (names_in bs) t) where
    abbrev Stays : Edge N.value → Type 0
    Stays x = stay x.target ≡ true

    abbrev joined_at : ℕ → ℕ → List (Op N.value)
    joined_at m b = joined j (f2 (Some f) apart j is_taken gone there back s) m
        (left_in (f2 (Some f) apart j is_taken gone there back s) b 0)

    ends_chain : (m b : ℕ) → ((t : ℕ) → BlocksAreJoinable (Some f) b t → ⊥) →
        joined_at m b ≡ map (replace_op s) (left_in (Some f) b 0)
    ends_chain m b none = chain_ends (Some f) apart j is_taken gone there back s good_ends given.edges most long m b
        none

    goes_on_chain : (m b t : ℕ) → b < length f → BlocksAreJoinable (Some f) b t →
        joined_at (suc m) b ≡ map (replace_op s) (front (left_in (Some f) b 0)) ++ joined_at m t
    goes_on_chain m b t l x = chain_goes_on (Some f) apart j is_taken gone there back s good_ends given.edges most long
        m b t l x

    free_stays : (ps : List (Op N.value)) → AllEdges (Free (Some f) apart j is_taken gone there back s) (all_edges ps) →
        AllEdges Stays (all_edges (map (replace_op s) ps))
    free_stays ps w = each_replaced (Free (Some f) apart j is_taken gone there back s) Stays s (λ e q. ap not q) ps w

    -- the operations of a block, and what is joined behind them
    chained : (b : ℕ) (os all : Tree N S Operations) → Chain b os all → (k : Block N.value) → slice_get f b ≡ Some k →
        b < length f → AreOps r (names_in bs) os k.ops → (n m : ℕ) → Depth (Some f) j b n → n + m ≡ most →
        AreOps r others (use_instead s all) (map (retarget number) (joined_at m b))
    chained _ _ _ (alone b os none) k e l a n m dp q =
        let is : joined_at m b ≡ map (replace_op s) k.ops =
        ends_chain m b none ∙ ap (λ o. map (replace_op s) (ops_left o 0)) e in
        let free = subst (λ o. AllEdges (Free (Some f) apart j is_taken gone there back s) (all_edges (ops_left o 0))) e
        (stays_free (Some f) apart j is_taken gone there back s b none) in
        subst (λ ps. AreOps r others (use_instead s os) (map (retarget number) ps)) (sym is)
        (ops_moved r (names_in bs) others number (λ t. stay t ≡ true) stand (use_instead s os)
        (map (replace_op s) k.ops) (free_stays k.ops free) (ops_replaced r (names_in bs) s os k.ops a))
    chained _ _ _ (behind b t os more rest y x w c) k e l a n zero dp q =
        let le = long t (suc n) (below b t n (suc n) x refl dp) in absurd (omega (arith, le, q))
    chained _ _ _ (behind b t os more rest y x w c) k e l a n (suc m) dp q =
        let le = get_below f t w.k w.at in
        let ih = chained t more rest c w.k w.at le w.ops (suc n) m (below b t n (suc n) x refl dp) (omega (arith, q)) in
        let is : joined_at (suc m) b ≡ map (replace_op s) (front k.ops) ++ joined_at m t =
        goes_on_chain m b t l x ∙ ap (λ o. map (replace_op s) (front (ops_left o 0)) ++ joined_at m t) e in
        let ends = ends_at d r law h bs f given ssa good_ends all_reached b k e in
        let none = subst (AllEdges (Free (Some f) apart j is_taken gone there back s))
        (sym (front_edges k.ops ends)) tt in
        let own = ops_moved r (names_in bs) others number (λ t. stay t ≡ true) stand (use_instead s (but_last os))
        (map (replace_op s) (front k.ops)) (free_stays (front k.ops) none)
        (ops_replaced r (names_in bs) s (but_last os) (front k.ops) (front_are r (names_in bs) os k.ops a)) in
        subst (λ z. AreOps r others z (map (retarget number) (joined_at (suc m) b)))
        (sym (append_replaced s (but_last os) rest))
        (subst (λ ps. AreOps r others (append (use_instead s (but_last os)) (use_instead s rest))
        (map (retarget number) ps)) (sym is)
        (subst (λ ps. AreOps r others (append (use_instead s (but_last os)) (use_instead s rest)) ps)
        (sym (map-append (retarget number) (map (replace_op s) (front k.ops)) (joined_at m t)))
        (append_are r others (use_instead s (but_last os)) (use_instead s rest)
        (map (retarget number) (map (replace_op s) (front k.ops))) (map (retarget number) (joined_at m t)) own ih)))

    abbrev thinned : Block N.value → Block N.value
    thinned k = thin_block (f1 (Some f) apart j is_taken gone there back s) gone (replace_block s k)

    abbrev with_chain : Block N.value → Block N.value
    with_chain k = join_block j (f2 (Some f) apart j is_taken gone there back s) most (thinned k)

    -- the blocks before those that are joined behind others go
    abbrev pub all_chained : List (Block N.value) → List (Block N.value)
    all_chained ks =
        map (join_block j (f2 (Some f) apart j is_taken gone there back s) most)
        (map (thin_block (f1 (Some f) apart j is_taken gone there back s) gone) (map (replace_block s) ks))

    two_at : (b : ℕ) (k : Block N.value) → slice_get f b ≡ Some k →
        left_in (f2 (Some f) apart j is_taken gone there back s) b 0 ≡ (thinned k).ops
    two_at b k e =
        thin_left gone (f1 (Some f) apart j is_taken gone there back s) b
        ∙ ap (thin_ops (f1 (Some f) apart j is_taken gone there back s) gone)
        (replace_left s (Some f) b 0 ∙ ap (λ o. map (replace_op s) (ops_left o 0)) e)

    next_blocks : (i : ℕ) (k : Block N.value) (ks : Fun N.value) →
        ((m : ℕ) (z : Block N.value) → slice_get (k ∷ ks) m ≡ Some z → slice_get f (i + m) ≡ Some z) →
        (m : ℕ) (z : Block N.value) → slice_get ks m ≡ Some z → slice_get f (suc i + m) ≡ Some z
    next_blocks i k ks fs m z e = let y : i + suc m ≡ suc i + m =
        omega arith in ap (slice_get f) (sym y) ∙ fs (suc m) z e

    pub blocks_joined : (i : ℕ) (ts more : Tree N S Blocks) → Blocks_from i ts more → At i ts → (ks : Fun N.value) →
        AreFlatBlocks r (names_in bs) ts ks → ((m : ℕ) (k : Block N.value) → slice_get ks m ≡ Some k →
        slice_get f (i + m) ≡ Some k) → AreFlatBlocks r others (use_instead s more)
        (keep_blocks stay number i (all_chained ks))
    blocks_joined _ _ _ (no_more i) st [] a fs = tt
    blocks_joined _ _ _ (no_more i) st (k ∷ ks) a fs = absurd a
    blocks_joined _ _ _ (later i l os rest more q x) st [] a fs = absurd a
    blocks_joined _ _ _ (later i l os rest more q x) st (k ∷ ks) a fs =
        subst (AreFlatBlocks r others (use_instead s more))
        (sym (ap (λ b. if b then retarget_block number (with_chain k) ∷ keep_blocks stay number (suc i)
        (all_chained ks) else keep_blocks stay number (suc i) (all_chained ks)) (ap not q)))
        (blocks_joined (suc i) rest more x st.1 ks a.2 (next_blocks i k ks fs))
    blocks_joined _ _ _ (head i l os all rest more q c x) st [] a fs = absurd a
    blocks_joined _ _ _ (head i l os all rest more q c x) st (k ∷ ks) a fs =
        subst (AreFlatBlocks r others (block l (use_instead s all) (use_instead s more)))
        (sym (ap (λ b. if b then retarget_block number (with_chain k) ∷ keep_blocks stay number (suc i)
        (all_chained ks) else keep_blocks stay number (suc i) (all_chained ks)) (ap not q))) (
          a.0 ∙ sym (live_all gone k.arguments (λ v w. argument_stays (Some f) apart j is_taken gone there back s i q v
              (subst (λ o. In v (arguments_of o)) (sym at) w))),
          subst (λ ps. AreOps r others (use_instead s all) (map (retarget number)
              (joined j (f2 (Some f) apart j is_taken gone there back s) most ps))) (two_at i k at)
              (chained i os all c k at (get_below f i k at) a.1 0 most (top i 0 q refl) (omega arith)),
          blocks_joined (suc i) rest more x st.1 ks a.2 (next_blocks i k ks fs),
        )
      where
        at : slice_get f i ≡ Some k
        at = let z : i + 0 ≡ i = omega arith in ap (slice_get f) (sym z) ∙ fs 0 k refl
