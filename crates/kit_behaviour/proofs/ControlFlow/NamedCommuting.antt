-- The steps that join chains of blocks, on a function under other names of values.
use Rattle.std.proofs.Common.{◌≡◌, ℕ, zero, suc, Bool, true, false, List, [], ◌∷◌, ◌++◌, Option, Some, None, refl, sym}
use Rattle.std.proofs.Common.{ap, ◌∙◌}
use Rattle.std.specs.Prelude.{map, slice_get, option_map, if◌then◌else◌, nat_eq}
use Rattle.std.proofs.lemmas.Option.{slice_get-map}
use Rattle.kit_behaviour.specs.Machine.{AllEdges, Edge, Op, Const, Calc, Emit, Call, Branch, Return, Block, Fun}
use Rattle.kit_behaviour.specs.Machine.{ops_left, left_in, arguments_of, arguments_in}
use Rattle.kit_behaviour.specs.JoinedBlocks.{join_ops, joined}
use Rattle.kit_behaviour.specs.RemovedValues.{may_trap, goes, live, pick, thin_edge, thin_op, thin_ops, thin_block}
use Rattle.kit_behaviour.specs.Renaming.{rename_edge, rename_op, rename_block, same_block, AllNamed, EdgeNamed, OpNamed}
use Rattle.kit_behaviour.specs.Renaming.{OpsNamed}
use Rattle.kit_behaviour.specs.Replacement.{replace_edge, replace_op, replace_block}
use Rattle.kit_behaviour.specs.SimplifiedBlocks.{edges_of, all_edges, lone, last_edge, count_to, blocks_edges}
use Rattle.kit_behaviour.specs.SimplifiedBlocks.{forwarded_to, retarget_edge, retarget, retarget_block, keep_blocks}
use Rattle.kit_behaviour.specs.SimplifiedBlocks.{join_block}
use Rattle.kit_behaviour.specs.Numbering.{AnyBlock}
use Rattle.kit_behaviour.proofs.ControlFlow.SimplifyBehaviour.{edges_renamed}

-- 1. edges

module _ {V W : Type 0} (r : V → W) where
  abbrev pub ren : Op V → Op W
  ren = rename_op r same_block

  abbrev pub ren_edge : Edge V → Edge W
  ren_edge = rename_edge r same_block

  pub all_edges_renamed : (ops : List (Op V)) → all_edges (map ren ops) ≡ map ren_edge (all_edges ops)
  all_edges_renamed [] = refl
  all_edges_renamed (op ∷ ops) = (λ i. edges_renamed r op i ++ all_edges_renamed ops i)
      ∙ sym (append_map (edges_of op) (all_edges ops))
    where
      append_map : (xs ys : List (Edge V)) → map ren_edge (xs ++ ys) ≡ map ren_edge xs ++ map ren_edge ys
      append_map [] ys = refl
      append_map (x ∷ xs) ys = ap (λ l. ren_edge x ∷ l) (append_map xs ys)

  edges_append_map : (xs ys : List (Edge V)) → map ren_edge (xs ++ ys) ≡ map ren_edge xs ++ map ren_edge ys
  edges_append_map [] ys = refl
  edges_append_map (x ∷ xs) ys = ap (λ l. ren_edge x ∷ l) (edges_append_map xs ys)

  pub blocks_edges_renamed : (ks : List (Block V)) →
      blocks_edges (map (rename_block r) ks) ≡ map ren_edge (blocks_edges ks)
  blocks_edges_renamed [] = refl
  blocks_edges_renamed (k ∷ ks) = (λ i. all_edges_renamed k.ops i ++ blocks_edges_renamed ks i)
      ∙ sym (edges_append_map (all_edges k.ops) (blocks_edges ks))

  pub count_renamed : (t : ℕ) (es : List (Edge V)) → count_to t (map ren_edge es) ≡ count_to t es
  count_renamed t [] = refl
  count_renamed t (e ∷ es) = ap (λ n. if nat_eq e.target t then suc n else n) (count_renamed t es)

  pub forwarded_renamed : (t : ℕ) (es : List (Edge V)) → forwarded_to t (map ren_edge es) ≡ map r (forwarded_to t es)
  forwarded_renamed t [] = refl
  forwarded_renamed t (e ∷ es) = by_test (nat_eq e.target t) (forwarded_renamed t es)
    where
      by_test : (b : Bool) → forwarded_to t (map ren_edge es) ≡ map r (forwarded_to t es) →
          (if b then map r e.forwards else forwarded_to t (map ren_edge es)) ≡ map r
          (if b then e.forwards else forwarded_to t es)
      by_test true ih = refl
      by_test false ih = ih

  lone_renamed : (op : Op V) → lone (ren op) ≡ option_map ren_edge (lone op)
  lone_renamed (Const v n) = refl
  lone_renamed (Calc a w v x y) = refl
  lone_renamed (Emit x) = refl
  lone_renamed (Call vs c xs) = refl
  lone_renamed (Branch s xs e []) = refl
  lone_renamed (Branch s xs e (x ∷ es)) = refl
  lone_renamed (Return xs) = refl

  pub last_renamed : (ops : List (Op V)) → last_edge (map ren ops) ≡ option_map ren_edge (last_edge ops)
  last_renamed [] = refl
  last_renamed (op ∷ []) = lone_renamed op
  last_renamed (op ∷ next ∷ ops) = last_renamed (next ∷ ops)

  -- 2. blocks joined and dropped

  pub join_renamed : (j : ℕ → Bool) (n : ℕ → List (Op V)) (m : ℕ → List (Op W)) → ((t : ℕ) → m t ≡ map ren (n t)) →
      (ops : List (Op V)) → join_ops j m (map ren ops) ≡ map ren (join_ops j n ops)
  join_renamed j n m h [] = refl
  join_renamed j n m h (Const v k ∷ ops) = ap (λ l. ren (Const v k) ∷ l) (join_renamed j n m h ops)
  join_renamed j n m h (Calc a w v x y ∷ ops) = ap (λ l. ren (Calc a w v x y) ∷ l) (join_renamed j n m h ops)
  join_renamed j n m h (Emit x ∷ ops) = ap (λ l. ren (Emit x) ∷ l) (join_renamed j n m h ops)
  join_renamed j n m h (Call vs c xs ∷ ops) = ap (λ l. ren (Call vs c xs) ∷ l) (join_renamed j n m h ops)
  join_renamed j n m h (Branch s xs e [] ∷ ops) = by_test (j e.target) (join_renamed j n m h ops)
    where
      by_test : (b : Bool) → join_ops j m (map ren ops) ≡ map ren (join_ops j n ops) →
          (if b then m e.target else ren (Branch s xs e []) ∷ join_ops j m (map ren ops)) ≡ map ren
          (if b then n e.target else Branch s xs e [] ∷ join_ops j n ops)
      by_test true ih = h e.target
      by_test false ih = ap (λ l. ren (Branch s xs e []) ∷ l) ih
  join_renamed j n m h (Branch s xs e (x ∷ es) ∷ ops) =
      ap (λ l. ren (Branch s xs e (x ∷ es)) ∷ l) (join_renamed j n m h ops)
  join_renamed j n m h (Return xs ∷ ops) = ap (λ l. ren (Return xs) ∷ l) (join_renamed j n m h ops)

  left_renamed_block : (o : Option (Block V)) → ops_left (option_map (rename_block r) o) 0 ≡ map ren (ops_left o 0)
  left_renamed_block None = refl
  left_renamed_block (Some b) = refl

  pub left_renamed : (ks : List (Block V)) (b : ℕ) →
      left_in (Some (map (rename_block r) ks)) b 0 ≡ map ren (left_in (Some ks) b 0)
  left_renamed ks b = ap (λ o. ops_left o 0) (slice_get-map (rename_block r) ks b) ∙ left_renamed_block (slice_get ks b)

  takes_renamed_block : (o : Option (Block V)) → arguments_of (option_map (rename_block r) o) ≡ map r (arguments_of o)
  takes_renamed_block None = refl
  takes_renamed_block (Some b) = refl

  pub takes_renamed : (ks : List (Block V)) (b : ℕ) →
      arguments_in (Some (map (rename_block r) ks)) b ≡ map r (arguments_in (Some ks) b)
  takes_renamed ks b = ap arguments_of (slice_get-map (rename_block r) ks b) ∙ takes_renamed_block (slice_get ks b)

  joined_renamed : (j : ℕ → Bool) (g : List (Block V)) (k : ℕ) (ops : List (Op V)) →
      joined j (Some (map (rename_block r) g)) k (map ren ops) ≡ map ren (joined j (Some g) k ops)
  joined_renamed j g zero ops = join_renamed j (λ t. []) (λ t. []) (λ t. refl) ops
  joined_renamed j g (suc k) ops =
      join_renamed j (λ t. joined j (Some g) k (left_in (Some g) t 0))
      (λ t. joined j (Some (map (rename_block r) g)) k (left_in (Some (map (rename_block r) g)) t 0))
      (λ t. ap (joined j (Some (map (rename_block r) g)) k) (left_renamed g t)
      ∙ joined_renamed j g k (left_in (Some g) t 0)) ops

  pub join_blocks_renamed : (j : ℕ → Bool) (g : List (Block V)) (k : ℕ) (ks : List (Block V)) →
      map (join_block j (Some (map (rename_block r) g)) k) (map (rename_block r) ks) ≡ map (rename_block r)
      (map (join_block j (Some g) k) ks)
  join_blocks_renamed j g k [] = refl
  join_blocks_renamed j g k (b ∷ ks) = λ i. record { arguments = map r b.arguments; ops = joined_renamed j g k b.ops i }
      ∷ join_blocks_renamed j g k ks i

  retargets_renamed : (k : ℕ → ℕ) (es : List (Edge V)) →
      map (retarget_edge k) (map ren_edge es) ≡ map ren_edge (map (retarget_edge k) es)
  retargets_renamed k [] = refl
  retargets_renamed k (e ∷ es) = ap (λ l. retarget_edge k (ren_edge e) ∷ l) (retargets_renamed k es)

  retarget_renamed : (k : ℕ → ℕ) (op : Op V) → retarget k (ren op) ≡ ren (retarget k op)
  retarget_renamed k (Const v n) = refl
  retarget_renamed k (Calc a w v x y) = refl
  retarget_renamed k (Emit x) = refl
  retarget_renamed k (Call vs c xs) = refl
  retarget_renamed k (Branch s xs e es) = ap (λ l. Branch s (map r xs) (retarget_edge k (ren_edge e)) l)
      (retargets_renamed k es)
  retarget_renamed k (Return xs) = refl

  ops_retargeted : (k : ℕ → ℕ) (ops : List (Op V)) → map (retarget k) (map ren ops) ≡ map ren (map (retarget k) ops)
  ops_retargeted k [] = refl
  ops_retargeted k (op ∷ ops) = λ i. retarget_renamed k op i ∷ ops_retargeted k ops i

  pub keep_renamed : (st : ℕ → Bool) (k : ℕ → ℕ) (i : ℕ) (ks : List (Block V)) →
      keep_blocks st k i (map (rename_block r) ks) ≡ map (rename_block r) (keep_blocks st k i ks)
  keep_renamed st k i [] = refl
  keep_renamed st k i (b ∷ ks) = by_test (st i) (keep_renamed st k (suc i) ks)
    where
      by_test : (t : Bool) → keep_blocks st k (suc i) (map (rename_block r) ks) ≡ map (rename_block r)
          (keep_blocks st k (suc i) ks) → (if t then retarget_block k (rename_block r b) ∷ keep_blocks st k (suc i)
          (map (rename_block r) ks) else keep_blocks st k (suc i) (map (rename_block r) ks)) ≡ map (rename_block r)
          (if t then retarget_block k b ∷ keep_blocks st k (suc i) ks else keep_blocks st k (suc i) ks)
      by_test true ih = λ j. record { arguments = map r b.arguments; ops = ops_retargeted k b.ops j } ∷ ih j
      by_test false ih = ih

-- 3. operands replaced, and values removed, where all names have a property

module _ {V W : Type 0} (r : V → W) (N : V → Type 0) (s : V → V) (z : W → W)
    (same : (x : V) → N x → z (r x) ≡ r (s x)) where
  list_replaced : (xs : List V) → AllNamed N xs → map z (map r xs) ≡ map r (map s xs)
  list_replaced [] h = refl
  list_replaced (x ∷ xs) h = λ i. same x h.0 i ∷ list_replaced xs h.1 i

  edge_replaced : (e : Edge V) → EdgeNamed N AnyBlock e → replace_edge z (ren_edge r e) ≡ ren_edge r (replace_edge s e)
  edge_replaced e h = ap (λ l. record { target = e.target; forwards = l }) (list_replaced e.forwards h.1)

  edges_replaced : (es : List (Edge V)) → AllEdges (EdgeNamed N AnyBlock) es →
      map (replace_edge z) (map (ren_edge r) es) ≡ map (ren_edge r) (map (replace_edge s) es)
  edges_replaced [] h = refl
  edges_replaced (e ∷ es) h = λ i. edge_replaced e h.0 i ∷ edges_replaced es h.1 i

  op_replaced : (op : Op V) → OpNamed N AnyBlock op → replace_op z (ren r op) ≡ ren r (replace_op s op)
  op_replaced (Const v n) h = refl
  op_replaced (Calc a w v x y) h = λ i. Calc a w (r v) (same x h.1 i) (same y h.2 i)
  op_replaced (Emit x) h = ap Emit (same x h)
  op_replaced (Call vs c xs) h = ap (Call (map r vs) c) (list_replaced xs h.1)
  op_replaced (Branch t xs e es) h = λ i. Branch t (list_replaced xs h.0 i) (edge_replaced e h.1.0 i)
      (edges_replaced es h.1.1 i)
  op_replaced (Return xs) h = ap Return (list_replaced xs h)

  ops_replaced : (ops : List (Op V)) → OpsNamed N AnyBlock ops →
      map (replace_op z) (map (ren r) ops) ≡ map (ren r) (map (replace_op s) ops)
  ops_replaced [] h = refl
  ops_replaced (op ∷ ops) h = λ i. op_replaced op h.0 i ∷ ops_replaced ops h.1 i

  pub blocks_replaced : (ks : List (Block V)) → ((b : ℕ) → OpsNamed N AnyBlock (left_in (Some ks) b 0)) →
      map (replace_block z) (map (rename_block r) ks) ≡ map (rename_block r) (map (replace_block s) ks)
  blocks_replaced [] h = refl
  blocks_replaced (k ∷ ks) h = λ i. record { arguments = map r k.arguments; ops = ops_replaced k.ops (h 0) i } ∷
      blocks_replaced ks (λ b. h (suc b)) i

module _ {V W : Type 0} (r : V → W) (N : V → Type 0) (d : V → Bool) (z : W → Bool)
    (same : (x : V) → N x → z (r x) ≡ d x) where
  live_renamed : (vs : List V) → AllNamed N vs → live z (map r vs) ≡ map r (live d vs)
  live_renamed [] h = refl
  live_renamed (v ∷ vs) h = ap (λ b. if b then live z (map r vs) else r v ∷ live z (map r vs)) (same v h.0)
      ∙ by_test (d v) (live_renamed vs h.1)
    where
      by_test : (b : Bool) → live z (map r vs) ≡ map r (live d vs) →
          (if b then live z (map r vs) else r v ∷ live z (map r vs)) ≡ map r (if b then live d vs else v ∷ live d vs)
      by_test true ih = ih
      by_test false ih = ap (λ l. r v ∷ l) ih

  pick_renamed : (ts gs : List V) → AllNamed N ts → pick z (map r ts) (map r gs) ≡ map r (pick d ts gs)
  pick_renamed [] gs h = refl
  pick_renamed (t ∷ ts) [] h = refl
  pick_renamed (t ∷ ts) (g ∷ gs) h = ap (λ b. if b then pick z (map r ts) (map r gs) else r g ∷ pick z (map r ts)
      (map r gs)) (same t h.0) ∙ by_test (d t) (pick_renamed ts gs h.1)
    where
      by_test : (b : Bool) → pick z (map r ts) (map r gs) ≡ map r (pick d ts gs) →
          (if b then pick z (map r ts) (map r gs) else r g ∷ pick z (map r ts) (map r gs)) ≡ map r
          (if b then pick d ts gs else g ∷ pick d ts gs)
      by_test true ih = ih
      by_test false ih = ap (λ l. r g ∷ l) ih

  goes_renamed : (op : Op V) → OpNamed N AnyBlock op → goes z (ren r op) ≡ goes d op
  goes_renamed (Const v n) h = same v h
  goes_renamed (Calc a w v x y) h = ap (λ b. if may_trap a then false else b) (same v h.0)
  goes_renamed (Emit x) h = refl
  goes_renamed (Call vs c xs) h = refl
  goes_renamed (Branch t xs e es) h = refl
  goes_renamed (Return xs) h = refl

  module _ (g : List (Block V)) (takes : (b : ℕ) → AllNamed N (arguments_in (Some g) b)) where
    abbrev after : Option (Fun W)
    after = Some (map (rename_block r) g)

    edge_thinned : (e : Edge V) → thin_edge after z (ren_edge r e) ≡ ren_edge r (thin_edge (Some g) d e)
    edge_thinned e =
        ap (λ l. record { target = e.target; forwards = l })
        (ap (λ l. pick z l (map r e.forwards)) (takes_renamed r g e.target)
        ∙ pick_renamed (arguments_in (Some g) e.target) e.forwards (takes e.target))

    edges_thinned : (es : List (Edge V)) → map (thin_edge after z) (map (ren_edge r) es) ≡ map (ren_edge r)
        (map (thin_edge (Some g) d) es)
    edges_thinned [] = refl
    edges_thinned (e ∷ es) = λ i. edge_thinned e i ∷ edges_thinned es i

    op_thinned : (op : Op V) → thin_op after z (ren r op) ≡ ren r (thin_op (Some g) d op)
    op_thinned (Const v n) = refl
    op_thinned (Calc a w v x y) = refl
    op_thinned (Emit x) = refl
    op_thinned (Call vs c xs) = refl
    op_thinned (Branch t xs e es) = λ i. Branch t (map r xs) (edge_thinned e i) (edges_thinned es i)
    op_thinned (Return xs) = refl

    ops_thinned : (ops : List (Op V)) → OpsNamed N AnyBlock ops →
        thin_ops after z (map (ren r) ops) ≡ map (ren r) (thin_ops (Some g) d ops)
    ops_thinned [] h = refl
    ops_thinned (op ∷ ops) h =
        ap (λ b. if b then thin_ops after z (map (ren r) ops) else thin_op after z (ren r op) ∷ thin_ops after z
        (map (ren r) ops)) (goes_renamed op h.0)
        ∙ by_test (goes d op) (ops_thinned ops h.1)
      where
        by_test : (b : Bool) → thin_ops after z (map (ren r) ops) ≡ map (ren r) (thin_ops (Some g) d ops) →
            (if b then thin_ops after z (map (ren r) ops) else thin_op after z (ren r op) ∷ thin_ops after z
            (map (ren r) ops)) ≡ map (ren r) (if b then thin_ops (Some g) d ops else thin_op (Some g) d op ∷ thin_ops
            (Some g) d ops)
        by_test true ih = ih
        by_test false ih = λ i. op_thinned op i ∷ ih i

    pub blocks_thinned : (ks : List (Block V)) → ((b : ℕ) → OpsNamed N AnyBlock (left_in (Some ks) b 0)) →
        ((b : ℕ) → AllNamed N (arguments_in (Some ks) b)) →
        map (thin_block after z) (map (rename_block r) ks) ≡ map (rename_block r) (map (thin_block (Some g) d) ks)
    blocks_thinned [] h a = refl
    blocks_thinned (k ∷ ks) h a =
        λ i. record { arguments = live_renamed k.arguments (a 0) i; ops = ops_thinned k.ops (h 0) i } ∷ blocks_thinned
        ks (λ b. h (suc b)) (λ b. a (suc b)) i
