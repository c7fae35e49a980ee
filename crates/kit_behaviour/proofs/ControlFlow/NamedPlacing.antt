-- Names of a set stay a set through the steps that join chains, and numbering forgets names that are told apart on it.
use Rattle.std.proofs.Common.{◌≡◌, ⊎_elim, ℕ, zero, suc, Bool, true, false, List, [], ◌∷◌, Option, Some, None, refl}
use Rattle.std.proofs.Common.{sym, ap, ◌∙◌, subst}
use Rattle.std.specs.Prelude.{map, if◌then◌else◌, option_map, unwrap_or}
use Rattle.kit_behaviour.specs.Machine.{AllEdges, Edge, Op, Const, Calc, Emit, Call, Branch, Return, Block, Fun}
use Rattle.kit_behaviour.specs.Machine.{left_in, arguments_in}
use Rattle.kit_behaviour.specs.JoinedBlocks.{join_ops, joined}
use Rattle.kit_behaviour.specs.RemovedValues.{goes, live, pick, thin_edge, thin_op, thin_ops, thin}
use Rattle.kit_behaviour.specs.Renaming.{rename_edge, rename_op, rename_block, rename_fun, same_block, AllNamed}
use Rattle.kit_behaviour.specs.Renaming.{EdgeNamed, OpNamed, OpsNamed}
use Rattle.kit_behaviour.specs.Replacement.{replace_edge, replace_op, replace}
use Rattle.kit_behaviour.specs.Scopes.{defs}
use Rattle.kit_behaviour.specs.Places.{Arg, Res}
use Rattle.kit_behaviour.specs.Numbering.{index_of, or_else, place_in_ops, place_in_blocks, place_of, place_fun}
use Rattle.kit_behaviour.specs.Numbering.{AnyBlock}
use Rattle.kit_behaviour.specs.SimplifiedBlocks.{retarget_edge, retarget, join_fun, keep}
use Rattle.kit_behaviour.proofs.DeadCode.RemovalBehaviour.{thin_left, thin_takes}
use Rattle.kit_behaviour.proofs.Lattice.ReplacementBehaviour.{replace_left, replace_takes}
use Rattle.kit_behaviour.proofs.Numbering.NumberingForgetsNames.{blocks_twice}
use Rattle.kit_behaviour.proofs.ControlFlow.JoiningPremises.{join_left, join_takes}
use Rattle.kit_behaviour.proofs.ControlFlow.KeptBlocks.{at, was, Was, keep_left, keep_takes}

-- 1. names of a set

-- each name that occurs in the function is one of N
pub record AreNamed {V : Type 0} (N : V → Type 0) (f : Option (Fun V)) : Type 0 where
  pub ops : (b : ℕ) → OpsNamed N AnyBlock (left_in f b 0)
  pub arguments : (b : ℕ) → AllNamed N (arguments_in f b)

module _ {V : Type 0} (N : V → Type 0) where
  pub defs_named : (op : Op V) → OpNamed N AnyBlock op → AllNamed N (defs op)
  defs_named (Const v n) h = (h, tt)
  defs_named (Calc a w v x y) h = (h.0, tt)
  defs_named (Emit x) h = tt
  defs_named (Call vs c xs) h = h.0
  defs_named (Branch s xs e es) h = tt
  defs_named (Return xs) h = tt

  list_replaced : (s : V → V) → ((x : V) → N x → N (s x)) → (xs : List V) → AllNamed N xs → AllNamed N (map s xs)
  list_replaced s to [] h = tt
  list_replaced s to (x ∷ xs) h = (to x h.0, list_replaced s to xs h.1)

  edges_replaced : (s : V → V) → ((x : V) → N x → N (s x)) → (es : List (Edge V)) → AllEdges (EdgeNamed N AnyBlock) es →
      AllEdges (EdgeNamed N AnyBlock) (map (replace_edge s) es)
  edges_replaced s to [] h = tt
  edges_replaced s to (e ∷ es) h = ((tt, list_replaced s to e.forwards h.0.1), edges_replaced s to es h.1)

  ops_replaced : (s : V → V) → ((x : V) → N x → N (s x)) → (ops : List (Op V)) → OpsNamed N AnyBlock ops →
      OpsNamed N AnyBlock (map (replace_op s) ops)
  ops_replaced s to [] h = tt
  ops_replaced s to (Const v n ∷ ops) h = (h.0, ops_replaced s to ops h.1)
  ops_replaced s to (Calc a w v x y ∷ ops) h = ((h.0.0, to x h.0.1, to y h.0.2), ops_replaced s to ops h.1)
  ops_replaced s to (Emit x ∷ ops) h = (to x h.0, ops_replaced s to ops h.1)
  ops_replaced s to (Call vs c xs ∷ ops) h = ((h.0.0, list_replaced s to xs h.0.1), ops_replaced s to ops h.1)
  ops_replaced s to (Branch t xs e es ∷ ops) h = (
    (list_replaced s to xs h.0.0, edges_replaced s to (e ∷ es) h.0.1),
    ops_replaced s to ops h.1,
  )
  ops_replaced s to (Return xs ∷ ops) h = (list_replaced s to xs h.0, ops_replaced s to ops h.1)

  pub replaced_named : (s : V → V) → ((x : V) → N x → N (s x)) → (f : Option (Fun V)) → AreNamed N f →
      AreNamed N (replace s f)
  replaced_named s to f h = record {
    ops = λ b. subst (OpsNamed N AnyBlock) (sym (replace_left s f b 0)) (ops_replaced s to (left_in f b 0) (h.ops b));
    arguments = λ b. subst (AllNamed N) (sym (replace_takes s f b)) (h.arguments b);
  }

  module _ (d : V → Bool) where
    live_named : (vs : List V) → AllNamed N vs → AllNamed N (live d vs)
    live_named [] h = tt
    live_named (v ∷ vs) h = by_test (d v) (live_named vs h.1)
      where
        by_test : (b : Bool) → AllNamed N (live d vs) → AllNamed N (if b then live d vs else v ∷ live d vs)
        by_test true ih = ih
        by_test false ih = (h.0, ih)

    pick_named : (ts gs : List V) → AllNamed N gs → AllNamed N (pick d ts gs)
    pick_named [] gs h = h
    pick_named (t ∷ ts) [] h = tt
    pick_named (t ∷ ts) (g ∷ gs) h = by_test (d t) (pick_named ts gs h.1)
      where
        by_test : (b : Bool) → AllNamed N (pick d ts gs) → AllNamed N (if b then pick d ts gs else g ∷ pick d ts gs)
        by_test true ih = ih
        by_test false ih = (h.0, ih)

    module _ (g : Option (Fun V)) where
      edges_thinned : (es : List (Edge V)) → AllEdges (EdgeNamed N AnyBlock) es →
          AllEdges (EdgeNamed N AnyBlock) (map (thin_edge g d) es)
      edges_thinned [] h = tt
      edges_thinned (e ∷ es) h = ((tt, pick_named (arguments_in g e.target) e.forwards h.0.1), edges_thinned es h.1)

      op_thinned : (op : Op V) → OpNamed N AnyBlock op → OpNamed N AnyBlock (thin_op g d op)
      op_thinned (Const v n) h = h
      op_thinned (Calc a w v x y) h = h
      op_thinned (Emit x) h = h
      op_thinned (Call vs c xs) h = h
      op_thinned (Branch s xs e es) h = (h.0, edges_thinned (e ∷ es) h.1)
      op_thinned (Return xs) h = h

      ops_thinned : (ops : List (Op V)) → OpsNamed N AnyBlock ops → OpsNamed N AnyBlock (thin_ops g d ops)
      ops_thinned [] h = tt
      ops_thinned (op ∷ ops) h = by_test (goes d op) (ops_thinned ops h.1)
        where
          by_test : (b : Bool) → OpsNamed N AnyBlock (thin_ops g d ops) →
              OpsNamed N AnyBlock (if b then thin_ops g d ops else thin_op g d op ∷ thin_ops g d ops)
          by_test true ih = ih
          by_test false ih = (op_thinned op h.0, ih)

    pub thinned_named : (f : Option (Fun V)) → AreNamed N f → AreNamed N (thin d f)
    thinned_named f h = record {
      ops = λ b. subst (OpsNamed N AnyBlock) (sym (thin_left d f b)) (ops_thinned f (left_in f b 0) (h.ops b));
      arguments = λ b. subst (AllNamed N) (sym (thin_takes d f b)) (live_named (arguments_in f b) (h.arguments b));
    }

  module _ (j : ℕ → Bool) where
    join_named : (n : ℕ → List (Op V)) → ((t : ℕ) → OpsNamed N AnyBlock (n t)) → (ops : List (Op V)) →
        OpsNamed N AnyBlock ops → OpsNamed N AnyBlock (join_ops j n ops)
    join_named n q [] h = tt
    join_named n q (Const v k ∷ ops) h = (h.0, join_named n q ops h.1)
    join_named n q (Calc a w v x y ∷ ops) h = (h.0, join_named n q ops h.1)
    join_named n q (Emit x ∷ ops) h = (h.0, join_named n q ops h.1)
    join_named n q (Call vs c xs ∷ ops) h = (h.0, join_named n q ops h.1)
    join_named n q (Branch s xs e [] ∷ ops) h = by_test (j e.target) (join_named n q ops h.1)
      where
        by_test : (b : Bool) → OpsNamed N AnyBlock (join_ops j n ops) →
            OpsNamed N AnyBlock (if b then n e.target else Branch s xs e [] ∷ join_ops j n ops)
        by_test true ih = q e.target
        by_test false ih = (h.0, ih)
    join_named n q (Branch s xs e (x ∷ es) ∷ ops) h = (h.0, join_named n q ops h.1)
    join_named n q (Return xs ∷ ops) h = (h.0, join_named n q ops h.1)

    chain_named : (g : Option (Fun V)) → AreNamed N g → (k : ℕ) (ops : List (Op V)) → OpsNamed N AnyBlock ops →
        OpsNamed N AnyBlock (joined j g k ops)
    chain_named g a zero ops h = join_named (λ t. []) (λ t. tt) ops h
    chain_named g a (suc k) ops h = join_named (λ t. joined j g k (left_in g t 0))
        (λ t. chain_named g a k (left_in g t 0) (a.ops t)) ops h

    pub joined_named : (k : ℕ) (f : Option (Fun V)) → AreNamed N f → AreNamed N (join_fun j k f)
    joined_named k f h = record {
      ops = λ b. subst (OpsNamed N AnyBlock) (sym (join_left j k f b)) (chain_named f h k (left_in f b 0) (h.ops b));
      arguments = λ b. subst (AllNamed N) (sym (join_takes j k f b)) (h.arguments b);
    }

  module _ (st : ℕ → Bool) where
    edges_retargeted : (k : ℕ → ℕ) (es : List (Edge V)) → AllEdges (EdgeNamed N AnyBlock) es →
        AllEdges (EdgeNamed N AnyBlock) (map (retarget_edge k) es)
    edges_retargeted k [] h = tt
    edges_retargeted k (e ∷ es) h = ((tt, h.0.1), edges_retargeted k es h.1)

    op_retargeted : (k : ℕ → ℕ) (op : Op V) → OpNamed N AnyBlock op → OpNamed N AnyBlock (retarget k op)
    op_retargeted k (Const v n) h = h
    op_retargeted k (Calc a w v x y) h = h
    op_retargeted k (Emit x) h = h
    op_retargeted k (Call vs c xs) h = h
    op_retargeted k (Branch s xs e es) h = (h.0, edges_retargeted k (e ∷ es) h.1)
    op_retargeted k (Return xs) h = h

    ops_retargeted : (k : ℕ → ℕ) (ops : List (Op V)) → OpsNamed N AnyBlock ops →
        OpsNamed N AnyBlock (map (retarget k) ops)
    ops_retargeted k [] h = tt
    ops_retargeted k (op ∷ ops) h = (op_retargeted k op h.0, ops_retargeted k ops h.1)

    pub kept_named : (f : Option (Fun V)) → AreNamed N f → AreNamed N (keep st f)
    kept_named f h = record {
      ops = λ b.
          ⊎_elim
          (λ q. subst (OpsNamed N AnyBlock) (sym q.0) tt)
          (λ (w : Was st b).
          subst (λ c. OpsNamed N AnyBlock (left_in (keep st f) c 0)) (sym w.is)
          (subst (OpsNamed N AnyBlock) (sym (keep_left st f w.old w.kept))
          (ops_retargeted (at st) (left_in f w.old 0) (h.ops w.old))))
          (was st f b);
      arguments = λ b.
          ⊎_elim
          (λ q. subst (AllNamed N) (sym q.1) tt)
          (λ (w : Was st b).
          subst (λ c. AllNamed N (arguments_in (keep st f) c)) (sym w.is)
          (subst (AllNamed N) (sym (keep_takes st f w.old w.kept)) (h.arguments w.old)))
          (was st f b);
    }

-- 2. numbering

-- two ways to name that agree on the set
module _ {V W : Type 0} (N : V → Type 0) (g h : V → W) (same : (x : V) → N x → g x ≡ h x) where
  list_same : (xs : List V) → AllNamed N xs → map g xs ≡ map h xs
  list_same [] a = refl
  list_same (x ∷ xs) a = λ i. same x a.0 i ∷ list_same xs a.1 i

  edge_same : (e : Edge V) → EdgeNamed N AnyBlock e → rename_edge g same_block e ≡ rename_edge h same_block e
  edge_same e a = ap (λ l. record { target = e.target; forwards = l }) (list_same e.forwards a.1)

  edges_same : (es : List (Edge V)) → AllEdges (EdgeNamed N AnyBlock) es →
      map (rename_edge g same_block) es ≡ map (rename_edge h same_block) es
  edges_same [] a = refl
  edges_same (e ∷ es) a = λ i. edge_same e a.0 i ∷ edges_same es a.1 i

  op_same : (op : Op V) → OpNamed N AnyBlock op → rename_op g same_block op ≡ rename_op h same_block op
  op_same (Const v n) a = ap (λ z. Const z n) (same v a)
  op_same (Calc o w v x y) a = λ i. Calc o w (same v a.0 i) (same x a.1 i) (same y a.2 i)
  op_same (Emit x) a = ap Emit (same x a)
  op_same (Call vs c xs) a = λ i. Call (list_same vs a.0 i) c (list_same xs a.1 i)
  op_same (Branch s xs e es) a = λ i. Branch s (list_same xs a.0 i) (edge_same e a.1.0 i) (edges_same es a.1.1 i)
  op_same (Return xs) a = ap Return (list_same xs a)

  ops_same : (ops : List (Op V)) → OpsNamed N AnyBlock ops →
      map (rename_op g same_block) ops ≡ map (rename_op h same_block) ops
  ops_same [] a = refl
  ops_same (op ∷ ops) a = λ i. op_same op a.0 i ∷ ops_same ops a.1 i

  blocks_same : (ks : List (Block V)) → ((b : ℕ) → OpsNamed N AnyBlock (left_in (Some ks) b 0)) →
      ((b : ℕ) → AllNamed N (arguments_in (Some ks) b)) → map (rename_block g) ks ≡ map (rename_block h) ks
  blocks_same [] o a = refl
  blocks_same (k ∷ ks) o a = λ i. record { arguments = list_same k.arguments (a 0) i; ops = ops_same k.ops (o 0) i } ∷
      blocks_same ks (λ b. o (suc b)) (λ b. a (suc b)) i

module _ {V W : Type 0} (same : V → V → Bool) (other : W → W → Bool) (r : V → W) (N : V → Type 0)
    (apart : (x y : V) → N x → N y → other (r x) (r y) ≡ same x y) where
  index_on : (v : V) → N v → (xs : List V) → AllNamed N xs → index_of other (r v) (map r xs) ≡ index_of same v xs
  index_on v n [] a = refl
  index_on v n (x ∷ xs) a =
      ap (λ b. if b then Some 0 else option_map suc (index_of other (r v) (map r xs))) (apart v x n a.0)
      ∙ ap (λ o. if same v x then Some 0 else option_map suc o) (index_on v n xs a.1)

  defs_on : (op : Op V) → defs (rename_op r same_block op) ≡ map r (defs op)
  defs_on (Const v n) = refl
  defs_on (Calc a w v x y) = refl
  defs_on (Emit x) = refl
  defs_on (Call vs c xs) = refl
  defs_on (Branch s xs e es) = refl
  defs_on (Return xs) = refl

  ops_on : (b o : ℕ) (v : V) → N v → (ops : List (Op V)) → OpsNamed N AnyBlock ops →
      place_in_ops other b o (r v) (map (rename_op r same_block) ops) ≡ place_in_ops same b o v ops
  ops_on b o v n [] h = refl
  ops_on b o v n (op ∷ ops) h =
      ap (λ l. or_else (option_map (Res b o) (index_of other (r v) l))
      (place_in_ops other b (suc o) (r v) (map (rename_op r same_block) ops))) (defs_on op)
      ∙ (λ i. or_else (option_map (Res b o) (index_on v n (defs op) (defs_named N op h.0) i))
      (ops_on b (suc o) v n ops h.1 i))

  pub blocks_on : (b : ℕ) (v : V) → N v → (ks : List (Block V)) → ((c : ℕ) → OpsNamed N AnyBlock (left_in (Some ks) c 0)) →
      ((c : ℕ) → AllNamed N (arguments_in (Some ks) c)) →
      place_in_blocks other b (r v) (map (rename_block r) ks) ≡ place_in_blocks same b v ks
  blocks_on b v n [] o a = refl
  blocks_on b v n (k ∷ ks) o a =
      λ i. or_else (option_map (Arg b) (index_on v n k.arguments (a 0) i))
      (or_else (ops_on b 0 v n k.ops (o 0) i) (blocks_on (suc b) v n ks (λ c. o (suc c)) (λ c. a (suc c)) i))

  -- a function under names that are told apart as before has the same numbering
  pub placed_on : (f : Option (Fun V)) → AreNamed N f → place_fun other (rename_fun r f) ≡ place_fun same f
  placed_on None h = refl
  placed_on (Some f) h =
      ap Some
      (blocks_twice (place_of other (map (rename_block r) f)) r f
      ∙ blocks_same N (λ x. place_of other (map (rename_block r) f) (r x)) (place_of same f)
      (λ x n. ap (λ o. unwrap_or o (Arg 0 0)) (blocks_on 0 x n f h.ops h.arguments)) f h.ops h.arguments)
