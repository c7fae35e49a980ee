-- The blocks of a set that no edge leaves, alone.
use Rattle.std.proofs.Common.{◌≡◌, ◌⊎◌, ⊎_elim, inl, inr, ℕ, zero, suc, ◌+◌, ◌<◌, Bool, true, false, List, [], ◌∷◌, ◌++◌, length, Option, Some, None, refl, sym, ap, ◌∙◌, subst, arith}
use Rattle.std.specs.Prelude.{map, slice_get, option_map, if◌then◌else◌}
use Rattle.std.proofs.lemmas.Option.{slice_get-map}
use Rattle.kit_behaviour.proofs.Behaviour.SizeLemmas.{slice_in_range, out_of_range}
use Rattle.kit_behaviour.specs.Machine.{Edge, Op, Const, Calc, Emit, Call, Branch, Return, Block, Fun, FunctionsByPath, AllEdges, ops_left, left_in, arguments_of, arguments_in, size, Alike}
use Rattle.kit_behaviour.specs.Renaming.{rename_edge, rename_op, AllNamed, EdgeNamed, OpNamed, OpsNamed, Renames}
use Rattle.kit_behaviour.specs.Scopes.{AllIn, defs, all_defs, entry_values, at_start, SameLength, OpsWith, BlocksWith}
use Rattle.kit_behaviour.specs.Facts.{all_forwarded}
use Rattle.kit_behaviour.specs.Rules.{operands, is_terminator, EndsWell, EdgeFits, EdgesOfOpFit, AllEdgesFit, from, OpsPlaced, Rules}
use Rattle.kit_behaviour.specs.Places.{Place, Arg, Res}
use Rattle.kit_behaviour.specs.SimplifiedBlocks.{edges_of, all_edges, between, retarget_edge, retarget, retarget_block, keep_blocks, keep}
use Rattle.kit_behaviour.proofs.Behaviour.EdgeLemmas.{edges_map, edges_two}
use Rattle.kit_behaviour.proofs.Behaviour.RenamingLemmas.{renamed_alike}
use Rattle.kit_behaviour.proofs.Numbering.NumberingBehaviour.{block_of, name_op, name_in}
use Rattle.kit_behaviour.proofs.Numbering.NumberingRules.{name_at, Distinct, DistinctOn, Shaped, ShapedOn}

-- 1. the operations under other block numbers

pub map_same_names : {V : Type 0} (xs : List V) → map (λ v. v) xs ≡ xs
map_same_names [] = refl
map_same_names (x ∷ xs) = ap (λ l. x ∷ l) (map_same_names xs)

edge_same : {V : Type 0} (k : ℕ → ℕ) (e : Edge V) → rename_edge (λ v. v) k e ≡ retarget_edge k e
edge_same k e = ap (λ l. record { target = k e.target; forwards = l }) (map_same_names e.forwards)

edges_same : {V : Type 0} (k : ℕ → ℕ) (es : List (Edge V)) → map (rename_edge (λ v. v) k) es ≡ map (retarget_edge k) es
edges_same k [] = refl
edges_same k (e ∷ es) = ap (λ y. y ∷ map (rename_edge (λ v. v) k) es) (edge_same k e) ∙ ap (λ l. retarget_edge k e ∷ l) (edges_same k es)

op_same : {V : Type 0} (k : ℕ → ℕ) (op : Op V) → rename_op (λ v. v) k op ≡ retarget k op
op_same k (Const r n) = refl
op_same k (Calc a w r x y) = refl
op_same k (Emit x) = refl
op_same k (Call rs c xs) = ap (λ l. Call l c (map (λ v. v) xs)) (map_same_names rs) ∙ ap (Call rs c) (map_same_names xs)
op_same k (Branch s xs e es) =
    ap (λ l. Branch s l (rename_edge (λ v. v) k e) (map (rename_edge (λ v. v) k) es)) (map_same_names xs)
    ∙ ap (λ y. Branch s xs y (map (rename_edge (λ v. v) k) es)) (edge_same k e)
    ∙ ap (Branch s xs (retarget_edge k e)) (edges_same k es)
op_same k (Return xs) = ap Return (map_same_names xs)

ops_same : {V : Type 0} (k : ℕ → ℕ) (ops : List (Op V)) → map (rename_op (λ v. v) k) ops ≡ map (retarget k) ops
ops_same k [] = refl
ops_same k (op ∷ ops) = ap (λ o. o ∷ map (rename_op (λ v. v) k) ops) (op_same k op) ∙ ap (λ l. retarget k op ∷ l) (ops_same k ops)

module _ {V : Type 0} (k : ℕ → ℕ) where
  defs_kept : (op : Op V) → defs (retarget k op) ≡ defs op
  defs_kept (Const r n) = refl
  defs_kept (Calc a w r x y) = refl
  defs_kept (Emit x) = refl
  defs_kept (Call rs c xs) = refl
  defs_kept (Branch s xs e es) = refl
  defs_kept (Return xs) = refl

  all_defs_kept : (ops : List (Op V)) → all_defs (map (retarget k) ops) ≡ all_defs ops
  all_defs_kept [] = refl
  all_defs_kept (op ∷ ops) = ap (λ l. l ++ all_defs (map (retarget k) ops)) (defs_kept op) ∙ ap (λ l. defs op ++ l) (all_defs_kept ops)

  gives_kept : (es : List (Edge V)) → all_forwarded (map (retarget_edge k) es) ≡ all_forwarded es
  gives_kept [] = refl
  gives_kept (e ∷ es) = ap (λ l. e.forwards ++ l) (gives_kept es)

  operands_kept : (op : Op V) → operands (retarget k op) ≡ operands op
  operands_kept (Const r n) = refl
  operands_kept (Calc a w r x y) = refl
  operands_kept (Emit x) = refl
  operands_kept (Call rs c xs) = refl
  operands_kept (Branch s xs e es) = ap (λ l. xs ++ l) (gives_kept (e ∷ es))
  operands_kept (Return xs) = refl

  terminator_kept : (op : Op V) → is_terminator (retarget k op) ≡ is_terminator op
  terminator_kept (Const r n) = refl
  terminator_kept (Calc a w r x y) = refl
  terminator_kept (Emit x) = refl
  terminator_kept (Call rs c xs) = refl
  terminator_kept (Branch s xs e es) = refl
  terminator_kept (Return xs) = refl

  pub ends_kept : (ops : List (Op V)) → EndsWell ops → EndsWell (map (retarget k) ops)
  ends_kept [] e = e
  ends_kept (op ∷ []) e = terminator_kept op ∙ e
  ends_kept (op ∷ next ∷ ops) e = (terminator_kept op ∙ e.0, ends_kept (next ∷ ops) e.1)

  sees_kept : (a : List V) (ops : List (Op V)) → OpsWith (λ a op. AllIn (operands op) a) a ops → OpsWith (λ a op. AllIn (operands op) a) a (map (retarget k) ops)
  sees_kept a [] s = tt
  sees_kept a (op ∷ ops) s = (
    subst (λ l. AllIn l a) (sym (operands_kept op)) s.0,
    subst (λ l. OpsWith (λ a op. AllIn (operands op) a) (l ++ a) (map (retarget k) ops)) (sym (defs_kept op)) (sees_kept (defs op ++ a) ops s.1),
  )

pub edges_front : {V : Type 0} (P : Edge V → Type 0) (xs ys : List (Edge V)) → AllEdges P (xs ++ ys) → AllEdges P xs
edges_front P [] ys h = tt
edges_front P (x ∷ xs) ys h = (h.0, edges_front P xs ys h.1)

pub edges_rest : {V : Type 0} (P : Edge V → Type 0) (xs ys : List (Edge V)) → AllEdges P (xs ++ ys) → AllEdges P ys
edges_rest P [] ys h = h
edges_rest P (x ∷ xs) ys h = edges_rest P xs ys h.1

-- 2. where the blocks of the set stand

module _ (r : ℕ → Bool) where
  pub record KeptAt (i b' : ℕ) : Type 0 where
    pub n : ℕ
    pub kept : r (i + n) ≡ true
    pub is : b' ≡ between r i n

  abbrev pub at : ℕ → ℕ
  at b = between r 0 b

  zero_add : (b : ℕ) → r b ≡ true → r (0 + b) ≡ true
  zero_add b e = let z : 0 + b ≡ b = omega arith in ap r z ∙ e

  -- a block that is left was one of the set
  pub record Was (b' : ℕ) : Type 0 where
    pub old : ℕ
    pub kept : r old ≡ true
    pub is : b' ≡ at old

  abbrev shift : Place → Place
  shift (Arg b i) = Arg (at b) i
  shift (Res b o i) = Res (at b) o i

-- a block that stands after the others went stood before
pub record Stood (r : ℕ → Bool) (n b' : ℕ) : Type 0 where
  pub old : ℕ
  pub kept : r old ≡ true
  pub is : b' ≡ at r old
  pub before : old < n

module _ {V : Type 0} (r : ℕ → Bool) where
  pub keep_at : (k : ℕ → ℕ) (i n : ℕ) (ks : List (Block V)) → r (i + n) ≡ true → slice_get (keep_blocks r k i ks) (between r i n) ≡ option_map (retarget_block k) (slice_get ks n)
  keep_at k i n [] e = refl
  keep_at k i zero (b ∷ bs) e =
      let z : i ≡ i + 0 = omega arith in
      ap (λ t. slice_get (if t then retarget_block k b ∷ keep_blocks r k (suc i) bs else keep_blocks r k (suc i) bs) 0) (ap r z ∙ e)
  keep_at k i (suc n) (b ∷ bs) e = by_test (r i) refl (let s : suc i + n ≡ i + suc n = omega arith in keep_at k (suc i) n bs (ap r s ∙ e))
    where
      by_test : (t : Bool) → r i ≡ t → slice_get (keep_blocks r k (suc i) bs) (between r (suc i) n) ≡ option_map (retarget_block k) (slice_get bs n) → slice_get (keep_blocks r k i (b ∷ bs)) (between r i (suc n)) ≡ option_map (retarget_block k) (slice_get bs n)
      by_test true q ih = ap (λ t. slice_get (if t then retarget_block k b ∷ keep_blocks r k (suc i) bs else keep_blocks r k (suc i) bs) (if t then suc (between r (suc i) n) else between r (suc i) n)) q ∙ ih
      by_test false q ih = ap (λ t. slice_get (if t then retarget_block k b ∷ keep_blocks r k (suc i) bs else keep_blocks r k (suc i) bs) (if t then suc (between r (suc i) n) else between r (suc i) n)) q ∙ ih

  pub keep_from : (k : ℕ → ℕ) (i b' : ℕ) (ks : List (Block V)) → (slice_get (keep_blocks r k i ks) b' ≡ None) ⊎ KeptAt r i b'
  keep_from k i b' [] = inl refl
  keep_from k i b' (b ∷ bs) = by_test (r i) refl b' refl (λ c. keep_from k (suc i) c bs)
    where
      by_test : (t : Bool) → r i ≡ t → (c : ℕ) → b' ≡ c → ((c : ℕ) → (slice_get (keep_blocks r k (suc i) bs) c ≡ None) ⊎ KeptAt r (suc i) c) → (slice_get (keep_blocks r k i (b ∷ bs)) b' ≡ None) ⊎ KeptAt r i b'
      by_test true q zero e ih = let z : i + 0 ≡ i = omega arith in inr (record { n = 0; kept = ap r z ∙ q; is = e })
      by_test true q (suc c) e ih =
          ⊎_elim
          (λ h. inl (ap (slice_get (keep_blocks r k i (b ∷ bs))) e ∙ ap (λ t. slice_get (if t then retarget_block k b ∷ keep_blocks r k (suc i) bs else keep_blocks r k (suc i) bs) (suc c)) q ∙ h))
          (λ (h : KeptAt r (suc i) c). let s : i + suc h.n ≡ suc i + h.n = omega arith in inr (record { n = suc h.n; kept = ap r s ∙ h.kept; is = e ∙ ap suc h.is ∙ sym (ap (λ t. if t then suc (between r (suc i) h.n) else between r (suc i) h.n) q) }))
          (ih c)
      by_test false q c e ih =
          ⊎_elim
          (λ h. inl (ap (λ t. slice_get (if t then retarget_block k b ∷ keep_blocks r k (suc i) bs else keep_blocks r k (suc i) bs) b') q ∙ h))
          (λ (h : KeptAt r (suc i) b'). let s : i + suc h.n ≡ suc i + h.n = omega arith in inr (record { n = suc h.n; kept = ap r s ∙ h.kept; is = h.is ∙ sym (ap (λ t. if t then suc (between r (suc i) h.n) else between r (suc i) h.n) q) }))
          (ih b')

  left_block : (o : Option (Block V)) → ops_left (option_map (retarget_block (at r)) o) 0 ≡ map (retarget (at r)) (ops_left o 0)
  left_block None = refl
  left_block (Some b) = refl

  takes_block : (o : Option (Block V)) → arguments_of (option_map (retarget_block (at r)) o) ≡ arguments_of o
  takes_block None = refl
  takes_block (Some b) = refl

  pub keep_left : (f : Option (Fun V)) (b : ℕ) → r b ≡ true → left_in (keep r f) ((at r) b) 0 ≡ map (retarget (at r)) (left_in f b 0)
  keep_left None b e = refl
  keep_left (Some f) b e = ap (λ o. ops_left o 0) (keep_at (at r) 0 b f (zero_add r b e)) ∙ left_block (slice_get f b)

  pub keep_takes : (f : Option (Fun V)) (b : ℕ) → r b ≡ true → arguments_in (keep r f) ((at r) b) ≡ arguments_in f b
  keep_takes None b e = refl
  keep_takes (Some f) b e = ap arguments_of (keep_at (at r) 0 b f (zero_add r b e)) ∙ takes_block (slice_get f b)

  pub was : (f : Option (Fun V)) (b' : ℕ) → ((left_in (keep r f) b' 0 ≡ []) × (arguments_in (keep r f) b' ≡ [])) ⊎ Was r b'
  was None b' = inl (refl, refl)
  was (Some f) b' =
      ⊎_elim
      (λ h. inl (ap (λ o. ops_left o 0) h, ap arguments_of h))
      (λ (h : KeptAt r 0 b'). let z : 0 + h.n ≡ h.n = omega arith in inr (record { old = h.n; kept = ap r (sym z) ∙ h.kept; is = h.is }))
      (keep_from (at r) 0 b' f)

  pub stood : (f : Option (Fun V)) (b' : ℕ) → b' < size (keep r f) → Stood r (size f) b'
  stood None b' l = absurd (omega (arith, l))
  stood (Some f) b' l =
      ⊎_elim
      (λ h. absurd (slice_in_range (keep_blocks r (at r) 0 f) b' l h))
      (λ (w : KeptAt r 0 b').
      let z : 0 + w.n ≡ w.n = omega arith in
      record {
        old = w.n;
        kept = ap r (sym z) ∙ w.kept;
        is = w.is;
        before = out_of_range f w.n (λ e. slice_in_range (keep_blocks r (at r) 0 f) b' l (ap (slice_get (keep_blocks r (at r) 0 f)) w.is ∙ keep_at (at r) 0 w.n f w.kept ∙ ap (option_map (retarget_block (at r))) e));
      })
      (keep_from (at r) 0 b' f)

  -- a block of the set is one of those that are left
  pub keep_range : (f : Option (Fun V)) (b : ℕ) → r b ≡ true → b < size f → (at r) b < size (keep r f)
  keep_range None b e l = absurd (omega (arith, l))
  keep_range (Some f) b e l =
      out_of_range (keep_blocks r (at r) 0 f) ((at r) b) (λ q. some (slice_get f b) refl (sym (keep_at (at r) 0 b f (zero_add r b e)) ∙ q))
    where
      some : (o : Option (Block V)) → slice_get f b ≡ o → option_map (retarget_block (at r)) (slice_get f b) ≡ None → ⊥
      some None w q = slice_in_range f b l w
      some (Some k) w q = let bad : Some (retarget_block (at r) k) ≡ None = sym (ap (option_map (retarget_block (at r))) w) ∙ q in cc bad

  -- 3. names

  name_op_kept : (o : Option (Op V)) (i : ℕ) → name_op (option_map (retarget (at r)) o) i ≡ name_op o i
  name_op_kept None i = refl
  name_op_kept (Some op) i = ap (λ l. slice_get l i) (defs_kept (at r) op)

  name_block : (o : Option (Block V)) (n b' : ℕ) (a : Place) (v : V) → block_of a ≡ b' → b' ≡ (at r) n → name_in (option_map (retarget_block (at r)) o) a ≡ Some v → (c : Place) × (block_of c ≡ n) × (name_in o c ≡ Some v) × (a ≡ (shift r) c)
  name_block None n b' a v eb e h = absurd (cc h)
  name_block (Some k) n b' (Arg b i) v eb e h = (Arg n i, refl, h, ap (λ x. Arg x i) (eb ∙ e))
  name_block (Some k) n b' (Res b o i) v eb e h =
      (Res n o i, refl, sym (ap (λ z. name_op z i) (slice_get-map (retarget (at r)) k.ops o) ∙ name_op_kept (slice_get k.ops o) i) ∙ h, ap (λ x. Res x o i) (eb ∙ e))

  name_kept : (f : Fun V) (a : Place) (v : V) → name_at (keep r (Some f)) a ≡ Some v → (c : Place) × (name_at (Some f) c ≡ Some v) × (a ≡ (shift r) c) × (r (block_of c) ≡ true)
  name_kept f a v h =
      ⊎_elim
      (λ z. let bad : None ≡ Some v = sym (ap (λ o. name_in o a) z) ∙ h in absurd (cc bad))
      (λ (w : KeptAt r 0 (block_of a)).
      let k = keep_at (at r) 0 w.n f w.kept in
      let g = name_block (slice_get f w.n) w.n (block_of a) a v refl w.is (sym (ap (λ o. name_in o a) (ap (slice_get (keep_blocks r (at r) 0 f)) w.is ∙ k)) ∙ h) in
      let z : 0 + w.n ≡ w.n = omega arith in
      (g.0, ap (λ n. name_in (slice_get f n) g.0) g.1 ∙ g.2, g.3, ap r (g.1 ∙ sym z) ∙ w.kept))
      (keep_from (at r) 0 (block_of a) f)

  -- where each name of the blocks of the set has one place among these, so has each that is left
  pub keep_distinct_on : (f : Option (Fun V)) → DistinctOn r f → Distinct (keep r f)
  keep_distinct_on None d v a b ea eb = absurd (cc ea)
  keep_distinct_on (Some f) d v a b ea eb =
      let x = name_kept f a v ea in
      let y = name_kept f b v eb in
      x.2 ∙ ap (shift r) (d v x.0 y.0 x.3 y.3 x.1 y.1) ∙ sym y.2

  pub keep_distinct : (f : Option (Fun V)) → Distinct f → Distinct (keep r f)
  keep_distinct f d = keep_distinct_on f (λ v a b ra rb ea eb. d v a b ea eb)

  -- 4. rules and behaviour

  module _ (f : Option (Fun V)) (entry : r 0 ≡ true) (stays : (b : ℕ) → r b ≡ true → AllEdges (λ x. r x.target ≡ true) (all_edges (left_in f b 0))) where
    entry_kept : entry_values (keep r f) ≡ entry_values f
    entry_kept =
        ap (λ l. l ++ all_defs (left_in (keep r f) 0 0)) (keep_takes f 0 entry)
        ∙ ap (λ l. arguments_in f 0 ++ l) (ap all_defs (keep_left f 0 entry) ∙ all_defs_kept (at r) (left_in f 0 0))

    start_kept : (b : ℕ) → r b ≡ true → at_start (keep r f) ((at r) b) ≡ at_start f b
    start_kept zero e = keep_takes f 0 entry
    start_kept (suc b) e =
        let z : (at r) (suc b) ≡ suc (between r 1 b) = ap (λ t. if t then suc (between r 1 b) else between r 1 b) entry in
        ap (at_start (keep r f)) z
        ∙ ap (λ l. l ++ entry_values (keep r f)) (ap (arguments_in (keep r f)) (sym z) ∙ keep_takes f (suc b) e)
        ∙ ap (λ l. arguments_in f (suc b) ++ l) entry_kept

    op_fits : (op : Op V) → AllEdges (λ x. r x.target ≡ true) (edges_of op) → EdgesOfOpFit f op → EdgesOfOpFit (keep r f) (retarget (at r) op)
    op_fits (Branch s xs e es) q h =
        edges_map (λ x. (r x.target ≡ true) × EdgeFits f x) (EdgeFits (keep r f)) (retarget_edge (at r)) (λ x c. record {
          count = subst (λ l. SameLength l x.forwards) (sym (keep_takes f x.target c.0)) c.1.count;
          leads = keep_range f x.target c.0 c.1.leads;
        }) (e ∷ es) (edges_two (λ x. r x.target ≡ true) (EdgeFits f) (λ x. (r x.target ≡ true) × EdgeFits f x) (λ x a b. (a, b)) (e ∷ es) q h)
    op_fits (Const v n) q h = tt
    op_fits (Calc a w v x y) q h = tt
    op_fits (Emit x) q h = tt
    op_fits (Call vs c xs) q h = tt
    op_fits (Return xs) q h = tt

    ops_fit : (ops : List (Op V)) → AllEdges (λ x. r x.target ≡ true) (all_edges ops) → AllEdgesFit f ops → AllEdgesFit (keep r f) (map (retarget (at r)) ops)
    ops_fit [] q h = tt
    ops_fit (op ∷ ops) q h = (op_fits op (edges_front _ (edges_of op) (all_edges ops) q) h.0, ops_fit ops (edges_rest _ (edges_of op) (all_edges ops) q) h.1)

    -- what holds of no operations, and of those of each block of the set, holds of each block that is left
    each_left : (P : List V → List (Op V) → Type 0) → ((a : List V) → P a []) → ((b : ℕ) → r b ≡ true → P (at_start f b) (map (retarget (at r)) (left_in f b 0))) → (b' : ℕ) → P (at_start (keep r f) b') (left_in (keep r f) b' 0)
    each_left P none some b' =
        ⊎_elim
        (λ h. subst (P (at_start (keep r f) b')) (sym h.0) (none (at_start (keep r f) b')))
        (λ (w : Was r b').
        subst (λ c. P (at_start (keep r f) c) (left_in (keep r f) c 0)) (sym w.is)
        (subst (λ a. P a (left_in (keep r f) ((at r) w.old) 0)) (sym (start_kept w.old w.kept)) (subst (P (at_start f w.old)) (sym (keep_left f w.old w.kept)) (some w.old w.kept))))
        (was f b')

    -- each edge fits that is left
    pub keep_fits : ((b : ℕ) → r b ≡ true → AllEdgesFit f (left_in f b 0)) → (b' : ℕ) → AllEdgesFit (keep r f) (left_in (keep r f) b' 0)
    keep_fits s = each_left (λ a ops. AllEdgesFit (keep r f) ops) (λ a. tt) (λ b e. ops_fit (left_in f b 0) (stays b e) (s b e))

    pub keep_sees : ((b : ℕ) → r b ≡ true → OpsWith (λ a op. AllIn (operands op) a) (at_start f b) (left_in f b 0)) → BlocksWith (keep r f) (λ a op. AllIn (operands op) a)
    keep_sees s = each_left (OpsWith (λ a op. AllIn (operands op) a)) (λ a. tt) (λ b e. sees_kept (at r) (at_start f b) (left_in f b 0) (s b e))

    pub keep_shaped : ShapedOn r f → Shaped (keep r f)
    keep_shaped s =
        record {
          terminated = λ b' l.
              let w = stood f b' l in
              subst (λ c. EndsWell (left_in (keep r f) c 0)) (sym w.is) (subst EndsWell (sym (keep_left f w.old w.kept)) (ends_kept (at r) (left_in f w.old 0) (s.terminated w.old w.kept w.before)));
          sees = each_left (OpsWith (λ a op. AllIn (operands op) a)) (λ a. tt) (λ b e. sees_kept (at r) (at_start f b) (left_in f b 0) (s.sees b e));
          fits = each_left (λ a ops. AllEdgesFit (keep r f) ops) (λ a. tt) (λ b e. ops_fit (left_in f b 0) (stays b e) (s.fits b e));
        }

    abbrev Any : V → Type 0
    Any v = Unit {0}

    abbrev In_set : ℕ → Type 0
    In_set b = r b ≡ true

    all_any : (xs : List V) → AllNamed Any xs
    all_any [] = tt
    all_any (x ∷ xs) = (tt, all_any xs)

    op_any : (op : Op V) → AllEdges (λ x. r x.target ≡ true) (edges_of op) → OpNamed Any In_set op
    op_any (Const v n) q = tt
    op_any (Calc a w v x y) q = (tt, tt, tt)
    op_any (Emit x) q = tt
    op_any (Call vs c xs) q = (all_any vs, all_any xs)
    op_any (Branch s xs e es) q = (all_any xs, edges_two (λ x. r x.target ≡ true) (λ x. r x.target ≡ true) (EdgeNamed Any In_set) (λ x a b. (a, all_any x.forwards)) (e ∷ es) q q)
    op_any (Return xs) q = all_any xs

    ops_any : (ops : List (Op V)) → AllEdges (λ x. r x.target ≡ true) (all_edges ops) → OpsNamed Any In_set ops
    ops_any [] q = tt
    ops_any (op ∷ ops) q = (op_any op (edges_front _ (edges_of op) (all_edges ops) q), ops_any ops (edges_rest _ (edges_of op) (all_edges ops) q))

    pub keep_renames : Renames (λ v. v) (at r) Any In_set f (keep r f)
    keep_renames =
        record {
          entry_stays = refl;
          entry_in = entry;
          left = λ b e. keep_left f b e ∙ sym (ops_same (at r) (left_in f b 0));
          arguments = λ b e. keep_takes f b e ∙ sym (map_same_names (arguments_in f b));
          ops_named = λ b e. ops_any (left_in f b 0) (stays b e);
          takes_named = λ b e. all_any (arguments_in f b);
        }

abbrev pub kept : {V : Type 0} → (List ℕ → ℕ → Bool) → FunctionsByPath V → FunctionsByPath V
kept r p path = keep (r path) (p path)

pub keep_alike : {V : Type 0} (same : V → V → Bool) (p : FunctionsByPath V) (r : List ℕ → ℕ → Bool) → ((path : List ℕ) → r path 0 ≡ true) → ((path : List ℕ) (b : ℕ) → r path b ≡ true → AllEdges (λ x. r path x.target ≡ true) (all_edges (left_in (p path) b 0))) → Alike same same 1 p (kept r p)
keep_alike same p r entry stays =
    renamed_alike same same p (kept r p) (λ path v. v) (λ path. between (r path) 0) (λ path v. Unit {0}) (λ path b. r path b ≡ true) (λ path x y a b. refl) (λ path. keep_renames (r path) (p path) (entry path) (stays path))

-- 5. in a function that keeps the rules each name is at its place

from_at : (c : ℕ → Place) (i n k : ℕ) (v : Place) → slice_get (from c i n) k ≡ Some v → v ≡ c (i + k)
from_at c i zero k v e = absurd (cc e)
from_at c i (suc n) zero v e = let q : c i ≡ v = cc e in let z : i ≡ i + 0 = omega arith in sym q ∙ ap c z
from_at c i (suc n) (suc k) v e = let s : suc i + k ≡ i + suc k = omega arith in from_at c (suc i) n k v e ∙ ap c s

res_home : (b o : ℕ) (ops : List (Op Place)) (n i : ℕ) (v : Place) → OpsPlaced b o ops → name_op (slice_get ops n) i ≡ Some v → v ≡ Res b (o + n) i
res_home b o [] n i v h e = absurd (cc e)
res_home b o (op ∷ ops) zero i v h e =
    let z : o ≡ o + 0 = omega arith in let y : 0 + i ≡ i = omega arith in
    from_at (Res b o) 0 (length (defs op)) i v (ap (λ l. slice_get l i) (sym h.0) ∙ e) ∙ ap (Res b o) y ∙ ap (λ q. Res b q i) z
res_home b o (op ∷ ops) (suc n) i v h e = let s : suc o + n ≡ o + suc n = omega arith in res_home b (suc o) ops n i v h.1 e ∙ ap (λ q. Res b q i) s

pub rules_home : (f : Option (Fun Place)) → Rules f → (a v : Place) → name_at f a ≡ Some v → v ≡ a
rules_home None h a v e = absurd (cc e)
rules_home (Some f) h (Arg b i) v e = by_block (slice_get f b) (h.args b) e
  where
    by_block : (k : Option (Block Place)) → arguments_of k ≡ from (Arg b) 0 (length (arguments_of k)) → name_in k (Arg b i) ≡ Some v → v ≡ Arg b i
    by_block None q x = absurd (cc x)
    by_block (Some k) q x = let y : 0 + i ≡ i = omega arith in from_at (Arg b) 0 (length k.arguments) i v (ap (λ l. slice_get l i) (sym q) ∙ x) ∙ ap (Arg b) y
rules_home (Some f) h (Res b o i) v e = by_block (slice_get f b) (h.names b) e
  where
    by_block : (k : Option (Block Place)) → OpsPlaced b 0 (ops_left k 0) → name_in k (Res b o i) ≡ Some v → v ≡ Res b o i
    by_block None q x = absurd (cc x)
    by_block (Some k) q x = let y : 0 + o ≡ o = omega arith in res_home b 0 k.ops o i v q x ∙ ap (λ z. Res b z i) y

pub rules_distinct : (f : Option (Fun Place)) → Rules f → Distinct f
rules_distinct f h v a b ea eb = sym (rules_home f h a v ea) ∙ rules_home f h b v eb

pub rules_shaped : (f : Option (Fun Place)) → Rules f → Shaped f
rules_shaped f h = record { terminated = h.terminated; sees = h.sees; fits = h.fits }
