-- What is in scope is defined, so it has a place; scopes outlast the replacement of uses.
use Rattle.std.proofs.Common.{◌≡◌, ◌⊎◌, ⊎_elim, inl, inr, ℕ, zero, suc, Bool, true, false, List, [], ◌∷◌, ◌++◌, Option, Some, None, refl, sym, ap, ◌∙◌, subst}
use Rattle.std.specs.Prelude.{map, slice_get, if◌then◌else◌, option_map}
use Rattle.kit_behaviour.specs.Machine.{Edge, Op, Const, Calc, Emit, Call, Branch, Return, Block, Fun, ops_left, left_in, arguments_of, arguments_in}
use Rattle.kit_behaviour.specs.Renaming.{EdgeNamed, AllNamed, OpNamed, OpsNamed}
use Rattle.kit_behaviour.specs.Scopes.{In, AllIn, defs, all_defs, entry_values, at_start, SameLength, EdgeScoped, OpScoped, OpsWith, BlocksWith}
use Rattle.kit_behaviour.specs.Replacement.{replace_op, replace}
use Rattle.kit_behaviour.specs.Places.{Place, Arg, Res}
use Rattle.kit_behaviour.specs.Numbering.{index_of, or_else, place_in_ops, place_in_blocks, HasPlace, AnyBlock, NamesAreDefined}
use Rattle.kit_behaviour.proofs.Behaviour.FrameLemmas.{IsSameness}
use Rattle.kit_behaviour.proofs.Lattice.ReplacementBehaviour.{replace_left, replace_takes}
use Rattle.kit_behaviour.proofs.Propagation.ScopeLemmas.{in_split, in_append}
use Rattle.kit_behaviour.proofs.Behaviour.EdgeLemmas.{edges_each}

module _ {V : Type 0} (same : V → V → Bool) (law : IsSameness same) where
  index_has : (v : V) (xs : List V) → In v xs → (i : ℕ) × (index_of same v xs ≡ Some i)
  index_has v [] h = absurd h
  index_has v (x ∷ xs) h = by_test (same v x) refl (λ j. index_has v xs j)
    where
      by_test : (b : Bool) → same v x ≡ b → (In v xs → (i : ℕ) × (index_of same v xs ≡ Some i)) → (i : ℕ) × (index_of same v (x ∷ xs) ≡ Some i)
      by_test true t ih = (0, ap (λ b. if b then Some 0 else option_map suc (index_of same v xs)) t)
      by_test false t ih =
          let j : In v xs = ⊎_elim (λ e. let bad : true ≡ false = sym (law.same_true v) ∙ ap (same v) e ∙ t in absurd (cc bad)) (λ r. r) h in
          let r = ih j in
          (suc r.0, ap (λ b. if b then Some 0 else option_map suc (index_of same v xs)) t ∙ ap (option_map suc) r.1)

  abbrev Ops : ℕ → ℕ → V → List (Op V) → Type 0
  Ops b o v ops = (a : Place) × (place_in_ops same b o v ops ≡ Some a)

  ops_has : (b o : ℕ) (v : V) (ops : List (Op V)) → In v (all_defs ops) → Ops b o v ops
  ops_has b o v [] h = absurd h
  ops_has b o v (op ∷ ops) h = by_index (index_of same v (defs op)) refl (ops_has b (suc o) v ops)
    where
      by_index : (t : Option ℕ) → index_of same v (defs op) ≡ t → (In v (all_defs ops) → Ops b (suc o) v ops) → Ops b o v (op ∷ ops)
      by_index (Some i) t ih = (Res b o i, ap (λ u. or_else (option_map (Res b o) u) (place_in_ops same b (suc o) v ops)) t)
      by_index None t ih =
          let r = ⊎_elim (λ l. let w = index_has v (defs op) l in let bad : None ≡ Some w.0 = sym t ∙ w.1 in absurd (cc bad)) (λ j. ih j) (in_split v (defs op) (all_defs ops) h) in
          (r.0, ap (λ u. or_else (option_map (Res b o) u) (place_in_ops same b (suc o) v ops)) t ∙ r.1)

  abbrev Blocks : ℕ → V → List (Block V) → Type 0
  Blocks b v ks = (a : Place) × (place_in_blocks same b v ks ≡ Some a)

  -- by the block's parts
  head_has : (b : ℕ) (v : V) (k : Block V) (ks : List (Block V)) → ((In v k.arguments ⊎ In v (all_defs k.ops)) ⊎ Blocks (suc b) v ks) → Blocks b v (k ∷ ks)
  head_has b v k ks h = by_index (index_of same v k.arguments) refl (place_in_ops same b 0 v k.ops) refl
    where
      by_index : (t : Option ℕ) → index_of same v k.arguments ≡ t → (u : Option Place) → place_in_ops same b 0 v k.ops ≡ u → Blocks b v (k ∷ ks)
      by_index (Some i) t u e = (Arg b i, ap (λ x. or_else (option_map (Arg b) x) (or_else (place_in_ops same b 0 v k.ops) (place_in_blocks same (suc b) v ks))) t)
      by_index None t (Some a) e = (a, ap (λ x. or_else (option_map (Arg b) x) (or_else (place_in_ops same b 0 v k.ops) (place_in_blocks same (suc b) v ks))) t ∙ ap (λ x. or_else x (place_in_blocks same (suc b) v ks)) e)
      by_index None t None e =
          let r : Blocks (suc b) v ks =
          ⊎_elim
          (λ l. ⊎_elim
          (λ x. let w = index_has v k.arguments x in let bad : None ≡ Some w.0 = sym t ∙ w.1 in absurd (cc bad))
          (λ x. let w = ops_has b 0 v k.ops x in let bad : None ≡ Some w.0 = sym e ∙ w.1 in absurd (cc bad))
          l)
          (λ x. x)
          h
          in
          (r.0, ap (λ x. or_else (option_map (Arg b) x) (or_else (place_in_ops same b 0 v k.ops) (place_in_blocks same (suc b) v ks))) t ∙ ap (λ x. or_else x (place_in_blocks same (suc b) v ks)) e ∙ r.1)

  blocks_has : (b : ℕ) (v : V) (ks : List (Block V)) (n : ℕ) → In v (arguments_of (slice_get ks n)) ⊎ In v (all_defs (ops_left (slice_get ks n) 0)) → Blocks b v ks
  blocks_has b v [] n h = ⊎_elim (λ x. absurd x) (λ x. absurd x) h
  blocks_has b v (k ∷ ks) zero h = head_has b v k ks (inl h)
  blocks_has b v (k ∷ ks) (suc n) h = head_has b v k ks (inr (blocks_has (suc b) v ks n h))

  pub has_place : (f : Option (Fun V)) (b : ℕ) (v : V) → In v (arguments_in f b) ⊎ In v (all_defs (left_in f b 0)) → HasPlace same f v
  has_place None b v h = ⊎_elim (λ x. absurd x) (λ x. absurd x) h
  has_place (Some f) b v h = blocks_has 0 v f b h

  module _ (f : Option (Fun V)) where
    abbrev pub Has : List V → Type 0
    Has a = (x : V) → In x a → HasPlace same f x

    entry_has : Has (entry_values f)
    entry_has x i = has_place f 0 x (in_split x (arguments_in f 0) (all_defs (left_in f 0 0)) i)

    pub start_has : (b : ℕ) → Has (at_start f b)
    start_has zero x i = has_place f 0 x (inl i)
    start_has (suc b) x i = ⊎_elim (λ l. has_place f (suc b) x (inl l)) (λ r. entry_has x r) (in_split x (arguments_in f (suc b)) (entry_values f) i)

    pub all_have : (a xs : List V) → Has a → AllIn xs a → AllNamed (HasPlace same f) xs
    all_have a [] h i = tt
    all_have a (x ∷ xs) h i = (h x i.0, all_have a xs h i.1)

    pub these_have : (xs : List V) → Has xs → AllNamed (HasPlace same f) xs
    these_have [] h = tt
    these_have (x ∷ xs) h = (h x (inl refl), these_have xs (λ y i. h y (inr i)))

    op_named : (a : List V) (op : Op V) → Has a → Has (defs op) → OpScoped f a op → OpNamed (HasPlace same f) AnyBlock op
    op_named a (Const r n) h d s = d r (inl refl)
    op_named a (Calc o w r x y) h d s = (d r (inl refl), h x s.0, h y s.1)
    op_named a (Emit x) h d s = h x s
    op_named a (Call rs c xs) h d s = (these_have rs d, all_have a xs h s)
    op_named a (Branch t xs e es) h d s = (all_have a xs h s.0, edges_each (EdgeScoped f a) (EdgeNamed (HasPlace same f) AnyBlock) (λ x g. (tt, all_have a x.forwards h g.0)) (e ∷ es) s.1)
    op_named a (Return xs) h d s = all_have a xs h s

    ops_named : (a : List V) (ops : List (Op V)) → Has a → Has (all_defs ops) → OpsWith (OpScoped f) a ops → OpsNamed (HasPlace same f) AnyBlock ops
    ops_named a [] h d s = tt
    ops_named a (op ∷ ops) h d s =
        let own : Has (defs op) = λ x i. d x (in_append x (defs op) (all_defs ops) (inl i)) in
        let more : Has (defs op ++ a) = λ x i. ⊎_elim (λ l. own x l) (λ r. h x r) (in_split x (defs op) a i) in
        (op_named a op h own s.0, ops_named (defs op ++ a) ops more (λ x i. d x (in_append x (defs op) (all_defs ops) (inr i))) s.1)

    pub scoped_defined : BlocksWith f (OpScoped f) → NamesAreDefined same f
    scoped_defined s =
        record {
          ops = λ b. ops_named (at_start f b) (left_in f b 0) (start_has b) (λ x i. has_place f b x (inr i)) (s b);
          arguments = λ b. these_have (arguments_in f b) (λ x i. has_place f b x (inl i));
        }

defs_replaced : {V : Type 0} (s : V → V) (op : Op V) → defs (replace_op s op) ≡ defs op
defs_replaced s (Const r n) = refl
defs_replaced s (Calc a w r x y) = refl
defs_replaced s (Emit x) = refl
defs_replaced s (Call rs c xs) = refl
defs_replaced s (Branch t xs e es) = refl
defs_replaced s (Return xs) = refl

pub all_defs_replaced : {V : Type 0} (s : V → V) (ops : List (Op V)) → all_defs (map (replace_op s) ops) ≡ all_defs ops
all_defs_replaced s [] = refl
all_defs_replaced s (op ∷ ops) = ap (λ d. d ++ all_defs (map (replace_op s) ops)) (defs_replaced s op) ∙ ap (λ d. defs op ++ d) (all_defs_replaced s ops)

module _ {V : Type 0} (s : V → V) (g : Option (Fun V)) where
  entry_replaced : entry_values (replace s g) ≡ entry_values g
  entry_replaced =
      ap (λ t. t ++ all_defs (left_in (replace s g) 0 0)) (replace_takes s g 0)
      ∙ ap (λ d. arguments_in g 0 ++ d) (ap all_defs (replace_left s g 0 0) ∙ all_defs_replaced s (left_in g 0 0))

  start_replaced : (b : ℕ) → at_start (replace s g) b ≡ at_start g b
  start_replaced zero = replace_takes s g 0
  start_replaced (suc b) = ap (λ t. t ++ entry_values (replace s g)) (replace_takes s g (suc b)) ∙ ap (λ d. arguments_in g (suc b) ++ d) entry_replaced

  edge_replaced : (a : List V) (e : Edge V) → EdgeScoped g a e → EdgeScoped (replace s g) a e
  edge_replaced a e h = (h.0, subst (λ l. AllIn l a) (sym entry_replaced) h.1, subst (λ t. SameLength t e.forwards) (sym (replace_takes s g e.target)) h.2)

  op_replaced : (a : List V) (op : Op V) → OpScoped g a op → OpScoped (replace s g) a op
  op_replaced a (Const r n) h = h
  op_replaced a (Calc o w r x y) h = h
  op_replaced a (Emit x) h = h
  op_replaced a (Call rs c xs) h = h
  op_replaced a (Branch t xs e es) h = (h.0, edges_each (EdgeScoped g a) (EdgeScoped (replace s g) a) (λ x c. edge_replaced a x c) (e ∷ es) h.1)
  op_replaced a (Return xs) h = h

  ops_replaced : (a : List V) (ops : List (Op V)) → OpsWith (λ a op. OpScoped g a op × OpScoped g a (replace_op s op)) a ops → OpsWith (OpScoped (replace s g)) a (map (replace_op s) ops)
  ops_replaced a [] h = tt
  ops_replaced a (op ∷ ops) h =
      (op_replaced a (replace_op s op) h.0.1, subst (λ d. OpsWith (OpScoped (replace s g)) (d ++ a) (map (replace_op s) ops)) (sym (defs_replaced s op)) (ops_replaced (defs op ++ a) ops h.1))

  pub replaced_scoped : BlocksWith g (λ a op. OpScoped g a op × OpScoped g a (replace_op s op)) → BlocksWith (replace s g) (OpScoped (replace s g))
  replaced_scoped h b =
      subst (λ a. OpsWith (OpScoped (replace s g)) a (left_in (replace s g) b 0)) (sym (start_replaced b))
      (subst (OpsWith (OpScoped (replace s g)) (at_start g b)) (sym (replace_left s g b 0)) (ops_replaced (at_start g b) (left_in g b 0) (h b)))
