-- Constants put in, and uses that name them, in a function under other names of values.
use Rattle.std.proofs.Common.{◌≡◌, ℕ, suc, Bool, List, [], ◌∷◌, Option, Some, None, refl, sym, ap, ◌∙◌, subst}
use Rattle.std.specs.Prelude.{map}
use Rattle.kit_behaviour.specs.InsertedConstants.{OldOrNewName, Old, New, same_name, Made, put_if, put_args, old, put_before}
use Rattle.kit_behaviour.specs.InsertedConstants.{put_ops, put_block, put_in, constant_of, use_of}
use Rattle.kit_behaviour.specs.Machine.{AllEdges, Edge, Op, Const, Calc, Emit, Call, Branch, Return, Block, Fun}
use Rattle.kit_behaviour.specs.Machine.{left_in, arguments_in}
use Rattle.kit_behaviour.specs.Numbering.{AnyBlock}
use Rattle.kit_behaviour.specs.Renaming.{rename_edge, rename_block, rename_fun, same_block, AllNamed, EdgeNamed}
use Rattle.kit_behaviour.specs.Renaming.{OpNamed, OpsNamed}
use Rattle.kit_behaviour.specs.Replacement.{replace_block, replace}
use Rattle.kit_behaviour.proofs.ControlFlow.NamedCommuting.{ren, blocks_replaced}
use Rattle.kit_behaviour.proofs.ControlFlow.NamedPlacing.{AreNamed, replaced_named}
use Rattle.kit_behaviour.proofs.Propagation.InsertionLemmas.{put_left, put_takes}

-- names with constants, where values are renamed
abbrev pub both_renamed : {V W : Type 0} → (V → W) → OldOrNewName V → OldOrNewName W
both_renamed r (Old v) = Old (r v)
both_renamed r (New v) = New (r v)

-- the value has the property
abbrev pub OfValue : {V : Type 0} → (V → Type 0) → OldOrNewName V → Type 0
OfValue N (Old v) = N v
OfValue N (New v) = N v

pub names_apart : {V W : Type 0} (same : V → V → Bool) (other : W → W → Bool) (r : V → W) (N : V → Type 0) →
    ((x y : V) → N x → N y → other (r x) (r y) ≡ same x y) → (x y : OldOrNewName V) → OfValue N x → OfValue N y →
    same_name other (both_renamed r x) (both_renamed r y) ≡ same_name same x y
names_apart same other r N apart (Old x) (Old y) a b = apart x y a b
names_apart same other r N apart (New x) (New y) a b = apart x y a b
names_apart same other r N apart (Old x) (New y) a b = refl
names_apart same other r N apart (New x) (Old y) a b = refl

-- 1. all names are of values with the property

module _ {V : Type 0} (N : V → Type 0) (m : Made V) where
  list_named : (xs : List V) → AllNamed N xs → AllNamed (OfValue N) (map Old xs)
  list_named [] h = tt
  list_named (x ∷ xs) h = (h.0, list_named xs h.1)

  edges_named : (es : List (Edge V)) → AllEdges (EdgeNamed N AnyBlock) es →
      AllEdges (EdgeNamed (OfValue N) AnyBlock) (map (rename_edge Old same_block) es)
  edges_named [] h = tt
  edges_named (e ∷ es) h = ((tt, list_named e.forwards h.0.1), edges_named es h.1)

  old_named : (op : Op V) → OpNamed N AnyBlock op → OpNamed (OfValue N) AnyBlock (old op)
  old_named (Const v n) h = h
  old_named (Calc a w v x y) h = h
  old_named (Emit x) h = h
  old_named (Call vs c xs) h = (list_named vs h.0, list_named xs h.1)
  old_named (Branch s xs e es) h = (list_named xs h.0, edges_named (e ∷ es) h.1)
  old_named (Return xs) h = list_named xs h

  abbrev Named : List (Op (OldOrNewName V)) → Type 0
  Named = OpsNamed (OfValue N) AnyBlock

  if_named : (o : Option ℕ) (v : V) → N v → (rest : List (Op (OldOrNewName V))) → Named rest → Named (put_if o v rest)
  if_named None v h rest q = q
  if_named (Some n) v h rest q = (h, q)

  args_named : (vs : List V) → AllNamed N vs → (rest : List (Op (OldOrNewName V))) → Named rest → Named (put_args m vs rest)
  args_named [] h rest q = q
  args_named (v ∷ vs) h rest q = args_named vs h.1 (put_if (m v) v rest) (if_named (m v) v h.0 rest q)

  before_named : (op : Op V) → OpNamed N AnyBlock op → (rest : List (Op (OldOrNewName V))) → Named rest →
      Named (put_before m op rest)
  before_named (Const v n) h rest q = q
  before_named (Calc a w v x y) h rest q = if_named (m v) v h.0 rest q
  before_named (Emit x) h rest q = q
  before_named (Call vs c xs) h rest q = q
  before_named (Branch s xs e es) h rest q = q
  before_named (Return xs) h rest q = q

  ops_named : (ops : List (Op V)) → OpsNamed N AnyBlock ops → Named (put_ops m ops)
  ops_named [] h = tt
  ops_named (op ∷ ops) h =
      before_named op h.0 (old op ∷ put_ops m ops) (old_named op h.0, ops_named ops h.1)

  pub put_named : (f : Option (Fun V)) → AreNamed N f → AreNamed (OfValue N) (put_in m f)
  put_named f h = record {
    ops = λ b.
        subst Named (sym (put_left m f b))
        (args_named (arguments_in f b) (h.arguments b) (put_ops m (left_in f b 0))
        (ops_named (left_in f b 0) (h.ops b)));
    arguments = λ b. subst (AllNamed (OfValue N)) (sym (put_takes m f b))
        (list_named (arguments_in f b) (h.arguments b));
  }

  constant_named : (o : Option ℕ) (v : V) → N v → OfValue N (constant_of o v)
  constant_named None v h = h
  constant_named (Some n) v h = h

  use_named : (x : OldOrNewName V) → OfValue N x → OfValue N (use_of m x)
  use_named (Old v) h = constant_named (m v) v h
  use_named (New v) h = h

  pub used_named : (f : Option (Fun V)) → AreNamed N f → AreNamed (OfValue N) (replace (use_of m) (put_in m f))
  used_named f h = replaced_named (OfValue N) (use_of m) use_named (put_in m f) (put_named f h)

-- 2. the same constants for the renamed values

module _ {V W : Type 0} (r : V → W) (N : V → Type 0) (m : Made V) (z : Made W)
    (alike : (x : V) → N x → z (r x) ≡ m x) where
  abbrev R : OldOrNewName V → OldOrNewName W
  R = both_renamed r

  list_old : (xs : List V) → map Old (map r xs) ≡ map R (map Old xs)
  list_old [] = refl
  list_old (x ∷ xs) = ap (λ l. Old (r x) ∷ l) (list_old xs)

  edge_old : (e : Edge V) →
      rename_edge Old same_block (rename_edge r same_block e) ≡ rename_edge R same_block (rename_edge Old same_block e)
  edge_old e = ap (λ l. record { target = e.target; forwards = l }) (list_old e.forwards)

  edges_old : (es : List (Edge V)) →
      map (rename_edge Old same_block) (map (rename_edge r same_block) es)
      ≡ map (rename_edge R same_block) (map (rename_edge Old same_block) es)
  edges_old [] = refl
  edges_old (e ∷ es) = λ i. edge_old e i ∷ edges_old es i

  op_old : (op : Op V) → old (ren r op) ≡ ren R (old op)
  op_old (Const v n) = refl
  op_old (Calc a w v x y) = refl
  op_old (Emit x) = refl
  op_old (Call vs c xs) = λ i. Call (list_old vs i) c (list_old xs i)
  op_old (Branch s xs e es) = λ i. Branch s (list_old xs i) (edge_old e i) (edges_old es i)
  op_old (Return xs) = ap Return (list_old xs)

  if_put : (o : Option ℕ) (v : V) (after : List (Op (OldOrNewName W))) (rest : List (Op (OldOrNewName V))) →
      after ≡ map (ren R) rest → put_if o (r v) after ≡ map (ren R) (put_if o v rest)
  if_put None v after rest e = e
  if_put (Some n) v after rest e = ap (λ l. Const (New (r v)) n ∷ l) e

  one_put : (v : V) → N v → (after : List (Op (OldOrNewName W))) (rest : List (Op (OldOrNewName V))) → after ≡ map (ren R) rest →
      put_if (z (r v)) (r v) after ≡ map (ren R) (put_if (m v) v rest)
  one_put v h after rest e = ap (λ o. put_if o (r v) after) (alike v h) ∙ if_put (m v) v after rest e

  args_put : (vs : List V) → AllNamed N vs → (after : List (Op (OldOrNewName W))) (rest : List (Op (OldOrNewName V))) →
      after ≡ map (ren R) rest → put_args z (map r vs) after ≡ map (ren R) (put_args m vs rest)
  args_put [] h after rest e = e
  args_put (v ∷ vs) h after rest e =
      args_put vs h.1 (put_if (z (r v)) (r v) after) (put_if (m v) v rest) (one_put v h.0 after rest e)

  before_put : (op : Op V) → OpNamed N AnyBlock op → (after : List (Op (OldOrNewName W))) (rest : List (Op (OldOrNewName V))) →
      after ≡ map (ren R) rest → put_before z (ren r op) after ≡ map (ren R) (put_before m op rest)
  before_put (Const v n) h after rest e = e
  before_put (Calc a w v x y) h after rest e = one_put v h.0 after rest e
  before_put (Emit x) h after rest e = e
  before_put (Call vs c xs) h after rest e = e
  before_put (Branch s xs x es) h after rest e = e
  before_put (Return xs) h after rest e = e

  ops_put : (ops : List (Op V)) → OpsNamed N AnyBlock ops →
      put_ops z (map (ren r) ops) ≡ map (ren R) (put_ops m ops)
  ops_put [] h = refl
  ops_put (op ∷ ops) h =
      before_put op h.0 (old (ren r op) ∷ put_ops z (map (ren r) ops)) (old op ∷ put_ops m ops)
      (λ i. op_old op i ∷ ops_put ops h.1 i)

  blocks_put : (ks : List (Block V)) → ((b : ℕ) → OpsNamed N AnyBlock (left_in (Some ks) b 0)) →
      ((b : ℕ) → AllNamed N (arguments_in (Some ks) b)) →
      map (put_block z) (map (rename_block r) ks) ≡ map (rename_block R) (map (put_block m) ks)
  blocks_put [] o a = refl
  blocks_put (k ∷ ks) o a =
      λ i. record {
        arguments = list_old k.arguments i;
        ops = args_put k.arguments (a 0) (put_ops z (map (ren r) k.ops)) (put_ops m k.ops) (ops_put k.ops (o 0)) i;
      } ∷ blocks_put ks (λ b. o (suc b)) (λ b. a (suc b)) i

  constant_same : (o : Option ℕ) (v : V) → constant_of o (r v) ≡ R (constant_of o v)
  constant_same None v = refl
  constant_same (Some n) v = refl

  use_same : (x : OldOrNewName V) → OfValue N x → use_of z (R x) ≡ R (use_of m x)
  use_same (Old v) h = ap (λ o. constant_of o (r v)) (alike v h) ∙ constant_same (m v) v
  use_same (New v) h = refl

  pub used_renamed : (f : Fun V) → AreNamed N (Some f) →
      replace (use_of z) (put_in z (Some (map (rename_block r) f)))
      ≡ rename_fun R (replace (use_of m) (put_in m (Some f)))
  used_renamed f h =
      ap (λ ks. Some (map (replace_block (use_of z)) ks)) (blocks_put f h.ops h.arguments)
      ∙ ap Some (blocks_replaced R (OfValue N) (use_of m) (use_of z) use_same (map (put_block m) f)
      (put_named N m (Some f) h).ops)
