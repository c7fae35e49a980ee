-- The pass that puts constants in keeps the rules.
use Rattle.std.proofs.Common.{◌≡◌, ℕ, zero, suc, ◌+◌, ◌<◌, ◌≤◌, Bool, false, List, [], ◌∷◌, ◌++◌, length, Option, Some, None, refl, sym, ap, ◌∙◌, subst, arith}
use Rattle.std.specs.Prelude.{map, slice_get, option_map}
use Rattle.std.proofs.lemmas.Option.{slice_get-map}
use Rattle.kit_behaviour.specs.Machine.{Op, Const, Calc, Emit, Call, Branch, Return, Block, Fun, FunctionsByPath, ops_left, left_in, arguments_of, arguments_in, size}
use Rattle.kit_behaviour.specs.Facts.{FunctionFacts, all_forwarded}
use Rattle.kit_behaviour.specs.Scopes.{AllIn, defs, at_start, SameLength, OpScoped, OpsWith, BlocksWith}
use Rattle.kit_behaviour.specs.Replacement.{replace_edge, replace_op, replace_block, replace}
use Rattle.kit_behaviour.specs.InsertedConstants.{OldOrNewName, Old, New, same_name, Made, put_if, put_args, old, put_before, put_ops, put_block, put_in, use_of}
use Rattle.kit_behaviour.specs.Rules.{operands, is_terminator, EndsWell, EdgeFits, EdgesOfOpFit, AllEdgesFit, Rules}
use Rattle.kit_behaviour.specs.ConstantPropagation.{Wants, made_of, with_facts, IsSccpOfFunctions}
use Rattle.kit_behaviour.specs.Numbering.{place_fun}
use Rattle.kit_behaviour.specs.Places.{Place, Arg, Res, same_place}
use Rattle.kit_behaviour.specs.PassLists.{Fit}
use Rattle.kit_behaviour.proofs.Behaviour.SizeLemmas.{length_map, place_size, replace_size, put_size}
use Rattle.kit_behaviour.proofs.Numbering.PlaceEquality.{place_law}
use Rattle.kit_behaviour.proofs.Numbering.NumberingBehaviour.{block_of, name_op, name_in, place_left, place_takes}
use Rattle.kit_behaviour.proofs.Behaviour.EdgeLemmas.{edges_map}
use Rattle.kit_behaviour.proofs.Lattice.Soundness.{gives_in}
use Rattle.kit_behaviour.proofs.Lattice.ReplacementBehaviour.{replace_left, replace_takes}
use Rattle.kit_behaviour.proofs.Propagation.InsertionLemmas.{put_left, put_takes}
use Rattle.kit_behaviour.proofs.Propagation.ScopeLemmas.{all_append, put_scoped}
use Rattle.kit_behaviour.proofs.Numbering.DefinedNames.{replaced_scoped}
use Rattle.kit_behaviour.proofs.Propagation.PropagationBehaviour.{same_name_law}
use Rattle.kit_behaviour.proofs.Numbering.RuleLemmas.{rules_scoped, made_may_put}
use Rattle.kit_behaviour.proofs.Numbering.NumberingRules.{name_at, Distinct, Shaped, terminator_under, edges_fit_under, placed_rules}
use Rattle.kit_behaviour.proofs.ControlFlow.KeptBlocks.{rules_distinct}

-- 1. each name still has one place

-- what is put before an operation is nothing, or one constant for its result
data Before {V : Type 0} (m : Made V) (op : Op V) : Type 0 where
  nothing : ((rest : List (Op (OldOrNewName V))) → put_before m op rest ≡ rest) → Before m op
  one : (r : V) (n : ℕ) → m r ≡ Some n → name_op (Some op) 0 ≡ Some r → ((rest : List (Op (OldOrNewName V))) → put_before m op rest ≡ Const (New r) n ∷ rest) → Before m op

before : {V : Type 0} (m : Made V) (op : Op V) → Before m op
before m (Const r n) = nothing (λ rest. refl)
before {V} m (Calc a w r x y) = by_made (m r) refl
  where
    by_made : (o : Option ℕ) → m r ≡ o → Before m (Calc a w r x y)
    by_made None e = nothing (λ rest. ap (λ o. put_if o r rest) e)
    by_made (Some n) e = one r n e refl (λ rest. ap (λ o. put_if o r rest) e)
before m (Emit x) = nothing (λ rest. refl)
before m (Call rs c xs) = nothing (λ rest. refl)
before m (Branch s xs e es) = nothing (λ rest. refl)
before m (Return xs) = nothing (λ rest. refl)

module _ {V : Type 0} (m : Made V) where
  -- how many constants are put before an operation, and before a block's operations for its arguments
  unfoldable pub put_count : Op V → ℕ
  put_count op = length (put_before m op [])

  unfoldable pub args_count : List V → ℕ
  args_count [] = 0
  args_count (v ∷ vs) = args_count vs + length (put_if (m v) v [])

  -- where the operation, its constant and the constant of an argument are
  unfoldable pub at_op : List (Op V) → ℕ → ℕ
  at_op [] o = 0
  at_op (op ∷ ops) zero = put_count op
  at_op (op ∷ ops) (suc o) = put_count op + suc (at_op ops o)

  pub at_new : List (Op V) → ℕ → ℕ
  at_new [] o = 0
  at_new (op ∷ ops) zero = 0
  at_new (op ∷ ops) (suc o) = put_count op + suc (at_new ops o)

  pub at_arg : List V → ℕ → ℕ
  at_arg [] n = 0
  at_arg (v ∷ vs) zero = args_count vs
  at_arg (v ∷ vs) (suc n) = at_arg vs n

  defs_old : (op : Op V) → defs (old op) ≡ map Old (defs op)
  defs_old (Const r n) = refl
  defs_old (Calc a w r x y) = refl
  defs_old (Emit x) = refl
  defs_old (Call rs c xs) = refl
  defs_old (Branch s xs e es) = refl
  defs_old (Return xs) = refl

  map_old : (xs : List V) (i : ℕ) (y : OldOrNewName V) → slice_get (map Old xs) i ≡ Some y → (v : V) × (y ≡ Old v) × (slice_get xs i ≡ Some v)
  map_old [] i y e = absurd (cc e)
  map_old (x ∷ xs) zero y e = let q : Old x ≡ y = cc e in (x, sym q, refl)
  map_old (x ∷ xs) (suc i) y e = map_old xs i y e

  only_one : (r : V) (i : ℕ) (y : OldOrNewName V) → slice_get (New r ∷ []) i ≡ Some y → (y ≡ New r) × (i ≡ 0)
  only_one r zero y e = let q : New r ≡ y = cc e in (sym q, refl)
  only_one r (suc i) y e = absurd (cc e)

  -- where a name among the operations comes from
  data Origin (ops : List (Op V)) (p i : ℕ) (y : OldOrNewName V) : Type 0 where
    from_op : (o : ℕ) (v : V) → y ≡ Old v → name_op (slice_get ops o) i ≡ Some v → p ≡ at_op ops o → Origin ops p i y
    from_new : (o n : ℕ) (v : V) → m v ≡ Some n → y ≡ New v → name_op (slice_get ops o) 0 ≡ Some v → p ≡ at_new ops o → i ≡ 0 → Origin ops p i y

  later : (op : Op V) (ops : List (Op V)) (p q i : ℕ) (y : OldOrNewName V) → p ≡ put_count op + suc q → Origin ops q i y → Origin (op ∷ ops) p i y
  unfolding at_op at_new
  later op ops p q i y e (from_op o v n h w) = from_op (suc o) v n h (e ∙ ap (λ z. put_count op + suc z) w)
  later op ops p q i y e (from_new o j v mj n h w z) = from_new (suc o) j v mj n h (e ∙ ap (λ u. put_count op + suc u) w) z

  own : (op : Op V) (ops : List (Op V)) (p i : ℕ) (y : OldOrNewName V) → slice_get (defs (old op)) i ≡ Some y → p ≡ put_count op → Origin (op ∷ ops) p i y
  unfolding at_op
  own op ops p i y e w = let h = map_old (defs op) i y (ap (λ l. slice_get l i) (sym (defs_old op)) ∙ e) in from_op 0 h.0 h.1 h.2 w

  from_ops : (ops : List (Op V)) (p i : ℕ) (y : OldOrNewName V) → name_op (slice_get (put_ops m ops) p) i ≡ Some y → Origin ops p i y
  unfolding put_count at_new
  from_ops [] p i y e = absurd (cc e)
  from_ops (op ∷ ops) p i y e = by_before (before m op) p refl (λ q. from_ops ops q i y)
    where
      by_before : Before m op → (q : ℕ) → p ≡ q → ((q : ℕ) → name_op (slice_get (put_ops m ops) q) i ≡ Some y → Origin ops q i y) → Origin (op ∷ ops) p i y
      by_before (nothing h) zero w ih = own op ops p i y (sym (ap (λ l. name_op (slice_get l p) i) (h (old op ∷ put_ops m ops)) ∙ ap (λ z. name_op (slice_get (old op ∷ put_ops m ops) z) i) w) ∙ e) (w ∙ sym (ap length (h [])))
      by_before (nothing h) (suc q) w ih =
          let c : put_count op ≡ 0 = ap length (h []) in
          later op ops p q i y (omega (arith, w, c)) (ih q (sym (ap (λ l. name_op (slice_get l p) i) (h (old op ∷ put_ops m ops)) ∙ ap (λ z. name_op (slice_get (old op ∷ put_ops m ops) z) i) w) ∙ e))
      by_before (one r n mn d h) zero w ih =
          let g = only_one r i y (sym (ap (λ l. name_op (slice_get l p) i) (h (old op ∷ put_ops m ops)) ∙ ap (λ z. name_op (slice_get (Const (New r) n ∷ old op ∷ put_ops m ops) z) i) w) ∙ e) in
          from_new 0 n r mn g.0 d w g.1
      by_before (one r n mn d h) (suc zero) w ih = own op ops p i y (sym (ap (λ l. name_op (slice_get l p) i) (h (old op ∷ put_ops m ops)) ∙ ap (λ z. name_op (slice_get (Const (New r) n ∷ old op ∷ put_ops m ops) z) i) w) ∙ e) (w ∙ sym (ap length (h [])))
      by_before (one r n mn d h) (suc (suc q)) w ih =
          let c : put_count op ≡ 1 = ap length (h []) in
          later op ops p q i y (omega (arith, w, c)) (ih q (sym (ap (λ l. name_op (slice_get l p) i) (h (old op ∷ put_ops m ops)) ∙ ap (λ z. name_op (slice_get (Const (New r) n ∷ old op ∷ put_ops m ops) z) i) w) ∙ e))

  data ArgOrigin (vs : List V) (rest : List (Op (OldOrNewName V))) (p i : ℕ) (y : OldOrNewName V) : Type 0 where
    from_arg : (n j : ℕ) (v : V) → m v ≡ Some j → y ≡ New v → slice_get vs n ≡ Some v → p ≡ at_arg vs n → i ≡ 0 → ArgOrigin vs rest p i y
    from_rest : (q : ℕ) → name_op (slice_get rest q) i ≡ Some y → p ≡ args_count vs + q → ArgOrigin vs rest p i y

  from_args : (vs : List V) (rest : List (Op (OldOrNewName V))) (p i : ℕ) (y : OldOrNewName V) → name_op (slice_get (put_args m vs rest) p) i ≡ Some y → ArgOrigin vs rest p i y
  unfolding args_count at_arg
  from_args [] rest p i y e = let z : p ≡ 0 + p = omega arith in from_rest p e z
  from_args (v ∷ vs) rest p i y e = by_origin (from_args vs (put_if (m v) v rest) p i y e)
    where
      by_made : (o : Option ℕ) → m v ≡ o → (q : ℕ) → name_op (slice_get (put_if o v rest) q) i ≡ Some y → p ≡ args_count vs + q → ArgOrigin (v ∷ vs) rest p i y
      by_made None w q h z =
          let c : length (put_if (m v) v []) ≡ 0 = ap (λ o. length (put_if o v [])) w in
          from_rest q h (omega (arith, z, c))
      by_made (Some k) w zero h z = let g = only_one v i y h in from_arg 0 k v w g.0 refl (omega (arith, z)) g.1
      by_made (Some k) w (suc q) h z =
          let c : length (put_if (m v) v []) ≡ 1 = ap (λ o. length (put_if o v [])) w in
          from_rest q h (omega (arith, z, c))

      by_origin : ArgOrigin vs (put_if (m v) v rest) p i y → ArgOrigin (v ∷ vs) rest p i y
      by_origin (from_arg n j u mj a b c d) = from_arg (suc n) j u mj a b c d
      by_origin (from_rest q h z) = by_made (m v) refl q h z

  -- the same in a block
  unfoldable pub old_place : Option (Block V) → Place → Place
  old_place k (Arg b i) = Arg b i
  old_place k (Res b o i) = Res b (args_count (arguments_of k) + at_op (ops_left k 0) o) i

  pub new_place : Option (Block V) → Place → Place
  new_place k (Arg b i) = Res b (at_arg (arguments_of k) i) 0
  new_place k (Res b o i) = Res b (args_count (arguments_of k) + at_new (ops_left k 0) o) 0

  pub data NameOrigin (f : Fun V) (a : Place) (y : OldOrNewName V) : Type 0 where
    was_old : (c : Place) (v : V) → y ≡ Old v → name_at (Some f) c ≡ Some v → a ≡ old_place (slice_get f (block_of c)) c → NameOrigin f a y
    was_new : (c : Place) (n : ℕ) (v : V) → m v ≡ Some n → y ≡ New v → name_at (Some f) c ≡ Some v → a ≡ new_place (slice_get f (block_of c)) c → NameOrigin f a y

  pub name_put : (f : Fun V) (a : Place) (y : OldOrNewName V) → name_at (put_in m (Some f)) a ≡ Some y → NameOrigin f a y
  unfolding old_place new_place
  name_put f (Arg b i) y e = by_block (slice_get f b) refl (sym (ap (λ o. name_in o (Arg b i)) (slice_get-map (put_block m) f b)) ∙ e)
    where
      by_block : (k : Option (Block V)) → slice_get f b ≡ k → name_in (option_map (put_block m) k) (Arg b i) ≡ Some y → NameOrigin f (Arg b i) y
      by_block None w h = absurd (cc h)
      by_block (Some k) w h = let g = map_old k.arguments i y h in was_old (Arg b i) g.0 g.1 (ap (λ o. name_in o (Arg b i)) w ∙ g.2) refl
  name_put f (Res b o i) y e = by_block (slice_get f b) refl (sym (ap (λ x. name_in x (Res b o i)) (slice_get-map (put_block m) f b)) ∙ e)
    where
      by_op : (k : Block V) → slice_get f b ≡ Some k → (q : ℕ) → o ≡ args_count k.arguments + q → Origin k.ops q i y → NameOrigin f (Res b o i) y
      by_op k w q z (from_op p v n h t) =
          was_old (Res b p i) v n (ap (λ x. name_in x (Res b p i)) w ∙ h)
          (ap (λ x. Res b x i) (z ∙ ap (λ x. args_count k.arguments + x) t) ∙ ap (λ x. old_place x (Res b p i)) (sym w))
      by_op k w q z (from_new p j v mj n h t u) =
          was_new (Res b p 0) j v mj n (ap (λ x. name_in x (Res b p 0)) w ∙ h)
          (ap (λ x. Res b x i) (z ∙ ap (λ x. args_count k.arguments + x) t) ∙ ap (Res b (args_count k.arguments + at_new k.ops p)) u ∙ ap (λ x. new_place x (Res b p 0)) (sym w))

      by_origin : (k : Block V) → slice_get f b ≡ Some k → ArgOrigin k.arguments (put_ops m k.ops) o i y → NameOrigin f (Res b o i) y
      by_origin k w (from_arg n j v mj q h t u) =
          was_new (Arg b n) j v mj q (ap (λ x. name_in x (Arg b n)) w ∙ h) (ap (λ x. Res b x i) t ∙ ap (Res b (at_arg k.arguments n)) u ∙ ap (λ x. new_place x (Arg b n)) (sym w))
      by_origin k w (from_rest q h t) = by_op k w q t (from_ops k.ops q i y h)

      by_block : (k : Option (Block V)) → slice_get f b ≡ k → name_in (option_map (put_block m) k) (Res b o i) ≡ Some y → NameOrigin f (Res b o i) y
      by_block None w h = absurd (cc h)
      by_block (Some k) w h = by_origin k w (from_args k.arguments (put_ops m k.ops) o i y h)

  pub put_distinct : (f : Option (Fun V)) → Distinct f → Distinct (put_in m f)
  put_distinct None d y a b ea eb = absurd (cc ea)
  put_distinct (Some f) d y a b ea eb = both (name_put f a y ea) (name_put f b y eb)
    where
      both : NameOrigin f a y → NameOrigin f b y → a ≡ b
      both (was_old c v q h w) (was_old e u r g t) =
          let x : Old v ≡ Old u = sym q ∙ r in
          let z : v ≡ u = cc x in
          w ∙ ap (λ n. old_place (slice_get f (block_of n)) n) (d u c e (subst (λ x. name_at (Some f) c ≡ Some x) z h) g) ∙ sym t
      both (was_new c n v mn q h w) (was_new e n' u mn' r g t) =
          let x : New v ≡ New u = sym q ∙ r in
          let z : v ≡ u = cc x in
          w ∙ ap (λ x. new_place (slice_get f (block_of x)) x) (d u c e (subst (λ x. name_at (Some f) c ≡ Some x) z h) g) ∙ sym t
      both (was_old c v q h w) (was_new e n' u mn' r g t) = let x : Old v ≡ New u = sym q ∙ r in absurd (cc x)
      both (was_new c n v mn q h w) (was_old e u r g t) = let x : New v ≡ Old u = sym q ∙ r in absurd (cc x)

-- other operands change no definition

module _ {V : Type 0} (s : V → V) where
  defs_replaced : (op : Op V) → defs (replace_op s op) ≡ defs op
  defs_replaced (Const r n) = refl
  defs_replaced (Calc a w r x y) = refl
  defs_replaced (Emit x) = refl
  defs_replaced (Call rs c xs) = refl
  defs_replaced (Branch t xs e es) = refl
  defs_replaced (Return xs) = refl

  name_op_replaced : (o : Option (Op V)) (i : ℕ) → name_op (option_map (replace_op s) o) i ≡ name_op o i
  name_op_replaced None i = refl
  name_op_replaced (Some op) i = ap (λ l. slice_get l i) (defs_replaced op)

  name_in_replaced : (k : Option (Block V)) (a : Place) → name_in (option_map (replace_block s) k) a ≡ name_in k a
  name_in_replaced None a = refl
  name_in_replaced (Some k) (Arg b i) = refl
  name_in_replaced (Some k) (Res b o i) = ap (λ x. name_op x i) (slice_get-map (replace_op s) k.ops o) ∙ name_op_replaced (slice_get k.ops o) i

  pub name_replaced : (f : Option (Fun V)) (a : Place) → name_at (replace s f) a ≡ name_at f a
  name_replaced None a = refl
  name_replaced (Some f) a = ap (λ k. name_in k a) (slice_get-map (replace_block s) f (block_of a)) ∙ name_in_replaced (slice_get f (block_of a)) a

  pub replace_distinct : (f : Option (Fun V)) → Distinct f → Distinct (replace s f)
  replace_distinct f d v a b ea eb = d v a b (sym (name_replaced f a) ∙ ea) (sym (name_replaced f b) ∙ eb)

  terminator_replaced : (op : Op V) → is_terminator (replace_op s op) ≡ is_terminator op
  terminator_replaced (Const r n) = refl
  terminator_replaced (Calc a w r x y) = refl
  terminator_replaced (Emit x) = refl
  terminator_replaced (Call rs c xs) = refl
  terminator_replaced (Branch t xs e es) = refl
  terminator_replaced (Return xs) = refl

  pub replace_ends : (ops : List (Op V)) → EndsWell ops → EndsWell (map (replace_op s) ops)
  replace_ends [] e = e
  replace_ends (op ∷ []) e = terminator_replaced op ∙ e
  replace_ends (op ∷ next ∷ ops) e = (terminator_replaced op ∙ e.0, replace_ends (next ∷ ops) e.1)

  as_many : (ts gs : List V) → SameLength ts gs → SameLength ts (map s gs)
  as_many [] [] h = tt
  as_many [] (g ∷ gs) h = absurd h
  as_many (t ∷ ts) [] h = absurd h
  as_many (t ∷ ts) (g ∷ gs) h = as_many ts gs h

  fits_replaced : (f : Option (Fun V)) (op : Op V) → EdgesOfOpFit f op → EdgesOfOpFit (replace s f) (replace_op s op)
  fits_replaced f (Branch t xs e es) h =
      edges_map (EdgeFits f) (EdgeFits (replace s f)) (replace_edge s)
      (λ x (c : EdgeFits f x). record {
        count = subst (λ l. SameLength l (map s x.forwards)) (sym (replace_takes s f x.target)) (as_many (arguments_in f x.target) x.forwards c.count);
        leads = subst (λ n. x.target < n) (sym (replace_size s f)) c.leads;
      })
      (e ∷ es) h
  fits_replaced f (Const r n) h = tt
  fits_replaced f (Calc a w r x y) h = tt
  fits_replaced f (Emit x) h = tt
  fits_replaced f (Call rs c xs) h = tt
  fits_replaced f (Return xs) h = tt

  pub all_fit_replaced : (f : Option (Fun V)) (ops : List (Op V)) → AllEdgesFit f ops → AllEdgesFit (replace s f) (map (replace_op s) ops)
  all_fit_replaced f [] h = tt
  all_fit_replaced f (op ∷ ops) h = (fits_replaced f op h.0, all_fit_replaced f ops h.1)

-- what is in scope for the machine is so for the rules

module _ {V : Type 0} (f : Option (Fun V)) where
  op_sees : (a : List V) (op : Op V) → OpScoped f a op → AllIn (operands op) a
  op_sees a (Const r n) h = tt
  op_sees a (Calc o w r x y) h = (h.0, (h.1, tt))
  op_sees a (Emit x) h = (h, tt)
  op_sees a (Call rs c xs) h = h
  op_sees a (Branch t xs e es) h = all_append xs (all_forwarded (e ∷ es)) a h.0 (gives_in f a (e ∷ es) h.1)
  op_sees a (Return xs) h = h

  pub scoped_sees : (a : List V) (ops : List (Op V)) → OpsWith (OpScoped f) a ops → OpsWith (λ a op. AllIn (operands op) a) a ops
  scoped_sees a [] h = tt
  scoped_sees a (op ∷ ops) h = (op_sees a op h.0, scoped_sees (defs op ++ a) ops h.1)

-- 2. ends and edges

pub cons_ends : {V : Type 0} (op : Op V) (ops : List (Op V)) → is_terminator op ≡ false → EndsWell ops → EndsWell (op ∷ ops)
cons_ends op [] t e = absurd e
cons_ends op (next ∷ ops) t e = (t, e)

module _ {V : Type 0} (m : Made V) where
  put_if_ends : (o : Option ℕ) (v : V) (rest : List (Op (OldOrNewName V))) → EndsWell rest → EndsWell (put_if o v rest)
  put_if_ends None v rest e = e
  put_if_ends (Some n) v rest e = cons_ends (Const (New v) n) rest refl e

  args_ends : (vs : List V) (rest : List (Op (OldOrNewName V))) → EndsWell rest → EndsWell (put_args m vs rest)
  args_ends [] rest e = e
  args_ends (v ∷ vs) rest e = args_ends vs (put_if (m v) v rest) (put_if_ends (m v) v rest e)

  before_ends : (op : Op V) (rest : List (Op (OldOrNewName V))) → EndsWell rest → EndsWell (put_before m op rest)
  before_ends (Calc a w r x y) rest e = put_if_ends (m r) r rest e
  before_ends (Const r n) rest e = e
  before_ends (Emit x) rest e = e
  before_ends (Call rs c xs) rest e = e
  before_ends (Branch s xs x es) rest e = e
  before_ends (Return xs) rest e = e

  put_ends : (ops : List (Op V)) → EndsWell ops → EndsWell (put_ops m ops)
  put_ends [] e = e
  put_ends (op ∷ []) e = before_ends op (old op ∷ []) (terminator_under Old op ∙ e)
  put_ends (op ∷ next ∷ ops) e = before_ends op (old op ∷ put_ops m (next ∷ ops)) (cons_ends (old op) (put_ops m (next ∷ ops)) (terminator_under Old op ∙ e.0) (put_ends (next ∷ ops) e.1))

  module _ (g : Option (Fun (OldOrNewName V))) where
    put_if_fits : (o : Option ℕ) (v : V) (rest : List (Op (OldOrNewName V))) → AllEdgesFit g rest → AllEdgesFit g (put_if o v rest)
    put_if_fits None v rest h = h
    put_if_fits (Some n) v rest h = (tt, h)

    args_fit : (vs : List V) (rest : List (Op (OldOrNewName V))) → AllEdgesFit g rest → AllEdgesFit g (put_args m vs rest)
    args_fit [] rest h = h
    args_fit (v ∷ vs) rest h = args_fit vs (put_if (m v) v rest) (put_if_fits (m v) v rest h)

    before_fits : (op : Op V) (rest : List (Op (OldOrNewName V))) → AllEdgesFit g rest → AllEdgesFit g (put_before m op rest)
    before_fits (Calc a w r x y) rest h = put_if_fits (m r) r rest h
    before_fits (Const r n) rest h = h
    before_fits (Emit x) rest h = h
    before_fits (Call rs c xs) rest h = h
    before_fits (Branch s xs e es) rest h = h
    before_fits (Return xs) rest h = h

  ops_fit : (f : Option (Fun V)) (ops : List (Op V)) → AllEdgesFit f ops → AllEdgesFit (put_in m f) (put_ops m ops)
  ops_fit f [] h = tt
  ops_fit f (op ∷ ops) h = before_fits (put_in m f) op (old op ∷ put_ops m ops) (edges_fit_under Old f (put_in m f) (λ b. put_takes m f b, put_size m f) op h.0, ops_fit f ops h.1)

  -- 3. sizes

  put_if_length : (o : Option ℕ) (v : V) (rest : List (Op (OldOrNewName V))) → length (put_if o v rest) ≤ suc (length rest)
  put_if_length None v rest = omega arith
  put_if_length (Some n) v rest = omega arith

  args_length : (vs : List V) (rest : List (Op (OldOrNewName V))) → length (put_args m vs rest) ≤ length vs + length rest
  args_length [] rest = omega arith
  args_length (v ∷ vs) rest = let a = args_length vs (put_if (m v) v rest) in let b = put_if_length (m v) v rest in omega (arith, a, b)

  before_length : (op : Op V) (rest : List (Op (OldOrNewName V))) → length (put_before m op rest) ≤ suc (length rest)
  before_length (Calc a w r x y) rest = put_if_length (m r) r rest
  before_length (Const r n) rest = omega arith
  before_length (Emit x) rest = omega arith
  before_length (Call rs c xs) rest = omega arith
  before_length (Branch s xs e es) rest = omega arith
  before_length (Return xs) rest = omega arith

  ops_length : (ops : List (Op V)) → length (put_ops m ops) ≤ length ops + length ops
  ops_length [] = omega arith
  ops_length (op ∷ ops) = let a = ops_length ops in let b = before_length op (old op ∷ put_ops m ops) in omega (arith, a, b)

-- 4. the whole pass

module _ (want : Wants) (f : Option (Fun Place)) (k : FunctionFacts Place) (rules : Rules f) where
  abbrev m : Made Place
  m = made_of want f k

  abbrev g : Option (Fun (OldOrNewName Place))
  g = put_in m f

  pub left_facts : (b : ℕ) → left_in (with_facts want f k) b 0 ≡ map (replace_op (use_of m)) (put_args m (arguments_in f b) (put_ops m (left_in f b 0)))
  left_facts b = replace_left (use_of m) g b 0 ∙ ap (map (replace_op (use_of m))) (put_left m f b)

  pub facts_size : size (with_facts want f k) ≡ size f
  facts_size = replace_size (use_of m) g ∙ put_size m f

  pub facts_distinct : Distinct (with_facts want f k)
  facts_distinct = replace_distinct (use_of m) g (put_distinct m f (rules_distinct f rules))

  pub facts_scoped : BlocksWith (with_facts want f k) (OpScoped (with_facts want f k))
  facts_scoped = replaced_scoped (use_of m) g (put_scoped m f (made_may_put want f k rules).others (rules_scoped f rules))

  pub facts_shaped : Shaped (with_facts want f k)
  facts_shaped =
      record {
        terminated = λ b l. subst EndsWell (sym (left_facts b)) (replace_ends (use_of m) (put_args m (arguments_in f b) (put_ops m (left_in f b 0))) (args_ends m (arguments_in f b) (put_ops m (left_in f b 0)) (put_ends m (left_in f b 0) (rules.terminated b (omega (arith, l, facts_size))))));
        sees = λ b. scoped_sees (with_facts want f k) (at_start (with_facts want f k) b) (left_in (with_facts want f k) b 0) (facts_scoped b);
        fits = λ b. subst (AllEdgesFit (with_facts want f k)) (sym (left_facts b)) (all_fit_replaced (use_of m) g (put_args m (arguments_in f b) (put_ops m (left_in f b 0))) (args_fit m g (arguments_in f b) (put_ops m (left_in f b 0)) (ops_fit m f (left_in f b 0) (rules.fits b))));
      }

  abbrev same : OldOrNewName Place → OldOrNewName Place → Bool
  same = same_name same_place

  pub sccp_rules : Rules (place_fun same (with_facts want f k))
  sccp_rules = placed_rules same (same_name_law same_place place_law) (with_facts want f k) facts_distinct facts_shaped

  pub facts_length : (b : ℕ) → length (left_in (place_fun same (with_facts want f k)) b 0) ≤ length (arguments_in f b) + (length (left_in f b 0) + length (left_in f b 0))
  facts_length b =
      let e : length (left_in (place_fun same (with_facts want f k)) b 0) ≡ length (put_args m (arguments_in f b) (put_ops m (left_in f b 0))) = ap length (place_left same (same_name_law same_place place_law) (with_facts want f k) b) ∙ length_map _ (left_in (with_facts want f k) b 0) ∙ ap length (left_facts b) ∙ length_map (replace_op (use_of m)) (put_args m (arguments_in f b) (put_ops m (left_in f b 0))) in
      let x = args_length m (arguments_in f b) (put_ops m (left_in f b 0)) in
      let y = ops_length m (left_in f b 0) in
      omega (arith, e, x, y)

  pub facts_args : (b : ℕ) → length (arguments_in (place_fun same (with_facts want f k)) b) ≡ length (arguments_in f b)
  facts_args b =
      ap length (place_takes same (same_name_law same_place place_law) (with_facts want f k) b) ∙ length_map _ (arguments_in (with_facts want f k) b) ∙ ap length (replace_takes (use_of m) g b ∙ put_takes m f b) ∙ length_map Old (arguments_in f b)

-- so after the pass the program is fit
pub sccp_fit : (want : Wants) (p q : FunctionsByPath Place) → Fit p → IsSccpOfFunctions want p q → Fit q
sccp_fit want p q h is =
    record {
      rules = λ path. subst Rules (sym (is.is path)) (sccp_rules want (p path) (is.facts path) (h.rules path));
      most = h.most + (h.most + h.most);
      below = λ path b.
          let e : length (left_in (q path) b 0) ≡ length (left_in (place_fun (same_name same_place) (with_facts want (p path) (is.facts path))) b 0) = ap (λ x. length (left_in x b 0)) (is.is path) in
          omega (arith, e, facts_length want (p path) (is.facts path) (h.rules path) b, h.args path b, h.below path b);
      args = λ path b.
          let e : length (arguments_in (q path) b) ≡ length (arguments_in (p path) b) = ap (λ x. length (arguments_in x b)) (is.is path) ∙ facts_args want (p path) (is.facts path) (h.rules path) b in
          omega (arith, e, h.args path b);
      few = λ path.
          let e : size (q path) ≡ size (p path) = ap size (is.is path) ∙ place_size (same_name same_place) (with_facts want (p path) (is.facts path)) ∙ facts_size want (p path) (is.facts path) (h.rules path) in
          omega (arith, e, h.few path);
    }
