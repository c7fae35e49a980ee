-- After the pass each operand whose number is known names a constant.
use Rattle.std.proofs.Common.{◌≡◌, ⊎_elim, inl, inr, ℕ, zero, suc, Bool, true, List, [], ◌∷◌, ◌++◌, Option, Some, None, refl, sym, ap, ◌∙◌, subst}
use Rattle.std.specs.Prelude.{map}
use Rattle.kit_behaviour.specs.Machine.{Op, Const, Calc, Emit, Call, Branch, Return, Fun, left_in, arguments_in}
use Rattle.kit_behaviour.specs.Facts.{Known, Unknown, FunctionFacts, AllUnknown, OpsClosed, AreClosedFacts}
use Rattle.kit_behaviour.specs.Scopes.{In, AllIn, all_defs, entry_values, at_start, OpsWith, BlocksWith}
use Rattle.kit_behaviour.specs.Replacement.{replace_op, replace}
use Rattle.kit_behaviour.specs.InsertedConstants.{OldOrNewName, Old, New, Made, put_if, put_args, old, put_ops, put_in, constant_of, use_of, OpsUnmade}
use Rattle.kit_behaviour.specs.Rules.{operands}
use Rattle.kit_behaviour.specs.KnownOperands.{const_defs}
use Rattle.kit_behaviour.proofs.Lattice.ReplacementBehaviour.{replace_left}
use Rattle.kit_behaviour.proofs.Propagation.InsertionLemmas.{put_left}
use Rattle.kit_behaviour.proofs.Propagation.ScopeLemmas.{in_split}

consts_replaced : {V : Type 0} (s : V → V) (ops : List (Op V)) → const_defs (map (replace_op s) ops) ≡ const_defs ops
consts_replaced s [] = refl
consts_replaced s (Const r n ∷ ops) = ap (λ l. r ∷ l) (consts_replaced s ops)
consts_replaced s (Calc a w r x y ∷ ops) = consts_replaced s ops
consts_replaced s (Emit x ∷ ops) = consts_replaced s ops
consts_replaced s (Call rs c xs ∷ ops) = consts_replaced s ops
consts_replaced s (Branch t xs e es ∷ ops) = consts_replaced s ops
consts_replaced s (Return xs ∷ ops) = consts_replaced s ops

-- each known argument and each known result of a fold has its constant
abbrev pub Full : {V : Type 0} → (V → Bool) → Made V → FunctionFacts V → List V → Type 0
Full {V} want m k vs = (v : V) → In v vs → want v ≡ true → (n : ℕ) → k.of v ≡ Known n → m v ≡ Some n

abbrev pub OpsFull : {V : Type 0} → (V → Bool) → Made V → FunctionFacts V → List (Op V) → Type 0
OpsFull want m k [] = Unit {0}
OpsFull want m k (Calc a w r x y ∷ ops) = Full want m k (r ∷ []) × OpsFull want m k ops
OpsFull want m k (Const r n ∷ ops) = OpsFull want m k ops
OpsFull want m k (Emit x ∷ ops) = OpsFull want m k ops
OpsFull want m k (Call rs c xs ∷ ops) = OpsFull want m k ops
OpsFull want m k (Branch s xs e es ∷ ops) = OpsFull want m k ops
OpsFull want m k (Return xs ∷ ops) = OpsFull want m k ops

pub record PutsAll {V : Type 0} (want : V → Bool) (m : Made V) (k : FunctionFacts V) (f : Option (Fun V)) : Type 0 where
  pub arguments : (b : ℕ) → k.runs b ≡ true → Full want m k (arguments_in f b)
  pub ops : (b : ℕ) → k.runs b ≡ true → OpsFull want m k (left_in f b 0)

module _ {V : Type 0} (want : V → Bool) (m : Made V) (k : FunctionFacts V) (f : Option (Fun V)) (all : PutsAll want m k f) (others : (b : ℕ) → OpsUnmade m (left_in f b 0)) (closed : AreClosedFacts f k) (sees : BlocksWith f (λ a op. AllIn (operands op) a)) where
  -- y names a constant of the function after the pass
  abbrev pub IsConstant : OldOrNewName V → Type 0
  IsConstant y = (b : ℕ) × In y (const_defs (left_in (replace (use_of m) (put_in m f)) b 0))

  abbrev Consts : ℕ → List (OldOrNewName V)
  Consts b = const_defs (put_args m (arguments_in f b) (put_ops m (left_in f b 0)))

  is_constant : (b : ℕ) (y : OldOrNewName V) → In y (Consts b) → IsConstant y
  is_constant b y i =
      (b, subst (In y) (sym (ap const_defs (replace_left (use_of m) (put_in m f) b 0) ∙ consts_replaced (use_of m) (left_in (put_in m f) b 0) ∙ ap const_defs (put_left m f b))) i)

  -- in scope: what is known is named by a constant
  abbrev Named : List V → Type 0
  Named a = (x : V) → In x a → want x ≡ true → (n : ℕ) → k.of x ≡ Known n → IsConstant (use_of m (Old x))

  put_has : (y : OldOrNewName V) (o : Option ℕ) (v : V) (rest : List (Op (OldOrNewName V))) → In y (const_defs rest) → In y (const_defs (put_if o v rest))
  put_has y None v rest i = i
  put_has y (Some n) v rest i = inr i

  args_has : (y : OldOrNewName V) (vs : List V) (rest : List (Op (OldOrNewName V))) → In y (const_defs rest) → In y (const_defs (put_args m vs rest))
  args_has y [] rest i = i
  args_has y (v ∷ vs) rest i = args_has y vs (put_if (m v) v rest) (put_has y (m v) v rest i)

  put_new : (x v : V) (o : Option ℕ) (n : ℕ) (rest : List (Op (OldOrNewName V))) → x ≡ v → o ≡ Some n → In (New x) (const_defs (put_if o v rest))
  put_new x v None n rest q e = absurd (cc e)
  put_new x v (Some j) n rest q e = inl (ap New q)

  args_new : (x : V) (n : ℕ) (vs : List V) (rest : List (Op (OldOrNewName V))) → m x ≡ Some n → In x vs → In (New x) (const_defs (put_args m vs rest))
  args_new x n [] rest e i = absurd i
  args_new x n (v ∷ vs) rest e i =
      ⊎_elim (λ q. args_has (New x) vs (put_if (m v) v rest) (put_new x v (m v) n rest q (ap m (sym q) ∙ e))) (λ j. args_new x n vs (put_if (m v) v rest) e j) i

  -- the use of a value that has a constant, and of one that has none
  use_made : (x : V) (n : ℕ) → m x ≡ Some n → IsConstant (New x) → IsConstant (use_of m (Old x))
  use_made x n e c = subst (λ o. IsConstant (constant_of o x)) (sym e) c

  use_unmade : (x : V) → m x ≡ None → IsConstant (Old x) → IsConstant (use_of m (Old x))
  use_unmade x e c = subst (λ o. IsConstant (constant_of o x)) (sym e) c

  unknown_none : (x : V) (rs : List V) (n : ℕ) → AllUnknown k rs → In x rs → k.of x ≡ Known n → ⊥
  unknown_none x [] n u i e = i
  unknown_none x (r ∷ rs) n u i e =
      ⊎_elim (λ q. let bad : Unknown ≡ Known n = sym u.0 ∙ ap k.of (sym q) ∙ e in cc bad) (λ j. unknown_none x rs n u.1 j e) i

  -- where block b has these constants, what its operations define is named
  ops_named : (b : ℕ) (a : List V) (ops : List (Op V)) → ((y : OldOrNewName V) → In y (const_defs (put_ops m ops)) → In y (Consts b)) → Named a → OpsFull want m k ops → OpsUnmade m ops → OpsClosed f k ops → OpsWith (λ a op. AllIn (operands op) a) a ops → OpsWith (λ c op. Named c) a ops × Named (all_defs ops)
  ops_named b a [] has h w u c s = (tt, λ x i wx n e. absurd i)
  ops_named b a (Const r j ∷ ops) has h w u c s =
      let here : Named (r ∷ []) = λ x i wx n e. ⊎_elim (λ q. use_unmade x (ap m q ∙ u.0) (is_constant b (Old x) (has (Old x) (inl (ap Old q))))) (λ z. absurd z) i in
      let rest = ops_named b (r ∷ a) ops (λ y i. has y (inr i)) (λ x i wx n e. ⊎_elim (λ q. here x (inl q) wx n e) (λ z. h x z wx n e) i) w u.1 c.1 s.1 in
      ((h, rest.0), λ x i wx n e. ⊎_elim (λ q. here x (inl q) wx n e) (λ z. rest.1 x z wx n e) i)
  ops_named b a (Calc o t r p q ∷ ops) has h w u c s =
      let here : Named (r ∷ []) = λ x i wx n e. let z = w.0 x i wx n e in use_made x n z (is_constant b (New x) (has (New x) (⊎_elim (λ g. put_new x r (m r) n (old (Calc o t r p q) ∷ put_ops m ops) g (ap m (sym g) ∙ z)) (λ g. absurd g) i))) in
      let rest = ops_named b (r ∷ a) ops (λ y i. has y (put_has y (m r) r (old (Calc o t r p q) ∷ put_ops m ops) i)) (λ x i wx n e. ⊎_elim (λ g. here x (inl g) wx n e) (λ z. h x z wx n e) i) w.1 u c.1 s.1 in
      ((h, rest.0), λ x i wx n e. ⊎_elim (λ g. here x (inl g) wx n e) (λ z. rest.1 x z wx n e) i)
  ops_named b a (Emit p ∷ ops) has h w u c s = let rest = ops_named b a ops has h w u c.1 s.1 in ((h, rest.0), rest.1)
  ops_named b a (Call rs g xs ∷ ops) has h w u c s =
      let rest = ops_named b (rs ++ a) ops has (λ x i wx n e. ⊎_elim (λ j. absurd (unknown_none x rs n c.0 j e)) (λ j. h x j wx n e) (in_split x rs a i)) w u.1 c.1 s.1 in
      ((h, rest.0), λ x i wx n e. ⊎_elim (λ j. absurd (unknown_none x rs n c.0 j e)) (λ j. rest.1 x j wx n e) (in_split x rs (all_defs ops) i))
  ops_named b a (Branch t xs e es ∷ ops) has h w u c s = let rest = ops_named b a ops has h w u c.1 s.1 in ((h, rest.0), rest.1)
  ops_named b a (Return xs ∷ ops) has h w u c s = let rest = ops_named b a ops has h w u c.1 s.1 in ((h, rest.0), rest.1)

  takes_named : (b : ℕ) → k.runs b ≡ true → Named (arguments_in f b)
  takes_named b r x i wx n e =
      let z = all.arguments b r x i wx n e in
      use_made x n z (is_constant b (New x) (args_new x n (arguments_in f b) (put_ops m (left_in f b 0)) z i))

  block_named : (b : ℕ) (a : List V) → k.runs b ≡ true → Named a → OpsWith (λ a op. AllIn (operands op) a) a (left_in f b 0) → OpsWith (λ c op. Named c) a (left_in f b 0) × Named (all_defs (left_in f b 0))
  block_named b a r h s = ops_named b a (left_in f b 0) (λ y i. args_has y (arguments_in f b) (put_ops m (left_in f b 0)) i) h (all.ops b r) (others b) (closed.ops b r) s

  entry_named : Named (entry_values f)
  entry_named x i wx n e =
      let h = takes_named 0 closed.entry_runs in
      ⊎_elim (λ j. h x j wx n e) (λ j. (block_named 0 (arguments_in f 0) closed.entry_runs h (sees 0)).1 x j wx n e) (in_split x (arguments_in f 0) (all_defs (left_in f 0 0)) i)

  start_named : (b : ℕ) → k.runs b ≡ true → Named (at_start f b)
  start_named zero r x i wx n e = takes_named 0 r x i wx n e
  start_named (suc b) r x i wx n e = ⊎_elim (λ j. takes_named (suc b) r x j wx n e) (λ j. entry_named x j wx n e) (in_split x (arguments_in f (suc b)) (entry_values f) i)

  -- in each block known to run each value in scope that is known is used by the name of a constant
  pub known_are_constants : (b : ℕ) → k.runs b ≡ true → OpsWith (λ a op. Named a) (at_start f b) (left_in f b 0)
  known_are_constants b r = (block_named b (at_start f b) r (start_named b r) (sees b)).0
