-- After constants are put in, each operand that the result's own most precise facts know names a constant.
use Rattle.std.proofs.Common.{◌≡◌, ◌⊎◌, ⊎_elim, inl, inr, ℕ, Bool, true, List, [], ◌∷◌, ◌++◌, Option, Some, None, refl, sym, ap, ◌∙◌, subst, zero, suc}
use Rattle.std.specs.Prelude.{map, slice_get}
use Rattle.kit_behaviour.specs.Machine.{Block, ops_left, AllEdges, Edge, Op, Const, Calc, Emit, Call, Branch, Return, Fun, left_in, arguments_in}
use Rattle.kit_behaviour.specs.Renaming.{rename_op, AllNamed, EdgeNamed, OpNamed, OpsNamed, same_block}
use Rattle.kit_behaviour.specs.Facts.{all_forwarded, Known, FunctionFacts, AreMostPreciseFacts}
use Rattle.kit_behaviour.specs.Scopes.{is_in, In, AllIn, defs, at_start, OpsWith}
use Rattle.kit_behaviour.specs.Replacement.{replace_op}
use Rattle.kit_behaviour.specs.InsertedConstants.{OldOrNewName, Old, same_name, Made, put_if, put_args, old, put_before, put_ops, constant_of, use_of}
use Rattle.kit_behaviour.specs.Rules.{all_operands, blocks_operands, uses_in, operands, Rules}
use Rattle.kit_behaviour.specs.ConstantPropagation.{propagated, Wants, WantsUsed, made_of, with_facts}
use Rattle.kit_behaviour.specs.KnownOperands.{const_defs, NamesConstant, KnownAreConstants}
use Rattle.kit_behaviour.specs.Numbering.{place_fun, HasPlace, AnyBlock, NamesAreDefined}
use Rattle.kit_behaviour.specs.Places.{Place, same_place}
use Rattle.kit_behaviour.proofs.Behaviour.FiniteLists.{in_is}
use Rattle.kit_behaviour.proofs.Behaviour.EdgeLemmas.{map_append, gives_replaced}
use Rattle.kit_behaviour.proofs.Numbering.PlaceEquality.{place_law}
use Rattle.kit_behaviour.proofs.Numbering.NumberingBehaviour.{place_name, place_left}
use Rattle.kit_behaviour.proofs.Propagation.ScopeLemmas.{in_split, in_append}
use Rattle.kit_behaviour.proofs.Numbering.DefinedNames.{scoped_defined}
use Rattle.kit_behaviour.proofs.Propagation.PropagationBehaviour.{same_name_law}
use Rattle.kit_behaviour.proofs.Numbering.RuleLemmas.{rules_scoped, made_known, made_may_put}
use Rattle.kit_behaviour.proofs.Propagation.FactsAfterwards.{kept_values, kept_blocks}
use Rattle.kit_behaviour.proofs.Numbering.NumberingRules.{operands_under, all_map}
use Rattle.kit_behaviour.proofs.Propagation.AllKnownInserted.{known_named}
use Rattle.kit_behaviour.proofs.Lattice.RenamedFacts.{by_name, by_name_of, best_by_name}
use Rattle.kit_behaviour.proofs.Propagation.PropagationRules.{left_facts, facts_scoped}

-- a member of what a map gives

module _ {A B : Type 0} (g : A → B) where
  map_in : (y : B) (xs : List A) → In y (map g xs) → (x : A) × In x xs × (y ≡ g x)
  map_in y [] i = absurd i
  map_in y (x ∷ xs) i = ⊎_elim (λ e. (x, inl refl, e)) (λ j. let h = map_in y xs j in (h.0, inr h.1, h.2)) i

operands_replaced : {V : Type 0} (s : V → V) (op : Op V) → operands (replace_op s op) ≡ map s (operands op)
operands_replaced s (Const r n) = refl
operands_replaced s (Calc a w r x y) = refl
operands_replaced s (Emit x) = refl
operands_replaced s (Call rs c xs) = refl
operands_replaced s (Branch t xs e es) = ap (λ l. map s xs ++ l) (gives_replaced s (e ∷ es)) ∙ sym (map_append s xs (all_forwarded (e ∷ es)))
operands_replaced s (Return xs) = refl

consts_under : {V W : Type 0} (r : V → W) (ops : List (Op V)) → const_defs (map (rename_op r same_block) ops) ≡ map r (const_defs ops)
consts_under r [] = refl
consts_under r (Const v n ∷ ops) = ap (λ l. r v ∷ l) (consts_under r ops)
consts_under r (Calc a w v x y ∷ ops) = consts_under r ops
consts_under r (Emit x ∷ ops) = consts_under r ops
consts_under r (Call vs c xs ∷ ops) = consts_under r ops
consts_under r (Branch s xs e es ∷ ops) = consts_under r ops
consts_under r (Return xs ∷ ops) = consts_under r ops

-- each name that occurs is named

module _ {V : Type 0} (N : V → Type 0) (S : ℕ → Type 0) where
  one_named : (y : V) (xs : List V) → AllNamed N xs → In y xs → N y
  one_named y [] n i = absurd i
  one_named y (x ∷ xs) n i = ⊎_elim (λ e. subst N (sym e) n.0) (λ j. one_named y xs n.1 j) i

  gives_one : (y : V) (es : List (Edge V)) → AllEdges (EdgeNamed N S) es → In y (all_forwarded es) → N y
  gives_one y [] n i = absurd i
  gives_one y (e ∷ es) n i = ⊎_elim (λ l. one_named y e.forwards n.0.1 l) (λ r. gives_one y es n.1 r) (in_split y e.forwards (all_forwarded es) i)

  operand_named : (y : V) (op : Op V) → OpNamed N S op → In y (operands op) → N y
  operand_named y (Const r m) n i = absurd i
  operand_named y (Calc a w r x z) n i = one_named y (x ∷ z ∷ []) (n.1, (n.2, tt)) i
  operand_named y (Emit x) n i = one_named y (x ∷ []) (n, tt) i
  operand_named y (Call rs c xs) n i = one_named y xs n.1 i
  operand_named y (Branch s xs e es) n i = ⊎_elim (λ l. one_named y xs n.0 l) (λ r. gives_one y (e ∷ es) n.1 r) (in_split y xs (all_forwarded (e ∷ es)) i)
  operand_named y (Return xs) n i = one_named y xs n i

  pub use_named : (y : V) (op : Op V) (ops : List (Op V)) → OpsNamed N S ops → In op ops → In y (operands op) → N y
  use_named y op [] n j i = absurd j
  use_named y op (o ∷ ops) n j i = ⊎_elim (λ e. operand_named y o n.0 (subst (λ z. In y (operands z)) e i)) (λ k. use_named y op ops n.1 k i) j

-- the operations that were there, among those with constants put in

module _ {V : Type 0} (m : Made V) where
  -- it has no operand, or it was one of these
  abbrev Was : List (Op V) → Op (OldOrNewName V) → Type 0
  Was ops o = ((y : OldOrNewName V) → In y (operands o) → ⊥) ⊎ ((op : Op V) × In op ops × (o ≡ old op))

  was_put : (ops : List (Op V)) (o : Op (OldOrNewName V)) (t : Option ℕ) (v : V) (rest : List (Op (OldOrNewName V))) → (In o rest → Was ops o) → In o (put_if t v rest) → Was ops o
  was_put ops o None v rest h i = h i
  was_put ops o (Some n) v rest h i = ⊎_elim (λ e. inl (λ y j. subst (λ z. In y (operands z)) e j)) (λ k. h k) i

  was_args : (ops : List (Op V)) (o : Op (OldOrNewName V)) (vs : List V) (rest : List (Op (OldOrNewName V))) → (In o rest → Was ops o) → In o (put_args m vs rest) → Was ops o
  was_args ops o [] rest h i = h i
  was_args ops o (v ∷ vs) rest h i = was_args ops o vs (put_if (m v) v rest) (λ j. was_put ops o (m v) v rest h j) i

  was_before : (ops : List (Op V)) (o : Op (OldOrNewName V)) (op : Op V) (rest : List (Op (OldOrNewName V))) → (In o rest → Was ops o) → In o (put_before m op rest) → Was ops o
  was_before ops o (Calc a w r x y) rest h i = was_put ops o (m r) r rest h i
  was_before ops o (Const r n) rest h i = h i
  was_before ops o (Emit x) rest h i = h i
  was_before ops o (Call rs c xs) rest h i = h i
  was_before ops o (Branch s xs e es) rest h i = h i
  was_before ops o (Return xs) rest h i = h i

  more : (op : Op V) (ops : List (Op V)) (o : Op (OldOrNewName V)) → Was ops o → Was (op ∷ ops) o
  more op ops o w = ⊎_elim (λ n. inl n) (λ h. inr (h.0, inr h.1, h.2)) w

  was_ops : (ops : List (Op V)) (o : Op (OldOrNewName V)) → In o (put_ops m ops) → Was ops o
  was_ops [] o i = absurd i
  was_ops (op ∷ ops) o i = was_before (op ∷ ops) o op (old op ∷ put_ops m ops) (λ j. ⊎_elim (λ e. inr (op, inl refl, e)) (λ k. more op ops o (was_ops ops o k)) j) i

-- two things of an operation under the same scope

module _ {V : Type 0} (T T' : List V → Op V → Type 0) (P : Op V → Type 0) (both : (a : List V) (op : Op V) → T a op → T' a op → P op) where
  each_op : (a : List V) (ops : List (Op V)) → OpsWith T a ops → OpsWith T' a ops → (op : Op V) → In op ops → P op
  each_op a [] t t' op i = absurd i
  each_op a (o ∷ ops) t t' op i = ⊎_elim (λ e. subst P (sym e) (both a o t.0 t'.0)) (λ j. each_op (defs o ++ a) ops t.1 t'.1 op j) i

-- an operand has a use

op_uses : {V : Type 0} (v : V) (op : Op V) (ops : List (Op V)) → In op ops → In v (operands op) → In v (all_operands ops)
op_uses v op [] i j = absurd i
op_uses v op (o ∷ ops) i j =
    in_append v (operands o) (all_operands ops) (⊎_elim (λ e. inl (subst (λ z. In v (operands z)) e j)) (λ k. inr (op_uses v op ops k j)) i)

block_uses : {V : Type 0} (v : V) (op : Op V) (ks : List (Block V)) (b : ℕ) → In op (ops_left (slice_get ks b) 0) → In v (operands op) → In v (blocks_operands ks)
block_uses v op [] b i j = absurd i
block_uses v op (k ∷ ks) zero i j = in_append v (all_operands k.ops) (blocks_operands ks) (inl (op_uses v op k.ops i j))
block_uses v op (k ∷ ks) (suc b) i j = in_append v (all_operands k.ops) (blocks_operands ks) (inr (block_uses v op ks b i j))

pub use_is : (f : Option (Fun Place)) (b : ℕ) (op : Op Place) (v : Place) → In op (left_in f b 0) → In v (operands op) → is_in same_place v (uses_in f) ≡ true
use_is None b op v i j = absurd i
use_is (Some f) b op v i j = in_is same_place place_law v (blocks_operands f) (block_uses v op f b i j)

in_all : {V : Type 0} (x : V) (xs a : List V) → AllIn xs a → In x xs → In x a
in_all x [] a h i = absurd i
in_all x (y ∷ ys) a h i = ⊎_elim (λ e. subst (λ z. In z a) (sym e) h.0) (λ j. in_all x ys a h.1 j) i

-- where an operand after the pass comes from

module _ (want : Wants) (f : Option (Fun Place)) (k : FunctionFacts Place) (rules : Rules f) where
  -- the place of a name after the pass
  abbrev pub placed_name : OldOrNewName Place → Place
  placed_name = place_name (same_name same_place) (same_name_law same_place place_law) (with_facts want f k)

  -- an operand is the place of what a use of an operand z of block b names
  pub record UseOrigin (b : ℕ) (x : Place) : Type 0 where
    pub z : Place
    pub op : Op Place
    pub op_in : In op (left_in f b 0)
    pub z_in : In z (operands op)
    pub is : x ≡ placed_name (use_of (made_of want f k) (Old z))
    pub has : HasPlace (same_name same_place) (with_facts want f k) (use_of (made_of want f k) (Old z))

  pub use_origin : (b : ℕ) (op : Op Place) (x : Place) → In op (left_in (propagated want f k) b 0) → In x (operands op) → UseOrigin b x
  use_origin b op x i j =
      let law = same_name_law same_place place_law in
      let same = same_name same_place in
      let g = with_facts want f k in
      let m = made_of want f k in
      let defined = scoped_defined same law g (facts_scoped want f k rules) in
      let at = map_in (rename_op placed_name same_block) op (left_in g b 0) (subst (In op) (place_left same law g b) i) in
      let used = map_in placed_name x (operands at.0) (subst (In x) (ap operands at.2 ∙ operands_under placed_name at.0) j) in
      let was_at = map_in (replace_op (use_of m)) at.0 (put_args m (arguments_in f b) (put_ops m (left_in f b 0))) (subst (In at.0) (left_facts want f k rules b) at.1) in
      let was_use = map_in (use_of m) used.0 (operands was_at.0) (subst (In used.0) (ap operands was_at.2 ∙ operands_replaced (use_of m) was_at.0) used.1) in
      let has : HasPlace same g used.0 = use_named (HasPlace same g) AnyBlock used.0 at.0 (left_in g b 0) (defined.ops b) at.1 used.1 in
      ⊎_elim
      (λ none. absurd (none was_use.0 was_use.1))
      (λ w.
      let old_use = map_in Old was_use.0 (operands w.0) (subst (In was_use.0) (ap operands w.2 ∙ operands_under Old w.0) was_use.1) in
      let y : used.0 ≡ use_of m (Old old_use.0) = was_use.2 ∙ ap (use_of m) old_use.2 in
      record { z = old_use.0; op = w.0; op_in = w.1; z_in = old_use.1; is = used.2 ∙ ap placed_name y; has = subst (HasPlace same g) y has })
      (was_args m (left_in f b 0) was_at.0 (arguments_in f b) (put_ops m (left_in f b 0)) (was_ops m (left_in f b 0) was_at.0) was_at.1)

module _ (want : Wants) (wants : WantsUsed want) (f : Option (Fun Place)) (k : FunctionFacts Place) (rules : Rules f) (best : AreMostPreciseFacts f k) where
  abbrev m : Made Place
  m = made_of want f k

  abbrev same : OldOrNewName Place → OldOrNewName Place → Bool
  same = same_name same_place

  abbrev g : Option (Fun (OldOrNewName Place))
  g = with_facts want f k

  abbrev q : Option (Fun Place)
  q = place_fun same g

  abbrev r : OldOrNewName Place → Place
  r = place_name same (same_name_law same_place place_law) g

  defined : NamesAreDefined same g
  defined = scoped_defined same (same_name_law same_place place_law) g (facts_scoped want f k rules)

  -- before the places are numbered again
  old_named : (b : ℕ) → k.runs b ≡ true → (op : Op Place) → In op (left_in f b 0) → (x : Place) → In x (operands op) → (n : ℕ) → k.of x ≡ Known n → NamesConstant g (use_of m (Old x))
  old_named b h op i x j n e =
      each_op (λ a o. AllIn (operands o) a) (λ a o. (x : Place) → In x a → want f x ≡ true → (n : ℕ) → k.of x ≡ Known n → NamesConstant g (use_of m (Old x))) (λ o. (x : Place) → In x (operands o) → want f x ≡ true → (n : ℕ) → k.of x ≡ Known n → NamesConstant g (use_of m (Old x)))
      (λ a o s t x j wx n e. t x (in_all x (operands o) a s j) wx n e)
      (at_start f b) (left_in f b 0) (rules.sees b) (known_named want f k rules best b h) op i x j (wants f x (use_is f b op x i j)) n e

  -- a use after the pass is known only where the old value is
  use_known : (l : FunctionFacts (OldOrNewName Place)) → ((v : Place) → l.of (Old v) ≡ k.of v) → (x : Place) (n : ℕ) → l.of (use_of m (Old x)) ≡ Known n → (i : ℕ) × (k.of x ≡ Known i)
  use_known l kept x n e = by_made (m x) refl
    where
      by_made : (o : Option ℕ) → m x ≡ o → (i : ℕ) × (k.of x ≡ Known i)
      by_made None w = (n, sym (kept x) ∙ ap l.of (sym (ap (λ o. constant_of o x) w)) ∙ e)
      by_made (Some i) w = (i, made_known want f k x i w)

  names_placed : (y : OldOrNewName Place) → NamesConstant g y → NamesConstant q (r y)
  names_placed y c =
      (c.0, subst (In (r y)) (sym (ap const_defs (place_left same (same_name_law same_place place_law) g c.0) ∙ consts_under r (left_in g c.0 0))) (all_map r y (const_defs (left_in g c.0 0)) c.1))

  pub known_placed : (l : FunctionFacts Place) → AreMostPreciseFacts q l → KnownAreConstants q l
  known_placed l best_l b h op i x j n e =
      let law = same_name_law same_place place_law in
      let gl = by_name same law g l in
      let best_g = best_by_name same law g defined l best_l in
      let may = made_may_put want f k rules in
      let scoped = rules_scoped f rules in
      let values = kept_values m k f may scoped best gl best_g in
      let run : k.runs b ≡ true = sym (kept_blocks m k f may scoped best gl best_g b) ∙ h in
      let o = use_origin want f k rules b op x i j in
      let known : gl.of (use_of m (Old o.z)) ≡ Known n = sym (by_name_of same law g l (use_of m (Old o.z)) o.has) ∙ ap l.of (sym o.is) ∙ e in
      let z = use_known gl values o.z n known in
      subst (NamesConstant q) (sym o.is) (names_placed (use_of m (Old o.z)) (old_named b run o.op o.op_in o.z o.z_in z.0 z.1))
