-- Where each name has one definition, naming values by their places gives a function that keeps the rules.
use Rattle.std.proofs.Common.{◌≡◌, ◌⊎◌, ⊎_elim, inl, inr, ℕ, zero, suc, ◌+◌, ◌<◌, Bool, true, List, [], ◌∷◌, ◌++◌, length, Option, Some, None, refl, sym, ap, ◌∙◌, subst, arith}
use Rattle.std.specs.Prelude.{map, slice_get, unwrap_or}
use Rattle.kit_behaviour.specs.Machine.{Op, Const, Calc, Emit, Call, Branch, Return, Block, Fun, ops_left, left_in, arguments_of, arguments_in, size}
use Rattle.kit_behaviour.specs.Renaming.{rename_edge, rename_op, same_block}
use Rattle.kit_behaviour.specs.Scopes.{In, AllIn, defs, all_defs, entry_values, at_start, SameLength, OpsWith, BlocksWith}
use Rattle.kit_behaviour.specs.Facts.{all_forwarded}
use Rattle.kit_behaviour.specs.Rules.{operands, is_terminator, EndsWell, EdgeFits, EdgesOfOpFit, AllEdgesFit, from, OpsPlaced, Rules}
use Rattle.kit_behaviour.specs.Numbering.{place_of, place_fun}
use Rattle.kit_behaviour.specs.Places.{Place, Arg, Res}
use Rattle.kit_behaviour.proofs.Behaviour.SizeLemmas.{place_size}
use Rattle.kit_behaviour.proofs.Behaviour.FrameLemmas.{IsSameness}
use Rattle.kit_behaviour.proofs.Behaviour.EdgeLemmas.{edges_map, map_append, gives_renamed}
use Rattle.kit_behaviour.proofs.Propagation.ScopeLemmas.{in_append}
use Rattle.kit_behaviour.proofs.Numbering.NumberingBehaviour.{block_of, name_op, name_in, at_place, place_name, place_left, place_takes}
use Rattle.kit_behaviour.proofs.Numbering.DefinedNames.{has_place}

abbrev pub name_at : {V : Type 0} → Option (Fun V) → Place → Option V
name_at None a = None
name_at (Some f) a = name_in (slice_get f (block_of a)) a

pub arg_name : {V : Type 0} (f : Option (Fun V)) (b i : ℕ) (v : V) → name_at f (Arg b i) ≡ Some v → slice_get (arguments_in f b) i ≡ Some v
arg_name None b i v e = absurd (cc e)
arg_name {V} (Some f) b i v e = by_block (slice_get f b) e
  where
    by_block : (k : Option (Block V)) → name_in k (Arg b i) ≡ Some v → slice_get (arguments_of k) i ≡ Some v
    by_block None h = absurd (cc h)
    by_block (Some k) h = h

pub res_name : {V : Type 0} (f : Option (Fun V)) (b o i : ℕ) (v : V) → name_at f (Res b o i) ≡ Some v → name_op (slice_get (left_in f b 0) o) i ≡ Some v
res_name None b o i v e = absurd (cc e)
res_name {V} (Some f) b o i v e = by_block (slice_get f b) e
  where
    by_block : (k : Option (Block V)) → name_in k (Res b o i) ≡ Some v → name_op (slice_get (ops_left k 0) o) i ≡ Some v
    by_block None h = absurd (cc h)
    by_block (Some k) h = h

-- each name is at one place
abbrev pub Distinct : {V : Type 0} → Option (Fun V) → Type 0
Distinct {V} f = (v : V) (a b : Place) → name_at f a ≡ Some v → name_at f b ≡ Some v → a ≡ b

-- the same of the places of a set of blocks
abbrev pub DistinctOn : {V : Type 0} → (ℕ → Bool) → Option (Fun V) → Type 0
DistinctOn {V} r f = (v : V) (a b : Place) → r (block_of a) ≡ true → r (block_of b) ≡ true → name_at f a ≡ Some v → name_at f b ≡ Some v → a ≡ b

pub slice_in : {V : Type 0} (v : V) (xs : List V) (i : ℕ) → slice_get xs i ≡ Some v → In v xs
slice_in v [] i e = absurd (cc e)
slice_in v (x ∷ xs) zero e = let q : x ≡ v = cc e in inl (sym q)
slice_in v (x ∷ xs) (suc i) e = inr (slice_in v xs i e)

defs_at : {V : Type 0} (v : V) (ops : List (Op V)) (o i : ℕ) → name_op (slice_get ops o) i ≡ Some v → In v (all_defs ops)
defs_at v [] o i e = absurd (cc e)
defs_at v (op ∷ ops) zero i e = in_append v (defs op) (all_defs ops) (inl (slice_in v (defs op) i e))
defs_at v (op ∷ ops) (suc o) i e = in_append v (defs op) (all_defs ops) (inr (defs_at v ops o i e))

pub block_at : {V : Type 0} (v : V) (k : Option (Block V)) (a : Place) → name_in k a ≡ Some v → In v (arguments_of k) ⊎ In v (all_defs (ops_left k 0))
block_at v None a e = absurd (cc e)
block_at v (Some k) (Arg b i) e = inl (slice_in v k.arguments i e)
block_at v (Some k) (Res b o i) e = inr (defs_at v k.ops o i e)

map_from : {V : Type 0} (r : V → Place) (c : ℕ → Place) (i : ℕ) (xs : List V) → ((n : ℕ) (v : V) → slice_get xs n ≡ Some v → r v ≡ c (i + n)) → map r xs ≡ from c i (length (map r xs))
map_from r c i [] h = refl
map_from r c i (x ∷ xs) h =
    let z : i + 0 ≡ i = omega arith in
    ap (λ y. y ∷ map r xs) (h 0 x refl ∙ ap c z)
    ∙ ap (λ l. c i ∷ l) (map_from r c (suc i) xs (λ n v e. let s : i + suc n ≡ suc i + n = omega arith in h (suc n) v e ∙ ap c s))

pub all_map : {V W : Type 0} (r : V → W) (x : V) (xs : List V) → In x xs → In (r x) (map r xs)
all_map r x [] i = i
all_map r x (y ∷ ys) i = ⊎_elim (λ e. inl (ap r e)) (λ j. inr (all_map r x ys j)) i

each_map : {V W : Type 0} (r : V → W) (xs ys : List V) → AllIn xs ys → AllIn (map r xs) (map r ys)
each_map r [] ys h = tt
each_map r (x ∷ xs) ys h = (all_map r x ys h.0, each_map r xs ys h.1)

module _ {V W : Type 0} (r : V → W) where
  pub defs_under : (op : Op V) → defs (rename_op r same_block op) ≡ map r (defs op)
  defs_under (Const v n) = refl
  defs_under (Calc a w v x y) = refl
  defs_under (Emit x) = refl
  defs_under (Call vs c xs) = refl
  defs_under (Branch s xs e es) = refl
  defs_under (Return xs) = refl

  all_defs_under : (ops : List (Op V)) → all_defs (map (rename_op r same_block) ops) ≡ map r (all_defs ops)
  all_defs_under [] = refl
  all_defs_under (op ∷ ops) =
      ap (λ l. l ++ all_defs (map (rename_op r same_block) ops)) (defs_under op) ∙ ap (λ l. map r (defs op) ++ l) (all_defs_under ops) ∙ sym (map_append r (defs op) (all_defs ops))

  pub operands_under : (op : Op V) → operands (rename_op r same_block op) ≡ map r (operands op)
  operands_under (Const v n) = refl
  operands_under (Calc a w v x y) = refl
  operands_under (Emit x) = refl
  operands_under (Call vs c xs) = refl
  operands_under (Branch s xs e es) = ap (λ l. map r xs ++ l) (gives_renamed r same_block (e ∷ es)) ∙ sym (map_append r xs (all_forwarded (e ∷ es)))
  operands_under (Return xs) = refl

  pub terminator_under : (op : Op V) → is_terminator (rename_op r same_block op) ≡ is_terminator op
  terminator_under (Const v n) = refl
  terminator_under (Calc a w v x y) = refl
  terminator_under (Emit x) = refl
  terminator_under (Call vs c xs) = refl
  terminator_under (Branch s xs e es) = refl
  terminator_under (Return xs) = refl

  pub ends_under : (ops : List (Op V)) → EndsWell ops → EndsWell (map (rename_op r same_block) ops)
  ends_under [] e = e
  ends_under (op ∷ []) e = terminator_under op ∙ e
  ends_under (op ∷ next ∷ ops) e = (terminator_under op ∙ e.0, ends_under (next ∷ ops) e.1)

  sees_under : (a : List V) (ops : List (Op V)) → OpsWith (λ a op. AllIn (operands op) a) a ops → OpsWith (λ a op. AllIn (operands op) a) (map r a) (map (rename_op r same_block) ops)
  sees_under a [] s = tt
  sees_under a (op ∷ ops) s = (
    subst (λ l. AllIn l (map r a)) (sym (operands_under op)) (each_map r (operands op) a s.0),
    subst (λ l. OpsWith (λ a op. AllIn (operands op) a) l (map (rename_op r same_block) ops)) (map_append r (defs op) a ∙ ap (λ l. l ++ map r a) (sym (defs_under op))) (sees_under (defs op ++ a) ops s.1),
  )

  pub length_under : (ts gs : List V) → SameLength ts gs → SameLength (map r ts) (map r gs)
  length_under [] [] h = tt
  length_under [] (g ∷ gs) h = absurd h
  length_under (t ∷ ts) [] h = absurd h
  length_under (t ∷ ts) (g ∷ gs) h = length_under ts gs h

  -- as many arguments in each block, and as many blocks
  abbrev AsMany : Option (Fun V) → Option (Fun W) → Type 0
  AsMany f g = ((b : ℕ) → arguments_in g b ≡ map r (arguments_in f b)) × (size g ≡ size f)

  pub edges_fit_under : (f : Option (Fun V)) (g : Option (Fun W)) → AsMany f g → (op : Op V) → EdgesOfOpFit f op → EdgesOfOpFit g (rename_op r same_block op)
  edges_fit_under f g t (Branch s xs e es) h =
      edges_map (EdgeFits f) (EdgeFits g) (rename_edge r same_block)
      (λ x (c : EdgeFits f x). record {
        count = subst (λ l. SameLength l (map r x.forwards)) (sym (t.0 x.target)) (length_under (arguments_in f x.target) x.forwards c.count);
        leads = subst (λ n. x.target < n) (sym t.1) c.leads;
      })
      (e ∷ es) h
  edges_fit_under f g t (Const v n) h = tt
  edges_fit_under f g t (Calc a w v x y) h = tt
  edges_fit_under f g t (Emit x) h = tt
  edges_fit_under f g t (Call vs c xs) h = tt
  edges_fit_under f g t (Return xs) h = tt

  fit_under : (f : Option (Fun V)) (g : Option (Fun W)) → AsMany f g → (ops : List (Op V)) → AllEdgesFit f ops → AllEdgesFit g (map (rename_op r same_block) ops)
  fit_under f g t [] h = tt
  fit_under f g t (op ∷ ops) h = (edges_fit_under f g t op h.0, fit_under f g t ops h.1)

-- the rules but for the names
pub record Shaped {V : Type 0} (f : Option (Fun V)) : Type 0 where
  pub terminated : (b : ℕ) → b < size f → EndsWell (left_in f b 0)
  pub sees : BlocksWith f (λ a op. AllIn (operands op) a)
  pub fits : (b : ℕ) → AllEdgesFit f (left_in f b 0)

-- the same of the blocks of a set
pub record ShapedOn {V : Type 0} (r : ℕ → Bool) (f : Option (Fun V)) : Type 0 where
  pub terminated : (b : ℕ) → r b ≡ true → b < size f → EndsWell (left_in f b 0)
  pub sees : (b : ℕ) → r b ≡ true → OpsWith (λ a op. AllIn (operands op) a) (at_start f b) (left_in f b 0)
  pub fits : (b : ℕ) → r b ≡ true → AllEdgesFit f (left_in f b 0)

pub shaped_on : {V : Type 0} (r : ℕ → Bool) (f : Option (Fun V)) → Shaped f → ShapedOn r f
shaped_on r f s = record { terminated = λ b e. s.terminated b; sees = λ b e. s.sees b; fits = λ b e. s.fits b }

module _ {V : Type 0} (same : V → V → Bool) (law : IsSameness same) where
  place_is : (f : Fun V) → Distinct (Some f) → (v : V) (a : Place) → name_at (Some f) a ≡ Some v → place_of same f v ≡ a
  place_is f d v a e =
      let h = has_place same law (Some f) (block_of a) v (block_at v (slice_get f (block_of a)) a e) in
      ap (λ o. unwrap_or o (Arg 0 0)) h.1 ∙ d v h.0 a (at_place same law f v h.0 h.1) e

  pub name_is : (f : Option (Fun V)) → Distinct f → (v : V) (a : Place) → name_at f a ≡ Some v → place_name same law f v ≡ a
  name_is None d v a e = absurd (cc e)
  name_is (Some f) d v a e = place_is f d v a e

  pub name_arg : (f : Option (Fun V)) (b i : ℕ) (v : V) → slice_get (arguments_in f b) i ≡ Some v → name_at f (Arg b i) ≡ Some v
  name_arg None b i v e = absurd (cc e)
  name_arg (Some f) b i v e = by_block (slice_get f b) e
    where
      by_block : (k : Option (Block V)) → slice_get (arguments_of k) i ≡ Some v → name_in k (Arg b i) ≡ Some v
      by_block None h = absurd (cc h)
      by_block (Some k) h = h

  pub name_res : (f : Option (Fun V)) (b o i : ℕ) (v : V) → name_op (slice_get (left_in f b 0) o) i ≡ Some v → name_at f (Res b o i) ≡ Some v
  name_res None b o i v e = absurd (cc e)
  name_res (Some f) b o i v e = by_block (slice_get f b) e
    where
      by_block : (k : Option (Block V)) → name_op (slice_get (ops_left k 0) o) i ≡ Some v → name_in k (Res b o i) ≡ Some v
      by_block None h = absurd (cc h)
      by_block (Some k) h = h

  module _ (f : Option (Fun V)) (d : Distinct f) where
    abbrev r : V → Place
    r = place_name same law f

    ops_placed : (b o : ℕ) (ops : List (Op V)) → ((n : ℕ) → slice_get (left_in f b 0) (o + n) ≡ slice_get ops n) → OpsPlaced b o (map (rename_op r same_block) ops)
    ops_placed b o [] at = tt
    ops_placed b o (op ∷ ops) at =
        let z : o + 0 ≡ o = omega arith in
        let here : slice_get (left_in f b 0) o ≡ Some op = ap (slice_get (left_in f b 0)) (sym z) ∙ at 0 in
        let m = map_from r (Res b o) 0 (defs op) (λ n v e. let w : 0 + n ≡ n = omega arith in name_is f d v (Res b o n) (name_res f b o n v (ap (λ q. name_op q n) here ∙ e)) ∙ ap (Res b o) (sym w)) in (
          subst (λ l. l ≡ from (Res b o) 0 (length l)) (sym (defs_under r op)) m,
          ops_placed b (suc o) ops (λ n. let s : suc o + n ≡ o + suc n = omega arith in ap (slice_get (left_in f b 0)) s ∙ at (suc n)),
        )

    start_placed : (b : ℕ) → at_start (place_fun same f) b ≡ map r (at_start f b)
    start_placed zero = place_takes same law f 0
    start_placed (suc b) =
        ap (λ l. l ++ entry_values (place_fun same f)) (place_takes same law f (suc b))
        ∙ ap (λ l. map r (arguments_in f (suc b)) ++ l)
        (ap (λ l. l ++ all_defs (left_in (place_fun same f) 0 0)) (place_takes same law f 0)
        ∙ ap (λ l. map r (arguments_in f 0) ++ l) (ap all_defs (place_left same law f 0) ∙ all_defs_under r (left_in f 0 0))
        ∙ sym (map_append r (arguments_in f 0) (all_defs (left_in f 0 0))))
        ∙ sym (map_append r (arguments_in f (suc b)) (entry_values f))

    pub placed_rules : Shaped f → Rules (place_fun same f)
    placed_rules s =
        record {
          terminated = λ b l. subst EndsWell (sym (place_left same law f b)) (ends_under r (left_in f b 0) (s.terminated b (omega (arith, l, place_size same f))));
          sees = λ b. subst (λ a. OpsWith (λ a op. AllIn (operands op) a) a (left_in (place_fun same f) b 0)) (sym (start_placed b)) (subst (OpsWith (λ a op. AllIn (operands op) a) (map r (at_start f b))) (sym (place_left same law f b)) (sees_under r (at_start f b) (left_in f b 0) (s.sees b)));
          fits = λ b. subst (AllEdgesFit (place_fun same f)) (sym (place_left same law f b)) (fit_under r f (place_fun same f) (λ t. place_takes same law f t, place_size same f) (left_in f b 0) (s.fits b));
          names = λ b. subst (OpsPlaced b 0) (sym (place_left same law f b)) (ops_placed b 0 (left_in f b 0) (λ n. let z : 0 + n ≡ n = omega arith in ap (slice_get (left_in f b 0)) z));
          args = λ b. subst (λ l. l ≡ from (Arg b) 0 (length l)) (sym (place_takes same law f b)) (map_from r (Arg b) 0 (arguments_in f b) (λ n v e. let w : 0 + n ≡ n = omega arith in name_is f d v (Arg b n) (name_arg f b n v e) ∙ ap (Arg b) (sym w)));
        }
