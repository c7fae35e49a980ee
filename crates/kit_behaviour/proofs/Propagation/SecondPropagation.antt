-- With constants for used values alone, a second pass changes nothing.
use Rattle.std.proofs.Common.{◌≡◌, ⊎_elim, inl, inr, ℕ, zero, suc, ◌+◌, Bool, true, false, List, [], ◌∷◌, Option, Some, None, refl, sym, ap, ◌∙◌, subst, arith}
use Rattle.std.specs.Prelude.{map, slice_get, option_map, length, unwrap_or, if◌then◌else◌}
use Rattle.std.proofs.lemmas.Option.{slice_get-map}
use Rattle.kit_behaviour.specs.Machine.{Edge, Op, Const, Calc, Emit, Call, Branch, Return, Block, Fun, FunctionsByPath, ops_left, left_in, arguments_in}
use Rattle.kit_behaviour.specs.Renaming.{rename_op, same_block, rename_block, rename_fun}
use Rattle.kit_behaviour.specs.Facts.{Fact, FunctionFacts, AreMostPreciseFacts}
use Rattle.kit_behaviour.specs.Scopes.{In, is_in, defs}
use Rattle.kit_behaviour.specs.Replacement.{replace_edge, replace_op, replace_block, replace}
use Rattle.kit_behaviour.specs.Rules.{operands, all_operands, blocks_operands, uses_in, Rules}
use Rattle.kit_behaviour.specs.InsertedConstants.{OldOrNewName, Old, New, same_name, Made, put_if, put_args, old, put_before, put_ops, put_block, put_in, constant_of, use_of}
use Rattle.kit_behaviour.specs.ConstantPropagation.{number_of, number_at, known_at, made_of, used_wanted, with_facts, propagated, IsSccpOfFunctions}
use Rattle.kit_behaviour.specs.Numbering.{place_fun, HasPlace}
use Rattle.kit_behaviour.specs.Places.{Place, Arg, Res, same_place}
use Rattle.kit_behaviour.proofs.Behaviour.FiniteLists.{is_in_in}
use Rattle.kit_behaviour.proofs.Numbering.PlaceEquality.{place_law}
use Rattle.kit_behaviour.proofs.Numbering.NumberingForgetsNames.{placed_renamed}
use Rattle.kit_behaviour.proofs.Numbering.NumberingBehaviour.{at_place, block_of, name_op, place_name, place_left}
use Rattle.kit_behaviour.proofs.Numbering.NumberingRules.{name_at, arg_name, res_name, block_at, name_is}
use Rattle.kit_behaviour.proofs.Numbering.DefinedNames.{has_place}
use Rattle.kit_behaviour.proofs.ControlFlow.KeptBlocks.{rules_home}
use Rattle.kit_behaviour.proofs.Propagation.InsertionLemmas.{put_left, put_takes}
use Rattle.kit_behaviour.proofs.Propagation.ScopeLemmas.{in_split}
use Rattle.kit_behaviour.proofs.Propagation.PropagationBehaviour.{same_name_law}
use Rattle.kit_behaviour.proofs.Propagation.PropagationRules.{args_count, put_count, at_op, old_place, NameOrigin, was_old, was_new, name_put, name_replaced, left_facts, facts_distinct, sccp_rules}
use Rattle.kit_behaviour.proofs.Behaviour.FrameLemmas.{IsSameness}
use Rattle.kit_behaviour.proofs.Propagation.KnownOperandLemmas.{use_is, use_origin}
use Rattle.kit_behaviour.proofs.Propagation.FactsByPlace.{place_in_is, facts_stay}
use Rattle.kit_behaviour.proofs.Numbering.NumberingStays.{numbering_stays}

-- 1. where no constant is put in, the function is the old one

module _ {V : Type 0} where
  abbrev nothing : Made V
  nothing v = None

  put_args_nothing : (vs : List V) (rest : List (Op (OldOrNewName V))) → put_args nothing vs rest ≡ rest
  put_args_nothing [] rest = refl
  put_args_nothing (v ∷ vs) rest = put_args_nothing vs rest

  put_before_nothing : (op : Op V) (rest : List (Op (OldOrNewName V))) → put_before nothing op rest ≡ rest
  put_before_nothing (Calc a w r x y) rest = refl
  put_before_nothing (Const r n) rest = refl
  put_before_nothing (Emit x) rest = refl
  put_before_nothing (Call rs c xs) rest = refl
  put_before_nothing (Branch s xs e es) rest = refl
  put_before_nothing (Return xs) rest = refl

  put_ops_nothing : (ops : List (Op V)) → put_ops nothing ops ≡ map old ops
  put_ops_nothing [] = refl
  put_ops_nothing (op ∷ ops) = put_before_nothing op (old op ∷ put_ops nothing ops) ∙ ap (λ l. old op ∷ l) (put_ops_nothing ops)

  put_blocks_nothing : (ks : List (Block V)) → map (put_block nothing) ks ≡ map (rename_block Old) ks
  put_blocks_nothing [] = refl
  put_blocks_nothing (k ∷ ks) =
      ap (λ l. record { arguments = map Old k.arguments; ops = l } ∷ map (put_block nothing) ks) (put_args_nothing k.arguments (put_ops nothing k.ops) ∙ put_ops_nothing k.ops)
      ∙ ap (λ l. rename_block Old k ∷ l) (put_blocks_nothing ks)

  put_nothing : (f : Option (Fun V)) → put_in nothing f ≡ rename_fun Old f
  put_nothing None = refl
  put_nothing (Some f) = ap Some (put_blocks_nothing f)

module _ {V : Type 0} (s : V → V) (same : (x : V) → s x ≡ x) where
  map_stays : (xs : List V) → map s xs ≡ xs
  map_stays [] = refl
  map_stays (x ∷ xs) = ap (λ y. y ∷ map s xs) (same x) ∙ ap (λ l. x ∷ l) (map_stays xs)

  edge_stays : (e : Edge V) → replace_edge s e ≡ e
  edge_stays e = ap (λ l. record { target = e.target; forwards = l }) (map_stays e.forwards)

  edges_stay : (es : List (Edge V)) → map (replace_edge s) es ≡ es
  edges_stay [] = refl
  edges_stay (e ∷ es) = ap (λ y. y ∷ map (replace_edge s) es) (edge_stays e) ∙ ap (λ l. e ∷ l) (edges_stay es)

  op_stays : (op : Op V) → replace_op s op ≡ op
  op_stays (Const r n) = refl
  op_stays (Calc a w r x y) = ap (λ z. Calc a w r z (s y)) (same x) ∙ ap (Calc a w r x) (same y)
  op_stays (Emit x) = ap Emit (same x)
  op_stays (Call rs c xs) = ap (Call rs c) (map_stays xs)
  op_stays (Branch t xs e es) =
      ap (λ l. Branch t l (replace_edge s e) (map (replace_edge s) es)) (map_stays xs)
      ∙ ap (λ y. Branch t xs y (map (replace_edge s) es)) (edge_stays e)
      ∙ ap (Branch t xs e) (edges_stay es)
  op_stays (Return xs) = ap Return (map_stays xs)

  ops_stay : (ops : List (Op V)) → map (replace_op s) ops ≡ ops
  ops_stay [] = refl
  ops_stay (op ∷ ops) = ap (λ y. y ∷ map (replace_op s) ops) (op_stays op) ∙ ap (λ l. op ∷ l) (ops_stay ops)

  blocks_stay : (ks : List (Block V)) → map (replace_block s) ks ≡ ks
  blocks_stay [] = refl
  blocks_stay (k ∷ ks) = ap (λ l. record { arguments = k.arguments; ops = l } ∷ map (replace_block s) ks) (ops_stay k.ops) ∙ ap (λ l. k ∷ l) (blocks_stay ks)

  replace_stays : (f : Option (Fun V)) → replace s f ≡ f
  replace_stays None = refl
  replace_stays (Some f) = ap Some (blocks_stay f)

use_nothing : {V : Type 0} (x : OldOrNewName V) → use_of nothing x ≡ x
use_nothing (Old v) = refl
use_nothing (New v) = refl

nothing_made : (f : Option (Fun Place)) → Rules f → (m : Made Place) → ((v : Place) → m v ≡ None) → place_fun (same_name same_place) (replace (use_of m) (put_in m f)) ≡ f
nothing_made f rules m none =
    let same = same_name same_place in
    let e : m ≡ nothing = λ i v. none v i in
    ap (λ m. place_fun same (replace (use_of m) (put_in m f))) e
    ∙ ap (place_fun same) (replace_stays (use_of nothing) use_nothing (put_in nothing f) ∙ put_nothing f)
    ∙ placed_renamed same_place same Old (λ x y. refl) f
    ∙ numbering_stays f rules

-- 2. which operations may fold

abbrev is_calc : {V : Type 0} → Op V → Bool
is_calc (Calc a w r x y) = true
is_calc (Const r n) = false
is_calc (Emit x) = false
is_calc (Call rs c xs) = false
is_calc (Branch s xs e es) = false
is_calc (Return xs) = false

abbrev calc_at : {V : Type 0} → Option (Op V) → Bool
calc_at None = false
calc_at (Some op) = is_calc op

number_calc : (o : Option (Op Place)) (t : Fact) → number_at o t ≡ (if calc_at o then number_of t else None)
number_calc None t = refl
number_calc (Some (Calc a w r x y)) t = refl
number_calc (Some (Const r n)) t = refl
number_calc (Some (Emit x)) t = refl
number_calc (Some (Call rs c xs)) t = refl
number_calc (Some (Branch s xs e es)) t = refl
number_calc (Some (Return xs)) t = refl

calc_renamed : {V W : Type 0} (r : V → W) (o : Option (Op V)) → calc_at (option_map (rename_op r same_block) o) ≡ calc_at o
calc_renamed r None = refl
calc_renamed r (Some (Calc a w v x y)) = refl
calc_renamed r (Some (Const v n)) = refl
calc_renamed r (Some (Emit x)) = refl
calc_renamed r (Some (Call rs c xs)) = refl
calc_renamed r (Some (Branch s xs e es)) = refl
calc_renamed r (Some (Return xs)) = refl

calc_replaced : {V : Type 0} (s : V → V) (o : Option (Op V)) → calc_at (option_map (replace_op s) o) ≡ calc_at o
calc_replaced s None = refl
calc_replaced s (Some (Calc a w v x y)) = refl
calc_replaced s (Some (Const v n)) = refl
calc_replaced s (Some (Emit x)) = refl
calc_replaced s (Some (Call rs c xs)) = refl
calc_replaced s (Some (Branch t xs e es)) = refl
calc_replaced s (Some (Return xs)) = refl

-- no old value is new
no_new : {V : Type 0} (v : V) (xs : List V) (i : ℕ) → slice_get (map Old xs) i ≡ Some (New v) → ⊥
no_new v [] i e = cc e
no_new v (x ∷ xs) zero e = let q : Old x ≡ New v = cc e in cc q
no_new v (x ∷ xs) (suc i) e = no_new v xs i e

module _ {V : Type 0} where
  -- what defines a new value doesn't fold
  abbrev NewPlain : List (Op (OldOrNewName V)) → Type 0
  NewPlain ops = (o i : ℕ) (v : V) → name_op (slice_get ops o) i ≡ Some (New v) → calc_at (slice_get ops o) ≡ false

  old_plain : (op : Op V) (i : ℕ) (v : V) → slice_get (defs (old op)) i ≡ Some (New v) → is_calc (old op) ≡ false
  old_plain (Calc a w r x y) i v e = absurd (no_new v (r ∷ []) i e)
  old_plain (Const r n) i v e = refl
  old_plain (Emit x) i v e = refl
  old_plain (Call rs c xs) i v e = refl
  old_plain (Branch s xs x es) i v e = refl
  old_plain (Return xs) i v e = refl

  module _ (m : Made V) where
    if_plain : (t : Option ℕ) (v : V) (rest : List (Op (OldOrNewName V))) → NewPlain rest → NewPlain (put_if t v rest)
    if_plain None v rest h o i u e = h o i u e
    if_plain (Some n) v rest h zero i u e = refl
    if_plain (Some n) v rest h (suc o) i u e = h o i u e

    args_plain : (vs : List V) (rest : List (Op (OldOrNewName V))) → NewPlain rest → NewPlain (put_args m vs rest)
    args_plain [] rest h = h
    args_plain (v ∷ vs) rest h = args_plain vs (put_if (m v) v rest) (if_plain (m v) v rest h)

    before_plain : (op : Op V) (rest : List (Op (OldOrNewName V))) → NewPlain rest → NewPlain (put_before m op rest)
    before_plain (Calc a w r x y) rest h = if_plain (m r) r rest h
    before_plain (Const r n) rest h = h
    before_plain (Emit x) rest h = h
    before_plain (Call rs c xs) rest h = h
    before_plain (Branch s xs e es) rest h = h
    before_plain (Return xs) rest h = h

    cons_plain : (op : Op V) (rest : List (Op (OldOrNewName V))) → NewPlain rest → NewPlain (old op ∷ rest)
    cons_plain op rest h zero i v e = old_plain op i v e
    cons_plain op rest h (suc o) i v e = h o i v e

    ops_plain : (ops : List (Op V)) → NewPlain (put_ops m ops)
    ops_plain [] o i v e = absurd (cc e)
    ops_plain (op ∷ ops) o i v e = before_plain op (old op ∷ put_ops m ops) (cons_plain op (put_ops m ops) (ops_plain ops)) o i v e

    -- where the old operations are
    if_at : (t : Option ℕ) (v : V) (rest : List (Op (OldOrNewName V))) (p : ℕ) → slice_get (put_if t v rest) (length (put_if t v []) + p) ≡ slice_get rest p
    if_at None v rest p = let z : 0 + p ≡ p = omega arith in ap (slice_get rest) z
    if_at (Some n) v rest p = let z : 1 + p ≡ suc p = omega arith in ap (slice_get (Const (New v) n ∷ rest)) z

    args_at : (vs : List V) (rest : List (Op (OldOrNewName V))) (p : ℕ) → slice_get (put_args m vs rest) (args_count m vs + p) ≡ slice_get rest p
    unfolding args_count
    args_at [] rest p = let z : 0 + p ≡ p = omega arith in ap (slice_get rest) z
    args_at (v ∷ vs) rest p =
        let n = length (put_if (m v) v []) in
        let z : args_count m vs + length (put_if (m v) v []) + p ≡ args_count m vs + (length (put_if (m v) v []) + p) = omega arith in
        ap (slice_get (put_args m vs (put_if (m v) v rest))) z ∙ args_at vs (put_if (m v) v rest) (length (put_if (m v) v []) + p) ∙ if_at (m v) v rest p

    before_at : (op : Op V) (rest : List (Op (OldOrNewName V))) (p : ℕ) → slice_get (put_before m op rest) (length (put_before m op []) + p) ≡ slice_get rest p
    before_at (Calc a w r x y) rest p = if_at (m r) r rest p
    before_at (Const r n) rest p = let z : 0 + p ≡ p = omega arith in ap (slice_get rest) z
    before_at (Emit x) rest p = let z : 0 + p ≡ p = omega arith in ap (slice_get rest) z
    before_at (Call rs c xs) rest p = let z : 0 + p ≡ p = omega arith in ap (slice_get rest) z
    before_at (Branch s xs e es) rest p = let z : 0 + p ≡ p = omega arith in ap (slice_get rest) z
    before_at (Return xs) rest p = let z : 0 + p ≡ p = omega arith in ap (slice_get rest) z

    ops_at : (ops : List (Op V)) (o : ℕ) (op : Op V) → slice_get ops o ≡ Some op → slice_get (put_ops m ops) (at_op m ops o) ≡ Some (old op)
    unfolding at_op put_count
    ops_at [] o op e = absurd (cc e)
    ops_at (x ∷ ops) zero op e =
        let q : x ≡ op = cc e in
        let z : length (put_before m x []) ≡ length (put_before m x []) + 0 = omega arith in
        ap (slice_get (put_before m x (old x ∷ put_ops m ops))) z ∙ before_at x (old x ∷ put_ops m ops) 0 ∙ ap (λ y. Some (old y)) q
    ops_at (x ∷ ops) (suc o) op e = before_at x (old x ∷ put_ops m ops) (suc (at_op m ops o)) ∙ ops_at ops o op e

-- 3. uses

module _ {V : Type 0} where
  op_of_use : (v : V) (ops : List (Op V)) → In v (all_operands ops) → (op : Op V) × In op ops × In v (operands op)
  op_of_use v [] i = absurd i
  op_of_use v (op ∷ ops) i =
      ⊎_elim (λ l. (op, inl refl, l)) (λ r. let h = op_of_use v ops r in (h.0, inr h.1, h.2)) (in_split v (operands op) (all_operands ops) i)

  block_of_use : (v : V) (ks : List (Block V)) → In v (blocks_operands ks) → (b : ℕ) × (op : Op V) × In op (ops_left (slice_get ks b) 0) × In v (operands op)
  block_of_use v [] i = absurd i
  block_of_use v (k ∷ ks) i =
      ⊎_elim
      (λ l. let h = op_of_use v k.ops l in (0, h.0, h.1, h.2))
      (λ r. let h = block_of_use v ks r in (suc h.0, h.1, h.2, h.3))
      (in_split v (all_operands k.ops) (blocks_operands ks) i)

  use_at : (v : V) (f : Option (Fun V)) → In v (uses_in f) → (b : ℕ) × (op : Op V) × In op (left_in f b 0) × In v (operands op)
  use_at v None i = absurd i
  use_at v (Some f) i = block_of_use v f i

if_same : (a b : Bool) (x y : Option ℕ) → a ≡ b → x ≡ y → (if b then y else None) ≡ None → (if a then x else None) ≡ None
if_same a b x y e q h = ap (λ t. if t then x else None) e ∙ ap (λ t. if b then t else None) q ∙ h

if_nothing : (a : Bool) (x : Option ℕ) → x ≡ None → (if a then x else None) ≡ None
if_nothing true x e = e
if_nothing false x e = refl

-- 4. after the pass no value with a use gets a constant

module _ (f : Fun Place) (k : FunctionFacts Place) (rules : Rules (Some f)) (best : AreMostPreciseFacts (Some f) k) where
  abbrev F : Option (Fun Place)
  F = Some f

  abbrev m : Made Place
  m = made_of used_wanted F k

  abbrev g : Option (Fun (OldOrNewName Place))
  g = with_facts used_wanted F k

  abbrev same : OldOrNewName Place → OldOrNewName Place → Bool
  same = same_name same_place

  abbrev q : Option (Fun Place)
  q = place_fun same g

  abbrev puts : ℕ → List (Op (OldOrNewName Place))
  puts b = put_args m (arguments_in F b) (put_ops m (left_in F b 0))

  module _ (l : FunctionFacts Place) (best_l : AreMostPreciseFacts q l) where
    calc_q : (b o : ℕ) → calc_at (slice_get (left_in q b 0) o) ≡ calc_at (slice_get (puts b) o)
    calc_q b o =
        let r = place_name same (same_name_law same_place place_law) g in
        ap (λ ops. calc_at (slice_get ops o)) (place_left same (same_name_law same_place place_law) g b)
        ∙ ap calc_at (slice_get-map (rename_op r same_block) (left_in g b 0) o)
        ∙ calc_renamed r (slice_get (left_in g b 0) o)
        ∙ ap (λ ops. calc_at (slice_get ops o)) (left_facts used_wanted F k rules b)
        ∙ ap calc_at (slice_get-map (replace_op (use_of m)) (puts b) o)
        ∙ calc_replaced (use_of m) (slice_get (puts b) o)

    named_put : (a : Place) (y : OldOrNewName Place) → name_at g a ≡ Some y → name_at (put_in m F) a ≡ Some y
    named_put a y e = sym (name_replaced (use_of m) (put_in m F) a) ∙ e

    -- a constant that was put in
    new_none : (a v : Place) → name_at g a ≡ Some (New v) → known_at q l a ≡ None
    new_none (Arg b i) v e =
        absurd (no_new v (arguments_in F b) i (ap (λ xs. slice_get xs i) (sym (put_takes m F b)) ∙ arg_name (put_in m F) b i (New v) (named_put (Arg b i) (New v) e)))
    new_none (Res b o i) v e =
        let n = ap (λ ops. name_op (slice_get ops o) i) (sym (put_left m F b)) ∙ res_name (put_in m F) b o i (New v) (named_put (Res b o i) (New v) e) in
        let c = calc_q b o ∙ args_plain m (arguments_in F b) (put_ops m (left_in F b 0)) (ops_plain m (left_in F b 0)) o i v n in
        if_nothing (l.runs b) (number_at (slice_get (left_in q b 0) o) (l.of (Res b o i)))
        (number_calc (slice_get (left_in q b 0) o) (l.of (Res b o i)) ∙ ap (λ t. if t then number_of (l.of (Res b o i)) else None) c)

    -- a value that was there, and got no constant
    old_at : (c a : Place) → name_at F c ≡ Some c → a ≡ old_place m (slice_get f (block_of c)) c → l.of a ≡ k.of c → known_at F k c ≡ None → known_at q l a ≡ None
    unfolding old_place
    old_at (Arg b i) a h w e none =
        ap (known_at q l) w ∙ if_same (l.runs b) (k.runs b) (number_of (l.of (Arg b i))) (number_of (k.of (Arg b i))) ((facts_stay used_wanted F k l rules best best_l).runs b) (ap number_of (ap l.of (sym w) ∙ e)) none
    old_at (Res b o i) a h w e none = by_op (slice_get (left_in F b 0) o) refl (res_name F b o i (Res b o i) h)
      where
        o' : ℕ
        o' = args_count m (arguments_in F b) + at_op m (left_in F b 0) o

        by_op : (x : Option (Op Place)) → slice_get (left_in F b 0) o ≡ x → name_op x i ≡ Some (Res b o i) → known_at q l a ≡ None
        by_op None t n = absurd (cc n)
        by_op (Some op) t n =
            let at = args_at m (arguments_in F b) (put_ops m (left_in F b 0)) (at_op m (left_in F b 0) o) ∙ ops_at m (left_in F b 0) o op t in
            let c = calc_q b (args_count m (arguments_in F b) + at_op m (left_in F b 0) o) ∙ ap calc_at at ∙ calc_renamed Old (Some op) ∙ ap calc_at (sym t) in
            let to = args_count m (arguments_in F b) + at_op m (left_in F b 0) o in
            ap (known_at q l) w
            ∙ if_same (l.runs b) (k.runs b) (number_at (slice_get (left_in q b 0) to) (l.of (Res b to i))) (number_at (slice_get (left_in F b 0) o) (k.of (Res b o i))) ((facts_stay used_wanted F k l rules best best_l).runs b)
            (number_calc (slice_get (left_in q b 0) to) (l.of (Res b to i)) ∙ ap (λ u. if u then number_of (l.of (Res b to i)) else None) c ∙ ap (λ u. if calc_at (slice_get (left_in F b 0) o) then number_of u else None) (ap l.of (sym w) ∙ e) ∙ sym (number_calc (slice_get (left_in F b 0) o) (k.of (Res b o i)))) none

    old_none : (a v : Place) → name_at g a ≡ Some (Old v) → known_at F k v ≡ None → known_at q l a ≡ None
    old_none a v e none = by_origin (name_put m f a (Old v) (named_put a (Old v) e))
      where
        by_origin : NameOrigin m f a (Old v) → known_at q l a ≡ None
        by_origin (was_new c n u mn z h w) = let bad : Old v ≡ New u = z in absurd (cc bad)
        by_origin (was_old c u z h w) =
            let law = same_name_law same_place place_law in
            let uv : v ≡ u = cc z in
            let home : u ≡ c = rules_home F rules c u h in
            let at : place_name same law g (Old v) ≡ a = name_is same law g (facts_distinct used_wanted F k rules) (Old v) a e in
            let has : HasPlace same_place F u = has_place same_place place_law F (block_of c) u (block_at u (slice_get f (block_of c)) c h) in
            let fact = (facts_stay used_wanted F k l rules best best_l).of u has in
            let la : l.of a ≡ k.of u = ap l.of (sym at ∙ ap (λ x. place_name same law g (Old x)) uv ∙ sym (place_in_is same law g (Old u))) ∙ fact in
            old_at c a (subst (λ x. name_at F c ≡ Some x) home h) w (la ∙ ap k.of home) (ap (known_at F k) (sym home ∙ sym uv) ∙ none)

    use_none : (a z : Place) → is_in same_place z (uses_in F) ≡ true → name_at g a ≡ Some (use_of m (Old z)) → known_at q l a ≡ None
    use_none a z u e = by_made (m z) refl
      where
        by_made : (o : Option ℕ) → m z ≡ o → known_at q l a ≡ None
        by_made (Some n) w = new_none a z (e ∙ ap (λ o. Some (constant_of o z)) w)
        by_made None w =
            let none : known_at F k z ≡ None = sym (ap (λ t. if t then known_at F k z else None) u) ∙ w in
            old_none a z (e ∙ ap (λ o. Some (constant_of o z)) w) none

-- a name is at its place
named_at : {V : Type 0} (same : V → V → Bool) (law : IsSameness same) (g : Option (Fun V)) (y : V) → HasPlace same g y → name_at g (place_name same law g y) ≡ Some y
named_at same law None y h = absurd h
named_at same law (Some g) y h = ap (λ o. name_at (Some g) (unwrap_or o (Arg 0 0))) h.1 ∙ at_place same law g y h.0 h.1

pub second_none : (f : Option (Fun Place)) (k : FunctionFacts Place) → Rules f → AreMostPreciseFacts f k → (l : FunctionFacts Place) → AreMostPreciseFacts (propagated used_wanted f k) l → (v : Place) → made_of used_wanted (propagated used_wanted f k) l v ≡ None
second_none None k rules best l best_l v = refl
second_none (Some f) k rules best l best_l v = by_use (is_in same_place v (uses_in (propagated used_wanted (Some f) k))) refl
  where
    by_use : (b : Bool) → is_in same_place v (uses_in (propagated used_wanted (Some f) k)) ≡ b → made_of used_wanted (propagated used_wanted (Some f) k) l v ≡ None
    by_use false e = ap (λ t. if t then known_at (propagated used_wanted (Some f) k) l v else None) e
    by_use true e =
        let h = use_at v (propagated used_wanted (Some f) k) (is_in_in same_place place_law v (uses_in (propagated used_wanted (Some f) k)) e) in
        let o = use_origin used_wanted (Some f) k rules h.0 h.1 v h.2 h.3 in
        let at = named_at (same_name same_place) (same_name_law same_place place_law) (with_facts used_wanted (Some f) k) (use_of (made_of used_wanted (Some f) k) (Old o.z)) o.has in
        let u = use_is (Some f) h.0 o.op o.z o.op_in o.z_in in
        if_nothing (is_in same_place v (uses_in (propagated used_wanted (Some f) k))) (known_at (propagated used_wanted (Some f) k) l v)
        (use_none f k rules best l best_l v o.z u (ap (name_at (with_facts used_wanted (Some f) k)) o.is ∙ at))

pub lean_settles : (p q r : FunctionsByPath Place) → ((path : List ℕ) → Rules (p path)) → IsSccpOfFunctions used_wanted p q → IsSccpOfFunctions used_wanted q r → r ≡ q
lean_settles p q r rules a b = λ i path. at_path path i
  where
    at_path : (path : List ℕ) → r path ≡ q path
    at_path path =
        let kept : Rules (q path) = subst Rules (sym (a.is path)) (sccp_rules used_wanted (p path) (a.facts path) (rules path)) in
        let best : AreMostPreciseFacts (propagated used_wanted (p path) (a.facts path)) (b.facts path) = subst (λ h. AreMostPreciseFacts h (b.facts path)) (a.is path) (b.best path) in
        let none = subst (λ h. (v : Place) → made_of used_wanted h (b.facts path) v ≡ None) (sym (a.is path)) (second_none (p path) (a.facts path) (rules path) (a.best path) (b.facts path) best) in
        b.is path ∙ nothing_made (q path) kept (made_of used_wanted (q path) (b.facts path)) none
