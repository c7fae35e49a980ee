-- Which values of a function get constants, by their names and by their places: known values that have a use.
use Rattle.std.proofs.Common.{◌≡◌, ⊎_elim, inl, inr, ℕ, zero, suc, Bool, true, false, List, [], ◌∷◌, ◌++◌, Option, Some, None}
use Rattle.std.proofs.Common.{refl, sym, ap, ◌∙◌, subst}
use Rattle.std.specs.Prelude.{◌↔◌, map, slice_get, option_map, if◌then◌else◌, unwrap_or}
use Rattle.opt_trees.specs.Occurrences.{Has}
use Rattle.opt_trees.proofs.Lists.{option_both, at-map, some_same, map-append, has-map, has-from_map}
use Rattle.kit_behaviour.specs.ConstantPropagation.{number_of, number_at, known_at, used_wanted, made_of}
use Rattle.kit_behaviour.specs.Facts.{Fact, Undetermined, Known, Unknown, FunctionFacts}
use Rattle.kit_behaviour.specs.InsertedConstants.{Made}
use Rattle.kit_behaviour.specs.Machine.{Op, Const, Calc, Emit, Call, Branch, Return, Block, Fun, ops_left, left_in}
use Rattle.kit_behaviour.specs.NamedPasses.{GetsConstant}
use Rattle.kit_behaviour.specs.Numbering.{place_block, place_fun, HasPlace, AnyBlock, NamesAreDefined}
use Rattle.kit_behaviour.specs.Places.{Place, Arg, Res, same_place}
use Rattle.kit_behaviour.specs.Renaming.{rename_op, same_block}
use Rattle.kit_behaviour.specs.Rules.{operands, all_operands, blocks_operands, uses_in}
use Rattle.kit_behaviour.specs.Scopes.{In, defs}
use Rattle.kit_behaviour.proofs.Behaviour.FiniteLists.{in_is, is_in_in}
use Rattle.kit_behaviour.proofs.Behaviour.FrameLemmas.{IsSameness}
use Rattle.kit_behaviour.proofs.Numbering.NumberingBehaviour.{name_op, name_in, at_place, place_name, place_left}
use Rattle.kit_behaviour.proofs.Numbering.NumberingRules.{name_at, Distinct, operands_under}
use Rattle.kit_behaviour.proofs.Numbering.PlaceEquality.{place_law}
use Rattle.kit_behaviour.proofs.Propagation.KnownOperandLemmas.{use_named}
use Rattle.kit_views.proofs.Calculated.{IsCalculated, GetsIn, gets_both, has_to_in, in_to_has}
use Rattle.kit_views.proofs.FlatUses.{user_of}
use Rattle.kit_views.proofs.Lists.{has_get, at_has}
use Rattle.kit_ruled_views.proofs.programs.PropagationByPlace.{placed_facts, placed_of}

known_number : (t : Fact) (n : ℕ) → number_of t ≡ Some n → t ≡ Known n
known_number (Known m) n e = ap Known (some_same m n e)
known_number Undetermined n e = absurd (cc e)
known_number Unknown n e = absurd (cc e)

-- uses under other names
module _ {V : Type 0} (r : V → Place) where
  ops_uses : (ps : List (Op V)) → all_operands (map (rename_op r same_block) ps) ≡ map r (all_operands ps)
  ops_uses [] = refl
  ops_uses (p ∷ ps) = (λ i. operands_under r p i ++ ops_uses ps i) ∙ sym (map-append r (operands p) (all_operands ps))

  blocks_uses : (ks : List (Block V)) → blocks_operands (map (place_block r) ks) ≡ map r (blocks_operands ks)
  blocks_uses [] = refl
  blocks_uses (k ∷ ks) =
      (λ i. ops_uses k.ops i ++ blocks_uses ks i) ∙ sym (map-append r (all_operands k.ops) (blocks_operands ks))

module _ {V : Type 0} (same : V → V → Bool) (law : IsSameness same) (f : Fun V) (defined : NamesAreDefined same (Some f))
    (distinct : Distinct (Some f)) (k : FunctionFacts V) (made : Made V)
    (is_made : (v : V) (n : ℕ) → (made v ≡ Some n) ↔ (GetsConstant (Some f) k v n × In v (uses_in (Some f)))) where
  abbrev r : V → Place
  r = place_name same law (Some f)

  abbrev G : Option (Fun Place)
  G = place_fun same (Some f)

  abbrev l : FunctionFacts Place
  l = placed_facts same law f defined k

  -- the operation of the function at a place, and by places
  op_placed : (b o : ℕ) (block : Block V) → slice_get f b ≡ Some block →
      slice_get (left_in G b 0) o ≡ option_map (rename_op r same_block) (slice_get block.ops o)
  op_placed b o block e =
      ap (λ x. slice_get x o) (place_left same law (Some f) b)
      ∙ at-map (rename_op r same_block) (left_in (Some f) b 0) o
      ∙ ap (λ x. option_map (rename_op r same_block) (slice_get (ops_left x 0) o)) e

  -- where it stands
  abbrev StandsAt : V → Place → Type 0
  StandsAt v a = (name_at (Some f) a ≡ Some v) × (r v ≡ a)

  stands_at : (v : V) (h : HasPlace same (Some f) v) → StandsAt v h.0
  stands_at v h = (at_place same law f v h.0 h.1, ap (λ o. unwrap_or o (Arg 0 0)) h.1)

  module _ (v : V) (h : HasPlace same (Some f) v) where
    known_of : (a : Place) → r v ≡ a → l.of a ≡ k.of v
    known_of a e = ap l.of (sym e) ∙ placed_of same law f defined k v h

    -- by the place of a known value it gets a constant
    gets_arg : (b i n : ℕ) → StandsAt v (Arg b i) → (c : Bool) → k.runs b ≡ c →
        (if c then number_of (l.of (Arg b i)) else None) ≡ Some n → GetsIn f k v n
    gets_arg b i n s false e q = absurd (cc q)
    gets_arg b i n s true e q = by_block (slice_get f b) refl s.0
      where
        by_block : (o : Option (Block V)) → slice_get f b ≡ o → name_in o (Arg b i) ≡ Some v → GetsIn f k v n
        by_block None w z = absurd (cc z)
        by_block (Some block) w z = record {
          known = known_number (k.of v) n (ap number_of (sym (known_of (Arg b i) s.1)) ∙ q);
          b = b;
          runs = e;
          block = block;
          stands = w;
          place = inl (has_get block.arguments i v z);
        }

    -- what folds there is the result of arithmetic or of a comparison
    calculated : (p : Op V) (t : Fact) (i n : ℕ) → number_at (Some (rename_op r same_block p)) t ≡ Some n →
        slice_get (defs p) i ≡ Some v → IsCalculated v p × (number_of t ≡ Some n)
    calculated (Calc a w x y z) t zero n e q = (sym (some_same x v q), e)
    calculated (Calc a w x y z) t (suc i) n e q = absurd (cc q)
    calculated (Const x c) t i n e q = absurd (cc e)
    calculated (Emit x) t i n e q = absurd (cc e)
    calculated (Call vs c xs) t i n e q = absurd (cc e)
    calculated (Branch s xs z es) t i n e q = absurd (cc e)
    calculated (Return xs) t i n e q = absurd (cc e)

    gets_res : (b o i n : ℕ) → StandsAt v (Res b o i) → (c : Bool) → k.runs b ≡ c →
        (if c then number_at (slice_get (left_in G b 0) o) (l.of (Res b o i)) else None) ≡ Some n → GetsIn f k v n
    gets_res b o i n s false e q = absurd (cc q)
    gets_res b o i n s true e q = by_block (slice_get f b) refl s.0
      where
        by_op : (block : Block V) → slice_get f b ≡ Some block → (x : Option (Op V)) → slice_get block.ops o ≡ x →
            name_op x i ≡ Some v → number_at (option_map (rename_op r same_block) x) (l.of (Res b o i)) ≡ Some n →
            GetsIn f k v n
        by_op block w None y z g = absurd (cc z)
        by_op block w (Some p) y z g =
            let c = calculated p (l.of (Res b o i)) i n g z in
            record {
              known = known_number (k.of v) n (ap number_of (sym (known_of (Res b o i) s.1)) ∙ c.1);
              b = b;
              runs = e;
              block = block;
              stands = w;
              place = inr (p, has_get block.ops o p y, c.0);
            }

        by_block : (x : Option (Block V)) → slice_get f b ≡ x → name_in x (Res b o i) ≡ Some v → GetsIn f k v n
        by_block None w z = absurd (cc z)
        by_block (Some block) w z =
            by_op block w (slice_get block.ops o) refl z
            (ap (λ y. number_at y (l.of (Res b o i))) (sym (op_placed b o block w)) ∙ q)

    gets_at : (a : Place) (n : ℕ) → StandsAt v a → known_at G l a ≡ Some n → GetsIn f k v n
    gets_at (Arg b i) n s e = gets_arg b i n s (k.runs b) refl e
    gets_at (Res b o i) n s e = gets_res b o i n s (k.runs b) refl e

    -- and back
    named_arg : (b i : ℕ) (block : Block V) → slice_get f b ≡ Some block → slice_get block.arguments i ≡ Some v →
        name_at (Some f) (Arg b i) ≡ Some v
    named_arg b i block e q = ap (λ x. name_in x (Arg b i)) e ∙ q

    known_arg : (b i n : ℕ) → r v ≡ Arg b i → k.runs b ≡ true → k.of v ≡ Known n → known_at G l (r v) ≡ Some n
    known_arg b i n at run e =
        ap (known_at G l) at
        ∙ ap (λ c. if c then number_of (l.of (Arg b i)) else None) run
        ∙ ap number_of (known_of (Arg b i) at ∙ e)

    known_res : (b o n : ℕ) (block : Block V) (p : Op V) → r v ≡ Res b o 0 → k.runs b ≡ true → k.of v ≡ Known n →
        slice_get f b ≡ Some block → slice_get block.ops o ≡ Some p → IsCalculated v p → known_at G l (r v) ≡ Some n
    known_res b o n block p at run e w q c =
        ap (known_at G l) at
        ∙ ap (λ c. if c then number_at (slice_get (left_in G b 0) o) (l.of (Res b o 0)) else None) run
        ∙ (λ i. number_at ((op_placed b o block w ∙ ap (option_map (rename_op r same_block)) q) i)
        ((known_of (Res b o 0) at ∙ e) i))
        ∙ folds p c
      where
        folds : (p : Op V) → IsCalculated v p → number_at (Some (rename_op r same_block p)) (Known n) ≡ Some n
        folds (Calc a w x y z) c = refl
        folds (Const x m) c = absurd c
        folds (Emit x) c = absurd c
        folds (Call vs m xs) c = absurd c
        folds (Branch s xs z es) c = absurd c
        folds (Return xs) c = absurd c

    first_result : (p : Op V) → IsCalculated v p → slice_get (defs p) 0 ≡ Some v
    first_result (Calc a w x y z) c = ap Some (sym c)
    first_result (Const x m) c = absurd c
    first_result (Emit x) c = absurd c
    first_result (Call vs m xs) c = absurd c
    first_result (Branch s xs z es) c = absurd c
    first_result (Return xs) c = absurd c

    here : (a : Place) → name_at (Some f) a ≡ Some v → r v ≡ a
    here a e = let s = stands_at v h in s.1 ∙ distinct v h.0 a s.0 e

    back : (n : ℕ) → GetsIn f k v n → known_at G l (r v) ≡ Some n
    back n g =
        ⊎_elim
        (λ i.
        let at = at_has g.block.arguments v i in
        known_arg g.b at.place n (here (Arg g.b at.place) (named_arg g.b at.place g.block g.stands at.is)) g.runs
        g.known)
        (λ (q : (p : Op V) × Has p g.block.ops × IsCalculated v p).
        let at = at_has g.block.ops q.0 q.1 in
        known_res g.b at.place n g.block q.0
        (here (Res g.b at.place 0)
        (ap (λ x. name_in x (Res g.b at.place 0)) g.stands ∙ ap (λ x. name_op x 0) at.is ∙ first_result q.0 q.2))
        g.runs g.known g.stands at.is q.2)
        g.place

    -- it has a use by its name exactly where it has one by its place
    used_placed : In v (uses_in (Some f)) → used_wanted G (r v) ≡ true
    used_placed i =
        let among : Has (r v) (blocks_operands (map (place_block r) f)) =
        subst (Has (r v)) (sym (blocks_uses r f)) (has-map r v (blocks_operands f) (in_to_has v (blocks_operands f) i)) in
        in_is same_place place_law (r v) (blocks_operands (map (place_block r) f))
        (has_to_in (r v) (blocks_operands (map (place_block r) f)) among)

    placed_used : used_wanted G (r v) ≡ true → In v (uses_in (Some f))
    placed_used e =
        let i = is_in_in same_place place_law (r v) (blocks_operands (map (place_block r) f)) e in
        let among : Has (r v) (map r (blocks_operands f)) =
        subst (Has (r v)) (blocks_uses r f) (in_to_has (r v) (blocks_operands (map (place_block r) f)) i) in
        let m = has-from_map r (r v) (blocks_operands f) among in
        let u = user_of m.it f m.stands in
        let stands : In u.op (left_in (Some f) u.b 0) =
        subst (λ o. In u.op (ops_left o 0)) (sym u.at) (has_to_in u.op u.k.ops u.stands) in
        let other : HasPlace same (Some f) m.it =
        use_named (HasPlace same (Some f)) AnyBlock m.it u.op (left_in (Some f) u.b 0) (defined.ops u.b) stands
        (has_to_in m.it (operands u.op) u.operand) in
        let here = stands_at v h in
        let there = stands_at m.it other in
        let at : h.0 ≡ other.0 = sym here.1 ∙ sym m.is ∙ there.1 in
        let one : v ≡ m.it = some_same v m.it (sym here.0 ∙ ap (name_at (Some f)) at ∙ there.0) in
        subst (λ x. In x (uses_in (Some f))) (sym one) (has_to_in m.it (blocks_operands f) m.stands)

    pub made_agrees : made_of used_wanted G l (r v) ≡ made v
    made_agrees =
        option_both (made_of used_wanted G l (r v)) (made v)
        (λ n e. wanted n (used_wanted G (r v)) refl e)
        (λ n e.
        let g = (is_made v n).0 e in
        ap (λ b. if b then known_at G l (r v) else None) (used_placed g.1) ∙ back n ((gets_both f k v n).1 g.0))
      where
        wanted : (n : ℕ) (b : Bool) → used_wanted G (r v) ≡ b → (if b then known_at G l (r v) else None) ≡ Some n →
            made v ≡ Some n
        wanted n false q e = absurd (cc e)
        wanted n true q e =
            let s = stands_at v h in (is_made v n).1 (
              (gets_both f k v n).0 (gets_at h.0 n s (ap (known_at G l) (sym s.1) ∙ e)),
              placed_used q,
            )
