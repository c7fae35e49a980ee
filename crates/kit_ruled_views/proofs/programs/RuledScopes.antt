-- In the flat view of a function that keeps the rules each block ends well, and operands are in scope.
use Rattle.std.proofs.Common.{◌≡◌, ◌⊎◌, ◌↔◌, ⊎_elim, inl, inr, ◌<◌, ◌+◌, ℕ, zero, suc, Bool, true, false, cond, ◌==◌}
use Rattle.std.proofs.Common.{List, [], ◌∷◌, ◌++◌, map, take, length, Option, Some, None, slice_get, refl, sym, ap, ◌∙◌}
use Rattle.std.proofs.Common.{subst, arith}
use Rattle.std.proofs.lemmas.List.{append-nil}
use Rattle.ir_base.specs.declared.types.TypeHandle.{TypeHandle}
use Rattle.ir_program.specs.declared.handles.BasicBlock.{BasicBlock}
use Rattle.ir_program.specs.declared.handles.Ptr.{Ptr}
use Rattle.ir_program.specs.declared.handles.Value.{Value}
use Rattle.ir_trees.specs.Renames.{names_of}
use Rattle.ir_trees.specs.Stands.{ProgramHead}
use Rattle.ir_trees.specs.Trees.{Operations, Regions, end, operation, block}
use Rattle.ir_trees.proofs.Members.{at_has, has_at, has_front, has_back, has_either}
use Rattle.kit.specs.Context.{KitTree}
use Rattle.opt_trees.specs.Occurrences.{Has}
use Rattle.kit_ops.specs.declared.types.KitType.{KitType}
use Rattle.kit.specs.Meaning.{KitOperation, KitBlock}
use Rattle.kit_behaviour.specs.Machine.{Calculated, Compared, Plain, Nonzero, Cases, Op, Const, Calc}
use Rattle.kit_behaviour.specs.Machine.{Arith, Emit, Call, Branch, Return, Block, Fun, ops_left, arguments_in}
use Rattle.kit_behaviour.specs.Machine.{arguments_of}
use Rattle.kit_behaviour.specs.Rules.{operands, is_terminator, EndsWell}
use Rattle.kit_behaviour.specs.Scopes.{In, AllIn, defs, all_defs, entry_values, at_start, OpsWith, BlocksWith}
use Rattle.kit_behaviour.proofs.Propagation.ScopeLemmas.{in_append}
use Rattle.kit_checks.specs.declared.rule.Rule.TheVariants as rule
use Rattle.kit_checks.specs.Sites.{Listed, operation_list, block_list, region_list}
use Rattle.kit_checks.specs.Words as words
use Rattle.kit_checks.specs.Words.{bodies_of, first_body, joined, results_of, values_if, visible}
use Rattle.kit_views.specs.FlatView.{kind_of, IsOp, AreOps, AreFlatBlocks, FlattensTo, names_in}
use Rattle.kit_views.specs.Laws.{EndWell}
use Rattle.kit_views.specs.Reading.{Reading, kit_contents, kit_reading}
use Rattle.kit_ruled_views.specs.Ruled.{IsRuledFunction}
use Rattle.kit_ruled_views.proofs.FunctionSites.{KitBlocks, KitBody, KitAround, own_keeps, inner_around, inner_keeps}
use Rattle.kit_ruled_views.proofs.programs.FlatDefined.{results_are}

abbrev KitOps : Type 0
KitOps = Listed KitOperation KitBlock Operations

off : (b : Bool) → (b ≡ true → ⊥) → b ≡ false
off true f = absurd (f refl)
off false f = refl

is_in : {X : Type 0} (x : X) (xs : List X) → Has x xs → In x xs
is_in x [] h = h
is_in x (y ∷ ys) h = ⊎_elim (λ e. inl e) (λ k. inr (is_in x ys k)) h

-- where exactly the last operation is a terminator, the list ends well
ends_by : {V : Type 0} (os : List (Op V)) → (os ≡ [] → ⊥) →
    ((k : ℕ) (op : Op V) → slice_get os k ≡ Some op → (is_terminator op ≡ true) ↔ (k + 1 ≡ length os)) → EndsWell os
ends_by [] some h = some refl
ends_by (op ∷ []) some h = (h 0 op refl).1 refl
ends_by (op ∷ next ∷ os) some h = (
  off (is_terminator op) (λ e. let z = (h 0 op refl).0 e in absurd (omega (arith, z))),
  ends_by (next ∷ os) (λ e. absurd (cc e)) (λ k p e.
      let w = h (suc k) p e in (λ t. omega (arith, w.0 t), λ q. w.1 (omega (arith, q)))),
)

-- the results of one more operation
taken_more : (us : List KitTree) (k : ℕ) (w : KitTree) → slice_get us k ≡ Some w → (x : Value) →
    Has x (results_of (take (suc k) us)) → Has x (results_of (take k us)) ⊎ Has x (names_of w.head.results)
taken_more [] k w e x h = absurd (cc e)
taken_more (y ∷ us) zero w e x h =
    let same : y ≡ w = cc e in
    ⊎_elim
    (λ i. inr (subst (λ (z : KitTree). Has x (names_of z.head.results)) same i))
    (λ i. absurd i)
    (has_either (names_of y.head.results) [] x h)
taken_more (y ∷ us) (suc k) w e x h =
    ⊎_elim
    (λ i. inl (has_front (names_of y.head.results) (results_of (take k us)) x i))
    (λ i. ⊎_elim
    (λ j. inl (has_back (names_of y.head.results) (results_of (take k us)) x j))
    (λ j. inr j)
    (taken_more us k w e x i))
    (has_either (names_of y.head.results) (results_of (take (suc k) us)) x h)

module _ (leads : TypeHandle → Option KitType) (numbered : List ℕ → ℕ) (names : List (Ptr BasicBlock)) where
  abbrev r : Reading kit_contents
  r = kit_reading leads numbered

  abbrev Is : ProgramHead KitOperation KitBlock → Op Value → Type 0
  Is h op = IsOp r names h op

  calc_ends : (a : Arith) → words.is_terminator (kind_of a) ≡ false
  calc_ends (Calculated a) = refl
  calc_ends (Compared c) = refl

  -- a terminator is one in the flat view
  ends_same : (h : ProgramHead KitOperation KitBlock) (op : Op Value) → Is h op →
      words.is_terminator h.content.kind ≡ is_terminator op
  ends_same h (Const v n) is = ap words.is_terminator is.0.kind
  ends_same h (Calc a w v x y) is = ap words.is_terminator is.0.kind ∙ calc_ends a
  ends_same h (Emit x) is = ap words.is_terminator is.kind
  ends_same h (Call rs c xs) is = ap words.is_terminator is.0.kind
  ends_same h (Branch Plain xs e es) is = ap words.is_terminator is.0.kind
  ends_same h (Branch Nonzero xs e es) is = ap words.is_terminator is.0.kind
  ends_same h (Branch (Cases ns) xs e es) is = absurd is
  ends_same h (Return xs) is = ap words.is_terminator is.kind

  operands_are : (h : ProgramHead KitOperation KitBlock) (op : Op Value) → Is h op → h.operands ≡ operands op
  operands_are h (Const v n) is = is.0.operands
  operands_are h (Calc a w v x y) is = is.0.operands
  operands_are h (Emit x) is = is.operands
  operands_are h (Call rs c xs) is = is.0.operands
  operands_are h (Branch Plain xs e es) is = is.0.operands
  operands_are h (Branch Nonzero xs e es) is = is.0.operands
  operands_are h (Branch (Cases ns) xs e es) is = absurd is
  operands_are h (Return xs) is = is.operands

  -- the operation of the tree at the same index
  op_at : (os : KitOps) (ps : List (Op Value)) → AreOps r names os ps → (k : ℕ) (op : Op Value) →
      slice_get ps k ≡ Some op → (w : KitTree) × (slice_get (operation_list os) k ≡ Some w) × Is w.head op
  op_at end [] are k op e = absurd (cc e)
  op_at end (p ∷ ps) are k op e = absurd are
  op_at (operation h rs more) [] are k op e = absurd are
  op_at (operation h rs more) (p ∷ ps) are zero op e =
      let same : p ≡ op = cc e in (record { head = h; regions = rs }, refl, subst (Is h) same are.1)
  op_at (operation h rs more) (p ∷ ps) are (suc k) op e = op_at more ps are.2 k op e

  as_many : (os : KitOps) (ps : List (Op Value)) → AreOps r names os ps → length (operation_list os) ≡ length ps
  as_many end [] are = refl
  as_many end (p ∷ ps) are = absurd are
  as_many (operation h rs more) [] are = absurd are
  as_many (operation h rs more) (p ∷ ps) are = ap suc (as_many more ps are.2)

  all_results : (os : KitOps) (ps : List (Op Value)) → AreOps r names os ps →
      results_of (operation_list os) ≡ all_defs ps
  all_results end [] are = refl
  all_results end (p ∷ ps) are = absurd are
  all_results (operation h rs more) [] are = absurd are
  all_results (operation h rs more) (p ∷ ps) are =
      λ i. results_are r names h p are.1 i ++ all_results more ps are.2 i

  -- the block of the tree at the same index
  body_at : (bs : KitBlocks) (ks : Fun Value) → AreFlatBlocks r names bs ks → (j : ℕ) (k : Block Value) →
      slice_get ks j ≡ Some k → (body : KitBody) × (slice_get (block_list bs) j ≡ Some body)
      × (names_of body.label.arguments ≡ k.arguments) × AreOps r names body.operations k.ops
  body_at end [] are j k e = absurd (cc e)
  body_at end (x ∷ ks) are j k e = absurd are
  body_at (block l os more) [] are j k e = absurd are
  body_at (block l os more) (x ∷ ks) are zero k e =
      let same : x ≡ k = cc e in (
        record { label = l; operations = os },
        refl,
        are.0 ∙ ap (λ (z : Block Value). z.arguments) same,
        subst (λ (z : Block Value). AreOps r names os z.ops) same are.1,
      )
  body_at (block l os more) (x ∷ ks) are (suc j) k e = body_at more ks are.2 j k e

module _ (leads : TypeHandle → Option KitType) (typed : Value → Option TypeHandle) (numbered : List ℕ → ℕ) (u : KitTree)
    (ruled : IsRuledFunction leads typed u) (f : Fun Value) (flat : FlattensTo (kit_reading leads numbered) u f) where
  abbrev bs : KitBlocks
  bs = flat.view.blocks

  abbrev names : List (Ptr BasicBlock)
  names = names_in bs

  abbrev around : ℕ → KitBody → ℕ → KitAround
  around j body k = inner_around leads typed u ruled bs flat.view.region j body k

  bodies_are : bodies_of u ≡ block_list bs
  bodies_are = ap (λ (rs : Listed KitOperation KitBlock Regions). joined (map block_list (region_list rs)))
      flat.view.region ∙ append-nil (block_list bs)

  -- ---- ends

  block_ends : (j : ℕ) (k : Block Value) → slice_get f j ≡ Some k → EndsWell k.ops
  block_ends j k e =
      let b = body_at leads numbered names bs f flat.view.are j k e in
      let body : KitBody = b.0 in
      let many = as_many leads numbered names body.operations k.ops b.3 in
      let some = (own_keeps leads typed u ruled rule.BlocksEnd).none_empty ruled.function j body
      (ap (λ l. slice_get l j) bodies_are ∙ b.1) in
      ends_by k.ops
      (λ z. some (no_members (operation_list body.operations) (many ∙ ap length z)))
      (λ i op q.
      let w = op_at leads numbered names body.operations k.ops b.3 i op q in
      let kept = (inner_keeps leads typed u ruled bs flat.view.region j i body w.0 b.1 w.1 rule.BlocksEnd).last
      (around j body i) (refl, ruled.function) in
      let same = ends_same leads numbered names w.0.head op w.2 in
      (λ t. kept.0 (same ∙ t) ∙ many, λ t. sym same ∙ kept.1 (t ∙ sym many)))
    where
      no_members : {X : Type 0} (xs : List X) → length xs ≡ 0 → xs ≡ []
      no_members [] h = refl
      no_members (x ∷ xs) h = absurd (omega (arith, h))

  pub ruled_ends : EndWell f
  ruled_ends b l = by_block (slice_get f b) refl
    where
      by_block : (o : Option (Block Value)) → slice_get f b ≡ o → EndsWell (ops_left o 0)
      by_block None e = absurd (beyond f b l e)
        where
          beyond : {X : Type 0} (xs : List X) (n : ℕ) → n < length xs → slice_get xs n ≡ None → ⊥
          beyond [] n l e = omega (arith, l)
          beyond (x ∷ xs) zero l e = absurd (cc e)
          beyond (x ∷ xs) (suc n) l e = beyond xs n (omega (arith, l)) e
      by_block (Some k) e = block_ends b k e

  -- ---- scopes

  all_in : (xs a : List Value) → ((x : Value) → Has x xs → In x a) → AllIn xs a
  all_in [] a h = tt
  all_in (x ∷ xs) a h = (h x (inl refl), all_in xs a (λ y i. h y (inr i)))

  module _ (j : ℕ) (body : KitBody) (here : slice_get (block_list bs) j ≡ Some body) where
    -- what is visible to the operation at the index is among these
    abbrev Known : ℕ → List Value → Type 0
    Known k a = (x : Value) → Has x (visible (around j body k)) → In x a

    abbrev entry : List Value
    entry = cond (j == 0) [] (values_if (first_body bs))

    abbrev own_results : ℕ → List Value
    own_results k = results_of (take k (operation_list body.operations))

    abbrev own_arguments : List Value
    own_arguments = names_of body.label.arguments

    operand_seen : (k : ℕ) (w : KitTree) → slice_get (operation_list body.operations) k ≡ Some w → (x : Value) →
        Has x w.head.operands → Has x (visible (around j body k))
    operand_seen k w at x h =
        let i = has_at w.head.operands x h in
        let sees = (inner_keeps leads typed u ruled bs flat.view.region j k body w here at
        rule.OperandsAreVisible).inside (around j body k) refl i.0 x i.1 in
        at_has (visible (around j body k)) sees.0 x sees.1

    more_known : (k : ℕ) (w : KitTree) (op : Op Value) (a : List Value) →
        slice_get (operation_list body.operations) k ≡ Some w → IsOp (kit_reading leads numbered) names w.head op →
        Known k a → Known (suc k) (defs op ++ a)
    more_known k w op a at is known x h =
        ⊎_elim
        (λ i. ⊎_elim
        (λ q. in_append x (defs op) a (inr (known x (has_front (own_arguments ++ own_results k) entry x
        (has_front own_arguments (own_results k) x q)))))
        (λ q. ⊎_elim
        (λ p. in_append x (defs op) a (inr (known x (has_front (own_arguments ++ own_results k) entry x
        (has_back own_arguments (own_results k) x p)))))
        (λ p. in_append x (defs op) a (inl (is_in x (defs op)
        (subst (Has x) (results_are (kit_reading leads numbered) names w.head op is) p))))
        (taken_more (operation_list body.operations) k w at x q))
        (has_either own_arguments (own_results (suc k)) x i))
        (λ i. in_append x (defs op) a (inr (known x (has_back (own_arguments ++ own_results k) entry x i))))
        (has_either (own_arguments ++ own_results (suc k)) entry x h)

    see_ops : (k : ℕ) (rest : KitOps) (ps : List (Op Value)) (a : List Value) →
        AreOps (kit_reading leads numbered) names rest ps →
        ((i : ℕ) → slice_get (operation_list body.operations) (k + i) ≡ slice_get (operation_list rest) i) →
        Known k a → OpsWith (λ a op. AllIn (operands op) a) a ps
    see_ops k end [] a are at known = tt
    see_ops k end (p ∷ ps) a are at known = absurd are
    see_ops k (operation h rs more) [] a are at known = absurd are
    see_ops k (operation h rs more) (p ∷ ps) a are at known =
        let w : KitTree = record { head = h; regions = rs } in
        let z : k + 0 ≡ k = omega arith in
        let stands : slice_get (operation_list body.operations) k ≡ Some w =
        ap (slice_get (operation_list body.operations)) (sym z) ∙ at 0 in (
          all_in (operands p) a (λ x i. known x (operand_seen k w stands x
              (subst (Has x) (sym (operands_are leads numbered names h p are.1)) i))),
          see_ops (suc k) more ps (defs p ++ a) are.2
              (λ i. let y : suc k + i ≡ k + suc i = omega arith in
              ap (slice_get (operation_list body.operations)) y ∙ at (suc i))
              (more_known k w p a stands are.1 known),
        )

  -- the values of the entry block
  entry_in : (x : Value) → Has x (values_if (first_body bs)) → In x (entry_values (Some f))
  entry_in x h = by_block (slice_get f 0) refl
    where
      no_body : (ks : Fun Value) (cs : KitBlocks) → AreFlatBlocks (kit_reading leads numbered) names cs ks →
          slice_get ks 0 ≡ None → first_body cs ≡ None
      no_body [] end are e = refl
      no_body [] (block l os more) are e = absurd are
      no_body (k ∷ ks) cs are e = absurd (cc e)

      by_block : (o : Option (Block Value)) → slice_get f 0 ≡ o → In x (arguments_of o ++ all_defs (ops_left o 0))
      by_block None e = absurd (subst (λ q. Has x (values_if q)) (no_body f bs flat.view.are e) h)
      by_block (Some k) e =
          let b = body_at leads numbered names bs f flat.view.are 0 k e in
          let m : Has x (names_of b.0.label.arguments ++ results_of (operation_list b.0.operations)) =
          subst (λ q. Has x (values_if q)) b.1 h in
          is_in x (k.arguments ++ all_defs k.ops)
          (subst (Has x) (λ i. b.2 i ++ all_results leads numbered names b.0.operations k.ops b.3 i) m)

  outside : (b : Bool) (x : Value) → Has x (cond b [] (values_if (first_body bs))) → In x (entry_values (Some f))
  outside true x h = absurd h
  outside false x h = entry_in x h

  start_known : (j : ℕ) (k : Block Value) (e : slice_get f j ≡ Some k) (body : KitBody)
      (here : slice_get (block_list bs) j ≡ Some body) → names_of body.label.arguments ≡ k.arguments →
      Known j body here 0 (at_start (Some f) j)
  start_known zero k e body here same x h =
      ⊎_elim
      (λ i. ⊎_elim
      (λ q. is_in x (arguments_in (Some f) 0)
      (subst (λ o. Has x (arguments_of o)) (sym e) (subst (Has x) same q)))
      (λ q. absurd q)
      (has_either (names_of body.label.arguments) [] x i))
      (λ i. absurd i)
      (has_either (names_of body.label.arguments ++ []) [] x h)
  start_known (suc j) k e body here same x h =
      ⊎_elim
      (λ i. ⊎_elim
      (λ q. in_append x (arguments_in (Some f) (suc j)) (entry_values (Some f)) (inl (is_in x (arguments_in (Some f)
      (suc j))
      (subst (λ o. Has x (arguments_of o)) (sym e) (subst (Has x) same q)))))
      (λ q. absurd q)
      (has_either (names_of body.label.arguments) [] x i))
      (λ i. in_append x (arguments_in (Some f) (suc j)) (entry_values (Some f)) (inr (outside (suc j == 0) x i)))
      (has_either (names_of body.label.arguments ++ []) (cond (suc j == 0) [] (values_if (first_body bs))) x h)

  pub ruled_sees : BlocksWith (Some f) (λ a op. AllIn (operands op) a)
  ruled_sees j = by_block (slice_get f j) refl
    where
      by_block : (o : Option (Block Value)) → slice_get f j ≡ o →
          OpsWith (λ a op. AllIn (operands op) a) (at_start (Some f) j) (ops_left o 0)
      by_block None e = tt
      by_block (Some k) e =
          let b = body_at leads numbered names bs f flat.view.are j k e in
          see_ops j b.0 b.1 0 b.0.operations k.ops (at_start (Some f) j) b.3
          (λ i. let z : 0 + i ≡ i = omega arith in ap (slice_get (operation_list b.0.operations)) z)
          (start_known j k e b.0 b.1 b.2)
