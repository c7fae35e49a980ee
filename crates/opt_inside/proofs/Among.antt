-- The operations, blocks and values among entities, in order.
use Rattle.std.proofs.Common.{◌≡◌, ◌⊎◌, ◌↔◌, inl, inr, ⊎_elim, ℕ, zero, suc, ◌+◌, List, [], ◌∷◌, ◌++◌, map, length, Option, Some, None, IsSome, option_map, unwrap_or, slice_get, refl, sym, ap, ◌∙◌, subst, arith, append_assoc}
use Rattle.std.proofs.lemmas.List.{append-nil}
use Rattle.ir_program.specs.Lists.{StandsInside, IsLiveNode}
use Rattle.ir_program.specs.Preorder.{AreInside}
use Rattle.ir_program.specs.Program.{Program, TypedValue, OperationView, BlockView, operation_at, block_at, results_at, arguments_at}
use Rattle.ir_program.specs.declared.handles.IRNode.{IRNode}
use Rattle.ir_program.specs.declared.handles.IRNode.TheVariants.{Operation as OperationNode, Region as RegionNode, BasicBlock as BlockNode}
use Rattle.ir_program.specs.declared.handles.DefiningEntity.TheVariants.{Op as ByOp, Block as ByBlock}
use Rattle.ir_program.specs.declared.handles.Ptr.{Ptr}
use Rattle.ir_program.specs.declared.handles.Operation.{Operation}
use Rattle.ir_program.specs.declared.handles.BasicBlock.{BasicBlock}
use Rattle.ir_program.specs.declared.handles.Value.{Value}
use Rattle.ir_trees.specs.Renames.{names_of}
use Rattle.ir_trees.specs.Searched.{Lists}
use Rattle.ir_trees.specs.Stands.{ProgramTree, StandsFor, defined_by, head_of, label_of}
use Rattle.ir_trees.proofs.Members.{Once, at_has, has_at, has_front, has_back, has_either, once_at}
use Rattle.ir_trees.proofs.Picked.{operations_among, blocks_among, operations_joined, blocks_joined, operation_picked, operation_from, block_picked, block_from, operations_once, blocks_once}
use Rattle.opt_trees.specs.Occurrences.{Has}
use Rattle.opt_inside.specs.Numbered.{AreInPreorder, Numbers, DefinerHasNumber, NumbersInside, StandInOrder, values_in, with_node}
use Rattle.opt_inside.specs.Occurring.{IsBelowRoot, IsBlockBelow, IsDefinedBelow}
use Rattle.opt_inside.proofs.Added.{HasValues, definer_of, values_apart}
use Rattle.opt_inside.proofs.Lookups.{AreNew}

module _ {X : Type 0} where
  once_joined : (xs ys : List X) → Once xs → Once ys → AreNew ys xs → Once (xs ++ ys)
  once_joined [] ys a b apart = b
  once_joined (x ∷ xs) ys a b apart = (
    λ h. ⊎_elim a.0 (apart x (inl refl)) (has_either xs ys x h),
    once_joined xs ys a.1 b (λ y h. apart y (inr h)),
  )

  front_at : (xs ys : List X) (i : ℕ) (x : X) → slice_get xs i ≡ Some x → slice_get (xs ++ ys) i ≡ Some x
  front_at [] ys i x h = absurd (cc)
  front_at (y ∷ xs) ys zero x h = h
  front_at (y ∷ xs) ys (suc i) x h = front_at xs ys i x h

  back_at : (xs ys : List X) (i : ℕ) → slice_get (xs ++ ys) (length xs + i) ≡ slice_get ys i
  back_at [] ys i = let e : 0 + i ≡ i = omega arith in ap (slice_get ys) e
  back_at (x ∷ xs) ys i = (let e : suc (length xs) + i ≡ suc (length xs + i) = omega arith in ap (slice_get (x ∷ (xs ++ ys))) e) ∙ back_at xs ys i

names_are : (ts : List TypedValue) → names_of (map defined_by ts) ≡ values_in ts
names_are [] = refl
names_are (t ∷ ts) = ap (λ l. t.value ∷ l) (names_are ts)

something : {X : Type 0} (o : Option X) → IsSome o → (x : X) × (o ≡ Some x)
something (Some x) h = (x, refl)
something None h = cc

module _ {O B : Type 0} (c : Program O B) where
  -- the values that an entity defines
  abbrev pub values_of : IRNode → List Value
  values_of (OperationNode p) = values_in (results_at c p)
  values_of (BlockNode b) = values_in (arguments_at c b)
  values_of (RegionNode r) = []

  abbrev pub values_among : List IRNode → List Value
  values_among [] = []
  values_among (e ∷ es) = values_of e ++ values_among es

  abbrev pub numbers_among : List IRNode → Numbers
  numbers_among es = record { operations = operations_among es; blocks = blocks_among es; values = values_among es }

  pub results_are : (p : Ptr Operation) (w : OperationView O) → operation_at c p ≡ Some w → names_of (head_of {B = B} p w).results ≡ values_in (results_at c p)
  results_are p w there = names_are w.results ∙ ap values_in (sym (ap (λ o. unwrap_or (option_map (λ (x : OperationView O). x.results) o) []) there))

  pub arguments_are : (b : Ptr BasicBlock) (w : BlockView B) → block_at c b ≡ Some w → names_of (label_of {O = O} b w).arguments ≡ values_in (arguments_at c b)
  arguments_are b w there = names_are w.arguments ∙ ap values_in (sym (ap (λ o. unwrap_or (option_map (λ (x : BlockView B). x.arguments) o) []) there))

  pub values_joined : (xs ys : List IRNode) → values_among (xs ++ ys) ≡ values_among xs ++ values_among ys
  values_joined [] ys = refl
  values_joined (x ∷ xs) ys = ap (λ l. values_of x ++ l) (values_joined xs ys) ∙ sym (append_assoc (values_of x) (values_among xs) (values_among ys))

  values_last : (es : List IRNode) (e : IRNode) → values_among (es ++ e ∷ []) ≡ values_among es ++ values_of e
  values_last es e = values_joined es (e ∷ []) ∙ ap (λ l. values_among es ++ l) (append-nil (values_of e))

  value_from : (es : List IRNode) (v : Value) → Has v (values_among es) → (e : IRNode) × Has e es × Has v (values_of e)
  value_from [] v h = absurd h
  value_from (e ∷ es) v h = ⊎_elim (λ a. (e, inl refl, a)) (λ b. let g = value_from es v b in (g.0, inr g.1, g.2)) (has_either (values_of e) (values_among es) v h)

  value_picked : (es : List IRNode) (e : IRNode) (v : Value) → Has e es → Has v (values_of e) → Has v (values_among es)
  value_picked [] e v has h = absurd has
  value_picked (d ∷ es) e v has h = ⊎_elim
      (λ same. has_front (values_of d) (values_among es) v (subst (λ z. Has v (values_of z)) same h))
      (λ r. has_back (values_of d) (values_among es) v (value_picked es e v r h))
      has

  in_order : (es : List IRNode) (e : IRNode) → Has e es → StandInOrder (values_among es) (values_of e)
  in_order [] e has = absurd has
  in_order (d ∷ es) e has = ⊎_elim
      (λ same. (0, λ i v h. (let z : 0 + i ≡ i = omega arith in ap (slice_get (values_of d ++ values_among es)) z) ∙ front_at (values_of d) (values_among es) i v (subst (λ z. slice_get (values_of z) i ≡ Some v) same h)))
      (λ r. let g = in_order es e r in
      (length (values_of d) + g.0, λ i v h. (let z : length (values_of d) + g.0 + i ≡ length (values_of d) + (g.0 + i) = omega arith in ap (slice_get (values_of d ++ values_among es)) z) ∙ back_at (values_of d) (values_among es) (g.0 + i) ∙ g.1 i v h))
      has

  -- one entity more
  pub with_next : (es : List IRNode) (e : IRNode) → with_node c (numbers_among es) e ≡ numbers_among (es ++ e ∷ [])
  with_next es (OperationNode p) =
      let a = operations_joined es (OperationNode p ∷ []) in
      let b = blocks_joined es (OperationNode p ∷ []) ∙ append-nil (blocks_among es) in
      let v = values_last es (OperationNode p) in
      λ i. record { operations = sym a i; blocks = sym b i; values = sym v i }
  with_next es (BlockNode p) =
      let a = operations_joined es (BlockNode p ∷ []) ∙ append-nil (operations_among es) in
      let b = blocks_joined es (BlockNode p ∷ []) in
      let v = values_last es (BlockNode p) in
      λ i. record { operations = sym a i; blocks = sym b i; values = sym v i }
  with_next es (RegionNode r) =
      let a = operations_joined es (RegionNode r ∷ []) ∙ append-nil (operations_among es) in
      let b = blocks_joined es (RegionNode r ∷ []) ∙ append-nil (blocks_among es) in
      let v = values_last es (RegionNode r) ∙ append-nil (values_among es) in
      λ i. record { operations = sym a i; blocks = sym b i; values = sym v i }

  module _ (values : HasValues c) where
    -- an entity that defines a value is told by the value
    same_node : (d e : IRNode) (v : Value) → Has v (values_of d) → Has v (values_of e) → d ≡ e
    same_node (OperationNode p) (OperationNode q) v a b = let s : ByOp p ≡ ByOp q = sym (definer_of c values (ByOp p) v a) ∙ definer_of c values (ByOp q) v b in cc
    same_node (OperationNode p) (BlockNode q) v a b = let s : ByOp p ≡ ByBlock q = sym (definer_of c values (ByOp p) v a) ∙ definer_of c values (ByBlock q) v b in cc
    same_node (BlockNode p) (OperationNode q) v a b = let s : ByBlock p ≡ ByOp q = sym (definer_of c values (ByBlock p) v a) ∙ definer_of c values (ByOp q) v b in cc
    same_node (BlockNode p) (BlockNode q) v a b = let s : ByBlock p ≡ ByBlock q = sym (definer_of c values (ByBlock p) v a) ∙ definer_of c values (ByBlock q) v b in cc
    same_node (RegionNode p) e v a b = absurd a
    same_node (OperationNode p) (RegionNode q) v a b = absurd b
    same_node (BlockNode p) (RegionNode q) v a b = absurd b

    values_new : (es : List IRNode) (e : IRNode) → (Has e es → ⊥) → AreNew (values_among es) (values_of e)
    values_new es e lacks v a b = let g = value_from es v b in lacks (subst (λ z. Has z es) (same_node g.0 e v g.2 a) g.1)

    node_values : (e : IRNode) → Once (values_of e)
    node_values (OperationNode p) = values_apart c values (ByOp p)
    node_values (BlockNode b) = values_apart c values (ByBlock b)
    node_values (RegionNode r) = tt

    values_once : (es : List IRNode) → Once es → Once (values_among es)
    values_once [] once = tt
    values_once (e ∷ es) once = once_joined (values_of e) (values_among es) (node_values e) (values_once es once.1) (values_new es e once.0)

    -- of all that is inside the root, which comes first
    module _ (op : Ptr Operation) (ns : List IRNode) (inside : AreInside c (OperationNode op) (OperationNode op ∷ ns)) (once : Once (OperationNode op ∷ ns)) (order : (t : ProgramTree O B) → StandsFor c op t → AreInPreorder t (numbers_among ns)) where
      inside_of : (e : IRNode) → Has e ns → StandsInside c (OperationNode op) e
      inside_of e has = let k = has_at ns e has in inside.inside (suc k.0) e k.1

      live_of : (e : IRNode) → Has e ns → IsLiveNode c e
      live_of e has = let k = has_at ns e has in inside.live (suc k.0) e k.1

      has_inside : (e : IRNode) → StandsInside c (OperationNode op) e → (e ≡ OperationNode op) ⊎ Has e ns
      has_inside e s = let k = inside.all e s in at_has (OperationNode op ∷ ns) k.0 e k.1

      below : (p : Ptr Operation) → Has (OperationNode p) ns → IsBelowRoot c op p
      below p has = record { inside = inside_of (OperationNode p) has; other = λ e. once.0 (subst (λ z. Has (OperationNode z) ns) e has) }

      has_below : (p : Ptr Operation) → IsBelowRoot c op p → Has (OperationNode p) ns
      has_below p b = ⊎_elim (λ (e : OperationNode p ≡ OperationNode op). let same : p ≡ op = cc in absurd (b.other same)) (λ h. h) (has_inside (OperationNode p) b.inside)

      has_block : (b : Ptr BasicBlock) → IsBlockBelow c op b → Has (BlockNode b) ns
      has_block b i = ⊎_elim (λ (e : BlockNode b ≡ OperationNode op). cc) (λ h. h) (has_inside (BlockNode b) i)

      defined_by_node : (e : IRNode) (v : Value) → Has e ns → Has v (values_of e) → IsDefinedBelow c op v
      defined_by_node (OperationNode p) v has h =
          let w = something (operation_at c p) (live_of (OperationNode p) has) in
          inl (p, w.0, below p has, w.1, subst (Has v) (sym (results_are p w.0 w.1)) h)
      defined_by_node (BlockNode b) v has h =
          let w = something (block_at c b) (live_of (BlockNode b) has) in
          inr (b, w.0, inside_of (BlockNode b) has, w.1, subst (Has v) (sym (arguments_are b w.0 w.1)) h)
      defined_by_node (RegionNode r) v has h = absurd h

      numbered_by_node : (e : IRNode) (v : Value) → Has e ns → Has v (values_of e) → DefinerHasNumber (numbers_among ns) v.definer
      numbered_by_node (OperationNode p) v has h = subst (DefinerHasNumber (numbers_among ns)) (sym (definer_of c values (ByOp p) v h)) (has_at (operations_among ns) p (operation_picked ns p has))
      numbered_by_node (BlockNode b) v has h = subst (DefinerHasNumber (numbers_among ns)) (sym (definer_of c values (ByBlock b) v h)) (has_at (blocks_among ns) b (block_picked ns b has))
      numbered_by_node (RegionNode r) v has h = absurd h

      values_are : (v : Value) → Lists (values_among ns) v ↔ IsDefinedBelow c op v
      values_are v = (
        (λ l. let g = value_from ns v (at_has (values_among ns) l.0 v l.1) in defined_by_node g.0 v g.1 g.2),
        (λ d. has_at (values_among ns) v (⊎_elim
            (λ g. value_picked ns (OperationNode g.0) v (has_below g.0 g.2) (subst (Has v) (results_are g.0 g.1 g.3) g.4))
            (λ g. value_picked ns (BlockNode g.0) v (has_block g.0 g.2) (subst (Has v) (arguments_are g.0 g.1 g.3) g.4))
            d)),
      )

      pub all_numbered : NumbersInside c op (numbers_among ns)
      all_numbered = record {
        operations = λ p. ((λ l. below p (operation_from ns p (at_has (operations_among ns) l.0 p l.1))), (λ b. has_at (operations_among ns) p (operation_picked ns p (has_below p b))));
        blocks = λ b. ((λ l. inside_of (BlockNode b) (block_from ns b (at_has (blocks_among ns) l.0 b l.1))), (λ i. has_at (blocks_among ns) b (block_picked ns b (has_block b i))));
        values = values_are;
        operations_once = once_at (operations_among ns) (operations_once ns once.1);
        blocks_once = once_at (blocks_among ns) (blocks_once ns once.1);
        values_once = once_at (values_among ns) (values_once ns once.1);
        in_preorder = order;
        results_in_order = λ p b. in_order ns (OperationNode p) (has_below p b);
        arguments_in_order = λ b i. in_order ns (BlockNode b) (has_block b i);
        definers = λ v l. let g = value_from ns v (at_has (values_among ns) l.0 v l.1) in numbered_by_node g.0 v g.1 g.2;
      }
