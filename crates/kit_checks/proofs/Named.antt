-- Which values an operation may name, in the program and in the tree.
use Rattle.std.proofs.Common.{◌≡◌, ◌≢◌, ◌↔◌, ◌⊎◌, inl, inr, ⊎_elim, ℕ, zero, suc, ◌<◌, ◌==◌, Bool, true, false, cond, List, [], ◌∷◌, map, take, length, Option, Some, None, IsSome, IsTrue, option_map, unwrap_or, slice_get, refl, sym, ap, ◌∙◌, subst, arith}
use Rattle.std.proofs.lemmas.Bool.{false≢true, eqb-true, cases_order}
use Rattle.std.proofs.lemmas.Option.{slice_get_within}
use Rattle.ir_base.specs.declared.types.TypeHandle.{TypeHandle}
use Rattle.ir_program.specs.Definers.{StandsAtDefiner, values_at}
use Rattle.ir_program.specs.Lists.{StandsInBlock, StandsInRegion, StandsInside, itself, in_block, in_region, in_operation, blocks_in, operations_in}
use Rattle.ir_program.specs.Program.{Program, TypedValue, OperationView, BlockView, IsLiveValue, arguments_at, operation_at, results_at, type_at, value_in}
use Rattle.ir_program.specs.Rows.{operands_at}
use Rattle.ir_program.specs.declared.handles.DefiningEntity.{DefiningEntity}
use Rattle.ir_program.specs.declared.handles.DefiningEntity.TheVariants.{Op as ByOp, Block as ByBlock}
use Rattle.ir_program.specs.declared.handles.IRNode.{IRNode}
use Rattle.ir_program.specs.declared.handles.IRNode.TheVariants.{Operation as OperationNode, BasicBlock as BlockNode}
use Rattle.ir_program.specs.declared.handles.Ptr.{Ptr}
use Rattle.ir_program.specs.declared.handles.Operation.{Operation}
use Rattle.ir_program.specs.declared.handles.Region.{Region}
use Rattle.ir_program.specs.declared.handles.BasicBlock.{BasicBlock}
use Rattle.ir_program.specs.declared.handles.Value.{Value}
use Rattle.ir_trees.specs.Searched.{Lists}
use Rattle.ir_trees.specs.Stands.{ProgramTree, StandsFor, defined_by}
use Rattle.ir_trees.proofs.Members.{Has, at_has, has_at, has_front, has_back, has_either}
use Rattle.opt_inside.proofs.Around.{HasLists}
use Rattle.kit_checks.specs.declared.naming.Spot.{Spot}
use Rattle.kit_checks.specs.declared.walk_order.WalkOrder.{WalkOrder}
use Rattle.kit_checks.specs.Located.{IsAround, IsBody, IsSiteOf}
use Rattle.kit_checks.specs.Naming.{IsEarlier, IsNumberedBelow, IsSpotOfOperation, MayName, MayNameFrom, OrdersBefore, number_in}
use Rattle.kit_checks.specs.Rules.{OperandsAreVisible}
use Rattle.kit_checks.specs.Sites.{Around, Body, Site, operation_list}
use Rattle.kit_checks.specs.Words.{Every, first_body, results_of, values_before, values_if, values_in, values_of, visible}
use Rattle.kit_checks.specs.World.{World}
use Rattle.kit_checks.proofs.Down.{operation_listed, operations_are}
use Rattle.kit_checks.proofs.Somewhere.{around_is, around_some}
use Rattle.kit_checks.proofs.Passed.{from_joined, in_joined}
use Rattle.kit_checks.proofs.Trees.{operands_are}
use Rattle.kit_checks.proofs.Upward.{block_tree, operation_tree}

-- what holds of the values of every program
pub record HasValues {O B : Type 0} (c : Program O B) : Type 0 where
  pub definer : (e : DefiningEntity) (k : ℕ) (v : Value) → value_in (values_at c e) k ≡ Some v → v.definer ≡ e
  pub stands : (v : Value) (ty : TypeHandle) → type_at c v ≡ Some ty → StandsAtDefiner c v ty

some_of : {X : Type 0} (o : Option X) → IsSome o → (x : X) × (o ≡ Some x)
some_of None h = absurd (false≢true h)
some_of (Some x) h = (x, refl)

module _ {O B : Type 0} (c : Program O B) (values : HasValues c) where
  -- a live value stands at its definer
  at_definer : (v : Value) → IsLiveValue c v → (e : DefiningEntity) → v.definer ≡ e → (k : ℕ) × (value_in (values_at c e) k ≡ Some v)
  at_definer v live e is =
      let ty = some_of (type_at c v) live in
      let it = values.stands v ty.0 ty.1 in
      (it.index, subst (λ d. value_in (values_at c d) it.index ≡ Some v) is (ap (option_map (λ (t : TypedValue). t.value)) it.stands))

  -- the operation of which a live value is a result is there
  results_some : (o : Option (OperationView O)) (k : ℕ) (v : Value) → value_in (unwrap_or (option_map (λ (x : OperationView O). x.results) o) []) k ≡ Some v → IsSome o
  results_some None k v h = cc
  results_some (Some x) k v h = refl

  pub definer_lives : (v : Value) → IsLiveValue c v → (p : Ptr Operation) → v.definer ≡ ByOp p → IsSome (operation_at c p)
  definer_lives v live p is = let k = at_definer v live (ByOp p) is in results_some (operation_at c p) k.0 v k.1

  -- the values of a list of results or arguments
  values_get : (ts : List TypedValue) (k : ℕ) → slice_get (values_of (map defined_by ts)) k ≡ value_in ts k
  values_get [] k = refl
  values_get (t ∷ ts) zero = refl
  values_get (t ∷ ts) (suc k) = values_get ts k

  result_values : (op : Ptr Operation) (u : ProgramTree O B) → StandsFor c op u → values_of u.head.results ≡ values_of (map defined_by (results_at c op))
  result_values op u s = ap (λ h. values_of h.results) s.head ∙ sym (ap (λ o. values_of (map defined_by (unwrap_or (option_map (λ (x : OperationView O). x.results) o) []))) s.there)

  argument_values : (b : Ptr BasicBlock) (body : Body O B) → IsBody c b body → values_of body.label.arguments ≡ values_of (map defined_by (arguments_at c b))
  argument_values b body s = ap (λ l. values_of l.arguments) s.label ∙ sym (ap (λ o. values_of (map defined_by (unwrap_or (option_map (λ (x : BlockView B). x.arguments) o) []))) s.there)

  is_result : (op : Ptr Operation) (u : ProgramTree O B) → StandsFor c op u → (v : Value) → Has v (values_of u.head.results) → v.definer ≡ ByOp op
  is_result op u s v has =
      let k = has_at (values_of u.head.results) v has in
      values.definer (ByOp op) k.0 v (sym (values_get (results_at c op) k.0) ∙ ap (λ l. slice_get l k.0) (sym (result_values op u s)) ∙ k.1)

  as_result : (op : Ptr Operation) (u : ProgramTree O B) → StandsFor c op u → (v : Value) → IsLiveValue c v → v.definer ≡ ByOp op → Has v (values_of u.head.results)
  as_result op u s v live is =
      let k = at_definer v live (ByOp op) is in
      at_has (values_of u.head.results) k.0 v (ap (λ l. slice_get l k.0) (result_values op u s) ∙ values_get (results_at c op) k.0 ∙ k.1)

  is_argument : (b : Ptr BasicBlock) (body : Body O B) → IsBody c b body → (v : Value) → Has v (values_of body.label.arguments) → v.definer ≡ ByBlock b
  is_argument b body s v has =
      let k = has_at (values_of body.label.arguments) v has in
      values.definer (ByBlock b) k.0 v (sym (values_get (arguments_at c b) k.0) ∙ ap (λ l. slice_get l k.0) (sym (argument_values b body s)) ∙ k.1)

  as_argument : (b : Ptr BasicBlock) (body : Body O B) → IsBody c b body → (v : Value) → IsLiveValue c v → v.definer ≡ ByBlock b → Has v (values_of body.label.arguments)
  as_argument b body s v live is =
      let k = at_definer v live (ByBlock b) is in
      at_has (values_of body.label.arguments) k.0 v (ap (λ l. slice_get l k.0) (argument_values b body s) ∙ values_get (arguments_at c b) k.0 ∙ k.1)

-- the first members of a list
taken : {X : Type 0} (xs : List X) (n k : ℕ) (x : X) → slice_get (take n xs) k ≡ Some x → (k < n) × (slice_get xs k ≡ Some x)
taken xs zero k x h = cc
taken [] (suc n) k x h = cc
taken (y ∷ xs) (suc n) zero x h = (omega arith, h)
taken (y ∷ xs) (suc n) (suc k) x h = let r = taken xs n k x h in let less = r.0 in (omega arith, r.1)

takes : {X : Type 0} (xs : List X) (n k : ℕ) (x : X) → k < n → slice_get xs k ≡ Some x → slice_get (take n xs) k ≡ Some x
takes xs zero k x less h = absurd (omega arith)
takes [] (suc n) k x less h = cc
takes (y ∷ xs) (suc n) zero x less h = h
takes (y ∷ xs) (suc n) (suc k) x less h = takes xs n k x (omega arith) h

-- the values of operations are the results of one of them
abbrev values_at_tree : {O B : Type 0} → ProgramTree O B → List Value
values_at_tree u = values_of u.head.results

module _ {O B : Type 0} (c : Program O B) (lists : HasLists c) (values : HasValues c) (b : Ptr BasicBlock) (body : Body O B) (s : IsBody c b body) (v : Value) where
  -- a result of one of the first operations of the block
  defined_below : (n : ℕ) → Has v (results_of (take n (operation_list body.operations))) → (p : Ptr Operation) × (k : ℕ) × (v.definer ≡ ByOp p) × (slice_get (operations_in c b) k ≡ Some p) × (k < n)
  defined_below n has =
      let m = from_joined values_at_tree (take n (operation_list body.operations)) v has in
      let k = has_at (take n (operation_list body.operations)) m.0 m.1 in
      let t = taken (operation_list body.operations) n k.0 m.0 k.1 in
      let it = operation_listed c s.view.operations body.operations s.operations k.0 m.0 t.1 in
      (m.0.head.name, k.0, is_result c values m.0.head.name m.0 it.1 v m.2, ap (λ l. slice_get l k.0) (sym (operations_are c b body s)) ∙ it.0, t.0)

  defined_within : IsLiveValue c v → (n : ℕ) (p : Ptr Operation) (k : ℕ) → v.definer ≡ ByOp p → slice_get (operations_in c b) k ≡ Some p → k < n → Has v (results_of (take n (operation_list body.operations)))
  defined_within live n p k is here less =
      let it = operation_tree c s.view.operations body.operations s.operations k p (ap (λ l. slice_get l k) (operations_are c b body s) ∙ here) in
      in_joined values_at_tree (take n (operation_list body.operations)) it.0 v
      (at_has (take n (operation_list body.operations)) k it.0 (takes (operation_list body.operations) n k it.0 less it.1)) (as_result c values p it.0 it.2 v live is)

  -- a value of the block up to an operation of it
  abbrev pub IsOfBlock : DefiningEntity → (Ptr Operation → Type 0) → Type 0
  IsOfBlock (ByBlock home) P = home ≡ b
  IsOfBlock (ByOp p) P = P p

  by_block : (e : DefiningEntity) (home : Ptr BasicBlock) (P : Ptr Operation → Type 0) → e ≡ ByBlock home → home ≡ b → IsOfBlock e P
  by_block (ByBlock x) home P is same = let e : x ≡ home = cc in e ∙ same
  by_block (ByOp x) home P is same = cc

  by_op : (e : DefiningEntity) (p : Ptr Operation) (P : Ptr Operation → Type 0) → e ≡ ByOp p → P p → IsOfBlock e P
  by_op (ByBlock x) p P is h = cc
  by_op (ByOp x) p P is h = let e : p ≡ x = cc in subst P e h

  pub before_is : (op : Ptr Operation) (n : ℕ) → slice_get (operations_in c b) n ≡ Some op → Lists (values_before body n) v → IsOfBlock v.definer (λ p. IsEarlier (operations_in c b) p op)
  before_is op n here l = ⊎_elim
      (λ a. by_block v.definer b (λ p. IsEarlier (operations_in c b) p op) (is_argument c values b body s v a) refl)
      (λ r. let d = defined_below n r in
      by_op v.definer d.0 (λ p. IsEarlier (operations_in c b) p op) d.2 (record { first = d.1; second = n; here = d.3; there = here; before = d.4 }))
      (has_either (values_of body.label.arguments) (results_of (take n (operation_list body.operations))) v (at_has (values_before body n) l.0 v l.1))

  pub before_of : IsLiveValue c v → (op : Ptr Operation) (n : ℕ) → slice_get (operations_in c b) n ≡ Some op → (e : DefiningEntity) → v.definer ≡ e → IsOfBlock e (λ p. IsEarlier (operations_in c b) p op) → Lists (values_before body n) v
  before_of live op n here (ByBlock home) is h =
      has_at (values_before body n) v (has_front (values_of body.label.arguments) (results_of (take n (operation_list body.operations))) v
      (as_argument c values b body s v live (is ∙ ap ByBlock h)))
  before_of live op n here (ByOp p) is h =
      let same : h.second ≡ n = (lists.operations_once op b b h.second n h.there here).1 in
      let less = h.before in
      has_at (values_before body n) v (has_back (values_of body.label.arguments) (results_of (take n (operation_list body.operations))) v
      (defined_within live n p h.first is h.here (omega arith)))

  all_taken : (us : List (ProgramTree O B)) → take (length us) us ≡ us
  all_taken [] = refl
  all_taken (u ∷ us) = ap (λ l. u ∷ l) (all_taken us)

  pub in_is : Lists (values_in body) v → IsOfBlock v.definer (λ p. StandsInBlock c p b)
  in_is l = ⊎_elim
      (λ a. by_block v.definer b (λ p. StandsInBlock c p b) (is_argument c values b body s v a) refl)
      (λ r. let d = defined_below (length (operation_list body.operations)) (subst (λ us. Has v (results_of us)) (sym (all_taken (operation_list body.operations))) r) in
      by_op v.definer d.0 (λ p. StandsInBlock c p b) d.2 (lists.operations b d.1 d.0 d.3))
      (has_either (values_of body.label.arguments) (results_of (operation_list body.operations)) v (at_has (values_in body) l.0 v l.1))

  pub in_of : IsLiveValue c v → (e : DefiningEntity) → v.definer ≡ e → IsOfBlock e (λ p. StandsInBlock c p b) → Lists (values_in body) v
  in_of live (ByBlock home) is h =
      has_at (values_in body) v (has_front (values_of body.label.arguments) (results_of (operation_list body.operations)) v (as_argument c values b body s v live (is ∙ ap ByBlock h)))
  in_of live (ByOp p) is h =
      let t = operation_tree c s.view.operations body.operations s.operations h.index p (ap (λ l. slice_get l h.index) (operations_are c b body s) ∙ h.here) in
      let less = slice_get_within (operation_list body.operations) h.index t.0 t.1 in
      has_at (values_in body) v (has_back (values_of body.label.arguments) (results_of (operation_list body.operations)) v
      (subst (λ us. Has v (results_of us)) (all_taken (operation_list body.operations)) (defined_within live (length (operation_list body.operations)) p h.index is h.here less)))

-- the values that an operation may name, in the tree, and where it is in the program
module _ {O B : Type 0} (c : Program O B) (lists : HasLists c) (values : HasValues c) (op : Ptr Operation) (spot : Spot) (a : Around O B) (region : Ptr Region) (entry : Body O B)
    (mine : IsBody c spot.block a.body) (index : slice_get (operations_in c spot.block) a.index ≡ Some op)
    (number : slice_get (blocks_in c region) a.number ≡ Some spot.block) (start : slice_get (blocks_in c region) 0 ≡ Some spot.entry)
    (first : first_body a.blocks ≡ Some entry) (its : IsBody c spot.entry entry) (v : Value) where
  at_entry : (n : ℕ) → slice_get (blocks_in c region) n ≡ Some spot.block → (n == 0) ≡ true → spot.block ≡ spot.entry
  at_entry n here zero_n =
      let z : n ≡ 0 = eqb-true n 0 zero_n in
      let e : Some spot.block ≡ Some spot.entry = sym here ∙ ap (slice_get (blocks_in c region)) z ∙ start in cc

  not_entry : (n : ℕ) → slice_get (blocks_in c region) n ≡ Some spot.block → (n == 0) ≡ false → spot.block ≢ spot.entry
  not_entry n here other same =
      let z : n ≡ 0 = (lists.blocks_once spot.block region region n 0 here (start ∙ ap Some (sym same))).1 in
      let f : true ≡ false = sym (ap (λ k. k == 0) z) ∙ other in cc

  from_block : (e : DefiningEntity) → IsOfBlock c lists values spot.block a.body mine v e (λ p. IsEarlier (operations_in c spot.block) p op) → MayNameFrom c op spot e
  from_block (ByBlock home) h = inl h
  from_block (ByOp p) h = inl h

  from_entry : (e : DefiningEntity) → spot.block ≢ spot.entry → IsOfBlock c lists values spot.entry entry its v e (λ p. StandsInBlock c p spot.entry) → MayNameFrom c op spot e
  from_entry (ByBlock home) other h = inr h
  from_entry (ByOp p) other h = inr (other, h)

  abbrev others : Bool → List Value
  others b = cond b [] (values_if (first_body a.blocks))

  from_others : (b : Bool) → (a.number == 0) ≡ b → Has v (others b) → MayName c op spot v
  from_others true is h = absurd h
  from_others false is h =
      let has : Has v (values_in entry) = subst (λ o. Has v (values_if o)) first h in
      from_entry v.definer (not_entry a.number number is) (in_is c lists values spot.entry entry its v (has_at (values_in entry) v has))

  pub may_name : Lists (visible a) v → MayName c op spot v
  may_name l = ⊎_elim
      (λ h. from_block v.definer (before_is c lists values spot.block a.body mine v op a.index index (has_at (values_before a.body a.index) v h)))
      (λ h. from_others (a.number == 0) refl h)
      (has_either (values_before a.body a.index) (others (a.number == 0)) v (at_has (visible a) l.0 v l.1))

  module _ (live : IsLiveValue c v) where
    in_front_part : (e : DefiningEntity) → v.definer ≡ e → IsOfBlock c lists values spot.block a.body mine v e (λ p. IsEarlier (operations_in c spot.block) p op) → Lists (visible a) v
    in_front_part e is h =
        let l = before_of c lists values spot.block a.body mine v live op a.index index e is h in
        has_at (visible a) v (has_front (values_before a.body a.index) (others (a.number == 0)) v (at_has (values_before a.body a.index) l.0 v l.1))

    to_others : (b : Bool) → (a.number == 0) ≡ b → (b ≡ false) → (e : DefiningEntity) → v.definer ≡ e → IsOfBlock c lists values spot.entry entry its v e (λ p. StandsInBlock c p spot.entry) → Lists (visible a) v
    to_others b is other e def h =
        let l = in_of c lists values spot.entry entry its v live e def h in
        let has : Has v (others b) = subst (λ x. Has v (others x)) (sym other) (subst (λ o. Has v (values_if o)) (sym first) (at_has (values_in entry) l.0 v l.1)) in
        has_at (visible a) v (has_back (values_before a.body a.index) (others (a.number == 0)) v (subst (λ x. Has v (others x)) (sym is) has))

    of_entry : (b : Bool) → (a.number == 0) ≡ b → (home : Ptr BasicBlock) → v.definer ≡ ByBlock home → home ≡ spot.entry → Lists (visible a) v
    of_entry true is home def same = in_front_part (ByBlock home) def (same ∙ sym (at_entry a.number number is))
    of_entry false is home def same = to_others false is refl (ByBlock home) def same

    of_result : (b : Bool) → (a.number == 0) ≡ b → (p : Ptr Operation) → v.definer ≡ ByOp p → spot.block ≢ spot.entry → StandsInBlock c p spot.entry → Lists (visible a) v
    of_result true is p def other h = absurd (other (at_entry a.number number is))
    of_result false is p def other h = to_others false is refl (ByOp p) def h

    is_visible : (e : DefiningEntity) → v.definer ≡ e → MayNameFrom c op spot e → Lists (visible a) v
    is_visible (ByBlock home) is h = ⊎_elim (λ same. in_front_part (ByBlock home) is same) (λ same. of_entry (a.number == 0) refl home is same) h
    is_visible (ByOp p) is h = ⊎_elim (λ earlier. in_front_part (ByOp p) is earlier) (λ r. of_result (a.number == 0) refl p is r.0 r.1) h

    pub sees : MayName c op spot v → Lists (visible a) v
    sees h = is_visible v.definer refl h

-- the rule at a site
module _ {O B : Type 0} (w : World O B) (c : Program O B) (lists : HasLists c) (values : HasValues c) (root op : Ptr Operation) (s : Site O B) (at : IsSiteOf c root op s) where
  module _ (spot : Spot) (is : IsSpotOfOperation c op spot) (a : Around O B) (it : IsAround c root op a) where
    same_block : it.block ≡ spot.block
    same_block = (lists.operations_once op it.block spot.block it.in_block.index is.in_block.index it.in_block.here is.in_block.here).0

    in_its_region : StandsInRegion c it.block is.region
    in_its_region = subst (λ b. StandsInRegion c b is.region) (sym same_block) is.in_region

    same_region : it.region ≡ is.region
    same_region = (lists.blocks_once it.block it.region is.region it.in_region.index in_its_region.index it.in_region.here in_its_region.here).0

    start_of : slice_get (blocks_in c it.region) 0 ≡ Some spot.entry
    start_of = ap (λ r. slice_get (blocks_in c r) 0) same_region ∙ is.entry

    pub names_visible : (v : Value) → IsLiveValue c v → Lists (visible a) v ↔ MayName c op spot v
    names_visible v live =
        let body : IsBody c spot.block a.body = subst (λ b. IsBody c b a.body) same_block it.body in
        let index : slice_get (operations_in c spot.block) a.index ≡ Some op = subst (λ b. slice_get (operations_in c b) a.index ≡ Some op) same_block it.index in
        let number : slice_get (blocks_in c it.region) a.number ≡ Some spot.block = it.number ∙ ap Some same_block in
        let e = block_tree c (blocks_in c it.region) a.blocks it.blocks 0 spot.entry start_of in (
          may_name c lists values op spot a it.region e.0 body index number start_of e.1 e.2 v,
          sees c lists values op spot a it.region e.0 body index number start_of e.1 e.2 v live,
        )

  pub operands_seen : (spot : Spot) → op ≢ root → IsSpotOfOperation c op spot → ((k : ℕ) (v : Value) → slice_get (operands_at c op) k ≡ Some v → IsLiveValue c v) →
      (r : Bool) → IsTrue r ↔ Every (MayName c op spot) (operands_at c op) → IsTrue r ↔ OperandsAreVisible w s
  operands_seen spot other is live r tells =
      let are = operands_are c op s.op at.tree in (
        λ h. record {
          inside = λ a here k v there. let there2 = subst (λ l. slice_get l k ≡ Some v) are there in (names_visible spot is a (around_is c root op s at s.around refl at.around a here) v (live k v there2)).1 (tells.0 h k v there2);
          root = λ none. let a = around_some c root op s at s.around refl at.around other in let e : None ≡ Some a.0 = sym none ∙ a.1 in cc;
        },
        λ keeps. tells.1 (λ k v there.
            let a = around_some c root op s at s.around refl at.around other in
            (names_visible spot is a.0 (around_is c root op s at s.around refl at.around a.0 a.1) v (live k v there)).0 (keeps.inside a.0 a.1 k v (subst (λ l. slice_get l k ≡ Some v) (sym are) there))),
      )

  nothing : {X : Type 0} (xs : List X) → length xs ≡ 0 → xs ≡ []
  nothing [] h = refl
  nothing (x ∷ xs) h = absurd (omega arith)

  pub none_seen : s.around ≡ None → (r : Bool) → IsTrue r ↔ (length (operands_at c op) ≡ 0) → IsTrue r ↔ OperandsAreVisible w s
  none_seen none r tells =
      let are = operands_are c op s.op at.tree in (
        λ h. record { inside = λ a here. let e : None ≡ Some a = sym none ∙ here in cc; root = λ same. are ∙ nothing (operands_at c op) (tells.0 h) },
        λ keeps. tells.1 (sym (ap length are) ∙ ap length (keeps.root none)),
      )

-- what is inside the root is the root, or an operation of a block that is inside it
inside_block : {O B : Type 0} (c : Program O B) (x e : IRNode) (op : Ptr Operation) → StandsInside c x e → e ≡ OperationNode op →
    (x ≡ OperationNode op) ⊎ ((b : Ptr BasicBlock) × StandsInBlock c op b × StandsInside c x (BlockNode b))
inside_block c x _ op itself same = inl same
inside_block c x _ op (in_block p b s i) same = let e : p ≡ op = cc in inr (b, subst (λ z. StandsInBlock c z b) e s, i)
inside_block c x _ op (in_region b r s i) same = cc
inside_block c x _ op (in_operation r p s i) same = cc

-- the block of an operation that is inside the root is inside it
pub block_inside : {O B : Type 0} (c : Program O B) → HasLists c → (root op : Ptr Operation) (b : Ptr BasicBlock) → op ≢ root → StandsInside c (OperationNode root) (OperationNode op) → StandsInBlock c op b → StandsInside c (OperationNode root) (BlockNode b)
block_inside c lists root op b other inside stands = ⊎_elim
    (λ (same : OperationNode root ≡ OperationNode op). let e : root ≡ op = cc in absurd (other (sym e)))
    (λ h. subst (λ x. StandsInside c (OperationNode root) (BlockNode x)) ((lists.operations_once op h.0 b h.1.index stands.index h.1.here stands.here).0) h.2)
    (inside_block c (OperationNode root) (OperationNode op) op inside refl)

-- of two operations of a block the one with a number below the other's is the earlier one
pub order_tells : {O B : Type 0} (c : Program O B) (b : Ptr BasicBlock) (order : WalkOrder) (p op : Ptr Operation)
    → OrdersBefore c b op order → StandsInBlock c p b → StandsInBlock c op b
    → IsNumberedBelow order p op → IsEarlier (operations_in c b) p op
order_tells c b order p op orders in_p in_op below = ⊎_elim
    (λ (same : in_p.index ≡ in_op.index).
    let q : Some p ≡ Some op = sym in_p.here ∙ ap (slice_get (operations_in c b)) same ∙ in_op.here in
    let r : p ≡ op = cc in
    let n : number_in order p ≡ number_in order op = ap (number_in order) r in
    let less = below.1 in
    absurd (omega (arith, n, less)))
    (λ rest. ⊎_elim
    (λ (before : in_p.index < in_op.index).
    record { first = in_p.index; second = in_op.index; here = in_p.here; there = in_op.here; before = before })
    (λ (behind : in_op.index < in_p.index).
    absurd (orders.behind p
    (record { first = in_op.index; second = in_p.index; here = in_op.here; there = in_p.here; before = behind }) below))
    rest)
    (cases_order in_p.index in_op.index)
