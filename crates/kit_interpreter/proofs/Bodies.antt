-- The blocks of a function and its values by number.
use Rattle.std.proofs.Common.{◌≡◌, ◌≢◌, ⊎_elim, ℕ, ◌+◌, ◌<◌, Bool, true, false, List, [], ◌∷◌, length, get_or, map, Option, Some, None, IsSome, option_map, unwrap_or, slice_get, nat_eq, refl, sym, ap, ◌∙◌, subst, arith}
use Rattle.std.proofs.lemmas.Bool.{cases_eq}
use Rattle.std.proofs.lemmas.Option.{slice_get-get_or, slice_get_within}
use Rattle.ir_program.specs.Program.{BlockView, block_at, arguments_at, results_at, no_handle}
use Rattle.ir_program.specs.Lists.{operations_in, blocks_in, regions_in, StandsInBlock, StandsInRegion, StandsInOperation, StandsInside, itself, in_block, in_region, in_operation}
use Rattle.ir_program.specs.Replacing.{same_value}
use Rattle.ir_program.specs.declared.handles.Ptr.{Ptr}
use Rattle.ir_program.specs.declared.handles.Operation.{Operation}
use Rattle.ir_program.specs.declared.handles.Region.{Region}
use Rattle.ir_program.specs.declared.handles.BasicBlock.{BasicBlock}
use Rattle.ir_program.specs.declared.handles.Value.{Value}
use Rattle.ir_program.specs.declared.handles.IRNode.TheVariants.{Operation as OperationNode, BasicBlock as BlockNode}
use Rattle.ir_program.proofs.used.Renames.{IsTestOf}
use Rattle.ir_program.proofs.used.Renaming.{value-test}
use Rattle.ir_trees.specs.Searched.{Lists, AreDistinct}
use Rattle.kit.specs.Context.{KitContext, KitProgram}
use Rattle.kit.specs.Meaning.{KitBlock}
use Rattle.opt_inside.specs.Numbered.{Numbers, NumbersInside, StandInOrder}
use Rattle.opt_inside.specs.Occurring.{IsBelowRoot, IsBlockBelow}
use Rattle.kit_flat.specs.Machine.{MachineOp}
use Rattle.kit_flat.specs.View.{op_view, block_view}
use Rattle.kit_flat.specs.Sound.{BlockFits, FunctionFits}
use Rattle.kit_flat.specs.Renames.{rename_op, rename_block, TargetsAreInside, IsFunctionOf}
use Rattle.kit_flat.specs.declared.flat.FlatBlock.{FlatBlock}
use Rattle.kit_flat.specs.declared.flat.FlatFunction.{FlatFunction}
use Rattle.kit_places.specs.Numbers.{values_of, no_value, value_at, block_with, operation_with}
use Rattle.kit_places.specs.Store.{body_of, op_at, block_seen, module_code}
use Rattle.kit_interpreter.specs.Lowering.{IsValueIn, CanRun, IsBlockNumbered, LowersBlock, LowersFunction}

-- values in a row are listed
in_order : (all vs : List Value) → StandInOrder all vs → (v : Value) → Lists vs v → Lists all v
in_order all vs o v l = (o.0 + l.0, o.1 l.0 v l.1)

-- distinct values have the names of their numbers
pub apart_by_number : {X : Type 0} (same : X → X → Bool) → IsTestOf same → (d : X) (keys : List X)
    → AreDistinct keys → (v w : ℕ) → v < length keys → w < length keys
    → same (get_or keys v d) (get_or keys w d) ≡ nat_eq v w
apart_by_number {X} same test d keys distinct v w l m = ⊎_elim
    (λ (e : v ≡ w). test.yes (get_or keys v d) (get_or keys w d) (ap (λ i. get_or keys i d) e) ∙ sym (equal v w e))
    (λ (n : v ≢ w). test.no (get_or keys v d) (get_or keys w d)
    (λ e. n (distinct v w (get_or keys v d) (slice_get-get_or keys v d l)
    (slice_get-get_or keys w d m ∙ ap Some (sym e))))
    ∙ sym (other v w n))
    (cases_eq v w)
  where
    equal : (v w : ℕ) → v ≡ w → nat_eq v w ≡ true
    equal v w e = grind (arith, cases_eq v w)

    other : (v w : ℕ) → v ≢ w → nat_eq v w ≡ false
    other v w n = grind (arith, cases_eq v w)

map_map : {X Y Z : Type 0} (f : X → Y) (g : Y → Z) (xs : List X) → map (λ x. g (f x)) xs ≡ map g (map f xs)
map_map f g [] = refl
map_map f g (x ∷ xs) = ap (λ ys. g (f x) ∷ ys) (map_map f g xs)

module _ (s : KitContext) (m op : Ptr Operation) (region : Ptr Region) (n : Numbers) (can : CanRun s m op)
    (is : slice_get (regions_in s.program op) 0 ≡ Some region)
    (numbers : NumbersInside s.program op n) (stands : StandsInOperation s.program region op)
    (blocks_stand : (r : Ptr Region) (k : ℕ) (b : Ptr BasicBlock) → slice_get (blocks_in s.program r) k ≡ Some b
    → StandsInRegion s.program b r)
    (operations_stand : (b : Ptr BasicBlock) (k : ℕ) (q : Ptr Operation)
    → slice_get (operations_in s.program b) k ≡ Some q → StandsInBlock s.program q b)
    (outside : (q : Ptr Operation) (b : Ptr BasicBlock) → StandsInBlock s.program q b
    → StandsInside s.program (OperationNode q) (BlockNode b) → ⊥) where
  pub body_is : body_of s.program op ≡ blocks_in s.program region
  body_is = ap (λ o. unwrap_or (option_map (blocks_in s.program) o) []) is

  below : (b : Ptr BasicBlock) → Lists (body_of s.program op) b → IsBlockBelow s.program op b
  below b l = in_region b region (blocks_stand region l.0 b (subst (λ bs. slice_get bs l.0 ≡ Some b) body_is l.1))
      (in_operation region op stands itself)

  below_root : (b : Ptr BasicBlock) (q : Ptr Operation) → Lists (body_of s.program op) b
      → Lists (operations_in s.program b) q → IsBelowRoot s.program op q
  below_root b q l k =
      let st = operations_stand b k.0 q k.1 in
      record {
        inside = in_block q b st (below b l);
        other = λ e. outside q b st (subst (λ p. StandsInside s.program (OperationNode p) (BlockNode b)) (sym e)
            (below b l));
      }

  argument_listed : (b : Ptr BasicBlock) → Lists (body_of s.program op) b → (v : Value)
      → Lists (values_of (arguments_at s.program b)) v → Lists n.values v
  argument_listed b l v k = in_order n.values (values_of (arguments_at s.program b))
      (numbers.arguments_in_order b (below b l)) v k

  result_listed : (b : Ptr BasicBlock) (q : Ptr Operation) → Lists (body_of s.program op) b
      → Lists (operations_in s.program b) q → (v : Value) → Lists (values_of (results_at s.program q)) v
      → Lists n.values v
  result_listed b q l k v i = in_order n.values (values_of (results_at s.program q))
      (numbers.results_in_order q (below_root b q l k)) v i

  value_listed : (v : Value) → IsValueIn s.program (body_of s.program op) v → Lists n.values v
  value_listed v h = ⊎_elim
      (λ (a : Lists (values_of (arguments_at s.program h.0)) v). argument_listed h.0 h.1 v a)
      (λ (r : (q : Ptr Operation) × Lists (operations_in s.program h.0) q
      × Lists (values_of (results_at s.program q)) v). result_listed h.0 r.0 h.1 r.1 v r.2)
      h.2

  -- what the blocks of the function name has a number
  pub block_numbered : (b : Ptr BasicBlock) → Lists (blocks_in s.program region) b
      → IsBlockNumbered s m n.values (blocks_in s.program region) b
  block_numbered b listed =
      let l : Lists (body_of s.program op) b = subst (λ bs. Lists bs b) (sym body_is) listed in
      record {
        arguments = argument_listed b l;
        operations = λ q k. record {
          executes = can.executes b q l k;
          results = result_listed b q l k;
          operands = λ v i. value_listed v (can.operands b q v l k i);
          successors = λ d i. subst (λ bs. Lists bs d) body_is (can.successors b q d l k i);
        };
      }

  module _ (handles : List (Ptr Operation)) (f : FlatFunction) (values : f.values ≡ length n.values)
      (len : length f.blocks.items ≡ length (blocks_in s.program region))
      (each : (i : ℕ) (x : FlatBlock) → slice_get f.blocks.items i ≡ Some x
      → LowersBlock s m n.values (blocks_in s.program region) handles
      (block_with (blocks_in s.program region) i) x) where
    abbrev ren : MachineOp ℕ ℕ ℕ → MachineOp Value (Ptr BasicBlock) (Ptr Operation)
    ren = rename_op (value_at n.values) (block_with (blocks_in s.program region)) (operation_with handles)

    seen : (b : Ptr BasicBlock) (x : FlatBlock) → LowersBlock s m n.values (blocks_in s.program region) handles b x
        → (v : BlockView KitBlock) → block_at s.program b ≡ Some v
        → block_seen s m v ≡ rename_block (value_at n.values) (block_with (blocks_in s.program region))
        (operation_with handles) (block_view x)
    seen b x l v e =
        let a : arguments_at s.program b ≡ v.arguments = ap
        (λ (o : Option (BlockView KitBlock)). unwrap_or (option_map (λ (w : BlockView KitBlock). w.arguments) o)
        []) e in
        let p : operations_in s.program b ≡ v.operations = ap
        (λ (o : Option (BlockView KitBlock)). unwrap_or
        (option_map (λ (w : BlockView KitBlock). w.operations) o) []) e in
        let args = ap values_of (sym a) ∙ l.arguments in
        let os = ap (map (op_at s m)) (sym p) ∙ l.operations ∙ map_map op_view ren x.instructions.items in
        λ i. record { arguments = args i; operations = os i }

    there : (b : Ptr BasicBlock) (x : FlatBlock) → LowersBlock s m n.values (blocks_in s.program region) handles b x
        → (o : Option (BlockView KitBlock)) → block_at s.program b ≡ o → IsSome o
        → option_map (block_seen s m) (block_at s.program b) ≡ Some
        (rename_block (value_at n.values) (block_with (blocks_in s.program region)) (operation_with handles)
        (block_view x))
    there b x l None e i = absurd (cc)
    there b x l (Some v) e i = ap (option_map (block_seen s m)) e ∙ ap Some (seen b x l v e)

    live : (i : ℕ) → i < length (blocks_in s.program region)
        → IsSome (block_at s.program (block_with (blocks_in s.program region) i))
    live i l = (blocks_stand region i (block_with (blocks_in s.program region) i)
        (slice_get-get_or (blocks_in s.program region) i no_handle l)).block

    block_there : (i : ℕ) (x : FlatBlock) → slice_get f.blocks.items i ≡ Some x
        → option_map (block_seen s m) (block_at s.program (block_with (blocks_in s.program region) i)) ≡ Some
        (rename_block (value_at n.values) (block_with (blocks_in s.program region)) (operation_with handles)
        (block_view x))
    block_there i x e =
        let w = slice_get_within f.blocks.items i x e in
        there (block_with (blocks_in s.program region) i) x (each i x e)
        (block_at s.program (block_with (blocks_in s.program region) i)) refl (live i (omega (arith, w, len)))

    nonempty : 0 < length (blocks_in s.program region)
    nonempty = subst (λ (bs : List (Ptr BasicBlock)). 0 < length bs) body_is can.entry

    function_is : IsFunctionOf same_value (module_code s m) (operation_with handles) op
        (block_with (blocks_in s.program region)) (value_at n.values) f
    function_is = record {
      first = omega (arith, nonempty, len);
      entry = ap (λ (bs : List (Ptr BasicBlock)). slice_get bs 0) body_is
          ∙ slice_get-get_or (blocks_in s.program region) 0 no_handle nonempty;
      blocks = block_there;
      inside = λ b x e j o h. subst (λ k. TargetsAreInside k o) (sym len) ((each b x e).inside j o h);
      apart = λ v w l k. apart_by_number same_value value-test no_value n.values numbers.values_once v w
          (omega (arith, l, values)) (omega (arith, k, values));
    }

    fits : FunctionFits (length handles) f
    fits = record {
      blocks_fit = λ i x e. subst (λ (k : ℕ). BlockFits (length handles) k x) (sym values)
          (each i x e).fits;
    }

    pub lowers_function : LowersFunction s m handles op f
    lowers_function = (
      value_at n.values,
      subst
          (λ (bs : List (Ptr BasicBlock)). IsFunctionOf same_value (module_code s m) (operation_with handles) op
          (block_with bs) (value_at n.values) f) (sym body_is) function_is,
      fits,
    )

-- a function's first region, the numbers of what is inside the function, and its blocks by number
pub record IsSetting (p : KitProgram) (op : Ptr Operation) (region : Ptr Region) (n : Numbers)
    (keys : List (Ptr BasicBlock)) : Type 0 where
  pub region_is : Some region ≡ slice_get (regions_in p op) 0
  pub numbers : NumbersInside p op n
  pub stands : StandsInOperation p region op
  pub blocks_stand : (r : Ptr Region) (k : ℕ) (b : Ptr BasicBlock) → slice_get (blocks_in p r) k ≡ Some b
      → StandsInRegion p b r
  pub operations_stand : (b : Ptr BasicBlock) (k : ℕ) (q : Ptr Operation) → slice_get (operations_in p b) k ≡ Some q
      → StandsInBlock p q b
  pub outside : (q : Ptr Operation) (b : Ptr BasicBlock) → StandsInBlock p q b
      → StandsInside p (OperationNode q) (BlockNode b) → ⊥
  pub keys_are : keys ≡ blocks_in p region

module _ (s : KitContext) (m op : Ptr Operation) (region : Ptr Region) (n : Numbers) (keys : List (Ptr BasicBlock))
    (can : CanRun s m op) (t : IsSetting s.program op region n keys) where
  pub live_at : (i : ℕ) (b : Ptr BasicBlock) → slice_get keys i ≡ Some b → IsSome (block_at s.program b)
  live_at i b e = (t.blocks_stand region i b
      (subst (λ (ks : List (Ptr BasicBlock)). slice_get ks i ≡ Some b) t.keys_are e)).block

  pub numbered_at : (i : ℕ) (b : Ptr BasicBlock) → slice_get keys i ≡ Some b → IsBlockNumbered s m n.values keys b
  numbered_at i b e =
      subst (λ (ks : List (Ptr BasicBlock)). IsBlockNumbered s m n.values ks b) (sym t.keys_are)
      (block_numbered s m op region n can (sym t.region_is) t.numbers t.stands t.blocks_stand t.operations_stand
      t.outside b (i, subst (λ (ks : List (Ptr BasicBlock)). slice_get ks i ≡ Some b) t.keys_are e))

  pub lowers_at : (handles : List (Ptr Operation)) (f : FlatFunction) → f.values ≡ length n.values
      → length f.blocks.items ≡ length keys
      → ((i : ℕ) (x : FlatBlock) → slice_get f.blocks.items i ≡ Some x
      → LowersBlock s m n.values keys handles (block_with keys i) x) → LowersFunction s m handles op f
  lowers_at handles f v l each =
      lowers_function s m op region n can (sym t.region_is) t.numbers t.stands t.blocks_stand t.operations_stand
      t.outside handles f v (l ∙ ap length t.keys_are)
      (subst (λ (ks : List (Ptr BasicBlock)). (i : ℕ) (x : FlatBlock) → slice_get f.blocks.items i ≡ Some x
      → LowersBlock s m n.values ks handles (block_with ks i) x) t.keys_are each)
