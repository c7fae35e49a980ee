-- The names of what stands where constants were put in are kept apart.
use Rattle.std.proofs.Common.{◌≡◌, ◌∙◌, ◌⊎◌, inl, inr, ⊎_elim, ℕ, zero, suc, List, [], ◌∷◌, ◌++◌, map, Option, Some, None, refl, ap, sym, subst, slice_get}
use Rattle.std.proofs.lemmas.Option.{none-some}
use Rattle.ir_base.specs.declared.types.TypeHandle.{TypeHandle}
use Rattle.ir_program.specs.Program.{operation_at}
use Rattle.ir_program.specs.declared.handles.DefiningEntity.TheVariants.{Op as ByOp}
use Rattle.ir_program.specs.declared.handles.Operation.{Operation}
use Rattle.ir_program.specs.declared.handles.Ptr.{Ptr}
use Rattle.ir_program.specs.declared.handles.Value.{Value}
use Rattle.ir_trees.specs.Renames.{names_of, rename_defined, values_at, values_in, values_of, IsOneToOne, rename_root}
use Rattle.ir_trees.specs.Searched.{Lists, heads_in, heads_of, operation_names}
use Rattle.ir_trees.specs.Stands.{by_handle, in_program, ProgramHead, StandsFor}
use Rattle.ir_trees.specs.Trees.{Defined, Head, Sort, Operations, Regions, Tree, end, operation, block, region}
use Rattle.kit.specs.Context.{KitProgram, KitTree}
use Rattle.opt_trees.specs.Occurrences.{Has, defined_in}
use Rattle.opt_trees.specs.Sccp.{Name, Old, New, fresh, used_as, constant_before, put_one, put_results, put_arguments, old_head, put, put_root}
use Rattle.opt_inside.specs.Around.{IsTakenOutside}
use Rattle.opt_sccp.specs.Puts.{PutsConstants}
use Rattle.opt_sccp.specs.Sccp.{Propagates}
use Rattle.opt_dialect.specs.declared.status.IRStatus.{IRStatus}
use Rattle.kit.specs.Meaning.{KitOperation, KitBlock, kit}
use Rattle.kit_ops.specs.declared.attributes.IntegerAttr.{IntegerAttr}
use Rattle.kit_ruled_views.specs.TreePasses.{IsSccpNamed}
use Rattle.kit_ruled_passes.proofs.LiveValues.{KnowsValues, IsOfNoneGone, IsHere, has_left, has_right, has_parts, all_live, all_here}

abbrev Part : Sort → Type 0
Part s = Tree by_handle (in_program KitOperation KitBlock) s

abbrev Put : Sort → Type 0
Put s = Tree (fresh by_handle) (in_program KitOperation KitBlock) s

get_has : {X : Type 0} (x : X) (xs : List X) (k : ℕ) → slice_get xs k ≡ Some x → Has x xs
get_has x [] k e = absurd (none-some x e)
get_has x (y ∷ ys) zero e = inl (let same : y ≡ x = cc in sym same)
get_has x (y ∷ ys) (suc k) e = inr (get_has x ys k e)

module _ (made : Value → Option IntegerAttr) where
  -- a name of a value is one that was there, of which this holds, or that of a constant
  abbrev IsName : (Value → Type 0) → Name Value Value → Type 0
  IsName P n = ((v : Value) × P v × (n ≡ Old v)) ⊎ ((v : Value) × (a : IntegerAttr) × (made v ≡ Some a) × (n ≡ New v))

  used_name : (P : Value → Type 0) (v : Value) (o : Option IntegerAttr) → made v ≡ o → P v → IsName P (used_as v o)
  used_name P v None e p = inl (v, p, refl)
  used_name P v (Some a) e p = inr (v, a, e, refl)

  -- of operands
  used_names : (P : Value → Type 0) (vs : List Value) → ((v : Value) → Has v vs → P v) → (n : Name Value Value)
      → Has n (map (λ v. used_as v (made v)) vs) → IsName P n
  used_names P [] all n h = absurd h
  used_names P (v ∷ vs) all n (inl e) = subst (IsName P) (sym e) (used_name P v (made v) refl (all v (inl refl)))
  used_names P (v ∷ vs) all n (inr h) = used_names P vs (λ w has. all w (inr has)) n h

  -- of results and arguments
  old_names : (P : Value → Type 0) (ds : List (Defined Value TypeHandle)) → ((v : Value) → Has v (names_of ds) → P v)
      → (n : Name Value Value) → Has n (names_of (map (rename_defined Old) ds)) → IsName P n
  old_names P [] all n h = absurd h
  old_names P (d ∷ ds) all n (inl e) = inl (d.name, all d.name (inl refl), e)
  old_names P (d ∷ ds) all n (inr h) = old_names P ds (λ w has. all w (inr has)) n h

  -- a constant in front of others
  before_names : (P : Value → Type 0) (v : Value) (a : IntegerAttr) → made v ≡ Some a → (c : Option KitOperation)
      (rest : Put Operations) (n : Name Value Value) → Has n (values_in (constant_before {N = by_handle} kit v a c rest))
      → IsName P n ⊎ Has n (values_in rest)
  before_names P v a e None rest n h = inr h
  before_names P v a e (Some c) rest n (inl x) = inl (inr (v, a, e, x))
  before_names P v a e (Some c) rest n (inr h) = inr h

  one_names : (P : Value → Type 0) (v : Value) (o : Option IntegerAttr) → made v ≡ o → (rest : Put Operations)
      (n : Name Value Value) → Has n (values_in (put_one {N = by_handle} kit v o rest)) → IsName P n ⊎ Has n (values_in rest)
  one_names P v None e rest n h = inr h
  one_names P v (Some a) e rest n h = before_names P v a e (kit.constant a) rest n h

  result_names : (P : Value → Type 0) (ds : List (Defined Value TypeHandle)) (rest : Put Operations) (n : Name Value Value)
      → Has n (values_in (put_results {N = by_handle} kit made ds rest)) → IsName P n ⊎ Has n (values_in rest)
  result_names P [] rest n h = inr h
  result_names P (d ∷ ds) rest n h = ⊎_elim (λ i. inl i) (λ i. result_names P ds rest n i)
      (one_names P d.name (made d.name) refl (put_results {N = by_handle} kit made ds rest) n h)

  argument_names : (P : Value → Type 0) (ds : List (Defined Value TypeHandle)) (rest : Put Operations) (n : Name Value Value)
      → Has n (values_in (put_arguments {N = by_handle} kit made ds rest)) → IsName P n ⊎ Has n (values_in rest)
  argument_names P [] rest n h = inr h
  argument_names P (d ∷ ds) rest n h = ⊎_elim (λ i. inl i)
      (λ i. one_names P d.name (made d.name) refl rest n i)
      (argument_names P ds (put_one {N = by_handle} kit d.name (made d.name) rest) n h)

  module _ (P : Value → Type 0) where
    -- of an operation itself
    head_names : (h : Head by_handle (in_program KitOperation KitBlock)) → ((v : Value) → Has v (values_at h) → P v)
        → (n : Name Value Value) → Has n (values_at (old_head {N = by_handle} made h)) → IsName P n
    head_names h all n has = ⊎_elim
        (λ i. old_names P h.results (λ v r. all v (has_left v (names_of h.results) h.operands r)) n i)
        (λ i. used_names P h.operands (λ v u. all v (has_right v (names_of h.results) h.operands u)) n i)
        (has_parts n (names_of (map (rename_defined Old) h.results)) (map (λ v. used_as v (made v)) h.operands) has)

    part_names : {s : Sort} (x : Part s) → ((v : Value) → Has v (values_in x) → P v) → (n : Name Value Value)
        → Has n (values_in (put {N = by_handle} kit made x)) → IsName P n
    part_names end all n h = absurd h
    part_names (operation h rs rest) all n has = ⊎_elim (λ i. i)
        (λ i. ⊎_elim
        (λ j. head_names h (λ v k. all v (has_left v (values_at h) (values_in rs ++ values_in rest) k)) n j)
        (λ j. ⊎_elim
        (λ k. part_names rs (λ v m. all v (has_right v (values_at h) (values_in rs ++ values_in rest)
        (has_left v (values_in rs) (values_in rest) m))) n k)
        (λ k. part_names rest (λ v m. all v (has_right v (values_at h) (values_in rs ++ values_in rest)
        (has_right v (values_in rs) (values_in rest) m))) n k)
        (has_parts n (values_in (put {N = by_handle} kit made rs)) (values_in (put {N = by_handle} kit made rest)) j))
        (has_parts n (values_at (old_head {N = by_handle} made h))
        (values_in (put {N = by_handle} kit made rs) ++ values_in (put {N = by_handle} kit made rest)) i))
        (result_names P h.results
        (operation (old_head {N = by_handle} made h) (put {N = by_handle} kit made rs) (put {N = by_handle} kit made rest))
        n has)
    part_names (block l os rest) all n has = ⊎_elim
        (λ i. old_names P l.arguments (λ v k. all v (has_left v (names_of l.arguments) (values_in os ++ values_in rest) k)) n i)
        (λ i. ⊎_elim
        (λ j. ⊎_elim (λ k. k)
        (λ k. part_names os (λ v m. all v (has_right v (names_of l.arguments) (values_in os ++ values_in rest)
        (has_left v (values_in os) (values_in rest) m))) n k)
        (argument_names P l.arguments (put {N = by_handle} kit made os) n j))
        (λ j. part_names rest (λ v m. all v (has_right v (names_of l.arguments) (values_in os ++ values_in rest)
        (has_right v (values_in os) (values_in rest) m))) n j)
        (has_parts n (values_in (put_arguments {N = by_handle} kit made l.arguments (put {N = by_handle} kit made os)))
        (values_in (put {N = by_handle} kit made rest)) i))
        (has_parts n (names_of (map (rename_defined Old) l.arguments))
        (values_in (put_arguments {N = by_handle} kit made l.arguments (put {N = by_handle} kit made os))
        ++ values_in (put {N = by_handle} kit made rest)) has)
    part_names (region bs rest) all n has = ⊎_elim
        (λ i. part_names bs (λ v m. all v (has_left v (values_in bs) (values_in rest) m)) n i)
        (λ i. part_names rest (λ v m. all v (has_right v (values_in bs) (values_in rest) m)) n i)
        (has_parts n (values_in (put {N = by_handle} kit made bs)) (values_in (put {N = by_handle} kit made rest)) has)

    root_names : (t : KitTree) → ((v : Value) → Has v (values_of t) → P v) → (n : Name Value Value)
        → Has n (values_of (put_root {N = by_handle} kit made t)) → IsName P n
    root_names t all n has = ⊎_elim
        (λ i. head_names t.head (λ v k. all v (has_left v (values_at t.head) (values_in t.regions) k)) n i)
        (λ i. part_names t.regions (λ v k. all v (has_right v (values_at t.head) (values_in t.regions) k)) n i)
        (has_parts n (values_at (old_head {N = by_handle} made t.head)) (values_in (put {N = by_handle} kit made t.regions)) has)

  -- ---- operations

  -- a name of an operation is one that was there, of which this holds, or that of a constant
  abbrev IsOperation : (Ptr Operation → Type 0) → Name (Ptr Operation) Value → Type 0
  IsOperation Q n =
      ((p : Ptr Operation) × Q p × (n ≡ Old p)) ⊎ ((v : Value) × (a : IntegerAttr) × (made v ≡ Some a) × (n ≡ New v))

  abbrev PutHead : Type 0
  PutHead = Head (fresh by_handle) (in_program KitOperation KitBlock)

  module _ (Q : Ptr Operation → Type 0) where
    before_heads : (v : Value) (a : IntegerAttr) → made v ≡ Some a → (c : Option KitOperation) (rest : Put Operations)
        (h : PutHead) → Has h (heads_in (constant_before {N = by_handle} kit v a c rest))
        → IsOperation Q h.name ⊎ Has h (heads_in rest)
    before_heads v a e None rest h has = inr has
    before_heads v a e (Some c) rest h (inl x) = inl (inr (v, a, e, ap (λ (k : PutHead). k.name) x))
    before_heads v a e (Some c) rest h (inr has) = inr has

    one_heads : (v : Value) (o : Option IntegerAttr) → made v ≡ o → (rest : Put Operations) (h : PutHead)
        → Has h (heads_in (put_one {N = by_handle} kit v o rest)) → IsOperation Q h.name ⊎ Has h (heads_in rest)
    one_heads v None e rest h has = inr has
    one_heads v (Some a) e rest h has = before_heads v a e (kit.constant a) rest h has

    result_heads : (ds : List (Defined Value TypeHandle)) (rest : Put Operations) (h : PutHead)
        → Has h (heads_in (put_results {N = by_handle} kit made ds rest)) → IsOperation Q h.name ⊎ Has h (heads_in rest)
    result_heads [] rest h has = inr has
    result_heads (d ∷ ds) rest h has = ⊎_elim (λ i. inl i) (λ i. result_heads ds rest h i)
        (one_heads d.name (made d.name) refl (put_results {N = by_handle} kit made ds rest) h has)

    argument_heads : (ds : List (Defined Value TypeHandle)) (rest : Put Operations) (h : PutHead)
        → Has h (heads_in (put_arguments {N = by_handle} kit made ds rest)) → IsOperation Q h.name ⊎ Has h (heads_in rest)
    argument_heads [] rest h has = inr has
    argument_heads (d ∷ ds) rest h has = ⊎_elim (λ i. inl i) (λ i. one_heads d.name (made d.name) refl rest h i)
        (argument_heads ds (put_one {N = by_handle} kit d.name (made d.name) rest) h has)

    part_heads : {s : Sort} (x : Part s) → ((g : ProgramHead KitOperation KitBlock) → Has g (heads_in x) → Q g.name)
        → (h : PutHead) → Has h (heads_in (put {N = by_handle} kit made x)) → IsOperation Q h.name
    part_heads end all h has = absurd has
    part_heads (operation g rs rest) all h has = ⊎_elim (λ i. i)
        (λ i. ⊎_elim
        (λ e. inl (g.name, all g (inl refl), ap (λ (k : PutHead). k.name) e))
        (λ j. ⊎_elim
        (λ k. part_heads rs (λ f m. all f (inr (has_left f (heads_in rs) (heads_in rest) m))) h k)
        (λ k. part_heads rest (λ f m. all f (inr (has_right f (heads_in rs) (heads_in rest) m))) h k)
        (has_parts h (heads_in (put {N = by_handle} kit made rs)) (heads_in (put {N = by_handle} kit made rest)) j)) i)
        (result_heads g.results
        (operation (old_head {N = by_handle} made g) (put {N = by_handle} kit made rs) (put {N = by_handle} kit made rest))
        h has)
    part_heads (block l os rest) all h has = ⊎_elim
        (λ i. ⊎_elim (λ j. j)
        (λ j. part_heads os (λ f m. all f (has_left f (heads_in os) (heads_in rest) m)) h j)
        (argument_heads l.arguments (put {N = by_handle} kit made os) h i))
        (λ i. part_heads rest (λ f m. all f (has_right f (heads_in os) (heads_in rest) m)) h i)
        (has_parts h (heads_in (put_arguments {N = by_handle} kit made l.arguments (put {N = by_handle} kit made os)))
        (heads_in (put {N = by_handle} kit made rest)) has)
    part_heads (region bs rest) all h has = ⊎_elim
        (λ i. part_heads bs (λ f m. all f (has_left f (heads_in bs) (heads_in rest) m)) h i)
        (λ i. part_heads rest (λ f m. all f (has_right f (heads_in bs) (heads_in rest) m)) h i)
        (has_parts h (heads_in (put {N = by_handle} kit made bs)) (heads_in (put {N = by_handle} kit made rest)) has)

    root_heads : (t : KitTree) → ((g : ProgramHead KitOperation KitBlock) → Has g (heads_of t) → Q g.name)
        → (h : PutHead) → Has h (heads_of (put_root {N = by_handle} kit made t)) → IsOperation Q h.name
    root_heads t all h has = ⊎_elim
        (λ e. inl (t.head.name, all t.head (inl refl), ap (λ (k : PutHead). k.name) e))
        (λ i. part_heads t.regions (λ f m. all f (inr m)) h i) has

-- a name of a list of heads is that of a head
named_head : (hs : List (Head (fresh by_handle) (in_program KitOperation KitBlock))) (n : Name (Ptr Operation) Value)
    → Has n (map (λ (h : Head (fresh by_handle) (in_program KitOperation KitBlock)). h.name) hs)
    → (h : Head (fresh by_handle) (in_program KitOperation KitBlock)) × Has h hs × (n ≡ h.name)
named_head [] n h = absurd h
named_head (g ∷ gs) n (inl e) = (g, inl refl, e)
named_head (g ∷ gs) n (inr h) = let later = named_head gs n h in (later.0, inr later.1, later.2)

module _ (old new : KitProgram) (root : Ptr Operation) (knows : KnowsValues old) (t : KitTree) (stands : StandsFor old root t)
    (made : Value → Option IntegerAttr) (puts : PutsConstants kit old new root made t) where
  abbrev after : Tree (fresh by_handle) (in_program KitOperation KitBlock) Regions
  after = put {N = by_handle} kit made t.regions

  -- no value that was there is the result of a constant
  clash : (v w : Value) (a : IntegerAttr) → IsOfNoneGone old v → made w ≡ Some a → v ≡ puts.names.value (New w) → ⊥
  clash v w a live m e =
      live (puts.names.operation (New w)) (ap (λ (x : Value). x.definer) e ∙ puts.own w a m) (puts.led_nowhere w a m)

  -- names of values
  values_by : (x y : Name Value Value) → IsName made (IsOfNoneGone old) x → IsName made (IsOfNoneGone old) y
      → puts.names.value x ≡ puts.names.value y → x ≡ y
  values_by x y (inl p) (inl q) e =
      let same : p.0 ≡ q.0 =
      sym (puts.old_values p.0) ∙ sym (ap puts.names.value p.2) ∙ e ∙ ap puts.names.value q.2 ∙ puts.old_values q.0 in
      p.2 ∙ ap (λ v. Old v) same ∙ sym q.2
  values_by x y (inl p) (inr q) e = absurd (clash p.0 q.0 q.1 p.1 q.2
      (sym (puts.old_values p.0) ∙ sym (ap puts.names.value p.2) ∙ e ∙ ap puts.names.value q.3))
  values_by x y (inr p) (inl q) e = absurd (clash q.0 p.0 p.1 q.1 p.2
      (sym (puts.old_values q.0) ∙ sym (ap puts.names.value q.2) ∙ sym e ∙ ap puts.names.value p.3))
  values_by x y (inr p) (inr q) e =
      let one : puts.names.value (New p.0) ≡ puts.names.value (New q.0) =
      sym (ap puts.names.value p.3) ∙ e ∙ ap puts.names.value q.3 in
      let definers : ByOp (puts.names.operation (New p.0)) ≡ ByOp (puts.names.operation (New q.0)) =
      sym (puts.own p.0 p.1 p.2) ∙ ap (λ (v : Value). v.definer) one ∙ puts.own q.0 q.1 q.2 in
      let operations : puts.names.operation (New p.0) ≡ puts.names.operation (New q.0) = cc in
      p.3 ∙ ap (λ v. New v) (puts.apart p.0 q.0 p.1 q.1 p.2 q.2 operations) ∙ sym q.3

  -- names of operations
  operations_by : (x y : Name (Ptr Operation) Value) → IsOperation made (IsHere old) x → IsOperation made (IsHere old) y
      → puts.names.operation x ≡ puts.names.operation y → x ≡ y
  operations_by x y (inl p) (inl q) e =
      let same : p.0 ≡ q.0 = sym (puts.old_operations p.0) ∙ sym (ap puts.names.operation p.2) ∙ e
      ∙ ap puts.names.operation q.2 ∙ puts.old_operations q.0 in
      p.2 ∙ ap (λ o. Old o) same ∙ sym q.2
  operations_by x y (inl p) (inr q) e =
      let same : p.0 ≡ puts.names.operation (New q.0) =
      sym (puts.old_operations p.0) ∙ sym (ap puts.names.operation p.2) ∙ e ∙ ap puts.names.operation q.3 in
      absurd (p.1 (ap (λ o. operation_at old o) same ∙ puts.led_nowhere q.0 q.1 q.2))
  operations_by x y (inr p) (inl q) e =
      let same : q.0 ≡ puts.names.operation (New p.0) =
      sym (puts.old_operations q.0) ∙ sym (ap puts.names.operation q.2) ∙ sym e ∙ ap puts.names.operation p.3 in
      absurd (q.1 (ap (λ o. operation_at old o) same ∙ puts.led_nowhere p.0 p.1 p.2))
  operations_by x y (inr p) (inr q) e =
      p.3 ∙ ap (λ v. New v) (puts.apart p.0 q.0 p.1 q.1 p.2 q.2
      (sym (ap puts.names.operation p.3) ∙ e ∙ ap puts.names.operation q.3)) ∙ sym q.3

  operation_of : (n : Name (Ptr Operation) Value) → Lists (operation_names (put_root {N = by_handle} kit made t)) n
      → IsOperation made (IsHere old) n
  operation_of n l =
      let h = named_head (heads_of (put_root {N = by_handle} kit made t)) n
      (get_has n (operation_names (put_root {N = by_handle} kit made t)) l.0 l.1) in
      subst (IsOperation made (IsHere old)) (sym h.2)
      (root_heads made (IsHere old) t (λ g has. all_here old root t stands g has) h.0 h.1)

  value_of : (n : Name Value Value) → Lists (values_of (put_root {N = by_handle} kit made t)) n
      → IsName made (IsOfNoneGone old) n
  value_of n l = root_names made (IsOfNoneGone old) t (λ v has. all_live old knows root t stands v has) n
      (get_has n (values_of (put_root {N = by_handle} kit made t)) l.0 l.1)

  pub one_to_one : IsOneToOne puts.names (put_root {N = by_handle} kit made t)
  one_to_one = record {
    operations = λ x y l k e. operations_by x y (operation_of x l) (operation_of y k) e;
    blocks = λ x y l k e. sym (puts.old_blocks x) ∙ e ∙ puts.old_blocks y;
    values = λ x y l k e. values_by x y (value_of x l) (value_of y k) e;
  }

pub is_named : (old new : KitProgram) (root : Ptr Operation) → KnowsValues old → (answer : IRStatus) (t : KitTree)
    → ((v : Value) → Has v (defined_in t.regions) → IsTakenOutside old root v → ⊥) → StandsFor old root t → Propagates kit old new root answer t → (u : KitTree) × StandsFor new root u × IsSccpNamed t u
is_named old new root knows answer t closed stands p = (
  rename_root p.puts.names (put_root {N = by_handle} kit p.made t),
  p.puts.stands,
  record {
    around = p.decided.around;
    unpinned = λ v has pinned. closed v has ((p.decided.pins v).0 pinned);
    put = put_root {N = by_handle} kit p.made t;
    is = record {
      facts = p.decided.facts;
      best = p.decided.best;
      made = p.made;
      is_made = p.decided.is_made;
      is = refl;
    };
    names = p.puts.names;
    apart = one_to_one old new root knows t stands p.made p.puts;
    same = refl;
  },
)
