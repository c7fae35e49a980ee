-- A tree with constants put in: its lists.
use Rattle.std.proofs.Common.{◌≡◌, ◌⊎◌, ⊎_elim, inl, inr, ℕ, zero, suc, ◌+◌, ◌<◌, List, [], ◌∷◌, ◌++◌, map, take, length, Option, Some, None, slice_get, refl, sym, ap, ◌∙◌, subst, arith}
use Rattle.ir_base.specs.declared.types.TypeHandle.{TypeHandle}
use Rattle.ir_program.specs.declared.handles.Value.{Value}
use Rattle.ir_trees.specs.Renames.{Maps, rename, rename_head, rename_label}
use Rattle.ir_trees.specs.Stands.{by_handle, in_program}
use Rattle.ir_trees.specs.Trees.{Defined, Operations, Blocks, Regions, Tree, end, operation, block, region}
use Rattle.kit.specs.Context.{KitTree}
use Rattle.kit.specs.Meaning.{KitOperation, KitBlock, kit, operation_of}
use Rattle.kit_checks.specs.Sites.{Listed, operation_list, block_list, region_list}
use Rattle.kit_checks.specs.Words.{bodies_of, joined}
use Rattle.kit_ops.specs.declared.attributes.IntegerAttr.{IntegerAttr}
use Rattle.kit_ops.specs.declared.attributes.KitAttr.TheVariants as attrs
use Rattle.kit_ops.specs.declared.kinds.KitOp.TheVariants as ops
use Rattle.kit_ops.specs.Keys.{constant_value}
use Rattle.kit_pass_rules.proofs.Lists.{has_at_index}
use Rattle.kit_pass_rules.proofs.Thin.{KitBody}
use Rattle.opt_trees.specs.Occurrences.{Has}
use Rattle.opt_trees.specs.Sccp.{fresh, constant_head, put_one, put_results, put_arguments, old_head, old_label, put}
use Rattle.opt_trees.proofs.Lists.{some_same, none_some, map-append}
use Rattle.opt_trees.proofs.NoneDead.{has-append, has-left, has-right}

pub append_assoc : {X : Type 0} (xs ys zs : List X) → (xs ++ ys) ++ zs ≡ xs ++ (ys ++ zs)
append_assoc [] ys zs = refl
append_assoc (x ∷ xs) ys zs = ap (λ l. x ∷ l) (append_assoc xs ys zs)

pub append_at : {X : Type 0} (xs ys : List X) (k : ℕ) (y : X) → slice_get (xs ++ ys) k ≡ Some y →
    ((k < length xs) × (slice_get xs k ≡ Some y)) ⊎ ((m : ℕ) × (k ≡ length xs + m) × (slice_get ys m ≡ Some y))
append_at [] ys k y e = inr (k, omega arith, e)
append_at (x ∷ xs) ys zero y e = inl (omega arith, e)
append_at (x ∷ xs) ys (suc k) y e = ⊎_elim
    (λ l. let q : k < length xs = l.0 in inl (omega (arith, q), l.1))
    (λ r. let q : k ≡ length xs + r.0 = r.1 in inr (r.0, omega (arith, q), r.2))
    (append_at xs ys k y e)

pub take_append : {X : Type 0} (xs ys : List X) (n k : ℕ) → k ≡ length xs + n → take k (xs ++ ys) ≡ xs ++ take n ys
take_append [] ys n k e = let q : k ≡ n = omega (arith, e) in ap (λ z. take z ys) q
take_append (x ∷ xs) ys n zero e = absurd (omega (arith, e))
take_append (x ∷ xs) ys n (suc k) e = ap (λ l. x ∷ l) (take_append xs ys n k (omega (arith, e)))

pub append_count : {X : Type 0} (xs ys : List X) → length (xs ++ ys) ≡ length xs + length ys
append_count [] ys = omega arith
append_count (x ∷ xs) ys = let e : length (xs ++ ys) ≡ length xs + length ys = append_count xs ys in omega arith

module _ (made : Value → Option IntegerAttr) (names : Maps (fresh by_handle) by_handle) where
  -- the tree with constants
  abbrev pub q_regions : Listed KitOperation KitBlock Regions → Listed KitOperation KitBlock Regions
  q_regions x = rename names (put {N = by_handle} kit made x)

  abbrev pub q_blocks : Listed KitOperation KitBlock Blocks → Listed KitOperation KitBlock Blocks
  q_blocks x = rename names (put {N = by_handle} kit made x)

  abbrev pub q_operations : Listed KitOperation KitBlock Operations → Listed KitOperation KitBlock Operations
  q_operations x = rename names (put {N = by_handle} kit made x)

  abbrev pub q_tree : KitTree → KitTree
  q_tree u = record { head = rename_head names (old_head {N = by_handle} made u.head); regions = q_regions u.regions }

  abbrev pub q_body : KitBody → KitBody
  q_body b = record {
    label = rename_label names (old_label {N = by_handle} b.label);
    operations = rename names (put_arguments {N = by_handle} kit made b.label.arguments (put {N = by_handle} kit made b.operations));
  }

  -- the constant of a value
  abbrev pub constant_tree : Value → IntegerAttr → KitTree
  constant_tree v a = record {
    head = rename_head names (constant_head {N = by_handle} kit v a (operation_of ops.Constant ((constant_value, attrs.Integer a) ∷ [])));
    regions = end;
  }

  abbrev pub one_for : Value → Option IntegerAttr → List KitTree
  one_for v None = []
  one_for v (Some a) = constant_tree v a ∷ []

  abbrev pub constants : List (Defined Value TypeHandle) → List KitTree
  constants [] = []
  constants (d ∷ ds) = one_for d.name (made d.name) ++ constants ds

  abbrev pub fronts : List (Defined Value TypeHandle) → List KitTree
  fronts [] = []
  fronts (d ∷ ds) = fronts ds ++ one_for d.name (made d.name)

  abbrev pub woven : List KitTree → List KitTree
  woven [] = []
  woven (u ∷ us) = constants u.head.results ++ (q_tree u ∷ woven us)

  one_put : (v : Value) (o : Option IntegerAttr) (rest : Tree (fresh by_handle) (in_program KitOperation KitBlock) Operations) →
      operation_list (rename names (put_one {N = by_handle} kit v o rest)) ≡ one_for v o ++ operation_list (rename names rest)
  one_put v None rest = refl
  one_put v (Some a) rest = refl

  results_put : (ds : List (Defined Value TypeHandle)) (rest : Tree (fresh by_handle) (in_program KitOperation KitBlock) Operations) →
      operation_list (rename names (put_results {N = by_handle} kit made ds rest)) ≡ constants ds ++ operation_list (rename names rest)
  results_put [] rest = refl
  results_put (d ∷ ds) rest =
      one_put d.name (made d.name) (put_results {N = by_handle} kit made ds rest)
      ∙ (ap (λ l. one_for d.name (made d.name) ++ l) (results_put ds rest)
      ∙ sym (append_assoc (one_for d.name (made d.name)) (constants ds) (operation_list (rename names rest))))

  arguments_put : (ds : List (Defined Value TypeHandle)) (rest : Tree (fresh by_handle) (in_program KitOperation KitBlock) Operations) →
      operation_list (rename names (put_arguments {N = by_handle} kit made ds rest)) ≡ fronts ds ++ operation_list (rename names rest)
  arguments_put [] rest = refl
  arguments_put (d ∷ ds) rest =
      arguments_put ds (put_one {N = by_handle} kit d.name (made d.name) rest)
      ∙ (ap (λ l. fronts ds ++ l) (one_put d.name (made d.name) rest)
      ∙ sym (append_assoc (fronts ds) (one_for d.name (made d.name)) (operation_list (rename names rest))))

  operations_put : (os : Listed KitOperation KitBlock Operations) → operation_list (q_operations os) ≡ woven (operation_list os)
  operations_put end = refl
  operations_put (operation h rs rest) =
      results_put h.results (operation (old_head {N = by_handle} made h) (put {N = by_handle} kit made rs) (put {N = by_handle} kit made rest))
      ∙ ap (λ l. constants h.results ++ (q_tree (record { head = h; regions = rs }) ∷ l)) (operations_put rest)

  pub list_put : (b : KitBody) → operation_list (q_body b).operations ≡ fronts b.label.arguments ++ woven (operation_list b.operations)
  list_put b = arguments_put b.label.arguments (put {N = by_handle} kit made b.operations) ∙ ap (λ l. fronts b.label.arguments ++ l) (operations_put b.operations)

  pub blocks_put : (bs : Listed KitOperation KitBlock Blocks) → block_list (q_blocks bs) ≡ map q_body (block_list bs)
  blocks_put end = refl
  blocks_put (block l os rest) = ap (λ ys. q_body (record { label = l; operations = os }) ∷ ys) (blocks_put rest)

  pub regions_put : (rs : Listed KitOperation KitBlock Regions) → region_list (q_regions rs) ≡ map q_blocks (region_list rs)
  regions_put end = refl
  regions_put (region bs rest) = ap (λ l. q_blocks bs ∷ l) (regions_put rest)

  bodies_step : (rs : List (Listed KitOperation KitBlock Blocks)) → joined (map block_list (map q_blocks rs)) ≡ map q_body (joined (map block_list rs))
  bodies_step [] = refl
  bodies_step (bs ∷ rs) =
      ap (λ l. l ++ joined (map block_list (map q_blocks rs))) (blocks_put bs)
      ∙ (ap (λ l. map q_body (block_list bs) ++ l) (bodies_step rs) ∙ sym (map-append q_body (block_list bs) (joined (map block_list rs))))

  pub bodies_put : (u : KitTree) → bodies_of (q_tree u) ≡ map q_body (bodies_of u)
  bodies_put u = ap (λ l. joined (map block_list l)) (regions_put u.regions) ∙ bodies_step (region_list u.regions)

  -- ---- where a member has come from

  pub record Made (ds : List (Defined Value TypeHandle)) (y : KitTree) : Type 0 where
    pub d : Defined Value TypeHandle
    pub has : Has d ds
    pub attribute : IntegerAttr
    pub is_made : made d.name ≡ Some attribute
    pub is : constant_tree d.name attribute ≡ y

  one_made : (d : Defined Value TypeHandle) (o : Option IntegerAttr) → made d.name ≡ o → (y : KitTree) → Has y (one_for d.name o) → Made (d ∷ []) y
  one_made d None e y h = absurd h
  one_made d (Some a) e y h = ⊎_elim (λ q. record { d = d; has = inl refl; attribute = a; is_made = e; is = sym q }) (λ q. absurd q) h

  more_made : (ds es : List (Defined Value TypeHandle)) (y : KitTree) → ((d : Defined Value TypeHandle) → Has d ds → Has d es) → Made ds y → Made es y
  more_made ds es y sub m = record { d = m.d; has = sub m.d m.has; attribute = m.attribute; is_made = m.is_made; is = m.is }

  pub constants_made : (ds : List (Defined Value TypeHandle)) (y : KitTree) → Has y (constants ds) → Made ds y
  constants_made [] y h = absurd h
  constants_made (d ∷ ds) y h = ⊎_elim
      (λ q. more_made (d ∷ []) (d ∷ ds) y (λ e i. ⊎_elim (λ z. inl z) (λ z. absurd z) i) (one_made d (made d.name) refl y q))
      (λ q. more_made ds (d ∷ ds) y (λ e i. inr i) (constants_made ds y q))
      (has-append y (one_for d.name (made d.name)) (constants ds) h)

  pub fronts_made : (ds : List (Defined Value TypeHandle)) (y : KitTree) → Has y (fronts ds) → Made ds y
  fronts_made [] y h = absurd h
  fronts_made (d ∷ ds) y h = ⊎_elim
      (λ q. more_made ds (d ∷ ds) y (λ e i. inr i) (fronts_made ds y q))
      (λ q. more_made (d ∷ []) (d ∷ ds) y (λ e i. ⊎_elim (λ z. inl z) (λ z. absurd z) i) (one_made d (made d.name) refl y q))
      (has-append y (fronts ds) (one_for d.name (made d.name)) h)

  one_has : (v : Value) (o : Option IntegerAttr) (a : IntegerAttr) → o ≡ Some a → Has (constant_tree v a) (one_for v o)
  one_has v None a e = absurd (none_some a e)
  one_has v (Some b) a e = inl (ap (constant_tree v) (sym (some_same b a e)))

  pub constants_has : (ds : List (Defined Value TypeHandle)) (d : Defined Value TypeHandle) (a : IntegerAttr) → Has d ds → made d.name ≡ Some a → Has (constant_tree d.name a) (constants ds)
  constants_has [] d a h e = absurd h
  constants_has (x ∷ ds) d a h e = ⊎_elim
      (λ q. has-left (constant_tree d.name a) (one_for x.name (made x.name)) (constants ds)
      (subst (λ (z : Defined Value TypeHandle). Has (constant_tree d.name a) (one_for z.name (made z.name))) q (one_has d.name (made d.name) a e)))
      (λ q. has-right (constant_tree d.name a) (one_for x.name (made x.name)) (constants ds) (constants_has ds d a q e)) h

  pub fronts_has : (ds : List (Defined Value TypeHandle)) (d : Defined Value TypeHandle) (a : IntegerAttr) → Has d ds → made d.name ≡ Some a → Has (constant_tree d.name a) (fronts ds)
  fronts_has [] d a h e = absurd h
  fronts_has (x ∷ ds) d a h e = ⊎_elim
      (λ q. has-right (constant_tree d.name a) (fronts ds) (one_for x.name (made x.name))
      (subst (λ (z : Defined Value TypeHandle). Has (constant_tree d.name a) (one_for z.name (made z.name))) q (one_has d.name (made d.name) a e)))
      (λ q. has-left (constant_tree d.name a) (fronts ds) (one_for x.name (made x.name)) (fronts_has ds d a q e)) h

  -- what a member of the list is woven to
  pub woven_has : (us : List KitTree) (u y : KitTree) → Has u us → Has y (constants u.head.results ++ (q_tree u ∷ [])) → Has y (woven us)
  woven_has [] u y h i = absurd h
  woven_has (x ∷ us) u y h i = ⊎_elim
      (λ e. own x (subst (λ (z : KitTree). Has y (constants z.head.results ++ (q_tree z ∷ []))) e i))
      (λ r. has-right y (constants x.head.results) (q_tree x ∷ woven us) (inr (woven_has us u y r i))) h
    where
      own : (x : KitTree) → Has y (constants x.head.results ++ (q_tree x ∷ [])) → Has y (constants x.head.results ++ (q_tree x ∷ woven us))
      own x j = ⊎_elim
          (λ a. has-left y (constants x.head.results) (q_tree x ∷ woven us) a)
          (λ b. has-right y (constants x.head.results) (q_tree x ∷ woven us) (⊎_elim (λ e. inl e) (λ z. absurd z) b))
          (has-append y (constants x.head.results) (q_tree x ∷ []) j)

  -- a member that was there, and where it has come to be
  pub record Member (us : List KitTree) (k : ℕ) (y : KitTree) : Type 0 where
    pub index : ℕ
    pub it : KitTree
    pub here : slice_get us index ≡ Some it
    pub is : q_tree it ≡ y
    pub before : (z : KitTree) → Has z (woven (take index us)) → Has z (take k (woven us))
    pub back : (z : KitTree) → Has z (take k (woven us)) → Has z (woven (take index us)) ⊎ Has z (constants it.head.results)
    pub last : index + 1 ≡ length us → k + 1 ≡ length (woven us)
    pub end : k + 1 ≡ length (woven us) → index + 1 ≡ length us

  -- a constant of a result
  pub record OfResult (us : List KitTree) (k : ℕ) (y : KitTree) : Type 0 where
    pub index : ℕ
    pub it : KitTree
    pub here : slice_get us index ≡ Some it
    pub made_for : Made it.head.results y
    pub more : k + 1 ≡ length (woven us) → ⊥

  none_woven : (us : List KitTree) → length us ≡ 0 → length (woven us) ≡ 0
  none_woven [] e = refl
  none_woven (u ∷ us) e = absurd (omega (arith, e))

  pub woven_none : (us : List KitTree) → length (woven us) ≡ 0 → length us ≡ 0
  woven_none [] e = refl
  woven_none (u ∷ us) e = let c : length (constants u.head.results ++ (q_tree u ∷ woven us)) ≡ length (constants u.head.results) + length (q_tree u ∷ woven us) = append_count (constants u.head.results) (q_tree u ∷ woven us) in absurd (omega (arith, e))

  pub source : (us : List KitTree) (k : ℕ) (y : KitTree) → slice_get (woven us) k ≡ Some y → Member us k y ⊎ OfResult us k y
  source [] k y e = absurd (none_some y e)
  source (u ∷ us) k y e = ⊎_elim
      (λ l. let less : k < length cs = l.0 in inr (record {
        index = 0;
        it = u;
        here = refl;
        made_for = constants_made u.head.results y (has_at_index cs k y l.1);
        more = λ z. omega (arith, less, z, count);
      }))
      (λ r. behind r.0 r.1 r.2 (λ m. source us m y))
      (append_at cs (q_tree u ∷ woven us) k y e)
    where
      cs : List KitTree
      cs = constants u.head.results

      count : length (constants u.head.results ++ (q_tree u ∷ woven us)) ≡ length cs + length (q_tree u ∷ woven us)
      count = append_count cs (q_tree u ∷ woven us)

      behind : (m : ℕ) → k ≡ length cs + m → slice_get (q_tree u ∷ woven us) m ≡ Some y →
          ((m : ℕ) → slice_get (woven us) m ≡ Some y → Member us m y ⊎ OfResult us m y) → Member (u ∷ us) k y ⊎ OfResult (u ∷ us) k y
      behind zero at here ih = inl (record {
        index = 0;
        it = u;
        here = refl;
        is = some_same (q_tree u) y here;
        before = λ z h. absurd h;
        back = λ z h. ⊎_elim (λ i. inr i) (λ i. absurd i) (has-append z cs [] (subst (Has z) (take_append cs (q_tree u ∷ woven us) 0 k at) h));
        last = λ z. let n : length (woven us) ≡ 0 = none_woven us (omega (arith, z)) in omega (arith, n, at, count);
        end = λ z. let n : length us ≡ 0 = woven_none us (omega (arith, z, at, count)) in omega (arith, n);
      })
      behind (suc m) at here ih = ⊎_elim
          (λ x. inl (record {
            index = suc x.index;
            it = x.it;
            here = x.here;
            is = x.is;
            before = λ z h. subst (Has z) (sym (take_append cs (q_tree u ∷ woven us) (suc m) k at))
                (⊎_elim
                (λ i. has-left z cs (q_tree u ∷ take m (woven us)) i)
                (λ i. has-right z cs (q_tree u ∷ take m (woven us)) (⊎_elim (λ q. inl q) (λ q. inr (x.before z q)) i))
                (has-append z cs (q_tree u ∷ woven (take x.index us)) h));
            back = λ z h. ⊎_elim
                (λ i. inl (has-left z cs (q_tree u ∷ woven (take x.index us)) i))
                (λ i. ⊎_elim
                (λ q. inl (has-right z cs (q_tree u ∷ woven (take x.index us)) (inl q)))
                (λ q. ⊎_elim (λ y. inl (has-right z cs (q_tree u ∷ woven (take x.index us)) (inr y))) (λ y. inr y) (x.back z q)) i)
                (has-append z cs (q_tree u ∷ take m (woven us)) (subst (Has z) (take_append cs (q_tree u ∷ woven us) (suc m) k at) h));
            last = λ z. let n : m + 1 ≡ length (woven us) = x.last (omega (arith, z)) in omega (arith, n, at, count);
            end = λ z. let n : x.index + 1 ≡ length us = x.end (omega (arith, z, at, count)) in omega (arith, n);
          }))
          (λ x. inr (record {
            index = suc x.index;
            it = x.it;
            here = x.here;
            made_for = x.made_for;
            more = λ z. x.more (omega (arith, z, at, count));
          }))
          (ih m here)
