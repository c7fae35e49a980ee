-- Where the operations, blocks and values of a function are whose operations have no regions.
use Rattle.std.proofs.Common.{◌≡◌, ⊎_elim, ℕ, zero, suc, List, [], ◌++◌, Some, slice_get, refl, sym, ap, subst}
use Rattle.ir_program.specs.declared.handles.Value.{Value}
use Rattle.ir_trees.specs.Names.{Names, Contents}
use Rattle.ir_trees.specs.Renames.{names_of}
use Rattle.ir_trees.specs.Stands.{by_handle, in_program, ProgramTree, ProgramHead}
use Rattle.ir_trees.specs.Trees.{Operations, Blocks, Regions, Root, end, operation, block, region}
use Rattle.opt_trees.specs.Occurrences.{Has, Occurrence, BlockOccurrence, OperationSite, Spot, inner, next_block, at_root}
use Rattle.opt_trees.specs.Occurrences.{occurrences_in, occurrences_of, block_occurrences_in, block_occurrences_of}
use Rattle.opt_trees.specs.Occurrences.{defined_in}
use Rattle.opt_trees.proofs.NoneDead.{has-append, has-left, has-right}
use Rattle.kit_checks.specs.Sites.{Listed, Body, operation_list, block_list}
use Rattle.kit_views.proofs.Definers.{makes, definers, all_made, definer_is}
use Rattle.kit_views.proofs.Lists.{from_gathered}

-- a result of an operation of the tree, or an argument of a block
pub data Maker {N : Names} {S : Contents} (t : Root N S) (v : N.value) : Type 0 where
  result : (o : Occurrence N S) → Has o (occurrences_of t) → Has v (names_of o.head.results) → Maker t v
  argument : (x : BlockOccurrence N S) → Has x (block_occurrences_of t) → Has v (names_of x.label.arguments) → Maker t v

pub maker_of : {N : Names} {S : Contents} (t : Root N S) (v : N.value) → Has v (defined_in t.regions) → Maker t v
maker_of t v has =
    let s = from_gathered makes (definers t.regions (at_root t)) v
    (subst (Has v) (sym (all_made t.regions (at_root t))) has) in
    definer_is t.regions (at_root t) s.it (λ e. Has v (makes e) → Maker t v) result argument s.stands s.gives

stripped : {X : Type 0} (x : X) (xs : List X) → Has x (xs ++ []) → Has x xs
stripped x xs has = ⊎_elim (λ here. here) (λ none. absurd none) (has-append x xs [] has)

module _ {O B : Type 0} where
  -- the operation at an index of a block at an index
  pub record OpPlace (bs : Listed O B Blocks) (h : ProgramHead O B) : Type 0 where
    pub number : ℕ
    pub index : ℕ
    pub body : Body O B
    pub op : ProgramTree O B
    pub block_here : slice_get (block_list bs) number ≡ Some body
    pub op_here : slice_get (operation_list body.operations) index ≡ Some op
    pub head : op.head ≡ h

  pub record BlockPlace (bs : Listed O B Blocks) (x : BlockOccurrence by_handle (in_program O B)) : Type 0 where
    pub number : ℕ
    pub body : Body O B
    pub block_here : slice_get (block_list bs) number ≡ Some body
    pub label : body.label ≡ x.label

  -- none of the operations has a region
  abbrev pub NoRegions : Listed O B Operations → Type 0
  NoRegions os = (k : ℕ) (op : ProgramTree O B) → slice_get (operation_list os) k ≡ Some op → op.regions ≡ end

  abbrev pub NoneInBlocks : Listed O B Blocks → Type 0
  NoneInBlocks bs = (j : ℕ) (body : Body O B) → slice_get (block_list bs) j ≡ Some body → NoRegions body.operations

  -- ---- operations

  op_index : (os : Listed O B Operations) (c : OperationSite by_handle (in_program O B)) → NoRegions os
      → (o : Occurrence by_handle (in_program O B)) → Has o (occurrences_in os c)
      → (k : ℕ) × (op : ProgramTree O B) × (slice_get (operation_list os) k ≡ Some op) × (op.head ≡ o.head)
  op_index end c none o has = absurd has
  op_index (operation h rs rest) c none o has =
      let mine : ProgramTree O B = record { head = h; regions = rs } in
      ⊎_elim
      (λ e. (zero, mine, refl, ap (λ (z : Occurrence by_handle (in_program O B)). z.head) (sym e)))
      (λ more. ⊎_elim
      (λ inside. absurd (subst (λ (z : Listed O B Regions). Has o (occurrences_in z (inner h c)))
      (none zero mine refl) inside))
      (λ later. let m = op_index rest c (λ k. none (suc k)) o later in (suc m.0, m.1, m.2, m.3))
      (has-append o (occurrences_in rs (inner h c)) (occurrences_in rest c) more))
      has

  op_place_in : (bs : Listed O B Blocks) (c : Spot by_handle (in_program O B)) → NoneInBlocks bs
      → (o : Occurrence by_handle (in_program O B)) → Has o (occurrences_in bs c) → OpPlace bs o.head
  op_place_in end c none o has = absurd has
  op_place_in (block l os rest) c none o has =
      let mine : Body O B = record { label = l; operations = os } in
      ⊎_elim
      (λ here.
      let m = op_index os (record { spot = c; label = l }) (none zero mine refl) o here in
      record { number = zero; index = m.0; body = mine; op = m.1; block_here = refl; op_here = m.2; head = m.3 })
      (λ later.
      let m = op_place_in rest (next_block c) (λ j. none (suc j)) o later in
      record {
        number = suc m.number;
        index = m.index;
        body = m.body;
        op = m.op;
        block_here = m.block_here;
        op_here =
            m.op_here;
        head = m.head;
      })
      (has-append o (occurrences_in os (record { spot = c; label = l })) (occurrences_in rest (next_block c)) has)

  -- ---- blocks

  no_block : (os : Listed O B Operations) (c : OperationSite by_handle (in_program O B)) → NoRegions os
      → (x : BlockOccurrence by_handle (in_program O B)) → Has x (block_occurrences_in os c) → ⊥
  no_block end c none x has = has
  no_block (operation h rs rest) c none x has = ⊎_elim
      (λ inside. subst (λ (z : Listed O B Regions). Has x (block_occurrences_in z (inner h c)))
      (none zero (record { head = h; regions = rs }) refl) inside)
      (λ later. no_block rest c (λ k. none (suc k)) x later)
      (has-append x (block_occurrences_in rs (inner h c)) (block_occurrences_in rest c) has)

  block_place_in : (bs : Listed O B Blocks) (c : Spot by_handle (in_program O B)) → NoneInBlocks bs
      → (x : BlockOccurrence by_handle (in_program O B)) → Has x (block_occurrences_in bs c) → BlockPlace bs x
  block_place_in end c none x has = absurd has
  block_place_in (block l os rest) c none x has =
      let mine : Body O B = record { label = l; operations = os } in
      ⊎_elim
      (λ e. record {
        number = zero;
        body = mine;
        block_here = refl;
        label = ap (λ (z : BlockOccurrence by_handle (in_program O B)). z.label) (sym e);
      })
      (λ more. ⊎_elim
      (λ inside. absurd (no_block os (record { spot = c; label = l }) (none zero mine refl) x inside))
      (λ later.
      let m = block_place_in rest (next_block c) (λ j. none (suc j)) x later in
      record { number = suc m.number; body = m.body; block_here = m.block_here; label = m.label })
      (has-append x (block_occurrences_in os (record { spot = c; label = l }))
      (block_occurrences_in rest (next_block c)) more))
      has

  -- ---- functions of one region

  module _ (u : ProgramTree O B) (blocks : Listed O B Blocks) (is : u.regions ≡ region blocks end)
      (none : NoneInBlocks blocks) where
    pub op_place : (o : Occurrence by_handle (in_program O B)) → Has o (occurrences_of u) → OpPlace blocks o.head
    op_place o has = op_place_in blocks (at_root u) none o
        (stripped o (occurrences_in blocks (at_root u))
        (subst (λ (rs : Listed O B Regions). Has o (occurrences_in rs (at_root u))) is has))

    pub block_place : (x : BlockOccurrence by_handle (in_program O B)) → Has x (block_occurrences_of u)
        → BlockPlace blocks x
    block_place x has = block_place_in blocks (at_root u) none x
        (stripped x (block_occurrences_in blocks (at_root u))
        (subst (λ (rs : Listed O B Regions). Has x (block_occurrences_in rs (at_root u))) is has))

    pub defined_inside : (v : Value) → Has v (defined_in blocks) → Has v (defined_in u.regions)
    defined_inside v has = subst (λ (rs : Listed O B Regions). Has v (defined_in rs)) (sym is)
        (has-left v (defined_in blocks) [] has)

  -- ---- values

  result_in : (os : Listed O B Operations) (k : ℕ) (op : ProgramTree O B) (v : Value)
      → slice_get (operation_list os) k ≡ Some op → Has v (names_of op.head.results) → Has v (defined_in os)
  result_in end k op v h has = cc
  result_in (operation g rs rest) zero op v h has =
      let mine : ProgramTree O B = record { head = g; regions = rs } in
      let same : op ≡ mine = cc in
      has-left v (names_of g.results) (defined_in rs ++ defined_in rest)
      (subst (λ (z : ProgramTree O B). Has v (names_of z.head.results)) same has)
  result_in (operation g rs rest) (suc k) op v h has =
      has-right v (names_of g.results) (defined_in rs ++ defined_in rest)
      (has-right v (defined_in rs) (defined_in rest) (result_in rest k op v h has))

  pub result_defined : (bs : Listed O B Blocks) (j k : ℕ) (body : Body O B) (op : ProgramTree O B) (v : Value)
      → slice_get (block_list bs) j ≡ Some body → slice_get (operation_list body.operations) k ≡ Some op
      → Has v (names_of op.head.results) → Has v (defined_in bs)
  result_defined end j k body op v hb ho has = cc
  result_defined (block l os rest) zero k body op v hb ho has =
      let mine : Body O B = record { label = l; operations = os } in
      let same : body ≡ mine = cc in
      has-right v (names_of l.arguments) (defined_in os ++ defined_in rest)
      (has-left v (defined_in os) (defined_in rest)
      (result_in os k op v (subst (λ (z : Body O B). slice_get (operation_list z.operations) k ≡ Some op) same ho) has))
  result_defined (block l os rest) (suc j) k body op v hb ho has =
      has-right v (names_of l.arguments) (defined_in os ++ defined_in rest)
      (has-right v (defined_in os) (defined_in rest) (result_defined rest j k body op v hb ho has))

  pub argument_defined : (bs : Listed O B Blocks) (j : ℕ) (body : Body O B) (v : Value)
      → slice_get (block_list bs) j ≡ Some body → Has v (names_of body.label.arguments) → Has v (defined_in bs)
  argument_defined end j body v hb has = cc
  argument_defined (block l os rest) zero body v hb has =
      let mine : Body O B = record { label = l; operations = os } in
      let same : body ≡ mine = cc in
      has-left v (names_of l.arguments) (defined_in os ++ defined_in rest)
      (subst (λ (z : Body O B). Has v (names_of z.label.arguments)) same has)
  argument_defined (block l os rest) (suc j) body v hb has =
      has-right v (names_of l.arguments) (defined_in os ++ defined_in rest)
      (has-right v (defined_in os) (defined_in rest) (argument_defined rest j body v hb has))
