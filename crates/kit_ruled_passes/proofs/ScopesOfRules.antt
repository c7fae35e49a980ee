-- Where the rules are kept, operands are in scope.
use Rattle.std.proofs.Common.{◌≡◌, ◌⊎◌, inl, inr, ⊎_elim, ℕ, zero, suc, ◌++◌, Bool, true, false, cond, ◌==◌, List, []}
use Rattle.std.proofs.Common.{◌∷◌}
use Rattle.std.proofs.Common.{take, Some, None, slice_get, refl}
use Rattle.ir_program.specs.declared.handles.Value.{Value}
use Rattle.ir_trees.specs.Renames.{names_of}
use Rattle.ir_trees.specs.Trees.{Sort, Operations, Blocks, Regions, end, operation, block, region}
use Rattle.ir_trees.proofs.Members.{at_has, has_at, has_either}
use Rattle.kit.specs.Context.{KitTree}
use Rattle.opt_trees.specs.Occurrences.{Has}
use Rattle.kit.specs.Meaning.{KitOperation, KitBlock}
use Rattle.kit_checks.specs.declared.rule.Rule.TheVariants as rule
use Rattle.kit_checks.specs.Faults.{KeptEverywhere}
use Rattle.kit_checks.specs.Sites.{Site, Around, operation_list, block_list, region_list, site_at}
use Rattle.kit_checks.specs.Words.{results_of, values_before, values_if, first_body, visible}
use Rattle.kit_checks.specs.World.{World}
use Rattle.kit_checks.proofs.Down.{step_to}
use Rattle.kit_ruled_views.proofs.FunctionSites.{KitBody, outer_if, inner_place}
use Rattle.kit_ruled_passes.specs.Scopes.{Part, IsResultHere, IsOfBlock, IsOfEntry, IsNone, Scoped}

-- a result of the operations of a list, as the rules say it
result_listed : (os : Part Operations) (x : Value) → Has x (results_of (operation_list os)) → IsResultHere os x
result_listed end x has = has
result_listed (operation h rs rest) x has = ⊎_elim
    (λ i. inl i)
    (λ i. inr (result_listed rest x i))
    (has_either (names_of h.results) (results_of (operation_list rest)) x has)

result_taken : (k : ℕ) (os : Part Operations) (x : Value) → Has x (results_of (take k (operation_list os)))
    → IsResultHere os x
result_taken zero os x has = absurd has
result_taken (suc k) end x has = absurd has
result_taken (suc k) (operation h rs rest) x has = ⊎_elim
    (λ i. inl i)
    (λ i. inr (result_taken k rest x i))
    (has_either (names_of h.results) (results_of (take k (operation_list rest))) x has)

of_entry : (bs : Part Blocks) (x : Value) → Has x (values_if (first_body bs)) → IsOfEntry bs x
of_entry end x has = has
of_entry (block l os rest) x has = ⊎_elim
    (λ i. inl i)
    (λ i. inr (result_listed os x i))
    (has_either (names_of l.arguments) (results_of (operation_list os)) x has)

pub if_outside : (bs : Part Blocks) (x : Value) (b : Bool) → Has x (cond b [] (values_if (first_body bs)))
    → IsOfEntry bs x
if_outside bs x true has = absurd has
if_outside bs x false has = of_entry bs x has

-- what is visible is in scope
visible_scope : (a : Around KitOperation KitBlock) (x : Value) → Has x (visible a)
    → IsOfBlock a.body.label a.body.operations x ⊎ IsOfEntry a.blocks x
visible_scope a x has = ⊎_elim
    (λ own. inl (⊎_elim
    (λ i. inl i)
    (λ i. inr (result_taken a.index a.body.operations x i))
    (has_either (names_of a.body.label.arguments) (results_of (take a.index (operation_list a.body.operations))) x
    own)))
    (λ other. inr (if_outside a.blocks x (a.number == 0) other))
    (has_either (values_before a.body a.index) (cond (a.number == 0) [] (values_if (first_body a.blocks))) x has)

module _ (w : World KitOperation KitBlock) (t : KitTree) (keeps : KeptEverywhere w t rule.OperandsAreVisible) where
  -- the members of a part are among those of the whole
  abbrev AreRegions : Part Regions → Part Regions → Type 0
  AreRegions rs all = (r : ℕ) (bs : Part Blocks) → slice_get (region_list rs) r ≡ Some bs
      → (k : ℕ) × (slice_get (region_list all) k ≡ Some bs)

  abbrev AreBlocks : Part Blocks → Part Blocks → Type 0
  AreBlocks bs all = (b : ℕ) (body : KitBody) → slice_get (block_list bs) b ≡ Some body
      → (k : ℕ) × (slice_get (block_list all) k ≡ Some body)

  abbrev AreOperations : Part Operations → Part Operations → Type 0
  AreOperations os all = (o : ℕ) (u : KitTree) → slice_get (operation_list os) o ≡ Some u
      → (k : ℕ) × (slice_get (operation_list all) k ≡ Some u)

  -- where a part is: in the operation at a site; in a region of that; in a block of this
  pub record InBlocks (s : Site KitOperation KitBlock) (place : List ℕ) (all : Part Blocks) : Type 0 where
    pub there : site_at t place ≡ Some s
    pub region : ℕ
    pub here : slice_get (region_list s.op.regions) region ≡ Some all

  pub record InBody (s : Site KitOperation KitBlock) (place : List ℕ) (all : Part Blocks) (body : KitBody)
      : Type 0 where
    pub blocks : InBlocks s place all
    pub number : ℕ
    pub here : slice_get (block_list all) number ≡ Some body

  abbrev PartAt : (s : Sort) → Part s → Type 0
  PartAt Operations os = (s : Site KitOperation KitBlock) (place : List ℕ) (all : Part Blocks) (body : KitBody)
      → InBody s place all body → AreOperations os body.operations
      → Scoped os (λ x. IsOfBlock body.label body.operations x ⊎ IsOfEntry all x)
  PartAt Blocks bs = (s : Site KitOperation KitBlock) (place : List ℕ) (all : Part Blocks) → InBlocks s place all
      → AreBlocks bs all → Scoped bs (IsOfEntry all)
  PartAt Regions rs = (s : Site KitOperation KitBlock) (place : List ℕ) → site_at t place ≡ Some s
      → AreRegions rs s.op.regions → Scoped rs IsNone

  scoped_part : {s : Sort} (part : Part s) → PartAt s part
  scoped_part {s = Operations} end = λ s place all body at are. tt
  scoped_part {s = Blocks} end = λ s place all at are. tt
  scoped_part {s = Regions} end = λ s place there are. tt
  scoped_part (operation h rs rest) = λ s place all body at are.
      let u : KitTree = record { head = h; regions = rs } in
      let k = are zero u refl in
      let there = inner_place t s place at.blocks.there at.blocks.region at.number k.0 all body u at.blocks.here at.here
      k.1 in
      let site = step_to s (outer_if s.around) all at.number body k.0 u in
      let next = place ++ at.blocks.region ∷ at.number ∷ k.0 ∷ [] in
      let a : Around KitOperation KitBlock = record {
        owner = s.op;
        outer = outer_if s.around;
        blocks = all;
        number = at.number;
        body = body;
        index = k.0;
      } in (
        λ x i. let l = has_at h.operands x i in
            let sees = (keeps next site there).inside a refl l.0 x l.1 in
            visible_scope a x (at_has (visible a) sees.0 x sees.1),
        scoped_part rs site next there (λ r bs h. (r, h)),
        scoped_part rest s place all body at (λ o v h. are (suc o) v h),
      )
  scoped_part (block l os rest) = λ s place all at are.
      let body : KitBody = record { label = l; operations = os } in
      let k = are zero body refl in (
        scoped_part os s place all body (record { blocks = at; number = k.0; here = k.1 }) (λ o v h. (o, h)),
        scoped_part rest s place all at (λ b x h. are (suc b) x h),
      )
  scoped_part (region bs rest) = λ s place there are.
      let k = are zero bs refl in (
        scoped_part bs s place bs (record { there = there; region = k.0; here = k.1 }) (λ b x h. (b, h)),
        scoped_part rest s place there (λ r x h. are (suc r) x h),
      )

  -- the operands of all operations below the root are in scope
  pub scoped_by_rules : Scoped t.regions IsNone
  scoped_by_rules = scoped_part t.regions (record { op = t; around = None }) [] refl (λ r bs h. (r, h))

  -- the root has none
  pub root_takes_none : t.head.operands ≡ []
  root_takes_none = (keeps [] (record { op = t; around = None }) refl).root refl
