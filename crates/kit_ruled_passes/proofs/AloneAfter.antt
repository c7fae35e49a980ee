-- What values are known to be by their definers alone, in a tree, while branches are decided.
use Rattle.std.proofs.Common.{◌≡◌, ⊎_elim, ℕ, Bool, true, false, List, [], ◌∷◌, map, Option, Some, None, slice_get, refl}
use Rattle.std.proofs.Common.{sym, ap, ◌∙◌, subst}
use Rattle.std.specs.Prelude.{not, ◌&&◌, if◌then◌else◌}
use Rattle.ir_base.specs.declared.types.TypeHandle.{TypeHandle}
use Rattle.ir_program.specs.Program.{TypedValue, OperationView, operation_at}
use Rattle.ir_program.specs.declared.handles.Operation.{Operation}
use Rattle.ir_program.specs.declared.handles.Ptr.{Ptr}
use Rattle.ir_program.specs.declared.handles.Value.{Value}
use Rattle.ir_trees.specs.Renames.{Maps, names_of, rename, rename_defined}
use Rattle.ir_trees.specs.Stands.{by_handle, Handles, AreTree, ProgramHead, defined_by}
use Rattle.ir_trees.specs.Stands.{no_operations, no_blocks, no_regions, first_operation, first_block, first_region}
use Rattle.ir_trees.specs.Trees.{Sort, Operations, Blocks, Regions, Defined, end, operation, block, region}
use Rattle.kit.specs.Context.{KitProgram}
use Rattle.opt_inside.specs.Around.{or_none, folded_alone}
use Rattle.opt_inside.specs.Numbered.{values_in}
use Rattle.opt_trees.specs.Occurrences.{types_of}
use Rattle.opt_trees.specs.Simplify.{is_empty, is_end, is_bare, along_edge, decide_head, decide}
use Rattle.kit.specs.Meaning.{KitOperation, KitBlock, kit}
use Rattle.kit_ops.specs.declared.attributes.IntegerAttr.{IntegerAttr}
use Rattle.kit_ruled_passes.specs.Scopes.{Part}
use Rattle.kit_ruled_passes.proofs.ScopesAfter.{map_same}
use Rattle.pass_outside.proofs.InTrees.{HasOperation, same_some}

-- the definitions of a tree
abbrev pub Definitions : Type 0
Definitions = List (Defined Value TypeHandle)

-- what a result of an operation folds to, with no operand known
abbrev pub alone_by : KitOperation → Definitions → List Value → ℕ → Option IntegerAttr
alone_by c ds os i =
    if kit.is_foldable c then or_none (slice_get (kit.fold c (types_of ds) (map (λ (v : Value). None) os)) i) else None

types_are : (ts : List TypedValue) → types_of (map defined_by ts) ≡ map (λ (x : TypedValue). x.ty) ts
types_are [] = refl
types_are (x ∷ xs) = ap (λ l. x.ty ∷ l) (types_are xs)

values_are : (ts : List TypedValue) → names_of (map defined_by ts) ≡ values_in ts
values_are [] = refl
values_are (x ∷ xs) = ap (λ l. x.value ∷ l) (values_are xs)

pub definitions_same : (f : Value → Value) → ((v : Value) → f v ≡ v) → (ds : Definitions)
    → map (rename_defined f) ds ≡ ds
definitions_same f same [] = refl
definitions_same f same (d ∷ ds) = λ i. record { name = same d.name i; holds = d.holds } ∷ definitions_same f same ds i

module _ (alone : Value → Option IntegerAttr) where
  -- it is said of each result of an operation
  abbrev pub SaysBy : KitOperation → Definitions → List Value → Type 0
  SaysBy c ds os = (i : ℕ) (v : Value) → slice_get (names_of ds) i ≡ Some v → alone v ≡ alone_by c ds os i

  abbrev pub SaysHead : ProgramHead KitOperation KitBlock → Type 0
  SaysHead h = SaysBy h.content h.results h.operands

  -- it is said of each result in the part of a tree
  abbrev pub SaysIn : {s : Sort} → Part s → Type 0
  SaysIn end = Unit {0}
  SaysIn (operation h rs rest) = SaysBy h.content h.results h.operands × SaysIn rs × SaysIn rest
  SaysIn (block l os rest) = SaysIn os × SaysIn rest
  SaysIn (region bs rest) = SaysIn bs × SaysIn rest

  -- it is said of each result in the program
  abbrev pub SaysResults : KitProgram → Type 0
  SaysResults c = (p : Ptr Operation) (o : OperationView KitOperation) (i : ℕ) (v : Value) → operation_at c p ≡ Some o
      → slice_get (values_in o.results) i ≡ Some v → alone v ≡ folded_alone kit o i

  pub of_view : (o : OperationView KitOperation) → ((i : ℕ) (v : Value) → slice_get (values_in o.results) i ≡ Some v
      → alone v ≡ folded_alone kit o i) → SaysBy o.payload (map defined_by o.results) o.operands
  of_view o says i v at =
      says i v (ap (λ l. slice_get l i) (sym (values_are o.results)) ∙ at)
      ∙ ap (λ ts. if kit.is_foldable o.payload
      then or_none (slice_get (kit.fold o.payload ts (map (λ (x : Value). None) o.operands)) i) else None)
      (sym (types_are o.results))

  pub to_view : (o : OperationView KitOperation) → SaysBy o.payload (map defined_by o.results) o.operands → (i : ℕ)
      (v : Value) → slice_get (values_in o.results) i ≡ Some v → alone v ≡ folded_alone kit o i
  to_view o says i v at =
      says i v (ap (λ l. slice_get l i) (values_are o.results) ∙ at)
      ∙ ap (λ ts. if kit.is_foldable o.payload
      then or_none (slice_get (kit.fold o.payload ts (map (λ (x : Value). None) o.operands)) i) else None)
      (types_are o.results)

  -- of a tree of the program
  pub says_tree : (c : KitProgram) → SaysResults c → (s : Sort) (hs : Handles s) (t : Part s) → AreTree c s hs t
      → SaysIn t
  says_tree c says _ _ _ no_operations = tt
  says_tree c says _ _ _ no_blocks = tt
  says_tree c says _ _ _ no_regions = tt
  says_tree c says _ _ _ (first_operation p ps v rs rest there below behind) = (
    of_view v (λ i x at. says p v i x there at),
    says_tree c says Regions v.regions rs below,
    says_tree c says Operations ps rest behind,
  )
  says_tree c says _ _ _ (first_block b bs v os rest there below behind) =
      (says_tree c says Operations v.operations os below, says_tree c says Blocks bs rest behind)
  says_tree c says _ _ _ (first_region r rs v bs rest there below behind) =
      (says_tree c says Blocks v.blocks bs below, says_tree c says Regions rs rest behind)

  -- of a program from its tree
  pub tree_says : (c : KitProgram) (s : Sort) (hs : Handles s) (t : Part s) → AreTree c s hs t → SaysIn t
      → (p : Ptr Operation) → HasOperation t p → (o : OperationView KitOperation) → operation_at c p ≡ Some o
      → SaysBy o.payload (map defined_by o.results) o.operands
  tree_says c _ _ _ no_operations says p has o there = absurd has
  tree_says c _ _ _ no_blocks says p has o there = absurd has
  tree_says c _ _ _ no_regions says p has o there = absurd has
  tree_says c _ _ _ (first_operation q ps v rs rest at below behind) says p has o there = ⊎_elim
      (λ e.
      let same : v ≡ o = same_some (operation_at c q) v o at (ap (operation_at c) (sym e) ∙ there) in
      subst (λ (x : OperationView KitOperation). SaysBy x.payload (map defined_by x.results) x.operands) same says.0)
      (λ more. ⊎_elim
      (λ i. tree_says c Regions v.regions rs below says.1 p i o there)
      (λ i. tree_says c Operations ps rest behind says.2 p i o there)
      more)
      has
  tree_says c _ _ _ (first_block b bs v os rest at below behind) says p has o there = ⊎_elim
      (λ i. tree_says c Operations v.operations os below says.0 p i o there)
      (λ i. tree_says c Blocks bs rest behind says.1 p i o there)
      has
  tree_says c _ _ _ (first_region r rs v bs rest at below behind) says p has o there = ⊎_elim
      (λ i. tree_says c Blocks v.blocks bs below says.0 p i o there)
      (λ i. tree_says c Regions rs rest behind says.1 p i o there)
      has

  -- ---- decided branches

  -- a branch that is decided has no results
  decided_results : (h : ProgramHead KitOperation KitBlock) (o : Option ℕ) (q : Option KitOperation)
      → (along_edge kit h o q).results ≡ h.results
  decided_results h None q = refl
  decided_results h (Some i) None = refl
  decided_results h (Some i) (Some c) = refl

  none_of_empty : (ds : Definitions) → is_empty ds ≡ true → (i : ℕ) (v : Value) → slice_get (names_of ds) i ≡ Some v → ⊥
  none_of_empty [] e i v at = cc
  none_of_empty (d ∷ ds) e i v at = cc

  both_true : (a b : Bool) → (a && b) ≡ true → (a ≡ true) × (b ≡ true)
  both_true true true e = (refl, refl)
  both_true true false e = cc
  both_true false b e = cc

  says_decided_head : (h : ProgramHead KitOperation KitBlock) (rs : Part Regions) → SaysHead h
      → SaysHead (decide_head kit alone h rs)
  says_decided_head h rs says = go (is_bare kit h rs && not (kit.is_plain h.content)) refl
    where
      go : (b : Bool) → (is_bare kit h rs && not (kit.is_plain h.content)) ≡ b
          → SaysHead (if b then along_edge kit h (kit.edge h.content (map alone h.operands)) kit.plain else h)
      go false e = says
      go true e =
          let bare = both_true (is_bare kit h rs) (not (kit.is_plain h.content)) e in
          let rest = both_true (kit.is_branch h.content) (is_empty h.results && is_end rs) bare.0 in
          let none = both_true (is_empty h.results) (is_end rs) rest.1 in
          λ i v at. absurd (none_of_empty h.results none.0 i v
          (ap (λ ds. slice_get (names_of ds) i)
          (sym (decided_results h (kit.edge h.content (map alone h.operands)) kit.plain)) ∙ at))

  pub says_decided : {s : Sort} (t : Part s) → SaysIn t → SaysIn (decide kit alone t)
  says_decided end q = tt
  says_decided (operation h rs rest) q = (says_decided_head h rs q.0, says_decided rs q.1, says_decided rest q.2)
  says_decided (block l os rest) q = (says_decided os q.0, says_decided rest q.1)
  says_decided (region bs rest) q = (says_decided bs q.0, says_decided rest q.1)

  -- ---- other names of operations

  module _ (m : Maps by_handle by_handle) (values : (v : Value) → m.value v ≡ v) where
    pub says_renamed_head : (c : KitOperation) (ds : Definitions) (os : List Value) → SaysBy c ds os
        → SaysBy c (map (rename_defined m.value) ds) (map m.value os)
    says_renamed_head c ds os says =
        subst (λ (x : Definitions). SaysBy c x (map m.value os)) (sym (definitions_same m.value values ds))
        (subst (λ x. SaysBy c ds x) (sym (map_same m.value values os)) says)

    pub says_renamed : {s : Sort} (t : Part s) → SaysIn t → SaysIn (rename m t)
    says_renamed end q = tt
    says_renamed (operation h rs rest) q =
        (says_renamed_head h.content h.results h.operands q.0, says_renamed rs q.1, says_renamed rest q.2)
    says_renamed (block l os rest) q = (says_renamed os q.0, says_renamed rest q.1)
    says_renamed (region bs rest) q = (says_renamed bs q.0, says_renamed rest q.1)
