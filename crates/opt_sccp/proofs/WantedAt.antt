-- Blocks in SSA regions, operations that lack an operand, and what defines values that get constants.
use Rattle.std.proofs.Common.{◌≡◌, ◌≢◌, ◌⊎◌, ⊎_elim, ℕ, ◌<◌, ◌+◌, Bool, true, false, List, [], Some, option_map, unwrap_or, slice_get, get_or, sym, ap, ◌∙◌, subst, arith}
use Rattle.std.specs.List.{list_all}
use Rattle.std.specs.Prelude.{IsTrue, ◌↔◌}
use Rattle.std.proofs.lemmas.List.Sums.{AllPass-from_list_all}
use Rattle.std.proofs.lemmas.Option.{slice_get-get_or, slice_get_within}
use Rattle.ir_program.specs.Lent.{payload_at}
use Rattle.ir_program.specs.Lists.{StandsInBlock, StandsInRegion, StandsInOperation, IsUnlinkedBlock, regions_in}
use Rattle.ir_program.specs.Program.{Program, OperationView, operation_at}
use Rattle.ir_program.specs.Rows.{operands_at}
use Rattle.ir_program.specs.declared.handles.Ptr.{Ptr}
use Rattle.ir_program.specs.declared.handles.Operation.{Operation}
use Rattle.ir_program.specs.declared.handles.Region.{Region}
use Rattle.ir_program.specs.declared.handles.BasicBlock.{BasicBlock}
use Rattle.ir_program.specs.declared.handles.Value.{Value}
use Rattle.ir_trees.specs.Searched.{Lists}
use Rattle.ir_trees.specs.Stands.{by_handle, in_program}
use Rattle.opt_inside.specs.facts.ByNumber.{AreFactsBy}
use Rattle.opt_inside.specs.Numbered.{Numbers}
use Rattle.opt_rows.specs.declared.known.Known.{Known}
use Rattle.opt_rows.specs.declared.known.Known.TheVariants.{Any, Undetermined}
use Rattle.opt_trees.specs.Dialect.{Dialect}
use Rattle.opt_trees.specs.Facts.{Facts}
use Rattle.opt_sccp.proofs.Options.{something, is_something, same_some}
use Rattle.opt_sccp.specs.Wanted.{is_determined, IsInSsaRegion, HasUndetermined, LacksAt, FoldsAt}

-- what stands in a list of which all pass a test passes it
passes : {X : Type 0} (p : X → Bool) (xs : List X) (i : ℕ) (x : X) → list_all p xs ≡ true → slice_get xs i ≡ Some x → p x ≡ true
passes p xs i x all at =
    let less = slice_get_within xs i x at in
    subst (λ y. p y ≡ true) (same_some (get_or xs i x) x (sym (slice_get-get_or xs i x less) ∙ at)) (AllPass-from_list_all p xs all i x less)

module _ {O B : Type 0} (c : Program O B) where
  -- the payload of what is there
  pub payload_is : (p : Ptr Operation) (v : OperationView O) (o : O) → operation_at c p ≡ Some v → payload_at c p ≡ Some o → v.payload ≡ o
  payload_is p v o there h = same_some v.payload o (sym (ap (option_map (λ (x : OperationView O). x.payload)) there) ∙ h)

  pub held : (p : Ptr Operation) (v : OperationView O) → operation_at c p ≡ Some v → payload_at c p ≡ Some v.payload
  held p v there = ap (option_map (λ (x : OperationView O). x.payload)) there

  regions_are : (p : Ptr Operation) (v : OperationView O) → operation_at c p ≡ Some v → regions_in c p ≡ v.regions
  regions_are p v there = ap (λ o. unwrap_or (option_map (λ (x : OperationView O). x.regions) o) []) there

  pub operands_are : (p : Ptr Operation) (v : OperationView O) → operation_at c p ≡ Some v → operands_at c p ≡ v.operands
  operands_are p v there = ap (λ o. unwrap_or (option_map (λ (x : OperationView O). x.operands) o) []) there

module _ {O B A : Type 0} (d : Dialect (in_program O B) A) (c : Program O B) where
  pub ssa_is : (b : Ptr BasicBlock) (region : Ptr Region) (owner : Ptr Operation) (payload : O) (index : ℕ) (result : Bool)
      → StandsInRegion c b region → ((r : Ptr Region) → StandsInRegion c b r → Some region ≡ Some r)
      → StandsInOperation c region owner → ((p : Ptr Operation) → StandsInOperation c region p → owner ≡ p)
      → payload_at c owner ≡ Some payload → ((p : Ptr Operation) (k : ℕ) → slice_get (regions_in c p) k ≡ Some region → index ≡ k)
      → result ≡ d.is_ssa payload index → IsTrue result ↔ IsInSsaRegion d c b
  ssa_is b region owner payload index result in_region only stands owner_only held index_is is = (
    λ yes.
        let v = something (operation_at c owner) stands.operation in
        let same = index_is owner stands.index stands.here in
        record {
          region = region;
          in_region = in_region;
          owner = owner;
          view = v.0;
          there = v.1;
          index = stands.index;
          here = ap (λ rs. slice_get rs stands.index) (sym (regions_are c owner v.0 v.1)) ∙ stands.here;
          ssa = (λ i. d.is_ssa (payload_is c owner v.0 payload v.1 held i) (sym same i)) ∙ sym is ∙ yes;
        },
    λ s.
        let r : region ≡ s.region = same_some region s.region (only s.region s.in_region) in
        let here : slice_get (regions_in c s.owner) s.index ≡ Some region = ap (λ rs. slice_get rs s.index) (regions_are c s.owner s.view s.there) ∙ s.here ∙ ap Some (sym r) in
        let o : owner ≡ s.owner = owner_only s.owner (record { region = in_region.region; operation = is_something (operation_at c s.owner) s.view s.there; index = s.index; here = here }) in
        let p = payload_is c s.owner s.view payload s.there (ap (payload_at c) (sym o) ∙ held) in
        is ∙ (λ i. d.is_ssa (sym p i) (index_is s.owner s.index here i)) ∙ s.ssa,
  )

  pub not_in_ssa : (b : Ptr BasicBlock) → IsUnlinkedBlock c b → IsTrue false ↔ IsInSsaRegion d c b
  not_in_ssa b unlinked = (λ no. let e : false ≡ true = no in cc, λ s. absurd (unlinked s.region s.in_region))

  module _ (k : Facts by_handle A) (p : Ptr Operation) (b : Ptr BasicBlock) (payload : O) (stands : StandsInBlock c p b) (only : (q : Ptr BasicBlock) → StandsInBlock c p q → Some b ≡ Some q) (held : payload_at c p ≡ Some payload) where
    block_is : (q : Ptr BasicBlock) → StandsInBlock c p q → b ≡ q
    block_is q s = same_some b q (only q s)

    -- what it takes to lack an operand
    pub lacks : k.runs b ≡ true → IsInSsaRegion d c b → ((d.is_foldable payload ≡ true) ⊎ (d.is_branch payload ≡ true)) → HasUndetermined k (operands_at c p) → LacksAt d c k p
    lacks runs ssa asks und =
        let v = something (operation_at c p) stands.operation in
        let e = payload_is c p v.0 payload v.1 held in
        record {
          view = v.0;
          there = v.1;
          block = b;
          in_block = stands;
          runs = runs;
          ssa = ssa;
          asks = subst (λ o. (d.is_foldable o ≡ true) ⊎ (d.is_branch o ≡ true)) (sym e) asks;
          lacks = subst (λ vs. HasUndetermined k vs) (operands_are c p v.0 v.1) und;
        }

    pub lacks_runs : LacksAt d c k p → k.runs b ≡ true
    lacks_runs l = ap k.runs (block_is l.block l.in_block) ∙ l.runs

    pub lacks_ssa : LacksAt d c k p → IsInSsaRegion d c b
    lacks_ssa l = subst (λ q. IsInSsaRegion d c q) (sym (block_is l.block l.in_block)) l.ssa

    pub lacks_asks : LacksAt d c k p → (d.is_foldable payload ≡ true) ⊎ (d.is_branch payload ≡ true)
    lacks_asks l = subst (λ o. (d.is_foldable o ≡ true) ⊎ (d.is_branch o ≡ true)) (payload_is c p l.view payload l.there held) l.asks

    pub lacks_undetermined : LacksAt d c k p → HasUndetermined k (operands_at c p)
    lacks_undetermined l = subst (λ vs. HasUndetermined k vs) (sym (operands_are c p l.view l.there)) l.lacks

    -- what it takes to be folded
    pub folds : d.is_foldable payload ≡ true → d.is_constant payload ≡ false → k.runs b ≡ true → FoldsAt d c k p
    folds f n runs =
        let v = something (operation_at c p) stands.operation in
        let e = payload_is c p v.0 payload v.1 held in
        record { view = v.0; there = v.1; folds = ap d.is_foldable e ∙ f; no_constant = ap d.is_constant e ∙ n; block = b; in_block = stands; runs = runs }

    pub folds_foldable : FoldsAt d c k p → d.is_foldable payload ≡ true
    folds_foldable l = ap d.is_foldable (sym (payload_is c p l.view payload l.there held)) ∙ l.folds

    pub folds_no_constant : FoldsAt d c k p → d.is_constant payload ≡ false
    folds_no_constant l = ap d.is_constant (sym (payload_is c p l.view payload l.there held)) ∙ l.no_constant

    pub folds_runs : FoldsAt d c k p → k.runs b ≡ true
    folds_runs l = ap k.runs (block_is l.block l.in_block) ∙ l.runs

-- no operand before an index is undetermined
abbrev pub NoneBefore : {A : Type 0} → Facts by_handle A → List Value → ℕ → Type 0
NoneBefore k operands n = (j : ℕ) (v : Value) → j < n → slice_get operands j ≡ Some v → k.of v ≢ Undetermined

pub none_further : {A : Type 0} (k : Facts by_handle A) (operands : List Value) (n : ℕ) (v : Value) → NoneBefore k operands n → slice_get operands n ≡ Some v → k.of v ≢ Undetermined → NoneBefore k operands (n + 1)
none_further k operands n v none at ne j w less h = ⊎_elim
    (λ (e : j ≡ n). let same : v ≡ w = same_some v w (sym at ∙ ap (slice_get operands) (sym e) ∙ h) in subst (λ x. k.of x ≢ Undetermined) same ne)
    (λ (l : j < n). none j w l h)
    (at_or_before j n less)
  where
    at_or_before : (j n : ℕ) → j < n + 1 → (j ≡ n) ⊎ (j < n)
    at_or_before j n less = grind arith

-- no operation before an index of the list lacks an operand
abbrev pub NoneLacks : {O B A : Type 0} → Dialect (in_program O B) A → Program O B → Facts by_handle A → List (Ptr Operation) → ℕ → Type 0
NoneLacks d c k ps n = (j : ℕ) (p : Ptr Operation) → j < n → slice_get ps j ≡ Some p → LacksAt d c k p → ⊥

pub not_at : {P : Type 0} → (P → ⊥) → IsTrue false ↔ P
not_at h = (λ no. let e : false ≡ true = no in cc, λ p. absurd (h p))

at_or_before : (j n : ℕ) → j < n + 1 → (j ≡ n) ⊎ (j < n)
at_or_before j n less = grind arith

pub none_lacks_further : {O B A : Type 0} (d : Dialect (in_program O B) A) (c : Program O B) (k : Facts by_handle A) (ps : List (Ptr Operation)) (n : ℕ) (p : Ptr Operation) → NoneLacks d c k ps n → slice_get ps n ≡ Some p → (LacksAt d c k p → ⊥) → NoneLacks d c k ps (n + 1)
none_lacks_further d c k ps n p none at lacks j q less h = ⊎_elim
    (λ (e : j ≡ n). let same : p ≡ q = same_some p q (sym at ∙ ap (slice_get ps) (sym e) ∙ h) in subst (λ x. LacksAt d c k x → ⊥) same lacks)
    (λ (l : j < n). none j q l h)
    (at_or_before j n less)

-- where something is found out of each value that has a number, no operand is undetermined
pub none_undetermined : {A : Type 0} (n : Numbers) (runs : List Bool) (known : List (Known A)) (k : Facts by_handle A) → AreFactsBy n runs known k
    → list_all is_determined known ≡ true → (vs : List Value) → HasUndetermined k vs → ⊥
none_undetermined n runs known k by all vs u =
    let unnumbered : Lists n.values u.value → ⊥ = λ at.
    let e : true ≡ false = sym (passes is_determined known at.0 (k.of u.value) all (by.value at.0 u.value at.1)) ∙ ap is_determined u.lacks in cc in
    let e : Any ≡ Undetermined = sym (by.no_value u.value unnumbered) ∙ u.lacks in cc
