-- The edges of branches under a place fit exactly where they do at each entity there.
use Rattle.std.proofs.Common.{◌≡◌, ◌<◌, ◌↔◌, ◌⊎◌, inr, ⊎_elim, Result, Ok, Err, IfOk, IsTrue, Bool, true, false, ℕ, length, Option, Some, None, option_map, unwrap_or, [], slice_get, true≢false, refl, sym, ap, ◌∙◌, subst}
use Rattle.std.proofs.lemmas.Option.{same_Some, slice_get_within}
use Rattle.ir_program.specs.Program.{Program, OperationView, operation_at, arguments_at}
use Rattle.ir_program.specs.Rows.{operands_at, successors_at}
use Rattle.ir_program.specs.declared.handles.IRNode.{IRNode}
use Rattle.ir_program.specs.declared.handles.IRNode.TheVariants.{Operation as OperationNode, Region as RegionNode, BasicBlock as BlockNode}
use Rattle.ir_program.specs.declared.handles.Ptr.{Ptr}
use Rattle.ir_program.specs.declared.handles.Operation.{Operation}
use Rattle.ir_program.specs.declared.handles.BasicBlock.{BasicBlock}
use Rattle.ir_trees.specs.Stands.{in_program}
use Rattle.opt_trees.specs.Dialect.{Dialect}
use Rattle.opt_inside.specs.reach.Edges.{FitsEdgesFrom, IsNodeUnder}
use Rattle.opt_inside.specs.declared.reach.starts.Start.{Start}
use Rattle.opt_inside.specs.forwarding.Fits.{FitsEdge, FitsEdges, FitsEdgesAt}

-- an answer about one of two things is one about either, where the other isn't so
pub about_either : {E : Type 0} (P Q : Type 0) (r : Result Bool E) → (P → ⊥) → IfOk r (λ b. IsTrue b ↔ Q) → IfOk r (λ b. IsTrue b ↔ (P ⊎ Q))
about_either P Q (Ok b) not h = (λ e. inr (h.0 e), λ either. h.1 (⊎_elim (λ p. absurd (not p)) (λ q. q) either))
about_either P Q (Err e) not h = tt

module _ {O B A : Type 0} (d : Dialect (in_program O B) A) (c : Program O B) where
  module _ (start : Start) where
    -- from all together to each
    pub fits_at_each : FitsEdgesFrom d c start → (e : IRNode) → IsNodeUnder c start e → FitsEdgesAt d c e
    fits_at_each h (OperationNode p) u = λ v there branch k w b here at.
        let same : v ≡ w = same_Some v w (sym there ∙ here) in
        h p w k b u here (subst (λ (x : OperationView O). d.is_branch x.payload ≡ true) same branch) at
    fits_at_each h (BlockNode b) u = tt
    fits_at_each h (RegionNode r) u = tt

    -- from each to all together
    pub fits_under : ((e : IRNode) → IsNodeUnder c start e → FitsEdgesAt d c e) → FitsEdgesFrom d c start
    fits_under each p v k b u there branch at = each (OperationNode p) u v there branch k v b there at

    -- where nothing is under the place
    pub fits_of_none : ((e : IRNode) → IsNodeUnder c start e → ⊥) → FitsEdgesFrom d c start
    fits_of_none none p v k b u = absurd (none (OperationNode p) u)

  -- the test of one edge says whether it fits
  pub edge_fits : (p : Ptr Operation) (k : ℕ) (b : Ptr BasicBlock) (payload : O) (count : ℕ) →
      option_map (λ (v : OperationView O). v.payload) (operation_at c p) ≡ Some payload → count ≡ length (operands_at c p) → slice_get (successors_at c p) k ≡ Some b →
      (length (d.forwards payload count k) ≡ length (arguments_at c b)) ↔ FitsEdge d c p k
  edge_fits p k b payload count = by (operation_at c p) refl
    where
      by : (o : Option (OperationView O)) → operation_at c p ≡ o → option_map (λ (v : OperationView O). v.payload) (operation_at c p) ≡ Some payload → count ≡ length (operands_at c p) → slice_get (successors_at c p) k ≡ Some b →
          (length (d.forwards payload count k) ≡ length (arguments_at c b)) ↔ FitsEdge d c p k
      by None is carries counted at = let wrong : None ≡ Some payload = ap (option_map (λ (v : OperationView O). v.payload)) (sym is) ∙ carries in absurd (cc)
      by (Some v) is carries counted at =
          let kind : v.payload ≡ payload = same_Some v.payload payload (ap (option_map (λ (w : OperationView O). w.payload)) (sym is) ∙ carries) in
          let many : length v.operands ≡ count = ap (λ (o : Option (OperationView O)). length (unwrap_or (option_map (λ (w : OperationView O). w.operands) o) [])) (sym is) ∙ sym counted in
          let next : slice_get v.successors k ≡ Some b = ap (λ (o : Option (OperationView O)). slice_get (unwrap_or (option_map (λ (w : OperationView O). w.successors) o) []) k) (sym is) ∙ at in
          let same : length (d.forwards v.payload (length v.operands) k) ≡ length (d.forwards payload count k) = ap (λ n. length (d.forwards v.payload n k)) many ∙ ap (λ x. length (d.forwards x count k)) kind in (
            λ fits w to there edge.
                let one : v ≡ w = same_Some v w (sym is ∙ there) in
                let target : to ≡ b = same_Some to b (sym edge ∙ subst (λ (x : OperationView O). slice_get x.successors k ≡ Some b) one next) in
                subst (λ (x : OperationView O). length (d.forwards x.payload (length x.operands) k) ≡ length (arguments_at c to)) one (same ∙ fits ∙ ap (λ t. length (arguments_at c t)) (sym target)),
            λ h. sym same ∙ h v b is next,
          )

  -- what isn't there, or is no branch, fits
  pub fits_no_branch : (p : Ptr Operation) (payload : O) (branch : Bool) →
      option_map (λ (v : OperationView O). v.payload) (operation_at c p) ≡ Some payload → branch ≡ d.is_branch payload → branch ≡ false → FitsEdgesAt d c (OperationNode p)
  fits_no_branch p payload branch carries is isnt v there branches =
      let kind : v.payload ≡ payload = same_Some v.payload payload (ap (option_map (λ (w : OperationView O). w.payload)) (sym there) ∙ carries) in
      let wrong : true ≡ false = sym branches ∙ ap d.is_branch kind ∙ sym is ∙ isnt in absurd (true≢false wrong)

  -- a branch fits where each of its edges does
  pub fits_branch : (p : Ptr Operation) (payload : O) (branch : Bool) →
      option_map (λ (v : OperationView O). v.payload) (operation_at c p) ≡ Some payload → branch ≡ d.is_branch payload → branch ≡ true → FitsEdges d c p ↔ FitsEdgesAt d c (OperationNode p)
  fits_branch p payload branch carries is branches = (
    λ h v there _. h,
    λ h k v b there at.
        let kind : v.payload ≡ payload = same_Some v.payload payload (ap (option_map (λ (w : OperationView O). w.payload)) (sym there) ∙ carries) in
        h v there (ap d.is_branch kind ∙ sym is ∙ branches) k v b there at,
  )

  -- an operation of which each edge, one by one, fits
  pub fits_all : (p : Ptr Operation) (count : ℕ) → count ≡ length (successors_at c p) → ((k : ℕ) → k < count → FitsEdge d c p k) → FitsEdges d c p
  fits_all p count counted each k v b there at =
      let row : v.successors ≡ successors_at c p = sym (ap (λ (o : Option (OperationView O)). unwrap_or (option_map (λ (w : OperationView O). w.successors) o) []) there) in
      let within : k < length v.successors = slice_get_within v.successors k b at in
      let less : k < count = subst (λ n. k < n) (ap length row ∙ sym counted) within in
      each k less v b there at
