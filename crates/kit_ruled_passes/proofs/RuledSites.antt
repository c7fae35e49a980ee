-- An operation of a module that keeps the rules is at a place of its tree, and keeps the rules there.
use Rattle.std.proofs.Common.{◌≡◌, ◌⊎◌, inl, inr, ⊎_elim, ℕ, ◌<◌, true, length, Some, slice_get, refl}
use Rattle.std.proofs.Common.{sym, ap, ◌∙◌, subst, arith}
use Rattle.std.proofs.lemmas.Bool.{false≢true}
use Rattle.std.proofs.lemmas.Option.{slice_get_within}
use Rattle.ir_names.specs.declared.interfaces.OpInterface.TheVariants as op
use Rattle.ir_program.specs.Lists.{StandsInside, regions_in}
use Rattle.ir_program.specs.Rows.{successors_at}
use Rattle.ir_program.specs.declared.handles.BasicBlock.{BasicBlock}
use Rattle.ir_program.specs.declared.handles.IRNode.TheVariants.{Operation as OperationNode}
use Rattle.ir_program.specs.declared.handles.Operation.{Operation}
use Rattle.ir_program.specs.declared.handles.Ptr.{Ptr}
use Rattle.ir_trees.specs.Searched.{Lists}
use Rattle.ir_trees.specs.Stands.{StandsFor}
use Rattle.ir_trees.proofs.OneTree.{one_tree}
use Rattle.kit.specs.Context.{KitContext, KitTree}
use Rattle.opt_inside.proofs.Around.{HasLists, around_operation, around_block, around_region}
use Rattle.kit.specs.Meaning.{KitOperation, KitBlock}
use Rattle.kit_ops.specs.declared.kinds.KitOp.{KitOp}
use Rattle.kit_ops.specs.declared.kinds.KitOp.TheVariants as ops
use Rattle.kit_ops.specs.Table.{has_interface}
use Rattle.kit_checks.specs.declared.rule.Rule.{Rule}
use Rattle.kit_checks.specs.declared.rule.Rule.TheVariants as rule
use Rattle.kit_checks.specs.Faults.{Keeps}
use Rattle.kit_checks.specs.Located.{IsAround, IsAroundIf, IsSiteOf}
use Rattle.kit_checks.specs.Rules.{FitsKind, EdgeLeadsTo}
use Rattle.kit_checks.specs.Sites.{Around, Site, region_list}
use Rattle.kit_checks.specs.Words as words
use Rattle.kit_checks.specs.World.{world_of}
use Rattle.kit_checks.proofs.Down.{located}
use Rattle.kit_checks.proofs.Trees.{region_count, successors_are}
use Rattle.kit_checks.proofs.Upward.{is_place}
use Rattle.kit_ruled_views.specs.Functions.{KeepsRules}
use Rattle.kit_ruled_views.proofs.InsidePlaces.{path_down}

-- what is at the place of an operation
pub record RuledSite (s : KitContext) (root p : Ptr Operation) : Type 0 where
  pub site : Site KitOperation KitBlock
  pub at : IsSiteOf s.program root p site
  pub keeps : (r : Rule) → Keeps (world_of s) r site

-- an edge, and what is around the operation that it leaves
pub record RuledEdge (s : KitContext) (root p : Ptr Operation) (x : RuledSite s root p) (b : Ptr BasicBlock) (edge : ℕ)
    : Type 0 where
  pub around : Around KitOperation KitBlock
  pub is : x.site.around ≡ Some around
  pub located : IsAround s.program root p around
  pub there : slice_get x.site.op.head.successors edge ≡ Some b
  pub leads : EdgeLeadsTo (world_of s) x.site.op around edge b

module _ (s : KitContext) (u : KitTree) where
  -- only modules and functions have regions
  pub has_regions : (k : KitOp) → FitsKind (world_of s) u k → 0 < length (region_list u.regions)
      → (k ≡ ops.Module) ⊎ (k ≡ ops.Func)
  has_regions ops.Module fits some = inl refl
  has_regions ops.Func fits some = inr refl
  has_regions ops.Constant fits some = absurd (omega (arith, some, fits.0.regions))
  has_regions ops.ForwardRef fits some = absurd (omega (arith, some, fits.0.regions))
  has_regions (ops.Arithmetic a) fits some = absurd (omega (arith, some, fits.0.regions))
  has_regions (ops.Comparison a) fits some = absurd (omega (arith, some, fits.0.regions))
  has_regions ops.Br fits some = absurd (omega (arith, some, fits.regions))
  has_regions ops.CondBr fits some = absurd (omega (arith, some, fits.0.regions))
  has_regions ops.Call fits some = absurd (omega (arith, some, fits.numbers.0.regions))
  has_regions ops.Emit fits some = absurd (omega (arith, some, fits.0.regions))
  has_regions ops.Return fits some = absurd (omega (arith, some, fits.regions))

  -- what has successors ends a block
  pub ends : (k : KitOp) → FitsKind (world_of s) u k → 0 < length u.head.successors
      → (words.is_terminator k ≡ true) × (words.is_symbol k ≡ true → ⊥) × (has_interface k op.IsTerminator ≡ true)
  ends ops.Br fits some = (refl, (λ h. false≢true h), refl)
  ends ops.CondBr fits some = (refl, (λ h. false≢true h), refl)
  ends ops.Module fits some = absurd (omega (arith, some, fits.0.successors))
  ends ops.Func fits some = absurd (omega (arith, some, fits.0.successors))
  ends ops.Constant fits some = absurd (omega (arith, some, fits.0.successors))
  ends ops.ForwardRef fits some = absurd (omega (arith, some, fits.0.successors))
  ends (ops.Arithmetic a) fits some = absurd (omega (arith, some, fits.0.successors))
  ends (ops.Comparison a) fits some = absurd (omega (arith, some, fits.0.successors))
  ends ops.Call fits some = absurd (omega (arith, some, fits.numbers.0.successors))
  ends ops.Emit fits some = absurd (omega (arith, some, fits.0.successors))
  ends ops.Return fits some = absurd (omega (arith, some, fits.successors))

module _ (s : KitContext) (root : Ptr Operation) (lists : HasLists s.program) (t : KitTree)
    (stands : StandsFor s.program root t) (rules : KeepsRules s root) where
  pub ruled_site : (p : Ptr Operation) → StandsInside s.program (OperationNode root) (OperationNode p)
      → RuledSite s root p
  ruled_site p inside =
      let down = path_down s.program (OperationNode root) (OperationNode p) inside in
      let x = is_place s.program root p down.0 down.1 t stands in
      let at = located s.program lists root t stands down.0 x.0 x.1 in
      record {
        site = x.0;
        at = subst (λ (n : Ptr Operation). IsSiteOf s.program root n x.0) x.2 at;
        keeps = λ r. rules t stands r down.0 x.0 x.1;
      }

  pub ruled_edge : (p : Ptr Operation) (x : RuledSite s root p) (b : Ptr BasicBlock)
      → (e : Lists (successors_at s.program p) b) → RuledEdge s root p x b e.0
  ruled_edge p x b e =
      let there : slice_get x.site.op.head.successors e.0 ≡ Some b =
      ap (λ l. slice_get l e.0) (successors_are s.program p x.site.op x.at.tree) ∙ e.1 in
      let fit = x.keeps rule.EdgesFit e.0 b there in
      record {
        around = fit.0;
        is = fit.1;
        located = subst (IsAroundIf s.program root p) fit.1 x.at.around;
        there = there;
        leads = fit.2;
      }

  -- the operation around another one is inside the root too
  pub owner_inside : (p : Ptr Operation) (a : Around KitOperation KitBlock) → (l : IsAround s.program root p a)
      → StandsInside s.program (OperationNode root) (OperationNode p)
      → StandsInside s.program (OperationNode root) (OperationNode l.owner)
  owner_inside p a l inside = ⊎_elim
      (λ same. absurd (l.other (operation_same (sym same))))
      (λ block. ⊎_elim
      (λ same. absurd (cc))
      (λ region. ⊎_elim
      (λ same. absurd (cc))
      (λ owner. owner)
      (around_region s.program lists (OperationNode root) l.region l.owner l.in_owner region))
      (around_block s.program lists (OperationNode root) l.block l.region l.in_region block))
      (around_operation s.program lists (OperationNode root) p l.block l.in_block inside)
    where
      operation_same : {q r : Ptr Operation} → OperationNode q ≡ OperationNode r → q ≡ r
      operation_same e = cc

  -- it is a module or a function
  pub owner_kind : (p : Ptr Operation) (a : Around KitOperation KitBlock) → (l : IsAround s.program root p a)
      → StandsInside s.program (OperationNode root) (OperationNode p)
      → (words.kind_of (world_of s) a.owner ≡ ops.Module) ⊎ (words.kind_of (world_of s) a.owner ≡ ops.Func)
  owner_kind p a l inside =
      let y = ruled_site l.owner (owner_inside p a l inside) in
      let same : y.site.op ≡ a.owner = one_tree s.program l.owner y.site.op a.owner y.at.tree l.owner_is in
      let format : FitsKind (world_of s) a.owner (words.kind_of (world_of s) a.owner) =
      subst (λ (z : KitTree). FitsKind (world_of s) z (words.kind_of (world_of s) z)) same (y.keeps rule.FitsFormat) in
      let count = region_count s.program l.owner a.owner l.owner_is in
      let within = slice_get_within (regions_in s.program l.owner) l.in_owner.index l.region l.in_owner.here in
      has_regions s a.owner (words.kind_of (world_of s) a.owner) format (omega (arith, count, within))
