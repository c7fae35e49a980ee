-- Edges of a module that keeps the rules.
use Rattle.std.proofs.Common.{◌≡◌, ◌⊎◌, ⊎_elim, ℕ, ◌+◌, ◌<◌, true, [], length, Option, Some, option_map}
use Rattle.std.proofs.Common.{unwrap_or, slice_get, sym, ap, ◌∙◌, subst, arith}
use Rattle.std.proofs.lemmas.List.{length-map}
use Rattle.std.proofs.lemmas.Option.{slice_get_within}
use Rattle.ir_names.specs.declared.interfaces.OpInterface.TheVariants as op
use Rattle.ir_types.specs.Interned.{key_at}
use Rattle.ir_program.specs.Lists.{StandsInBlock, StandsInRegion, StandsInside, in_region, in_operation, operations_in}
use Rattle.ir_program.specs.Lists.{blocks_in}
use Rattle.ir_program.specs.Program.{OperationView, TypedValue, operation_at, arguments_at, type_at}
use Rattle.ir_program.specs.Rows.{successors_at}
use Rattle.ir_program.specs.declared.handles.BasicBlock.{BasicBlock}
use Rattle.ir_program.specs.declared.handles.IRNode.{IRNode}
use Rattle.ir_program.specs.declared.handles.IRNode.TheVariants.{Operation as OperationNode}
use Rattle.ir_program.specs.declared.handles.Operation.{Operation}
use Rattle.ir_program.specs.declared.handles.Ptr.{Ptr}
use Rattle.ir_program.specs.declared.handles.Region.{Region}
use Rattle.ir_trees.specs.Searched.{Lists}
use Rattle.ir_trees.specs.Stands.{StandsFor, ProgramHead, head_of}
use Rattle.kit.specs.Context.{KitContext, KitTree}
use Rattle.opt_inside.specs.facts.ByNumber.{LeadsBelow}
use Rattle.opt_inside.specs.Edges.{FitsEdgesBelow, HasLocalEdgesBelow}
use Rattle.opt_inside.specs.Occurring.{IsBelowRoot, IsBlockBelow}
use Rattle.opt_inside.proofs.Around.{HasLists}
use Rattle.kit.specs.Meaning.{KitOperation, KitBlock, kit}
use Rattle.kit_ops.specs.Table.{has_interface}
use Rattle.kit_checks.specs.declared.rule.Rule.TheVariants as rule
use Rattle.kit_checks.specs.Words as words
use Rattle.kit_checks.specs.World.{world_of}
use Rattle.kit_checks.proofs.Down.{block_listed}
use Rattle.kit_checks.proofs.Trees.{argument_types, operation_count}
use Rattle.kit_ruled_views.specs.Functions.{KeepsRules}
use Rattle.kit_ruled_views.proofs.SmallLists.{as_many}
use Rattle.kit_ruled_passes.specs.Entering.{IsEnteredNowhere}
use Rattle.kit_ruled_passes.proofs.EdgeLengths.{as_many_handed, hands_on}
use Rattle.kit_ruled_passes.proofs.RuledSites.{RuledSite, RuledEdge, ruled_site, ruled_edge, owner_inside}
use Rattle.kit_ruled_passes.proofs.RuledSites.{owner_kind, ends}

same_some : {X : Type 0} (o : Option X) (x y : X) → o ≡ Some x → o ≡ Some y → x ≡ y
same_some o x y a b = cc

module _ (s : KitContext) (root : Ptr Operation) (lists : HasLists s.program) (t : KitTree)
    (stands : StandsFor s.program root t) (rules : KeepsRules s root) where
  abbrev Inside : Ptr Operation → Type 0
  Inside p = StandsInside s.program (OperationNode root) (OperationNode p)

  module _ (p : Ptr Operation) (inside : Inside p) where
    abbrev here : RuledSite s root p
    here = ruled_site s root lists t stands rules p inside

    module _ (b : Ptr BasicBlock) (e : Lists (successors_at s.program p) b) where
      abbrev edge : RuledEdge s root p here b e.0
      edge = ruled_edge s root lists t stands rules p here b e

      -- the block is one of the region
      target : (slice_get (blocks_in s.program edge.located.region) edge.leads.here.0 ≡ Some b)
      target =
          let l = block_listed s.program (blocks_in s.program edge.located.region) edge.around.blocks
          edge.located.blocks edge.leads.here.0 edge.leads.body edge.leads.here.1 in
          l.0 ∙ ap Some edge.leads.named

      in_same : StandsInRegion s.program b edge.located.region
      in_same = lists.blocks edge.located.region edge.leads.here.0 b target

      some_successor : 0 < length here.site.op.head.successors
      some_successor =
          let w = slice_get_within here.site.op.head.successors e.0 b edge.there in
          omega (arith, w)

      ending : (words.is_terminator here.site.op.head.content.kind ≡ true)
          × (words.is_symbol here.site.op.head.content.kind ≡ true → ⊥)
          × (has_interface here.site.op.head.content.kind op.IsTerminator ≡ true)
      ending = ends s here.site.op here.site.op.head.content.kind (here.keeps rule.FitsFormat) some_successor

      -- it is at the end of its block
      at_end : edge.around.index + 1 ≡ length (operations_in s.program edge.located.block)
      at_end = ⊎_elim
          (λ module_around. absurd (ending.1
          ((here.keeps rule.ModuleHolds).kinds edge.around (edge.is, module_around))))
          (λ function_around. ((here.keeps rule.BlocksEnd).last edge.around (edge.is, function_around)).0 ending.0
          ∙ operation_count s.program edge.located.block edge.around.body edge.located.body)
          (owner_kind s root lists t stands rules p edge.around edge.located inside)

      -- the operation isn't the root, and is in a block of the region that it leads into
      pub leaves_below : IsBelowRoot s.program root p
      leaves_below = record { inside = inside; other = edge.located.other }

      pub leads_inside : IsBlockBelow s.program root b
      leads_inside = in_region b edge.located.region in_same
          (in_operation edge.located.region edge.located.owner edge.located.in_owner
          (owner_inside s root lists t stands rules p edge.around edge.located inside))

      pub stays : (c : Ptr BasicBlock) (r : Ptr Region) → StandsInBlock s.program p c → StandsInRegion s.program c r
          → StandsInRegion s.program b r
      stays c r in_c in_r =
          let l = edge.located in
          let one : c ≡ l.block = (lists.operations_once p c l.block in_c.index l.in_block.index in_c.here
          l.in_block.here).0 in
          let at : slice_get (blocks_in s.program r) in_r.index ≡ Some l.block = in_r.here ∙ ap Some one in
          let two : r ≡ l.region = (lists.blocks_once l.block r l.region in_r.index l.in_region.index at
          l.in_region.here).0 in
          subst (StandsInRegion s.program b) (sym two) in_same

      pub is_last : (c : Ptr BasicBlock) (k : ℕ) → slice_get (operations_in s.program c) k ≡ Some p
          → k + 1 ≡ length (operations_in s.program c)
      is_last c k h =
          let l = edge.located in
          let one = lists.operations_once p c l.block k edge.around.index h l.index in
          let end = at_end in
          let count : length (operations_in s.program c) ≡ length (operations_in s.program l.block) =
          ap (λ x. length (operations_in s.program x)) one.0 in
          omega (arith, end, count, one.1)

      pub ends_block : (v : OperationView KitOperation) → operation_at s.program p ≡ Some v
          → kit.is_terminator v.payload ≡ true
      ends_block v there =
          let same : here.at.tree.view ≡ v = same_some (operation_at s.program p) here.at.tree.view v here.at.tree.there
          there in
          subst (λ (h : ProgramHead KitOperation KitBlock). has_interface h.content.kind op.IsTerminator ≡ true)
          (here.at.tree.head ∙ ap (head_of p) same) ending.2

      pub as_many_taken : (v : OperationView KitOperation) → operation_at s.program p ≡ Some v
          → kit.is_branch v.payload ≡ true
          → length (kit.forwards v.payload (length v.operands) e.0) ≡ length (arguments_at s.program b)
      as_many_taken v there branches =
          let same : here.at.tree.view ≡ v = same_some (operation_at s.program p) here.at.tree.view v here.at.tree.there
          there in
          let head : here.site.op.head ≡ head_of p v = here.at.tree.head ∙ ap (head_of p) same in
          let branch : has_interface here.site.op.head.content.kind op.Branch ≡ true =
          subst (λ (h : ProgramHead KitOperation KitBlock). has_interface h.content.kind op.Branch ≡ true) (sym head)
          branches in
          let kind = here.site.op.head.content.kind in
          let handed = words.along_edge kind (words.sizes_or_none (words.segment_sizes (world_of s) here.site.op))
          here.site.op.head.operands e.0 in
          let forwarded = as_many_handed (key_at s.types) (type_at s.program) here.site.op kind
          (here.keeps rule.FitsFormat) branch e.0 b edge.there in
          let typed = as_many (type_at s.program) Some handed (words.types_of edge.leads.body.label.arguments)
          (edge.leads.operands (hands_on kind branch)) in
          let listed = block_listed s.program (blocks_in s.program edge.located.region) edge.around.blocks
          edge.located.blocks edge.leads.here.0 edge.leads.body edge.leads.here.1 in
          let types = argument_types s.program edge.leads.body.label.name edge.leads.body listed.1 in
          let count : length (words.types_of edge.leads.body.label.arguments) ≡ length (arguments_at s.program b) =
          ap length types ∙ length-map (arguments_at s.program edge.leads.body.label.name) (λ (x : TypedValue). x.ty)
          ∙ ap (λ x. length (arguments_at s.program x)) edge.leads.named in
          ap (λ (h : ProgramHead KitOperation KitBlock). length (kit.forwards h.content (length h.operands) e.0))
          (sym head) ∙ forwarded ∙ typed ∙ count

  -- ---- the premises

  pub leads_below : LeadsBelow s.program root
  leads_below p b below e = leads_inside p below.inside b e

  pub fits_edges : FitsEdgesBelow kit s.program root
  fits_edges p v i b below there branches at =
      let e : Lists (successors_at s.program p) b = (
        i,
        ap (λ o. slice_get (unwrap_or (option_map (λ (x : OperationView KitOperation). x.successors) o) []) i) there
            ∙ at,
      ) in
      as_many_taken p below.inside b e v there branches

  pub local_edges : ((e : IRNode) → StandsInside s.program (OperationNode root) e
      ⊎ (StandsInside s.program (OperationNode root) e → ⊥))
      → IsEnteredNowhere s root → HasLocalEdgesBelow kit.is_terminator s.program root
  local_edges decided closed = record {
    leaving = λ p b c r below e in_c in_r. stays p below.inside b e c r in_c in_r;
    entering = λ p b e below. ⊎_elim
        (λ inside. leaves_below p inside b e)
        (λ outside. absurd (closed b below (p, outside, e)))
        (decided (OperationNode p));
    last = λ p b c k below e at. is_last p below.inside b e c k at;
    terminators = λ p b v below e there. ends_block p below.inside b e v there;
  }
