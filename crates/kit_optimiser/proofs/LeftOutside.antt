-- What passes leave of all that stands outside a module.
use Rattle.std.proofs.Common.{◌≡◌, ◌≢◌, ◌⊎◌, inl, inr, ⊎_elim, List, [], ◌∷◌, map, Option, Some, None, IsSome}
use Rattle.std.proofs.Common.{option_map, unwrap_or, slice_get, refl, sym, ap, ◌∙◌, subst}
use Rattle.ir_opts.specs.Simplified.{StopsAt, while_deciding, while_removing, loses_uses, while_joining, comes_back}
use Rattle.ir_opts.specs.SimplifiedTree.{SimplifiesTree}
use Rattle.ir_program.specs.Lists.{StandsInBlock, StandsInOperation, StandsInside, itself}
use Rattle.ir_program.specs.Program.{Program, OperationView, BlockView, operation_at, block_at, region_at}
use Rattle.ir_program.specs.declared.handles.BasicBlock.{BasicBlock}
use Rattle.ir_program.specs.declared.handles.IRNode.TheVariants.{Operation as OperationNode, BasicBlock as BlockNode}
use Rattle.ir_program.specs.declared.handles.IRNode.TheVariants.{Region as RegionNode}
use Rattle.ir_program.specs.declared.handles.Operation.{Operation}
use Rattle.ir_program.specs.declared.handles.Ptr.{Ptr}
use Rattle.ir_program.specs.declared.handles.Region.{Region}
use Rattle.ir_program.specs.declared.handles.Value.{Value}
use Rattle.ir_program.proofs.made.Frames.{same_or_not}
use Rattle.ir_trees.specs.Renames.{names_of}
use Rattle.ir_trees.specs.Stands.{StandsFor, ProgramHead, ProgramLabel}
use Rattle.ir_trees.proofs.Members.{has_at}
use Rattle.kit.specs.Context.{KitProgram, KitTree}
use Rattle.opt_decide.specs.Phase.{BringsNoneInside, CarriesOutPart}
use Rattle.opt_dialect.specs.declared.status.IRStatus.{IRStatus}
use Rattle.opt_dialect.specs.declared.status.OptError.{OptError}
use Rattle.opt_inside.specs.Around.{IsTakenOutside}
use Rattle.opt_inside.specs.Occurring.{IsBelowRoot, IsDefinedBelow}
use Rattle.opt_inside.specs.Outside.{AddsNoneOutside, ChangesOperandsOutside, KeepsOutside}
use Rattle.opt_inside.proofs.Around.{HasLists, around_operation, around_region}
use Rattle.opt_inside.proofs.Values.{defined}
use Rattle.opt_inside.proofs.Walked.{sound, blocks_sound}
use Rattle.opt_sccp.specs.Puts.{PutsConstants}
use Rattle.opt_sccp.specs.Sccp.{Propagates, PropagatesPart}
use Rattle.opt_trees.specs.Occurrences.{Has, at_root}
use Rattle.opt_trees.specs.Sccp.{IsArgument, IsResult, used_as}
use Rattle.opt_trees.specs.Simplify.{Follows, all_of, decide, goes_on, keep, stops}
use Rattle.opt_trees.proofs.Defined.{argument_defined}
use Rattle.kit.specs.Meaning.{KitOperation, KitBlock, kit}
use Rattle.pass_outside.proofs.InTrees.{Includes, includes_both}
use Rattle.kit_ruled_passes.proofs.LeftApart.{LeavesApart, something}
use Rattle.pass_outside.proofs.PassIncludes.{decided_less, kept_less}
use Rattle.kit_ops.specs.declared.attributes.IntegerAttr.{IntegerAttr}
use Rattle.kit_views.proofs.Lists.{has_get}
use Rattle.kit_optimiser.specs.Outside.{IsOutside, KeepsRest, LeavesRest, StaysOutside}

-- ---- from pass to pass

module _ {O B : Type 0} (root : Ptr Operation) where
  pub kept_both : (old mid new : Program O B) → KeepsRest old mid root → StaysOutside old mid root
      → KeepsRest mid new root → KeepsRest old new root
  kept_both old mid new first stays second = record {
    operations = λ p o. second.operations p (stays (OperationNode p) o) ∙ first.operations p o;
    blocks = λ b o. second.blocks b (stays (BlockNode b) o) ∙ first.blocks b o;
    regions = λ r o. second.regions r (stays (RegionNode r) o) ∙ first.regions r o;
  }

  pub stays_both : (old mid new : Program O B) → StaysOutside old mid root → StaysOutside mid new root
      → StaysOutside old new root
  stays_both old mid new first second e o = second e (first e o)

  pub none_come_both : (old mid new : Program O B) → AddsNoneOutside old mid root → AddsNoneOutside mid new root
      → AddsNoneOutside old new root
  none_come_both old mid new first second p live out = let was = second p live out in first p was.0 was.1

  -- where nothing is done
  pub kept_none : (c : Program O B) → KeepsRest c c root
  kept_none c = record { operations = λ p o. refl; blocks = λ b o. refl; regions = λ r o. refl }

  pub stays_none : (c : Program O B) → StaysOutside c c root
  stays_none c e o = o

  pub none_come_none : (c : Program O B) → AddsNoneOutside c c root
  none_come_none c p live out = (live, out)

  -- what is kept in two steps, of which the first brings nothing inside
  outside_both : (old mid new : Program O B) → KeepsOutside old mid root → BringsNoneInside old mid root
      → KeepsOutside mid new root → KeepsOutside old new root
  outside_both old mid new first inside second = record {
    operations = λ p v out there. second.operations p v
        (λ i. out (inside (OperationNode p) (subst IsSome (sym there) refl) i)) (first.operations p v out there);
    blocks = λ b v out there. second.blocks b v
        (λ i. out (inside (BlockNode b) (subst IsSome (sym there) refl) i)) (first.blocks b v out there);
    regions = λ r v out there. second.regions r v
        (λ i. out (inside (RegionNode r) (subst IsSome (sym there) refl) i)) (first.regions r v out there);
  }

-- ---- one pass

map_on : {X : Type 0} (f : X → X) (xs : List X) → ((x : X) → Has x xs → f x ≡ x) → map f xs ≡ xs
map_on f [] same = refl
map_on f (x ∷ xs) same =
    let e = same x (inl refl) in
    let s = map_on f xs (λ y h. same y (inr h)) in
    λ i. e i ∷ s i

module _ (old new : KitProgram) (root : Ptr Operation) where
  -- a region of an operation that isn't inside isn't inside either
  region_out : HasLists old → (r : Ptr Region) (p : Ptr Operation) → StandsInOperation old r p
      → (StandsInside old (OperationNode root) (OperationNode p) → ⊥)
      → StandsInside old (OperationNode root) (RegionNode r) → ⊥
  region_out lists r p at out i = ⊎_elim
      (λ (e : OperationNode root ≡ RegionNode r). cc)
      out
      (around_region old lists (OperationNode root) r p at i)

  keeps_rest : HasLists old → KeepsOutside old new root → KeepsRest old new root
  keeps_rest lists kept = record {
    operations = λ p o. let w = something (operation_at old p) o.0 in kept.operations p w.0 o.1 w.1 ∙ sym w.1;
    blocks = λ b o. let w = something (block_at old b) o.0 in kept.blocks b w.0 o.1 w.1 ∙ sym w.1;
    regions = λ r o.
        let w = something (region_at old r) o.1.region in
        kept.regions r w.0 (region_out lists r o.0 o.1 o.2) w.1 ∙ sym w.1;
  }

  module _ (left : LeavesApart old new root) where
    operation_stays : KeepsRest old new root → (p : Ptr Operation) → IsOutside old root (OperationNode p)
        → IsOutside new root (OperationNode p)
    operation_stays kept p o = (
      subst IsSome (sym (kept.operations p o)) o.0,
      λ i. ⊎_elim
          (λ (e : p ≡ root). o.1 (subst (λ z. StandsInside old (OperationNode root) (OperationNode z)) (sym e) itself))
          (λ (other : p ≢ root). ⊎_elim
          (λ (was : IsBelowRoot old root p). o.1 was.inside)
          (λ (none : operation_at old p ≡ None).
          let w = something (operation_at old p) o.0 in
          let e : Some w.0 ≡ None = sym w.1 ∙ none in cc)
          (left.operations p (record { inside = i; other = other })))
          (same_or_not p root),
    )

    stays : KeepsRest old new root → StaysOutside old new root
    stays kept (OperationNode p) o = operation_stays kept p o
    stays kept (BlockNode b) o = (subst IsSome (sym (kept.blocks b o)) o.0, λ i. o.1 (left.blocks b i))
    stays kept (RegionNode r) o =
        let own : IsOutside old root (OperationNode o.0) = (o.1.operation, o.2) in
        let now = operation_stays kept o.0 own in (
          o.0,
          record {
            region = subst IsSome (sym (kept.regions r o)) o.1.region;
            operation = now.0;
            index = o.1.index;
            here = ap (λ v. slice_get (unwrap_or (option_map (λ (x : OperationView KitOperation). x.regions) v) [])
                o.1.index) (kept.operations o.0 own) ∙ o.1.here;
          },
          now.1,
        )

    none_come : AddsNoneOutside old new root
    none_come p live out =
        let w = something (operation_at new p) live in
        let o = left.outside p w.0 out w.1 in
        (subst IsSome (sym o.there) refl, o.before)

    pub leaves_rest : HasLists old → KeepsOutside old new root → LeavesRest old new root
    leaves_rest lists outside =
        let kept = keeps_rest lists outside in
        record { kept = kept; stays = stays kept; none_come = none_come }

  -- ---- operands outside are kept, where none of them is a value of the module

  abbrev pub IsUntaken : Type 0
  IsUntaken = (v : Value) → IsDefinedBelow old root v → IsTakenOutside old root v → ⊥

  taken : (p : Ptr Operation) (v : OperationView KitOperation)
      → (StandsInside old (OperationNode root) (OperationNode p) → ⊥) → operation_at old p ≡ Some v
      → (y : Value) → Has y v.operands → IsTakenOutside old root y
  taken p v out there y has =
      let k = has_at v.operands y has in (
        p,
        out,
        (
          k.0,
          ap (λ x. slice_get (unwrap_or (option_map (λ (z : OperationView KitOperation). z.operands) x) []) k.0) there
              ∙ k.1,
        ),
      )

  keeps_operands : (f : Value → Value) → ChangesOperandsOutside old new root f → IsUntaken
      → ((y : Value) → (f y ≡ y) ⊎ IsDefinedBelow old root y) → KeepsOutside old new root
  keeps_operands f changes untaken same = record {
    operations = λ p v out there. changes.operations p v out there
        ∙ (let e = map_on f v.operands (λ y has. ⊎_elim
        (λ (s : f y ≡ y). s)
        (λ (d : IsDefinedBelow old root y). absurd (untaken y d (taken p v out there y has)))
        (same y)) in λ i. Some (record v { operands = e i }));
    blocks = changes.blocks;
    regions = changes.regions;
  }

  -- ---- constants that are put in

  module _ (untaken : IsUntaken) (t : KitTree) where
    module _ (made : Value → Option IntegerAttr) (below : (v : Value) (a : IntegerAttr) → made v ≡ Some a
        → IsDefinedBelow old root v) (puts : PutsConstants kit old new root made t) where
      operand_put : (y : Value) (o : Option IntegerAttr) → made y ≡ o
          → (puts.names.value (used_as y o) ≡ y) ⊎ IsDefinedBelow old root y
      operand_put y None e = inl (puts.old_values y)
      operand_put y (Some a) e = inr (below y a e)

      put_outside : KeepsOutside old new root
      put_outside = keeps_operands (λ v. puts.names.value (used_as v (made v))) puts.outside untaken
          (λ y. operand_put y (made y) refl)

    -- a part of them, where memory or numbers run out
    pub part_rest : HasLists old → PropagatesPart kit old new root t → KeepsRest old new root
    part_rest lists part = keeps_rest lists (put_outside part.made part.below part.puts)

  module _ (lists : HasLists old) (untaken : IsUntaken) (t : KitTree) (stands : StandsFor old root t) where
    -- ---- constants that are put in, all of them

    module _ (answer : IRStatus) (done : Propagates kit old new root answer t) where
      -- a value that gets a constant is defined below the root
      made_below : (v : Value) (a : IntegerAttr) → done.made v ≡ Some a → IsDefinedBelow old root v
      made_below v a e = ⊎_elim
          (λ (r : IsResult kit t done.decided.facts v).
          let i = sound old root lists t stands r.definer r.stands in
          inl (
            r.definer.head.name,
            i.view,
            i.below,
            i.there,
            subst (λ (h : ProgramHead KitOperation KitBlock). Has v (names_of h.results)) i.head r.result,
          ))
          (λ (r : IsArgument t done.decided.facts.runs v).
          let i = blocks_sound old root lists t stands r.definer r.stands in
          inr (
            r.definer.label.name,
            i.view,
            i.below,
            i.there,
            subst (λ (l : ProgramLabel KitOperation KitBlock). Has v (names_of l.arguments)) i.label r.argument,
          ))
          (done.decided.is_made.gets v a e).place

      pub propagated_outside : KeepsOutside old new root
      propagated_outside = put_outside untaken t done.made made_below done.puts

    -- ---- control flow that is simplified

    module _ (done : SimplifiesTree kit old new root t) where
      cut_less : Includes done.simplified.cut.regions t.regions
      cut_less =
          let middle = decide kit done.around.alone t.regions in
          let cut = done.simplified.is_cut in
          subst (λ (z : KitTree). Includes z.regions t.regions) (sym cut.is)
          (includes_both (keep cut.gone middle) middle t.regions (kept_less cut.gone middle)
          (decided_less kit done.around.alone t.regions))

      -- a value in whose place another is used is an argument of a block of the tree
      operand_followed : (y x : Value) → Follows kit (all_of t) done.simplified.cut y x
          → (x ≡ y) ⊎ IsDefinedBelow old root y
      operand_followed _ _ (stops v none) = inl refl
      operand_followed _ _ (goes_on v u x g rest) =
          let cut = done.simplified.cut in
          inr ((defined old lists root t stands v).0 (cut_less.values v
          (argument_defined cut.regions (at_root cut) g.joins.target v g.joins.target_stands
          (has_get (names_of g.joins.target.label.arguments) g.place v g.takes))))

      pub simplified_outside : KeepsOutside old new root
      simplified_outside = keeps_operands done.simplified.is_joined.names done.outside untaken
          (λ y. operand_followed y (done.simplified.is_joined.names y) (done.simplified.is_joined.follows y))

  -- ---- where simplification stops

  module _ (lists : HasLists old) where
    module _ (part : CarriesOutPart kit old new root) where
      name_same : (b : Ptr BasicBlock) (v : BlockView KitBlock)
          → (StandsInside old (OperationNode root) (BlockNode b) → ⊥) → block_at old b ≡ Some v
          → (p : Ptr Operation) → Has p v.operations → part.decided.names p ≡ p
      name_same b v out there p has =
          let k = has_at v.operations p has in
          let s : StandsInBlock old p b = lists.operations b k.0 p
          (ap (λ o. slice_get (unwrap_or (option_map (λ (x : BlockView KitBlock). x.operations) o) []) k.0) there
          ∙ k.1) in
          part.decided.same p (λ x l e. ⊎_elim
          (λ (r : OperationNode root ≡ OperationNode p).
          let same : p ≡ root = cc in (part.are.below x l).other (e ∙ same))
          out
          (around_operation old lists (OperationNode root) p b s
          (subst (λ z. StandsInside old (OperationNode root) (OperationNode z)) e (part.are.below x l).inside)))

      part_outside : KeepsOutside old new root
      part_outside = record {
        operations = λ p v out there. part.decided.others p v there (λ x l e. out
            (subst (λ z. StandsInside old (OperationNode root) (OperationNode z)) e (part.are.below x l).inside));
        blocks = λ b v out there. part.decided.blocks b
            ∙ ap
            (option_map (λ (l : BlockView KitBlock). record l { operations = map part.decided.names l.operations }))
            there
            ∙ (let e = map_on part.decided.names v.operations (name_same b v out there) in
            λ i. Some (record v { operations = e i }));
        regions = λ r v out there. part.decided.regions r ∙ there;
      }

    module _ (t : KitTree) (stands : StandsFor old root t) where
      stopped_outside : (e : OptError) → StopsAt kit old new root e → KeepsOutside old new root
      stopped_outside e (while_deciding is part) = part_outside part
      stopped_outside e (while_removing is decides) = (decides t stands).outside
      stopped_outside e (loses_uses is decides loses) = (decides t stands).outside
      stopped_outside e (while_joining is mid decides removes) =
          let first = decides t stands in
          outside_both root old mid new first.outside first.inside (removes _ first.stands).outside
      stopped_outside e (comes_back is mid decides removes circle) =
          let first = decides t stands in
          outside_both root old mid new first.outside first.inside (removes _ first.stands).outside

      pub stopped_rest : (e : OptError) → StopsAt kit old new root e → KeepsRest old new root
      stopped_rest e stopped = keeps_rest lists (stopped_outside e stopped)
