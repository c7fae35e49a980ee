-- The flat view of a function of a module that keeps the rules keeps the flat rules, its values named by their places.
use Rattle.std.proofs.Common.{◌≡◌, ◌≢◌, ℕ, zero, suc, ◌<◌, Bool, List, [], ◌∷◌, map, Option, Some, None, slice_get}
use Rattle.std.proofs.Common.{refl, sym, ap, ◌∙◌, subst}
use Rattle.std.proofs.lemmas.List.{append-nil}
use Rattle.ir_base.specs.declared.types.TypeHandle.{TypeHandle}
use Rattle.ir_program.specs.declared.handles.BasicBlock.{BasicBlock}
use Rattle.ir_program.specs.declared.handles.Ptr.{Ptr}
use Rattle.ir_program.specs.declared.handles.Value.{Value}
use Rattle.ir_trees.specs.Renames.{names_of}
use Rattle.ir_trees.specs.Trees.{Regions, end, block}
use Rattle.ir_trees.proofs.Members.{at_has, has_at}
use Rattle.kit.specs.Context.{KitTree}
use Rattle.kit_ops.specs.declared.types.KitType.{KitType}
use Rattle.kit.specs.Meaning.{KitOperation, KitBlock}
use Rattle.kit_behaviour.specs.Machine.{Block, Fun, ops_left, arguments_of, arguments_in, size}
use Rattle.kit_behaviour.specs.Numbering.{place_fun}
use Rattle.kit_behaviour.specs.Rules.{EndsWell, Rules}
use Rattle.kit_behaviour.specs.Scopes.{at_start, OpsWith}
use Rattle.kit_behaviour.proofs.Behaviour.SizeLemmas.{slice_in_range}
use Rattle.kit_behaviour.proofs.Numbering.NumberingRules.{Shaped, placed_rules}
use Rattle.kit_checks.specs.declared.rule.Rule.TheVariants as rule
use Rattle.kit_checks.specs.Sites.{Listed, operation_list, block_list, region_list}
use Rattle.kit_checks.specs.Words.{joined, bodies_of, visible}
use Rattle.kit_views.specs.FlatView.{IsSameness, AreOps, AreFlatBlocks, FlattensTo, names_in}
use Rattle.kit_views.specs.Reading.{Reading, kit_contents, kit_reading}
use Rattle.kit_ruled_views.specs.Ruled.{IsRuledFunction}
use Rattle.kit_ruled_views.proofs.FunctionSites.{KitBlocks, KitBody, KitAround, own_keeps, inner_around, inner_keeps}
use Rattle.kit_ruled_views.proofs.programs.FlatDistinct.{flat_distinct}
use Rattle.kit_ruled_views.proofs.programs.FlatEnds.{LastEnds, ends_well}
use Rattle.kit_ruled_views.proofs.programs.FlatScopes.{Sees, AreNamed, ops_see, start_sees}

-- the block of the tree that a block of the flat function is
record IsBodyOf (r : Reading kit_contents) (names : List (Ptr BasicBlock)) (bs : KitBlocks) (b : ℕ) (k : Block Value)
    : Type 0 where
  body : KitBody
  here : slice_get (block_list bs) b ≡ Some body
  arguments : names_of body.label.arguments ≡ k.arguments
  ops : AreOps r names body.operations k.ops

body_of : (r : Reading kit_contents) (names : List (Ptr BasicBlock)) (bs : KitBlocks) (f : Fun Value) →
    AreFlatBlocks r names bs f → (b : ℕ) (k : Block Value) → slice_get f b ≡ Some k → IsBodyOf r names bs b k
body_of r names end [] are b k at = absurd (cc at)
body_of r names end (j ∷ ks) are b k at = absurd are
body_of r names (block l os more) [] are b k at = absurd are
body_of r names (block l os more) (j ∷ ks) are zero k at =
    let same : j ≡ k = cc in
    subst (IsBodyOf r names (block l os more) zero) same
    (record { body = record { label = l; operations = os }; here = refl; arguments = are.0; ops = are.1 })
body_of r names (block l os more) (j ∷ ks) are (suc b) k at =
    let q = body_of r names more ks are.2 b k at in
    record { body = q.body; here = q.here; arguments = q.arguments; ops = q.ops }

module _ (leads : TypeHandle → Option KitType) (typed : Value → Option TypeHandle) (numbered : List ℕ → ℕ)
    (u : KitTree) (ruled : IsRuledFunction leads typed u) (f : Fun Value)
    (flat : FlattensTo (kit_reading leads numbered) u f) where
  abbrev reading : Reading kit_contents
  reading = kit_reading leads numbered

  abbrev blocks : KitBlocks
  blocks = flat.view.blocks

  abbrev names : List (Ptr BasicBlock)
  names = names_in flat.view.blocks

  abbrev around : ℕ → KitBody → ℕ → KitAround
  around = inner_around leads typed u ruled blocks flat.view.region

  module _ (b : ℕ) (k : Block Value) (at : slice_get f b ≡ Some k) where
    abbrev it : IsBodyOf reading names blocks b k
    it = body_of reading names blocks f flat.view.are b k at

    last_ends : LastEnds reading names it.body.operations
    last_ends i op here =
        (inner_keeps leads typed u ruled blocks flat.view.region b i it.body op it.here here rule.BlocksEnd).last
        (around b it.body i) (refl, ruled.function)

    bodies_are : bodies_of u ≡ block_list blocks
    bodies_are = ap (λ (rs : Listed KitOperation KitBlock Regions). joined (map block_list (region_list rs)))
        flat.view.region ∙ append-nil (block_list blocks)

    filled : operation_list it.body.operations ≢ []
    filled = (own_keeps leads typed u ruled rule.BlocksEnd).none_empty ruled.function b it.body
        (ap (λ l. slice_get l b) bodies_are ∙ it.here)

    block_ends : EndsWell k.ops
    block_ends = ends_well reading names it.body.operations k.ops it.ops last_ends filled

    arguments_are : names_of it.body.label.arguments ≡ arguments_in (Some f) b
    arguments_are = it.arguments ∙ ap arguments_of (sym at)

    names_seen : AreNamed reading names it.body.operations (at_start (Some f) b)
    names_seen i op here x has =
        let n = has_at op.head.operands x has in
        let sees = (inner_keeps leads typed u ruled blocks flat.view.region b i it.body op it.here here
        rule.OperandsAreVisible).inside (around b it.body i) refl n.0 x n.1 in
        start_sees reading names blocks f flat.view.are b it.body arguments_are i x
        (at_has (visible (around b it.body i)) sees.0 x sees.1)

    block_sees : OpsWith Sees (at_start (Some f) b) k.ops
    block_sees = ops_see reading names it.body.operations k.ops it.ops (at_start (Some f) b) names_seen

  ends : (b : ℕ) (o : Option (Block Value)) → slice_get f b ≡ o → b < size (Some f) → EndsWell (ops_left o 0)
  ends b None at l = absurd (slice_in_range f b l at)
  ends b (Some k) at l = block_ends b k at

  sees : (b : ℕ) (o : Option (Block Value)) → slice_get f b ≡ o → OpsWith Sees (at_start (Some f) b) (ops_left o 0)
  sees b None at = tt
  sees b (Some k) at = block_sees b k at

  shaped : Shaped (Some f)
  shaped = record {
    terminated = λ b. ends b (slice_get f b) refl;
    sees = λ b. sees b (slice_get f b) refl;
    fits = flat.edges;
  }

  pub ruled_rules : (same : Value → Value → Bool) → IsSameness same → Rules (place_fun same (Some f))
  ruled_rules same law =
      placed_rules same (record { true_same = law.true_same; same_true = law.same_true }) (Some f)
      (flat_distinct reading u f flat) shaped
