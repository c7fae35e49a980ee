-- Where no two blocks can be joined, joining chains leaves a tree as it is, and the program too.
use Rattle.std.proofs.Common.{◌≡◌, List, Some, None, refl, sym, ap, ◌∙◌}
use Rattle.std.proofs.lemmas.List.{map-id}
use Rattle.ir_program.specs.Program.{Program}
use Rattle.ir_program.specs.declared.handles.Ptr.{Ptr}
use Rattle.ir_program.specs.declared.handles.Operation.{Operation}
use Rattle.ir_program.specs.declared.handles.BasicBlock.{BasicBlock}
use Rattle.ir_program.specs.declared.handles.Value.{Value}
use Rattle.ir_trees.specs.Names.{Names, Contents}
use Rattle.ir_trees.specs.Stands.{by_handle, in_program, ProgramTree, StandsFor}
use Rattle.ir_trees.specs.Trees.{Head, Sort, Operations, Blocks, Regions, Tree, end, operation, block, region, Root}
use Rattle.opt_trees.specs.Dialect.{Dialect}
use Rattle.opt_trees.specs.Simplify.{StartingRegions, Joinable, IsGiven, stops, use_head, use_instead, Joins, ends, operations, regions, first, chain_ends, Chases, goes, goes_by, ComesBack}
use Rattle.opt_inside.specs.Outside.{ChangesOperandsOutside}
use Rattle.opt_chains.specs.Phases.{MergesBlocks}
use Rattle.opt_inside.specs.reach.Starts.{IsStartIn}
use Rattle.opt_inside.specs.declared.reach.starts.Start.{Start}
use Rattle.ir_opts.specs.joining.Answers.{HasNoCircle, HasNoneJoinable}

module _ {N : Names} {S : Contents} where
  -- each value in place of itself
  head_same : (h : Head N S) → use_head (λ v. v) h ≡ h
  head_same h = λ i. record { name = h.name; content = h.content; results = h.results; operands = map-id h.operands i; successors = h.successors }

  tree_same : (s : Sort) (t : Tree N S s) → use_instead (λ v. v) t ≡ t
  tree_same _ end = refl
  tree_same _ (operation h rs rest) =
      let head = head_same h in
      let within = tree_same Regions rs in
      let behind = tree_same Operations rest in
      λ i. operation (head i) (within i) (behind i)
  tree_same _ (block l ops rest) =
      let within = tree_same Operations ops in
      let behind = tree_same Blocks rest in
      λ i. block l (within i) (behind i)
  tree_same _ (region bs rest) =
      let within = tree_same Blocks bs in
      let behind = tree_same Regions rest in
      λ i. region (within i) (behind i)

  root_same : (t : Root N S) → t ≡ record { head = use_head (λ v. v) t.head; regions = use_instead (λ v. v) t.regions }
  root_same t =
      let head = sym (head_same t.head) in
      let below = sym (tree_same Regions t.regions) in
      λ i. record { head = head i; regions = below i }

module _ {N : Names} {S : Contents} {A : Type 0} (d : Dialect S A) (p : StartingRegions N) (t : Root N S) (none : (a b : N.block) → Joinable d p t a b → ⊥) where
  pub none_given : (v u : N.value) → IsGiven d p t v u → ⊥
  none_given v u given = none given.from given.to given.joins

  -- nothing is joined
  pub none_joined : (s : Sort) (u : Tree N S s) → Joins d p t None s u u
  none_joined s end = ends s
  none_joined _ (operation h rs rest) = operations h rs rs rest rest (none_joined Regions rs) (none_joined Operations rest)
  none_joined _ (block l ops rest) = first l ops ops rest rest (λ b. none b l.name) (chain_ends l.name ops ops (none l.name) (none_joined Operations ops)) (none_joined Blocks rest)
  none_joined _ (region bs rest) = regions bs bs rest rest (none_joined Blocks bs) (none_joined Regions rest)

  -- nothing is followed
  none_chased : (v u : N.value) → Chases d p t v u → ⊥
  none_chased _ _ (goes v u given) = none_given v u given
  none_chased _ _ (goes_by v u x given more) = none_given v u given

  pub none_back : ComesBack d p t → ⊥
  none_back back = none_chased back.argument back.argument back.loop

module _ {O B A : Type 0} (d : Dialect (in_program O B) A) (c : Program O B) (op : Ptr Operation) where
  same_outside : ChangesOperandsOutside c c op (λ v. v)
  same_outside = record {
    operations = λ p v outside there. there ∙ sym (ap (λ (os : List Value). Some (record v { operands = os })) (map-id v.operands));
    blocks = λ b v outside there. there;
    regions = λ r v outside there. there;
  }

  none_merged_at : (p : StartingRegions by_handle) (t : ProgramTree O B) → ((a b : Ptr BasicBlock) → Joinable d p t a b → ⊥) → StandsFor c op t → MergesBlocks d p c c op t
  none_merged_at p t none stands = record {
    after = t;
    joined = record { names = λ v. v; follows = λ v. stops v (none_given d p t none v); regions = t.regions; joins = none_joined d p t none Regions t.regions; is = root_same t };
    stands = stands;
    outside = same_outside;
    none_come = λ q live out. (live, out);
  }

  module _ (start : Start) (none : HasNoneJoinable d c op start) where
    -- the program is its own with each chain joined
    pub none_merged : (p : StartingRegions by_handle) → IsStartIn c start p → (t : ProgramTree O B) → StandsFor c op t → MergesBlocks d p c c op t
    none_merged p is t stands = none_merged_at p t (none p is t stands) stands

    -- following never comes back
    pub none_circles : HasNoCircle d c op start
    none_circles p is t stands = none_back d p t (none p is t stands)
