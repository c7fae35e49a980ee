-- From numbers that lead where blocks are joinable, and the steps along their chains, to steps that join all chains.
use Rattle.std.proofs.Common.{◌≡◌, ℕ, List, [], ◌∷◌, take, Option, Some, slice_get, sym, ap, ◌∙◌, subst}
use Rattle.ir_program.specs.Lists.{StandsInBlock}
use Rattle.ir_program.specs.Program.{Program}
use Rattle.ir_program.specs.declared.handles.Ptr.{Ptr}
use Rattle.ir_program.specs.declared.handles.Operation.{Operation}
use Rattle.ir_program.specs.declared.handles.BasicBlock.{BasicBlock}
use Rattle.ir_trees.specs.Searched.{AreDistinct}
use Rattle.ir_trees.specs.Stands.{by_handle, in_program, ProgramTree}
use Rattle.opt_inside.proofs.Around.{HasLists}
use Rattle.opt_inside.specs.Occurring.{EachFound, EachBlock, BlockNamesApart, IsBelowRoot, IsFound, IsOccurrence, IsBlockOccurrence}
use Rattle.opt_trees.specs.Dialect.{Dialect}
use Rattle.opt_trees.specs.Simplify.{StartingRegions}
use Rattle.opt_inside.specs.reach.Edges.{HasLocalEdgesFrom}
use Rattle.opt_inside.specs.reach.Starts.{IsStartIn}
use Rattle.opt_inside.specs.declared.reach.starts.Start.{Start}
use Rattle.opt_chains.specs.Chained.{AreChains, LeadsWhereJoinable}
use Rattle.opt_chains.specs.ChainSteps.{behind, end_of, AreSteps, AreWalked}
use Rattle.opt_chains.specs.NamedSteps.{HasExit, AreNamedSteps}
use Rattle.opt_chains.specs.declared.chain_steps.ChainStep.{ChainStep}
use Rattle.opt_chains.specs.declared.merging.Join.{Join}
use Rattle.opt_chains.proofs.ChainBare.{joinable_exit}
use Rattle.opt_chains.proofs.ChainHandles.{step_at}
use Rattle.opt_chains.proofs.ChainNames.{matched_steps, below_length}
use Rattle.opt_chains.proofs.ChainPaths.{links_named, from_first_named, single_branch, joinable_together}
use Rattle.opt_chains.proofs.ChainRows.{IsRow}
use Rattle.opt_chains.proofs.ChainsFound.{rows_taken, chains_found}

module _ {O B A : Type 0} (d : Dialect (in_program O B) A) (place : StartingRegions by_handle) (c : Program O B) (op : Ptr Operation) (t : ProgramTree O B) (lists : HasLists c) (start : Start) (is_start : IsStartIn c start place) (edges : HasLocalEdgesFrom d.is_terminator c start)
    (sound : EachFound t (IsOccurrence c op)) (found : (p : Ptr Operation) → IsBelowRoot c op p → IsFound t p) (blocks : EachBlock t (IsBlockOccurrence c op)) (apart : BlockNamesApart t)
    (keys : List (Ptr BasicBlock)) (once : AreDistinct keys) (next : List (Option ℕ)) (leads : LeadsWhereJoinable d place t keys next) (ss : List ChainStep) where
  -- the first of a row that leads on, or ends where something leads on, has a block
  first_named : (a : ℕ) (ns : List ℕ) (z : Ptr BasicBlock) → IsRow next a ns → slice_get keys (end_of a ns) ≡ Some z → (x : Ptr BasicBlock) × (slice_get keys a ≡ Some x)
  first_named a [] z row e = (z, e)
  first_named a (n ∷ ns) z row e = let i = leads.named a n row.0 in (i.0, i.2)

  -- each step has an exit
  pub exits_of_steps : AreSteps next ss → (k : ℕ) (s : ChainStep) → slice_get ss k ≡ Some s → HasExit d c keys s
  exits_of_steps steps k s here =
      let at = step_at next ss steps k s here in
      let i = leads.named s.before s.to at.leads in
      let f = first_named s.first (behind (take k ss) s.first) i.0 (rows_taken next ss steps k s.first) (ap (slice_get keys) (sym at.from) ∙ i.2) in
      let occurs = sound i.4.last i.4.stands in
      let block : StandsInBlock c i.4.last.head.name i.0 = subst (StandsInBlock c i.4.last.head.name) i.4.in_block occurs.in_block in
      record {
        within = below_length keys s.first f.0 f.1;
        before = i.0;
        before_is = i.2;
        live = block.block;
        target = i.1;
        target_is = i.3;
        branch = i.4.last.head.name;
        exit = joinable_exit d place c op t lists start is_start edges sound i.0 i.1 i.4;
      }

  -- and the steps on blocks join all chains
  pub chains_of_steps : AreWalked next ss → (js : List Join) → AreNamedSteps d c keys ss js → AreChains d place c t js
  chains_of_steps walked js names = chains_found d place c t lists keys next ss js (record {
    once = once;
    len = leads.len;
    links = links_named d place c op t lists start is_start edges sound found blocks apart keys once next leads.len leads.named;
    walked = walked;
    matched = matched_steps d c keys once ss js names;
    named = leads.named;
    all = leads.all;
    from_first = from_first_named d place c op t lists start is_start edges sound found blocks apart keys once next leads.len leads.named;
    exits = λ k j s z a b e. (names.each k s j b a).exit z e;
    single = single_branch d place c op t lists start is_start edges sound found blocks;
    beside = joinable_together d place c op t lists start is_start edges sound found blocks;
  })
