-- What is seen of the blocks leads where blocks are joinable.
use Rattle.std.proofs.Common.{◌≡◌, inl, ℕ, zero, suc, ◌<◌, Bool, true, false, ◌&&◌, List, [], ◌∷◌, map, length, Option, Some, option_map, unwrap_or, slice_get, refl, sym, ap, ◌∙◌, subst, arith}
use Rattle.ir_program.specs.Lists.{StandsInRegion, operations_in, regions_in}
use Rattle.ir_program.specs.Program.{Program, TypedValue, OperationView, operation_at}
use Rattle.ir_program.specs.Rows.{successors_at}
use Rattle.ir_program.specs.Uses.{AreUsesIn}
use Rattle.ir_program.specs.declared.handles.Ptr.{Ptr}
use Rattle.ir_program.specs.declared.handles.Operation.{Operation}
use Rattle.ir_program.specs.declared.handles.Region.{Region}
use Rattle.ir_program.specs.declared.handles.BasicBlock.{BasicBlock}
use Rattle.ir_program.specs.declared.handles.Use.{Use}
use Rattle.ir_trees.proofs.Members.{Has, has_at}
use Rattle.ir_trees.specs.Stands.{by_handle, in_program, ProgramTree, ProgramHead, ProgramLabel, AreTree, no_regions, first_region, defined_by}
use Rattle.ir_trees.specs.Trees.{Regions, Tree}
use Rattle.opt_inside.proofs.Around.{HasLists}
use Rattle.opt_inside.specs.Numbered.{Numbers, NumbersInside}
use Rattle.opt_inside.specs.Occurring.{Found, FoundBlock, EachFound, EachBlock, BlockNamesApart, IsBelowRoot, IsBlockBelow, IsFound, IsBlockFound, IsOccurrence, IsBlockOccurrence, SiteIsFound, OperationsFound}
use Rattle.opt_rows.specs.Chains.{IsJoinedTo}
use Rattle.opt_steps.specs.ChainsJoined.{AreJoined}
use Rattle.opt_rows.specs.declared.chains.ChainBlock.{ChainBlock}
use Rattle.opt_trees.specs.Dialect.{Dialect}
use Rattle.opt_trees.specs.Occurrences.{OperationsApart, occurrences_of, block_occurrences_of}
use Rattle.opt_trees.specs.Simplify.{StartingRegions, Joinable, IsReached, IsVisited, IsEntered, is_bare, is_empty, is_end}
use Rattle.opt_inside.specs.reach.Edges.{HasLocalEdgesFrom}
use Rattle.opt_inside.specs.reach.Fates.{IsEnteredThere, IsFate, AreFates}
use Rattle.opt_inside.specs.declared.reach.fates.Fate.{Fate}
use Rattle.opt_inside.specs.declared.reach.fates.Fate.TheVariants.{Entered, Unreached, Unvisited}
use Rattle.opt_inside.specs.reach.Starts.{IsStartIn}
use Rattle.opt_inside.specs.declared.reach.starts.Start.{Start}
use Rattle.opt_chains.specs.Chained.{LeadsWhereJoinable}
use Rattle.opt_chains.specs.Exits.{IsBareExit}
use Rattle.opt_chains.specs.Merging.{front}
use Rattle.opt_chains.specs.NextBlocks.{StandsInSsa, IsChainBlock, AreChainBlocks}
use Rattle.opt_chains.proofs.ChainBare.{joinable_exit}
use Rattle.opt_chains.proofs.ChainNames.{below_length}
use Rattle.opt_chains.proofs.ChainPaths.{single_branch}
use Rattle.opt_chains.proofs.MergeLists.{none_listed, same_some, not_true, last_at}

-- what is found below the root of a tree
pub record Occurs {O B : Type 0} (c : Program O B) (op : Ptr Operation) (t : ProgramTree O B) : Type 0 where
  pub sound : EachFound t (IsOccurrence c op)
  pub found : (p : Ptr Operation) → IsBelowRoot c op p → IsFound t p
  pub one : OperationsApart t
  pub blocks_sound : EachBlock t (IsBlockOccurrence c op)
  pub blocks_found : (b : Ptr BasicBlock) → IsBlockBelow c op b → IsBlockFound t b
  pub blocks_one : BlockNamesApart t
  pub site : EachFound t (SiteIsFound c t)
  pub operations : EachBlock t (OperationsFound c t)

module _ {X : Type 0} where
  element : (xs : List X) (k : ℕ) → k < length xs → (x : X) × (slice_get xs k ≡ Some x)
  element [] k le = absurd (omega arith)
  element (x ∷ xs) zero le = (x, refl)
  element (x ∷ xs) (suc k) le = element xs k (omega (arith, le))

  -- a list of one element has it alone
  one_element : (xs : List X) → length xs ≡ 1 → (i j : ℕ) (x y : X) → slice_get xs i ≡ Some x → slice_get xs j ≡ Some y → x ≡ y
  one_element xs one i j x y a b =
      let li = below_length xs i x a in
      let lj = below_length xs j y b in
      let same : i ≡ j = omega (arith, li, lj, one) in
      same_some (slice_get xs j) x y (ap (slice_get xs) (sym same) ∙ a) b

  -- and where all are one and that comes once, so it is
  length_one : (xs : List X) (x : X) (i : ℕ) → slice_get xs i ≡ Some x → ((j k : ℕ) (y : X) → slice_get xs j ≡ Some y → slice_get xs k ≡ Some y → j ≡ k) → ((j : ℕ) (y : X) → slice_get xs j ≡ Some y → y ≡ x) → length xs ≡ 1
  length_one [] x i h once all = absurd (none_listed i x h)
  length_one (y ∷ []) x i h once all = refl
  length_one (y ∷ (z ∷ zs)) x i h once all =
      let e : 0 ≡ 1 = once 0 1 x (ap Some (all 0 y refl)) (ap Some (all 1 z refl)) in
      absurd (omega (arith, e))

both : (a b : Bool) → a ≡ true → b ≡ true → (a && b) ≡ true
both a b e f = ap (λ x. x && b) e ∙ f

ends_there : {O B : Type 0} (c : Program O B) (rs : List (Ptr Region)) (u : Tree by_handle (in_program O B) Regions) → AreTree c Regions rs u → rs ≡ [] → is_end u ≡ true
ends_there c _ _ no_regions e = refl
ends_there c _ _ (first_region r rs v blocks rest there inner more) e = cc

none_left : (ts : List TypedValue) → ts ≡ [] → is_empty (map defined_by ts) ≡ true
none_left ts e = ap (λ l. is_empty (map defined_by l)) e

module _ {O B A : Type 0} (d : Dialect (in_program O B) A) (place : StartingRegions by_handle) (c : Program O B) (op : Ptr Operation) (t : ProgramTree O B) (lists : HasLists c) (start : Start) (is_start : IsStartIn c start place) (edges : HasLocalEdgesFrom d.is_terminator c start)
    (by : Occurs c op t) where
  successors_of : (o : Found O B) → Has o (occurrences_of t) → successors_at c o.head.name ≡ o.head.successors
  successors_of o stands =
      let i = by.sound o stands in
      ap (λ x. unwrap_or (option_map (λ (v : OperationView O). v.successors) x) []) i.there ∙ sym (ap (λ (h : ProgramHead O B). h.successors) i.head)

  -- a block's region is an SSA region in the program where it is one in the tree
  ssa_in_tree : (x : FoundBlock O B) → Has x (block_occurrences_of t) → StandsInSsa d c x.label.name → d.is_ssa x.spot.owner.content x.spot.region ≡ true
  ssa_in_tree x has s =
      let i = (by.blocks_sound x has).spot in
      let region : i.region ≡ s.region = (lists.blocks_once x.label.name i.region s.region i.in_region.index s.in_region.index i.in_region.here s.in_region.here).0 in
      let here : slice_get (regions_in c s.owner) s.index ≡ Some s.region = ap (λ o. slice_get (unwrap_or (option_map (λ (v : OperationView O). v.regions) o) []) s.index) s.there ∙ s.here in
      let there : slice_get (regions_in c x.spot.owner.name) x.spot.region ≡ Some s.region = ap (λ o. slice_get (unwrap_or (option_map (λ (v : OperationView O). v.regions) o) []) x.spot.region) i.owner_there ∙ i.index ∙ ap Some region in
      let same = lists.regions_once s.region x.spot.owner.name s.owner x.spot.region s.index there here in
      let view : i.owner_view ≡ s.view = same_some (operation_at c s.owner) i.owner_view s.view (ap (operation_at c) (sym same.0) ∙ i.owner_there) s.there in
      let content : x.spot.owner.content ≡ s.view.payload = ap (λ (h : ProgramHead O B). h.content) i.owner ∙ ap (λ (v : OperationView O). v.payload) view in
      (λ k. d.is_ssa (content k) (same.1 k)) ∙ s.ssa

  ssa_in_program : (x : FoundBlock O B) → Has x (block_occurrences_of t) → d.is_ssa x.spot.owner.content x.spot.region ≡ true → StandsInSsa d c x.label.name
  ssa_in_program x has ssa =
      let i = (by.blocks_sound x has).spot in
      record {
        region = i.region;
        in_region = i.in_region;
        owner = x.spot.owner.name;
        view = i.owner_view;
        there = i.owner_there;
        index = x.spot.region;
        here = i.index;
        ssa = ap (λ (h : ProgramHead O B). d.is_ssa h.content x.spot.region) (sym i.owner) ∙ ssa;
      }

  -- a block that is visited in an SSA region and reached is entered
  entered_is : (x : FoundBlock O B) (f : Fate) → IsFate d place t x f → IsVisited d place t x.spot.owner.name x.spot.region → d.is_ssa x.spot.owner.content x.spot.region ≡ true → IsReached t x.label.name → f ≡ Entered
  entered_is x Entered is visited ssa reached = refl
  entered_is x Unreached is visited ssa reached = absurd (is.1 reached)
  entered_is x Unvisited is visited ssa reached = absurd (is.0 (visited, subst (IsEntered t x.spot x.label.name) (sym ssa) reached))

  -- the operation at a block's bare exit
  record HasExitIn (x : FoundBlock O B) (b : Ptr BasicBlock) : Type 0 where
    operation : Found O B
    found : Has operation (occurrences_of t)
    spot : operation.site.spot ≡ x.spot
    block : operation.site.label.name ≡ x.label.name
    bare : is_bare d operation.head operation.regions ≡ true
    leads : operation.head.successors ≡ b ∷ []

  exit_in : (x : FoundBlock O B) → Has x (block_occurrences_of t) → (p : Ptr Operation) (b : Ptr BasicBlock) → IsBareExit d c x.label.name p b → HasExitIn x b
  exit_in x has p b exit =
      let ops = operations_in c x.label.name in
      let here : slice_get ops (length (front ops)) ≡ Some p = ap (λ l. slice_get l (length (front ops))) exit.ends ∙ last_at (front ops) p in
      let f = by.operations x has (length (front ops)) p here in
      let i = by.sound f.operation f.found in
      let view : i.view ≡ exit.view = same_some (operation_at c p) i.view exit.view (ap (operation_at c) (sym f.named) ∙ i.there) exit.there in
      let branches : d.is_branch f.operation.head.content ≡ true = ap (λ (h : ProgramHead O B). d.is_branch h.content) i.head ∙ ap (λ (v : OperationView O). d.is_branch v.payload) view ∙ exit.branches in
      let results : is_empty f.operation.head.results ≡ true = ap (λ (h : ProgramHead O B). is_empty h.results) i.head ∙ none_left i.view.results (ap (λ (v : OperationView O). v.results) view ∙ exit.results) in
      let regions : is_end f.operation.regions ≡ true = ends_there c i.view.regions f.operation.regions i.regions (ap (λ (v : OperationView O). v.regions) view ∙ exit.regions) in
      record {
        operation = f.operation;
        found = f.found;
        spot = ap (λ s. s.spot) f.site;
        block = ap (λ s. s.label.name) f.site;
        bare = both (d.is_branch f.operation.head.content) (is_empty f.operation.head.results && is_end f.operation.regions) branches (both (is_empty f.operation.head.results) (is_end f.operation.regions) results regions);
        leads = ap (λ (h : ProgramHead O B). h.successors) i.head ∙ ap (λ (v : OperationView O). v.successors) view ∙ exit.successors;
      }

  -- of two operations that lead to a block to which one edge leads, both are one
  one_edge : (b : Ptr BasicBlock) (us : List (Use (Ptr BasicBlock))) → AreUsesIn (successors_at c) b us → length us ≡ 1 → (o q : Found O B) → Has o (occurrences_of t) → Has q (occurrences_of t) → Has b o.head.successors → Has b q.head.successors → o ≡ q
  one_edge b us uses one o q has_o has_q to_o to_q =
      let i = has_at o.head.successors b to_o in
      let j = has_at q.head.successors b to_q in
      let u = uses.all (record { user_op = o.head.name; index = i.0; def = b }) (ap (λ l. slice_get l i.0) (successors_of o has_o) ∙ i.1) refl in
      let v = uses.all (record { user_op = q.head.name; index = j.0; def = b }) (ap (λ l. slice_get l j.0) (successors_of q has_q) ∙ j.1) refl in
      by.one o q has_o has_q (ap (λ (w : Use (Ptr BasicBlock)). w.user_op) (one_element us one u.0 v.0 (record { user_op = o.head.name; index = i.0; def = b }) (record { user_op = q.head.name; index = j.0; def = b }) u.1 v.1))

  module _ (n : Numbers) (numbered : NumbersInside c op n) (fates : List Fate) (fates_len : length fates ≡ length n.blocks) (known : AreFates d place t n.blocks fates)
      (xs : List ChainBlock) (seen : AreChainBlocks d c n.blocks fates xs) (next : List (Option ℕ)) (joined : AreJoined xs next) where
    -- a block that is seen, with its number, its fate and where it is found
    record IsSeen (k : ℕ) (x : ChainBlock) : Type 0 where
      block : FoundBlock O B
      found : Has block (block_occurrences_of t)
      number : slice_get n.blocks k ≡ Some block.label.name
      fate : Fate
      is_fate : IsFate d place t block fate
      is : IsChainBlock d c n.blocks fate block.label.name x

    see : (k : ℕ) (x : ChainBlock) → slice_get xs k ≡ Some x → IsSeen k x
    see k x h =
        let l = below_length xs k x h in
        let b = element n.blocks k (omega (arith, l, seen.len)) in
        let f = element fates k (omega (arith, l, seen.len, fates_len)) in
        let y = by.blocks_found b.0 ((numbered.blocks b.0).0 (k, b.1)) in
        let number : slice_get n.blocks k ≡ Some y.0.label.name = b.1 ∙ ap Some (sym y.2) in
        record { block = y.0; found = y.1; number = number; fate = f.0; is_fate = known k f.0 y.0 f.1 y.1 number; is = seen.each k y.0.label.name f.0 x number f.1 h }

    joinable : (a b : ℕ) (j : IsJoinedTo xs a b) → Joinable d place t (see a j.from j.there).block.label.name (see b j.to j.target_there).block.label.name
    joinable a b j =
        let from = see a j.from j.there in
        let to = see b j.to j.target_there in
        let goes = (from.is.only b).0 j.only in
        let target : goes.target ≡ to.block.label.name = same_some (slice_get n.blocks b) goes.target to.block.label.name goes.target_is to.number in
        let entered : IsEnteredThere d place t from.block = subst (IsFate d place t from.block) goes.entered from.is_fate in
        let ssa = ssa_in_tree from.block from.found goes.ssa in
        let exit = exit_in from.block from.found goes.branch goes.target goes.exit in
        let leads : exit.operation.head.successors ≡ to.block.label.name ∷ [] = exit.leads ∙ ap (λ z. z ∷ []) target in
        let stands = (by.blocks_sound to.block to.found).spot in
        record {
          last = exit.operation;
          stands = exit.found;
          in_block = exit.block;
          visited = record {
            visited = subst (λ s. IsVisited d place t s.owner.name s.region) (sym exit.spot) entered.0;
            ssa = ap (λ s. d.is_ssa s.owner.content s.region) exit.spot ∙ ssa;
          };
          reached = subst (IsEntered t from.block.spot from.block.label.name) ssa entered.1;
          bare = exit.bare;
          leads = leads;
          target = to.block;
          target_stands = to.found;
          target_name = refl;
          not_entry = not_true to.block.spot.first (λ e. let f : true ≡ false = sym ((to.is.entry stands.region stands.in_region).1 (stands.first.0 e)) ∙ j.not_entry in cc);
          other = λ e. j.other (numbered.blocks_once a b to.block.label.name (from.number ∙ ap Some e) to.number);
          single = λ o has leads_to. one_edge to.block.label.name to.is.edges.0 to.is.edges.1 (to.is.edges.2 ∙ j.single) o exit.operation has exit.found leads_to (subst (Has to.block.label.name) (sym leads) (inl refl));
        }

    -- one edge leads to the second of joinable blocks
    edge_alone : (x y : Ptr BasicBlock) → Joinable d place t x y → (us : List (Use (Ptr BasicBlock))) → AreUsesIn (successors_at c) y us → length us ≡ 1
    edge_alone x y joins us uses =
        let name = joins.last.head.name in
        let row : successors_at c name ≡ y ∷ [] = successors_of joins.last joins.stands ∙ joins.leads in
        let exit = joinable_exit d place c op t lists start is_start edges by.sound x y joins in
        let here = uses.all (record { user_op = name; index = 0; def = y }) (ap (λ l. slice_get l 0) row) refl in
        length_one us (record { user_op = name; index = 0; def = y }) here.0 here.1 uses.once (λ i u h.
        let is = uses.sound i u h in
        let at : slice_get (successors_at c u.user_op) u.index ≡ Some y = is.0 ∙ ap Some is.1 in
        let user : u.user_op ≡ name = single_branch d place c op t lists start is_start edges by.sound by.found by.blocks_sound x y name joins exit u.user_op u.index at in
        let short = below_length (y ∷ []) u.index y (ap (λ l. slice_get l u.index) (sym row ∙ ap (successors_at c) (sym user)) ∙ at) in
        let index : u.index ≡ 0 = omega (arith, short) in
        λ k. record { user_op = user k; index = index k; def = is.1 k })

    numbers_of : (x y : Ptr BasicBlock) → Joinable d place t x y → (a : ℕ) × (b : ℕ) × (slice_get n.blocks a ≡ Some x) × (slice_get n.blocks b ≡ Some y) × (slice_get next a ≡ Some (Some b))
    numbers_of x y joins =
        let site = by.site joins.last joins.stands in
        let name : site.block.label.name ≡ x = ap (λ (l : ProgramLabel O B). l.name) site.label ∙ joins.in_block in
        let a = (numbered.blocks x).1 (subst (IsBlockBelow c op) name (by.blocks_sound site.block site.found).below) in
        let b = (numbered.blocks y).1 (subst (IsBlockBelow c op) joins.target_name (by.blocks_sound joins.target joins.target_stands).below) in
        let la = below_length n.blocks a.0 x a.1 in
        let lb = below_length n.blocks b.0 y b.1 in
        let xa = element xs a.0 (omega (arith, la, seen.len)) in
        let xb = element xs b.0 (omega (arith, lb, seen.len)) in
        let f = element fates a.0 (omega (arith, la, fates_len)) in
        let g = element fates b.0 (omega (arith, lb, fates_len)) in
        let from = seen.each a.0 x f.0 xa.0 a.1 f.1 xa.1 in
        let to = seen.each b.0 y g.0 xb.0 b.1 g.1 xb.1 in
        let visited : IsVisited d place t site.block.spot.owner.name site.block.spot.region = subst (λ s. IsVisited d place t s.owner.name s.region) (sym site.spot) joins.visited.visited in
        let ssa : d.is_ssa site.block.spot.owner.content site.block.spot.region ≡ true = ap (λ s. d.is_ssa s.owner.content s.region) site.spot ∙ joins.visited.ssa in
        let is_fate = known a.0 f.0 site.block f.1 site.found (a.1 ∙ ap Some (sym name)) in
        let entered = entered_is site.block f.0 is_fate visited ssa (subst (IsReached t) (sym name) joins.reached) in
        let stands = (by.blocks_sound joins.target joins.target_stands).spot in
        let in_region : StandsInRegion c y stands.region = subst (λ z. StandsInRegion c z stands.region) joins.target_name stands.in_region in
        let joined_to : IsJoinedTo xs a.0 b.0 = record {
          from = xa.0;
          there = xa.1;
          only = (from.only b.0).1 (record {
            entered = entered;
            ssa = subst (StandsInSsa d c) name (ssa_in_program site.block site.found ssa);
            branch = joins.last.head.name;
            target = y;
            exit = joinable_exit d place c op t lists start is_start edges by.sound x y joins;
            target_is = b.1;
          });
          to = xb.0;
          target_there = xb.1;
          not_entry = not_true xb.0.is_entry (λ e. let h : true ≡ false = sym (stands.first.1 ((to.entry stands.region in_region).0 e ∙ ap Some (sym joins.target_name))) ∙ joins.not_entry in cc);
          single = sym to.edges.2 ∙ edge_alone x y joins to.edges.0 to.edges.1;
          other = λ e. joins.other (same_some (slice_get n.blocks b.0) x y (ap (slice_get n.blocks) (sym e) ∙ a.1) b.1);
        } in
        (a.0, b.0, a.1, b.1, (joined.exact a.0 b.0).1 joined_to)

    pub leads_where_joinable : LeadsWhereJoinable d place t n.blocks next
    leads_where_joinable = record {
      len = joined.len ∙ seen.len;
      named = λ a b e.
          let j = (joined.exact a b).0 e in
          let from = see a j.from j.there in
          let to = see b j.to j.target_there in
          (from.block.label.name, to.block.label.name, from.number, to.number, joinable a b j);
      all = numbers_of;
    }
