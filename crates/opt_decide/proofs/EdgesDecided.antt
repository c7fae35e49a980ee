-- Edges below the root before and after decisions are carried out.
use Rattle.std.proofs.Common.{◌≡◌, ◌<◌, ⊎_elim, ℕ, zero, suc, ◌+◌, true, List, [], ◌∷◌, map, length, Option, Some, None, IsSome, option_map, unwrap_or, slice_get, refl, sym, ap, ◌∙◌, subst, arith}
use Rattle.std.proofs.lemmas.List.{length-map}
use Rattle.std.proofs.lemmas.Option.{slice_get_cases}
use Rattle.ir_program.specs.Lists.{operations_in, StandsInBlock, StandsInRegion}
use Rattle.ir_program.specs.Program.{Program, OperationView, BlockView, operation_at, block_at, arguments_at}
use Rattle.ir_program.specs.Rows.{successors_at}
use Rattle.ir_program.specs.declared.handles.IRNode.TheVariants.{BasicBlock as BlockNode}
use Rattle.ir_program.specs.declared.handles.Ptr.{Ptr}
use Rattle.ir_program.specs.declared.handles.Operation.{Operation}
use Rattle.ir_program.specs.declared.handles.Region.{Region}
use Rattle.ir_program.specs.declared.handles.BasicBlock.{BasicBlock}
use Rattle.ir_trees.specs.Searched.{Lists}
use Rattle.ir_trees.specs.Stands.{in_program}
use Rattle.opt_trees.specs.Dialect.{Dialect, Lawful, indices_from}
use Rattle.opt_trees.specs.Occurrences.{cons_if, picks}
use Rattle.opt_inside.specs.Edges.{HasLocalEdgesBelow, FitsEdgesBelow}
use Rattle.opt_inside.specs.Occurring.{IsBelowRoot, IsBlockBelow}
use Rattle.opt_inside.proofs.Around.{HasLists}
use Rattle.opt_decide.specs.Phase.{HasDecided}
use Rattle.opt_decide.specs.Planned.{AreDecisions}
use Rattle.opt_decide.specs.Replaced.{along}
use Rattle.opt_decide.specs.declared.plan.Decision.{Decision}
use Rattle.opt_decide.proofs.Carried.{among_or_not}
use Rattle.opt_decide.proofs.DecisionLists.{below_there}
use Rattle.opt_decide.proofs.Folded.{same_some, something}
use Rattle.opt_decide.proofs.InsideDecided.{operations_now, region_now, region_was, block_was, below_now, below_was, inside_was}
use Rattle.opt_decide.proofs.NamesDecided.{now_at, IsKept, IsBranched, apart}

only_one : {X : Type 0} (o : Option X) (k : ℕ) (x : X) → slice_get (cons_if o []) k ≡ Some x → (k ≡ 0) × (o ≡ Some x)
only_one None k x h = cc
only_one (Some y) zero x h = (refl, h)
only_one (Some y) (suc k) x h = cc

indices_count : (n : ℕ) (xs : List ℕ) → length (indices_from n xs) ≡ length xs
indices_count n [] = refl
indices_count n (x ∷ xs) = ap suc (indices_count (suc n) xs)

-- of indices within a list each picks one
picks_count : {X : Type 0} (xs : List X) (is : List ℕ) → ((k i : ℕ) → slice_get is k ≡ Some i → i < length xs) → length (picks xs is) ≡ length is
picks_count xs [] within = refl
picks_count {X} xs (i ∷ is) within = ⊎_elim
    (λ w. ap (λ o. length (cons_if o (picks xs is))) w.2 ∙ ap suc (picks_count xs is (λ k j h. within (suc k) j h)))
    (λ w. let less = within zero i refl in let past = w.0 in absurd (omega (arith, less, past)))
    (slice_get_cases xs i).1

module _ {O B A : Type 0} (d : Dialect (in_program O B) A) (law : Lawful d) (old new : Program O B) (op : Ptr Operation) (ds : List Decision) (are : AreDecisions d old op ds) (has : HasDecided d old new ds) (lists : HasLists old) (root : IsSome (operation_at old op)) where
  successors_of : (c : Program O B) (p : Ptr Operation) (v : OperationView O) → operation_at c p ≡ Some v → successors_at c p ≡ v.successors
  successors_of c p v e = ap (λ o. unwrap_or (option_map (λ (z : OperationView O). z.successors) o) []) e

  -- an operation names no block that it didn't
  successors_was : (p : Ptr Operation) (s : Ptr BasicBlock) → IsSome (operation_at old p) → Lists (successors_at new (has.names p)) s → Lists (successors_at old p) s
  successors_was p s live l =
      let v = something (operation_at old p) live in
      let was = successors_of old p v.0 v.1 in
      ⊎_elim
      (λ (k : IsKept d old new op ds are has p v.0). (l.0, ap (λ xs. slice_get xs l.0) (was ∙ sym (successors_of new (has.names p) v.0 k.there)) ∙ l.1))
      (λ (b : IsBranched d old new op ds are has p v.0).
      let one = only_one (slice_get v.0.successors b.edge) l.0 s (ap (λ xs. slice_get xs l.0) (sym (successors_of new (has.names p) (along d v.0 b.edge b.payload) b.made)) ∙ l.1) in
      (b.edge, ap (λ xs. slice_get xs b.edge) was ∙ one.1))
      (now_at d old new op ds are has p v.0 v.1)

  arguments_same : (b : Ptr BasicBlock) → arguments_at new b ≡ arguments_at old b
  arguments_same b = ap (λ o. unwrap_or (option_map (λ (v : BlockView B). v.arguments) o) []) (has.blocks b) ∙ of_block (block_at old b)
    where
      of_block : (o : Option (BlockView B)) → unwrap_or (option_map (λ (v : BlockView B). v.arguments) (option_map (λ (l : BlockView B). record l { operations = map has.names l.operations }) o)) []
          ≡ unwrap_or (option_map (λ (v : BlockView B). v.arguments) o) []
      of_block None = refl
      of_block (Some l) = refl

  -- the operation that stands there now is one that stood there
  was_here : (p : Ptr Operation) (b : Ptr BasicBlock) (k : ℕ) → IsSome (operation_at old p) → slice_get (operations_in new b) k ≡ Some (has.names p) → slice_get (operations_in old b) k ≡ Some p
  was_here p b k live at =
      let w = block_was d old new op ds are has lists root (has.names p) b k at in
      let s = lists.operations b k w.0 w.2 in
      w.2 ∙ ap Some (apart d old new op ds are has w.0 p s.operation live w.1)

  module _ (local : HasLocalEdgesBelow d.is_terminator old op) where
    leaves : (p : Ptr Operation) → IsBelowRoot old op p → (s b : Ptr BasicBlock) (r : Ptr Region) → Lists (successors_at new (has.names p)) s → StandsInBlock new (has.names p) b → StandsInRegion new b r → StandsInRegion new s r
    leaves p low s b r l in_b in_r =
        let live = below_there old op p low in
        let stood = lists.operations b in_b.index p (was_here p b in_b.index live in_b.here) in
        region_now d old new op ds are has lists root s r (local.leaving p s b r low (successors_was p s live l) stood (region_was d old new op ds are has lists root b r in_r))

    ends : (p : Ptr Operation) → IsBelowRoot old op p → (s b : Ptr BasicBlock) (k : ℕ) → Lists (successors_at new (has.names p)) s → slice_get (operations_in new b) k ≡ Some (has.names p) → k + 1 ≡ length (operations_in new b)
    ends p low s b k l at =
        let live = below_there old op p low in
        local.last p s b k low (successors_was p s live l) (was_here p b k live at)
        ∙ sym (length-map (operations_in old b) has.names) ∙ ap length (sym (operations_now d old new op ds are has lists root b))

    terminates : (p : Ptr Operation) → IsBelowRoot old op p → (s : Ptr BasicBlock) (u : OperationView O) → Lists (successors_at new (has.names p)) s → operation_at new (has.names p) ≡ Some u → d.is_terminator u.payload ≡ true
    terminates p low s u l there =
        let live = below_there old op p low in
        let v = something (operation_at old p) live in
        ⊎_elim
        (λ (k : IsKept d old new op ds are has p v.0).
        ap (λ (w : OperationView O). d.is_terminator w.payload) (same_some u v.0 (sym there ∙ k.there)) ∙ local.terminators p s v.0 low (successors_was p s live l) v.1)
        (λ (b : IsBranched d old new op ds are has p v.0).
        ap (λ (w : OperationView O). d.is_terminator w.payload) (same_some u (along d v.0 b.edge b.payload) (sym there ∙ b.made)) ∙ law.branch_ends b.payload (law.plain_is b.payload b.plain).1)
        (now_at d old new op ds are has p v.0 v.1)

    listed_view : (q : Ptr Operation) (s : Ptr BasicBlock) → Lists (successors_at new q) s → (u : OperationView O) × (operation_at new q ≡ Some u)
    listed_view q s l = by_view (operation_at new q) refl where
      by_view : (o : Option (OperationView O)) → operation_at new q ≡ o → (u : OperationView O) × (operation_at new q ≡ Some u)
      by_view None e = let n : None ≡ Some s = ap (λ o. slice_get (unwrap_or (option_map (λ (z : OperationView O). z.successors) o) []) l.0) (sym e) ∙ l.1 in cc
      by_view (Some u) e = (u, e)

    enters : (q : Ptr Operation) (s : Ptr BasicBlock) → Lists (successors_at new q) s → IsBlockBelow new op s → IsBelowRoot new op q
    enters q s l below =
        let u = listed_view q s l in
        ⊎_elim
        (λ (was : operation_at old q ≡ Some u.0). ⊎_elim
        (λ h. let n : Some u.0 ≡ None = sym u.1 ∙ ap (operation_at new) (sym h.2) ∙ (has.done h.0 h.1).gone.0 in cc)
        (λ none.
        let l_old : Lists (successors_at old q) s = (l.0, ap (λ xs. slice_get xs l.0) (successors_of old q u.0 was ∙ sym (successors_of new q u.0 u.1)) ∙ l.1) in
        let low = local.entering q s l_old (inside_was d old new op ds are has lists root (BlockNode s) below) in
        subst (IsBelowRoot new op) (has.same q none) (below_now d old new op ds are has lists root q low))
        (among_or_not ds q))
        (λ x. subst (IsBelowRoot new op) x.2 (below_now d old new op ds are has lists root x.0.op (are.below x.0 x.1)))
        (has.came q u.0 u.1)

    pub local_still : HasLocalEdgesBelow d.is_terminator new op
    local_still = record {
      leaving = λ q s b r below l in_b in_r.
          let w = below_was d old new op ds are has lists root q below in
          leaves w.0 w.2 s b r (subst (λ z. Lists (successors_at new z) s) (sym w.1) l) (subst (λ z. StandsInBlock new z b) (sym w.1) in_b) in_r;
      entering = enters;
      last = λ q s b k below l at.
          let w = below_was d old new op ds are has lists root q below in
          ends w.0 w.2 s b k (subst (λ z. Lists (successors_at new z) s) (sym w.1) l) (at ∙ ap Some (sym w.1));
      terminators = λ q s u below l there.
          let w = below_was d old new op ds are has lists root q below in
          terminates w.0 w.2 s u (subst (λ z. Lists (successors_at new z) s) (sym w.1) l) (ap (operation_at new) w.1 ∙ there);
    }

  module _ (fits : FitsEdgesBelow d old op) where
    -- the new branch forwards all that it takes along its one edge
    branch_fits : (p : Ptr Operation) (v : OperationView O) → IsBelowRoot old op p → operation_at old p ≡ Some v → (b : IsBranched d old new op ds are has p v) (i : ℕ) (s : Ptr BasicBlock)
        → slice_get (along d v b.edge b.payload).successors i ≡ Some s → length (d.forwards b.payload (length (along d v b.edge b.payload).operands) i) ≡ length (arguments_at new s)
    branch_fits p v low there b i s at =
        let one = only_one (slice_get v.successors b.edge) i s at in
        let picked = (along d v b.edge b.payload).operands in
        let zeros : List ℕ = map (λ x. 0) picked in
        let count : length zeros ≡ length picked = length-map picked (λ x. 0) in
        (λ j. length (d.forwards b.payload (sym count j) (one.0 j)))
        ∙ ap length (law.plain_forwards b.payload zeros b.plain)
        ∙ indices_count 0 zeros ∙ count
        ∙ picks_count v.operands (d.forwards v.payload (length v.operands) b.edge) (λ k j h. law.forwards_within v.payload (length v.operands) b.edge k j h)
        ∙ fits p v b.edge s low there b.branches one.1
        ∙ ap length (sym (arguments_same s))

    fits_at : (p : Ptr Operation) → IsBelowRoot old op p → (u : OperationView O) (i : ℕ) (s : Ptr BasicBlock) → operation_at new (has.names p) ≡ Some u → d.is_branch u.payload ≡ true → slice_get u.successors i ≡ Some s
        → length (d.forwards u.payload (length u.operands) i) ≡ length (arguments_at new s)
    fits_at p low u i s there branch at =
        let v = something (operation_at old p) (below_there old op p low) in
        ⊎_elim
        (λ (k : IsKept d old new op ds are has p v.0).
        let e : v.0 ≡ u = same_some v.0 u (sym k.there ∙ there) in
        fits p u i s low (v.1 ∙ ap Some e) branch at ∙ ap length (sym (arguments_same s)))
        (λ (b : IsBranched d old new op ds are has p v.0).
        let e : along d v.0 b.edge b.payload ≡ u = same_some (along d v.0 b.edge b.payload) u (sym b.made ∙ there) in
        subst (λ (w : OperationView O). slice_get w.successors i ≡ Some s → length (d.forwards w.payload (length w.operands) i) ≡ length (arguments_at new s)) e
        (branch_fits p v.0 low v.1 b i s) at)
        (now_at d old new op ds are has p v.0 v.1)

    pub fits_still : FitsEdgesBelow d new op
    fits_still q u i s below there branch at =
        let w = below_was d old new op ds are has lists root q below in
        fits_at w.0 w.2 u i s (ap (operation_at new) w.1 ∙ there) branch at
