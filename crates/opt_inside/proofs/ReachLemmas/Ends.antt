-- From numbers and fates to the blocks that are unreached.
use Rattle.std.proofs.Common.{◌≡◌, ◌⊎◌, inl, inr, ⊎_elim, ℕ, zero, suc, ◌+◌, ◌<◌, Bool, true, List, [], ◌∷◌, ◌++◌, length, Some, slice_get, refl, sym, ap, ◌∙◌, subst, arith}
use Rattle.std.specs.Prelude.{◌↔◌, Contains}
use Rattle.std.specs.declared.vec.Vec.{Vec}
use Rattle.std.specs.declared.alloc.Global.{Global}
use Rattle.std.proofs.lemmas.Option.{none-some, same_Some, slice_get_within}
use Rattle.std.specs.Result.{IfOk}
use Rattle.std.specs.declared.result.Result.{Result}
use Rattle.std.specs.declared.result.Result.TheVariants.{Ok, Err}
use Rattle.std.specs.declared.alloc.AllocError.{AllocError}
use Rattle.digraph.specs.Graph.{successors, Reaches, InRange}
use Rattle.digraph.specs.Marks.{IsMarked}
use Rattle.ir_program.specs.Program.{Program}
use Rattle.ir_program.specs.Lists.{IsLinkedBlock, StandsInRegion, StandsInside, itself, in_block, in_region, in_operation}
use Rattle.ir_program.specs.Replacing.{same_block}
use Rattle.ir_program.specs.declared.handles.IRNode.{IRNode}
use Rattle.ir_program.specs.declared.handles.IRNode.TheVariants.{Operation as OperationNode, BasicBlock as BlockNode}
use Rattle.ir_program.specs.declared.handles.Ptr.{Ptr}
use Rattle.ir_program.specs.declared.handles.Operation.{Operation}
use Rattle.ir_program.specs.declared.handles.BasicBlock.{BasicBlock}
use Rattle.ir_trees.specs.Searched.{Lists}
use Rattle.ir_trees.specs.Stands.{by_handle, in_program, ProgramTree, StandsFor}
use Rattle.opt_trees.specs.Dialect.{Dialect}
use Rattle.opt_trees.specs.Simplify.{StartingRegions, IsReached, IsUnreached}
use Rattle.opt_inside.specs.Numbered.{Numbers, NumbersInside}
use Rattle.opt_inside.specs.Occurring.{IsBlockBelow}
use Rattle.opt_inside.proofs.Around.{HasLists}
use Rattle.opt_inside.specs.reach.Edges.{IsBlockUnder, HasLocalEdgesFrom}
use Rattle.opt_inside.specs.reach.Fates.{IsJudgedFate, IsLeftOut, IsFate, AreFates}
use Rattle.opt_inside.specs.reach.Paths.{number_in, exits_of, IsPathGraph}
use Rattle.opt_inside.specs.reach.Starts.{IsStartIn}
use Rattle.opt_inside.specs.declared.reach.fates.Fate.{Fate}
use Rattle.opt_inside.specs.declared.reach.fates.Fate.TheVariants.{Unreached}
use Rattle.opt_inside.specs.declared.reach.starts.Start.{Start}
use Rattle.opt_inside.proofs.ReachLemmas.Lists.{get_last}
use Rattle.opt_inside.proofs.ReachLemmas.Marks.{earlier}
use Rattle.opt_inside.proofs.ReachLemmas.Members.{made_of, contains_lists}
use Rattle.opt_inside.proofs.ReachLemmas.Places.{place_within}
use Rattle.opt_inside.proofs.ReachLemmas.Occurs.{Occurs}
use Rattle.opt_inside.proofs.ReachLemmas.PathGraph.{reached_exactly}
use Rattle.opt_inside.proofs.ReachLemmas.Judged.{within, fate_there, left_out_fate}

module _ {O B A : Type 0} (d : Dialect (in_program O B) A) (place : StartingRegions by_handle) (c : Program O B) (lists : HasLists c) (op : Ptr Operation) (n : Numbers) (numbered : NumbersInside c op n) (t : ProgramTree O B) (occurs : Occurs c op t) where
  -- one block more
  pub fates_more : (start : Start) → IsStartIn c start place → (fates fates' : List Fate) (b : Ptr BasicBlock) (reach : Bool) (f : Fate) → slice_get n.blocks (length fates) ≡ Some b → (IsBlockUnder c start b → (reach ≡ true) ↔ IsReached t b) → IsJudgedFate d c start n.blocks fates b reach f
      → fates' ≡ fates ++ f ∷ [] → AreFates d place t n.blocks fates → AreFates d place t n.blocks fates'
  fates_more start is_start fates fates' b reach f here reached judged e known k g x at has named = ⊎_elim
      (λ (h : slice_get fates k ≡ Some g). known k g x h has named)
      (λ (h : (k ≡ length fates) × (g ≡ f)).
      let name : b ≡ x.label.name = same_Some b x.label.name (sym here ∙ ap (slice_get n.blocks) (sym h.0) ∙ named) in
      subst (IsFate d place t x) (sym h.1) (fate_there d place c lists op n numbered t occurs start is_start fates known k (sym h.0) x has named reach
      (subst (λ a. IsBlockUnder c start a → (reach ≡ true) ↔ IsReached t a) name reached) f (subst (λ a. IsJudgedFate d c start n.blocks fates a reach f) name judged)))
      (get_last fates f k g (ap (λ fs. slice_get fs k) (sym e) ∙ at))

  pub unreached_are : (fates : List Fate) → length fates ≡ length n.blocks → AreFates d place t n.blocks fates → (row : List (Ptr BasicBlock)) → ((b : Ptr BasicBlock) → Lists row b ↔ ((k : ℕ) × (slice_get n.blocks k ≡ Some b) × (slice_get fates k ≡ Some Unreached)))
      → (b : Ptr BasicBlock) → Lists row b ↔ IsUnreached d place t b
  unreached_are fates len known row listed b = (
    λ l.
        let k = (listed b).0 l in
        let x = occurs.blocks_found b ((numbered.blocks b).0 (k.0, k.1)) in
        let h : IsLeftOut d place t x.0 = known k.0 Unreached x.0 k.2 x.1 (k.1 ∙ ap Some (sym x.2)) in
        record { it = x.0; stands = x.1; name = x.2; visited = h.0; unreached = λ r. h.1 (subst (IsReached t) (sym x.2) r) },
    λ u.
        let below : IsBlockBelow c op b = subst (IsBlockBelow c op) u.name (occurs.blocks_sound u.it u.stands).below in
        let k = (numbered.blocks b).1 below in
        let short = slice_get_within n.blocks k.0 b k.1 in
        let f = within fates k.0 (omega (arith, short, len)) in
        let is : IsFate d place t u.it f.0 = known k.0 f.0 u.it f.1 u.stands (k.1 ∙ ap Some (sym u.name)) in
        (listed b).1 (k.0, k.1, f.1 ∙ ap Some (left_out_fate d place c lists op n numbered t occurs u.it f.0 is (u.visited, λ r. u.unreached (subst (IsReached t) u.name r)))),
  )

module _ {O B : Type 0} (c : Program O B) (lists : HasLists c) (op : Ptr Operation) (n : Numbers) (numbered : NumbersInside c op n) where
  -- a block inside an operation stands in a region
  pub numbered_linked : (b : Ptr BasicBlock) → Lists n.blocks b → IsLinkedBlock c b
  numbered_linked b l = linked (BlockNode b) ((numbered.blocks b).0 l) refl where
    linked : (e : IRNode) → StandsInside c (OperationNode op) e → e ≡ BlockNode b → IsLinkedBlock c b
    linked _ itself same = cc
    linked _ (in_block p a s i) same = cc
    linked _ (in_operation r p s i) same = cc
    linked _ (in_region a r s i) same = let e : a ≡ b = cc in (r, subst (λ x. StandsInRegion c x r) e s)

  at_or_past : (rows : List (Vec ℕ Global)) (a : ℕ) → (a < length rows) ⊎ (successors rows a ≡ [])
  at_or_past [] a = inr refl
  at_or_past (r ∷ rows) zero = inl (omega arith)
  at_or_past (r ∷ rows) (suc a) = ⊎_elim (λ l. inl (omega (arith, l))) (λ e. inr e) (at_or_past rows a)

  pub edges_in_range : (rows : List (Vec ℕ Global)) → IsPathGraph c n.blocks rows → InRange rows
  edges_in_range rows graph a b h = ⊎_elim
      (λ (l : a < length rows). ⊎_elim
      (λ (k : a < length n.blocks).
      let x = within n.blocks a k in
      let m = made_of (number_in n.blocks) (exits_of c x.0) (successors rows a) b (graph.blocks a x.0 x.1) h in
      let short = place_within same_block n.blocks m.0 in
      let e = m.2 in
      let all = graph.len in
      omega (arith, short, e, all))
      (λ (k : a ≡ length n.blocks).
      let x = (graph.entries b).0 (subst (λ i. Contains (successors rows i) b) k h) in
      let short = slice_get_within n.blocks b x.0 x.1 in
      let all = graph.len in
      omega (arith, short, all))
      (earlier a (length n.blocks) (let all = graph.len in omega (arith, l, all))))
      (λ e. absurd (none-some b (contains_lists [] b (subst (λ r. Contains r b) e h)).1))
      (at_or_past rows a)

pub one_longer : {X : Type 0} (xs : List X) (x : X) → length (xs ++ x ∷ []) ≡ length xs + 1
one_longer [] x = refl
one_longer (y ∷ xs) x = let h = one_longer xs x in omega (arith, h)

module _ {O B : Type 0} (c : Program O B) (lists : HasLists c) (op : Ptr Operation) (is_terminator : O → Bool) (n : Numbers) (numbered : NumbersInside c op n) where
  pub marks_are : ((t : ProgramTree O B) → StandsFor c op t → Occurs c op t) → (rows : List (Vec ℕ Global)) → IsPathGraph c n.blocks rows → (graph : List (Vec ℕ Global)) → graph ≡ rows → (entry : ℕ) → entry ≡ length n.blocks
      → (found : Result (Vec Bool Global) AllocError) → IfOk found (λ marks. (k : ℕ) → IsMarked marks.items k ↔ Reaches (successors graph) entry k)
      → IfOk found (λ marks. (start : Start) → HasLocalEdgesFrom is_terminator c start → (t : ProgramTree O B) → StandsFor c op t → (k : ℕ) (b : Ptr BasicBlock) → slice_get n.blocks k ≡ Some b → IsBlockUnder c start b
      → IsMarked marks.items k ↔ IsReached t b)
  marks_are occurs rows is graph same entry at (Err e) h = h
  marks_are occurs rows is graph same entry at (Ok marks) h = λ start edges t stands k b here under.
      let path = reached_exactly c lists op n numbered t (occurs t stands) rows is start is_terminator edges k b here under in
      let mark : IsMarked marks.items k ↔ Reaches (successors rows) (length n.blocks) k = subst (λ i. IsMarked marks.items k ↔ Reaches (successors rows) i k) at (subst (λ g. IsMarked marks.items k ↔ Reaches (successors g) entry k) same (h k)) in
      (λ m. path.0 (mark.0 m), λ r. mark.1 (path.1 r))

pub if_ok : {X E : Type 0} (found : Result X E) (P Q : X → Type 0) → IfOk found P → ((x : X) → P x → Q x) → IfOk found Q
if_ok (Err e) P Q h f = h
if_ok (Ok x) P Q h f = f x h
