-- What tests of edges tell of the rule on them.
use Rattle.std.proofs.Common.{◌≡◌, ◌≢◌, ◌↔◌, ℕ, zero, suc, ◌+◌, ◌-◌, ◌≤◌, Bool, true, false, List, [], ◌∷◌, map, take, drop, length, min, get_or, Option, Some, None, IsTrue, slice_get, refl, sym, ap, ◌∙◌, subst, arith, add-one, true≢false}
use Rattle.std.proofs.lemmas.List.{length-drop, take_min, drop_min}
use Rattle.std.proofs.Math.Nat.{min-le_right}
use Rattle.ir_program.specs.Lists.{StandsInBlock, StandsInRegion, blocks_in}
use Rattle.ir_program.specs.Program.{Program, TypedValue, arguments_at}
use Rattle.ir_program.specs.Rows.{operands_at, successors_at}
use Rattle.ir_program.specs.declared.handles.Ptr.{Ptr}
use Rattle.ir_program.specs.declared.handles.Operation.{Operation}
use Rattle.ir_program.specs.declared.handles.Region.{Region}
use Rattle.ir_program.specs.declared.handles.BasicBlock.{BasicBlock}
use Rattle.ir_trees.specs.Stands.{ProgramTree, StandsFor}
use Rattle.opt_inside.proofs.Around.{HasLists}
use Rattle.kit_ops.specs.declared.kinds.KitOp.{KitOp}
use Rattle.kit_ops.specs.declared.kinds.KitOp.TheVariants as ops
use Rattle.kit_checks.specs.Handing.{IsBeside, IsAmongBlocks, EdgesStay, FitTargets, EdgesHandOn, segment_of}
use Rattle.kit_checks.specs.Located.{IsAroundIf, IsSiteOf}
use Rattle.kit_checks.specs.Rules.{EdgesFit}
use Rattle.kit_checks.specs.Sites.{Around, Body, Site, block_list}
use Rattle.kit_checks.specs.Words.{Every, HaveTypes, along_edge, is_branch, kind_of, segment, segment_sizes, sizes_or_none, types_of}
use Rattle.kit_checks.specs.World.{World}
use Rattle.kit_checks.proofs.Down.{block_listed}
use Rattle.kit_checks.proofs.Owners.{at_root}
use Rattle.kit_checks.proofs.Trees.{argument_types, operands_are, successors_are}
use Rattle.kit_checks.proofs.Upward.{block_tree}

-- where an edge leads: the block and the region that an operation is in are what the calls answer
module _ {O B : Type 0} (c : Program O B) (op : Ptr Operation) (block : Ptr BasicBlock) (o : Option (Ptr BasicBlock)) (only : (b : Ptr BasicBlock) → StandsInBlock c op b → o ≡ Some b) where
  pub in_no_block : o ≡ None → IsBeside c op block → ⊥
  in_no_block none h = let e : None ≡ Some h.own = sym none ∙ only h.own h.in_own in cc

  pub region_is : (own : Ptr BasicBlock) → o ≡ Some own → (r : Option (Ptr Region)) → ((x : Ptr Region) → StandsInRegion c own x → r ≡ Some x) → (h : IsBeside c op block) → r ≡ Some h.region
  region_is own is r only_r h = only_r h.region (let e : Some h.own ≡ Some own = sym (only h.own h.in_own) ∙ is in let same : h.own ≡ own = cc in subst (λ b. StandsInRegion c b h.region) same h.in_region)

module _ {O B : Type 0} (c : Program O B) (lists : HasLists c) (root op : Ptr Operation) (s : Site O B) (at : IsSiteOf c root op s) where
  module _ (target : Ptr BasicBlock) where
    among_if : (o : Option (Around O B)) → s.around ≡ o → IsAroundIf c root op o → op ≢ root → IsBeside c op target → IsAmongBlocks s target
    among_if None here it other h = absurd (other it)
    among_if (Some a) here it other h =
        let own : h.own ≡ it.block = (lists.operations_once op h.own it.block h.in_own.index it.in_block.index h.in_own.here it.in_block.here).0 in
        let in_own : StandsInRegion c it.block h.region = subst (λ b. StandsInRegion c b h.region) own h.in_region in
        let region : h.region ≡ it.region = (lists.blocks_once it.block h.region it.region in_own.index it.in_region.index in_own.here it.in_region.here).0 in
        let beside : StandsInRegion c target it.region = subst (StandsInRegion c target) region h.beside in
        let body = block_tree c (blocks_in c it.region) a.blocks it.blocks beside.index target beside.here in
        (a, here, body.0, (beside.index, body.1), ap (λ l. l.name) body.2.label)

    beside_if : (o : Option (Around O B)) → s.around ≡ o → IsAroundIf c root op o → IsAmongBlocks s target → IsBeside c op target
    beside_if None here it h = let e : None ≡ Some h.0 = sym here ∙ h.1 in cc
    beside_if (Some a) here it h =
        let e : Some h.0 ≡ Some a = sym h.1 ∙ here in
        let same : h.0 ≡ a = cc in
        let at_k : slice_get (block_list a.blocks) h.3.0 ≡ Some h.2 = subst (λ (x : Around O B). slice_get (block_list x.blocks) h.3.0 ≡ Some h.2) same h.3.1 in
        let listed = block_listed c (blocks_in c it.region) a.blocks it.blocks h.3.0 h.2 at_k in
        record {
          own = it.block;
          region = it.region;
          in_own = it.in_block;
          in_region = it.in_region;
          beside = subst (λ b. StandsInRegion c b it.region) h.4 (lists.blocks it.region h.3.0 h.2.label.name listed.0);
        }

  pub stay_inside : (r : Bool) → op ≢ root → IsTrue r ↔ Every (IsBeside c op) (successors_at c op) → IsTrue r ↔ EdgesStay s
  stay_inside r other tells =
      let are = successors_are c op s.op at.tree in (
        λ h k b here. among_if b s.around refl at.around other (tells.0 h k b (subst (λ l. slice_get l k ≡ Some b) are here)),
        λ h. tells.1 (λ k b here. beside_if b s.around refl at.around (h k b (subst (λ l. slice_get l k ≡ Some b) (sym are) here))),
      )

  none_of : {X : Type 0} (xs : List X) → length xs ≡ 0 → xs ≡ []
  none_of [] h = refl
  none_of (x ∷ xs) h = absurd (omega arith)

  no_edge : (xs : List (Ptr BasicBlock)) → Every (IsAmongBlocks s) xs → s.around ≡ None → length xs ≡ 0
  no_edge [] h none = refl
  no_edge (x ∷ xs) h none = let m = h 0 x refl in let e : None ≡ Some m.0 = sym none ∙ m.1 in cc

  pub stay_at_root : (r : Bool) → op ≡ root → IsTrue r ↔ (length (successors_at c op) ≡ 0) → IsTrue r ↔ EdgesStay s
  stay_at_root r same tells =
      let are = successors_are c op s.op at.tree in (
        λ h k b here. let e : slice_get {X = Ptr BasicBlock} [] k ≡ Some b = subst (λ l. slice_get l k ≡ Some b) (are ∙ none_of (successors_at c op) (tells.0 h)) here in cc,
        λ h. tells.1 (sym (ap length are) ∙ no_edge s.op.head.successors h (at_root c root op same s.around at.around)),
      )

-- both parts of the rule
module _ {O B : Type 0} (c : Program O B) (root op : Ptr Operation) (s : Site O B) (at : IsSiteOf c root op s) where
  module _ (w : World O B) where
    arguments_of : (o : Option (Around O B)) → s.around ≡ o → IsAroundIf c root op o → (a : Around O B) → s.around ≡ Some a → (k : ℕ) (body : Body O B) → slice_get (block_list a.blocks) k ≡ Some body →
        types_of body.label.arguments ≡ map (λ (t : TypedValue). t.ty) (arguments_at c body.label.name)
    arguments_of None here it a is k body there = let e : None ≡ Some a = sym here ∙ is in cc
    arguments_of (Some d) here it a is k body there =
        let e : Some a ≡ Some d = sym is ∙ here in
        let same : a ≡ d = cc in
        let listed = block_listed c (blocks_in c it.region) d.blocks it.blocks k body (subst (λ (x : Around O B). slice_get (block_list x.blocks) k ≡ Some body) same there) in
        argument_types c body.label.name body listed.1

    pub edges_both : EdgesStay s → EdgesHandOn w c s.op → EdgesFit w s
    edges_both stay hand edge target here =
        let m = stay edge target here in
        let types : types_of m.2.label.arguments ≡ map (λ (t : TypedValue). t.ty) (arguments_at c target) =
        arguments_of s.around refl at.around m.0 m.1 m.3.0 m.2 m.3.1 ∙ ap (λ b. map (λ (t : TypedValue). t.ty) (arguments_at c b)) m.4 in (
          m.0,
          m.1,
          record {
            body = m.2;
            here = m.3;
            named = m.4;
            operands = λ branch. subst (HaveTypes w (along_edge (kind_of w s.op) (sizes_or_none (segment_sizes w s.op)) s.op.head.operands edge)) (sym types) (hand branch edge target here);
          },
        )

    pub edges_stay : EdgesFit w s → EdgesStay s
    edges_stay fit edge target here = let m = fit edge target here in (m.0, m.1, m.2.body, m.2.here, m.2.named)

    pub edges_hand_on : EdgesFit w s → EdgesHandOn w c s.op
    edges_hand_on fit branch edge target here =
        let m = fit edge target here in
        let types : types_of m.2.body.label.arguments ≡ map (λ (t : TypedValue). t.ty) (arguments_at c target) =
        arguments_of s.around refl at.around m.0 m.1 m.2.here.0 m.2.body m.2.here.1 ∙ ap (λ b. map (λ (t : TypedValue). t.ty) (arguments_at c b)) m.2.named in
        subst (HaveTypes w (along_edge (kind_of w s.op) (sizes_or_none (segment_sizes w s.op)) s.op.head.operands edge)) types (m.2.operands branch)

-- what is handed on, by the kind of the operation
module _ {O B : Type 0} (w : World O B) (c : Program O B) (op : Ptr Operation) (u : ProgramTree O B) (s : StandsFor c op u) where
  -- as a branch of this kind would hand it on
  abbrev HandsOnAs : KitOp → Type 0
  HandsOnAs k = is_branch k ≡ true → FitTargets w c u.head.successors (along_edge k (sizes_or_none (segment_sizes w u)) u.head.operands)

  pub hand_on_all : (r : Bool) → kind_of w u ≡ ops.Br → IsTrue r ↔ FitTargets w c (successors_at c op) (λ edge. operands_at c op) → IsTrue r ↔ EdgesHandOn w c u
  hand_on_all r kind tells =
      let targets = successors_are c op u s in
      let values = operands_are c op u s in
      subst (λ k. IsTrue r ↔ HandsOnAs k) (sym kind)
      (subst (λ l. IsTrue r ↔ (true ≡ true → FitTargets w c l (λ edge. u.head.operands))) (sym targets)
      (subst (λ l. IsTrue r ↔ (true ≡ true → FitTargets w c (successors_at c op) (λ edge. l))) (sym values)
      (λ h e. tells.0 h, λ h. tells.1 (h refl))))

  pub hand_on_segments : (r : Bool) (sizes : List ℕ) → kind_of w u ≡ ops.CondBr → sizes_or_none (segment_sizes w u) ≡ sizes →
      IsTrue r ↔ FitTargets w c (successors_at c op) (segment_of (operands_at c op) sizes) → IsTrue r ↔ EdgesHandOn w c u
  hand_on_segments r sizes kind are tells =
      let targets = successors_are c op u s in
      let values = operands_are c op u s in
      subst (λ k. IsTrue r ↔ HandsOnAs k) (sym kind)
      (subst (λ z. IsTrue r ↔ (true ≡ true → FitTargets w c u.head.successors (segment_of u.head.operands z))) (sym are)
      (subst (λ l. IsTrue r ↔ (true ≡ true → FitTargets w c l (segment_of u.head.operands sizes))) (sym targets)
      (subst (λ l. IsTrue r ↔ (true ≡ true → FitTargets w c (successors_at c op) (segment_of l sizes))) (sym values)
      (λ h e. tells.0 h, λ h. tells.1 (h refl)))))

  pub not_branch : (k : KitOp) → (k ≡ ops.Br → ⊥) → (k ≡ ops.CondBr → ⊥) → is_branch k ≡ false
  not_branch ops.Br a b = absurd (a refl)
  not_branch ops.CondBr a b = absurd (b refl)
  not_branch _ a b = refl

  pub hand_on_nothing : is_branch (kind_of w u) ≡ false → IsTrue true ↔ EdgesHandOn w c u
  hand_on_nothing other = (λ h branch. absurd (true≢false (sym branch ∙ other)), λ h. refl)

-- ---- segments

module _ {X : Type 0} where
  -- what is behind the first segments
  abbrev pub behind : List X → List ℕ → ℕ → List X
  behind xs sizes zero = xs
  behind xs [] (suc i) = xs
  behind xs (n ∷ sizes) (suc i) = behind (drop n xs) sizes i

  pub segment_is : (xs : List X) (sizes : List ℕ) (i : ℕ) → segment xs sizes i ≡ take (get_or sizes i 0) (behind xs sizes i)
  segment_is xs [] zero = refl
  segment_is xs [] (suc i) = refl
  segment_is xs (n ∷ sizes) zero = refl
  segment_is xs (n ∷ sizes) (suc i) = segment_is (drop n xs) sizes i

  pub behind_more : (xs : List X) (sizes : List ℕ) (i : ℕ) → behind xs sizes (suc i) ≡ drop (get_or sizes i 0) (behind xs sizes i)
  behind_more xs [] zero = refl
  behind_more xs [] (suc i) = refl
  behind_more xs (n ∷ sizes) zero = refl
  behind_more xs (n ∷ sizes) (suc i) = behind_more (drop n xs) sizes i

  drop_drop : (xs : List X) (m n : ℕ) → drop n (drop m xs) ≡ drop (m + n) xs
  drop_drop xs zero n = let z : n ≡ 0 + n = omega arith in ap (λ j. drop j xs) z
  drop_drop [] (suc m) zero = let z : suc m ≡ suc m + 0 = omega arith in ap (λ j. drop {A = X} j []) z
  drop_drop [] (suc m) (suc n) = let z : suc (m + suc n) ≡ suc m + suc n = omega arith in ap (λ j. drop {A = X} j []) z
  drop_drop (x ∷ xs) (suc m) n = let z : suc (m + n) ≡ suc m + n = omega arith in drop_drop xs m n ∙ ap (λ j. drop j (x ∷ xs)) z

  -- the next segment begins at this index
  pub record IsBehind (xs : List X) (sizes : List ℕ) (edge first : ℕ) : Type 0 where
    pub within : first ≤ length xs
    pub rest : drop first xs ≡ behind xs sizes (suc edge)

  pub behind_first : (xs : List X) (sizes : List ℕ) (first : ℕ) → first ≡ min (get_or sizes 0 0) (length xs) → IsBehind xs sizes 0 first
  behind_first xs sizes first is = record { within = subst (λ n. n ≤ length xs) (sym is) (min-le_right (get_or sizes 0 0) (length xs)); rest = ap (λ n. drop n xs) is ∙ drop_min (get_or sizes 0 0) xs ∙ sym (behind_more xs sizes 0) }

  module _ (xs : List X) (sizes : List ℕ) (edge first count : ℕ) (is : count ≡ min (get_or sizes (edge + 1) 0) (length xs - first)) (h : IsBehind xs sizes edge first) where
    size_of : count ≡ min (get_or sizes (suc edge) 0) (length (drop first xs))
    size_of = is ∙ (λ i. min (get_or sizes (add-one edge i) 0) (sym (length-drop first xs) i))

    pub behind_within : first + count ≤ length xs
    behind_within = let w = h.within in let n : count ≤ length xs - first = subst (λ n. n ≤ length xs - first) (sym is) (min-le_right (get_or sizes (edge + 1) 0) (length xs - first)) in omega arith

    pub run_is : take count (drop first xs) ≡ segment_of xs sizes edge
    run_is = ap (λ n. take n (drop first xs)) size_of ∙ take_min (get_or sizes (suc edge) 0) (drop first xs) ∙ ap (take (get_or sizes (suc edge) 0)) h.rest ∙ sym (segment_is xs sizes (suc edge))

    pub behind_next : IsBehind xs sizes (edge + 1) (first + count)
    behind_next = record {
      within = behind_within;
      rest = sym (drop_drop xs first count) ∙ ap (λ n. drop n (drop first xs)) size_of ∙ drop_min (get_or sizes (suc edge) 0) (drop first xs)
          ∙ ap (drop (get_or sizes (suc edge) 0)) h.rest ∙ sym (behind_more xs sizes (suc edge)) ∙ ap (λ e. behind xs sizes (suc e)) (sym (add-one edge));
    }
