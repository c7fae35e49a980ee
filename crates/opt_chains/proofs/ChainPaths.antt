-- What joinable blocks are in the program, and that each reached block is on the chain of a first.
use Rattle.std.proofs.Common.{◌≡◌, ◌≢◌, ◌⊎◌, inl, inr, ⊎_elim, ℕ, zero, suc, ◌<◌, true, false, List, [], ◌∷◌, length, Option, Some, None, option_map, unwrap_or, slice_get, refl, sym, ap, ◌∙◌, subst, arith}
use Rattle.ir_program.specs.Lists.{StandsInBlock, StandsInRegion, StandsInside}
use Rattle.ir_program.specs.Program.{Program, OperationView}
use Rattle.ir_program.specs.Rows.{successors_at}
use Rattle.ir_program.specs.declared.handles.IRNode.TheVariants.{Operation as OperationNode, BasicBlock as BlockNode}
use Rattle.ir_program.specs.declared.handles.Ptr.{Ptr}
use Rattle.ir_program.specs.declared.handles.Operation.{Operation}
use Rattle.ir_program.specs.declared.handles.BasicBlock.{BasicBlock}
use Rattle.ir_trees.proofs.Members.{Has, at_has}
use Rattle.ir_trees.specs.Searched.{AreDistinct}
use Rattle.ir_trees.specs.Stands.{by_handle, in_program, ProgramTree, ProgramHead}
use Rattle.opt_inside.proofs.Around.{HasLists}
use Rattle.opt_inside.specs.Occurring.{Found, EachFound, EachBlock, BlockNamesApart, IsBelowRoot, IsFound, IsOccurrence, IsBlockOccurrence}
use Rattle.opt_trees.specs.Dialect.{Dialect}
use Rattle.opt_trees.specs.Occurrences.{BlockOccurrence, occurrences_of}
use Rattle.opt_trees.specs.Simplify.{StartingRegions, Joinable, IsReached, entry, further}
use Rattle.opt_inside.specs.reach.Edges.{IsBlockUnder, HasLocalEdgesFrom}
use Rattle.opt_inside.specs.reach.Starts.{IsStartIn}
use Rattle.opt_inside.specs.declared.reach.starts.Start.{Start}
use Rattle.opt_inside.proofs.ReachLemmas.Under.{beside_under, entering_below}
use Rattle.opt_chains.specs.ChainSteps.{IsFirst, IsBehind, itself, later, AreLinks}
use Rattle.opt_chains.specs.Exits.{IsBareExit}
use Rattle.opt_chains.specs.Merging.{AreTogether}
use Rattle.opt_chains.proofs.ChainBare.{source_under, last_under}
use Rattle.opt_chains.proofs.MergeLists.{none_listed, same_some}

-- something leads to a number, or nothing does
leads_or_not : (next : List (Option ℕ)) (n : ℕ) → ((k : ℕ) × (slice_get next k ≡ Some (Some n))) ⊎ ((k : ℕ) → slice_get next k ≡ Some (Some n) → ⊥)
leads_or_not [] n = inr (λ k h. none_listed k (Some n) h)
leads_or_not (o ∷ next) n = ⊎_elim
    (λ (e : o ≡ Some n). inl (zero, ap Some e))
    (λ (ne : o ≢ Some n). ⊎_elim (λ r. inl (suc r.0, r.1)) (λ none. inr (λ k h. at_each ne none k h)) (leads_or_not next n))
    (is_it o)
  where
    same_number : (a b : ℕ) → (a ≡ b) ⊎ (a ≢ b)
    same_number zero zero = inl refl
    same_number zero (suc b) = inr (λ e. omega arith)
    same_number (suc a) zero = inr (λ e. omega arith)
    same_number (suc a) (suc b) = ⊎_elim (λ e. inl (ap suc e)) (λ ne. inr (λ e. ne (omega arith))) (same_number a b)

    is_it : (p : Option ℕ) → (p ≡ Some n) ⊎ (p ≢ Some n)
    is_it None = inr (λ e. cc)
    is_it (Some m) = ⊎_elim (λ e. inl (ap Some e)) (λ ne. inr (λ e. let q : m ≡ n = cc in ne q)) (same_number m n)

    at_each : o ≢ Some n → ((k : ℕ) → slice_get next k ≡ Some (Some n) → ⊥) → (k : ℕ) → slice_get (o ∷ next) k ≡ Some (Some n) → ⊥
    at_each ne none zero h = let s : Some o ≡ Some (Some n) = h in let q : o ≡ Some n = cc in ne q
    at_each ne none (suc k) h = none k h

module _ {O B A : Type 0} (d : Dialect (in_program O B) A) (place : StartingRegions by_handle) (c : Program O B) (op : Ptr Operation) (t : ProgramTree O B) (lists : HasLists c) (start : Start) (is_start : IsStartIn c start place) (edges : HasLocalEdgesFrom d.is_terminator c start)
    (sound : EachFound t (IsOccurrence c op)) (found : (p : Ptr Operation) → IsBelowRoot c op p → IsFound t p) (blocks : EachBlock t (IsBlockOccurrence c op)) where
  -- the successors of an operation that is found
  successors_of : (o : Found O B) → Has o (occurrences_of t) → successors_at c o.head.name ≡ o.head.successors
  successors_of o stands =
      let i = sound o stands in
      ap (λ x. unwrap_or (option_map (λ (v : OperationView O). v.successors) x) []) i.there ∙ sym (ap (λ (h : ProgramHead O B). h.successors) i.head)

  target_below : (x y : Ptr BasicBlock) → Joinable d place t x y → StandsInside c (OperationNode op) (BlockNode y)
  target_below x y joins = subst (λ b. StandsInside c (OperationNode op) (BlockNode b)) joins.target_name (blocks joins.target joins.target_stands).below

  -- joinable blocks are in one region
  pub joinable_together : (x y : Ptr BasicBlock) → Joinable d place t x y → AreTogether c x y
  joinable_together x y joins =
      let i = sound joins.last joins.stands in
      let leads : slice_get (successors_at c joins.last.head.name) 0 ≡ Some y = ap (λ l. slice_get l 0) (successors_of joins.last joins.stands ∙ joins.leads) in
      let here : StandsInRegion c x i.spot.region = subst (λ b. StandsInRegion c b i.spot.region) joins.in_block i.spot.in_region in
      (i.spot.region, here, edges.leaving joins.last.head.name y x i.spot.region (last_under d place c op t lists start is_start edges sound x y joins) (zero, leads) (subst (StandsInBlock c joins.last.head.name) joins.in_block i.in_block) here)

  target_under : (x y : Ptr BasicBlock) → Joinable d place t x y → IsBlockUnder c start y
  target_under x y joins =
      let h = joinable_together x y joins in
      beside_under c start lists x y h.0 h.1 h.2 (source_under d place c op t lists start is_start edges sound x y joins)

  -- what leads to the second of two joinable blocks is the last operation of the first
  only_last : (x y : Ptr BasicBlock) (joins : Joinable d place t x y) (q : Ptr Operation) (k : ℕ) → slice_get (successors_at c q) k ≡ Some y → q ≡ joins.last.head.name
  only_last x y joins q k h =
      let below = entering_below c start lists d.is_terminator edges op q y (k, h) (target_under x y joins) (target_below x y joins) in
      let f = found q below in
      let row : slice_get f.0.head.successors k ≡ Some y = ap (λ l. slice_get l k) (sym (successors_of f.0 f.1) ∙ ap (successors_at c) f.2) ∙ h in
      sym f.2 ∙ ap (λ (o : Found O B). o.head.name) (joins.single f.0 f.1 (at_has f.0.head.successors k y row))

  pub single_branch : (x y : Ptr BasicBlock) (p : Ptr Operation) → Joinable d place t x y → IsBareExit d c x p y → (q : Ptr Operation) (k : ℕ) → slice_get (successors_at c q) k ≡ Some y → q ≡ p
  single_branch x y p joins exit q k h =
      let row : slice_get (successors_at c p) 0 ≡ Some y = ap (λ l. slice_get l 0) (ap (λ o. unwrap_or (option_map (λ (v : OperationView O). v.successors) o) []) exit.there ∙ exit.successors) in
      only_last x y joins q k h ∙ sym (only_last x y joins p 0 row)

  -- a block is joinable to one other alone
  pub one_before : (x w y : Ptr BasicBlock) → Joinable d place t x y → Joinable d place t w y → x ≡ w
  one_before x w y a b =
      let row : Has y b.last.head.successors = subst (Has y) (sym b.leads) (inl refl) in
      let same = a.single b.last b.stands row in
      sym a.in_block ∙ ap (λ (o : Found O B). o.site.label.name) (sym same) ∙ b.in_block

  module _ (apart : BlockNamesApart t) (keys : List (Ptr BasicBlock)) (once : AreDistinct keys) (next : List (Option ℕ)) (len : length next ≡ length keys)
      (named : (n m : ℕ) → slice_get next n ≡ Some (Some m) → (x : Ptr BasicBlock) × (y : Ptr BasicBlock) × (slice_get keys n ≡ Some x) × (slice_get keys m ≡ Some y) × Joinable d place t x y) where
    in_length : {X : Type 0} (xs : List X) (k : ℕ) (x : X) → slice_get xs k ≡ Some x → k < length xs
    in_length [] k x h = absurd (none_listed k x h)
    in_length (y ∷ xs) zero x h = omega arith
    in_length (y ∷ xs) (suc k) x h = let l = in_length xs k x h in omega (arith, l)

    below_length : (n : ℕ) (x : Ptr BasicBlock) → slice_get keys n ≡ Some x → n < length next
    below_length n x e = subst (λ l. n < l) (sym len) (in_length keys n x e)

    pub links_named : AreLinks next
    links_named = record {
      within = λ n m e. let i = named n m e in below_length m i.1 i.3;
      apart = λ n m k e f.
          let a = named n k e in
          let b = named m k f in
          let y : b.1 ≡ a.1 = same_some (slice_get keys k) b.1 a.1 b.3 a.3 in
          let x : a.0 ≡ b.0 = one_before a.0 b.0 a.1 a.4 (subst (Joinable d place t b.0) y b.4) in
          once n m a.0 a.2 (b.2 ∙ ap Some (sym x));
    }

    -- each reached block is behind a first
    reached_from : (b : Ptr BasicBlock) → IsReached t b → (n : ℕ) → slice_get keys n ≡ Some b → (f : ℕ) × (f < length next) × IsFirst next f × IsBehind next f n
    reached_from _ (entry x stands first) n e = (n, below_length n x.label.name e, no_entry, itself) where
      no_entry : IsFirst next n
      no_entry a h =
          let i = named a n h in
          let y : i.1 ≡ x.label.name = same_some (slice_get keys n) i.1 x.label.name i.3 e in
          let same = apart i.4.target x i.4.target_stands stands (i.4.target_name ∙ y) in
          let f : true ≡ false = sym first ∙ ap (λ (z : BlockOccurrence by_handle (in_program O B)). z.spot.first) (sym same) ∙ i.4.not_entry in
          cc
    reached_from _ (further o b stands reached has) n e = ⊎_elim
        (λ (r : (k : ℕ) × (slice_get next k ≡ Some (Some n))).
        let i = named r.0 n r.1 in
        let y : i.1 ≡ b = same_some (slice_get keys n) i.1 b i.3 e in
        let same = i.4.single o stands (subst (λ z. Has z o.head.successors) (sym y) has) in
        let source : o.site.label.name ≡ i.0 = ap (λ (p : Found O B). p.site.label.name) same ∙ i.4.in_block in
        let f = reached_from o.site.label.name reached r.0 (i.2 ∙ ap Some (sym source)) in
        (f.0, f.1, f.2, later r.0 n f.3 r.1))
        (λ none. (n, below_length n b e, none, itself))
        (leads_or_not next n)

    pub from_first_named : (n m : ℕ) → slice_get next n ≡ Some (Some m) → (f : ℕ) × (f < length next) × IsFirst next f × IsBehind next f n
    from_first_named n m e = let i = named n m e in reached_from i.0 i.4.reached n i.2
