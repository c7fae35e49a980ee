-- Where looking begins at a region without any of the blocks inside, none are joinable.
use Rattle.std.proofs.Common.{◌≡◌, ◌≢◌, ⊎_elim, ℕ, ◌+◌, ◌<◌, List, [], ◌∷◌, Some, option_map, unwrap_or, slice_get, refl, sym, ap, ◌∙◌, subst, arith}
use Rattle.ir_program.specs.Lists.{StandsInRegion, StandsInOperation, operations_in}
use Rattle.ir_program.specs.Program.{Program, OperationView, operation_at}
use Rattle.ir_program.specs.declared.handles.Ptr.{Ptr}
use Rattle.ir_program.specs.declared.handles.Operation.{Operation}
use Rattle.ir_program.specs.declared.handles.Region.{Region}
use Rattle.ir_program.specs.declared.handles.BasicBlock.{BasicBlock}
use Rattle.ir_trees.proofs.Members.{Has}
use Rattle.ir_trees.specs.Stands.{by_handle, in_program, ProgramTree}
use Rattle.opt_inside.specs.Numbered.{Numbers, NumbersInside}
use Rattle.opt_inside.specs.Occurring.{FoundBlock}
use Rattle.opt_trees.specs.Dialect.{Dialect}
use Rattle.opt_trees.specs.Occurrences.{block_occurrences_of}
use Rattle.opt_trees.specs.Simplify.{StartingRegions, OfOperations, OfRegion, BeginsAt, Joinable, IsVisited, of_place, of_inner}
use Rattle.opt_inside.specs.reach.Starts.{IsStartIn}
use Rattle.opt_inside.specs.declared.reach.starts.Start.{Start}
use Rattle.opt_inside.specs.declared.reach.starts.Start.TheVariants.{Operation as AtOperation, Block as AtBlock, Region as AtRegion}
use Rattle.opt_chains.specs.Chained.{AreChains, StartsSomewhere}
use Rattle.opt_chains.specs.NextBlocks.{HoldsOne, IsElsewhere}
use Rattle.opt_chains.specs.declared.merging.Join.{Join}
use Rattle.opt_chains.proofs.ChainRows.{same_number}
use Rattle.opt_chains.proofs.MergeLists.{none_listed, same_some, something}
use Rattle.opt_chains.proofs.NextJoinable.{Occurs}

-- it holds of none of those before an index
abbrev pub NoneBefore : {X : Type 0} → (X → Type 0) → List X → ℕ → Type 0
NoneBefore {X} P xs i = (k : ℕ) (x : X) → k < i → slice_get xs k ≡ Some x → P x → ⊥

pub none_more : {X : Type 0} (P : X → Type 0) (xs : List X) (i : ℕ) (x : X) → NoneBefore P xs i → slice_get xs i ≡ Some x → (P x → ⊥) → NoneBefore P xs (i + 1)
none_more P xs i x none here misses k y less at h = ⊎_elim
    (λ (e : k ≡ i). misses (subst P (same_some (slice_get xs i) y x (ap (slice_get xs) (sym e) ∙ at) here) h))
    (λ (ne : k ≢ i). none k y (omega (arith, less, ne)) at h)
    (same_number k i)

module _ {O B A : Type 0} (d : Dialect (in_program O B) A) (place : StartingRegions by_handle) (c : Program O B) (op : Ptr Operation) (t : ProgramTree O B) (by : Occurs c op t) (n : Numbers) (numbered : NumbersInside c op n) where
  module _ (r : Ptr Region) (none : HoldsOne c r n.blocks → ⊥) (q : Ptr Operation) (i : ℕ) (v : OperationView O) (there : operation_at c q ≡ Some v) (here : slice_get v.regions i ≡ Some r) (is : place ≡ OfRegion q i) where
    not_visited : (a : Ptr Operation) (k : ℕ) → IsVisited d place t a k → (x : FoundBlock O B) → Has x (block_occurrences_of t) → a ≡ x.spot.owner.name → k ≡ x.spot.region → ⊥
    not_visited _ _ (of_place a k begins) x has owner region =
        let at : (a ≡ q) × (k ≡ i) = subst (λ w. BeginsAt w a k) is begins in
        let o = by.blocks_sound x has in
        let view : o.spot.owner_view ≡ v = same_some (operation_at c q) o.spot.owner_view v (ap (operation_at c) (sym at.0 ∙ owner) ∙ o.spot.owner_there) there in
        let index : slice_get v.regions x.spot.region ≡ Some o.spot.region = ap (λ (w : OperationView O). slice_get w.regions x.spot.region) (sym view) ∙ o.spot.index in
        let same : o.spot.region ≡ r = same_some (slice_get v.regions i) o.spot.region r (ap (slice_get v.regions) (sym at.1 ∙ region) ∙ index) here in
        none (x.label.name, (numbered.blocks x.label.name).1 o.below, subst (StandsInRegion c x.label.name) same o.spot.in_region)
    not_visited _ _ (of_inner o k stands visited entered) x has owner region =
        let site = by.site o stands in
        not_visited o.site.spot.owner.name o.site.spot.region visited site.block site.found (ap (λ s. s.owner.name) (sym site.spot)) (ap (λ s. s.region) (sym site.spot))

  -- nothing is visited there, so none are joinable
  pub elsewhere_none : (start : Start) → IsElsewhere c start n.blocks → IsStartIn c start place → (a b : Ptr BasicBlock) → Joinable d place t a b → ⊥
  elsewhere_none (AtOperation p) else begins a b joins = else
  elsewhere_none (AtBlock x) else begins a b joins = else
  elsewhere_none (AtRegion r) else begins a b joins =
      let site = by.site joins.last joins.stands in
      not_visited r else begins.0 begins.1 begins.2 begins.3 begins.4 begins.5 joins.last.site.spot.owner.name joins.last.site.spot.region joins.visited.visited site.block site.found (ap (λ s. s.owner.name) (sym site.spot)) (ap (λ s. s.region) (sym site.spot))

-- where none are joinable no step joins all chains
pub no_chains : {O B A : Type 0} (d : Dialect (in_program O B) A) (place : StartingRegions by_handle) (c : Program O B) (t : ProgramTree O B) → ((a b : Ptr BasicBlock) → Joinable d place t a b → ⊥) → (js : List Join) → js ≡ [] → AreChains d place c t js
no_chains d place c t none js e = subst (AreChains d place c t) (sym e) (record {
  joins = λ k j h. absurd (none_listed k j h);
  sound = λ k j h. absurd (none_listed k j h);
  all = λ a b joins. absurd (none a b joins);
  ends = λ b x left joins. none b x joins;
})

module _ {O B : Type 0} (c : Program O B) where
  -- looking begins somewhere where it doesn't begin at a region, or at one of an operation
  pub begins_there : (start : Start) → ((r : Ptr Region) → start ≡ AtRegion r → ⊥) → StartsSomewhere c start
  begins_there (AtOperation p) other = (OfOperations (p ∷ []), refl)
  begins_there (AtBlock b) other = (OfOperations (operations_in c b), refl)
  begins_there (AtRegion r) other = absurd (other r refl)

  pub begins_in : (r : Ptr Region) (q : Ptr Operation) → StandsInOperation c r q → StartsSomewhere c (AtRegion r)
  begins_in r q s =
      let v = something (operation_at c q) s.operation in
      (OfRegion q s.index, (q, s.index, v.0, v.1, ap (λ o. slice_get (unwrap_or (option_map (λ (x : OperationView O). x.regions) o) []) s.index) (sym v.1) ∙ s.here, refl))
