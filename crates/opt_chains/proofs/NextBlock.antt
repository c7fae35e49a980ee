-- What joining sees of one block: its number, its region, and where it goes on.
use Rattle.std.proofs.Common.{◌≡◌, ⊎_elim, ℕ, zero, suc, ◌+◌, Bool, true, false, List, [], ◌∷◌, ◌++◌, length, Option, Some, None, IsSome, option_map, unwrap_or, get_or, slice_get, refl, sym, ap, ◌∙◌, subst, add-one, arith}
use Rattle.std.specs.Prelude.{IsTrue, ◌↔◌, not, is_some}
use Rattle.std.specs.List.{position, list_any}
use Rattle.std.proofs.lemmas.Option.{slice_get-get_or, get_or_from_slice_get, slice_get_within}
use Rattle.std.proofs.lemmas.List.Folds.{list_any_at}
use Rattle.std.proofs.lemmas.List.Quantifiers.{position-Some}
use Rattle.ir_program.specs.Lent.{payload_at}
use Rattle.ir_program.specs.Lists.{StandsInRegion, StandsInOperation, IsUnlinkedBlock, blocks_in, regions_in}
use Rattle.ir_program.specs.Program.{Program, OperationView, operation_at}
use Rattle.ir_program.specs.declared.handles.Ptr.{Ptr}
use Rattle.ir_program.specs.declared.handles.Operation.{Operation}
use Rattle.ir_program.specs.declared.handles.Region.{Region}
use Rattle.ir_program.specs.declared.handles.BasicBlock.{BasicBlock}
use Rattle.ir_trees.specs.Searched.{AreDistinct}
use Rattle.ir_trees.specs.Stands.{in_program}
use Rattle.opt_rows.specs.declared.chains.ChainBlock.{ChainBlock}
use Rattle.opt_trees.specs.Dialect.{Dialect}
use Rattle.opt_inside.specs.declared.reach.fates.Fate.{Fate}
use Rattle.opt_chains.specs.NextBlocks.{StandsInSsa, IsChainBlock}
use Rattle.opt_chains.proofs.ChainNames.{at_more, below_length}
use Rattle.opt_chains.proofs.MergeLists.{something, same_some}

-- the number of a key is the first place of one that passes the test
pub number_is : {X : Type 0} (test : X → Bool) (keys : List X) (x : X) (o : Option ℕ) → AreDistinct keys → ((a : X) → test a ≡ true → x ≡ a) → test x ≡ true → o ≡ position test keys → is_some o ≡ list_any test keys
    → (n : ℕ) → (o ≡ Some n) ↔ (slice_get keys n ≡ Some x)
number_is {X} test keys x o once same own e f n = (λ h. at n h, λ h. by_case o refl h) where
  at : (i : ℕ) → o ≡ Some i → slice_get keys i ≡ Some x
  at i g = let h = position-Some test keys i x (sym e ∙ g) in slice_get-get_or keys i x h.0 ∙ ap Some (sym (same (get_or keys i x) h.1))

  by_case : (q : Option ℕ) → o ≡ q → slice_get keys n ≡ Some x → o ≡ Some n
  by_case (Some i) is h = is ∙ ap Some (once i n x (at i is) h)
  by_case None is h =
      let t = list_any_at test keys n x (slice_get_within keys n x h) (ap test (get_or_from_slice_get keys n x x h) ∙ own) in
      let g : false ≡ true = sym (ap is_some is) ∙ f ∙ t in
      cc

-- a block is the first of its region where none is before it
pub entry_is : {O B : Type 0} (c : Program O B) (b : Ptr BasicBlock) (before : Option (Ptr BasicBlock)) (none : Bool) → is_some before ≡ not none
    → ((r : Ptr Region) (k : ℕ) → slice_get (blocks_in c r) (k + 1) ≡ Some b → before ≡ slice_get (blocks_in c r) k) → ((r : Ptr Region) → slice_get (blocks_in c r) 0 ≡ Some b → before ≡ None)
    → (r : Ptr Region) → StandsInRegion c b r → IsTrue none ↔ (slice_get (blocks_in c r) 0 ≡ Some b)
entry_is c b before none is previous first r stands = (λ h. by_index stands.index stands.here h, λ h. must none (sym is ∙ ap is_some (first r h))) where
  must : (s : Bool) → not s ≡ false → s ≡ true
  must true e = refl
  must false e = let f : true ≡ false = e in cc

  by_index : (k : ℕ) → slice_get (blocks_in c r) k ≡ Some b → none ≡ true → slice_get (blocks_in c r) 0 ≡ Some b
  by_index zero here h = here
  by_index (suc k) here h =
      let l = below_length (blocks_in c r) (suc k) b here in
      let some = slice_get-get_or (blocks_in c r) k b (omega (arith, l)) in
      let p = previous r k (ap (slice_get (blocks_in c r)) (add-one k) ∙ here) in
      let g : true ≡ false = sym (ap is_some (p ∙ some)) ∙ is ∙ ap not h in
      cc

module _ {O B : Type 0} (c : Program O B) where
  payload_is : (p : Ptr Operation) (v : OperationView O) (o : O) → operation_at c p ≡ Some v → payload_at c p ≡ Some o → v.payload ≡ o
  payload_is p v o there h = let e : Some v.payload ≡ Some o = sym (ap (option_map (λ (x : OperationView O). x.payload)) there) ∙ h in cc

  regions_are : (p : Ptr Operation) (v : OperationView O) → operation_at c p ≡ Some v → regions_in c p ≡ v.regions
  regions_are p v there = ap (λ o. unwrap_or (option_map (λ (x : OperationView O). x.regions) o) []) there

module _ {O B A : Type 0} (d : Dialect (in_program O B) A) (c : Program O B) where
  pub ssa_is : (b : Ptr BasicBlock) (region : Ptr Region) (owner : Ptr Operation) (payload : O) (index : ℕ) (result : Bool)
      → StandsInRegion c b region → ((r : Ptr Region) → StandsInRegion c b r → Some region ≡ Some r)
      → StandsInOperation c region owner → ((p : Ptr Operation) → StandsInOperation c region p → owner ≡ p)
      → payload_at c owner ≡ Some payload → ((p : Ptr Operation) (k : ℕ) → slice_get (regions_in c p) k ≡ Some region → index ≡ k)
      → result ≡ d.is_ssa payload index → IsTrue result ↔ StandsInSsa d c b
  ssa_is b region owner payload index result in_region only stands owner_only held index_is is = (
    λ yes.
        let v = something (operation_at c owner) stands.operation in
        let same = index_is owner stands.index stands.here in
        record {
          region = region;
          in_region = in_region;
          owner = owner;
          view = v.0;
          there = v.1;
          index = stands.index;
          here = ap (λ rs. slice_get rs stands.index) (sym (regions_are c owner v.0 v.1)) ∙ stands.here;
          ssa = (λ i. d.is_ssa (payload_is c owner v.0 payload v.1 held i) (sym same i)) ∙ sym is ∙ yes;
        },
    λ s.
        let e : Some region ≡ Some s.region = only s.region s.in_region in
        let r : region ≡ s.region = cc in
        let here : slice_get (regions_in c s.owner) s.index ≡ Some region = ap (λ rs. slice_get rs s.index) (regions_are c s.owner s.view s.there) ∙ s.here ∙ ap Some (sym r) in
        let o : owner ≡ s.owner = owner_only s.owner (record { region = in_region.region; operation = subst IsSome (sym s.there) refl; index = s.index; here = here }) in
        let p = payload_is c s.owner s.view payload s.there (ap (payload_at c) (sym o) ∙ held) in
        is ∙ (λ i. d.is_ssa (sym p i) (index_is s.owner s.index here i)) ∙ s.ssa,
  )

  pub not_in_ssa : (b : Ptr BasicBlock) → IsUnlinkedBlock c b → IsTrue false ↔ StandsInSsa d c b
  not_in_ssa b unlinked = (λ no. let e : false ≡ true = no in cc, λ s. absurd (unlinked s.region s.in_region))

-- one block more is seen
pub one_seen : {O B A : Type 0} (d : Dialect (in_program O B) A) (c : Program O B) (keys : List (Ptr BasicBlock)) (fates : List Fate) (i : ℕ) (xs new : List ChainBlock) (b : Ptr BasicBlock) (f : Fate) (x : ChainBlock)
    → length xs ≡ i → ((k : ℕ) (a : Ptr BasicBlock) (g : Fate) (y : ChainBlock) → slice_get keys k ≡ Some a → slice_get fates k ≡ Some g → slice_get xs k ≡ Some y → IsChainBlock d c keys g a y)
    → slice_get keys i ≡ Some b → slice_get fates i ≡ Some f → IsChainBlock d c keys f b x → new ≡ xs ++ x ∷ []
    → (k : ℕ) (a : Ptr BasicBlock) (g : Fate) (y : ChainBlock) → slice_get keys k ≡ Some a → slice_get fates k ≡ Some g → slice_get new k ≡ Some y → IsChainBlock d c keys g a y
one_seen d c keys fates i xs new b f x len known key fate is grown k a g y at_key at_fate here = ⊎_elim
    (λ l. known k a g y at_key at_fate l)
    (λ r.
    let index : k ≡ i = r.1 ∙ len in
    let block : b ≡ a = same_some (slice_get keys k) b a (ap (slice_get keys) index ∙ key) at_key in
    let same : f ≡ g = same_some (slice_get fates k) f g (ap (slice_get fates) index ∙ fate) at_fate in
    subst (λ z. IsChainBlock d c keys g a z) (sym r.0) (subst (λ z. IsChainBlock d c keys g z x) block (subst (λ z. IsChainBlock d c keys z b x) same is)))
    (at_more xs x y k (ap (λ l. slice_get l k) (sym grown) ∙ here))
