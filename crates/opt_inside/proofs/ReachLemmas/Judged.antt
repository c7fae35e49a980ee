-- What becomes of a block follows from where it stands.
use Rattle.std.proofs.Common.{◌≡◌, inl, inr, ⊎_elim, ℕ, ◌<◌, Bool, true, false, zero, suc, List, [], ◌∷◌, length, Option, None, Some, slice_get, option_map, unwrap_or, refl, sym, ap, ◌∙◌, subst, arith}
use Rattle.std.specs.Prelude.{◌↔◌}
use Rattle.std.proofs.lemmas.Option.{none-some, same_Some, slice_get-map}
use Rattle.ir_program.specs.Program.{Program, OperationView, operation_at}
use Rattle.ir_program.specs.Lists.{StandsInBlock, blocks_in, regions_in}
use Rattle.ir_program.specs.declared.handles.Ptr.{Ptr}
use Rattle.ir_program.specs.declared.handles.Operation.{Operation}
use Rattle.ir_program.specs.declared.handles.Region.{Region}
use Rattle.ir_program.specs.declared.handles.BasicBlock.{BasicBlock}
use Rattle.ir_trees.specs.Trees.{Head, Label}
use Rattle.ir_trees.specs.Stands.{by_handle, in_program, ProgramTree}
use Rattle.opt_trees.specs.Dialect.{Dialect}
use Rattle.opt_trees.specs.Occurrences.{Has, Spot, occurrences_of, block_occurrences_of}
use Rattle.opt_trees.specs.Simplify.{StartingRegions, IsReached, IsVisited, of_place, of_inner, IsEntered}
use Rattle.opt_inside.specs.Numbered.{Numbers, NumbersInside}
use Rattle.opt_inside.specs.Occurring.{Found, FoundBlock}
use Rattle.opt_inside.proofs.Around.{HasLists}
use Rattle.opt_inside.specs.reach.Edges.{IsBlockUnder}
use Rattle.opt_inside.specs.reach.Fates.{IsEnteredThere, IsLeftOut, IsFate, AreFates, HasVisit, fate, IsJudgedFate}
use Rattle.opt_inside.specs.reach.Starts.{IsStartIn, BeginsAtRegion}
use Rattle.opt_inside.specs.declared.reach.fates.Fate.{Fate}
use Rattle.opt_inside.specs.declared.reach.fates.Fate.TheVariants.{Entered, Unreached, Unvisited}
use Rattle.opt_inside.specs.declared.reach.starts.Start.{Start}
use Rattle.opt_inside.proofs.ReachLemmas.Begins.{begins_exactly}
use Rattle.opt_inside.proofs.ReachLemmas.Members.{lists_has}
use Rattle.opt_inside.proofs.ReachLemmas.Occurs.{Occurs, below_block, site_is, not_the_root, spot_region, spot_owner}
use Rattle.opt_inside.proofs.ReachLemmas.Order.{block_name, comes_before}
use Rattle.opt_inside.proofs.ReachLemmas.Under.{spot_under}

-- what stands at an index within a list
pub within : {X : Type 0} (xs : List X) (j : ℕ) → j < length xs → (x : X) × (slice_get xs j ≡ Some x)
within [] j l = absurd (omega (arith, l))
within (x ∷ xs) zero l = (x, refl)
within (x ∷ xs) (suc j) l = within xs j (omega (arith, l))

module _ {O B A : Type 0} (d : Dialect (in_program O B) A) (place : StartingRegions by_handle) (c : Program O B) (lists : HasLists c) (op : Ptr Operation) (n : Numbers) (numbered : NumbersInside c op n) (t : ProgramTree O B) (occurs : Occurs c op t) where
  -- the block of this number is found at this place
  found_at : (k : ℕ) (x : FoundBlock O B) → Has x (block_occurrences_of t) → slice_get n.blocks k ≡ Some x.label.name → slice_get (block_occurrences_of t) k ≡ Some x
  found_at k x has h = at (slice_get (block_occurrences_of t) k) refl where
    named : option_map block_name (slice_get (block_occurrences_of t) k) ≡ Some x.label.name
    named = sym (slice_get-map block_name (block_occurrences_of t) k) ∙ ap (λ bs. slice_get bs k) (sym (numbered.in_preorder t occurs.stands).blocks) ∙ h

    at : (o : Option (FoundBlock O B)) → slice_get (block_occurrences_of t) k ≡ o → o ≡ Some x
    at None e = absurd (none-some x.label.name (sym (ap (option_map block_name) e) ∙ named))
    at (Some y) e = ap Some (occurs.blocks_one y x (lists_has (block_occurrences_of t) y k e) has (same_Some y.label.name x.label.name (sym (ap (option_map block_name) e) ∙ named)))

  -- what holds of a block where a spot says so, holds where the spot of the block does
  entered_spot : (y : FoundBlock O B) (l : Label by_handle (in_program O B)) (s : Spot by_handle (in_program O B)) → y.label ≡ l → y.spot ≡ s → IsEnteredThere d place t y
      → IsVisited d place t s.owner.name s.region × IsEntered t s l.name (d.is_ssa s.owner.content s.region)
  entered_spot y l s a b h =
      subst (λ (m : Label by_handle (in_program O B)). IsVisited d place t s.owner.name s.region × IsEntered t s m.name (d.is_ssa s.owner.content s.region)) a
      (subst (λ (r : Spot by_handle (in_program O B)). IsVisited d place t r.owner.name r.region × IsEntered t r y.label.name (d.is_ssa r.owner.content r.region)) b h)

  pub spot_entered : (y : FoundBlock O B) (l : Label by_handle (in_program O B)) (s : Spot by_handle (in_program O B)) → y.label ≡ l → y.spot ≡ s
      → IsVisited d place t s.owner.name s.region → IsEntered t s l.name (d.is_ssa s.owner.content s.region) → IsEnteredThere d place t y
  spot_entered y l s a b v e =
      subst (λ (r : Spot by_handle (in_program O B)). IsVisited d place t r.owner.name r.region × IsEntered t r y.label.name (d.is_ssa r.owner.content r.region)) (sym b)
      (subst (λ (m : Label by_handle (in_program O B)). IsVisited d place t s.owner.name s.region × IsEntered t s m.name (d.is_ssa s.owner.content s.region)) (sym a) (v, e))

  -- a block isn't both
  pub not_both : (x : FoundBlock O B) → IsEnteredThere d place t x → IsLeftOut d place t x → ⊥
  not_both x e l = l.1 (subst (λ b. IsEntered t x.spot x.label.name b) l.0.ssa e.1)

  -- the fate of a block that is entered
  entered_fate : (x : FoundBlock O B) (f : Fate) → IsFate d place t x f → IsEnteredThere d place t x → f ≡ Entered
  entered_fate x Entered h e = refl
  entered_fate x Unreached h e = absurd (not_both x e h)
  entered_fate x Unvisited h e = absurd (h.0 e)

  pub left_out_fate : (x : FoundBlock O B) (f : Fate) → IsFate d place t x f → IsLeftOut d place t x → f ≡ Unreached
  left_out_fate x Entered h e = absurd (not_both x h e)
  left_out_fate x Unreached h e = refl
  left_out_fate x Unvisited h e = absurd (h.1 e)

  module _ (start : Start) (is_start : IsStartIn c start place) (fates : List Fate) (known : AreFates d place t n.blocks fates) where
    -- the region of an operation that has a visit is visited
    run_visited : (q : Ptr Operation) (i : ℕ) (r : Ptr Region) → slice_get (regions_in c q) i ≡ Some r → HasVisit c start n.blocks fates q r → IsVisited d place t q i
    run_visited q i r here run = ⊎_elim
        (λ (b : BeginsAtRegion c start q r). of_place q i ((begins_exactly c lists start place is_start q i r here).1 b))
        (λ (h : (b : Ptr BasicBlock) × StandsInBlock c q b × (j : ℕ) × (slice_get n.blocks j ≡ Some b) × (slice_get fates j ≡ Some Entered)).
        let below = (numbered.blocks h.0).0 (h.2, h.3) in
        let o = occurs.found q (below_block c lists op q h.0 h.1 below) in
        let site = occurs.site o.0 o.1 in
        let at = site_is c lists op t occurs o.0 o.1 h.0 (subst (λ p. StandsInBlock c p h.0) (sym o.2) h.1) in
        let name : site.block.label.name ≡ h.0 = ap (λ (l : Label by_handle (in_program O B)). l.name) site.label ∙ at in
        let entered = known h.2 Entered site.block h.4 site.found (h.3 ∙ ap Some (sym name)) in
        let there = entered_spot site.block o.0.site.label o.0.site.spot site.label site.spot entered in
        subst (λ p. IsVisited d place t p i) o.2 (of_inner o.0 i o.1 there.0 there.1))
        run

    -- the operation whose region has a block, where looking doesn't begin there, has its block before that one
    module _ (k : ℕ) (len : length fates ≡ k) (x : FoundBlock O B) (has : Has x (block_occurrences_of t)) (here : slice_get n.blocks k ≡ Some x.label.name) where
      visited_run : (q : Ptr Operation) (i : ℕ) → IsVisited d place t q i → (r : Ptr Region) → slice_get (regions_in c q) i ≡ Some r → x.spot.owner.name ≡ q → HasVisit c start n.blocks fates q r
      visited_run _ _ (of_place q i b) r at e = inl ((begins_exactly c lists start place is_start q i r at).0 b)
      visited_run _ _ (of_inner o i o_has visited entered) r at e = ⊎_elim
          (λ (top : (x.spot.owner ≡ t.head) × (x.spot.around ≡ []) × (x.spot.within ≡ [])). absurd (not_the_root c lists op t occurs o o_has (sym e ∙ ap (λ (g : Head by_handle (in_program O B)). g.name) top.0)))
          (λ (up : (p : Found O B) × Has p (occurrences_of t) × (x.spot.owner ≡ p.head) × (x.spot.around ≡ p.head.name ∷ p.site.spot.around) × (x.spot.within ≡ p.site.label.name ∷ p.site.spot.within)).
          let same : up.0 ≡ o = occurs.one up.0 o up.1 o_has (sym (ap (λ (g : Head by_handle (in_program O B)). g.name) up.2) ∙ e) in
          let around : Has o.site.label.name x.spot.within = subst (Has o.site.label.name) (sym (up.4 ∙ ap (λ (p : Found O B). p.site.label.name ∷ p.site.spot.within) same)) (inl refl) in
          let j = comes_before t k x (found_at k x has here) o.site.label.name around in
          let number : slice_get n.blocks j.0 ≡ Some o.site.label.name = ap (λ bs. slice_get bs j.0) (numbered.in_preorder t occurs.stands).blocks ∙ j.2 in
          inr (o.site.label.name, (occurs.sound o o_has).in_block, j.0, number, entered_there j.0 (let l = j.1 in omega (arith, l, len)) number))
          (occurs.nested x has)
        where
          entered_there : (j : ℕ) → j < length fates → slice_get n.blocks j ≡ Some o.site.label.name → slice_get fates j ≡ Some Entered
          entered_there j l number =
              let site = occurs.site o o_has in
              let f = within fates j l in
              let is = known j f.0 site.block f.1 site.found (number ∙ ap (λ (m : Label by_handle (in_program O B)). Some m.name) (sym site.label)) in
              f.1 ∙ ap Some (entered_fate site.block f.0 is (spot_entered site.block o.site.label o.site.spot site.label site.spot visited entered))

      module _ (reach : Bool) (reached : IsBlockUnder c start x.label.name → (reach ≡ true) ↔ IsReached t x.label.name) (f : Fate) (judged : IsJudgedFate d c start n.blocks fates x.label.name reach f) where
        owner_here : slice_get (regions_in c judged.owner) judged.index ≡ Some judged.region
        owner_here = ap (λ o. slice_get (unwrap_or (option_map (λ (v : OperationView O). v.regions) o) []) judged.index) judged.there ∙ judged.here

        owner : (x.spot.owner.name ≡ judged.owner) × (x.spot.region ≡ judged.index)
        owner = spot_owner c lists op t occurs x has judged.region judged.in_region judged.owner judged.index owner_here

        ssa : d.is_ssa judged.view.payload judged.index ≡ d.is_ssa x.spot.owner.content x.spot.region
        ssa =
            let p = (occurs.blocks_sound x has).spot in
            let view : p.owner_view ≡ judged.view = same_Some p.owner_view judged.view (sym p.owner_there ∙ ap (operation_at c) owner.0 ∙ judged.there) in
            let content : x.spot.owner.content ≡ judged.view.payload = ap (λ (g : Head by_handle (in_program O B)). g.content) p.owner ∙ ap (λ (v : OperationView O). v.payload) view in
            sym (λ i. d.is_ssa (content i) (owner.1 i))

        visits : (judged.visited ≡ true) ↔ IsVisited d place t x.spot.owner.name x.spot.region
        visits = (
          λ e. subst (λ q. IsVisited d place t q x.spot.region) (sym owner.0)
              (subst (IsVisited d place t judged.owner) (sym owner.1) (run_visited judged.owner judged.index judged.region owner_here (judged.visit.0 e))),
          λ v. judged.visit.1 (visited_run judged.owner judged.index
              (subst (IsVisited d place t judged.owner) owner.1 (subst (λ q. IsVisited d place t q x.spot.region) owner.0 v)) judged.region owner_here owner.0),
        )

        first : (judged.first ≡ true) ↔ (x.spot.first ≡ true)
        first =
            let p = (occurs.blocks_sound x has).spot in
            let r = spot_region c lists op t occurs x has judged.region judged.in_region in (
              λ e. p.first.1 (ap (λ q. slice_get (blocks_in c q) 0) r ∙ judged.entry.0 e),
              λ e. judged.entry.1 (ap (λ q. slice_get (blocks_in c q) 0) (sym r) ∙ p.first.0 e),
            )

        -- what is visited is under the place
        reach_there : judged.visited ≡ true → (reach ≡ true) ↔ IsReached t x.label.name
        reach_there e = reached (spot_under d place c lists start is_start op t occurs.sound x.label.name x.spot (occurs.blocks_sound x has).spot (visits.0 e))

        by_table : (r s e g : Bool) → judged.visited ≡ r → d.is_ssa x.spot.owner.content x.spot.region ≡ s → reach ≡ e → judged.first ≡ g → IsFate d place t x (fate r s e g)
        by_table false s e g a b h k = (λ v. no (visits.1 v.0), λ l. no (visits.1 l.0.visited)) where
          no : judged.visited ≡ true → ⊥
          no y = let w : true ≡ false = sym y ∙ a in cc
        by_table true true true g a b h k = (visits.0 a, subst (IsEntered t x.spot x.label.name) (sym b) ((reach_there a).0 h))
        by_table true true false g a b h k = (record { visited = visits.0 a; ssa = b }, λ y. let w : true ≡ false = sym ((reach_there a).1 y) ∙ h in cc)
        by_table true false e true a b h k = (visits.0 a, subst (IsEntered t x.spot x.label.name) (sym b) (first.0 k))
        by_table true false e false a b h k = (
          λ v. let y : judged.first ≡ true = first.1 (subst (IsEntered t x.spot x.label.name) b v.1) in let w : true ≡ false = sym y ∙ k in cc,
          λ l. let w : true ≡ false = sym l.0.ssa ∙ b in cc,
        )

        pub fate_there : IsFate d place t x f
        fate_there = subst (IsFate d place t x) (sym (judged.is ∙ (λ i. fate judged.visited (ssa i) reach judged.first)))
            (by_table judged.visited (d.is_ssa x.spot.owner.content x.spot.region) reach judged.first refl refl refl refl)
