-- Sites at places of a tree: what is in an operation at a place is at a place too.
use Rattle.std.proofs.Common.{◌≡◌, ℕ, List, [], ◌∷◌, ◌++◌, Option, Some, None, option_and_then, slice_get, refl, ap, ◌∙◌}
use Rattle.ir_trees.specs.Stands.{ProgramTree}
use Rattle.ir_trees.specs.Trees.{Blocks}
use Rattle.kit_checks.specs.Sites.{Listed, Body, operation_list, block_list, region_list, Around, Site, site_from, site_at}
use Rattle.kit_checks.proofs.Down.{step_to, stepped}

module _ {O B : Type 0} where
  -- the operations that the operations in one at a site are in: that one, and what is around it
  abbrev pub outer_if : Option (Around O B) → List (ProgramTree O B)
  outer_if None = []
  outer_if (Some a) = a.owner ∷ a.outer

  -- one step down
  one_step : (s : Site O B) (outer : List (ProgramTree O B)) (r b k : ℕ) (p : List ℕ) (blocks : Listed O B Blocks) (body : Body O B) (u : ProgramTree O B)
      → slice_get (region_list s.op.regions) r ≡ Some blocks → slice_get (block_list blocks) b ≡ Some body → slice_get (operation_list body.operations) k ≡ Some u
      → site_from s outer (r ∷ b ∷ k ∷ p) ≡ site_from (step_to s outer blocks b body k u) (s.op ∷ outer) p
  one_step s outer r b k p blocks body u hr hb hk =
      let f : Listed O B Blocks → Body O B → ProgramTree O B → Option (Site O B) = λ bs x v. site_from (step_to s outer bs b x k v) (s.op ∷ outer) p in
      let g : Listed O B Blocks → Body O B → Option (Site O B) = λ bs x. option_and_then (f bs x) (slice_get (operation_list x.operations) k) in
      ap (option_and_then (λ bs. option_and_then (g bs) (slice_get (block_list bs) b))) hr ∙ ap (option_and_then (g blocks)) hb ∙ ap (option_and_then (f blocks body)) hk

  -- a place that goes on from another one
  goes_on : (s : Site O B) (outer : List (ProgramTree O B)) → outer ≡ outer_if s.around → (p q : List ℕ) (x : Site O B) → site_from s outer p ≡ Some x
      → site_from s outer (p ++ q) ≡ site_from x (outer_if x.around) q
  goes_on s outer is [] q x h =
      let same : s ≡ x = cc in
      ap (λ o. site_from s o q) is ∙ ap (λ (z : Site O B). site_from z (outer_if z.around) q) same
  goes_on s outer is (r ∷ []) q x h = cc
  goes_on s outer is (r ∷ b ∷ []) q x h = cc
  goes_on s outer is (r ∷ b ∷ k ∷ p) q x h =
      let d = stepped s outer r b k p x h in
      one_step s outer r b k (p ++ q) d.blocks d.body d.op d.region_here d.block_here d.op_here
      ∙ goes_on (step_to s outer d.blocks b d.body k d.op) (s.op ∷ outer) refl p q x d.goes_on

  -- the site is at some place of the tree
  pub record IsReached (t : ProgramTree O B) (s : Site O B) : Type 0 where
    pub place : List ℕ
    pub there : site_at t place ≡ Some s

  pub root_reached : (t : ProgramTree O B) → IsReached t (record { op = t; around = None })
  root_reached t = record { place = []; there = refl }

  pub step_reached : (t : ProgramTree O B) (s : Site O B) → IsReached t s → (r b k : ℕ) (blocks : Listed O B Blocks) (body : Body O B) (u : ProgramTree O B)
      → slice_get (region_list s.op.regions) r ≡ Some blocks → slice_get (block_list blocks) b ≡ Some body → slice_get (operation_list body.operations) k ≡ Some u
      → IsReached t (step_to s (outer_if s.around) blocks b body k u)
  step_reached t s at r b k blocks body u hr hb hk = record {
    place = at.place ++ r ∷ b ∷ k ∷ [];
    there = goes_on (record { op = t; around = None }) [] refl at.place (r ∷ b ∷ k ∷ []) s at.there
        ∙ one_step s (outer_if s.around) r b k [] blocks body u hr hb hk;
  }
