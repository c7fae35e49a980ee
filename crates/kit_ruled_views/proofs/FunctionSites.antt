-- The operations of the blocks of a function that is at a place of a tree are at places of it too, so they keep the
-- rules.
use Rattle.std.proofs.Common.{◌≡◌, ℕ, List, [], ◌∷◌, ◌++◌, length, Option, Some, None, option_and_then, slice_get, refl}
use Rattle.std.proofs.Common.{ap, ◌∙◌, subst, arith}
use Rattle.ir_base.specs.declared.types.TypeHandle.{TypeHandle}
use Rattle.ir_program.specs.declared.handles.Value.{Value}
use Rattle.ir_trees.specs.Stands.{ProgramTree}
use Rattle.ir_trees.specs.Trees.{Blocks, Regions, end, region}
use Rattle.kit.specs.Context.{KitTree}
use Rattle.kit_checks.specs.KitWorld.{kit_world}
use Rattle.kit_ops.specs.declared.kinds.KitOp.TheVariants as ops
use Rattle.kit_ops.specs.declared.types.KitType.{KitType}
use Rattle.kit.specs.Meaning.{KitOperation, KitBlock}
use Rattle.kit_checks.specs.declared.rule.Rule.{Rule}
use Rattle.kit_checks.specs.declared.rule.Rule.TheVariants as rule
use Rattle.kit_checks.specs.Faults.{Keeps}
use Rattle.kit_checks.specs.Rules.{FitsKind}
use Rattle.kit_checks.specs.Sites.{Listed, Body, operation_list, block_list, region_list, Around, Site, site_from}
use Rattle.kit_checks.specs.Sites.{site_at}
use Rattle.kit_checks.proofs.Down.{step_to, stepped}
use Rattle.kit_ruled_views.specs.Ruled.{IsRuledFunction}

-- parts of trees of `kit`
abbrev pub KitBlocks : Type 0
KitBlocks = Listed KitOperation KitBlock Blocks

abbrev pub KitBody : Type 0
KitBody = Body KitOperation KitBlock

abbrev pub KitAround : Type 0
KitAround = Around KitOperation KitBlock

module _ {O B : Type 0} where
  -- the operations around those in the operation at a site
  abbrev pub outer_if : Option (Around O B) → List (ProgramTree O B)
  outer_if None = []
  outer_if (Some a) = a.owner ∷ a.outer

  -- one step down
  one_step : (s : Site O B) (outer : List (ProgramTree O B)) (r b k : ℕ) (p : List ℕ) (blocks : Listed O B Blocks)
      (body : Body O B) (u : ProgramTree O B) → slice_get (region_list s.op.regions) r ≡ Some blocks
      → slice_get (block_list blocks) b ≡ Some body → slice_get (operation_list body.operations) k ≡ Some u
      → site_from s outer (r ∷ b ∷ k ∷ p) ≡ site_from (step_to s outer blocks b body k u) (s.op ∷ outer) p
  one_step s outer r b k p blocks body u hr hb hk =
      let f : Listed O B Blocks → Body O B → ProgramTree O B → Option (Site O B) =
      λ bs x v. site_from (step_to s outer bs b x k v) (s.op ∷ outer) p in
      let g : Listed O B Blocks → Body O B → Option (Site O B) =
      λ bs x. option_and_then (f bs x) (slice_get (operation_list x.operations) k) in
      ap (option_and_then (λ bs. option_and_then (g bs) (slice_get (block_list bs) b))) hr
      ∙ ap (option_and_then (g blocks)) hb ∙ ap (option_and_then (f blocks body)) hk

  -- a place that goes on from another one
  goes_on : (s : Site O B) (outer : List (ProgramTree O B)) → outer ≡ outer_if s.around → (p q : List ℕ) (x : Site O B)
      → site_from s outer p ≡ Some x → site_from s outer (p ++ q) ≡ site_from x (outer_if x.around) q
  goes_on s outer is [] q x h =
      let same : s ≡ x = cc in
      ap (λ o. site_from s o q) is ∙ ap (λ (z : Site O B). site_from z (outer_if z.around) q) same
  goes_on s outer is (r ∷ []) q x h = cc
  goes_on s outer is (r ∷ b ∷ []) q x h = cc
  goes_on s outer is (r ∷ b ∷ k ∷ p) q x h =
      let d = stepped s outer r b k p x h in
      one_step s outer r b k (p ++ q) d.blocks d.body d.op d.region_here d.block_here d.op_here
      ∙ goes_on (step_to s outer d.blocks b d.body k d.op) (s.op ∷ outer) refl p q x d.goes_on

  -- an operation in the one at a place is at a place
  pub inner_place : (t : ProgramTree O B) (s : Site O B) (p : List ℕ) → site_at t p ≡ Some s → (r b k : ℕ)
      (blocks : Listed O B Blocks) (body : Body O B) (u : ProgramTree O B)
      → slice_get (region_list s.op.regions) r ≡ Some blocks → slice_get (block_list blocks) b ≡ Some body
      → slice_get (operation_list body.operations) k ≡ Some u
      → site_at t (p ++ r ∷ b ∷ k ∷ []) ≡ Some (step_to s (outer_if s.around) blocks b body k u)
  inner_place t s p there r b k blocks body u hr hb hk =
      goes_on (record { op = t; around = None }) [] refl p (r ∷ b ∷ k ∷ []) s there
      ∙ one_step s (outer_if s.around) r b k [] blocks body u hr hb hk

-- a list of one region
one_region : {O B : Type 0} (rs : Listed O B Regions) → length (region_list rs) ≡ 1
    → (bs : Listed O B Blocks) × (rs ≡ region bs end)
one_region end h = absurd (omega (arith, h))
one_region (region bs end) h = (bs, refl)
one_region (region bs (region cs rest)) h = absurd (omega (arith, h))

-- a list of no region
pub no_region : {O B : Type 0} (rs : Listed O B Regions) → region_list rs ≡ [] → rs ≡ end
no_region end h = refl
no_region (region bs rest) h = cc

module _ (leads : TypeHandle → Option KitType) (typed : Value → Option TypeHandle) (u : KitTree)
    (ruled : IsRuledFunction leads typed u) where
  -- the site of the function
  abbrev own_site : Site KitOperation KitBlock
  own_site = record { op = u; around = ruled.around }

  pub own_keeps : (r : Rule) → Keeps (kit_world leads typed) r own_site
  own_keeps r = ruled.keeps r ruled.place own_site ruled.there

  pub own_format : FitsKind (kit_world leads typed) u ops.Func
  own_format = subst (FitsKind (kit_world leads typed) u) ruled.function (own_keeps rule.FitsFormat)

  -- its blocks
  pub own_region : (blocks : KitBlocks) × (u.regions ≡ region blocks end)
  own_region = one_region u.regions own_format.0.regions

  module _ (blocks : KitBlocks) (is : u.regions ≡ region blocks end) where
    -- what is around an operation of the function
    abbrev pub inner_around : ℕ → KitBody → ℕ → KitAround
    inner_around j body k = record {
      owner = u;
      outer = outer_if ruled.around;
      blocks = blocks;
      number = j;
      body = body;
      index = k;
    }

    -- an operation of the function keeps the rules
    pub inner_keeps : (j k : ℕ) (body : KitBody) (op : KitTree) → slice_get (block_list blocks) j ≡ Some body
        → slice_get (operation_list body.operations) k ≡ Some op
        → (r : Rule) → Keeps (kit_world leads typed) r (record { op = op; around = Some (inner_around j body k) })
    inner_keeps j k body op block_here op_here r =
        let region_here : slice_get (region_list u.regions) 0 ≡ Some blocks =
        ap (λ (rs : Listed KitOperation KitBlock Regions). slice_get (region_list rs) 0) is in
        ruled.keeps r (ruled.place ++ 0 ∷ j ∷ k ∷ [])
        (record { op = op; around = Some (inner_around j body k) })
        (inner_place ruled.root own_site ruled.place ruled.there 0 j k blocks body op region_here block_here op_here)
