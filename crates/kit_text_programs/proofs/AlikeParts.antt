-- The parts of operations that are alike: regions, blocks, operations, and the values that may be named there.
use Rattle.std.proofs.Common.{ℕ, Bool, true, false, cond, List, [], ◌∷◌, ◌++◌, map, take, Option, Some, None, slice_get}
use Rattle.std.proofs.Common.{option_and_then, refl, subst}
use Rattle.std.specs.Prelude.{◌==◌}
use Rattle.ir_base.specs.declared.types.TypeHandle.{TypeHandle}
use Rattle.ir_print.specs.Shown.{Pairs}
use Rattle.ir_program.specs.declared.handles.BasicBlock.{BasicBlock}
use Rattle.ir_program.specs.declared.handles.Ptr.{Ptr}
use Rattle.ir_program.specs.declared.handles.Value.{Value}
use Rattle.ir_trees.specs.Stands.{ProgramTree}
use Rattle.ir_trees.specs.Trees.{Defined, Operations, Blocks, Regions}
use Rattle.kit_checks.specs.Sites.{Around, Body, Listed, Site, operation_list, block_list, region_list, site_from}
use Rattle.kit_checks.specs.Sites.{site_at}
use Rattle.kit_checks.specs.Words.{bodies_of, entry_of, first_body, first_module, is_module, kind_of, members_of}
use Rattle.kit_checks.specs.Words.{results_of, types_of, values_before, values_if}
use Rattle.kit_checks.specs.Words.{values_in, values_of, visible}
use Rattle.kit_checks.specs.World.{World}
use Rattle.kit_ops.specs.declared.kinds.KitOp.{KitOp}
use Rattle.kit_text_programs.specs.Alike.{AreBoth, AreTypedAlike, AreDefinedAlike, AreAlike, no_operations, no_blocks, no_regions}
use Rattle.kit_text_programs.specs.Alike.{operations, blocks, regions}
use Rattle.kit_text_programs.specs.Alike.{AreTrees, AreBodies, AreAround, AreSitesAlike}
use Rattle.kit_text_programs.proofs.AlikeLists.{both_at, all_joined, pairs_joined, pairs_mapped, pairs_taken}

module _ {O B P C : Type 0} (w : World O B) (x : World P C) (OfTypes : TypeHandle → TypeHandle → Type 0)
    (OfValues : Value → Value → Type 0) (OfBlocks : Ptr BasicBlock → Ptr BasicBlock → Type 0) where
  abbrev Defines : Defined Value TypeHandle → Defined Value TypeHandle → Type 0
  Defines = AreDefinedAlike w x OfTypes OfValues OfBlocks

  abbrev Typed : Value → Value → Type 0
  Typed = AreTypedAlike w x OfTypes OfValues OfBlocks

  abbrev Trees : ProgramTree O B → ProgramTree P C → Type 0
  Trees = AreTrees w x OfTypes OfValues OfBlocks

  abbrev Bodies : Body O B → Body P C → Type 0
  Bodies = AreBodies w x OfTypes OfValues OfBlocks

  pub listed_operations : (os : Listed O B Operations) (ps : Listed P C Operations)
      → AreAlike w x OfTypes OfValues OfBlocks Operations os ps → Pairs Trees (operation_list os) (operation_list ps)
  listed_operations os ps no_operations = tt
  listed_operations os ps (operations h k rs qs rest others heads inside after) =
      (record { heads = heads; inside = inside }, listed_operations rest others after)

  pub listed_blocks : (bs : Listed O B Blocks) (cs : Listed P C Blocks)
      → AreAlike w x OfTypes OfValues OfBlocks Blocks bs cs → Pairs Bodies (block_list bs) (block_list cs)
  listed_blocks bs cs no_blocks = tt
  listed_blocks bs cs (blocks l m os ps rest others names arguments known inside after) =
      (record { names = names; arguments = arguments; known = known; listed = inside }, listed_blocks rest others after)

  pub listed_regions : (rs : Listed O B Regions) (qs : Listed P C Regions)
      → AreAlike w x OfTypes OfValues OfBlocks Regions rs qs
      → Pairs (AreAlike w x OfTypes OfValues OfBlocks Blocks) (region_list rs) (region_list qs)
  listed_regions rs qs no_regions = tt
  listed_regions rs qs (regions bs cs rest others inside after) = (inside, listed_regions rest others after)

  pub region_bodies : (rs : Listed O B Regions) (qs : Listed P C Regions) → AreAlike w x OfTypes OfValues OfBlocks Regions rs qs
      → Pairs (Pairs Bodies) (map block_list (region_list rs)) (map block_list (region_list qs))
  region_bodies rs qs h =
      pairs_mapped (AreAlike w x OfTypes OfValues OfBlocks Blocks) (Pairs Bodies) block_list block_list listed_blocks
      (region_list rs) (region_list qs) (listed_regions rs qs h)

  pub bodies_alike : (t : ProgramTree O B) (u : ProgramTree P C) → Trees t u → Pairs Bodies (bodies_of t) (bodies_of u)
  bodies_alike t u h =
      all_joined Bodies (map block_list (region_list t.regions)) (map block_list (region_list u.regions))
      (region_bodies t.regions u.regions h.inside)

  pub first_alike : (bs : Listed O B Blocks) (cs : Listed P C Blocks) → AreAlike w x OfTypes OfValues OfBlocks Blocks bs cs
      → AreBoth Bodies (first_body bs) (first_body cs)
  first_alike bs cs h = both_at Bodies (block_list bs) (block_list cs) (listed_blocks bs cs h) 0

  entry_from : (o : Option (Listed O B Blocks)) (p : Option (Listed P C Blocks))
      → AreBoth (AreAlike w x OfTypes OfValues OfBlocks Blocks) o p
      → AreBoth Bodies (option_and_then first_body o) (option_and_then first_body p)
  entry_from None None h = tt
  entry_from None (Some c) h = absurd h
  entry_from (Some b) None h = absurd h
  entry_from (Some b) (Some c) h = first_alike b c h

  pub entry_alike : (t : ProgramTree O B) (u : ProgramTree P C) → Trees t u → AreBoth Bodies (entry_of t) (entry_of u)
  entry_alike t u h =
      entry_from (slice_get (region_list t.regions) 0) (slice_get (region_list u.regions) 0)
      (both_at (AreAlike w x OfTypes OfValues OfBlocks Blocks) (region_list t.regions) (region_list u.regions)
      (listed_regions t.regions u.regions h.inside) 0)

  -- the operations of all blocks
  pub members_alike : (t : ProgramTree O B) (u : ProgramTree P C) → Trees t u
      → Pairs Trees (members_of t) (members_of u)
  members_alike t u h =
      all_joined Trees (map (λ (b : Body O B). operation_list b.operations) (bodies_of t))
      (map (λ (b : Body P C). operation_list b.operations) (bodies_of u))
      (pairs_mapped Bodies (Pairs Trees) (λ (b : Body O B). operation_list b.operations)
      (λ (b : Body P C). operation_list b.operations) (λ b d k. listed_operations b.operations d.operations k.listed)
      (bodies_of t) (bodies_of u) (bodies_alike t u h))

  -- the first module among operations
  pub modules_alike : (ts : List (ProgramTree O B)) (us : List (ProgramTree P C)) → Pairs Trees ts us
      → AreBoth Trees (first_module w ts) (first_module x us)
  modules_alike [] [] h = tt
  modules_alike [] (u ∷ us) h = absurd h
  modules_alike (t ∷ ts) [] h = absurd h
  modules_alike (t ∷ ts) (u ∷ us) h =
      subst (λ (k : KitOp). AreBoth Trees (cond (is_module (kind_of w t)) (Some t) (first_module w ts))
      (cond (is_module k) (Some u) (first_module x us))) h.0.heads.kinds
      (either (is_module (kind_of w t)) (first_module w ts) (first_module x us) (modules_alike ts us h.1))
    where
      either : (b : Bool) (o : Option (ProgramTree O B)) (p : Option (ProgramTree P C)) → AreBoth Trees o p
          → AreBoth Trees (cond b (Some t) o) (cond b (Some u) p)
      either true o p k = h.0
      either false o p k = k

  -- ---- values

  pub types_alike : (ds : List (Defined Value TypeHandle)) (es : List (Defined Value TypeHandle)) → Pairs Defines ds es
      → Pairs OfTypes (types_of ds) (types_of es)
  types_alike ds es h =
      pairs_mapped Defines OfTypes (λ (d : Defined Value TypeHandle). d.holds) (λ
      (d : Defined Value TypeHandle). d.holds)
      (λ d e k. k.1) ds es h

  pub values_alike : (ds : List (Defined Value TypeHandle)) (es : List (Defined Value TypeHandle)) → Pairs Defines ds es
      → Pairs Typed (values_of ds) (values_of es)
  values_alike ds es h =
      pairs_mapped Defines Typed (λ (d : Defined Value TypeHandle). d.name) (λ (d : Defined Value TypeHandle). d.name)
      (λ d e k. k.0) ds es h

  pub results_alike : (ts : List (ProgramTree O B)) (us : List (ProgramTree P C)) → Pairs Trees ts us
      → Pairs Typed (results_of ts) (results_of us)
  results_alike ts us h =
      all_joined Typed (map (λ (t : ProgramTree O B). values_of t.head.results) ts)
      (map (λ (t : ProgramTree P C). values_of t.head.results) us)
      (pairs_mapped Trees (Pairs Typed) (λ (t : ProgramTree O B). values_of t.head.results)
      (λ (t : ProgramTree P C). values_of t.head.results)
      (λ t u k. values_alike t.head.results u.head.results k.heads.results) ts us h)

  before_alike : (b : Body O B) (d : Body P C) (n : ℕ) → Bodies b d
      → Pairs Typed (values_before b n) (values_before d n)
  before_alike b d n h =
      pairs_joined Typed (values_of b.label.arguments) (results_of (take n (operation_list b.operations)))
      (values_of d.label.arguments) (results_of (take n (operation_list d.operations)))
      (values_alike b.label.arguments d.label.arguments h.arguments)
      (results_alike (take n (operation_list b.operations)) (take n (operation_list d.operations))
      (pairs_taken Trees (operation_list b.operations) (operation_list d.operations) n
      (listed_operations b.operations d.operations h.listed)))

  all_alike : (b : Body O B) (d : Body P C) → Bodies b d → Pairs Typed (values_in b) (values_in d)
  all_alike b d h =
      pairs_joined Typed (values_of b.label.arguments) (results_of (operation_list b.operations))
      (values_of d.label.arguments) (results_of (operation_list d.operations))
      (values_alike b.label.arguments d.label.arguments h.arguments)
      (results_alike (operation_list b.operations) (operation_list d.operations)
      (listed_operations b.operations d.operations h.listed))

  if_alike : (o : Option (Body O B)) (p : Option (Body P C)) → AreBoth Bodies o p
      → Pairs Typed (values_if o) (values_if p)
  if_alike None None h = tt
  if_alike None (Some d) h = absurd h
  if_alike (Some b) None h = absurd h
  if_alike (Some b) (Some d) h = all_alike b d h

  unless_alike : (t : Bool) (vs us : List Value) → Pairs Typed vs us → Pairs Typed (cond t [] vs) (cond t [] us)
  unless_alike true vs us h = tt
  unless_alike false vs us h = h

  visible_at : (a : Around O B) (b : Around P C) → AreAround w x OfTypes OfValues OfBlocks a b → (n k : ℕ)
      → Pairs Typed (values_before a.body k ++ cond (n == 0) [] (values_if (first_body a.blocks)))
      (values_before b.body k ++ cond (n == 0) [] (values_if (first_body b.blocks)))
  visible_at a b h n k =
      pairs_joined Typed (values_before a.body k) (cond (n == 0) [] (values_if (first_body a.blocks)))
      (values_before b.body k) (cond (n == 0) [] (values_if (first_body b.blocks)))
      (before_alike a.body b.body k h.bodies)
      (unless_alike (n == 0) (values_if (first_body a.blocks)) (values_if (first_body b.blocks))
      (if_alike (first_body a.blocks) (first_body b.blocks) (first_alike a.blocks b.blocks h.beside)))

  pub visible_alike : (a : Around O B) (b : Around P C) → AreAround w x OfTypes OfValues OfBlocks a b
      → Pairs Typed (visible a) (visible b)
  visible_alike a b h =
      subst (λ (k : ℕ). Pairs Typed (visible a) (values_before b.body k ++ cond (b.number == 0) []
      (values_if (first_body b.blocks)))) h.indices
      (subst (λ (n : ℕ). Pairs Typed (visible a) (values_before b.body a.index ++ cond (n == 0) []
      (values_if (first_body b.blocks)))) h.numbers (visible_at a b h a.number a.index))

  -- ---- sites

  abbrev Sites : Site O B → Site P C → Type 0
  Sites = AreSitesAlike w x OfTypes OfValues OfBlocks

  then_sites : {X Y U V : Type 0} (R : X → Y → Type 0) (Q : U → V → Type 0) (f : X → Option U) (g : Y → Option V)
      → ((a : X) (b : Y) → R a b → AreBoth Q (f a) (g b)) → (o : Option X) (p : Option Y) → AreBoth R o p
      → AreBoth Q (option_and_then f o) (option_and_then g p)
  then_sites R Q f g each None None h = tt
  then_sites R Q f g each None (Some b) h = absurd h
  then_sites R Q f g each (Some a) None h = absurd h
  then_sites R Q f g each (Some a) (Some b) h = each a b h

  from_alike : (p : List ℕ) (s : Site O B) (z : Site P C) (outer : List (ProgramTree O B))
      (others : List (ProgramTree P C)) → Sites s z → Pairs Trees outer others
      → AreBoth Sites (site_from s outer p) (site_from z others p)
  from_alike [] s z outer others h above = h
  from_alike (r ∷ []) s z outer others h above = tt
  from_alike (r ∷ b ∷ []) s z outer others h above = tt
  from_alike (r ∷ b ∷ k ∷ p) s z outer others h above =
      then_sites (AreAlike w x OfTypes OfValues OfBlocks Blocks) Sites _ _ (λ bs cs in_region.
      then_sites Bodies Sites _ _ (λ body other in_block.
      then_sites Trees Sites _ _ (λ t u here.
      from_alike p _ _ (s.op ∷ outer) (z.op ∷ others) (record {
        trees = here;
        surroundings = record {
          owners = h.trees;
          outer = above;
          beside = in_region;
          numbers = refl;
          bodies = in_block;
          indices =
              refl;
        };
      }) (h.trees, above))
      (slice_get (operation_list body.operations) k) (slice_get (operation_list other.operations) k)
      (both_at Trees (operation_list body.operations) (operation_list other.operations)
      (listed_operations body.operations other.operations in_block.listed) k))
      (slice_get (block_list bs) b) (slice_get (block_list cs) b)
      (both_at Bodies (block_list bs) (block_list cs) (listed_blocks bs cs in_region) b))
      (slice_get (region_list s.op.regions) r) (slice_get (region_list z.op.regions) r)
      (both_at (AreAlike w x OfTypes OfValues OfBlocks Blocks) (region_list s.op.regions) (region_list z.op.regions)
      (listed_regions s.op.regions z.op.regions h.trees.inside) r)

  -- at each place of the one tree stands what is alike at the place of the other
  pub sites_alike : (t : ProgramTree O B) (u : ProgramTree P C) → Trees t u → (p : List ℕ)
      → AreBoth Sites (site_at t p) (site_at u p)
  sites_alike t u h p =
      from_alike p (record { op = t; around = None }) (record { op = u; around = None }) [] []
      (record { trees = h; surroundings = tt }) tt
