-- Each operation of a pruned tree has come from one of the tree.
use Rattle.std.proofs.Common.{◌≡◌, ⊎_elim, ℕ, zero, suc, ◌<◌, Bool, true, false, List, [], ◌∷◌, map, take, Option, Some}
use Rattle.std.proofs.Common.{None, slice_get, refl, sym, ap, ◌∙◌, subst}
use Rattle.std.specs.Prelude.{if◌then◌else◌}
use Rattle.ir_trees.specs.Trees.{Blocks, Regions}
use Rattle.kit.specs.Context.{KitTree}
use Rattle.kit.specs.Meaning.{KitOperation, KitBlock}
use Rattle.kit_checks.specs.Sites.{operation_list, block_list, region_list, site_from, site_at}
use Rattle.kit_checks.specs.Words.{bodies_of}
use Rattle.kit_checks.proofs.Down.{step_to, stepped}
use Rattle.kit_ops.specs.declared.kinds.KitOp.TheVariants as ops
use Rattle.kit_pass_rules.proofs.DceCame.{KitAround, KitSite, body_at}
use Rattle.kit_pass_rules.proofs.Left.{left, origin, Origin}
use Rattle.kit_pass_rules.proofs.Lists.{map_at}
use Rattle.kit_pass_rules.proofs.Thin.{KitBody}
use Rattle.kit_pass_rules.proofs.Walk.{SpotOf, BlockOf, block_of, within, occurrence_of, Standing, stands_root}
use Rattle.kit_pass_rules.proofs.Walk.{child_of, block_here}
use Rattle.kit_pass_rules.proofs.pruning.PrunedTrees.{KitHead, KitListed, Pruning, prune, prune_tree, prune_body, goes}
use Rattle.kit_pass_rules.proofs.pruning.PrunedTrees.{regions_pruned}
use Rattle.kit_pass_rules.proofs.pruning.PrunedTrees.{operations_pruned, blocks_pruned}
use Rattle.opt_trees.specs.Occurrences.{Has, occurrences_of, block_occurrences_of}
use Rattle.opt_trees.proofs.Lists.{some_same, none_some}

abbrev pub KitSpot : Type 0
KitSpot = SpotOf KitOperation KitBlock

abbrev pub KitBlockOf : Type 0
KitBlockOf = BlockOf KitOperation KitBlock

-- what may be pruned of a tree: conditional branches alone take an edge, the entry of a region stays, and so do blocks
-- of modules; where a block stays those stay that it leads to
pub record MayPrune (g : Pruning) (t : KitTree) : Type 0 where
  pub conditional : (h : KitHead) (rs : KitListed Regions) (i : ℕ) → g.taken h rs ≡ Some i → h.content.kind ≡ ops.CondBr
  pub one_of_two : (h : KitHead) (rs : KitListed Regions) (i : ℕ) → g.taken h rs ≡ Some i → i < 2
  pub entries : (x : KitBlockOf) → Has x (block_occurrences_of t) → x.spot.first ≡ true → g.gone x.label.name ≡ false
  pub modules : (x : KitBlockOf) → Has x (block_occurrences_of t) → x.spot.owner.content.kind ≡ ops.Module →
      g.gone x.label.name ≡ false
  pub targets : (c e : KitSpot) (body target : KitBody) (u : KitTree) → Has (block_of c body) (block_occurrences_of t) →
      Has (occurrence_of (within c body) u) (occurrences_of t) → Has (block_of e target) (block_occurrences_of t) →
      e.owner ≡ c.owner →
      g.gone body.label.name ≡ false → Has target.label.name u.head.successors → g.gone target.label.name ≡ false

-- a member is the first of what is left where it was the first
module _ {X Y : Type 0} (p : X → Bool) (f : X → Y) (xs : List X) (stays : (x : X) → slice_get xs 0 ≡ Some x →
    p x ≡ false) (k : ℕ) (y : Y)
    (e : slice_get (map f (left p xs)) k ≡ Some y) (o : Origin p f xs k y) where
  nothing : {Z : Type 0} (z : Z) (zs : List Z) → [] ≡ z ∷ zs → ⊥
  nothing z zs q = cc q

  pub was_first : k ≡ 0 → o.index ≡ 0
  was_first zero_now = step xs stays o.index o.here (ap (λ n. take n (map f (left p xs))) (sym zero_now) ∙ o.before)
    where
      step : (us : List X) → ((x : X) → slice_get us 0 ≡ Some x → p x ≡ false) → (n : ℕ) → slice_get us n ≡ Some o.it →
          [] ≡ map f (left p (take n us)) → n ≡ 0
      step us h zero at q = refl
      step [] h (suc n) at q = absurd (none_some o.it at)
      step (u ∷ us) h (suc n) at q =
          absurd (nothing (f u) (map f (left p (take n us)))
          (q ∙ ap (λ b. map f (if b then left p (take n us) else u ∷ left p (take n us))) (h u refl)))

  pub is_first : o.index ≡ 0 → k ≡ 0
  is_first zero_then = step k (map f (left p xs)) e (o.before ∙ ap (λ n. map f (left p (take n xs))) zero_then)
    where
      step : (n : ℕ) (zs : List Y) → slice_get zs n ≡ Some y → take n zs ≡ [] → n ≡ 0
      step zero zs at q = refl
      step (suc n) [] at q = absurd (none_some y at)
      step (suc n) (z ∷ zs) at q = absurd (nothing z (take n zs) (sym q))

-- the blocks of a module stay
abbrev pub ModuleStays : Pruning → KitTree → Type 0
ModuleStays g x = x.head.content.kind ≡ ops.Module → (body : KitBody) → Has body (bodies_of x) → goes g body ≡ false

module _ (g : Pruning) where
  -- what is around an operation, pruned; its block has this number now
  abbrev pub prune_around : KitAround → ℕ → KitAround
  prune_around a n = record {
    owner = prune_tree g a.owner;
    outer = map (prune_tree g) a.outer;
    blocks = prune g a.blocks;
    number = n;
    body = prune_body g a.body;
    index = a.index;
  }

module _ (g : Pruning) (t : KitTree) (may : MayPrune g t) where
  -- the first block of a region stays
  pub entry_stays : (s : KitSite) (outer : List KitTree) → Standing t s outer → (r : ℕ) (blocks : KitListed Blocks) →
      slice_get (region_list s.op.regions) r ≡ Some blocks → (body : KitBody) → slice_get (block_list blocks)
      0 ≡ Some body → goes g body ≡ false
  entry_stays s outer up r blocks hr body hb =
      let x = block_here t s outer up r 0 blocks body hr hb in
      may.entries (block_of x.spot body) x.block (x.first refl)

  module_stays : (s : KitSite) (outer : List KitTree) → Standing t s outer → ModuleStays g s.op
  module_stays s outer up e body h =
      let b = body_at s.op body h in
      let x = block_here t s outer up b.region b.number b.blocks body b.region_here b.block_here in
      may.modules (block_of x.spot body) x.block (ap (λ (z : KitHead). z.content.kind) x.owner ∙ e)

  -- the operation's block stays, and its number is n then
  pub record Was (u : KitTree) (a : KitAround) (n : ℕ) : Type 0 where
    pub up_around : Option KitAround
    pub new_around : Option KitAround
    pub up : Standing t (record { op = a.owner; around = up_around }) a.outer
    pub new_up : Standing (prune_tree g t) (record { op = prune_tree g a.owner; around = new_around })
        (map (prune_tree g) a.outer)
    pub modules : (x : KitTree) → Has x (a.owner ∷ a.outer) → ModuleStays g x
    pub own_modules : ModuleStays g u
    pub region : ℕ
    pub region_here : slice_get (region_list a.owner.regions) region ≡ Some a.blocks
    pub new_region_here : slice_get (region_list (prune g a.owner.regions)) region ≡ Some (prune g a.blocks)
    pub block_here : slice_get (block_list a.blocks) a.number ≡ Some a.body
    pub new_block_here : slice_get (block_list (prune g a.blocks)) n ≡ Some (prune_body g a.body)
    pub stays : goes g a.body ≡ false
    pub was_entry : n ≡ 0 → a.number ≡ 0
    pub is_entry : a.number ≡ 0 → n ≡ 0
    pub here : slice_get (operation_list a.body.operations) a.index ≡ Some u
    pub new_here : slice_get (operation_list (prune g a.body.operations)) a.index ≡ Some (prune_tree g u)

  pub data Came : KitSite → Type 0 where
    at_root : Came (record { op = prune_tree g t; around = None })
    below : (u : KitTree) (a : KitAround) (n : ℕ) → Was u a n →
        Came (record { op = prune_tree g u; around = Some (prune_around g a n) })

  modules_more : (u : KitTree) (us : List KitTree) → ModuleStays g u → ((x : KitTree) → Has x us → ModuleStays g x) →
      (x : KitTree) → Has x (u ∷ us) → ModuleStays g x
  modules_more u us here others x h = ⊎_elim (λ q. subst (ModuleStays g) (sym q) here) (others x) h

  walk : (u : KitTree) (ar br : Option KitAround) (outer : List KitTree)
      (up : Standing t (record { op = u; around = ar }) outer)
      (new_up : Standing (prune_tree g t) (record { op = prune_tree g u; around = br }) (map (prune_tree g) outer)) →
      ((x : KitTree) → Has x (u ∷ outer) → ModuleStays g x) →
      Came (record { op = prune_tree g u; around = br }) → (p : List ℕ) (s : KitSite) →
      site_from (record { op = prune_tree g u; around = br }) (map (prune_tree g) outer) p ≡ Some s → Came s
  walk u ar br outer up new_up modules came [] s e =
      subst Came (some_same (record { op = prune_tree g u; around = br }) s e) came
  walk u ar br outer up new_up modules came (r ∷ []) s e = absurd (none_some s e)
  walk u ar br outer up new_up modules came (r ∷ b ∷ []) s e = absurd (none_some s e)
  walk u ar br outer up new_up modules came (r ∷ b ∷ k ∷ p) s e =
      let here : KitSite = record { op = u; around = ar } in
      let there : KitSite = record { op = prune_tree g u; around = br } in
      let st = stepped there (map (prune_tree g) outer) r b k p s e in
      let x = map_at (λ (bs : KitListed Blocks). prune g bs) (region_list u.regions) r st.blocks
      (sym (ap (λ l. slice_get l r) (regions_pruned g u.regions)) ∙ st.region_here) in
      let listed : slice_get (map (prune_body g) (left (goes g) (block_list x.0))) b ≡ Some st.body =
      sym (ap (λ l. slice_get l b) (blocks_pruned g x.0)) ∙ (ap (λ (z : KitListed Blocks). slice_get (block_list z) b)
      x.2 ∙ st.block_here) in
      let o = origin (goes g) (prune_body g) (block_list x.0) b st.body listed in
      let first = entry_stays here outer up r x.0 x.1 in
      let y = map_at (prune_tree g) (operation_list o.it.operations) k st.op
      (sym (ap (λ l. slice_get l k) (operations_pruned g o.it.operations))
      ∙ (ap (λ (z : KitBody). slice_get (operation_list z.operations) k) o.is ∙ st.op_here)) in
      let a : KitAround = record { owner = u; outer = outer; blocks = x.0; number = o.index; body = o.it; index = k } in
      let c = child_of t here outer up r o.index k x.0 o.it y.0 x.1 o.here y.1 in
      let new_region : slice_get (region_list (prune g u.regions)) r ≡ Some (prune g x.0) = st.region_here
      ∙ ap Some (sym x.2) in
      let new_block : slice_get (block_list (prune g x.0)) b ≡ Some (prune_body g o.it) =
      ap (λ (z : KitListed Blocks). slice_get (block_list z) b) x.2 ∙ (st.block_here ∙ ap Some (sym o.is)) in
      let new_op : slice_get (operation_list (prune g o.it.operations)) k ≡ Some (prune_tree g y.0) =
      ap (λ (z : KitBody). slice_get (operation_list z.operations) k) o.is ∙ (st.op_here ∙ ap Some (sym y.2)) in
      let d = child_of (prune_tree g t) there (map (prune_tree g) outer) new_up r b k (prune g x.0)
      (prune_body g o.it) (prune_tree g y.0) new_region new_block new_op in
      let same : step_to there (map (prune_tree g) outer) (prune g x.0) b (prune_body g o.it) k
      (prune_tree g y.0) ≡ step_to there (map (prune_tree g) outer) st.blocks b st.body k st.op =
      λ i. step_to there (map (prune_tree g) outer) (x.2 i) b (o.is i) k (y.2 i) in
      let own = module_stays (step_to here outer x.0 o.index o.it k y.0) (u ∷ outer) c.standing in
      let was : Was y.0 a b = record {
        up_around = ar;
        new_around = br;
        up = up;
        new_up = new_up;
        modules = modules;
        own_modules = own;
        region = r;
        region_here = x.1;
        new_region_here = new_region;
        block_here = o.here;
        new_block_here = new_block;
        stays = o.stays;
        was_entry = was_first (goes g) (prune_body g) (block_list x.0) first b st.body listed o;
        is_entry = is_first (goes g) (prune_body g) (block_list x.0) first b st.body listed o;
        here = y.1;
        new_here = new_op;
      } in
      walk y.0 (Some a) (Some (prune_around g a b)) (u ∷ outer) c.standing d.standing
      (modules_more y.0 (u ∷ outer) own modules)
      (below y.0 a b was) p s (ap (λ z. site_from z (prune_tree g u ∷ map (prune_tree g) outer) p) same ∙ st.goes_on)

  pub root_modules : ModuleStays g t
  root_modules = module_stays (record { op = t; around = None }) [] (stands_root t)

  pub came_from : (p : List ℕ) (s : KitSite) → site_at (prune_tree g t) p ≡ Some s → Came s
  came_from p s e = walk t None None [] (stands_root t) (stands_root (prune_tree g t))
      (λ x h. ⊎_elim (λ q. subst (ModuleStays g) (sym q) root_modules) (λ n. absurd n) h)
      at_root p s e
