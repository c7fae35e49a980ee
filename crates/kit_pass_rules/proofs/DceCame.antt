-- Each operation of the tree without what is dead has come from one of the tree.
use Rattle.std.proofs.Common.{◌≡◌, ⊎_elim, ℕ, ◌+◌, false, List, [], ◌∷◌, map, take, length, Option, Some, None, slice_get, sym, ap, ◌∙◌, subst}
use Rattle.ir_program.specs.declared.handles.Ptr.{Ptr}
use Rattle.ir_program.specs.declared.handles.Operation.{Operation}
use Rattle.ir_trees.specs.Searched.{Lists}
use Rattle.ir_trees.specs.Stands.{by_handle}
use Rattle.ir_trees.specs.Trees.{Blocks}
use Rattle.kit.specs.Context.{KitTree}
use Rattle.kit.specs.Meaning.{KitOperation, KitBlock, kit}
use Rattle.kit_checks.specs.Sites.{Listed, Around, Site, operation_list, block_list, region_list, site_from, site_at}
use Rattle.kit_checks.specs.Words.{members_of, bodies_of}
use Rattle.kit_checks.proofs.Down.{step_to, stepped}
use Rattle.kit_checks.proofs.Passed.{from_joined}
use Rattle.kit_pass_rules.proofs.Left.{left, LastStays, origin}
use Rattle.kit_pass_rules.proofs.Lists.{map_at, has_at_index, index_of_has}
use Rattle.kit_pass_rules.proofs.Thin.{KitBody, thin_tree, thin_body, goes, regions_thin, blocks_thin, operations_thin}
use Rattle.kit_pass_rules.proofs.Walk.{SiteOf, occurrence_of, Standing, stands_root, child_of}
use Rattle.opt_trees.specs.Dce.{Gone, Whole, thin}
use Rattle.opt_trees.specs.Occurrences.{Has, occurrences_of}
use Rattle.opt_trees.proofs.Lists.{some_same, none_some}

abbrev pub KitAround : Type 0
KitAround = Around KitOperation KitBlock

abbrev pub KitSite : Type 0
KitSite = Site KitOperation KitBlock

-- a block of a region of an operation, by its numbers
pub record BodyAt (u : KitTree) (body : KitBody) : Type 0 where
  pub region : ℕ
  pub number : ℕ
  pub blocks : Listed KitOperation KitBlock Blocks
  pub region_here : slice_get (region_list u.regions) region ≡ Some blocks
  pub block_here : slice_get (block_list blocks) number ≡ Some body

pub body_at : (u : KitTree) (body : KitBody) → Has body (bodies_of u) → BodyAt u body
body_at u body h =
    let x = from_joined block_list (region_list u.regions) body h in
    let r = index_of_has (region_list u.regions) x.0 x.1 in
    let b = index_of_has (block_list x.0) body x.2 in
    record { region = r.0; number = b.0; blocks = x.0; region_here = r.1; block_here = b.1 }

module _ (t : KitTree) where
  -- the operations of its blocks are occurrences of the tree
  abbrev pub MembersStand : KitTree → Type 0
  MembersStand x = (y : KitTree) → Lists (members_of x) y → (c : SiteOf KitOperation KitBlock) × Has (occurrence_of c y) (occurrences_of t)

  pub members_stand : (s : KitSite) (outer : List KitTree) → Standing t s outer → MembersStand s.op
  members_stand s outer up y l =
      let x = from_joined (λ (b : KitBody). operation_list b.operations) (bodies_of s.op) y (has_at_index (members_of s.op) l.0 y l.1) in
      let b = body_at s.op x.0 x.1 in
      let k = index_of_has (operation_list x.0.operations) y x.2 in
      let c = child_of t s outer up b.region b.number k.0 b.blocks x.0 y b.region_here b.block_here k.1 in
      (record { spot = c.spot; label = x.0.label }, c.here)

module _ (g : Gone by_handle) where
  -- what is around an operation, without what goes
  abbrev pub thin_around : KitAround → ℕ → KitAround
  thin_around a j = record {
    owner = thin_tree g a.owner;
    outer = map (thin_tree g) a.outer;
    blocks = thin kit g a.blocks;
    number = a.number;
    body = thin_body g a.body;
    index = j;
  }

module _ (g : Gone by_handle) (t : KitTree) where
  -- the operation stays, and then its index is j
  pub record Old (u : KitTree) (a : KitAround) (j : ℕ) : Type 0 where
    pub up_around : Option KitAround
    pub new_around : Option KitAround
    pub up : Standing t (record { op = a.owner; around = up_around }) a.outer
    pub new_up : Standing (thin_tree g t) (record { op = thin_tree g a.owner; around = new_around }) (map (thin_tree g) a.outer)
    pub kept : (x : Ptr Operation) → Has x up.spot.around → g.item (Whole x) ≡ false
    pub members : (x : KitTree) → Has x (a.owner ∷ a.outer) → MembersStand t x
    pub region : ℕ
    pub region_here : slice_get (region_list a.owner.regions) region ≡ Some a.blocks
    pub new_region_here : slice_get (region_list (thin kit g a.owner.regions)) region ≡ Some (thin kit g a.blocks)
    pub block_here : slice_get (block_list a.blocks) a.number ≡ Some a.body
    pub new_block_here : slice_get (block_list (thin kit g a.blocks)) a.number ≡ Some (thin_body g a.body)
    pub here : slice_get (operation_list a.body.operations) a.index ≡ Some u
    pub new_here : slice_get (operation_list (thin kit g a.body.operations)) j ≡ Some (thin_tree g u)
    pub stays : g.item (Whole u.head.name) ≡ false
    pub before : take j (map (thin_tree g) (left (goes g) (operation_list a.body.operations)))
        ≡ map (thin_tree g) (left (goes g) (take a.index (operation_list a.body.operations)))
    pub last : a.index + 1 ≡ length (operation_list a.body.operations) →
        j + 1 ≡ length (map (thin_tree g) (left (goes g) (operation_list a.body.operations)))
    pub end : LastStays (goes g) (operation_list a.body.operations) →
        j + 1 ≡ length (map (thin_tree g) (left (goes g) (operation_list a.body.operations))) →
        a.index + 1 ≡ length (operation_list a.body.operations)

  pub data Came : KitSite → Type 0 where
    at_root : Came (record { op = thin_tree g t; around = None })
    below : (u : KitTree) (a : KitAround) (j : ℕ) → Old u a j → Came (record { op = thin_tree g u; around = Some (thin_around g a j) })

  kept_more : (n : Ptr Operation) (ns : List (Ptr Operation)) → g.item (Whole n) ≡ false → ((x : Ptr Operation) → Has x ns → g.item (Whole x) ≡ false) →
      (x : Ptr Operation) → Has x (n ∷ ns) → g.item (Whole x) ≡ false
  kept_more n ns here others x h = ⊎_elim (λ q. subst (λ z. g.item (Whole z) ≡ false) (sym q) here) (others x) h

  members_more : (u : KitTree) (us : List KitTree) → MembersStand t u → ((x : KitTree) → Has x us → MembersStand t x) → (x : KitTree) → Has x (u ∷ us) → MembersStand t x
  members_more u us here others x h = ⊎_elim (λ q. subst (MembersStand t) (sym q) here) (others x) h

  walk : (u : KitTree) (ar br : Option KitAround) (outer : List KitTree) (up : Standing t (record { op = u; around = ar }) outer)
      (new_up : Standing (thin_tree g t) (record { op = thin_tree g u; around = br }) (map (thin_tree g) outer)) →
      ((x : Ptr Operation) → Has x up.spot.around → g.item (Whole x) ≡ false) →
      ((x : KitTree) → Has x (u ∷ outer) → MembersStand t x) →
      Came (record { op = thin_tree g u; around = br }) → (p : List ℕ) (s : KitSite) →
      site_from (record { op = thin_tree g u; around = br }) (map (thin_tree g) outer) p ≡ Some s → Came s
  walk u ar br outer up new_up kept members came [] s e = subst Came (some_same (record { op = thin_tree g u; around = br }) s e) came
  walk u ar br outer up new_up kept members came (r ∷ []) s e = absurd (none_some s e)
  walk u ar br outer up new_up kept members came (r ∷ b ∷ []) s e = absurd (none_some s e)
  walk u ar br outer up new_up kept members came (r ∷ b ∷ k ∷ p) s e =
      let here : KitSite = record { op = u; around = ar } in
      let there : KitSite = record { op = thin_tree g u; around = br } in
      let st = stepped there (map (thin_tree g) outer) r b k p s e in
      let x = map_at (λ (bs : Listed KitOperation KitBlock Blocks). thin kit g bs) (region_list u.regions) r st.blocks (sym (ap (λ l. slice_get l r) (regions_thin g u.regions)) ∙ st.region_here) in
      let y = map_at (thin_body g) (block_list x.0) b st.body (sym (ap (λ l. slice_get l b) (blocks_thin g x.0)) ∙ (ap (λ (z : Listed KitOperation KitBlock Blocks). slice_get (block_list z) b) x.2 ∙ st.block_here)) in
      let body : KitBody = y.0 in
      let o = origin (goes g) (thin_tree g) (operation_list body.operations) k st.op (sym (ap (λ l. slice_get l k) (operations_thin g body.operations)) ∙ (ap (λ (z : KitBody). slice_get (operation_list z.operations) k) y.2 ∙ st.op_here)) in
      let a : KitAround = record { owner = u; outer = outer; blocks = x.0; number = b; body = body; index = o.index } in
      let c = child_of t here outer up r b o.index x.0 body o.it x.1 y.1 o.here in
      let new_region : slice_get (region_list (thin kit g u.regions)) r ≡ Some (thin kit g x.0) = st.region_here ∙ ap Some (sym x.2) in
      let new_block : slice_get (block_list (thin kit g x.0)) b ≡ Some (thin_body g body) = ap (λ (z : Listed KitOperation KitBlock Blocks). slice_get (block_list z) b) x.2 ∙ (st.block_here ∙ ap Some (sym y.2)) in
      let new_op : slice_get (operation_list (thin kit g body.operations)) k ≡ Some (thin_tree g o.it) = ap (λ (z : KitBody). slice_get (operation_list z.operations) k) y.2 ∙ (st.op_here ∙ ap Some (sym o.is)) in
      let d = child_of (thin_tree g t) there (map (thin_tree g) outer) new_up r b k (thin kit g x.0) (thin_body g body) (thin_tree g o.it) new_region new_block new_op in
      let same : step_to there (map (thin_tree g) outer) (thin kit g x.0) b (thin_body g body) k (thin_tree g o.it) ≡ step_to there (map (thin_tree g) outer) st.blocks b st.body k st.op =
      λ i. step_to there (map (thin_tree g) outer) (x.2 i) b (y.2 i) k (o.is i) in
      let old : Old o.it a k = record {
        up_around = ar;
        new_around = br;
        up = up;
        new_up = new_up;
        kept = kept;
        members = members;
        region = r;
        region_here = x.1;
        new_region_here = new_region;
        block_here = y.1;
        new_block_here = new_block;
        here = o.here;
        new_here = new_op;
        stays = o.stays;
        before = o.before;
        last = o.last;
        end = o.end;
      } in
      walk o.it (Some a) (Some (thin_around g a k)) (u ∷ outer) c.standing d.standing
      (λ z h. kept_more o.it.head.name up.spot.around o.stays kept z (subst (Has z) c.further h))
      (members_more o.it (u ∷ outer) (members_stand t (step_to here outer x.0 b body o.index o.it) (u ∷ outer) c.standing) members)
      (below o.it a k old) p s (ap (λ z. site_from z (thin_tree g u ∷ map (thin_tree g) outer) p) same ∙ st.goes_on)

  pub came_from : (p : List ℕ) (s : KitSite) → site_at (thin_tree g t) p ≡ Some s → Came s
  came_from p s e = walk t None None [] (stands_root t) (stands_root (thin_tree g t)) (λ x h. absurd h)
      (λ x h. ⊎_elim (λ q. subst (MembersStand t) (sym q) (members_stand t (record { op = t; around = None }) [] (stands_root t))) (λ n. absurd n) h)
      at_root p s e
