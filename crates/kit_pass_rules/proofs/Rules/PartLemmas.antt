-- The parts of an operation whose chains are joined: its regions, the labels of its blocks, its entry, and of a module
-- its members.
use Rattle.std.proofs.Common.{◌≡◌, ⊎_elim, ℕ, zero, suc, ◌<◌, Bool, true, false, cond, List, []}
use Rattle.std.proofs.Common.{◌∷◌, map, length, Option, Some, None, slice_get, option_and_then, refl, sym, ap}
use Rattle.std.proofs.Common.{◌∙◌, subst, arith}
use Rattle.ir_base.specs.declared.types.TypeHandle.{TypeHandle}
use Rattle.ir_program.specs.declared.handles.Value.{Value}
use Rattle.ir_trees.specs.Searched.{Lists}
use Rattle.ir_trees.specs.Trees.{Blocks, Regions}
use Rattle.kit.specs.Context.{KitTree}
use Rattle.kit.specs.Meaning.{kit}
use Rattle.kit_checks.specs.KitWorld.{kit_world}
use Rattle.kit_checks.specs.Rules as rules
use Rattle.kit_checks.specs.Sites.{operation_list, block_list, region_list}
use Rattle.kit_checks.specs.Words.{joined, bodies_of, members_of, entry_of, first_body, first_module, is_module}
use Rattle.kit_checks.proofs.Down.{both}
use Rattle.kit_checks.proofs.Passed.{in_joined, from_joined}
use Rattle.kit_ops.specs.declared.kinds.KitOp.{KitOp}
use Rattle.kit_ops.specs.declared.kinds.KitOp.TheVariants as ops
use Rattle.kit_ops.specs.declared.types.KitType.{KitType}
use Rattle.kit_pass_rules.specs.Laws.{IsGood}
use Rattle.kit_pass_rules.proofs.Lists.{map_get, map_at, has_at_index, index_of_has}
use Rattle.kit_pass_rules.proofs.Walk.{stands_root, child_of}
use Rattle.kit_pass_rules.specs.ChainLaws.{DefinersApart}
use Rattle.kit_pass_rules.proofs.Chains.InversionLemmas.{KitList, KitBody, Becomes, were, are, entry_is}
use Rattle.kit_pass_rules.proofs.Chains.ListLemmas.{heads}
use Rattle.kit_pass_rules.proofs.Chains.PlaceLemmas.{BlockStep, Step, site_of}
use Rattle.kit_pass_rules.proofs.Chains.ForwardedLemmas.{entry_head}
use Rattle.kit_pass_rules.proofs.Chains.ChainLemmas.{hs, module_chain}
use Rattle.kit_pass_rules.proofs.Chains.UseLemmas.{used, used_body, used_blocks, operations_used, blocks_used, regions_used}
use Rattle.kit_pass_rules.proofs.Chains.UseLemmas.{heads_used}
use Rattle.kit_pass_rules.proofs.Chains.OriginLemmas.{Became, Placed, AllBecame, chain_here}
use Rattle.opt_trees.specs.Occurrences.{Has}
use Rattle.opt_trees.specs.Simplify.{all_of, use_head, use_instead, Follows}
use Rattle.opt_trees.proofs.Lists.{some_same, none_some, length-map}

one_of : {X : Type 0} (xs : List X) → length xs ≡ 1 → (x : X) × (xs ≡ x ∷ [])
one_of [] e = absurd (omega (arith, e))
one_of (x ∷ []) e = (x, refl)
one_of (x ∷ (y ∷ xs)) e = absurd (omega (arith, e))

single_of : {X : Type 0} (xs : List X) (x : X) → slice_get xs 0 ≡ Some x →
    ((k : ℕ) (z : X) → slice_get xs (suc k) ≡ Some z → ⊥) → xs ≡ x ∷ []
single_of [] x e n = absurd (none_some x e)
single_of (y ∷ []) x e n = ap (λ z. z ∷ []) (some_same y x e)
single_of (y ∷ (z ∷ xs)) x e n = absurd (n 0 z refl)

-- the one list of one member
in_one : {X Y : Type 0} (f : X → List Y) (xs : List X) (y : Y) → map f xs ≡ (y ∷ []) ∷ [] →
    (x : X) × (xs ≡ x ∷ []) × (f x ≡ y ∷ [])
in_one f [] y e = absurd (cc e)
in_one f (x ∷ []) y e = (x, refl, first_same (f x) (y ∷ []) [] [] e)
  where
    first_same : {Z : Type 0} (a b : Z) (xs ys : List Z) → a ∷ xs ≡ b ∷ ys → a ≡ b
    first_same a b xs ys e = cc e
in_one f (x ∷ (z ∷ xs)) y e = absurd (no_second (f z) (map f xs) (f x) (y ∷ []) e)
  where
    no_second : {Z : Type 0} (c : Z) (cs : List Z) (a b : Z) → a ∷ (c ∷ cs) ≡ b ∷ [] → ⊥
    no_second c cs a b e = cc e

at_only : {X : Type 0} (k : ℕ) (x y : X) → slice_get (x ∷ []) k ≡ Some y → (k ≡ 0) × (x ≡ y)
at_only zero x y e = (refl, some_same x y e)
at_only (suc k) x y e = absurd (none_some y e)

module _ (leads : TypeHandle → Option KitType) (old : Value → Option TypeHandle) (t : KitTree)
    (good : IsGood leads old t)
    (definers : DefinersApart t) (names : Value → Value) (follows : (v : Value) →
    Follows kit (all_of t) t v (names v)) where
  abbrev BecameHere : KitTree → KitTree → Type 0
  BecameHere u v = Became leads old t good definers names follows u v

  abbrev PlacedHere : KitTree → Type 0
  PlacedHere u = Placed leads old t good definers names follows u

  -- what an operation becomes whose regions become these
  abbrev pub lit : KitTree → KitList Regions → KitTree
  lit u made = record { head = use_head names u.head; regions = use_instead names made }

  pub placed_root : PlacedHere t
  placed_root = record { s = record { op = t; around = None }; outer = []; up = stands_root t; is = refl }

  pub placed : (x : Step t) → PlacedHere x.u
  placed x =
      let b = x.in_block in
      let c = child_of t b.s b.outer b.up b.r b.b x.k b.blocks b.body x.u b.region_here b.block_here x.here in
      record { s = site_of t x; outer = b.s.op ∷ b.outer; up = c.standing; is = refl }

  module _ (u : KitTree) (made : KitList Regions) (becomes : Becomes t None Regions u.regions made) where
    pub regions_count : length (region_list (use_instead names made)) ≡ length (region_list u.regions)
    regions_count = ap length (regions_used names made) ∙ (length-map (used_blocks names) (region_list made)
        ∙ (are t None Regions u.regions made becomes).0)

    -- a region, a block afterwards, and what it was
    record BlockWas (c : KitBody) : Type 0 where
      pub r : ℕ
      pub b : ℕ
      pub bs : KitList Blocks
      pub cs : KitList Blocks
      pub region_here : slice_get (region_list u.regions) r ≡ Some bs
      pub blocks_become : Becomes t None Blocks bs cs
      pub it : KitBody
      pub here : slice_get (block_list cs) b ≡ Some it
      pub is : used_body names it ≡ c

    block_was : (c : KitBody) → Has c (bodies_of (lit u made)) → BlockWas c
    block_was c h =
        let x = from_joined block_list (region_list (use_instead names made)) c h in
        let r = index_of_has (region_list (use_instead names made)) x.0 x.1 in
        let y = map_at (used_blocks names) (region_list made) r.0 x.0
        (ap (λ l. slice_get l r.0) (sym (regions_used names made)) ∙ r.1) in
        let w = were t None Regions u.regions made becomes r.0 y.0 y.1 in
        let b = index_of_has (block_list x.0) c x.2 in
        let z = map_at (used_body names) (block_list y.0) b.0 c
        (ap (λ l. slice_get l b.0) (sym (blocks_used names y.0))
        ∙ (ap (λ (z : KitList Blocks). slice_get (block_list z) b.0) y.2 ∙ b.1)) in
        record {
          r = r.0;
          b = b.0;
          bs = w.it;
          cs = y.0;
          region_here = w.here;
          blocks_become = w.becomes;
          it = z.0;
          here = z.1;
          is = z.2;
        }

    -- the label of a block is that of one before
    pub label_was : (c : KitBody) → Has c (bodies_of (lit u made)) →
        (b : KitBody) × Has b (bodies_of u) × (b.label ≡ c.label)
    label_was c h =
        let x = block_was c h in
        let w = were t None Blocks x.bs x.cs x.blocks_become x.b x.it x.here in (
          w.it,
          in_joined block_list (region_list u.regions) x.bs w.it
              (has_at_index (region_list u.regions) x.r x.bs x.region_here)
              (has_at_index (block_list x.bs) w.number w.it w.here),
          w.label ∙ ap (λ (z : KitBody). z.label) x.is,
        )

    module _ (p : PlacedHere u) where
      abbrev regions_same : region_list p.s.op.regions ≡ region_list u.regions
      regions_same = ap (λ (z : KitTree). region_list z.regions) p.is

      -- no block of a function is empty
      pub block_filled : u.head.content.kind ≡ ops.Func → (c : KitBody) → Has c (bodies_of (lit u made)) →
          0 < length (operation_list c.operations)
      block_filled f c h =
          let x = block_was c h in
          let more = (chain_here leads old t good definers names follows p.s p.outer p.up x.r x.b x.bs x.cs
          (ap (λ l. slice_get l x.r) regions_same ∙ x.region_here) x.blocks_become x.it x.here).filled
          (ap (λ (z : KitTree). z.head.content.kind) p.is ∙ f) in
          let n : length (operation_list (use_instead names x.it.operations)) ≡ length
          (operation_list x.it.operations) =
          ap length (operations_used names x.it.operations) ∙ length-map (used names)
          (operation_list x.it.operations) in
          subst (λ (z : KitBody). 0 < length (operation_list z.operations)) x.is (omega (arith, more, n))

      -- the first block of the first region
      abbrev first_step : (r : ℕ) (bs : KitList Blocks) (e : KitBody) → slice_get (region_list u.regions) r ≡ Some bs →
          slice_get (block_list bs) 0 ≡ Some e → BlockStep t
      first_step r bs e hr he = record {
        s = p.s;
        outer = p.outer;
        up = p.up;
        r = r;
        b = 0;
        blocks = bs;
        body = e;
        region_here = ap (λ l. slice_get l r) regions_same ∙ hr;
        block_here = he;
      }

      pub entry_becomes : (e : KitBody) → entry_of u ≡ Some e →
          (c : KitBody) × (entry_of (lit u made) ≡ Some c) × (c.label ≡ e.label)
      entry_becomes e h =
          let x = both first_body (slice_get (region_list u.regions) 0) e h in
          let a = (are t None Regions u.regions made becomes).1 0 x.0 x.1 in
          let n = entry_head leads old t good (first_step 0 x.0 e x.1 x.2) refl in
          let y = entry_is t None Blocks x.0 a.0 a.2 e x.2 n in
          let at : slice_get (region_list (use_instead names made)) 0 ≡ Some (use_instead names a.0) =
          ap (λ l. slice_get l 0) (regions_used names made) ∙ map_get (used_blocks names) (region_list made) 0 a.0
          a.1 in
          let first : first_body (use_instead names a.0) ≡ Some (used_body names y.0) =
          ap (λ l. slice_get l 0) (blocks_used names a.0) ∙ map_get (used_body names) (block_list a.0) 0 y.0 y.1 in
          (used_body names y.0, ap (option_and_then first_body) at ∙ first, y.2)

      pub module_body : rules.HasModuleBody u → rules.HasModuleBody (lit u made)
      module_body h =
          let x = in_one block_list (region_list u.regions) h.body h.one in
          let hr : slice_get (region_list u.regions) 0 ≡ Some x.0 = ap (λ l. slice_get l 0) x.1 in
          let he : slice_get (block_list x.0) 0 ≡ Some h.body = ap (λ l. slice_get l 0) x.2 in
          let n = entry_head leads old t good (first_step 0 x.0 h.body hr he) refl in
          let made_one = one_of (region_list made) ((are t None Regions u.regions made becomes).0 ∙ ap length x.1) in
          let a = (are t None Regions u.regions made becomes).1 0 x.0 hr in
          let same : made_one.0 ≡ a.0 = some_same made_one.0 a.0 (ap (λ l. slice_get l 0) (sym made_one.1) ∙ a.1) in
          let y = entry_is t None Blocks x.0 a.0 a.2 h.body he n in
          let only = single_of (block_list a.0) y.0 y.1 (λ k z e.
          let w = y.4 k z e in
          let q = at_only w.0.number h.body w.0.it (ap (λ l. slice_get l w.0.number) (sym x.2) ∙ w.0.here) in
          let i = w.2 in
          let j = q.0 in
          absurd (omega (arith, i, j))) in
          record {
            body = used_body names y.0;
            one = ap (map block_list) (regions_used names made
                ∙ ap (map (used_blocks names)) (made_one.1 ∙ ap (λ z. z ∷ []) same))
                ∙ ap (λ z. z ∷ []) (blocks_used names a.0 ∙ ap (map (used_body names)) only);
            no_arguments = ap (λ l. l.arguments) y.2 ∙ h.no_arguments;
          }

      -- a member of a module
      pub member_becomes : u.head.content.kind ≡ ops.Module → rules.HasModuleBody u → (f : KitTree) →
          Lists (members_of u) f →
          (g : KitTree) × Lists (members_of (lit u made)) g × (g.head ≡ use_head names f.head)
      member_becomes m h f l =
          let x = in_one block_list (region_list u.regions) h.body h.one in
          let hr : slice_get (region_list u.regions) 0 ≡ Some x.0 = ap (λ l. slice_get l 0) x.1 in
          let he : slice_get (block_list x.0) 0 ≡ Some h.body = ap (λ l. slice_get l 0) x.2 in
          let first = first_step 0 x.0 h.body hr he in
          let n = entry_head leads old t good first refl in
          let a = (are t None Regions u.regions made becomes).1 0 x.0 hr in
          let y = entry_is t None Blocks x.0 a.0 a.2 h.body he n in
          let o = from_joined (λ (b : KitBody). operation_list b.operations) (bodies_of u) f
          (has_at_index (members_of u) l.0 f l.1) in
          let bodies : bodies_of u ≡ h.body ∷ [] = ap joined h.one in
          let ob : o.0 ≡ h.body = ⊎_elim (λ e. e) (λ e. absurd e) (subst (Has o.0) bodies o.1) in
          let k = index_of_has (operation_list h.body.operations) f
          (subst (λ (z : KitBody). Has f (operation_list z.operations)) ob o.2) in
          let list : heads (operation_list (use_instead names y.0.operations)) ≡ map (use_head names)
          (hs h.body.operations) =
          ap heads (operations_used names y.0.operations)
          ∙ (heads_used names (operation_list y.0.operations)
          ∙ ap (map (use_head names)) (module_chain leads old t good definers first 0 h.body he
          (ap (λ (z : KitTree). z.head.content.kind) p.is ∙ m) y.0.operations y.3)) in
          let at = map_at (λ (z : KitTree). z.head) (operation_list (use_instead names y.0.operations)) k.0
          (use_head names f.head)
          (ap (λ l. slice_get l k.0) list ∙ map_get (use_head names) (hs h.body.operations) k.0 f.head
          (map_get (λ (z : KitTree). z.head) (operation_list h.body.operations) k.0 f k.1)) in
          let made_here : slice_get (region_list (use_instead names made)) 0 ≡ Some (use_instead names a.0) =
          ap (λ l. slice_get l 0) (regions_used names made) ∙ map_get (used_blocks names) (region_list made) 0 a.0
          a.1 in
          let block_here : slice_get (block_list (use_instead names a.0)) 0 ≡ Some (used_body names y.0) =
          ap (λ l. slice_get l 0) (blocks_used names a.0) ∙ map_get (used_body names) (block_list a.0) 0 y.0 y.1 in
          let body_has = in_joined block_list (region_list (use_instead names made)) (use_instead names a.0)
          (used_body names y.0)
          (has_at_index (region_list (use_instead names made)) 0 (use_instead names a.0) made_here)
          (has_at_index (block_list (use_instead names a.0)) 0 (used_body names y.0) block_here) in
          let has = in_joined (λ (b : KitBody). operation_list b.operations) (bodies_of (lit u made))
          (used_body names y.0) at.0 body_has
          (has_at_index (operation_list (use_instead names y.0.operations)) k.0 at.0 at.1) in
          (at.0, index_of_has (members_of (lit u made)) at.0 has, at.2)

  -- the first module around has become the first one afterwards
  pub record ModuleBecame (s : KitTree) (vs : List KitTree) : Type 0 where
    pub it : KitTree
    pub placed_at : PlacedHere s
    pub became : BecameHere s it
    pub kind : s.head.content.kind ≡ ops.Module
    pub nearest : first_module (kit_world leads old) vs ≡ Some it

  pub module_became : (us vs : List KitTree) → AllBecame leads old t good definers names follows us vs → (s : KitTree) →
      first_module (kit_world leads old) us ≡ Some s → ModuleBecame s vs
  module_became [] vs a s e = absurd (none_some s e)
  module_became (u ∷ us) [] a s e = absurd a
  module_became (u ∷ us) (v ∷ vs) a s e =
      step (is_module u.head.content.kind) refl (ap (λ (z : KitTree). is_module z.head.content.kind) a.1.is) e
      (module_became us vs a.2 s)
    where
      is_kind : (k : KitOp) → is_module k ≡ true → k ≡ ops.Module
      is_kind ops.Module e = refl
      is_kind k e = absurd (cc e)

      step : (b : Bool) → is_module u.head.content.kind ≡ b →
          is_module v.head.content.kind ≡ is_module u.head.content.kind →
          cond b (Some u) (first_module (kit_world leads old) us) ≡ Some s →
          (first_module (kit_world leads old) us ≡ Some s → ModuleBecame s vs) → ModuleBecame s (v ∷ vs)
      step true q w e ih =
          let same : u ≡ s = some_same u s e in
          subst (λ z. ModuleBecame z (v ∷ vs)) same (record {
            it = v;
            placed_at = a.0;
            became = a.1;
            kind = is_kind u.head.content.kind q;
            nearest = ap (λ b. cond b (Some v) (first_module (kit_world leads old) vs)) (w ∙ q);
          })
      step false q w e ih =
          let r = ih e in
          record {
            it = r.it;
            placed_at = r.placed_at;
            became = r.became;
            kind = r.kind;
            nearest =
                ap (λ b. cond b (Some v) (first_module (kit_world leads old) vs)) (w ∙ q) ∙ r.nearest;
          }
