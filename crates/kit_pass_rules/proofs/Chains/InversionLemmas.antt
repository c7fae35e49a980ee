-- What the lists of a tree whose chains are joined have come from, list by list.
use Rattle.std.proofs.Common.{◌≡◌, ◌⊎◌, inl, inr, ℕ, zero, suc, ◌∷◌, length, Option, Some}
use Rattle.std.proofs.Common.{None, slice_get, refl, ap, subst}
use Rattle.ir_program.specs.declared.handles.Ptr.{Ptr}
use Rattle.ir_program.specs.declared.handles.BasicBlock.{BasicBlock}
use Rattle.ir_trees.specs.Stands.{by_handle, in_program}
use Rattle.ir_trees.specs.Trees.{Sort, Operations, Blocks, Regions, end, operation, block, region}
use Rattle.kit.specs.Context.{KitTree}
use Rattle.kit.specs.Meaning.{KitOperation, KitBlock, kit}
use Rattle.kit_checks.specs.Sites.{Listed, Body, operation_list, block_list, region_list}
use Rattle.kit_pass_rules.proofs.Chains.ListLemmas.{KitHead, heads}
use Rattle.opt_trees.specs.Occurrences.{Has, BlockOccurrence, block_occurrences_of}
use Rattle.opt_trees.specs.Simplify.{all_of, Joinable, Joins, ends, operations, regions, taken, first, chain_ends}
use Rattle.opt_trees.specs.Simplify.{chain_goes_on, but_last, append}
use Rattle.opt_trees.proofs.Lists.{some_same, none_some}

abbrev pub KitList : Sort → Type 0
KitList s = Listed KitOperation KitBlock s

abbrev pub KitBody : Type 0
KitBody = Body KitOperation KitBlock

module _ (t : KitTree) where
  abbrev pub JoinsTo : Ptr BasicBlock → Ptr BasicBlock → Type 0
  JoinsTo b c = Joinable kit (all_of t) t b c

  abbrev pub Becomes : Option (Ptr BasicBlock) → (s : Sort) → KitList s → KitList s → Type 0
  Becomes q s x u = Joins kit (all_of t) t q s x u

  -- no block is joined before this one
  abbrev pub IsHead : Ptr BasicBlock → Type 0
  IsHead b = (a : Ptr BasicBlock) → JoinsTo a b → ⊥

  -- an operation has come from the one at its index
  pub record WasOperation (x : KitList Operations) (k : ℕ) (u : KitTree) : Type 0 where
    pub it : KitTree
    pub here : slice_get (operation_list x) k ≡ Some it
    pub head : it.head ≡ u.head
    pub regions_become : Becomes None Regions it.regions u.regions

  -- a block has come from the first block of a chain, at its index or behind it
  pub record WasBlock (x : KitList Blocks) (k : ℕ) (c : KitBody) : Type 0 where
    pub number : ℕ
    pub it : KitBody
    pub here : slice_get (block_list x) number ≡ Some it
    pub label : it.label ≡ c.label
    pub is_head : IsHead it.label.name
    pub chain : Becomes (Some it.label.name) Operations it.operations c.operations

  pub record WasRegion (x : KitList Regions) (k : ℕ) (cs : KitList Blocks) : Type 0 where
    pub it : KitList Blocks
    pub here : slice_get (region_list x) k ≡ Some it
    pub becomes : Becomes None Blocks it cs

  abbrev pub AllWere : Option (Ptr BasicBlock) → (s : Sort) → KitList s → KitList s → Type 0
  AllWere (Some b) s x u = Unit {0}
  AllWere None Operations x u =
      (k : ℕ) (z : KitTree) → slice_get (operation_list u) k ≡ Some z → WasOperation x k z
  AllWere None Blocks x u = (k : ℕ) (z : KitBody) → slice_get (block_list u) k ≡ Some z → WasBlock x k z
  AllWere None Regions x u =
      (k : ℕ) (z : KitList Blocks) → slice_get (region_list u) k ≡ Some z → WasRegion x k z

  ends_were : (s : Sort) → AllWere None s end end
  ends_were Operations = λ k z e. absurd (none_some z e)
  ends_were Blocks = λ k z e. absurd (none_some z e)
  ends_were Regions = λ k z e. absurd (none_some z e)

  first_operation : (h : KitHead) (rs qs : KitList Regions) (rest more : KitList Operations) →
      Becomes None Regions rs qs →
      AllWere None Operations rest more → AllWere None Operations (operation h rs rest) (operation h qs more)
  first_operation h rs qs rest more a b zero z e = record {
    it = record { head = h; regions = rs };
    here = refl;
    head = ap (λ (w : KitTree). w.head) (some_same (record { head = h; regions = qs }) z e);
    regions_become = subst (λ (w : KitTree). Becomes None Regions rs w.regions)
        (some_same (record { head = h; regions = qs }) z e) a;
  }
  first_operation h rs qs rest more a b (suc k) z e =
      let w = b k z e in record { it = w.it; here = w.here; head = w.head; regions_become = w.regions_become }

  first_region : (bs cs : KitList Blocks) (rest more : KitList Regions) → Becomes None Blocks bs cs →
      AllWere None Regions rest more → AllWere None Regions (region bs rest) (region cs more)
  first_region bs cs rest more a b zero z e =
      record { it = bs; here = refl; becomes = subst (Becomes None Blocks bs) (some_same cs z e) a }
  first_region bs cs rest more a b (suc k) z e = let w = b k z e in
      record { it = w.it; here = w.here; becomes = w.becomes }

  abbrev later_block : (y : KitBody) (rest : KitList Blocks) (k j : ℕ) (z : KitBody) → WasBlock rest k z →
      WasBlock (block y.label y.operations rest) j z
  later_block y rest k j z w = record {
    number = suc w.number;
    it = w.it;
    here = w.here;
    label = w.label;
    is_head = w.is_head;
    chain = w.chain;
  }

  first_block : (y : KitBody) (all : KitList Operations) (rest more : KitList Blocks) → IsHead y.label.name →
      Becomes (Some y.label.name) Operations y.operations all → AllWere None Blocks rest more →
      AllWere None Blocks (block y.label y.operations rest) (block y.label all more)
  first_block y all rest more n a b zero z e = record {
    number = 0;
    it = y;
    here = refl;
    label = ap (λ (w : KitBody). w.label) (some_same (record { label = y.label; operations = all }) z e);
    is_head = n;
    chain = subst (λ (w : KitBody). Becomes (Some y.label.name) Operations y.operations w.operations)
        (some_same (record { label = y.label; operations = all }) z e) a;
  }
  first_block y all rest more n a b (suc k) z e = later_block y rest k (suc k) z (b k z e)

  pub were : (q : Option (Ptr BasicBlock)) (s : Sort) (x u : KitList s) → Becomes q s x u → AllWere q s x u
  were _ _ _ _ (ends s) = ends_were s
  were _ _ _ _ (operations h rs qs rest more a b) = first_operation h rs qs rest more a
      (were None Operations rest more b)
  were _ _ _ _ (regions bs cs rest more a b) = first_region bs cs rest more a (were None Regions rest more b)
  were _ _ _ _ (taken l ops rest more b j a) =
      let w = were None Blocks rest more a in
      λ k z e. later_block (record { label = l; operations = ops }) rest k k z (w k z e)
  were _ _ _ _ (first l ops all rest more n a b) =
      first_block (record { label = l; operations = ops }) all rest more n a (were None Blocks rest more b)
  were _ _ _ _ (chain_ends b ops own n a) = tt
  were _ _ _ _ (chain_goes_on b x ops own others all j h a c e) = tt

  -- ---- and what has become of each

  abbrev pub AllAre : Option (Ptr BasicBlock) → (s : Sort) → KitList s → KitList s → Type 0
  AllAre (Some b) s x u = Unit {0}
  AllAre None Operations x u = heads (operation_list u) ≡ heads (operation_list x)
  AllAre None Blocks x u = (k : ℕ) (z : KitBody) → slice_get (block_list x) k ≡ Some z → IsHead z.label.name →
      (j : ℕ) × (c : KitBody) × (slice_get (block_list u) j ≡ Some c) × (c.label ≡ z.label)
      × Becomes (Some z.label.name) Operations z.operations c.operations
  AllAre None Regions x u = (length (region_list u) ≡ length (region_list x))
      × ((k : ℕ) (z : KitList Blocks) → slice_get (region_list x) k ≡ Some z →
      (c : KitList Blocks) × (slice_get (region_list u) k ≡ Some c) × Becomes None Blocks z c)

  ends_are : (s : Sort) → AllAre None s end end
  ends_are Operations = refl
  ends_are Blocks = λ k z e. absurd (none_some z e)
  ends_are Regions = (refl, λ k z e. absurd (none_some z e))

  region_is : (bs cs : KitList Blocks) (rest more : KitList Regions) → Becomes None Blocks bs cs →
      AllAre None Regions rest more → AllAre None Regions (region bs rest) (region cs more)
  region_is bs cs rest more a b = (ap suc b.0, at)
    where
      at : (k : ℕ) (z : KitList Blocks) → slice_get (region_list (region bs rest)) k ≡ Some z →
          (c : KitList Blocks) × (slice_get (region_list (region cs more)) k ≡ Some c) × Becomes None Blocks z c
      at zero z e = (cs, refl, subst (λ y. Becomes None Blocks y cs) (some_same bs z e) a)
      at (suc k) z e = b.1 k z e

  taken_is : (y : KitBody) (rest more : KitList Blocks) (b : Ptr BasicBlock) → JoinsTo b y.label.name →
      AllAre None Blocks rest more → AllAre None Blocks (block y.label y.operations rest) more
  taken_is y rest more b j a zero z e n =
      absurd (n b (subst (λ (w : KitBody). JoinsTo b w.label.name)
      (some_same (record { label = y.label; operations = y.operations }) z e) j))
  taken_is y rest more b j a (suc k) z e n = a k z e n

  first_is : (y : KitBody) (all : KitList Operations) (rest more : KitList Blocks) →
      Becomes (Some y.label.name) Operations y.operations all → AllAre None Blocks rest more →
      AllAre None Blocks (block y.label y.operations rest) (block y.label all more)
  first_is y all rest more a b zero z e n =
      let same : y ≡ z = some_same (record { label = y.label; operations = y.operations }) z e in (
        0,
        record { label = y.label; operations = all },
        refl,
        ap (λ (w : KitBody). w.label) same,
        subst (λ (w : KitBody). Becomes (Some w.label.name) Operations w.operations all) same a,
      )
  first_is y all rest more a b (suc k) z e n = let w = b k z e n in (suc w.0, w.1, w.2, w.3, w.4)

  pub are : (q : Option (Ptr BasicBlock)) (s : Sort) (x u : KitList s) → Becomes q s x u → AllAre q s x u
  are _ _ _ _ (ends s) = ends_are s
  are _ _ _ _ (operations h rs qs rest more a b) = ap (λ l. h ∷ l) (are None Operations rest more b)
  are _ _ _ _ (regions bs cs rest more a b) = region_is bs cs rest more a (are None Regions rest more b)
  are _ _ _ _ (taken l ops rest more b j a) =
      taken_is (record { label = l; operations = ops }) rest more b j (are None Blocks rest more a)
  are _ _ _ _ (first l ops all rest more n a b) =
      first_is (record { label = l; operations = ops }) all rest more a (are None Blocks rest more b)
  are _ _ _ _ (chain_ends b ops own n a) = tt
  are _ _ _ _ (chain_goes_on b x ops own others all j h a c e) = tt

  -- ---- the entry, and the two ways that a chain goes

  -- where its first block is no later block of a chain, that is the first afterwards
  abbrev pub EntryIs : Option (Ptr BasicBlock) → (s : Sort) → KitList s → KitList s → Type 0
  EntryIs (Some b) s x u = Unit {0}
  EntryIs None Operations x u = Unit {0}
  EntryIs None Regions x u = Unit {0}
  EntryIs None Blocks x u = (e : KitBody) → slice_get (block_list x) 0 ≡ Some e → IsHead e.label.name →
      (c : KitBody) × (slice_get (block_list u) 0 ≡ Some c) × (c.label ≡ e.label)
      × Becomes (Some e.label.name) Operations e.operations c.operations
      × ((k : ℕ) (z : KitBody) → slice_get (block_list u) (suc k) ≡ Some z →
      (w : WasBlock x (suc k) z) × (i : ℕ) × (w.number ≡ suc i))

  entry_ends : (s : Sort) → EntryIs None s end end
  entry_ends Operations = tt
  entry_ends Blocks = λ e h n. absurd (none_some e h)
  entry_ends Regions = tt

  pub entry_is : (q : Option (Ptr BasicBlock)) (s : Sort) (x u : KitList s) → Becomes q s x u → EntryIs q s x u
  entry_is _ _ _ _ (ends s) = entry_ends s
  entry_is _ _ _ _ (operations h rs qs rest more a b) = tt
  entry_is _ _ _ _ (regions bs cs rest more a b) = tt
  entry_is _ _ _ _ (taken l ops rest more b j a) = λ e h n.
      absurd (n b (subst (λ (w : KitBody). JoinsTo b w.label.name)
      (some_same (record { label = l; operations = ops }) e h) j))
  entry_is _ _ _ _ (first l ops all rest more n a b) =
      let w = were None Blocks rest more b in
      λ e h m.
      let y : KitBody = record { label = l; operations = ops } in
      let same : y ≡ e = some_same y e h in (
        record { label = l; operations = all },
        refl,
        ap (λ (w : KitBody). w.label) same,
        subst (λ (w : KitBody). Becomes (Some w.label.name) Operations w.operations all) same a,
        λ k z q. (later_block y rest k (suc k) z (w k z q), (w k z q).number, refl),
      )
  entry_is _ _ _ _ (chain_ends b ops own n a) = tt
  entry_is _ _ _ _ (chain_goes_on b x ops own others all j h a c e) = tt

  -- the chain goes on behind a block
  pub record GoesOn (b : Ptr BasicBlock) (ops all : KitList Operations) : Type 0 where
    pub next : BlockOccurrence by_handle (in_program KitOperation KitBlock)
    pub joins : JoinsTo b next.label.name
    pub stands : Has next (block_occurrences_of t)
    pub own : KitList Operations
    pub others : KitList Operations
    pub becomes : Becomes None Operations (but_last ops) own
    pub chain : Becomes (Some next.label.name) Operations next.operations others
    pub is : all ≡ append own others

  pub record Ends (b : Ptr BasicBlock) (ops all : KitList Operations) : Type 0 where
    pub none : (c : Ptr BasicBlock) → JoinsTo b c → ⊥
    pub becomes : Becomes None Operations ops all

  abbrev pub ChainIs : Option (Ptr BasicBlock) → (s : Sort) → KitList s → KitList s → Type 0
  ChainIs None s x u = Unit {0}
  ChainIs (Some b) Operations x u = Ends b x u ⊎ GoesOn b x u
  ChainIs (Some b) Blocks x u = Unit {0}
  ChainIs (Some b) Regions x u = Unit {0}

  pub chain_is : (q : Option (Ptr BasicBlock)) (s : Sort) (x u : KitList s) → Becomes q s x u → ChainIs q s x u
  chain_is _ _ _ _ (ends s) = tt
  chain_is _ _ _ _ (operations h rs qs rest more a b) = tt
  chain_is _ _ _ _ (regions bs cs rest more a b) = tt
  chain_is _ _ _ _ (taken l ops rest more b j a) = tt
  chain_is _ _ _ _ (first l ops all rest more n a b) = tt
  chain_is _ _ _ _ (chain_ends b ops own n a) = inl (record { none = n; becomes = a })
  chain_is _ _ _ _ (chain_goes_on b x ops own others all j h a c e) =
      inr (record { next = x; joins = j; stands = h; own = own; others = others; becomes = a; chain = c; is = e })
