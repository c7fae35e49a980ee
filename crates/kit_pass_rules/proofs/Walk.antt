-- The operation at a place of a tree is among the occurrences of the tree, and so are those in it.
use Rattle.std.proofs.Common.{◌≡◌, inl, inr, ℕ, zero, suc, true, List, [], ◌∷◌, ◌++◌, Some, None, slice_get, option_and_then, refl, sym, ap, ◌∙◌, subst}
use Rattle.ir_trees.specs.Stands.{by_handle, in_program, ProgramTree}
use Rattle.ir_trees.specs.Trees.{Operations, Blocks, Regions, end, operation, block, region}
use Rattle.opt_trees.specs.Occurrences.{Has, Spot, OperationSite as OccurrenceSite, Occurrence, BlockOccurrence, inner, next_block, next_region, occurrences_in, block_occurrences_in, occurrences_of, block_occurrences_of, at_root}
use Rattle.opt_trees.proofs.Lists.{some_same, none_some}
use Rattle.opt_trees.proofs.NoneDead.{has-left, has-right}
use Rattle.kit_checks.specs.Sites.{Listed, Body, Site, operation_list, block_list, region_list, site_from, site_at}
use Rattle.kit_checks.proofs.Down.{step_to}

abbrev pub SpotOf : Type 0 → Type 0 → Type 0
SpotOf O B = Spot by_handle (in_program O B)

abbrev pub SiteOf : Type 0 → Type 0 → Type 0
SiteOf O B = OccurrenceSite by_handle (in_program O B)

abbrev pub OccurrenceOf : Type 0 → Type 0 → Type 0
OccurrenceOf O B = Occurrence by_handle (in_program O B)

abbrev pub BlockOf : Type 0 → Type 0 → Type 0
BlockOf O B = BlockOccurrence by_handle (in_program O B)

module _ {O B : Type 0} where
  abbrev pub block_of : SpotOf O B → Body O B → BlockOf O B
  block_of c body = record { spot = c; label = body.label; operations = body.operations }

  abbrev pub within : SpotOf O B → Body O B → SiteOf O B
  within c body = record { spot = c; label = body.label }

  abbrev pub occurrence_of : SiteOf O B → ProgramTree O B → OccurrenceOf O B
  occurrence_of c u = record { site = c; head = u.head; regions = u.regions }

  -- where a region of the list is
  record RegionPlace (rs : Listed O B Regions) (c : SpotOf O B) (blocks : Listed O B Blocks) : Type 0 where
    pub spot : SpotOf O B
    pub owner : spot.owner ≡ c.owner
    pub around : spot.around ≡ c.around
    pub first : spot.first ≡ c.first
    pub operations : (o : OccurrenceOf O B) → Has o (occurrences_in blocks spot) → Has o (occurrences_in rs c)
    pub blocks_in : (x : BlockOf O B) → Has x (block_occurrences_in blocks spot) → Has x (block_occurrences_in rs c)

  region_place : (rs : Listed O B Regions) (c : SpotOf O B) (r : ℕ) (blocks : Listed O B Blocks) →
      slice_get (region_list rs) r ≡ Some blocks → RegionPlace rs c blocks
  region_place end c r blocks e = absurd (none_some blocks e)
  region_place (region bs rest) c zero blocks e = let q : bs ≡ blocks = some_same bs blocks e in record {
    spot = c;
    owner = refl;
    around = refl;
    first = refl;
    operations = λ o h. has-left o (occurrences_in bs c) (occurrences_in rest (next_region c)) (subst (λ z. Has o (occurrences_in z c)) (sym q) h);
    blocks_in = λ x h. has-left x (block_occurrences_in bs c) (block_occurrences_in rest (next_region c)) (subst (λ z. Has x (block_occurrences_in z c)) (sym q) h);
  }
  region_place (region bs rest) c (suc r) blocks e = let p = region_place rest (next_region c) r blocks e in record {
    spot = p.spot;
    owner = p.owner;
    around = p.around;
    first = p.first;
    operations = λ o h. has-right o (occurrences_in bs c) (occurrences_in rest (next_region c)) (p.operations o h);
    blocks_in = λ x h. has-right x (block_occurrences_in bs c) (block_occurrences_in rest (next_region c)) (p.blocks_in x h);
  }

  -- where a block of the list is
  record BlockPlace (bs : Listed O B Blocks) (c : SpotOf O B) (n : ℕ) (body : Body O B) : Type 0 where
    pub spot : SpotOf O B
    pub owner : spot.owner ≡ c.owner
    pub around : spot.around ≡ c.around
    pub first : n ≡ 0 → spot.first ≡ c.first
    pub here : Has (block_of spot body) (block_occurrences_in bs c)
    pub operations : (o : OccurrenceOf O B) → Has o (occurrences_in body.operations (within spot body)) → Has o (occurrences_in bs c)
    pub blocks_in : (x : BlockOf O B) → Has x (block_occurrences_in body.operations (within spot body)) → Has x (block_occurrences_in bs c)

  block_place : (bs : Listed O B Blocks) (c : SpotOf O B) (n : ℕ) (body : Body O B) →
      slice_get (block_list bs) n ≡ Some body → BlockPlace bs c n body
  block_place end c n body e = absurd (none_some body e)
  block_place (block l ops rest) c zero body e =
      subst (BlockPlace (block l ops rest) c 0) (some_same (record { label = l; operations = ops }) body e) (record {
        spot = c;
        owner = refl;
        around = refl;
        first = λ z. refl;
        here = inl refl;
        operations = λ o h. has-left o (occurrences_in ops (record { spot = c; label = l })) (occurrences_in rest (next_block c)) h;
        blocks_in = λ x h. inr (has-left x (block_occurrences_in ops (record { spot = c; label = l })) (block_occurrences_in rest (next_block c)) h);
      })
  block_place (block l ops rest) c (suc n) body e = let p = block_place rest (next_block c) n body e in record {
    spot = p.spot;
    owner = p.owner;
    around = p.around;
    first = λ z. absurd (cc z);
    here = inr (has-right (block_of p.spot body) (block_occurrences_in ops (record { spot = c; label = l })) (block_occurrences_in rest (next_block c)) p.here);
    operations = λ o h. has-right o (occurrences_in ops (record { spot = c; label = l })) (occurrences_in rest (next_block c)) (p.operations o h);
    blocks_in = λ x h. inr (has-right x (block_occurrences_in ops (record { spot = c; label = l })) (block_occurrences_in rest (next_block c)) (p.blocks_in x h));
  }

  -- where an operation of the list is
  record OperationPlace (ops : Listed O B Operations) (c : SiteOf O B) (u : ProgramTree O B) : Type 0 where
    pub here : Has (occurrence_of c u) (occurrences_in ops c)
    pub operations : (o : OccurrenceOf O B) → Has o (occurrences_in u.regions (inner u.head c)) → Has o (occurrences_in ops c)
    pub blocks_in : (x : BlockOf O B) → Has x (block_occurrences_in u.regions (inner u.head c)) → Has x (block_occurrences_in ops c)

  operation_place : (ops : Listed O B Operations) (c : SiteOf O B) (k : ℕ) (u : ProgramTree O B) →
      slice_get (operation_list ops) k ≡ Some u → OperationPlace ops c u
  operation_place end c k u e = absurd (none_some u e)
  operation_place (operation h rs rest) c zero u e =
      subst (OperationPlace (operation h rs rest) c) (some_same (record { head = h; regions = rs }) u e) (record {
        here = inl refl;
        operations = λ o i. inr (has-left o (occurrences_in rs (inner h c)) (occurrences_in rest c) i);
        blocks_in = λ x i. has-left x (block_occurrences_in rs (inner h c)) (block_occurrences_in rest c) i;
      })
  operation_place (operation h rs rest) c (suc k) u e = let p = operation_place rest c k u e in record {
    here = inr (has-right (occurrence_of c u) (occurrences_in rs (inner h c)) (occurrences_in rest c) p.here);
    operations = λ o i. inr (has-right o (occurrences_in rs (inner h c)) (occurrences_in rest c) (p.operations o i));
    blocks_in = λ x i. has-right x (block_occurrences_in rs (inner h c)) (block_occurrences_in rest c) (p.blocks_in x i);
  }

-- lists put together
append_three : {X : Type 0} (xs ys zs : List X) → (xs ++ ys) ++ zs ≡ xs ++ (ys ++ zs)
append_three [] ys zs = refl
append_three (x ∷ xs) ys zs = ap (λ l. x ∷ l) (append_three xs ys zs)

module _ {O B : Type 0} (t : ProgramTree O B) where
  -- an operation of the tree, with what is in it
  pub record Standing (s : Site O B) (outer : List (ProgramTree O B)) : Type 0 where
    pub prefix : List ℕ
    pub reaches : (q : List ℕ) → site_at t (prefix ++ q) ≡ site_from s outer q
    pub spot : SpotOf O B
    pub owner : spot.owner ≡ s.op.head
    pub first : spot.first ≡ true
    pub operations : (o : OccurrenceOf O B) → Has o (occurrences_in s.op.regions spot) → Has o (occurrences_of t)
    pub blocks_in : (x : BlockOf O B) → Has x (block_occurrences_in s.op.regions spot) → Has x (block_occurrences_of t)

  abbrev pub stands_root : Standing (record { op = t; around = None }) []
  stands_root = record {
    prefix = [];
    reaches = λ q. refl;
    spot = at_root t;
    owner = refl;
    first = refl;
    operations = λ o h. h;
    blocks_in = λ x h. h;
  }

  -- one step down to an operation of a block of a region
  pub record Child (s : Site O B) (outer : List (ProgramTree O B)) (up : Standing s outer) (b : ℕ) (body : Body O B) (u : ProgramTree O B) (child : Site O B) : Type 0 where
    pub standing : Standing child (s.op ∷ outer)
    pub spot : SpotOf O B
    pub owner : spot.owner ≡ s.op.head
    pub around : spot.around ≡ up.spot.around
    pub further : standing.spot.around ≡ u.head.name ∷ up.spot.around
    pub first : b ≡ 0 → spot.first ≡ true
    pub block : Has (block_of spot body) (block_occurrences_of t)
    pub here : Has (occurrence_of (within spot body) u) (occurrences_of t)
    pub place : List ℕ
    pub at_place : site_at t place ≡ Some child

  goes : (s : Site O B) (outer : List (ProgramTree O B)) (r b k : ℕ) (blocks : Listed O B Blocks) (body : Body O B) (u : ProgramTree O B) →
      slice_get (region_list s.op.regions) r ≡ Some blocks → slice_get (block_list blocks) b ≡ Some body → slice_get (operation_list body.operations) k ≡ Some u →
      (q : List ℕ) → site_from s outer (r ∷ b ∷ k ∷ q) ≡ site_from (step_to s outer blocks b body k u) (s.op ∷ outer) q
  goes s outer r b k blocks body u hr hb hk q =
      ap (option_and_then (λ blocks. option_and_then (λ (body : Body O B). option_and_then (λ (op : ProgramTree O B). site_from (step_to s outer blocks b body k op) (s.op ∷ outer) q) (slice_get (operation_list body.operations) k)) (slice_get (block_list blocks) b))) hr
      ∙ (ap (option_and_then (λ (body : Body O B). option_and_then (λ (op : ProgramTree O B). site_from (step_to s outer blocks b body k op) (s.op ∷ outer) q) (slice_get (operation_list body.operations) k))) hb
      ∙ ap (option_and_then (λ (op : ProgramTree O B). site_from (step_to s outer blocks b body k op) (s.op ∷ outer) q)) hk)

  pub child_of : (s : Site O B) (outer : List (ProgramTree O B)) (up : Standing s outer) (r b k : ℕ) (blocks : Listed O B Blocks) (body : Body O B) (u : ProgramTree O B) →
      slice_get (region_list s.op.regions) r ≡ Some blocks → slice_get (block_list blocks) b ≡ Some body → slice_get (operation_list body.operations) k ≡ Some u →
      Child s outer up b body u (step_to s outer blocks b body k u)
  child_of s outer up r b k blocks body u hr hb hk =
      let x = region_place s.op.regions up.spot r blocks hr in
      let y = block_place blocks x.spot b body hb in
      let z = operation_place body.operations (within y.spot body) k u hk in
      let reaches : (q : List ℕ) → site_at t ((up.prefix ++ r ∷ b ∷ k ∷ []) ++ q) ≡ site_from (step_to s outer blocks b body k u) (s.op ∷ outer) q =
      λ q. ap (site_at t) (append_three up.prefix (r ∷ b ∷ k ∷ []) q) ∙ (up.reaches (r ∷ b ∷ k ∷ q) ∙ goes s outer r b k blocks body u hr hb hk q) in
      record {
        standing = record {
          prefix = up.prefix ++ r ∷ b ∷ k ∷ [];
          reaches = reaches;
          spot = inner u.head (within y.spot body);
          owner = refl;
          first = refl;
          operations = λ o h. up.operations o (x.operations o (y.operations o (z.operations o h)));
          blocks_in = λ o h. up.blocks_in o (x.blocks_in o (y.blocks_in o (z.blocks_in o h)));
        };
        spot = y.spot;
        owner = y.owner ∙ (x.owner ∙ up.owner);
        around = y.around ∙ x.around;
        further = ap (λ l. u.head.name ∷ l) (y.around ∙ x.around);
        first = λ e. y.first e ∙ (x.first ∙ up.first);
        block = up.blocks_in (block_of y.spot body) (x.blocks_in (block_of y.spot body) y.here);
        here = up.operations (occurrence_of (within y.spot body) u) (x.operations (occurrence_of (within y.spot body) u) (y.operations (occurrence_of (within y.spot body) u) z.here));
        place = up.prefix ++ r ∷ b ∷ k ∷ [];
        at_place = up.reaches (r ∷ b ∷ k ∷ []) ∙ goes s outer r b k blocks body u hr hb hk [];
      }

  -- a block of a region of the operation
  pub record BlockHere (s : Site O B) (n : ℕ) (body : Body O B) : Type 0 where
    pub spot : SpotOf O B
    pub owner : spot.owner ≡ s.op.head
    pub first : n ≡ 0 → spot.first ≡ true
    pub block : Has (block_of spot body) (block_occurrences_of t)

  pub block_here : (s : Site O B) (outer : List (ProgramTree O B)) (up : Standing s outer) (r b : ℕ) (blocks : Listed O B Blocks) (body : Body O B) →
      slice_get (region_list s.op.regions) r ≡ Some blocks → slice_get (block_list blocks) b ≡ Some body → BlockHere s b body
  block_here s outer up r b blocks body hr hb =
      let x = region_place s.op.regions up.spot r blocks hr in
      let y = block_place blocks x.spot b body hb in
      record {
        spot = y.spot;
        owner = y.owner ∙ (x.owner ∙ up.owner);
        first = λ e. y.first e ∙ (x.first ∙ up.first);
        block = up.blocks_in (block_of y.spot body) (x.blocks_in (block_of y.spot body) y.here);
      }
