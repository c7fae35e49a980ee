-- Each occurrence of a tree is the operation at a place.
use Rattle.std.proofs.Common.{◌≡◌, ⊎_elim, ℕ, suc, ◌+◌, List, [], ◌∷◌, Some, None, slice_get, sym, ap, arith}
use Rattle.ir_trees.specs.Stands.{by_handle, in_program, ProgramTree}
use Rattle.ir_trees.specs.Trees.{Sort, Operations, Blocks, Regions, end, operation, block, region}
use Rattle.kit_checks.specs.Sites.{Listed, Body, Site, operation_list, block_list, region_list}
use Rattle.kit_checks.proofs.Down.{step_to}
use Rattle.kit_pass_rules.proofs.Walk.{OccurrenceOf, BlockOf, Standing, stands_root, child_of}
use Rattle.opt_trees.specs.Occurrences.{Has, Inside, inner, next_block, next_region, occurrences_in, occurrences_of, block_occurrences_in, block_occurrences_of, at_root}
use Rattle.opt_trees.proofs.NoneDead.{has-append}

module _ {O B : Type 0} (t : ProgramTree O B) where
  -- the operation at a place, of a block of a region
  pub record Located (o : OccurrenceOf O B) : Type 0 where
    pub s : Site O B
    pub outer : List (ProgramTree O B)
    pub up : Standing t s outer
    pub r : ℕ
    pub b : ℕ
    pub k : ℕ
    pub blocks : Listed O B Blocks
    pub body : Body O B
    pub u : ProgramTree O B
    pub region_here : slice_get (region_list s.op.regions) r ≡ Some blocks
    pub block_here : slice_get (block_list blocks) b ≡ Some body
    pub here : slice_get (operation_list body.operations) k ≡ Some u
    pub head : u.head ≡ o.head

  record RegionsHere (x : Listed O B Regions) : Type 0 where
    pub s : Site O B
    pub outer : List (ProgramTree O B)
    pub up : Standing t s outer
    pub n : ℕ
    pub list : (i j : ℕ) → j ≡ n + i → slice_get (region_list s.op.regions) j ≡ slice_get (region_list x) i

  record BlocksHere (x : Listed O B Blocks) : Type 0 where
    pub s : Site O B
    pub outer : List (ProgramTree O B)
    pub up : Standing t s outer
    pub r : ℕ
    pub blocks : Listed O B Blocks
    pub region_here : slice_get (region_list s.op.regions) r ≡ Some blocks
    pub n : ℕ
    pub list : (i j : ℕ) → j ≡ n + i → slice_get (block_list blocks) j ≡ slice_get (block_list x) i

  record OperationsHere (x : Listed O B Operations) : Type 0 where
    pub s : Site O B
    pub outer : List (ProgramTree O B)
    pub up : Standing t s outer
    pub r : ℕ
    pub b : ℕ
    pub blocks : Listed O B Blocks
    pub body : Body O B
    pub region_here : slice_get (region_list s.op.regions) r ≡ Some blocks
    pub block_here : slice_get (block_list blocks) b ≡ Some body
    pub n : ℕ
    pub list : (i j : ℕ) → j ≡ n + i → slice_get (operation_list body.operations) j ≡ slice_get (operation_list x) i

  abbrev Here : (s : Sort) → Listed O B s → Type 0
  Here Operations x = OperationsHere x
  Here Blocks x = BlocksHere x
  Here Regions x = RegionsHere x

  locate : {s : Sort} (x : Listed O B s) → Here s x → (c : Inside by_handle (in_program O B) s) (o : OccurrenceOf O B) → Has o (occurrences_in x c) → Located o
  locate end here c o h = absurd h
  locate (operation hd rs rest) here c o h =
      let u : ProgramTree O B = record { head = hd; regions = rs } in
      let at : slice_get (operation_list here.body.operations) here.n ≡ Some u = here.list 0 here.n (omega arith) in
      ⊎_elim
      (λ e. record {
        s = here.s;
        outer = here.outer;
        up = here.up;
        r = here.r;
        b = here.b;
        k = here.n;
        blocks = here.blocks;
        body = here.body;
        u = u;
        region_here = here.region_here;
        block_here = here.block_here;
        here = at;
        head = sym (ap (λ (z : OccurrenceOf O B). z.head) e);
      })
      (λ m. ⊎_elim
      (λ i.
      let d = child_of t here.s here.outer here.up here.r here.b here.n here.blocks here.body u here.region_here here.block_here at in
      locate rs (record {
        s = step_to here.s here.outer here.blocks here.b here.body here.n u;
        outer = here.s.op ∷ here.outer;
        up = d.standing;
        n = 0;
        list = λ i j e. let z : j ≡ i = omega (arith, e) in ap (λ z. slice_get (region_list rs) z) z;
      }) (inner hd c) o i)
      (λ i. locate rest (record {
        s = here.s;
        outer = here.outer;
        up = here.up;
        r = here.r;
        b = here.b;
        blocks = here.blocks;
        body = here.body;
        region_here = here.region_here;
        block_here = here.block_here;
        n = suc here.n;
        list = λ i j e. here.list (suc i) j (omega (arith, e));
      }) c o i)
      (has-append o (occurrences_in rs (inner hd c)) (occurrences_in rest c) m))
      h
  locate (block l os rest) here c o h =
      let body : Body O B = record { label = l; operations = os } in
      ⊎_elim
      (λ i. locate os (record {
        s = here.s;
        outer = here.outer;
        up = here.up;
        r = here.r;
        b = here.n;
        blocks = here.blocks;
        body = body;
        region_here = here.region_here;
        block_here = here.list 0 here.n (omega arith);
        n = 0;
        list = λ i j e. let z : j ≡ i = omega (arith, e) in ap (λ z. slice_get (operation_list os) z) z;
      }) (record { spot = c; label = l }) o i)
      (λ i. locate rest (record {
        s = here.s;
        outer = here.outer;
        up = here.up;
        r = here.r;
        blocks = here.blocks;
        region_here = here.region_here;
        n = suc here.n;
        list = λ i j e. here.list (suc i) j (omega (arith, e));
      }) (next_block c) o i)
      (has-append o (occurrences_in os (record { spot = c; label = l })) (occurrences_in rest (next_block c)) h)
  locate (region bs rest) here c o h = ⊎_elim
      (λ i. locate bs (record {
        s = here.s;
        outer = here.outer;
        up = here.up;
        r = here.n;
        blocks = bs;
        region_here = here.list 0 here.n (omega arith);
        n = 0;
        list = λ i j e. let z : j ≡ i = omega (arith, e) in ap (λ z. slice_get (block_list bs) z) z;
      }) c o i)
      (λ i. locate rest (record { s = here.s; outer = here.outer; up = here.up; n = suc here.n; list = λ i j e. here.list (suc i) j (omega (arith, e)) }) (next_region c) o i)
      (has-append o (occurrences_in bs c) (occurrences_in rest (next_region c)) h)

  pub located : (o : OccurrenceOf O B) → Has o (occurrences_of t) → Located o
  located o h = locate t.regions (record {
    s = record { op = t; around = None };
    outer = [];
    up = stands_root t;
    n = 0;
    list = λ i j e. let z : j ≡ i = omega (arith, e) in ap (λ z. slice_get (region_list t.regions) z) z;
  }) (at_root t) o h

module _ {O B : Type 0} (t : ProgramTree O B) where
  -- the block at a place
  pub record LocatedBlock (o : BlockOf O B) : Type 0 where
    pub s : Site O B
    pub outer : List (ProgramTree O B)
    pub up : Standing t s outer
    pub r : ℕ
    pub b : ℕ
    pub blocks : Listed O B Blocks
    pub body : Body O B
    pub region_here : slice_get (region_list s.op.regions) r ≡ Some blocks
    pub block_here : slice_get (block_list blocks) b ≡ Some body
    pub label : body.label ≡ o.label

  locate_block : {s : Sort} (x : Listed O B s) → Here t s x → (c : Inside by_handle (in_program O B) s) (o : BlockOf O B) → Has o (block_occurrences_in x c) → LocatedBlock o
  locate_block end here c o h = absurd h
  locate_block (operation hd rs rest) here c o h =
      let u : ProgramTree O B = record { head = hd; regions = rs } in
      let at : slice_get (operation_list here.body.operations) here.n ≡ Some u = here.list 0 here.n (omega arith) in
      ⊎_elim
      (λ i.
      let d = child_of t here.s here.outer here.up here.r here.b here.n here.blocks here.body u here.region_here here.block_here at in
      locate_block rs (record {
        s = step_to here.s here.outer here.blocks here.b here.body here.n u;
        outer = here.s.op ∷ here.outer;
        up = d.standing;
        n = 0;
        list = λ i j e. let z : j ≡ i = omega (arith, e) in ap (λ z. slice_get (region_list rs) z) z;
      }) (inner hd c) o i)
      (λ i. locate_block rest (record {
        s = here.s;
        outer = here.outer;
        up = here.up;
        r = here.r;
        b = here.b;
        blocks = here.blocks;
        body = here.body;
        region_here = here.region_here;
        block_here = here.block_here;
        n = suc here.n;
        list = λ i j e. here.list (suc i) j (omega (arith, e));
      }) c o i)
      (has-append o (block_occurrences_in rs (inner hd c)) (block_occurrences_in rest c) h)
  locate_block (block l os rest) here c o h =
      let body : Body O B = record { label = l; operations = os } in
      ⊎_elim
      (λ e. record {
        s = here.s;
        outer = here.outer;
        up = here.up;
        r = here.r;
        b = here.n;
        blocks = here.blocks;
        body = body;
        region_here = here.region_here;
        block_here = here.list 0 here.n (omega arith);
        label = sym (ap (λ (z : BlockOf O B). z.label) e);
      })
      (λ m. ⊎_elim
      (λ i. locate_block os (record {
        s = here.s;
        outer = here.outer;
        up = here.up;
        r = here.r;
        b = here.n;
        blocks = here.blocks;
        body = body;
        region_here = here.region_here;
        block_here = here.list 0 here.n (omega arith);
        n = 0;
        list = λ i j e. let z : j ≡ i = omega (arith, e) in ap (λ z. slice_get (operation_list os) z) z;
      }) (record { spot = c; label = l }) o i)
      (λ i. locate_block rest (record {
        s = here.s;
        outer = here.outer;
        up = here.up;
        r = here.r;
        blocks = here.blocks;
        region_here = here.region_here;
        n = suc here.n;
        list = λ i j e. here.list (suc i) j (omega (arith, e));
      }) (next_block c) o i)
      (has-append o (block_occurrences_in os (record { spot = c; label = l })) (block_occurrences_in rest (next_block c)) m))
      h
  locate_block (region bs rest) here c o h = ⊎_elim
      (λ i. locate_block bs (record {
        s = here.s;
        outer = here.outer;
        up = here.up;
        r = here.n;
        blocks = bs;
        region_here = here.list 0 here.n (omega arith);
        n = 0;
        list = λ i j e. let z : j ≡ i = omega (arith, e) in ap (λ z. slice_get (block_list bs) z) z;
      }) c o i)
      (λ i. locate_block rest (record { s = here.s; outer = here.outer; up = here.up; n = suc here.n; list = λ i j e. here.list (suc i) j (omega (arith, e)) }) (next_region c) o i)
      (has-append o (block_occurrences_in bs c) (block_occurrences_in rest (next_region c)) h)

  pub located_block : (o : BlockOf O B) → Has o (block_occurrences_of t) → LocatedBlock o
  located_block o h = locate_block t.regions (record {
    s = record { op = t; around = None };
    outer = [];
    up = stands_root t;
    n = 0;
    list = λ i j e. let z : j ≡ i = omega (arith, e) in ap (λ z. slice_get (region_list t.regions) z) z;
  }) (at_root t) o h
