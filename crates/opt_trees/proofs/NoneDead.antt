-- After dce nothing is dead.
use Rattle.std.proofs.Common.{◌≡◌, ◌⊎◌, ⊎_elim, inl, inr, ℕ, zero, suc, Bool, true, false, List, [], ◌∷◌, ◌++◌, Some, refl, sym, ap, ◌∙◌, subst}
use Rattle.std.specs.Prelude.{if◌then◌else◌}
use Rattle.std.specs.Prelude.{slice_get}
use Rattle.ir_trees.specs.Names.{Names, Contents}
use Rattle.ir_trees.specs.Renames.{names_of}
use Rattle.ir_trees.specs.Trees.{Defined, Head, Sort, Operations, Blocks, Regions, Tree, end, operation, block, region, Root}
use Rattle.opt_trees.specs.Occurrences.{Has, Occurrence, BlockOccurrence, OperationSite, Spot, Inside, inner, next_block, next_region, occurrences_in, block_occurrences_in, defined_in, occurrences_of, block_occurrences_of, at_root, Use}
use Rattle.opt_trees.specs.Dialect.{Dialect, Lawful, drop}
use Rattle.opt_trees.specs.Dce.{TreeSurroundings, Item, Whole, Slot, MayGo, MayClose, May, IsKept, CountsForOperation, IsUseOfItem, ForwardsTo, IsDead, dies, IsExcused, by_operation, by_argument, Gone, gone_at, thin_head, thin_label, thin, IsGoneExactly, IsWell}

pub has-append : {X : Type 0} (x : X) (xs ys : List X) → Has x (xs ++ ys) → Has x xs ⊎ Has x ys
has-append x [] ys h = inr h
has-append x (y ∷ xs) ys h = ⊎_elim (λ e. inl (inl e)) (λ t. ⊎_elim (λ a. inl (inr a)) (λ b. inr b) (has-append x xs ys t)) h

pub has-left : {X : Type 0} (x : X) (xs ys : List X) → Has x xs → Has x (xs ++ ys)
has-left x [] ys h = absurd h
has-left x (y ∷ xs) ys h = ⊎_elim (λ e. inl e) (λ t. inr (has-left x xs ys t)) h

pub has-right : {X : Type 0} (x : X) (xs ys : List X) → Has x ys → Has x (xs ++ ys)
has-right x [] ys h = h
has-right x (y ∷ xs) ys h = inr (has-right x xs ys h)

pub true_false : (b : Bool) → b ≡ true → b ≡ false → ⊥
true_false b e f = let x : true ≡ false = sym e ∙ f in absurd (cc x)

-- an element that isn't dropped is still somewhere
pub record Still {X : Type 0} (xs : List X) (v : X) : Type 0 where
  pub place : ℕ
  pub is : slice_get xs place ≡ Some v

pub still : {X : Type 0} (p : ℕ → Bool) (xs : List X) (i : ℕ) (v : X) → slice_get xs i ≡ Some v → p i ≡ false → Still (drop p xs) v
still p [] i v e f = record { place = i; is = e }
still p (x ∷ xs) zero v e f = subst (λ b. Still (if b then drop (λ i. p (suc i)) xs else x ∷ drop (λ i. p (suc i)) xs) v) (sym f) (record { place = 0; is = e })
still {X} p (x ∷ xs) (suc i) v e f = by_test (p 0) (still (λ i. p (suc i)) xs i v e f)
  where
    by_test : (b : Bool) → Still (drop (λ i. p (suc i)) xs) v → Still (if b then drop (λ i. p (suc i)) xs else x ∷ drop (λ i. p (suc i)) xs) v
    by_test true s = s
    by_test false s = record { place = suc s.place; is = s.is }

module _ {N : Names} {S : Contents} {A : Type 0} (d : Dialect S A) (g : Gone N) where
  -- arguments that stay, and those that don't
  pub argument_stays : (v : N.value) (vs : List (Defined N.value S.of_value)) → Has v (names_of (drop (λ i. gone_at g (slice_get vs i)) vs)) → Has v (names_of vs) × (g.item (Slot v) ≡ false)
  argument_stays v [] h = absurd h
  argument_stays v (x ∷ xs) h = by_test (g.item (Slot x.name)) refl h (argument_stays v xs)
    where
      by_test : (b : Bool) → g.item (Slot x.name) ≡ b → Has v (names_of (if b then drop (λ i. gone_at g (slice_get xs i)) xs else x ∷ drop (λ i. gone_at g (slice_get xs i)) xs)) → (Has v (names_of (drop (λ i. gone_at g (slice_get xs i)) xs)) → Has v (names_of xs) × (g.item (Slot v) ≡ false)) → Has v (names_of (x ∷ xs)) × (g.item (Slot v) ≡ false)
      by_test true e k ih = let r = ih k in (inr r.0, r.1)
      by_test false e k ih = ⊎_elim (λ q. (inl q, ap (λ z. g.item (Slot z)) q ∙ e)) (λ q. let r = ih q in (inr r.0, r.1)) k

  pub argument_goes : (v : N.value) (vs : List (Defined N.value S.of_value)) → Has v (names_of vs) → Has v (names_of (drop (λ i. gone_at g (slice_get vs i)) vs)) ⊎ (g.item (Slot v) ≡ true)
  argument_goes v [] h = absurd h
  argument_goes v (x ∷ xs) h = by_test (g.item (Slot x.name)) refl h (argument_goes v xs)
    where
      by_test : (b : Bool) → g.item (Slot x.name) ≡ b → Has v (names_of (x ∷ xs)) → (Has v (names_of xs) → Has v (names_of (drop (λ i. gone_at g (slice_get xs i)) xs)) ⊎ (g.item (Slot v) ≡ true)) → Has v (names_of (if b then drop (λ i. gone_at g (slice_get xs i)) xs else x ∷ drop (λ i. gone_at g (slice_get xs i)) xs)) ⊎ (g.item (Slot v) ≡ true)
      by_test true e k ih = ⊎_elim (λ q. inr (ap (λ z. g.item (Slot z)) q ∙ e)) ih k
      by_test false e k ih = ⊎_elim (λ q. inl (inl q)) (λ q. ⊎_elim (λ a. inl (inr a)) (λ b. inr b) (ih q)) k

  abbrev pub around_of : (s : Sort) → Inside N S s → List N.operation
  around_of Operations c = c.spot.around
  around_of Blocks c = c.around
  around_of Regions c = c.around

  abbrev pub AllStay : List N.operation → Type 0
  AllStay [] = Unit {0}
  AllStay (n ∷ ns) = (g.item (Whole n) ≡ false) × AllStay ns

  -- some operation in the list goes, or none does
  pub one_goes : (ns : List N.operation) → ((n : N.operation) × Has n ns × (g.item (Whole n) ≡ true)) ⊎ AllStay ns
  one_goes [] = inr tt
  one_goes (n ∷ ns) = by_test (g.item (Whole n)) refl (one_goes ns)
    where
      by_test : (b : Bool) → g.item (Whole n) ≡ b → ((m : N.operation) × Has m ns × (g.item (Whole m) ≡ true)) ⊎ AllStay ns → ((m : N.operation) × Has m (n ∷ ns) × (g.item (Whole m) ≡ true)) ⊎ AllStay (n ∷ ns)
      by_test true e r = inl (n, inl refl, e)
      by_test false e r = ⊎_elim (λ q. inl (q.0, inr q.1, q.2)) (λ q. inr (e, q)) r

  -- it stands in the thinned tree as what is left of it
  pub record Thinned (o p : Occurrence N S) : Type 0 where
    pub head : p.head ≡ thin_head d g o.head
    pub around : p.site.spot.around ≡ o.site.spot.around
    pub regions : p.regions ≡ thin d g o.regions

  pub record Found (os : List (Occurrence N S)) (p : Occurrence N S) : Type 0 where
    pub it : Occurrence N S
    pub stands : Has it os
    pub stays : AllStay (it.head.name ∷ it.site.spot.around)
    pub thinned : Thinned it p

  found_in : {os ps : List (Occurrence N S)} {p : Occurrence N S} → ((o : Occurrence N S) → Has o os → Has o ps) → Found os p → Found ps p
  found_in f x = record { it = x.it; stands = f x.it x.stands; stays = x.stays; thinned = x.thinned }

  pub was_there : {s : Sort} (t : Tree N S s) (c e : Inside N S s) → around_of s e ≡ around_of s c → AllStay (around_of s c) → (p : Occurrence N S) → Has p (occurrences_in (thin d g t) e) → Found (occurrences_in t c) p
  was_there end c e q a p h = absurd h
  was_there (operation k rs rest) c e q a p h =
      by_test (g.item (Whole k.name)) refl h (λ x. was_there rest c e q a p x) (λ f x. was_there rs (inner k c) (inner (thin_head d g k) e) (ap (λ l. k.name ∷ l) q) (f, a) p x)
    where
      by_test : (b : Bool) → g.item (Whole k.name) ≡ b → Has p (occurrences_in (if b then thin d g rest else operation (thin_head d g k) (thin d g rs) (thin d g rest)) e) → (Has p (occurrences_in (thin d g rest) e) → Found (occurrences_in rest c) p) → (g.item (Whole k.name) ≡ false → Has p (occurrences_in (thin d g rs) (inner (thin_head d g k) e)) → Found (occurrences_in rs (inner k c)) p) → Found (occurrences_in (operation k rs rest) c) p
      by_test true f h ih is = found_in (λ o x. inr (has-right o (occurrences_in rs (inner k c)) (occurrences_in rest c) x)) (ih h)
      by_test false f h ih is = ⊎_elim
          (λ z. record { it = record { site = c; head = k; regions = rs }; stands = inl refl; stays = (f, a); thinned = record { head = ap (λ y. y.head) z; around = ap (λ y. y.site.spot.around) z ∙ q; regions = ap (λ y. y.regions) z } })
          (λ z. ⊎_elim
          (λ x. found_in (λ o y. inr (has-left o (occurrences_in rs (inner k c)) (occurrences_in rest c) y)) (is f x))
          (λ x. found_in (λ o y. inr (has-right o (occurrences_in rs (inner k c)) (occurrences_in rest c) y)) (ih x))
          (has-append p (occurrences_in (thin d g rs) (inner (thin_head d g k) e)) (occurrences_in (thin d g rest) e) z)) h
  was_there (block l ops rest) c e q a p h = ⊎_elim
      (λ x. found_in (λ o y. has-left o (occurrences_in ops (record { spot = c; label = l })) (occurrences_in rest (next_block c)) y) (was_there ops (record { spot = c; label = l }) (record { spot = e; label = thin_label d g l }) q a p x))
      (λ x. found_in (λ o y. has-right o (occurrences_in ops (record { spot = c; label = l })) (occurrences_in rest (next_block c)) y) (was_there rest (next_block c) (next_block e) q a p x))
      (has-append p (occurrences_in (thin d g ops) (record { spot = e; label = thin_label d g l })) (occurrences_in (thin d g rest) (next_block e)) h)
  was_there (region bs rest) c e q a p h = ⊎_elim
      (λ x. found_in (λ o y. has-left o (occurrences_in bs c) (occurrences_in rest (next_region c)) y) (was_there bs c e q a p x))
      (λ x. found_in (λ o y. has-right o (occurrences_in bs c) (occurrences_in rest (next_region c)) y) (was_there rest (next_region c) (next_region e) q a p x))
      (has-append p (occurrences_in (thin d g bs) e) (occurrences_in (thin d g rest) (next_region e)) h)

  -- what may be removed there may be removed here
  abbrev pub Removes : (c e : Spot N S) → Type 0
  Removes c e = d.can_remove e.owner.content e.region e.first ≡ d.can_remove c.owner.content c.region c.first

  -- the spot in the thinned tree, and the one before
  pub record LikeSpot (c e : Spot N S) : Type 0 where
    pub removes : (region : ℕ) (first : Bool) → d.can_remove e.owner.content region first ≡ d.can_remove c.owner.content region first
    pub region : e.region ≡ c.region
    pub first : e.first ≡ c.first

  pub like_removes : (c e : Spot N S) → LikeSpot c e → Removes c e
  like_removes c e l = l.removes e.region e.first ∙ λ i. d.can_remove c.owner.content (l.region i) (l.first i)

  abbrev pub spot_of : (s : Sort) → Inside N S s → Spot N S
  spot_of Operations c = c.spot
  spot_of Blocks c = c
  spot_of Regions c = c

  like_inner : Lawful d → (h : Head N S) (c e : OperationSite N S) → LikeSpot (inner h c) (inner (thin_head d g h) e)
  like_inner law h c e = record { removes = λ i f. law.drop_removes h.content (g.operand h.name) i f; region = refl; first = refl }

  like_next : (c e : Spot N S) → LikeSpot c e → LikeSpot (next_block c) (next_block e)
  like_next c e l = record { removes = l.removes; region = l.region; first = refl }

  like_region : (c e : Spot N S) → LikeSpot c e → LikeSpot (next_region c) (next_region e)
  like_region c e l = record { removes = l.removes; region = ap suc l.region; first = l.first }

  pub record FoundBlock (xs : List (BlockOccurrence N S)) (y : BlockOccurrence N S) : Type 0 where
    pub it : BlockOccurrence N S
    pub stands : Has it xs
    pub stays : AllStay it.spot.around
    pub label : y.label ≡ thin_label d g it.label
    pub removes : Removes it.spot y.spot

  block_in : {xs ys : List (BlockOccurrence N S)} {y : BlockOccurrence N S} → ((x : BlockOccurrence N S) → Has x xs → Has x ys) → FoundBlock xs y → FoundBlock ys y
  block_in f x = record { it = x.it; stands = f x.it x.stands; stays = x.stays; label = x.label; removes = x.removes }

  pub block_was : Lawful d → {s : Sort} (t : Tree N S s) (c e : Inside N S s) → LikeSpot (spot_of s c) (spot_of s e) → AllStay (around_of s c) → (p : BlockOccurrence N S) → Has p (block_occurrences_in (thin d g t) e) → FoundBlock (block_occurrences_in t c) p
  block_was law end c e like a p h = absurd h
  block_was law (operation k rs rest) c e like a p h =
      by_test (g.item (Whole k.name)) refl h (λ x. block_was law rest c e like a p x) (λ f x. block_was law rs (inner k c) (inner (thin_head d g k) e) (like_inner law k c e) (f, a) p x)
    where
      by_test : (b : Bool) → g.item (Whole k.name) ≡ b → Has p (block_occurrences_in (if b then thin d g rest else operation (thin_head d g k) (thin d g rs) (thin d g rest)) e) → (Has p (block_occurrences_in (thin d g rest) e) → FoundBlock (block_occurrences_in rest c) p) → (g.item (Whole k.name) ≡ false → Has p (block_occurrences_in (thin d g rs) (inner (thin_head d g k) e)) → FoundBlock (block_occurrences_in rs (inner k c)) p) → FoundBlock (block_occurrences_in (operation k rs rest) c) p
      by_test true f h ih is = block_in (λ o x. has-right o (block_occurrences_in rs (inner k c)) (block_occurrences_in rest c) x) (ih h)
      by_test false f h ih is = ⊎_elim
          (λ x. block_in (λ o y. has-left o (block_occurrences_in rs (inner k c)) (block_occurrences_in rest c) y) (is f x))
          (λ x. block_in (λ o y. has-right o (block_occurrences_in rs (inner k c)) (block_occurrences_in rest c) y) (ih x))
          (has-append p (block_occurrences_in (thin d g rs) (inner (thin_head d g k) e)) (block_occurrences_in (thin d g rest) e) h)
  block_was law (block l ops rest) c e like a p h =
      let b : OperationSite N S = record { spot = c; label = l } in
      let b' : OperationSite N S = record { spot = e; label = thin_label d g l } in
      ⊎_elim
      (λ z. record { it = record { spot = c; label = l; operations = ops }; stands = inl refl; stays = a; label = ap (λ y. y.label) z; removes = ap (λ y. d.can_remove y.spot.owner.content y.spot.region y.spot.first) z ∙ like_removes c e like })
      (λ z. ⊎_elim
      (λ x. block_in (λ o y. inr (has-left o (block_occurrences_in ops b) (block_occurrences_in rest (next_block c)) y)) (block_was law ops b b' like a p x))
      (λ x. block_in (λ o y. inr (has-right o (block_occurrences_in ops b) (block_occurrences_in rest (next_block c)) y)) (block_was law rest (next_block c) (next_block e) (like_next c e like) a p x))
      (has-append p (block_occurrences_in (thin d g ops) b') (block_occurrences_in (thin d g rest) (next_block e)) z)) h
  block_was law (region bs rest) c e like a p h = ⊎_elim
      (λ x. block_in (λ o y. has-left o (block_occurrences_in bs c) (block_occurrences_in rest (next_region c)) y) (block_was law bs c e like a p x))
      (λ x. block_in (λ o y. has-right o (block_occurrences_in bs c) (block_occurrences_in rest (next_region c)) y) (block_was law rest (next_region c) (next_region e) (like_region c e like) a p x))
      (has-append p (block_occurrences_in (thin d g bs) e) (block_occurrences_in (thin d g rest) (next_region e)) h)

  -- what holds an operation that stays stays
  pub holders_stay : {s : Sort} (t : Tree N S s) (c : Inside N S s) (o : Occurrence N S) → Has o (occurrences_in t c) → AllStay o.site.spot.around → AllStay (around_of s c)
  holders_stay end c o h a = absurd h
  holders_stay (operation k rs rest) c o h a = ⊎_elim
      (λ z. subst AllStay (ap (λ y. y.site.spot.around) z) a)
      (λ z. ⊎_elim (λ x. (holders_stay rs (inner k c) o x a).1) (λ x. holders_stay rest c o x a) (has-append o (occurrences_in rs (inner k c)) (occurrences_in rest c) z)) h
  holders_stay (block l ops rest) c o h a = ⊎_elim (λ x. holders_stay ops (record { spot = c; label = l }) o x a) (λ x. holders_stay rest (next_block c) o x a) (has-append o (occurrences_in ops (record { spot = c; label = l })) (occurrences_in rest (next_block c)) h)
  holders_stay (region bs rest) c o h a = ⊎_elim (λ x. holders_stay bs c o x a) (λ x. holders_stay rest (next_region c) o x a) (has-append o (occurrences_in bs c) (occurrences_in rest (next_region c)) h)

  abbrev pub after : Bool → Head N S → Tree N S Regions → Tree N S Operations → Tree N S Operations
  after b k rs rest = if b then thin d g rest else operation (thin_head d g k) (thin d g rs) (thin d g rest)

  pub record Left (ps : List (Occurrence N S)) (o : Occurrence N S) : Type 0 where
    pub it : Occurrence N S
    pub stands : Has it ps
    pub thinned : Thinned o it

  left_in : {os ps : List (Occurrence N S)} {o : Occurrence N S} → ((x : Occurrence N S) → Has x os → Has x ps) → Left os o → Left ps o
  left_in f x = record { it = x.it; stands = f x.it x.stands; thinned = x.thinned }

  -- an operation that stays, and all that holds it, is still there
  pub still_there : {s : Sort} (t : Tree N S s) (c e : Inside N S s) → around_of s e ≡ around_of s c → (o : Occurrence N S) → Has o (occurrences_in t c) → AllStay (o.head.name ∷ o.site.spot.around) → Left (occurrences_in (thin d g t) e) o
  still_there end c e q o h a = absurd h
  still_there (operation k rs rest) c e q o h a = ⊎_elim
      (λ z. by_own (g.item (Whole k.name)) (ap (λ y. g.item (Whole y.head.name)) (sym z) ∙ a.0) z)
      (λ z. ⊎_elim
      (λ x. by_inner (g.item (Whole k.name)) (holders_stay rs (inner k c) o x a.1).0 (still_there rs (inner k c) (inner (thin_head d g k) e) (ap (λ l. k.name ∷ l) q) o x a))
      (λ x. by_rest (g.item (Whole k.name)) (still_there rest c e q o x a))
      (has-append o (occurrences_in rs (inner k c)) (occurrences_in rest c) z)) h
    where
      by_own : (b : Bool) → b ≡ false → o ≡ record { site = c; head = k; regions = rs } → Left (occurrences_in (after b k rs rest) e) o
      by_own true f z = absurd (true_false true refl f)
      by_own false f z = record { it = _; stands = inl refl; thinned = record { head = ap (λ y. thin_head d g y.head) (sym z); around = q ∙ ap (λ y. y.site.spot.around) (sym z); regions = ap (λ y. thin d g y.regions) (sym z) } }

      by_inner : (b : Bool) → b ≡ false → Left (occurrences_in (thin d g rs) (inner (thin_head d g k) e)) o → Left (occurrences_in (after b k rs rest) e) o
      by_inner true f x = absurd (true_false true refl f)
      by_inner false f x = left_in (λ y z. inr (has-left y (occurrences_in (thin d g rs) (inner (thin_head d g k) e)) (occurrences_in (thin d g rest) e) z)) x

      by_rest : (b : Bool) → Left (occurrences_in (thin d g rest) e) o → Left (occurrences_in (after b k rs rest) e) o
      by_rest true x = x
      by_rest false x = left_in (λ y z. inr (has-right y (occurrences_in (thin d g rs) (inner (thin_head d g k) e)) (occurrences_in (thin d g rest) e) z)) x
  still_there (block l ops rest) c e q o h a =
      let b : OperationSite N S = record { spot = c; label = l } in
      let b' : OperationSite N S = record { spot = e; label = thin_label d g l } in
      ⊎_elim
      (λ x. left_in (λ y z. has-left y (occurrences_in (thin d g ops) b') (occurrences_in (thin d g rest) (next_block e)) z) (still_there ops b b' q o x a))
      (λ x. left_in (λ y z. has-right y (occurrences_in (thin d g ops) b') (occurrences_in (thin d g rest) (next_block e)) z) (still_there rest (next_block c) (next_block e) q o x a))
      (has-append o (occurrences_in ops b) (occurrences_in rest (next_block c)) h)
  still_there (region bs rest) c e q o h a = ⊎_elim
      (λ x. left_in (λ y z. has-left y (occurrences_in (thin d g bs) e) (occurrences_in (thin d g rest) (next_region e)) z) (still_there bs c e q o x a))
      (λ x. left_in (λ y z. has-right y (occurrences_in (thin d g bs) e) (occurrences_in (thin d g rest) (next_region e)) z) (still_there rest (next_region c) (next_region e) q o x a))
      (has-append o (occurrences_in bs c) (occurrences_in rest (next_region c)) h)

  -- what stands inside an operation stands where it does
  pub inside_is : {s : Sort} (t : Tree N S s) (c : Inside N S s) (o p : Occurrence N S) → Has o (occurrences_in t c) → Has p (occurrences_in o.regions (inner o.head o.site)) → Has p (occurrences_in t c)
  inside_is end c o p h k = absurd h
  inside_is (operation x rs rest) c o p h k = ⊎_elim
      (λ z. inr (has-left p (occurrences_in rs (inner x c)) (occurrences_in rest c) (subst (λ y. Has p (occurrences_in y.regions (inner y.head y.site))) z k)))
      (λ z. ⊎_elim (λ y. inr (has-left p (occurrences_in rs (inner x c)) (occurrences_in rest c) (inside_is rs (inner x c) o p y k))) (λ y. inr (has-right p (occurrences_in rs (inner x c)) (occurrences_in rest c) (inside_is rest c o p y k))) (has-append o (occurrences_in rs (inner x c)) (occurrences_in rest c) z)) h
  inside_is (block l ops rest) c o p h k =
      let b : OperationSite N S = record { spot = c; label = l } in
      ⊎_elim (λ y. has-left p (occurrences_in ops b) (occurrences_in rest (next_block c)) (inside_is ops b o p y k)) (λ y. has-right p (occurrences_in ops b) (occurrences_in rest (next_block c)) (inside_is rest (next_block c) o p y k)) (has-append o (occurrences_in ops b) (occurrences_in rest (next_block c)) h)
  inside_is (region bs rest) c o p h k =
      ⊎_elim (λ y. has-left p (occurrences_in bs c) (occurrences_in rest (next_region c)) (inside_is bs c o p y k)) (λ y. has-right p (occurrences_in bs c) (occurrences_in rest (next_region c)) (inside_is rest (next_region c) o p y k)) (has-append o (occurrences_in bs c) (occurrences_in rest (next_region c)) h)

  -- a value that went: with an operation, or as an argument
  pub record Went (os : List (Occurrence N S)) (v : N.value) : Type 0 where
    pub it : Occurrence N S
    pub stands : Has it os
    pub goes : g.item (Whole it.head.name) ≡ true
    pub value : Has v (names_of it.head.results) ⊎ Has v (defined_in it.regions)

  went_in : {os ps : List (Occurrence N S)} {v : N.value} → ((x : Occurrence N S) → Has x os → Has x ps) → Went os v ⊎ (g.item (Slot v) ≡ true) → Went ps v ⊎ (g.item (Slot v) ≡ true)
  went_in f x = ⊎_elim (λ y. inl (record { it = y.it; stands = f y.it y.stands; goes = y.goes; value = y.value })) (λ y. inr y) x

  abbrev pub Goes : Bool → Head N S → Tree N S Regions → Tree N S Operations → OperationSite N S → N.value → Type 0
  Goes b k rs rest c v = Has v (defined_in (after b k rs rest)) ⊎ (Went (occurrences_in (operation k rs rest) c) v ⊎ (g.item (Slot v) ≡ true))

  pub value_goes : {s : Sort} (t : Tree N S s) (c : Inside N S s) (v : N.value) → Has v (defined_in t) → Has v (defined_in (thin d g t)) ⊎ (Went (occurrences_in t c) v ⊎ (g.item (Slot v) ≡ true))
  value_goes end c v h = absurd h
  value_goes (operation k rs rest) c v h = ⊎_elim
      (λ x. own (g.item (Whole k.name)) refl x)
      (λ x. ⊎_elim
      (λ y. inner_value (g.item (Whole k.name)) refl y (value_goes rs (inner k c) v y))
      (λ y. in_rest (g.item (Whole k.name)) (value_goes rest c v y))
      (has-append v (defined_in rs) (defined_in rest) x))
      (has-append v (names_of k.results) (defined_in rs ++ defined_in rest) h)
    where
      own : (b : Bool) → g.item (Whole k.name) ≡ b → Has v (names_of k.results) → Goes b k rs rest c v
      own true e x = inr (inl (record { it = record { site = c; head = k; regions = rs }; stands = inl refl; goes = e; value = inl x }))
      own false e x = inl (has-left v (names_of k.results) (defined_in (thin d g rs) ++ defined_in (thin d g rest)) x)

      inner_value : (b : Bool) → g.item (Whole k.name) ≡ b → Has v (defined_in rs) → Has v (defined_in (thin d g rs)) ⊎ (Went (occurrences_in rs (inner k c)) v ⊎ (g.item (Slot v) ≡ true)) → Goes b k rs rest c v
      inner_value true e y ih = inr (inl (record { it = record { site = c; head = k; regions = rs }; stands = inl refl; goes = e; value = inr y }))
      inner_value false e y ih = ⊎_elim
          (λ z. inl (has-right v (names_of k.results) (defined_in (thin d g rs) ++ defined_in (thin d g rest)) (has-left v (defined_in (thin d g rs)) (defined_in (thin d g rest)) z)))
          (λ z. inr (went_in (λ o u. inr (has-left o (occurrences_in rs (inner k c)) (occurrences_in rest c) u)) z)) ih

      in_rest : (b : Bool) → Has v (defined_in (thin d g rest)) ⊎ (Went (occurrences_in rest c) v ⊎ (g.item (Slot v) ≡ true)) → Goes b k rs rest c v
      in_rest true ih = ⊎_elim (λ z. inl z) (λ z. inr (went_in (λ o u. inr (has-right o (occurrences_in rs (inner k c)) (occurrences_in rest c) u)) z)) ih
      in_rest false ih = ⊎_elim
          (λ z. inl (has-right v (names_of k.results) (defined_in (thin d g rs) ++ defined_in (thin d g rest)) (has-right v (defined_in (thin d g rs)) (defined_in (thin d g rest)) z)))
          (λ z. inr (went_in (λ o u. inr (has-right o (occurrences_in rs (inner k c)) (occurrences_in rest c) u)) z)) ih
  value_goes (block l ops rest) c v h =
      let b : OperationSite N S = record { spot = c; label = l } in
      let l' = names_of (drop (λ i. gone_at g (slice_get l.arguments i)) l.arguments) in
      ⊎_elim
      (λ x. ⊎_elim (λ y. inl (has-left v l' (defined_in (thin d g ops) ++ defined_in (thin d g rest)) y)) (λ y. inr (inr y)) (argument_goes v l.arguments x))
      (λ x. ⊎_elim
      (λ y. ⊎_elim (λ z. inl (has-right v l' (defined_in (thin d g ops) ++ defined_in (thin d g rest)) (has-left v (defined_in (thin d g ops)) (defined_in (thin d g rest)) z))) (λ z. inr (went_in (λ o u. has-left o (occurrences_in ops b) (occurrences_in rest (next_block c)) u) z)) (value_goes ops b v y))
      (λ y. ⊎_elim (λ z. inl (has-right v l' (defined_in (thin d g ops) ++ defined_in (thin d g rest)) (has-right v (defined_in (thin d g ops)) (defined_in (thin d g rest)) z))) (λ z. inr (went_in (λ o u. has-right o (occurrences_in ops b) (occurrences_in rest (next_block c)) u) z)) (value_goes rest (next_block c) v y))
      (has-append v (defined_in ops) (defined_in rest) x))
      (has-append v (names_of l.arguments) (defined_in ops ++ defined_in rest) h)
  value_goes (region bs rest) c v h = ⊎_elim
      (λ y. ⊎_elim (λ z. inl (has-left v (defined_in (thin d g bs)) (defined_in (thin d g rest)) z)) (λ z. inr (went_in (λ o u. has-left o (occurrences_in bs c) (occurrences_in rest (next_region c)) u) z)) (value_goes bs c v y))
      (λ y. ⊎_elim (λ z. inl (has-right v (defined_in (thin d g bs)) (defined_in (thin d g rest)) z)) (λ z. inr (went_in (λ o u. has-right o (occurrences_in bs c) (occurrences_in rest (next_region c)) u) z)) (value_goes rest (next_region c) v y))
      (has-append v (defined_in bs) (defined_in rest) h)

module _ {N : Names} {S : Contents} {A : Type 0} (d : Dialect S A) (lawful : Lawful d) (w : TreeSurroundings N A) (t : Root N S) (g : Gone N) (is : IsGoneExactly d w t g) (well : IsWell d t) where
  abbrev u : Root N S
  u = record { head = t.head; regions = thin d g t.regions }

  found : (p : Occurrence N S) → Has p (occurrences_of u) → Found d g (occurrences_of t) p
  found p h = was_there d g t.regions (at_root t) (at_root u) refl tt p h

  left : (o : Occurrence N S) → Has o (occurrences_of t) → AllStay d g (o.head.name ∷ o.site.spot.around) → Left d g (occurrences_of u) o
  left o h a = still_there d g t.regions (at_root t) (at_root u) refl o h a

  stays_in : (n : N.operation) (ns : List N.operation) → AllStay d g ns → Has n ns → g.item (Whole n) ≡ false
  stays_in n [] a h = absurd h
  stays_in n (m ∷ ns) a h = ⊎_elim (λ e. ap (λ z. g.item (Whole z)) e ∙ a.0) (λ k. stays_in n ns a.1 k) h

  -- a terminator isn't dead
  may_of : (x : Item N) → IsDead d w t x → May d t x
  may_of _ (dies x may kept uses) = may

  ends_not : (o : Occurrence N S) → Has o (occurrences_of t) → d.is_terminator o.head.content ≡ true → IsDead d w t (Whole o.head.name) → ⊥
  ends_not o h e dead =
      let m = may_of (Whole o.head.name) dead in
      true_false (d.is_terminator o.head.content) e (ap (λ x. d.is_terminator x.head.content) (well.apart o m.it h m.stands (sym m.name)) ∙ m.no_terminator)

  -- an operand of an operation that stays is excused, or still there
  operand_left : (o : Occurrence N S) (i : ℕ) (v : N.value) → Use t v o i → ((p : Occurrence N S) (j : ℕ) → p.site.spot.around ≡ o.site.spot.around → Use u v p j → ⊥) → IsExcused d w t o i
  operand_left o i v ue none = ⊎_elim
      (λ x. by_operation o i x.0 x.1 (is.dead (Whole x.0) x.2))
      (λ a. by_test a (g.operand o.head.name i) refl) (one_goes d g (o.head.name ∷ o.site.spot.around))
    where
      by_test : AllStay d g (o.head.name ∷ o.site.spot.around) → (b : Bool) → g.operand o.head.name i ≡ b → IsExcused d w t o i
      by_test a true e =
          let l = is.lost o.head.name i e in
          let same : l.user ≡ o = well.apart l.user o l.stands ue.stands l.name in
          by_argument o i l.argument (subst (λ x. ForwardsTo d t x i l.argument) same l.forwards) l.dead
      by_test a false e =
          let p = left o ue.stands a in
          let s = still (g.operand o.head.name) o.head.operands i v ue.operand e in
          absurd (none p.it s.place p.thinned.around (record { stands = p.stands; operand = ap (λ h. slice_get h.operands s.place) p.thinned.head ∙ s.is }))

  -- what stays of an operation that stays: each value of it is still there, or went
  uses_of : (x : Item N) → IsDead d w t x → (v : N.value) (o : Occurrence N S) (i : ℕ) → IsUseOfItem t x v o → Use t v o i → IsExcused d w t o i
  uses_of _ (dies x may kept uses) v o i a b = uses v o i a b

  keeps_not : (x : Item N) → IsDead d w t x → IsKept w t x → ⊥
  keeps_not _ (dies x may kept uses) k = kept k

  -- a value that went, with what is dead, is used by the excused alone
  went_excused : (v : N.value) (o : Occurrence N S) (i : ℕ) → Went d g (occurrences_of t) v ⊎ (g.item (Slot v) ≡ true) → AllStay d g o.site.spot.around → Use t v o i → IsExcused d w t o i
  went_excused v o i x a ue = ⊎_elim
      (λ y. uses_of (Whole y.it.head.name) (is.dead (Whole y.it.head.name) y.goes) v o i
      (record { it = y.it; stands = y.stands; name = refl; value = ⊎_elim (λ z. inl z) (λ z. inr (z, λ h. true_false (g.item (Whole y.it.head.name)) y.goes (stays_in y.it.head.name o.site.spot.around a h))) y.value }) ue)
      (λ y. uses_of (Slot v) (is.dead (Slot v) y) v o i refl ue) x

  went_kept : (v : N.value) → Went d g (occurrences_of t) v ⊎ (g.item (Slot v) ≡ true) → (w.is_pinned v ≡ true) ⊎ Has v t.head.operands → ⊥
  went_kept v x k = ⊎_elim
      (λ y. keeps_not (Whole y.it.head.name) (is.dead (Whole y.it.head.name) y.goes) (v, record { it = y.it; stands = y.stands; name = refl; value = y.value }, k))
      (λ y. keeps_not (Slot v) (is.dead (Slot v) y) (v, refl, k)) x

  -- an operation that may go and that nothing needs is dead before
  whole_step : (a : N.operation) → MayGo d u a → (IsKept w u (Whole a) → ⊥) → ((v : N.value) (o : Occurrence N S) (i : ℕ) → IsUseOfItem u (Whole a) v o → Use u v o i → ⊥) → ⊥
  whole_step a may kept uses =
      let f = found may.it may.stands in
      let named : f.it.head.name ≡ a = sym (ap (λ h. h.name) f.thinned.head) ∙ may.name in
      let one : (o : Occurrence N S) → Has o (occurrences_of t) → o.head.name ≡ a → o ≡ f.it = λ o h e. well.apart o f.it h f.stands (e ∙ sym named) in
      let dead : IsDead d w t (Whole a) = dies (Whole a)
      (record { it = f.it; stands = f.stands; name = named; pure = sym (ap (λ h. d.has_effects h.content) f.thinned.head ∙ lawful.drop_effects f.it.head.content (g.operand f.it.head.name)) ∙ may.pure; no_terminator = sym (ap (λ h. d.is_terminator h.content) f.thinned.head ∙ lawful.drop_terminator f.it.head.content (g.operand f.it.head.name)) ∙ may.no_terminator })
      (λ k. let m = k.1 in
      let same = one m.it m.stands m.name in
      ⊎_elim
      (λ r. kept (k.0, record { it = may.it; stands = may.stands; name = may.name; value = inl (subst (λ h. Has k.0 (names_of h.results)) (sym f.thinned.head) (subst (λ o. Has k.0 (names_of o.head.results)) same r)) }, k.2))
      (λ r. ⊎_elim
      (λ z. kept (k.0, record { it = may.it; stands = may.stands; name = may.name; value = inr (subst (λ x. Has k.0 (defined_in x)) (sym f.thinned.regions) z) }, k.2))
      (λ z. went_kept k.0 (went_in d g (λ o h. inside_is d g t.regions (at_root t) f.it o f.stands h) z) k.2)
      (value_goes d g f.it.regions (inner f.it.head f.it.site) k.0 (subst (λ o. Has k.0 (defined_in o.regions)) same r))) m.value)
      (λ v o i c ue.
      let same = one c.it c.stands c.name in
      operand_or f v o i c same ue) in
      true_false (g.item (Whole a)) (is.all (Whole a) dead) (sym (ap (λ n. g.item (Whole n)) named) ∙ f.stays.0)
    where
      operand_or : (f : Found d g (occurrences_of t) may.it) (v : N.value) (o : Occurrence N S) (i : ℕ) (c : CountsForOperation t a v o) → c.it ≡ f.it → Use t v o i → IsExcused d w t o i
      operand_or f v o i c same ue = ⊎_elim
          (λ x. by_operation o i x.0 x.1 (is.dead (Whole x.0) x.2))
          (λ stay. ⊎_elim
          (λ r. operand_left o i v ue (λ p j q y. uses v p j (record { it = may.it; stands = may.stands; name = may.name; value = inl (subst (λ h. Has v (names_of h.results)) (sym f.thinned.head) (subst (λ o. Has v (names_of o.head.results)) same r)) }) y))
          (λ r. ⊎_elim
          (λ z. operand_left o i v ue (λ p j q y. uses v p j (record { it = may.it; stands = may.stands; name = may.name; value = inr (subst (λ x. Has v (defined_in x)) (sym f.thinned.regions) z, λ h. r.1 (subst (Has a) q h)) }) y))
          (λ z. went_excused v o i (went_in d g (λ o h. inside_is d g t.regions (at_root t) f.it o f.stands h) z) stay.1 ue)
          (value_goes d g f.it.regions (inner f.it.head f.it.site) v (subst (λ o. Has v (defined_in o.regions)) same r.0))) c.value)
          (one_goes d g (o.head.name ∷ o.site.spot.around))

  -- an argument that may be removed and that nothing needs is dead before
  slot_step : (v : N.value) → MayClose d u v → (IsKept w u (Slot v) → ⊥) → ((x : N.value) (o : Occurrence N S) (i : ℕ) → IsUseOfItem u (Slot v) x o → Use u x o i → ⊥) → ⊥
  slot_step v may kept uses =
      let f = block_was d g lawful t.regions (at_root t) (at_root u) (record { removes = λ i f. refl; region = refl; first = refl }) tt may.it may.stands in
      let arg = argument_stays d g v f.it.label.arguments (subst (λ l. Has v (names_of l.arguments)) f.label may.argument) in
      let dead : IsDead d w t (Slot v) = dies (Slot v)
      (record {
        it = f.it;
        stands = f.stands;
        argument = arg.0;
        removable = sym f.removes ∙ may.removable;
        predecessors = λ o h k. branch f o h k (one_goes d g (o.head.name ∷ o.site.spot.around));
      })
      (λ k. kept k)
      (λ x o i e ue. operand_left o i x ue (λ p j q y. uses x p j e y)) in
      true_false (g.item (Slot v)) (is.all (Slot v) dead) arg.1
    where
      branch : (f : FoundBlock d g (block_occurrences_of t) may.it) (o : Occurrence N S) → Has o (occurrences_of t) → Has f.it.label.name o.head.successors → ((n : N.operation) × Has n (o.head.name ∷ o.site.spot.around) × (g.item (Whole n) ≡ true)) ⊎ AllStay d g (o.head.name ∷ o.site.spot.around) → d.is_branch o.head.content ≡ true
      branch f o h k (inl x) = ⊎_elim
          (λ e. absurd (no_end o h k (subst (λ n. IsDead d w t (Whole n)) e (is.dead (Whole x.0) x.2))))
          (λ e. absurd (true_false (g.item (Whole x.0)) x.2 (stays_in x.0 f.it.spot.around f.stays (subst (Has x.0) (sym (well.local o f.it h f.stands k).around) e)))) x.1
        where
          no_end : (o : Occurrence N S) → Has o (occurrences_of t) → Has f.it.label.name o.head.successors → IsDead d w t (Whole o.head.name) → ⊥
          no_end o h k dead = ends_not o h (well.terminators o f.it.label.name h k) dead
      branch f o h k (inr a) =
          let p = left o h a in
          sym (lawful.drop_branch o.head.content (g.operand o.head.name)) ∙ sym (ap (λ y. d.is_branch y.content) p.thinned.head)
          ∙ may.predecessors p.it p.stands (subst (λ n. Has n p.it.head.successors) (ap (λ l. l.name) (sym f.label)) (subst (λ y. Has f.it.label.name y.successors) (sym p.thinned.head) k))

  step : (x : Item N) → May d u x → (IsKept w u x → ⊥) → ((v : N.value) (o : Occurrence N S) (i : ℕ) → IsUseOfItem u x v o → Use u v o i → ⊥) → ⊥
  step (Whole a) may kept uses = whole_step a may kept uses
  step (Slot v) may kept uses = slot_step v may kept uses

  mutual
    pub no_dead : (x : Item N) → IsDead d w u x → ⊥
    no_dead _ (dies x may kept uses) = step x may kept (λ v o i a b. no_excuse o i (uses v o i a b))

    no_excuse : (o : Occurrence N S) (i : ℕ) → IsExcused d w u o i → ⊥
    no_excuse _ _ (by_operation o i a h dead) = no_dead (Whole a) dead
    no_excuse _ _ (by_argument o i v f dead) = no_dead (Slot v) dead
