-- After the blocks are cut each block of visited SSA regions is reached.
use Rattle.std.proofs.Common.{◌≡◌, ◌⊎◌, ⊎_elim, inl, inr, ℕ, suc, Bool, true, false, List, [], ◌∷◌, refl, sym, ap, ◌∙◌, subst}
use Rattle.std.specs.Prelude.{if◌then◌else◌}
use Rattle.ir_trees.specs.Names.{Names, Contents}
use Rattle.ir_trees.specs.Trees.{Head, Sort, Operations, Blocks, Regions, Tree, end, operation, block, region, Root}
use Rattle.opt_trees.specs.Occurrences.{Has, Occurrence, BlockOccurrence, OperationSite, Spot, Inside, inner, next_block, next_region, occurrences_in, block_occurrences_in, block_occurrences_of, at_root}
use Rattle.opt_trees.specs.Dialect.{Dialect}
use Rattle.opt_trees.specs.Simplify.{StartingRegions, IsReached, entry, further, IsEntered, IsVisited, of_place, of_inner, IsVisitedSsa, keep, IsCut, IsLocal}
use Rattle.opt_trees.proofs.NoneDead.{has-append, has-left, has-right, true_false}

abbrev pub blocks_round : (N : Names) (S : Contents) (s : Sort) → Inside N S s → List N.block
blocks_round N S Operations c = c.label.name ∷ c.spot.within
blocks_round N S Blocks c = c.within
blocks_round N S Regions c = c.within

abbrev pub SameLabel : (N : Names) (S : Contents) (s : Sort) → Inside N S s → Inside N S s → Type 0
SameLabel N S Operations c e = e.label ≡ c.label
SameLabel N S Blocks c e = Unit {0}
SameLabel N S Regions c e = Unit {0}

abbrev pub AllKept : {B : Type 0} → (B → Bool) → List B → Type 0
AllKept g [] = Unit {0}
AllKept g (b ∷ bs) = (g b ≡ false) × AllKept g bs

module _ {N : Names} {S : Contents} (g : N.block → Bool) where
  -- the spot in the tree that is cut, and the one before
  pub record Like (c e : Spot N S) : Type 0 where
    pub owner : e.owner ≡ c.owner
    pub region : e.region ≡ c.region
    pub is_first : c.first ≡ true → e.first ≡ true
    pub was_first : e.first ≡ true → c.first ≡ true

  abbrev pub spot_of : (s : Sort) → Inside N S s → Spot N S
  spot_of Operations c = c.spot
  spot_of Blocks c = c
  spot_of Regions c = c

  like_inner : (h : Head N S) (c e : OperationSite N S) → Like (inner h c) (inner h e)
  like_inner h c e = record { owner = refl; region = refl; is_first = λ x. x; was_first = λ x. x }

  like_next : (c e : Spot N S) → Like c e → Like (next_block c) (next_block e)
  like_next c e l = record { owner = l.owner; region = l.region; is_first = λ x. x; was_first = λ x. x }

  like_region : (c e : Spot N S) → Like c e → Like (next_region c) (next_region e)
  like_region c e l = record { owner = l.owner; region = ap suc l.region; is_first = l.is_first; was_first = l.was_first }

  -- past a block that goes, which was not first
  like_skip : (c e : Spot N S) → Like c e → (c.first ≡ true → ⊥) → Like (next_block c) e
  like_skip c e l n = record { owner = l.owner; region = l.region; is_first = λ x. absurd (clash x); was_first = λ x. absurd (n (l.was_first x)) }
    where
      clash : false ≡ true → ⊥
      clash x = cc x

  -- no entry goes
  abbrev pub EntriesKept : List (BlockOccurrence N S) → Type 0
  EntriesKept xs = (y : BlockOccurrence N S) → Has y xs → y.spot.first ≡ true → g y.label.name ≡ false

  pub record OperationLike (o p : Occurrence N S) : Type 0 where
    pub spot : Like o.site.spot p.site.spot
    pub label : p.site.label ≡ o.site.label
    pub head : p.head ≡ o.head

  pub record OperationWas (os : List (Occurrence N S)) (p : Occurrence N S) : Type 0 where
    pub it : Occurrence N S
    pub stands : Has it os
    pub like : OperationLike it p

  pub record OperationIs (ps : List (Occurrence N S)) (o : Occurrence N S) : Type 0 where
    pub it : Occurrence N S
    pub stands : Has it ps
    pub like : OperationLike o it

  pub record BlockWas (xs : List (BlockOccurrence N S)) (y : BlockOccurrence N S) : Type 0 where
    pub it : BlockOccurrence N S
    pub stands : Has it xs
    pub spot : Like it.spot y.spot
    pub label : y.label ≡ it.label
    pub kept : AllKept g (it.label.name ∷ it.spot.within)

  pub record BlockIs (ys : List (BlockOccurrence N S)) (x : BlockOccurrence N S) : Type 0 where
    pub it : BlockOccurrence N S
    pub stands : Has it ys
    pub spot : Like x.spot it.spot
    pub label : it.label ≡ x.label

  was_in : {os ps : List (Occurrence N S)} {p : Occurrence N S} → ((o : Occurrence N S) → Has o os → Has o ps) → OperationWas os p → OperationWas ps p
  was_in f x = record { it = x.it; stands = f x.it x.stands; like = x.like }

  is_in : {os ps : List (Occurrence N S)} {p : Occurrence N S} → ((o : Occurrence N S) → Has o os → Has o ps) → OperationIs os p → OperationIs ps p
  is_in f x = record { it = x.it; stands = f x.it x.stands; like = x.like }

  block_was_in : {os ps : List (BlockOccurrence N S)} {p : BlockOccurrence N S} → ((o : BlockOccurrence N S) → Has o os → Has o ps) → BlockWas os p → BlockWas ps p
  block_was_in f x = record { it = x.it; stands = f x.it x.stands; spot = x.spot; label = x.label; kept = x.kept }

  block_is_in : {os ps : List (BlockOccurrence N S)} {p : BlockOccurrence N S} → ((o : BlockOccurrence N S) → Has o os → Has o ps) → BlockIs os p → BlockIs ps p
  block_is_in f x = record { it = x.it; stands = f x.it x.stands; spot = x.spot; label = x.label }

  -- an operation that is left was there
  pub operation_was : {s : Sort} (t : Tree N S s) (c e : Inside N S s) → Like (spot_of s c) (spot_of s e) → SameLabel N S s c e → EntriesKept (block_occurrences_in t c) → (p : Occurrence N S) → Has p (occurrences_in (keep g t) e) → OperationWas (occurrences_in t c) p
  operation_was end c e l n k p h = absurd h
  operation_was (operation x rs rest) c e l n k p h = ⊎_elim
      (λ z. record { it = record { site = c; head = x; regions = rs }; stands = inl refl; like = record { spot = subst (Like c.spot) (ap (λ y. y.site.spot) (sym z)) l; label = ap (λ y. y.site.label) z ∙ n; head = ap (λ y. y.head) z } })
      (λ z. ⊎_elim
      (λ y. was_in (λ o w. inr (has-left o (occurrences_in rs (inner x c)) (occurrences_in rest c) w)) (operation_was rs (inner x c) (inner x e) (like_inner x c e) tt (λ b w. k b (has-left b (block_occurrences_in rs (inner x c)) (block_occurrences_in rest c) w)) p y))
      (λ y. was_in (λ o w. inr (has-right o (occurrences_in rs (inner x c)) (occurrences_in rest c) w)) (operation_was rest c e l n (λ b w. k b (has-right b (block_occurrences_in rs (inner x c)) (block_occurrences_in rest c) w)) p y))
      (has-append p (occurrences_in (keep g rs) (inner x e)) (occurrences_in (keep g rest) e) z)) h
  operation_was (block b ops rest) c e l n k p h =
      by_test (g b.name) refl h
      (λ q w. operation_was rest (next_block c) e (like_skip c e l (λ f. true_false (g b.name) q (k (record { spot = c; label = b; operations = ops }) (inl refl) f))) tt (λ y u. k y (inr (has-right y (block_occurrences_in ops (record { spot = c; label = b })) (block_occurrences_in rest (next_block c)) u))) p w)
      (λ w. operation_was rest (next_block c) (next_block e) (like_next c e l) tt (λ y u. k y (inr (has-right y (block_occurrences_in ops (record { spot = c; label = b })) (block_occurrences_in rest (next_block c)) u))) p w)
      (λ w. operation_was ops (record { spot = c; label = b }) (record { spot = e; label = b }) l refl (λ y u. k y (inr (has-left y (block_occurrences_in ops (record { spot = c; label = b })) (block_occurrences_in rest (next_block c)) u))) p w)
    where
      by_test : (q : Bool) → g b.name ≡ q → Has p (occurrences_in (if q then keep g rest else block b (keep g ops) (keep g rest)) e) → (g b.name ≡ true → Has p (occurrences_in (keep g rest) e) → OperationWas (occurrences_in rest (next_block c)) p) → (Has p (occurrences_in (keep g rest) (next_block e)) → OperationWas (occurrences_in rest (next_block c)) p) → (Has p (occurrences_in (keep g ops) (record { spot = e; label = b })) → OperationWas (occurrences_in ops (record { spot = c; label = b })) p) → OperationWas (occurrences_in (block b ops rest) c) p
      by_test true q h i j m = was_in (λ o w. has-right o (occurrences_in ops (record { spot = c; label = b })) (occurrences_in rest (next_block c)) w) (i q h)
      by_test false q h i j m = ⊎_elim
          (λ w. was_in (λ o w. has-left o (occurrences_in ops (record { spot = c; label = b })) (occurrences_in rest (next_block c)) w) (m w))
          (λ w. was_in (λ o w. has-right o (occurrences_in ops (record { spot = c; label = b })) (occurrences_in rest (next_block c)) w) (j w))
          (has-append p (occurrences_in (keep g ops) (record { spot = e; label = b })) (occurrences_in (keep g rest) (next_block e)) h)
  operation_was (region bs rest) c e l n k p h = ⊎_elim
      (λ y. was_in (λ o w. has-left o (occurrences_in bs c) (occurrences_in rest (next_region c)) w) (operation_was bs c e l tt (λ b w. k b (has-left b (block_occurrences_in bs c) (block_occurrences_in rest (next_region c)) w)) p y))
      (λ y. was_in (λ o w. has-right o (occurrences_in bs c) (occurrences_in rest (next_region c)) w) (operation_was rest (next_region c) (next_region e) (like_region c e l) tt (λ b w. k b (has-right b (block_occurrences_in bs c) (block_occurrences_in rest (next_region c)) w)) p y))
      (has-append p (occurrences_in (keep g bs) e) (occurrences_in (keep g rest) (next_region e)) h)

  pub block_was : {s : Sort} (t : Tree N S s) (c e : Inside N S s) → Like (spot_of s c) (spot_of s e) → AllKept g (blocks_round N S s c) → EntriesKept (block_occurrences_in t c) → (p : BlockOccurrence N S) → Has p (block_occurrences_in (keep g t) e) → BlockWas (block_occurrences_in t c) p
  block_was end c e l a k p h = absurd h
  block_was (operation x rs rest) c e l a k p h = ⊎_elim
      (λ y. block_was_in (λ o w. has-left o (block_occurrences_in rs (inner x c)) (block_occurrences_in rest c) w) (block_was rs (inner x c) (inner x e) (like_inner x c e) a (λ b w. k b (has-left b (block_occurrences_in rs (inner x c)) (block_occurrences_in rest c) w)) p y))
      (λ y. block_was_in (λ o w. has-right o (block_occurrences_in rs (inner x c)) (block_occurrences_in rest c) w) (block_was rest c e l a (λ b w. k b (has-right b (block_occurrences_in rs (inner x c)) (block_occurrences_in rest c) w)) p y))
      (has-append p (block_occurrences_in (keep g rs) (inner x e)) (block_occurrences_in (keep g rest) e) h)
  block_was (block b ops rest) c e l a k p h =
      by_test (g b.name) refl h
      (λ q w. block_was rest (next_block c) e (like_skip c e l (λ f. true_false (g b.name) q (k (record { spot = c; label = b; operations = ops }) (inl refl) f))) a (λ y u. k y (inr (has-right y (block_occurrences_in ops (record { spot = c; label = b })) (block_occurrences_in rest (next_block c)) u))) p w)
      (λ w. block_was rest (next_block c) (next_block e) (like_next c e l) a (λ y u. k y (inr (has-right y (block_occurrences_in ops (record { spot = c; label = b })) (block_occurrences_in rest (next_block c)) u))) p w)
      (λ f w. block_was ops (record { spot = c; label = b }) (record { spot = e; label = b }) l (f, a) (λ y u. k y (inr (has-left y (block_occurrences_in ops (record { spot = c; label = b })) (block_occurrences_in rest (next_block c)) u))) p w)
    where
      by_test : (q : Bool) → g b.name ≡ q → Has p (block_occurrences_in (if q then keep g rest else block b (keep g ops) (keep g rest)) e) → (g b.name ≡ true → Has p (block_occurrences_in (keep g rest) e) → BlockWas (block_occurrences_in rest (next_block c)) p) → (Has p (block_occurrences_in (keep g rest) (next_block e)) → BlockWas (block_occurrences_in rest (next_block c)) p) → (g b.name ≡ false → Has p (block_occurrences_in (keep g ops) (record { spot = e; label = b })) → BlockWas (block_occurrences_in ops (record { spot = c; label = b })) p) → BlockWas (block_occurrences_in (block b ops rest) c) p
      by_test true q h i j m = block_was_in (λ o w. inr (has-right o (block_occurrences_in ops (record { spot = c; label = b })) (block_occurrences_in rest (next_block c)) w)) (i q h)
      by_test false q h i j m = ⊎_elim
          (λ z. record { it = record { spot = c; label = b; operations = ops }; stands = inl refl; spot = subst (Like c) (ap (λ y. y.spot) (sym z)) l; label = ap (λ y. y.label) z; kept = (q, a) })
          (λ z. ⊎_elim
          (λ w. block_was_in (λ o w. inr (has-left o (block_occurrences_in ops (record { spot = c; label = b })) (block_occurrences_in rest (next_block c)) w)) (m q w))
          (λ w. block_was_in (λ o w. inr (has-right o (block_occurrences_in ops (record { spot = c; label = b })) (block_occurrences_in rest (next_block c)) w)) (j w))
          (has-append p (block_occurrences_in (keep g ops) (record { spot = e; label = b })) (block_occurrences_in (keep g rest) (next_block e)) z)) h
  block_was (region bs rest) c e l a k p h = ⊎_elim
      (λ y. block_was_in (λ o w. has-left o (block_occurrences_in bs c) (block_occurrences_in rest (next_region c)) w) (block_was bs c e l a (λ b w. k b (has-left b (block_occurrences_in bs c) (block_occurrences_in rest (next_region c)) w)) p y))
      (λ y. block_was_in (λ o w. has-right o (block_occurrences_in bs c) (block_occurrences_in rest (next_region c)) w) (block_was rest (next_region c) (next_region e) (like_region c e l) a (λ b w. k b (has-right b (block_occurrences_in bs c) (block_occurrences_in rest (next_region c)) w)) p y))
      (has-append p (block_occurrences_in (keep g bs) e) (block_occurrences_in (keep g rest) (next_region e)) h)

  -- what holds what is kept is kept
  pub round_operation : {s : Sort} (t : Tree N S s) (c : Inside N S s) (o : Occurrence N S) → Has o (occurrences_in t c) → AllKept g (o.site.label.name ∷ o.site.spot.within) → AllKept g (blocks_round N S s c)
  round_operation end c o h a = absurd h
  round_operation (operation x rs rest) c o h a = ⊎_elim (λ z. subst (λ y. AllKept g (y.site.label.name ∷ y.site.spot.within)) z a) (λ z. ⊎_elim (λ y. round_operation rs (inner x c) o y a) (λ y. round_operation rest c o y a) (has-append o (occurrences_in rs (inner x c)) (occurrences_in rest c) z)) h
  round_operation (block b ops rest) c o h a = ⊎_elim (λ y. (round_operation ops (record { spot = c; label = b }) o y a).1) (λ y. round_operation rest (next_block c) o y a) (has-append o (occurrences_in ops (record { spot = c; label = b })) (occurrences_in rest (next_block c)) h)
  round_operation (region bs rest) c o h a = ⊎_elim (λ y. round_operation bs c o y a) (λ y. round_operation rest (next_region c) o y a) (has-append o (occurrences_in bs c) (occurrences_in rest (next_region c)) h)

  pub round_block : {s : Sort} (t : Tree N S s) (c : Inside N S s) (o : BlockOccurrence N S) → Has o (block_occurrences_in t c) → AllKept g o.spot.within → AllKept g (blocks_round N S s c)
  round_block end c o h a = absurd h
  round_block (operation x rs rest) c o h a = ⊎_elim (λ y. round_block rs (inner x c) o y a) (λ y. round_block rest c o y a) (has-append o (block_occurrences_in rs (inner x c)) (block_occurrences_in rest c) h)
  round_block (block b ops rest) c o h a = ⊎_elim (λ z. subst (λ y. AllKept g y.spot.within) z a) (λ z. ⊎_elim (λ y. (round_block ops (record { spot = c; label = b }) o y a).1) (λ y. round_block rest (next_block c) o y a) (has-append o (block_occurrences_in ops (record { spot = c; label = b })) (block_occurrences_in rest (next_block c)) z)) h
  round_block (region bs rest) c o h a = ⊎_elim (λ y. round_block bs c o y a) (λ y. round_block rest (next_region c) o y a) (has-append o (block_occurrences_in bs c) (block_occurrences_in rest (next_region c)) h)

  -- an operation in kept blocks is left
  pub operation_is : {s : Sort} (t : Tree N S s) (c e : Inside N S s) → Like (spot_of s c) (spot_of s e) → SameLabel N S s c e → EntriesKept (block_occurrences_in t c) → (o : Occurrence N S) → Has o (occurrences_in t c) → AllKept g (o.site.label.name ∷ o.site.spot.within) → OperationIs (occurrences_in (keep g t) e) o
  operation_is end c e l n k o h a = absurd h
  operation_is (operation x rs rest) c e l n k o h a = ⊎_elim
      (λ z. record { it = record { site = e; head = x; regions = keep g rs }; stands = inl refl; like = record { spot = subst (λ y. Like y e.spot) (ap (λ y. y.site.spot) (sym z)) l; label = n ∙ ap (λ y. y.site.label) (sym z); head = ap (λ y. y.head) (sym z) } })
      (λ z. ⊎_elim
      (λ y. is_in (λ o w. inr (has-left o (occurrences_in (keep g rs) (inner x e)) (occurrences_in (keep g rest) e) w)) (operation_is rs (inner x c) (inner x e) (like_inner x c e) tt (λ b w. k b (has-left b (block_occurrences_in rs (inner x c)) (block_occurrences_in rest c) w)) o y a))
      (λ y. is_in (λ o w. inr (has-right o (occurrences_in (keep g rs) (inner x e)) (occurrences_in (keep g rest) e) w)) (operation_is rest c e l n (λ b w. k b (has-right b (block_occurrences_in rs (inner x c)) (block_occurrences_in rest c) w)) o y a))
      (has-append o (occurrences_in rs (inner x c)) (occurrences_in rest c) z)) h
  operation_is (block b ops rest) c e l n k o h a =
      let there : (y : BlockOccurrence N S) → Has y (block_occurrences_in rest (next_block c)) → y.spot.first ≡ true → g y.label.name ≡ false = λ y u. k y (inr (has-right y (block_occurrences_in ops (record { spot = c; label = b })) (block_occurrences_in rest (next_block c)) u)) in
      ⊎_elim
      (λ y. own (g b.name) (round_operation ops (record { spot = c; label = b }) o y a).0 (operation_is ops (record { spot = c; label = b }) (record { spot = e; label = b }) l refl (λ y u. k y (inr (has-left y (block_occurrences_in ops (record { spot = c; label = b })) (block_occurrences_in rest (next_block c)) u))) o y a))
      (λ y. others (g b.name) refl
      (λ q. operation_is rest (next_block c) e (like_skip c e l (λ f. true_false (g b.name) q (k (record { spot = c; label = b; operations = ops }) (inl refl) f))) tt there o y a)
      (operation_is rest (next_block c) (next_block e) (like_next c e l) tt there o y a))
      (has-append o (occurrences_in ops (record { spot = c; label = b })) (occurrences_in rest (next_block c)) h)
    where
      own : (q : Bool) → q ≡ false → OperationIs (occurrences_in (keep g ops) (record { spot = e; label = b })) o → OperationIs (occurrences_in (if q then keep g rest else block b (keep g ops) (keep g rest)) e) o
      own true q x = absurd (true_false true refl q)
      own false q x = is_in (λ o w. has-left o (occurrences_in (keep g ops) (record { spot = e; label = b })) (occurrences_in (keep g rest) (next_block e)) w) x

      others : (q : Bool) → g b.name ≡ q → (g b.name ≡ true → OperationIs (occurrences_in (keep g rest) e) o) → OperationIs (occurrences_in (keep g rest) (next_block e)) o → OperationIs (occurrences_in (if q then keep g rest else block b (keep g ops) (keep g rest)) e) o
      others true q x y = x q
      others false q x y = is_in (λ o w. has-right o (occurrences_in (keep g ops) (record { spot = e; label = b })) (occurrences_in (keep g rest) (next_block e)) w) y
  operation_is (region bs rest) c e l n k o h a = ⊎_elim
      (λ y. is_in (λ o w. has-left o (occurrences_in (keep g bs) e) (occurrences_in (keep g rest) (next_region e)) w) (operation_is bs c e l tt (λ b w. k b (has-left b (block_occurrences_in bs c) (block_occurrences_in rest (next_region c)) w)) o y a))
      (λ y. is_in (λ o w. has-right o (occurrences_in (keep g bs) e) (occurrences_in (keep g rest) (next_region e)) w) (operation_is rest (next_region c) (next_region e) (like_region c e l) tt (λ b w. k b (has-right b (block_occurrences_in bs c) (block_occurrences_in rest (next_region c)) w)) o y a))
      (has-append o (occurrences_in bs c) (occurrences_in rest (next_region c)) h)

  -- a kept block in kept blocks is left
  pub block_is : {s : Sort} (t : Tree N S s) (c e : Inside N S s) → Like (spot_of s c) (spot_of s e) → EntriesKept (block_occurrences_in t c) → (o : BlockOccurrence N S) → Has o (block_occurrences_in t c) → AllKept g (o.label.name ∷ o.spot.within) → BlockIs (block_occurrences_in (keep g t) e) o
  block_is end c e l k o h a = absurd h
  block_is (operation x rs rest) c e l k o h a = ⊎_elim
      (λ y. block_is_in (λ o w. has-left o (block_occurrences_in (keep g rs) (inner x e)) (block_occurrences_in (keep g rest) e) w) (block_is rs (inner x c) (inner x e) (like_inner x c e) (λ b w. k b (has-left b (block_occurrences_in rs (inner x c)) (block_occurrences_in rest c) w)) o y a))
      (λ y. block_is_in (λ o w. has-right o (block_occurrences_in (keep g rs) (inner x e)) (block_occurrences_in (keep g rest) e) w) (block_is rest c e l (λ b w. k b (has-right b (block_occurrences_in rs (inner x c)) (block_occurrences_in rest c) w)) o y a))
      (has-append o (block_occurrences_in rs (inner x c)) (block_occurrences_in rest c) h)
  block_is (block b ops rest) c e l k o h a =
      let there : (y : BlockOccurrence N S) → Has y (block_occurrences_in rest (next_block c)) → y.spot.first ≡ true → g y.label.name ≡ false = λ y u. k y (inr (has-right y (block_occurrences_in ops (record { spot = c; label = b })) (block_occurrences_in rest (next_block c)) u)) in
      ⊎_elim
      (λ z. itself (g b.name) (ap (λ y. g y.label.name) (sym z) ∙ a.0) z)
      (λ z. ⊎_elim
      (λ y. own (g b.name) (round_block ops (record { spot = c; label = b }) o y a.1).0 (block_is ops (record { spot = c; label = b }) (record { spot = e; label = b }) l (λ y u. k y (inr (has-left y (block_occurrences_in ops (record { spot = c; label = b })) (block_occurrences_in rest (next_block c)) u))) o y a))
      (λ y. others (g b.name) refl
      (λ q. block_is rest (next_block c) e (like_skip c e l (λ f. true_false (g b.name) q (k (record { spot = c; label = b; operations = ops }) (inl refl) f))) there o y a)
      (block_is rest (next_block c) (next_block e) (like_next c e l) there o y a))
      (has-append o (block_occurrences_in ops (record { spot = c; label = b })) (block_occurrences_in rest (next_block c)) z)) h
    where
      itself : (q : Bool) → q ≡ false → o ≡ record { spot = c; label = b; operations = ops } → BlockIs (block_occurrences_in (if q then keep g rest else block b (keep g ops) (keep g rest)) e) o
      itself true q z = absurd (true_false true refl q)
      itself false q z = record { it = record { spot = e; label = b; operations = keep g ops }; stands = inl refl; spot = subst (λ y. Like y e) (ap (λ y. y.spot) (sym z)) l; label = ap (λ y. y.label) (sym z) }

      own : (q : Bool) → q ≡ false → BlockIs (block_occurrences_in (keep g ops) (record { spot = e; label = b })) o → BlockIs (block_occurrences_in (if q then keep g rest else block b (keep g ops) (keep g rest)) e) o
      own true q x = absurd (true_false true refl q)
      own false q x = block_is_in (λ o w. inr (has-left o (block_occurrences_in (keep g ops) (record { spot = e; label = b })) (block_occurrences_in (keep g rest) (next_block e)) w)) x

      others : (q : Bool) → g b.name ≡ q → (g b.name ≡ true → BlockIs (block_occurrences_in (keep g rest) e) o) → BlockIs (block_occurrences_in (keep g rest) (next_block e)) o → BlockIs (block_occurrences_in (if q then keep g rest else block b (keep g ops) (keep g rest)) e) o
      others true q x y = x q
      others false q x y = block_is_in (λ o w. inr (has-right o (block_occurrences_in (keep g ops) (record { spot = e; label = b })) (block_occurrences_in (keep g rest) (next_block e)) w)) y
  block_is (region bs rest) c e l k o h a = ⊎_elim
      (λ y. block_is_in (λ o w. has-left o (block_occurrences_in (keep g bs) e) (block_occurrences_in (keep g rest) (next_region e)) w) (block_is bs c e l (λ b w. k b (has-left b (block_occurrences_in bs c) (block_occurrences_in rest (next_region c)) w)) o y a))
      (λ y. block_is_in (λ o w. has-right o (block_occurrences_in (keep g bs) e) (block_occurrences_in (keep g rest) (next_region e)) w) (block_is rest (next_region c) (next_region e) (like_region c e l) (λ b w. k b (has-right b (block_occurrences_in bs c) (block_occurrences_in rest (next_region c)) w)) o y a))
      (has-append o (block_occurrences_in bs c) (block_occurrences_in rest (next_region c)) h)

-- the block that an operation stands in
pub record Holder {N : Names} {S : Contents} (xs : List (BlockOccurrence N S)) (o : Occurrence N S) : Type 0 where
  pub it : BlockOccurrence N S
  pub stands : Has it xs
  pub spot : it.spot ≡ o.site.spot
  pub label : it.label ≡ o.site.label

abbrev IsOwn : (N : Names) (S : Contents) (s : Sort) → Inside N S s → Occurrence N S → Type 0
IsOwn N S Operations c o = o.site ≡ c
IsOwn N S Blocks c o = ⊥
IsOwn N S Regions c o = ⊥

module _ {N : Names} {S : Contents} where
  held_in : {xs ys : List (BlockOccurrence N S)} {o : Occurrence N S} → ((x : BlockOccurrence N S) → Has x xs → Has x ys) → Holder xs o → Holder ys o
  held_in f h = record { it = h.it; stands = f h.it h.stands; spot = h.spot; label = h.label }

  pub holder : {s : Sort} (t : Tree N S s) (c : Inside N S s) (o : Occurrence N S) → Has o (occurrences_in t c) → IsOwn N S s c o ⊎ Holder (block_occurrences_in t c) o
  holder end c o h = absurd h
  holder (operation x rs rest) c o h = ⊎_elim
      (λ z. inl (ap (λ y. y.site) z))
      (λ z. ⊎_elim
      (λ y. inr (⊎_elim (λ q. absurd q) (λ q. held_in (λ b w. has-left b (block_occurrences_in rs (inner x c)) (block_occurrences_in rest c) w) q) (holder rs (inner x c) o y)))
      (λ y. ⊎_elim (λ q. inl q) (λ q. inr (held_in (λ b w. has-right b (block_occurrences_in rs (inner x c)) (block_occurrences_in rest c) w) q)) (holder rest c o y))
      (has-append o (occurrences_in rs (inner x c)) (occurrences_in rest c) z)) h
  holder (block b ops rest) c o h =
      let own : BlockOccurrence N S = record { spot = c; label = b; operations = ops } in
      ⊎_elim
      (λ y. inr (⊎_elim (λ q. record { it = own; stands = inl refl; spot = ap (λ z. z.spot) (sym q); label = ap (λ z. z.label) (sym q) }) (λ q. held_in (λ z w. inr (has-left z (block_occurrences_in ops (record { spot = c; label = b })) (block_occurrences_in rest (next_block c)) w)) q) (holder ops (record { spot = c; label = b }) o y)))
      (λ y. inr (⊎_elim (λ q. absurd q) (λ q. held_in (λ z w. inr (has-right z (block_occurrences_in ops (record { spot = c; label = b })) (block_occurrences_in rest (next_block c)) w)) q) (holder rest (next_block c) o y)))
      (has-append o (occurrences_in ops (record { spot = c; label = b })) (occurrences_in rest (next_block c)) h)
  holder (region bs rest) c o h = ⊎_elim
      (λ y. inr (⊎_elim (λ q. absurd q) (λ q. held_in (λ z w. has-left z (block_occurrences_in bs c) (block_occurrences_in rest (next_region c)) w) q) (holder bs c o y)))
      (λ y. inr (⊎_elim (λ q. absurd q) (λ q. held_in (λ z w. has-right z (block_occurrences_in bs c) (block_occurrences_in rest (next_region c)) w) q) (holder rest (next_region c) o y)))
      (has-append o (occurrences_in bs c) (occurrences_in rest (next_region c)) h)

module _ {N : Names} {S : Contents} {A : Type 0} (d : Dialect S A) (start : StartingRegions N) (t after : Root N S) (cut : IsCut d start t after) (local : IsLocal t) where
  abbrev g : N.block → Bool
  g = cut.gone

  abbrev u : Root N S
  u = record { head = t.head; regions = keep g t.regions }

  off : (b : Bool) → (b ≡ true → ⊥) → b ≡ false
  off true f = absurd (f refl)
  off false f = refl

  reached_kept : (b : N.block) → IsReached t b → g b ≡ false
  reached_kept b r = off (g b) (λ e. (cut.there b e).unreached r)

  entries : EntriesKept g (block_occurrences_of t)
  entries y h f = reached_kept y.label.name (entry y h f)

  root_like : Like g (at_root t) (at_root u)
  root_like = record { owner = refl; region = refl; is_first = λ x. x; was_first = λ x. x }

  reached_before : (b : N.block) → IsReached u b → IsReached t b
  reached_before _ (entry x h f) =
      let q = block_was g t.regions (at_root t) (at_root u) root_like tt entries x h in
      subst (IsReached t) (ap (λ l. l.name) (sym q.label)) (entry q.it q.stands (q.spot.was_first f))
  reached_before _ (further o b h p s) =
      let q = operation_was g t.regions (at_root t) (at_root u) root_like tt entries o h in
      further q.it b q.stands (subst (IsReached t) (ap (λ l. l.name) q.like.label) (reached_before o.site.label.name p)) (subst (λ z. Has b z.successors) q.like.head s)

  visited_before : (o : N.operation) (i : ℕ) → IsVisited d start u o i → IsVisited d start t o i
  visited_before _ _ (of_place o i x) = of_place o i x
  visited_before _ _ (of_inner p i h v e) =
      let q = operation_was g t.regions (at_root t) (at_root u) root_like tt entries p h in
      let same : d.is_ssa p.site.spot.owner.content p.site.spot.region ≡ d.is_ssa q.it.site.spot.owner.content q.it.site.spot.region = λ j. d.is_ssa (q.like.spot.owner j).content (q.like.spot.region j) in
      subst (λ z. IsVisited d start t z.name i) (sym q.like.head)
      (of_inner q.it i q.stands
      (subst (λ z. IsVisited d start t q.it.site.spot.owner.name z) q.like.spot.region (subst (λ z. IsVisited d start t z.name p.site.spot.region) q.like.spot.owner (visited_before p.site.spot.owner.name p.site.spot.region v)))
      (subst (IsEntered t q.it.site.spot q.it.site.label.name) same (entered p.site.spot q.it.site.spot p.site.label.name q.it.site.label.name (d.is_ssa p.site.spot.owner.content p.site.spot.region) (q.like.spot.was_first) (λ r. subst (IsReached t) (ap (λ l. l.name) q.like.label) (reached_before p.site.label.name r)) e)))
    where
      entered : (c k : Spot N S) (a b : N.block) (f : Bool) → (c.first ≡ true → k.first ≡ true) → (IsReached u a → IsReached t b) → IsEntered u c a f → IsEntered t k b f
      entered c k a b true i j h = j h
      entered c k a b false i j h = i h

  reached_after : (b : N.block) → IsReached t b → (y : BlockOccurrence N S) → Has y (block_occurrences_of t) → y.label.name ≡ b → AllKept g y.spot.within → IsReached u b
  reached_after _ (entry x h f) y k e a =
      let same = local.blocks y x k h e in
      let q = block_is g t.regions (at_root t) (at_root u) root_like entries x h (entries x h f, subst (λ z. AllKept g z.spot.within) same a) in
      subst (IsReached u) (ap (λ l. l.name) q.label) (entry q.it q.stands (q.spot.is_first f))
  reached_after _ (further o b h p s) y k e a =
      let round : AllKept g o.site.spot.within = subst (AllKept g) (local.edges o y h k (subst (λ z. Has z o.head.successors) (sym e) s)).within a in
      let q = operation_is g t.regions (at_root t) (at_root u) root_like tt entries o h (reached_kept o.site.label.name p, round) in
      let own = ⊎_elim (λ z. absurd z) (λ z. z) (holder t.regions (at_root t) o h) in
      let there = reached_after o.site.label.name p own.it own.stands (ap (λ l. l.name) own.label) (subst (λ c. AllKept g c.within) (sym own.spot) round) in
      further q.it b q.stands (subst (IsReached u) (ap (λ l. l.name) (sym q.like.label)) there) (subst (λ z. Has b z.successors) (sym q.like.head) s)

  cut_reaches : (x : BlockOccurrence N S) → Has x (block_occurrences_of u) → IsVisitedSsa d start u x.spot → IsReached u x.label.name
  cut_reaches x h v =
      let q = block_was g t.regions (at_root t) (at_root u) root_like tt entries x h in
      let visited : IsVisitedSsa d start t q.it.spot = record {
        visited = subst (λ z. IsVisited d start t q.it.spot.owner.name z) q.spot.region (subst (λ z. IsVisited d start t z.name x.spot.region) q.spot.owner (visited_before x.spot.owner.name x.spot.region v.visited));
        ssa = (λ j. d.is_ssa (sym q.spot.owner j).content (sym q.spot.region j)) ∙ v.ssa;
      } in
      subst (IsReached u) (ap (λ l. l.name) (sym q.label)) (by_test q visited (cut.reach q.it.label.name) refl)
    where
      by_test : (q : BlockWas g (block_occurrences_of t) x) → IsVisitedSsa d start t q.it.spot → (b : Bool) → cut.reach q.it.label.name ≡ b → IsReached u q.it.label.name
      by_test q v true e = reached_after q.it.label.name (cut.reached q.it.label.name e) q.it q.stands refl q.kept.1
      by_test q v false e = absurd (true_false (g q.it.label.name) (cut.all q.it.label.name (record { it = q.it; stands = q.stands; name = refl; visited = v; unreached = λ r. true_false (cut.reach q.it.label.name) (cut.all_reached q.it.label.name r) e })) q.kept.0)

  -- each block of a visited SSA region that is left is reached
  pub cut_goal : (x : BlockOccurrence N S) → Has x (block_occurrences_of after) → IsVisitedSsa d start after x.spot → IsReached after x.label.name
  cut_goal = subst (λ z. (x : BlockOccurrence N S) → Has x (block_occurrences_of z) → IsVisitedSsa d start z x.spot → IsReached z x.label.name) (sym cut.is) cut_reaches
