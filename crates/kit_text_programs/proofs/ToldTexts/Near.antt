-- Trees of texts that are the same but for labels and for the numbers of values and of blocks.
use Rattle.std.proofs.Common.{◌≡◌, ⊎_elim, ℕ, suc, List, [], ◌∷◌, ◌++◌, length, refl, sym, ap, ◌∙◌, subst}
use Rattle.ir_forest.specs.Closed.{names_of, head_defines, definitions_of, all_definitions_of, named_in, blocks_of, all_blocks_of}
use Rattle.ir_forest.specs.Closed.{unlabelled_head, unlabelled, all_unlabelled}
use Rattle.ir_print.specs.Pieces.{ValueTree, EntityHead, operation, a_region, block, Entity, entity, Entities, no_entity}
use Rattle.ir_print.specs.Pieces.{an_entity}
use Rattle.ir_print.specs.Shown.{Pairs}
use Rattle.kit_text_programs.proofs.SaidTexts.SaidMeanings.{head_blocks}
use Rattle.kit_text_programs.proofs.ToldTexts.SideBySide.{Both, both_parts, both_left, both_right, long_parts, split_same}

-- definitions with names and types
abbrev pub Definitions : Type 0
Definitions = List (ℕ × ValueTree)

-- these have one type
abbrev pub OfOneType : ℕ × ValueTree → ℕ × ValueTree → Type 0
OfOneType x y = x.1 ≡ y.1

-- the heads are the same but for labels and numbers
abbrev pub AreNearHeads : EntityHead ℕ → EntityHead ℕ → Type 0
AreNearHeads (operation kind results used successors pieces) (operation other again taken going said) =
    (kind ≡ other) × Pairs OfOneType results again × (length used ≡ length taken) × (length successors ≡ length going)
    × (pieces ≡ said)
AreNearHeads a_region a_region = Unit {0}
AreNearHeads (block named label arguments) (block named' other again) = Pairs OfOneType arguments again
AreNearHeads _ _ = ⊥

abbrev mutual
  -- the two are the same but for labels and numbers
  pub AreNear : Entity ℕ → Entity ℕ → Type 0
  AreNear (entity h ts) (entity g us) = AreNearHeads h g × AreAllNear ts us

  -- the same of each entity
  pub AreAllNear : Entities ℕ → Entities ℕ → Type 0
  AreAllNear no_entity no_entity = Unit {0}
  AreAllNear (an_entity t ts) (an_entity u us) = AreNear t u × AreAllNear ts us
  AreAllNear _ _ = ⊥

-- the numbers of values that a head defines or mentions
abbrev pub head_numbers : EntityHead ℕ → List ℕ
head_numbers (operation kind results used successors pieces) = names_of results ++ used
head_numbers a_region = []
head_numbers (block named label arguments) = names_of arguments

abbrev mutual
  -- what is listed of each head in an entity, in the order of the text
  pub listed : (EntityHead ℕ → List ℕ) → Entity ℕ → List ℕ
  listed f (entity h ts) = f h ++ all_listed f ts

  -- the same of each entity
  pub all_listed : (EntityHead ℕ → List ℕ) → Entities ℕ → List ℕ
  all_listed f no_entity = []
  all_listed f (an_entity t ts) = listed f t ++ all_listed f ts

-- all numbers of values, and all of blocks
abbrev pub numbers_of : Entity ℕ → List ℕ
numbers_of t = listed head_numbers t

abbrev pub all_numbers : Entities ℕ → List ℕ
all_numbers ts = all_listed head_numbers ts

abbrev pub blocks_named : Entity ℕ → List ℕ
blocks_named t = listed head_blocks t

abbrev pub all_blocks_named : Entities ℕ → List ℕ
all_blocks_named ts = all_listed head_blocks ts

mutual
  -- definitions are what heads define
  pub definitions_listed : (t : Entity ℕ) → definitions_of t ≡ listed head_defines t
  definitions_listed (entity h ts) = ap (λ (ns : List ℕ). head_defines h ++ ns) (all_definitions_listed ts)

  all_definitions_listed : (ts : Entities ℕ) → all_definitions_of ts ≡ all_listed head_defines ts
  all_definitions_listed no_entity = refl
  all_definitions_listed (an_entity t ts) = λ i. definitions_listed t i ++ all_definitions_listed ts i

mutual
  -- blocks are what heads of blocks are named
  pub blocks_listed : (t : Entity ℕ) → blocks_of t ≡ listed named_in t
  blocks_listed (entity h ts) = ap (λ (ns : List ℕ). named_in h ++ ns) (all_blocks_listed ts)

  all_blocks_listed : (ts : Entities ℕ) → all_blocks_of ts ≡ all_listed named_in ts
  all_blocks_listed no_entity = refl
  all_blocks_listed (an_entity t ts) = λ i. blocks_listed t i ++ all_blocks_listed ts i

-- ---- heads

-- there are as many names where the types are the same
names_long : (xs ys : Definitions) → Pairs OfOneType xs ys → length (names_of xs) ≡ length (names_of ys)
names_long [] [] h = refl
names_long [] (y ∷ ys) h = absurd h
names_long (x ∷ xs) [] h = absurd h
names_long (x ∷ xs) (y ∷ ys) h = ap suc (names_long xs ys h.1)

-- definitions of the same names and types are the same
definitions_same : (xs ys : Definitions) → Pairs OfOneType xs ys → names_of xs ≡ names_of ys → xs ≡ ys
definitions_same [] [] h e = refl
definitions_same [] (y ∷ ys) h e = absurd h
definitions_same (x ∷ xs) [] h e = absurd h
definitions_same (x ∷ xs) (y ∷ ys) h e =
    let first : x.0 ≡ y.0 = cc in
    let rest : names_of xs ≡ names_of ys = cc in
    let one : x ≡ y = λ i. (first i, h.0 i) in
    ap (λ (a : ℕ × ValueTree). a ∷ xs) one
    ∙ ap (λ (zs : Definitions). y ∷ zs) (definitions_same xs ys h.1 rest)

-- such heads define as many values
defined_long : (h g : EntityHead ℕ) → AreNearHeads h g → length (head_defines h) ≡ length (head_defines g)
defined_long (operation kind results used successors pieces) (operation other again taken going said) n = names_long results again n.1
defined_long a_region a_region n = refl
defined_long (block named label arguments) (block named' other again) n = names_long arguments again n
defined_long (operation kind results used successors pieces) a_region n = absurd n
defined_long (operation kind results used successors pieces) (block named' other again) n = absurd n
defined_long a_region (operation other again taken going said) n = absurd n
defined_long a_region (block named' other again) n = absurd n
defined_long (block named label arguments) (operation other again taken going said) n = absurd n
defined_long (block named label arguments) a_region n = absurd n

-- and have as many numbers
numbered_long : (h g : EntityHead ℕ) → AreNearHeads h g → length (head_numbers h) ≡ length (head_numbers g)
numbered_long (operation kind results used successors pieces) (operation other again taken going said) n =
    long_parts (names_of results) used (names_of again) taken (names_long results again n.1) n.2
numbered_long a_region a_region n = refl
numbered_long (block named label arguments) (block named' other again) n = names_long arguments again n
numbered_long (operation kind results used successors pieces) a_region n = absurd n
numbered_long (operation kind results used successors pieces) (block named' other again) n = absurd n
numbered_long a_region (operation other again taken going said) n = absurd n
numbered_long a_region (block named' other again) n = absurd n
numbered_long (block named label arguments) (operation other again taken going said) n = absurd n
numbered_long (block named label arguments) a_region n = absurd n

-- what heads define at one place has one place among their numbers
head_both : (h g : EntityHead ℕ) (n m : ℕ) → AreNearHeads h g → Both (head_defines h) (head_defines g) n m
    → Both (head_numbers h) (head_numbers g) n m
head_both (operation kind results used successors pieces) (operation other again taken going said) n m near b =
    both_left (names_of results) (names_of again) used taken n m b
head_both a_region a_region n m near b = b
head_both (block named label arguments) (block named' other again) n m near b = b
head_both (operation kind results used successors pieces) a_region n m near b = absurd near
head_both (operation kind results used successors pieces) (block named' other again) n m near b = absurd near
head_both a_region (operation other again taken going said) n m near b = absurd near
head_both a_region (block named' other again) n m near b = absurd near
head_both (block named label arguments) (operation other again taken going said) n m near b = absurd near
head_both (block named label arguments) a_region n m near b = absurd near

-- such heads name as many blocks
blocks_long : (h g : EntityHead ℕ) → AreNearHeads h g → length (head_blocks h) ≡ length (head_blocks g)
blocks_long (operation kind results used successors pieces) (operation other again taken going said) n = n.3
blocks_long a_region a_region n = refl
blocks_long (block named label arguments) (block named' other again) n = refl
blocks_long (operation kind results used successors pieces) a_region n = absurd n
blocks_long (operation kind results used successors pieces) (block named' other again) n = absurd n
blocks_long a_region (operation other again taken going said) n = absurd n
blocks_long a_region (block named' other again) n = absurd n
blocks_long (block named label arguments) (operation other again taken going said) n = absurd n
blocks_long (block named label arguments) a_region n = absurd n

-- and are as many blocks
named_long : (h g : EntityHead ℕ) → AreNearHeads h g → length (named_in h) ≡ length (named_in g)
named_long (operation kind results used successors pieces) (operation other again taken going said) n = refl
named_long a_region a_region n = refl
named_long (block named label arguments) (block named' other again) n = refl
named_long (operation kind results used successors pieces) a_region n = absurd n
named_long (operation kind results used successors pieces) (block named' other again) n = absurd n
named_long a_region (operation other again taken going said) n = absurd n
named_long a_region (block named' other again) n = absurd n
named_long (block named label arguments) (operation other again taken going said) n = absurd n
named_long (block named label arguments) a_region n = absurd n

-- what blocks are named at one place has one place among the blocks that are named
named_both : (h g : EntityHead ℕ) (n m : ℕ) → AreNearHeads h g → Both (named_in h) (named_in g) n m
    → Both (head_blocks h) (head_blocks g) n m
named_both (operation kind results used successors pieces) (operation other again taken going said) n m near b = absurd b
named_both a_region a_region n m near b = b
named_both (block named label arguments) (block named' other again) n m near b = b
named_both (operation kind results used successors pieces) a_region n m near b = absurd near
named_both (operation kind results used successors pieces) (block named' other again) n m near b = absurd near
named_both a_region (operation other again taken going said) n m near b = absurd near
named_both a_region (block named' other again) n m near b = absurd near
named_both (block named label arguments) (operation other again taken going said) n m near b = absurd near
named_both (block named label arguments) a_region n m near b = absurd near

-- heads of the same numbers are the same but for labels
head_rebuilt : (h g : EntityHead ℕ) → AreNearHeads h g → head_numbers h ≡ head_numbers g → head_blocks h ≡ head_blocks g
    → unlabelled_head h ≡ unlabelled_head g
head_rebuilt (operation kind results used successors pieces) (operation other again taken going said) n e b =
    let parts = split_same (names_of results) (names_of again) used taken (names_long results again n.1) e in
    let defined = definitions_same results again n.1 parts.0 in
    λ i. operation (n.0 i) (defined i) (parts.1 i) (b i) (n.4 i)
head_rebuilt a_region a_region n e b = refl
head_rebuilt (block named label arguments) (block named' other again) n e b =
    let defined = definitions_same arguments again n e in
    let name : named ≡ named' = cc in λ i. block (name i) [] (defined i)
head_rebuilt (operation kind results used successors pieces) a_region n e b = absurd n
head_rebuilt (operation kind results used successors pieces) (block named' other again) n e b = absurd n
head_rebuilt a_region (operation other again taken going said) n e b = absurd n
head_rebuilt a_region (block named' other again) n e b = absurd n
head_rebuilt (block named label arguments) (operation other again taken going said) n e b = absurd n
head_rebuilt (block named label arguments) a_region n e b = absurd n

-- ---- trees

module _ (f : EntityHead ℕ → List ℕ) (long : (h g : EntityHead ℕ) → AreNearHeads h g → length (f h) ≡ length (f g)) where
  mutual
    -- of such texts as much is listed
    listed_long : (t u : Entity ℕ) → AreNear t u → length (listed f t) ≡ length (listed f u)
    listed_long (entity h ts) (entity g us) n =
        long_parts (f h) (all_listed f ts) (f g) (all_listed f us) (long h g n.0) (all_listed_long ts us n.1)

    -- and of lists of them
    all_listed_long : (ts us : Entities ℕ) → AreAllNear ts us → length (all_listed f ts) ≡ length (all_listed f us)
    all_listed_long no_entity no_entity n = refl
    all_listed_long no_entity (an_entity u us) n = absurd n
    all_listed_long (an_entity t ts) no_entity n = absurd n
    all_listed_long (an_entity t ts) (an_entity u us) n =
        long_parts (listed f t) (all_listed f ts) (listed f u) (all_listed f us) (listed_long t u n.0)
        (all_listed_long ts us n.1)

module _ (f p : EntityHead ℕ → List ℕ) (long : (h g : EntityHead ℕ) → AreNearHeads h g → length (f h) ≡ length (f g))
    (long_too : (h g : EntityHead ℕ) → AreNearHeads h g → length (p h) ≡ length (p g))
    (both : (h g : EntityHead ℕ) (n m : ℕ) → AreNearHeads h g → Both (f h) (f g) n m → Both (p h) (p g) n m) where
  mutual
    -- what is listed at one place of two texts has one place in the longer lists
    both_listed : (t u : Entity ℕ) (n m : ℕ) → AreNear t u → Both (listed f t) (listed f u) n m
        → Both (listed p t) (listed p u) n m
    both_listed (entity h ts) (entity g us) n m near b =
        ⊎_elim (λ first. both_left (p h) (p g) (all_listed p ts) (all_listed p us) n m (both h g n m near.0 first))
        (λ rest. both_right (p h) (p g) (all_listed p ts) (all_listed p us) n m (long_too h g near.0)
        (all_both_listed ts us n m near.1 rest))
        (both_parts (f h) (f g) (all_listed f ts) (all_listed f us) n m (long h g near.0) b)

    -- the same of lists of them
    all_both_listed : (ts us : Entities ℕ) (n m : ℕ) → AreAllNear ts us → Both (all_listed f ts) (all_listed f us) n m
        → Both (all_listed p ts) (all_listed p us) n m
    all_both_listed no_entity no_entity n m near b = absurd b
    all_both_listed no_entity (an_entity u us) n m near b = absurd near
    all_both_listed (an_entity t ts) no_entity n m near b = absurd near
    all_both_listed (an_entity t ts) (an_entity u us) n m near b =
        ⊎_elim (λ first. both_left (listed p t) (listed p u) (all_listed p ts) (all_listed p us) n m
        (both_listed t u n m near.0 first))
        (λ rest. both_right (listed p t) (listed p u) (all_listed p ts) (all_listed p us) n m
        (listed_long p long_too t u near.0) (all_both_listed ts us n m near.1 rest))
        (both_parts (listed f t) (listed f u) (all_listed f ts) (all_listed f us) n m (listed_long f long t u near.0) b)

-- such texts have as many numbers of values, and of blocks
pub numbers_long : (t u : Entity ℕ) → AreNear t u → length (numbers_of t) ≡ length (numbers_of u)
numbers_long t u n = listed_long head_numbers numbered_long t u n

pub blocks_named_long : (t u : Entity ℕ) → AreNear t u → length (blocks_named t) ≡ length (blocks_named u)
blocks_named_long t u n = listed_long head_blocks blocks_long t u n

-- such texts define as many values, and have as many blocks
pub definitions_long : (t u : Entity ℕ) → AreNear t u → length (definitions_of t) ≡ length (definitions_of u)
definitions_long t u n =
    ap length (definitions_listed t) ∙ listed_long head_defines defined_long t u n ∙ sym (ap length (definitions_listed u))

pub blocks_of_long : (t u : Entity ℕ) → AreNear t u → length (blocks_of t) ≡ length (blocks_of u)
blocks_of_long t u n =
    ap length (blocks_listed t) ∙ listed_long named_in named_long t u n ∙ sym (ap length (blocks_listed u))

-- what two texts define at one place has one place among their numbers, and what two blocks are named at one place
pub both_defined : (t u : Entity ℕ) (n m : ℕ) → AreNear t u → Both (definitions_of t) (definitions_of u) n m
    → Both (numbers_of t) (numbers_of u) n m
both_defined t u n m near b =
    both_listed head_defines head_numbers defined_long numbered_long head_both t u n m near
    (subst (λ (ns : List ℕ). Both ns (listed head_defines u) n m) (definitions_listed t)
    (subst (λ (ns : List ℕ). Both (definitions_of t) ns n m) (definitions_listed u) b))

pub both_named : (t u : Entity ℕ) (n m : ℕ) → AreNear t u → Both (blocks_of t) (blocks_of u) n m
    → Both (blocks_named t) (blocks_named u) n m
both_named t u n m near b =
    both_listed named_in head_blocks named_long blocks_long named_both t u n m near
    (subst (λ (ns : List ℕ). Both ns (listed named_in u) n m) (blocks_listed t)
    (subst (λ (ns : List ℕ). Both (blocks_of t) ns n m) (blocks_listed u) b))

mutual
  -- texts of the same numbers are the same but for labels
  pub rebuilt : (t u : Entity ℕ) → AreNear t u → numbers_of t ≡ numbers_of u → blocks_named t ≡ blocks_named u
      → unlabelled t ≡ unlabelled u
  rebuilt (entity h ts) (entity g us) n e b =
      let parts = split_same (head_numbers h) (head_numbers g) (all_numbers ts) (all_numbers us)
      (numbered_long h g n.0) e in
      let blocks = split_same (head_blocks h) (head_blocks g) (all_blocks_named ts) (all_blocks_named us)
      (blocks_long h g n.0) b in
      let head = head_rebuilt h g n.0 parts.0 blocks.0 in
      let rest = all_rebuilt ts us n.1 parts.1 blocks.1 in λ i. entity (head i) (rest i)

  -- the same of lists of them
  all_rebuilt : (ts us : Entities ℕ) → AreAllNear ts us → all_numbers ts ≡ all_numbers us
      → all_blocks_named ts ≡ all_blocks_named us → all_unlabelled ts ≡ all_unlabelled us
  all_rebuilt no_entity no_entity n e b = refl
  all_rebuilt no_entity (an_entity u us) n e b = absurd n
  all_rebuilt (an_entity t ts) no_entity n e b = absurd n
  all_rebuilt (an_entity t ts) (an_entity u us) n e b =
      let parts = split_same (numbers_of t) (numbers_of u) (all_numbers ts) (all_numbers us)
      (numbers_long t u n.0) e in
      let blocks = split_same (blocks_named t) (blocks_named u) (all_blocks_named ts) (all_blocks_named us)
      (blocks_named_long t u n.0) b in
      let first = rebuilt t u n.0 parts.0 blocks.0 in
      let rest = all_rebuilt ts us n.1 parts.1 blocks.1 in λ i. an_entity (first i) (rest i)
