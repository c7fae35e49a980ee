-- The places inside a place, in order: a place before what it holds, and what it holds from first to last.
use Rattle.std.specs.Prelude.{◌≡◌, ℕ, zero, suc, Bool, false, cond, ◌⊎◌, eqb, List, [], ◌∷◌, ◌++◌, length, map, Option, Some, None, ⊤}
use Rattle.ir_entities.specs.Links.{list_at}
use Rattle.ir_entities.specs.declared.forest.Place.{Place}
use Rattle.ir_entities.specs.declared.forest.Place.TheVariants.{Op, Block, Region}
use Rattle.ir_entities.specs.Shape.{Shape, IsIn}
use Rattle.ir_entities.specs.Forest.{Forest, shape_of}

-- both are the same place
abbrev pub same_place : Place → Place → Bool
same_place (Op i) (Op j) = eqb i j
same_place (Block i) (Block j) = eqb i j
same_place (Region i) (Region j) = eqb i j
same_place e d = false

-- what stands in a place, in order
abbrev pub children : Shape → Place → List Place
children s (Op i) = map Region (list_at s.in_ops i)
children s (Block i) = map Op (list_at s.in_blocks i)
children s (Region i) = map Block (list_at s.in_regions i)

-- the places es, each followed by all that stands in it, as far as n levels down
abbrev pub walk : ℕ → Shape → List Place → List Place
walk zero s es = []
walk (suc n) s [] = []
walk (suc n) s (e ∷ es) = e ∷ (walk n s (children s e) ++ walk (suc n) s es)

-- an operation, a region and a block for each operation that there can be
abbrev pub levels : ℕ → ℕ
levels zero = zero
levels (suc n) = suc (suc (suc (levels n)))

-- x and all that stands in it, in order: no tree has more levels than this
unfoldable pub walk_of : {O B R : Type 0} → Forest O B R → Place → List Place
walk_of f x = walk (suc (suc (levels (length f.ops)))) (shape_of f) (x ∷ [])

-- the place is one of these
abbrev pub IsOneOf : Place → List Place → Type 0
IsOneOf e [] = ⊥
IsOneOf e (x ∷ xs) = (e ≡ x) ⊎ IsOneOf e xs

-- no place comes twice
abbrev pub AreOnce : List Place → Type 0
AreOnce [] = ⊤
AreOnce (x ∷ xs) = (IsOneOf x xs → ⊥) × AreOnce xs

abbrev pub first_place : List Place → Option Place
first_place [] = None
first_place (x ∷ xs) = Some x

-- what comes right after e
abbrev pub place_after : Place → List Place → Option Place
place_after e [] = None
place_after e (x ∷ xs) = cond (same_place e x) (first_place xs) (place_after e xs)

-- e and all that comes after it
abbrev pub drop_to_place : Place → List Place → List Place
drop_to_place e [] = []
drop_to_place e (x ∷ xs) = cond (same_place e x) (x ∷ xs) (drop_to_place e xs)

-- the places from the one at `o` on
abbrev pub places_from : Option Place → List Place → List Place
places_from None xs = []
places_from (Some e) xs = drop_to_place e xs

-- the operations among the places
abbrev pub ops_among : List Place → List ℕ
ops_among [] = []
ops_among (Op i ∷ es) = i ∷ ops_among es
ops_among (Block i ∷ es) = ops_among es
ops_among (Region i ∷ es) = ops_among es

-- no place stands in two
abbrev pub StandInOne : Shape → Type 0
StandInOne s = (e d c : Place) → IsIn s e d → IsIn s e c → d ≡ c

-- the places es are followed, each, by all that stands in it: ys
pub data IsWalk (s : Shape) : List Place → List Place → Type 0 where
  nothing : IsWalk s [] []
  more : (e : Place) (es inner rest : List Place) → IsWalk s (children s e) inner → IsWalk s es rest → IsWalk s (e ∷ es) (e ∷ (inner ++ rest))

-- what comes after all that is inside e, in the walk of x: the later siblings of e, and then what comes after all that is inside its holder
pub data IsRest (s : Shape) (x : Place) : Place → List Place → Type 0 where
  ended : IsRest s x x []
  up : (e d : Place) (before later walked rest : List Place) → IsIn s e d → children s d ≡ before ++ e ∷ later → place_after e (children s d) ≡ first_place later → IsWalk s later walked → IsRest s x d rest → IsRest s x e (walked ++ rest)
