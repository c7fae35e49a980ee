use Rattle.std.specs.Prelude.{◌≡◌, ℕ, ◌<◌, Bool, true, false, cond, ◌||◌, eqb, List, [], ◌∷◌, length, Option, Some, None, slice_set, slice_index_or, reverse, ⊤}
use Rattle.ir_entities.specs.declared.siblings.Node.{Node}
use Rattle.ir_entities.specs.declared.siblings.Ends.{Ends}
use Rattle.ir_entities.specs.declared.siblings.Span.{Span}

abbrev pub unlinked : Node
unlinked = record { parent = None; prev = None; next = None }

abbrev pub no_ends : Ends
no_ends = record { head = None; tail = None }

abbrev pub node_at : List Node → ℕ → Node
node_at ns x = slice_index_or ns x unlinked

abbrev pub ends_at : List Ends → ℕ → Ends
ends_at es c = slice_index_or es c no_ends

-- the writes of the four links
abbrev pub with_next : List Node → Option ℕ → Option ℕ → List Node
with_next ns None to = ns
with_next ns (Some x) to = slice_set ns x (record (node_at ns x) { next = to })

abbrev pub with_prev : List Node → Option ℕ → Option ℕ → List Node
with_prev ns None to = ns
with_prev ns (Some x) to = slice_set ns x (record (node_at ns x) { prev = to })

abbrev pub with_head : List Ends → ℕ → Option ℕ → Option ℕ → List Ends
with_head es c None to = slice_set es c (record (ends_at es c) { head = to })
with_head es c (Some x) to = es

abbrev pub with_tail : List Ends → ℕ → Option ℕ → Option ℕ → List Ends
with_tail es c None to = slice_set es c (record (ends_at es c) { tail = to })
with_tail es c (Some x) to = es

-- the first of the list, or what follows it
abbrev pub first_or : Option ℕ → List ℕ → Option ℕ
first_or e [] = e
first_or e (x ∷ xs) = Some x

-- the last of the list, or what comes before it
abbrev pub last_or : Option ℕ → List ℕ → Option ℕ
last_or p [] = p
last_or p (x ∷ xs) = last_or (Some x) xs

abbrev pub has : ℕ → List ℕ → Bool
has y [] = false
has y (x ∷ xs) = eqb y x || has y xs

-- no number stands twice
abbrev pub AreDistinctNumbers : List ℕ → Type 0
AreDistinctNumbers [] = ⊤
AreDistinctNumbers (x ∷ xs) = (has x xs ≡ false) × AreDistinctNumbers xs

-- the nodes xs stand in list c one after the other, between p and e
abbrev pub IsSegment : (ℕ → Node) → ℕ → Option ℕ → List ℕ → Option ℕ → Type 0
IsSegment at c p [] e = ⊤
IsSegment at c p (x ∷ xs) e = (at x ≡ record { parent = Some c; prev = p; next = first_or e xs }) × IsSegment at c (Some x) xs e

-- xs is list c
pub record IsList (at : ℕ → Node) (ends : Ends) (c : ℕ) (xs : List ℕ) : Type 0 where
  pub head : ends.head ≡ first_or None xs
  pub tail : ends.tail ≡ last_or None xs
  pub chain : IsSegment at c None xs None
  pub distinct : AreDistinctNumbers xs

abbrev pub list_at : List (List ℕ) → ℕ → List ℕ
list_at lists c = slice_index_or lists c []

-- these are the lists, and no node stands elsewhere
pub record AreLists (at : ℕ → Node) (es : List Ends) (lists : List (List ℕ)) : Type 0 where
  pub count : length lists ≡ length es
  pub each : (c : ℕ) → c < length lists → IsList at (ends_at es c) c (list_at lists c)
  pub owned : (x c : ℕ) → (at x).parent ≡ Some c → has x (list_at lists c) ≡ true

abbrev pub with_node : List Node → ℕ → Node → List Node
with_node ns x n = slice_set ns x n

-- x stands right after m, where m stands
abbrev pub put_after : ℕ → ℕ → List ℕ → List ℕ
put_after m x [] = []
put_after m x (y ∷ ys) = cond (eqb m y) (y ∷ x ∷ ys) (y ∷ put_after m x ys)

-- x stands right before m, where m stands
abbrev pub put_before : ℕ → ℕ → List ℕ → List ℕ
put_before m x [] = []
put_before m x (y ∷ ys) = cond (eqb m y) (x ∷ y ∷ ys) (y ∷ put_before m x ys)

abbrev pub without : ℕ → List ℕ → List ℕ
without x [] = []
without x (y ∷ ys) = cond (eqb x y) ys (y ∷ without x ys)

-- what stands after x, and what before it
abbrev pub next_in : ℕ → List ℕ → Option ℕ
next_in x [] = None
next_in x (y ∷ ys) = cond (eqb x y) (first_or None ys) (next_in x ys)

abbrev pub prev_from : Option ℕ → ℕ → List ℕ → Option ℕ
prev_from p x [] = None
prev_from p x (y ∷ ys) = cond (eqb x y) p (prev_from (Some y) x ys)

abbrev pub prev_in : ℕ → List ℕ → Option ℕ
prev_in = prev_from None

abbrev pub IsLinked : List (List ℕ) → ℕ → Type 0
IsLinked ls x = (c : ℕ) × (has x (list_at ls c) ≡ true)

abbrev pub IsUnlinked : List (List ℕ) → ℕ → Type 0
IsUnlinked ls x = (c : ℕ) → has x (list_at ls c) ≡ false

-- no node stands in two lists
abbrev pub AreApart : List (List ℕ) → Type 0
AreApart ls = (x c d : ℕ) → has x (list_at ls c) ≡ true → has x (list_at ls d) ≡ true → c ≡ d

abbrev pub drop_to : ℕ → List ℕ → List ℕ
drop_to i [] = []
drop_to i (y ∷ ys) = cond (eqb i y) (y ∷ ys) (drop_to i ys)

abbrev pub take_to : ℕ → List ℕ → List ℕ
take_to i [] = []
take_to i (y ∷ ys) = cond (eqb i y) (y ∷ []) (y ∷ take_to i ys)

-- the items from the one at `o` on
abbrev pub items_from : Option ℕ → List ℕ → List ℕ
items_from None xs = []
items_from (Some i) xs = drop_to i xs

-- the items back from the one at `o`
abbrev pub items_back : Option ℕ → List ℕ → List ℕ
items_back None xs = []
items_back (Some i) xs = reverse (take_to i xs)

-- o, if it is a node, is one of the list
abbrev pub IsWithin : List ℕ → Option ℕ → Type 0
IsWithin xs o = (i : ℕ) → o ≡ Some i → has i xs ≡ true

-- the items from the first of the span to its last
abbrev pub items_between : Option Span → List ℕ → List ℕ
items_between None xs = []
items_between (Some p) xs = take_to p.last (drop_to p.first xs)

-- both ends of the span, if there is one, are items of the list, and the last isn't before the first
abbrev pub IsSpan : List ℕ → Option Span → Type 0
IsSpan xs o = (p : Span) → o ≡ Some p → has p.last (drop_to p.first xs) ≡ true
