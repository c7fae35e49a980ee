-- Where actions nest and come behind their tokens, operations end one behind the other.
use Rattle.std.proofs.Common.{◌≡◌, ℕ, ◌+◌, ◌<◌, ◌≤◌, ◌⊎◌, inl, inr, Bool, true, false, List, [], ◌∷◌, ◌&&◌, ◌||◌, Some, None, arith, refl, sym, ◌∙◌, ap, subst}
use Rattle.std.specs.Prelude.{◌==◌, not, if◌then◌else◌}
use Rattle.std.specs.Bool.{MatchBool}
use Rattle.std.proofs.lemmas.Bool.{and_parts, eqb-true, or_cases}
use Rattle.ir_print.specs.declared.format.ValueSort.TheVariants as sorts
use Rattle.ir_grammar.specs.declared.grammar.Action.{Action}
use Rattle.ir_grammar.specs.declared.grammar.Action.TheVariants.{Result, EndOperation, Begin, End}
use Rattle.ir_grammar.specs.declared.grammar.Event.{Event}
use Rattle.ir_grammar.specs.declared.grammar.Event.TheVariants.{Took, Did}
use Rattle.ir_grammar.specs.Nesting.{Position, at_root, behind_root_results, at_end, in_operation, in_operands, in_successor, in_region, in_header, in_argument, in_block, behind_results, in_value, in_list, in_item, in_choice, Move, goes_to, goes_in, goes_out, nowhere, move, has_own_token, FollowTokens, Nests, NestsBy}
use Rattle.mark_places.specs.Items.{with_end}
use Rattle.mark_places.specs.Operations.{AreRising, ends_operation, operation_ends, operation_ends_behind}

-- ---- positions

-- A token is taken since the last operation ended: an operation is begun whose regions are closed, or a header of a block.
abbrev is_inner : Position → Bool
is_inner in_operation = true
is_inner in_operands = true
is_inner in_successor = true
is_inner in_header = true
is_inner in_argument = true
is_inner (in_value sort) = true
is_inner in_list = true
is_inner in_item = true
is_inner in_choice = true
is_inner _ = false

-- what positions are of: the root, blocks, regions, operations, values
abbrev class : Position → ℕ
class at_root = 0
class behind_root_results = 0
class at_end = 0
class in_header = 1
class in_argument = 1
class in_block = 1
class behind_results = 1
class in_region = 2
class in_operation = 3
class _ = 4

-- what may be around a position of a class
abbrev leads : ℕ → Position → Bool
leads n x = (if n == 1 then class x == 2 else (if n == 2 then class x == 3 else (if n == 3 then not (is_inner x) else (if n == 4 then is_inner x else false))))

-- each position may be around the one before it
abbrev Fits : Position → List Position → Type 0
Fits here [] = Unit {0}
Fits here (next ∷ rest) = (leads (class here) next ≡ true) × Fits next rest

-- a position behind which a token is taken, unless one was, needs an action with its own
abbrev is_taken : Position → Bool → Position → Bool
is_taken here own next = not (is_inner next) || (own || is_inner here)

abbrev fits : Position → Bool → Move → Bool
fits here own (goes_to next) = is_taken here own next && class here == class next
fits here own (goes_in inside next) = is_taken here own inside && (leads (class inside) next && class here == class next)
fits here own goes_out = own || (is_inner here || class here == 1)
fits here own nowhere = true

all_fit : (here : Position) (a : Action) → fits here (has_own_token a) (move here a) ≡ true
all_fit at_root Result = refl
all_fit at_root _ = refl
all_fit behind_root_results Result = refl
all_fit behind_root_results _ = refl
all_fit at_end Result = refl
all_fit at_end _ = refl
all_fit in_operation Result = refl
all_fit in_operation _ = refl
all_fit in_operands Result = refl
all_fit in_operands _ = refl
all_fit in_successor Result = refl
all_fit in_successor _ = refl
all_fit in_region Result = refl
all_fit in_region _ = refl
all_fit in_header Result = refl
all_fit in_header _ = refl
all_fit in_argument (Begin sorts.«Type» kind) = refl
all_fit in_argument (Begin sorts.Attribute kind) = refl
all_fit in_argument _ = refl
all_fit in_block Result = refl
all_fit in_block _ = refl
all_fit behind_results Result = refl
all_fit behind_results _ = refl
all_fit (in_value sorts.«Type») (End sorts.«Type») = refl
all_fit (in_value sorts.«Type») (End sorts.Attribute) = refl
all_fit (in_value sorts.«Type») _ = refl
all_fit (in_value sorts.Attribute) (End sorts.«Type») = refl
all_fit (in_value sorts.Attribute) (End sorts.Attribute) = refl
all_fit (in_value sorts.Attribute) _ = refl
all_fit in_list Result = refl
all_fit in_list _ = refl
all_fit in_item Result = refl
all_fit in_item _ = refl
all_fit in_choice Result = refl
all_fit in_choice _ = refl

-- an operation is ended in one
abbrev EndsIn : Position → Move → Type 0
EndsIn here goes_out = here ≡ in_operation
EndsIn here nowhere = Unit {0}
EndsIn here _ = ⊥

end_fits : (here : Position) → EndsIn here (move here EndOperation)
end_fits at_root = tt
end_fits behind_root_results = tt
end_fits at_end = tt
end_fits in_operation = refl
end_fits in_operands = tt
end_fits in_successor = tt
end_fits in_region = tt
end_fits in_header = tt
end_fits in_argument = tt
end_fits in_block = tt
end_fits behind_results = tt
end_fits (in_value sort) = tt
end_fits in_list = tt
end_fits in_item = tt
end_fits in_choice = tt

-- ---- one action

fits_same : (here next : Position) (around : List Position) → class here ≡ class next → Fits here around → Fits next around
fits_same here next [] same h = tt
fits_same here next (x ∷ rest) same h = (ap (λ (n : ℕ). leads n x) (sym same) ∙ h.0, h.1)

both_ways : (b : Bool) → b ≡ true → b ≡ false → ⊥
both_ways b holds fails = let t : true ≡ false = sym holds ∙ fails in cc

taken_if : (here next : Position) (own : Bool) → is_taken here own next ≡ true → is_inner next ≡ true → (own ≡ true) ⊎ (is_inner here ≡ true)
taken_if here next own h inner = elim (or_cases (not (is_inner next)) (own || is_inner here) h) [
  | inl outer ↦ absurd (let no : false ≡ true = sym (ap not inner) ∙ outer in cc)
  | inr more ↦ or_cases own (is_inner here) more
]

leads_in_block : (here x : Position) → class here ≡ 1 → leads (class here) x ≡ true → is_inner x ≡ false
leads_in_block here x one h = by x (sym (ap (λ (n : ℕ). leads n x) one) ∙ h)
  where
    by : (x : Position) → (class x == 2) ≡ true → is_inner x ≡ false
    by in_region e = refl
    by _ e = cc

-- what holds behind an action, at the position and with those around that it leads to
step : (m : Move) (here : Position) (around : List Position) (own : Bool) (Rest : Position → List Position → Type 0) (Goal : Type 0) → fits here own m ≡ true
    → Fits here around → NestsBy m around Rest
    → ((next : Position) (more : List Position) → Rest next more → Fits next more → (is_inner next ≡ true → (own ≡ true) ⊎ (is_inner here ≡ true)) → Goal) → Goal
step (goes_to next) here around own Rest Goal fit h nests goes_on =
    let parts = and_parts (is_taken here own next) (class here == class next) fit in
    goes_on next around nests (fits_same here next around (eqb-true (class here) (class next) parts.1) h) (taken_if here next own parts.0)
step (goes_in inside next) here around own Rest Goal fit h nests goes_on =
    let parts = and_parts (is_taken here own inside) (leads (class inside) next && class here == class next) fit in
    let others = and_parts (leads (class inside) next) (class here == class next) parts.1 in
    goes_on inside (next ∷ around) nests (others.0, fits_same here next around (eqb-true (class here) (class next) others.1) h) (taken_if here inside own parts.0)
step goes_out here [] own Rest Goal fit h nests goes_on = absurd nests
step goes_out here (next ∷ around) own Rest Goal fit h nests goes_on =
    goes_on next around nests h.1 (λ inner. elim (or_cases own (is_inner here || class here == 1) fit) [
      | inl is ↦ inl is
      | inr others ↦ elim (or_cases (is_inner here) (class here == 1) others) [
        | inl is ↦ inr is
        | inr block ↦ absurd (both_ways (is_inner next) inner (leads_in_block here next (eqb-true (class here) 1 block) h.0))
      ]
    ])
step nowhere here around own Rest Goal fit h nests goes_on = absurd nests

-- behind the end of an operation
step_end : (m : Move) (here : Position) (around : List Position) (Rest : Position → List Position → Type 0) (Goal : Type 0) → EndsIn here m → Fits here around → NestsBy m around Rest
    → ((next : Position) (more : List Position) → Rest next more → Fits next more → is_inner here ≡ true → is_inner next ≡ false → Goal) → Goal
step_end goes_out here [] Rest Goal ends h nests goes_on = absurd nests
step_end goes_out here (next ∷ around) Rest Goal ends h nests goes_on =
    let outer : not (is_inner next) ≡ true = sym (ap (λ (p : Position). leads (class p) next) ends) ∙ h.0 in
    goes_on next around nests h.1 (ap is_inner ends) (not_so (is_inner next) outer)
  where
    not_so : (b : Bool) → not b ≡ true → b ≡ false
    not_so true e = cc
    not_so false e = refl
step_end nowhere here around Rest Goal ends h nests goes_on = absurd nests
step_end (goes_to next) here around Rest Goal ends h nests goes_on = absurd ends
step_end (goes_in inside next) here around Rest Goal ends h nests goes_on = absurd ends

-- what an action has of its token
follow : (own fresh : Bool) (es : List Event) → MatchBool own ((fresh ≡ true) × FollowTokens false es) (FollowTokens false es) → FollowTokens false es × (own ≡ true → fresh ≡ true)
follow true fresh es h = (h.1, λ e. h.0)
follow false fresh es h = (h, λ e. cc)

is_end : (a : Action) → ends_operation a ≡ true → a ≡ EndOperation
is_end EndOperation e = refl
is_end _ e = cc

-- ---- all of them

rises : (es : List Event) (here : Position) (around : List Position) (fresh : Bool) (taken last : ℕ) → Nests here around es → FollowTokens fresh es → Fits here around
    → last ≤ taken → (fresh ≡ true → last < taken) → (is_inner here ≡ true → last < taken) → AreRising last (operation_ends_behind taken es)
rises [] here around fresh taken last nests follows fit le is_fresh inner = tt
rises (Took ∷ es) here around fresh taken last nests follows fit le is_fresh inner =
    rises es here around true (taken + 1) last nests follows fit (omega arith) (λ e. omega arith) (λ e. omega arith)
rises (Did a ∷ es) here around fresh taken last nests follows fit le is_fresh inner =
    let behind = follow (has_own_token a) fresh es follows in
    by (ends_operation a) refl
    (λ e. step_end (move here EndOperation) here around (λ next more. Nests next more es) _ (end_fits here) fit
    (subst (λ (b : Action). NestsBy (move here b) around (λ next more. Nests next more es)) (is_end a e) nests)
    (λ next more rest fits_next inside outer. (
      inner inside,
      rises es next more false taken taken rest behind.0 fits_next (omega arith) (λ e. cc) (λ e. absurd (both_ways (is_inner next) e outer)),
    )))
    (step (move here a) here around (has_own_token a) (λ next more. Nests next more es) _ (all_fit here a) fit nests
    (λ next more rest fits_next is_taken_.
    rises es next more false taken last rest behind.0 fits_next le (λ e. cc)
    (λ e. elim (is_taken_ e) [ inl own ↦ is_fresh (behind.1 own) | inr inside ↦ inner inside ])))
  where
    by : (b : Bool) → ends_operation a ≡ b → (ends_operation a ≡ true → (last < taken) × AreRising taken (operation_ends_behind taken es))
        → AreRising last (operation_ends_behind taken es)
        → AreRising last (with_end (if b then Some taken else None) (operation_ends_behind taken es))
    by true e ends others = ends e
    by false e ends others = others

pub rising : (es : List Event) → Nests at_root [] es → FollowTokens false es → AreRising 0 (operation_ends es)
rising es nests follows = rises es at_root [] false 0 0 nests follows tt (omega arith) (λ e. cc) (λ e. cc)
