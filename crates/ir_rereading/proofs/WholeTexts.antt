-- Whole texts that are read alike are read as the same: at the end of one no member of a list and no choice has just begun.
use Rattle.std.proofs.Common.{◌≡◌, ℕ, true, false, List, [], ◌∷◌, ◌++◌, refl, sym, subst, ap, ◌∙◌, append-nil}
use Rattle.ir_grammar.specs.declared.grammar.Action.{Action}
use Rattle.ir_grammar.specs.declared.grammar.Action.TheVariants.{BeginItem, BeginChoice}
use Rattle.ir_grammar.specs.declared.grammar.Event.{Event}
use Rattle.ir_grammar.specs.declared.grammar.Event.TheVariants.{Took, Did}
use Rattle.ir_grammar.specs.Nesting.{Position, at_root, at_end, in_operation, in_value, in_list, in_item, in_choice}
use Rattle.ir_grammar.specs.Nesting.{Move, goes_to, goes_in, goes_out, nowhere, move, NestsBy}
use Rattle.ir_grammar.specs.Reading.{begins_member, OnlyBegins, IsMostly, AreMostlyAlike}
use Rattle.ir_forest.specs.Progress.{Leads}

-- from a position on, the events lead to the end of a text
abbrev Ends : Position → List Position → List Event → Type 0
Ends here around es = Leads here around es at_end []

abbrev EndsBy : Move → List Position → List Event → Type 0
EndsBy m around es = NestsBy m around (λ next more. Ends next more es)

-- Where a member or a choice has just begun nothing but a choice may begin without a token.
none_inside : (a : Action) (around : List Position) (es : List Event) → begins_member a ≡ true →
    ((around : List Position) → Ends in_choice around es → ⊥) → EndsBy (move in_item a) around es → ⊥
none_inside BeginItem around es e more h = absurd h
none_inside (BeginChoice n) around es e more h = more (in_item ∷ around) h
none_inside _ around es e more h = let wrong : false ≡ true = e in cc

none_chosen : (a : Action) (around : List Position) (es : List Event) → begins_member a ≡ true →
    ((around : List Position) → Ends in_choice around es → ⊥) → EndsBy (move in_choice a) around es → ⊥
none_chosen BeginItem around es e more h = absurd h
none_chosen (BeginChoice n) around es e more h = more (in_choice ∷ around) h
none_chosen _ around es e more h = let wrong : false ≡ true = e in cc

-- a choice that has just begun isn't the end
not_chosen : (es : List Event) (around : List Position) → OnlyBegins es → Ends in_choice around es → ⊥
not_chosen [] around only h = let wrong : in_choice ≡ at_end = h.0 in cc
not_chosen (Took ∷ es) around only h = absurd only
not_chosen (Did a ∷ es) around only h = none_chosen a around es only.0 (λ more. not_chosen es more only.1) h

-- nor is a member
not_inside : (es : List Event) (around : List Position) → OnlyBegins es → Ends in_item around es → ⊥
not_inside [] around only h = let wrong : in_item ≡ at_end = h.0 in cc
not_inside (Took ∷ es) around only h = absurd only
not_inside (Did a ∷ es) around only h = none_inside a around es only.0 (λ more. not_chosen es more only.1) h

item_begun : (here : Position) (around : List Position) (es : List Event) → OnlyBegins es →
    EndsBy (move here BeginItem) around es → ⊥
item_begun in_list around es only h = not_inside es (in_list ∷ around) only h
item_begun _ around es only h = absurd h

choice_begun : (n : ℕ) (here : Position) (around : List Position) (es : List Event) → OnlyBegins es →
    EndsBy (move here (BeginChoice n)) around es → ⊥
choice_begun n in_operation around es only h = not_chosen es (in_operation ∷ around) only h
choice_begun n (in_value sort) around es only h = not_chosen es (in_value sort ∷ around) only h
choice_begun n in_item around es only h = not_chosen es (in_item ∷ around) only h
choice_begun n in_choice around es only h = not_chosen es (in_choice ∷ around) only h
choice_begun n _ around es only h = absurd h

none_begun : (a : Action) (here : Position) (around : List Position) (es : List Event) → begins_member a ≡ true →
    OnlyBegins es → EndsBy (move here a) around es → ⊥
none_begun BeginItem here around es e only h = item_begun here around es only h
none_begun (BeginChoice n) here around es e only h = choice_begun n here around es only h
none_begun _ here around es e only h = let wrong : false ≡ true = e in cc

-- So neither has begun at the end of a text.
none_at_end : (front begun : List Event) (here : Position) (around : List Position) → OnlyBegins begun →
    Ends here around (front ++ begun) → begun ≡ []
none_at_end [] [] here around only h = refl
none_at_end [] (Took ∷ begun) here around only h = absurd only
none_at_end [] (Did a ∷ begun) here around only h = absurd (none_begun a here around begun only.0 only.1 h)
none_at_end (Took ∷ front) begun here around only h = none_at_end front begun here around only h
none_at_end (Did a ∷ front) begun here around only h =
    go (move here a) around h (λ next more rest. none_at_end front begun next more only rest)
  where
    go : (m : Move) (ps : List Position) → EndsBy m ps (front ++ begun) →
        ((next : Position) (more : List Position) → Ends next more (front ++ begun) → begun ≡ []) → begun ≡ []
    go (goes_to next) ps h again = again next ps h
    go (goes_in inside next) ps h again = again inside (next ∷ ps) h
    go goes_out [] h again = absurd h
    go goes_out (next ∷ ps) h again = again next ps h
    go nowhere ps h again = absurd h

mostly_whole : (es front : List Event) → IsMostly es front → Ends at_root [] es → es ≡ front
mostly_whole es front m h =
    let none = none_at_end front m.0 at_root [] m.2 (subst (λ x. Ends at_root [] x) m.1 h) in
    m.1 ∙ (ap (λ x. front ++ x) none ∙ append-nil front)

pub alike_whole : (es fs : List Event) → AreMostlyAlike es fs → Leads at_root [] es at_end [] →
    Leads at_root [] fs at_end [] → es ≡ fs
alike_whole es fs a h k = mostly_whole es a.0 a.1 h ∙ sym (mostly_whole fs a.0 a.2 k)
