-- The sources that a location mentions.
use Rattle.std.specs.Prelude.{Bool, List, [], ◌∷◌, ◌++◌, Option, None, Some, map, fold, if◌then◌else◌}
use Rattle.std.specs.Borrow.{Bor}
use Rattle.indexmap.specs.IndexSet.{insert_all}
use Rattle.ir_locations.specs.declared.source.Source.{Source}
use Rattle.ir_locations.specs.declared.location.Location.{Location}
use Rattle.ir_locations.specs.declared.location.Location.TheOpen.{Location-F, SrcPos, Fused, Named, CallSite, Unknown}
use Rattle.ir_locations.specs.declared.location.Location.TheFolds.{fold-Location}
use Rattle.ir_locations.specs.declared.found.FoundSource.{FoundSource}
use Rattle.ir_locations.specs.declared.found.FoundSource.TheVariants.{Nowhere, One, Several}

-- the members of lists, one list after the other
abbrev pub concatenated : {X : Type 0} → List (List X) → List X
concatenated [] = []
concatenated (xs ∷ xss) = xs ++ concatenated xss

-- one location, with the sources that each location in it mentions in its place
abbrev pub mentions_step : {A : Type 0} → Location-F A (List Source) → List Source
mentions_step (SrcPos source line column) = source ∷ []
mentions_step (Fused metadata locations) = concatenated locations.items
mentions_step (Named name child) = child.value
mentions_step (CallSite callee caller) = callee.value ++ caller.value
mentions_step Unknown = []

-- the sources that a location mentions, in order, each as often as it is mentioned
abbrev pub mentions : {A : Type 0} → Location A → List Source
mentions {A} = fold-Location A (List Source) mentions_step

-- the sources that locations mention, one location after the other
abbrev pub mentions_of_all : {A : Type 0} → List (Location A) → List Source
mentions_of_all locations = concatenated (map mentions locations)

-- the sources that are lent
abbrev pub lent : List (Bor Source) → List Source
lent sources = map (λ s. s.now) sources

-- the members of a list that differ, in the order in which each is there first
abbrev pub distinct : {X : Type 0} → (X → X → Bool) → List X → List X
distinct same xs = insert_all same [] xs

-- the member of a list that has one, and none of others
abbrev pub only : {X : Type 0} → List X → Option X
only [] = None
only (x ∷ []) = Some x
only (x ∷ y ∷ xs) = None

-- ---- how many distinct sources were met

-- no source, one, or several
pub data Found : Type 0 where
  nothing : Found
  one : Source → Found
  several : Found

abbrev pub found_in : FoundSource → Found
found_in Nowhere = nothing
found_in (One source) = one source.now
found_in Several = several

-- that with one more source
abbrev pub see : (Source → Source → Bool) → Found → Source → Found
see same nothing source = one source
see same (one first) source = if same source first then one first else several
see same several source = several

-- that with more sources
abbrev pub see_all : (Source → Source → Bool) → Found → List Source → Found
see_all same found sources = fold (see same) found sources
