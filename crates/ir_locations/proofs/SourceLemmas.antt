-- Lemmas on the sources that a location mentions, and on distinct members of lists.
use Rattle.std.proofs.Common.{◌≡◌, ◌∙◌, refl, sym, ap, Bool, true, false, List, [], ◌∷◌, ◌++◌, Option, None, Some, map, Global, Vec, Box, Bor}
use Rattle.std.specs.Prelude.{◌||◌, if◌then◌else◌}
use Rattle.std.specs.List.{list_any}
use Rattle.indexmap.specs.IndexSet.{insert_key, insert_all}
use Rattle.ir_locations.specs.declared.source.Source.{Source}
use Rattle.ir_locations.specs.declared.location.Location.{Location}
use Rattle.ir_locations.specs.declared.location.Location.TheViews as views
use Rattle.ir_locations.specs.declared.location.Location.TheOpen.{Fused, CallSite}
use Rattle.ir_locations.specs.declared.location.Location.TheFolds.{fold-roll-Location}
use Rattle.ir_locations.specs.declared.location.Location.TheVariants.{rolls-Fused, rolls-CallSite}
use Rattle.ir_locations.specs.Sources.{mentions_step, mentions, mentions_of_all, distinct, only, Found, nothing, one, several, see, see_all}

pub mentions_fused : {A : Type 0} (metadata : Option A) (locations : Vec (Location A) Global) →
    mentions (views.Fused metadata locations) ≡ mentions_of_all locations.items
mentions_fused {A} m v = ap mentions (sym (rolls-Fused m v)) ∙ fold-roll-Location A (List Source) mentions_step (Fused m v)

pub mentions_call_site : {A : Type 0} (callee caller : Box (Location A) Global) →
    mentions (views.CallSite callee caller) ≡ mentions callee.value ++ mentions caller.value
mentions_call_site {A} x y = ap mentions (sym (rolls-CallSite x y)) ∙ fold-roll-Location A (List Source) mentions_step (CallSite x y)

-- ---- distinct members

-- how many were met, of the distinct members so far
abbrev pub met : List Source → Found
met [] = nothing
met (x ∷ []) = one x
met (x ∷ y ∷ xs) = several

met-insert_key : (same : Source → Source → Bool) (ks : List Source) (k : Source) → met (insert_key same ks k) ≡ see same (met ks) k
met-insert_key same [] k = refl
met-insert_key same (x ∷ []) k = elim (same k x) as (λ b. met (if b || false then x ∷ [] else x ∷ k ∷ []) ≡ (if b then one x else several)) [ true ↦ refl | false ↦ refl ]
met-insert_key same (x ∷ y ∷ xs) k =
    elim (list_any (same k) (x ∷ y ∷ xs)) as (λ b. met (if b then x ∷ y ∷ xs else (x ∷ y ∷ xs) ++ k ∷ []) ≡ several) [ true ↦ refl | false ↦ refl ]

-- seeing the members one after the other tells how many distinct ones there are
pub see_all-met : (same : Source → Source → Bool) (ks xs : List Source) → see_all same (met ks) xs ≡ met (insert_all same ks xs)
see_all-met same ks [] = refl
see_all-met same ks (x ∷ xs) =
    ap (λ found. see_all same found xs) (sym (met-insert_key same ks x)) ∙ see_all-met same (insert_key same ks x) xs

-- a list of references to members is a list of members
list_any-shown : {X : Type 0} (test : X → Bool) (ks : List (Bor X)) → list_any (λ k. test k.now) ks ≡ list_any test (map (λ k. k.now) ks)
list_any-shown test [] = refl
list_any-shown test (k ∷ ks) = ap (λ b. test k.now || b) (list_any-shown test ks)

map-append : {X : Type 0} (ks : List (Bor X)) (k : Bor X) → map (λ k. k.now) (ks ++ k ∷ []) ≡ map (λ k. k.now) ks ++ k.now ∷ []
map-append [] k = refl
map-append (x ∷ ks) k = ap (λ ks. x.now ∷ ks) (map-append ks k)

map-chosen : {X : Type 0} (b : Bool) (ks : List (Bor X)) (k : Bor X) →
    map (λ k. k.now) (if b then ks else ks ++ k ∷ []) ≡ (if b then map (λ k. k.now) ks else map (λ k. k.now) ks ++ k.now ∷ [])
map-chosen true ks k = refl
map-chosen false ks k = map-append ks k

pub map-insert_key : {X : Type 0} (same : X → X → Bool) (ks : List (Bor X)) (k : Bor X) →
    map (λ k. k.now) (insert_key (λ x y. same x.now y.now) ks k) ≡ insert_key same (map (λ k. k.now) ks) k.now
map-insert_key same ks k =
    map-chosen (list_any (λ x. same k.now x.now) ks) ks k
    ∙ ap (λ b. if b then map (λ k. k.now) ks else map (λ k. k.now) ks ++ k.now ∷ []) (list_any-shown (same k.now) ks)

-- ---- one distinct member

-- the source that was found, where it is one
abbrev pub taken : Found → Option Source
taken nothing = None
taken (one source) = Some source
taken several = None

only-taken : (sources : List Source) → only sources ≡ taken (met sources)
only-taken [] = refl
only-taken (x ∷ []) = refl
only-taken (x ∷ y ∷ xs) = refl

pub only_distinct : (same : Source → Source → Bool) (xs : List Source) → only (distinct same xs) ≡ taken (see_all same nothing xs)
only_distinct same xs = only-taken (distinct same xs) ∙ ap taken (sym (see_all-met same [] xs))
