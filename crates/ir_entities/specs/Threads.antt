-- How the uses of definitions are kept. No public clause cites this module.
use Rattle.std.specs.Prelude.{◌≡◌, ℕ, ◌<◌, true, cond, List, [], ◌∷◌, map, length, Option, Some, None, IsSome, suc, slice_index_or}
use Rattle.ir_entities.specs.Links.{has, list_at, AreApart, IsLinked}
use Rattle.ir_entities.specs.Uses.{PlaceOfUse}
use Rattle.ir_entities.specs.declared.uses.Spot.{Spot}
use Rattle.ir_entities.specs.declared.uses.Defined.{Defined}

-- the first list, counted from k, that the place stands in
abbrev pub thread_from : ℕ → List (List ℕ) → ℕ → Option ℕ
thread_from k [] p = None
thread_from k (l ∷ ls) p = cond (has p l) (Some k) (thread_from (suc k) ls p)

-- the definition in whose thread the place stands
abbrev pub thread_of : List (List ℕ) → ℕ → Option ℕ
thread_of ls p = thread_from 0 ls p

-- the place that stands in this thread and at this spot
abbrev pub place_in : Option ℕ → Option Spot → Option PlaceOfUse
place_in None s = None
place_in (Some d) None = None
place_in (Some d) (Some s) = Some (record { definition = d; user = s.user; index = s.index })

-- the places at these spots, from number k on
abbrev pub places_from : ℕ → List (List ℕ) → List (Option Spot) → List (Option PlaceOfUse)
places_from k ls [] = []
places_from k ls (s ∷ ss) = place_in (thread_of ls k) s ∷ places_from (suc k) ls ss

-- the threads of the definitions, from number k on
abbrev pub threads_from : {X : Type 0} → ℕ → List (List ℕ) → List X → List (List ℕ)
threads_from k ls [] = []
threads_from k ls (d ∷ ds) = list_at ls k ∷ threads_from (suc k) ls ds

module _ {K : Type 0} where
  abbrev pub key_in : Option (Defined K) → Option K
  key_in None = None
  key_in (Some x) = Some x.key

  -- the same definition, with so many uses
  abbrev pub counted : ℕ → Option (Defined K) → Option (Defined K)
  counted n None = None
  counted n (Some x) = Some (record x { uses = n })

  abbrev pub definition_at : List (Option (Defined K)) → ℕ → Option (Defined K)
  definition_at ds d = slice_index_or ds d None

  -- the keys of the definitions
  abbrev pub keys_of : List (Option (Defined K)) → List (Option K)
  keys_of ds = map key_in ds

  -- the definitions in use have threads, and know how long these are
  pub record AreThreads (ds : List (Option (Defined K))) (ls : List (List ℕ)) : Type 0 where
    pub apart : AreApart ls
    pub known : (d : ℕ) → IsSome (definition_at ds d) → d < length ls
    pub counts : (d : ℕ) (x : Defined K) → definition_at ds d ≡ Some x → x.uses ≡ length (list_at ls d)
    pub defined : (p d : ℕ) → has p (list_at ls d) ≡ true → IsSome (definition_at ds d)

-- what stands in a thread are the places in use
pub record ThreadsHoldPlaces (ss : List (Option Spot)) (ls : List (List ℕ)) : Type 0 where
  pub placed : (p d : ℕ) → has p (list_at ls d) ≡ true → IsSome (slice_index_or ss p None)
  pub linked : (p : ℕ) → IsSome (slice_index_or ss p None) → IsLinked ls p
