-- What mentioning a name makes.
use Rattle.std.specs.Prelude.{ℕ, ◌≡◌, ◌⊎◌, List, Result, Ok, Err, MatchResult, MatchOption}
use Rattle.std.specs.Borrow.{MutBor}
use Rattle.std.specs.Fn.{Once, FnOnceReturnsAtMut}
use Rattle.ir_base.specs.declared.growth.GrowError.{GrowError}
use Rattle.ir_base.specs.declared.growth.GrowError.TheVariants.{Memory}
use Rattle.parsed_names.specs.declared.names.Known.TheVariants.{Awaited}
use Rattle.parsed_names.specs.Names.{Names, known_of, knowing, value_of}

-- what makes something that stands in for a value, of a context
abbrev pub Maker : (F C V : Type 0) → Type 1
Maker F C V = Once F (MutBor C × Unit {0}) (Result V GrowError × (MutBor C × Unit {0}))

module _ {F C V : Type 0} (maker : Maker F C V) (make : F) where
  -- A name of which something is known is answered by that, and nothing changes.
  pub record MentionsKnown (value : V) (old_names names : Names V) (old new : C) (result : Result V GrowError) : Type 0 where
    pub answer : result ≡ Ok value
    pub kept : names ≡ old_names
    pub context : new ≡ old

  -- Something was made that stands in for the value of a name from here on, or it wasn't: then the names are as they were.
  abbrev pub MentionsFirst : List ℕ → (old_names names : Names V) → (old new : C) → Result V GrowError → Type 0
  MentionsFirst name old_names names old new result = MatchResult result
      (λ value. (names ≡ knowing old_names name (Awaited value)) × FnOnceReturnsAtMut maker make old (Ok value) new)
      (λ error. (names ≡ old_names) × (FnOnceReturnsAtMut maker make old (Err error) new
      ⊎ ((error ≡ Memory) × (value : V) × FnOnceReturnsAtMut maker make old (Ok value) new)))

  -- what mentioning a name answers and changes, by what is known of it
  abbrev pub Mentions : List ℕ → (old_names names : Names V) → (old new : C) → Result V GrowError → Type 0
  Mentions name old_names names old new result = MatchOption (known_of old_names name)
      (MentionsFirst name old_names names old new result)
      (λ known. MentionsKnown (value_of known) old_names names old new result)
