-- What becomes of what is open while a text is assembled.
use Rattle.std.specs.Prelude.{◌≡◌, ℕ, List, [], ◌∷◌, ◌++◌}
use Rattle.ir_base.specs.declared.growth.GrowError.{GrowError}
use Rattle.ir_base.specs.declared.growth.GrowError.TheVariants as growth
use Rattle.ir_print.specs.declared.format.Part.{Part}
use Rattle.text_frames.specs.declared.opened.AssemblyFault.{AssemblyFault}
use Rattle.text_frames.specs.declared.opened.AssemblyFault.TheVariants.{Memory, CounterFull, Text}
use Rattle.text_frames.specs.declared.opened.Body.{Body}
use Rattle.text_frames.specs.declared.opened.Content.{Content}
use Rattle.text_frames.specs.declared.opened.Open.{Open}

-- the fault of the same name
abbrev pub of_growth : GrowError → AssemblyFault
of_growth growth.Memory = Memory
of_growth growth.CounterFull = CounterFull

-- it is no fault of the text
abbrev pub IsOfContext : AssemblyFault → Type 0
IsOfContext Memory = Unit {0}
IsOfContext CounterFull = Unit {0}
IsOfContext (Text f) = ⊥

module _ {D K A T : Type 0} where
  -- what begins at a token with this body, and nothing in it yet
  pub record IsFreshFrame (f : Open D K A T) (b : Body D K A T) (token : ℕ) : Type 0 where
    pub body : f.body ≡ b
    pub first : f.first ≡ token
    pub parts : f.content.value.parts.items ≡ []
    pub tokens : f.content.value.tokens.items ≡ []
    pub names : f.names.items ≡ []
    pub numbers : f.numbers.items ≡ []

  -- one more part stands behind the others, with these tokens
  pub record HasPart (c d : Content D K A T) (part : Part D K A T) (behind : List ℕ) : Type 0 where
    pub parts : d.parts.items ≡ c.parts.items ++ part ∷ []
    pub tokens : d.tokens.items ≡ c.tokens.items ++ behind

  -- One more part with these tokens stands behind the others in what is open, and no name of a result behind it. The body is this one
  -- now.
  pub record HasPut (f g : Open D K A T) (b : Body D K A T) (part : Part D K A T) (behind : List ℕ) : Type 0 where
    pub body : g.body ≡ b
    pub first : g.first ≡ f.first
    pub content : HasPart f.content.value g.content.value part behind
    pub names : g.names.items ≡ []
    pub numbers : g.numbers ≡ f.numbers

  -- The list that is open has this body now, and the tokens of one member more.
  pub record HasMember (f g : Open D K A T) (b : Body D K A T) (behind : List ℕ) : Type 0 where
    pub body : g.body ≡ b
    pub first : g.first ≡ f.first
    pub tokens : g.content.value.tokens.items ≡ f.content.value.tokens.items ++ behind
    pub names : g.names ≡ f.names
    pub numbers : g.numbers ≡ f.numbers

  -- one more name of a result stands behind the others
  pub record HasOneMoreName (f g : Open D K A T) (token : ℕ) : Type 0 where
    pub body : g.body ≡ f.body
    pub first : g.first ≡ f.first
    pub content : g.content ≡ f.content
    pub names : g.names.items ≡ f.names.items ++ token ∷ []

  -- the body is another one, and no name of a result stands behind what is in it
  pub record HasBody (f g : Open D K A T) (b : Body D K A T) : Type 0 where
    pub body : g.body ≡ b
    pub first : g.first ≡ f.first
    pub names : g.names.items ≡ []
