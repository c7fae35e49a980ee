-- Operands and successors at the front of a text, by their names.
use Rattle.std.specs.Prelude.{ℕ, ◌≡◌, ◌==◌, ◌⊎◌, Bool, true, false, List, [], ◌∷◌, None, Some, Result, Ok, Err, MatchResult}
use Rattle.ir_base.specs.declared.growth.GrowError.{GrowError}
use Rattle.ir_base.specs.declared.growth.GrowError.TheVariants.{Memory as NoMemory, CounterFull as NoNumber}
use Rattle.text_streams.specs.declared.stream.StateStream.{StateStream}
use Rattle.text_streams.specs.declared.faults.ParseFault.{ParseFault}
use Rattle.text_streams.specs.declared.faults.TextError.{TextError}
use Rattle.text_streams.specs.declared.faults.TextError.TheVariants.{Memory, CounterFull, Syntax}
use Rattle.text_streams.specs.Positions.{left}
use Rattle.text_streams.specs.Spaces.{SkipsSpaces}
use Rattle.text_streams.specs.Streams.{Reads, StaysAtFault}
use Rattle.text_parsables.specs.Names.{name_text}
use Rattle.parsed_names.specs.Names.{Names}
use Rattle.parsed_names.specs.Mentions.{Maker, Mentions}

-- the fault that an error is
abbrev pub cause_of : GrowError → TextError
cause_of NoMemory = Memory
cause_of NoNumber = CounterFull

-- whether a text begins with a `^` (94)
abbrev pub begins_with_label : List ℕ → Bool
begins_with_label [] = false
begins_with_label (c ∷ cs) = c == 94

-- a `^` was read, and the white space behind it
pub record ReadsLabelSign {S : Type 0} (old new : StateStream S) : Type 0 where
  pub behind : StateStream S
  pub sign : Reads old behind (94 ∷ [])
  pub spaces : SkipsSpaces behind new

-- the names and the context are as they were
pub record KeepsNames {C V : Type 0} (old_names names : Names V) (before after : C) : Type 0 where
  pub same_names : names ≡ old_names
  pub same_context : after ≡ before

module _ {F C V S : Type 0} (maker : Maker F C V) (make : F) (old_names names : Names V) (before after : C) where
  -- A name was read, and mentioned: this is what it stands for.
  pub record ReadsMention (old new : StateStream S) (value : V) : Type 0 where
    pub name : List ℕ
    pub there : name_text (left old.position) ≡ Some (name, name)
    pub reads : Reads old new name
    pub mentions : Mentions maker make name old_names names before after (Ok value)

  -- the name that is there was mentioned, which was refused
  pub record IsRefusedMention (old : StateStream S) (cause : TextError) : Type 0 where
    pub name : List ℕ
    pub there : name_text (left old.position) ≡ Some (name, name)
    pub error : GrowError
    pub mentions : Mentions maker make name old_names names before after (Err error)
    pub is : cause ≡ cause_of error

  -- Nothing was read: there is no name, or memory was refused for it, or it was refused where it was mentioned.
  pub record RefusesMention (old new : StateStream S) (fault : ParseFault) : Type 0 where
    pub stays : StaysAtFault old new fault
    pub why : ((fault.cause ≡ Syntax) × (name_text (left old.position) ≡ None) × KeepsNames old_names names before after)
        ⊎ (((fault.cause ≡ Memory) × KeepsNames old_names names before after) ⊎ IsRefusedMention old fault.cause)

  -- what reading an operand answers
  abbrev pub ReadsOperand : StateStream S → StateStream S → Result V ParseFault → Type 0
  ReadsOperand old new result = MatchResult result (ReadsMention old new) (RefusesMention old new)

  -- a `^` was read, and the label behind it
  pub record ReadsLabelMention (old new : StateStream S) (value : V) : Type 0 where
    pub label : StateStream S
    pub sign : ReadsLabelSign old label
    pub mention : ReadsMention label new value

  -- a `^` was read, and the label behind it is refused, where it is
  pub record RefusesLabelMention (old : StateStream S) (fault : ParseFault) : Type 0 where
    pub label : StateStream S
    pub sign : ReadsLabelSign old label
    pub refused : ParseFault
    pub mention : RefusesMention label label refused
    pub handed_on : fault ≡ record refused { consumed = true }

  -- There is no `^`, and nothing changes.
  pub record HasNoLabel (old : StateStream S) (fault : ParseFault) : Type 0 where
    pub without : begins_with_label (left old.position) ≡ false
    pub cause : fault.cause ≡ Syntax
    pub here : StaysAtFault old old fault
    pub kept : KeepsNames old_names names before after

  -- what reading a successor answers; the stream stays where it was at a fault
  abbrev pub ReadsSuccessor : StateStream S → StateStream S → Result V ParseFault → Type 0
  ReadsSuccessor old new result = MatchResult result (ReadsLabelMention old new)
      (λ fault. (new ≡ old) × (HasNoLabel old fault ⊎ RefusesLabelMention old fault))
