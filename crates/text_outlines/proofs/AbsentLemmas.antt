-- Where the word of the section isn't, no section begins.
use Rattle.std.proofs.Common.{◌≡◌, ◌∙◌, ◌++◌, true, false, Option, None, Some, sym, ap, inl, inr}
use Rattle.std.proofs.lemmas.List.{append_cancel_left}
use Rattle.ir_names.specs.Identifier.{text_of}
use Rattle.ir_names.specs.declared.identifier.Identifier.{Identifier}
use Rattle.text_parsables.specs.Names.{name_text}
use Rattle.text_streams.specs.declared.stream.StateStream.{StateStream}
use Rattle.text_streams.specs.declared.faults.ParseFault.{ParseFault}
use Rattle.text_streams.specs.declared.faults.TextError.TheVariants.{Memory, Syntax}
use Rattle.text_streams.specs.Positions.{left}
use Rattle.text_streams.specs.Quotes.{Said}
use Rattle.text_locations.specs.Locations.{At, Parser}
use Rattle.text_outlines.specs.Names.{is_dotted, ReadsName, IsDotted, ReadsWord, RefusesWord}
use Rattle.text_outlines.specs.Sections.{RefusesSection, HasNoSection}

same_said : (o : Option Said) (a b : Said) → o ≡ Some a → o ≡ Some b → a ≡ b
same_said o a b e k = cc

none_some : (o : Option Said) (a : Said) → o ≡ None → o ≡ Some a → ⊥
none_some o a e k = cc

-- two names that are here say the same
same_name : {S : Type 0} (old new behind : StateStream S) (name other : Identifier) → ReadsName old name new → ReadsName old other behind → text_of name ≡ text_of other
same_name old new behind name other h k =
    let same = same_said (name_text (left old.position)) h.said k.said h.there k.there in
    h.says ∙ (ap (λ (s : Said). s.0) same ∙ sym k.says)

-- a name that is here is no part of a dotted one
not_dotted : {S : Type 0} (old new : StateStream S) (name : Identifier) → ReadsName old name new → IsDotted old → ⊥
not_dotted old new name h k =
    let same = same_said (name_text (left old.position)) h.said k.said h.there k.there in
    let behind : left new.position ≡ left k.behind.position = append_cancel_left h.said.1 (left new.position) (left k.behind.position)
    (sym h.reads.behind.taken ∙ (k.reads.behind.taken ∙ ap (λ (s : Said). s.1 ++ left k.behind.position) (sym same))) in
    let no : false ≡ true = sym h.whole ∙ (ap is_dotted behind ∙ k.dotted) in cc

no_word : {S : Type 0} (old new : StateStream S) (fault : ParseFault) → RefusesWord old fault → fault.cause ≡ Syntax → ReadsWord old new → ⊥
no_word old new fault h e read = elim h [
  | inl name ↦ elim name [
    | inl memory ↦ (let wrong : Memory ≡ Syntax = sym memory ∙ e in cc)
    | inr other ↦ elim other.1 [
      | inl none ↦ none_some (name_text (left old.position)) read.1.said none read.1.there
      | inr dotted ↦ not_dotted old new read.0 read.1 dotted
    ]
  ]
  | inr other ↦ other.4 (same_name old other.2 new other.1 read.0 other.3 read.1 ∙ read.2)
]

-- a syntax fault before which nothing was read says that no section begins here
pub absent : {F S A : Type 0} (parser : Parser F S A) (v : At F S) (fault : ParseFault) → RefusesSection parser v fault → fault.cause ≡ Syntax → fault.consumed ≡ false
    → HasNoSection parser v.1
absent parser v fault h e fresh f section w read = elim h [
  | inl word ↦ no_word v.1 read.0 fault word e read.1
  | inr deep ↦ (let wrong : false ≡ true = sym fresh ∙ ap (λ (x : ParseFault). x.consumed) deep.3 in cc)
]
